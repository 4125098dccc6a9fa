-- Text as bytes, and what a function leaves that puts it.
use Rattle.std.specs.Prelude.{Bool, true, false, cond, not, ◌&&◌, ◌||◌, List, [], ◌∷◌, ◌++◌, ℕ, zero, suc, ◌+◌, ◌/◌, ◌%◌, eqb, ltb, length, get_or}
use Prim.Native.Char.{code}
use Prim.Native.String.{String, [] as none, ◌∷◌ as ◌then◌}
use Rattle.bits.specs.Masks.{has}

-- the bytes of a quoted text
unfoldable pub text : String → List ℕ
text none = []
text (c then s) = code c ∷ text s

-- ---- numbers
-- n in decimal, in as few digits as it has and at most `most` of them
unfoldable pub digits_by : ℕ → ℕ → List ℕ
digits_by zero n = []
digits_by (suc most) n = cond (ltb n 10) ((48 + n) ∷ []) (digits_by most (n / 10) ++ ((48 + n % 10) ∷ []))

-- "Numbers are decimal": no number here has more than ten digits
unfoldable pub decimal : ℕ → List ℕ
decimal n = digits_by 10 n

-- ---- patterns
-- a pattern has gaps: `#` for a number, and `@` for one that may be nil
abbrev pub is_gap : ℕ → Bool
is_gap b = eqb b (code "#") || eqb b (code "@")

-- "255 is "nil" wherever a station may be missing"
abbrev pub nil : ℕ
nil = 255

abbrev pub is_nil : ℕ → ℕ → Bool
is_nil b n = eqb b (code "@") && eqb n nil

-- "`-` is nil or none": nil, in a gap where it may stand
unfoldable pub in_gap : ℕ → ℕ → List ℕ
in_gap b n = cond (is_nil b n) (text "-") (decimal n)

-- a pattern with its gaps filled by the numbers in turn, as long as there are any
unfoldable pub filled : List ℕ → List ℕ → List ℕ
filled [] ns = []
filled (b ∷ pattern) [] = b ∷ pattern
filled (b ∷ pattern) (n ∷ ns) = cond (is_gap b) (in_gap b n ++ filled pattern ns) (b ∷ filled pattern (n ∷ ns))

-- ---- rows
-- whether anything stands there
unfoldable pub some : List ℕ → Bool
some [] = false
some (b ∷ bs) = true

-- the texts f 0, f 1 .. one after another, n of them; each is told whether anything stands before it in the row
unfoldable pub row : ℕ → (ℕ → Bool → List ℕ) → List ℕ
row zero f = []
row (suc n) f = row n f ++ f n (some (row n f))

-- the same, where it does not matter what stands before
abbrev pub each : ℕ → (ℕ → List ℕ) → List ℕ
each n f = row n (λ i before. f i)

-- a byte, if so
abbrev pub byte_if : Bool → ℕ → List ℕ
byte_if so b = cond so (b ∷ []) []

-- and "none": a dash after a row in which nothing stands
abbrev pub or_dash : List ℕ → List ℕ
or_dash bs = bs ++ byte_if (not (some bs)) (code "-")

-- "rise, split by commas": the numbers of a mask of 16 bits
unfoldable pub mask_item : ℕ → ℕ → Bool → List ℕ
mask_item m p before = cond (has m p) (byte_if before (code ",") ++ decimal p) []

abbrev pub mask_list : ℕ → List ℕ
mask_list m = row 16 (mask_item m)

-- ---- "in lower-case hex"
-- one of 0123456789abcdef
unfoldable pub hex_digit : ℕ → ℕ
hex_digit n = cond (ltb n 10) (48 + n) (87 + n)

unfoldable pub hex_byte : ℕ → List ℕ
hex_byte b = hex_digit (b / 16) ∷ hex_digit (b % 16) ∷ []

unfoldable pub hex : List ℕ → List ℕ
hex w = each (length w) (λ i. hex_byte (get_or w i 0))
