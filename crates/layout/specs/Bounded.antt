-- Bounded tests of bytes: stretches, a table of which the first records are used, and a grid of cells of which the first rows and columns
-- are used.
use Rattle.std.specs.Prelude.{Bool, ◌&&◌, cond, List, ℕ, ◌+◌, ◌*◌, ◌-◌, eqb, ltb, length}
use Rattle.bits.specs.Below.{all_below}
use Rattle.layout.specs.Layout.{byte}

-- every number of the list is a byte
unfoldable pub all_bytes : List ℕ → Bool
all_bytes l = all_below (length l) (λ i. ltb (byte l i) 256)

-- the bytes from a up to e are zero
unfoldable pub zeros : List ℕ → ℕ → ℕ → Bool
zeros l a e = all_below (e - a) (λ i. eqb (byte l (a + i)) 0)

-- the n bytes from a and from b are the same
unfoldable pub same : List ℕ → ℕ → ℕ → ℕ → Bool
same l a b n = all_below n (λ i. eqb (byte l (a + i)) (byte l (b + i)))

-- a table at `at` of `most` records of `size` bytes, of which the first n are used: P passes at each used one, and "every byte of
-- an unused" one "is zero"
unfoldable pub table : List ℕ → ℕ → ℕ → ℕ → ℕ → (ℕ → Bool) → Bool
table l at size most n P = all_below n P && zeros l (at + size * n) (at + size * most)

-- i is below m, and j below n
unfoldable pub used : ℕ → ℕ → ℕ → ℕ → Bool
used i m j n = ltb i m && ltb j n

-- a grid of cells of `size` bytes, (i, j) at `at i j`, of which those in the first m rows and n columns are used: P passes at each used
-- one, and "every byte of an unused" one "is zero"
unfoldable pub cell_pass : List ℕ → (ℕ → ℕ → ℕ) → (size m n : ℕ) → (ℕ → ℕ → Bool) → ℕ → ℕ → Bool
cell_pass l at size m n P i j = cond (used i m j n) (P i j) (zeros l (at i j) (at i j + size))

unfoldable pub grid_pass : List ℕ → (ℕ → ℕ → ℕ) → (size rows cols m n : ℕ) → (ℕ → ℕ → Bool) → Bool
grid_pass l at size rows cols m n P = all_below rows (λ i. all_below cols (cell_pass l at size m n P i))
