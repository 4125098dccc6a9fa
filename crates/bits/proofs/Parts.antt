-- Laws of parts and splices.
--     part-splice, part-splice-out    what a splice puts in, and what it leaves alone
--     number_at-add                   a number of two widths joined
--     wrote_then                      one thing put after another
--     put_number                      the bytes of a number, put in the place of as many
--     part-lent, put_whole, lent_back what a part that is lent holds, and what the whole is when it comes back
--     splice-part                     what is put into a part, put into the whole
use mathlib.Core.Path.{◌≡◌, refl, sym, ap, ap₂, ◌∙◌}
use mathlib.Core.List.{List, [], ◌∷◌, ◌++◌, append_assoc}
use mathlib.Core.Logic.{◌⊎◌, inl, inr, ⊎_elim}
use Prim.Native.Nat.{ℕ, zero, suc, ◌+◌, ◌-◌, ◌*◌, ◌^◌, ◌≤◌, ◌<◌}
use native.Mathlib.Nat.{zero-add, add-zero, add-suc, suc-add}
use native.Mathlib.Omega.{arith}
use lib.ListN.{length, get_or, take, drop, set, replicate, length-set, length-drop, length-append, take-append-drop, get_or-append}
use lib.Seq.{sets, sets-eq, length-take-le, length-sets, get_or-set_same, get_or-set_other, get_or-take, get_or-drop, get_or-append-add, ext_get_or, take-set-lt, take-set-le, drop-set-lt, drop-set-add, drop-drop}
use Rattle.bits.specs.Numbers.{Bytes, onto, number, bytes}
use Rattle.bits.specs.Parts.{part, number_at, splice, Wrote}
use Rattle.bits.proofs.Numbers.{length-bytes, number_lt, bytes-number, onto-append, onto-split}

-- ---- the elements of a splice, one by one
pub length-splice : (l : List ℕ) (a : ℕ) (vs : List ℕ) → length (splice l a vs) ≡ length l
unfolding splice
length-splice l a vs = length-sets l a vs

pub splice-out : (l : List ℕ) (a : ℕ) (vs : List ℕ) (i : ℕ) → (i < a) ⊎ (a + length vs ≤ i) → get_or (splice l a vs) i 0 ≡ get_or l i 0
unfolding splice
splice-out l a [] i h = refl
splice-out l a (v ∷ vs) i h =
    splice-out (set l a v) (suc a) vs i (⊎_elim (λ p. inl (omega arith)) (λ p. inr (omega arith)) h)
    ∙ get_or-set_other l a i v 0 (⊎_elim (λ p. omega arith) (λ p. omega arith) h)

pub splice-in : (l : List ℕ) (a : ℕ) (vs : List ℕ) (k : ℕ) → k < length vs → a + length vs ≤ length l → get_or (splice l a vs) (a + k) 0 ≡ get_or vs k 0
unfolding splice
splice-in l a [] k h f = absurd (omega arith)
splice-in l a (v ∷ vs) zero h f =
    rw add-zero (splice-out (set l a v) (suc a) vs a (inl (omega arith)) ∙ get_or-set_same l a v 0 (omega arith))
splice-in l a (v ∷ vs) (suc k) h f =
    let e : a + suc k ≡ suc a + k = omega arith in
    rw e (splice-in (set l a v) (suc a) vs k (omega arith) (rw length-set (omega arith)))

-- ---- parts
pub length_part : (w : ℕ) (l : List ℕ) (i : ℕ) → length (part w l i) ≡ w
unfolding part
length_part zero l i = refl
length_part (suc w) l i = ap suc (length_part w l (suc i))

-- two parts are equal where their elements are
pub part-cong : (w : ℕ) (l l' : List ℕ) (i j : ℕ) → ((k : ℕ) → k < w → get_or l (i + k) 0 ≡ get_or l' (j + k) 0) → part w l i ≡ part w l' j
unfolding part
part-cong zero l l' i j h = refl
part-cong (suc w) l l' i j h =
    ap₂ ◌∷◌ (rw (add-zero i, add-zero j) at (h 0 (omega arith)))
    (part-cong w l l' (suc i) (suc j) (λ k b. rw (suc-add i k, suc-add j k) (rw (add-suc i k, add-suc j k) at (h (suc k) (omega arith)))))

pub get_or-part : (w : ℕ) (l : List ℕ) (i k : ℕ) → k < w → get_or (part w l i) k 0 ≡ get_or l (i + k) 0
unfolding part
get_or-part zero l i k h = absurd (omega arith)
get_or-part (suc w) l i zero h = rw add-zero
get_or-part (suc w) l i (suc k) h = get_or-part w l (suc i) k (omega arith) ∙ ap (λ (n : ℕ). get_or l n 0) (omega arith)

pub part-Bytes : (w : ℕ) (l : List ℕ) (i : ℕ) → Bytes l → Bytes (part w l i)
unfolding part
part-Bytes zero l i h k = omega arith
part-Bytes (suc w) l i h zero = h i
part-Bytes (suc w) l i h (suc k) = part-Bytes w l (suc i) h k

pub part-splice : (l : List ℕ) (a : ℕ) (vs : List ℕ) → a + length vs ≤ length l → part (length vs) (splice l a vs) a ≡ vs
part-splice l a vs f =
    ext_get_or 0 _ _ (length_part _ _ _)
    (λ i h. let h' : i < length vs = rw length_part at h in get_or-part (length vs) _ a i h' ∙ splice-in l a vs i h' f)

-- ---- numbers at an index
pub number_at-lt : (w : ℕ) (l : List ℕ) (i : ℕ) → Bytes l → number_at w l i < 256 ^ w
unfolding number_at
number_at-lt w l i h = rw (length_part w l i) at (number_lt (part w l i) (part-Bytes w l i h))

pub bytes-number_at : (w : ℕ) (l : List ℕ) (i : ℕ) → Bytes l → bytes w (number_at w l i) ≡ part w l i
unfolding number_at
bytes-number_at w l i h = rw (length_part w l i) at (bytes-number (part w l i) (part-Bytes w l i h))

-- a part of width v + w is one of width v and one of width w
pub part-add : (v w : ℕ) (l : List ℕ) (i : ℕ) → part (v + w) l i ≡ part v l i ++ part w l (i + v)
unfolding part
part-add zero w l i = rw (zero-add, add-zero)
part-add (suc v) w l i = rw suc-add (ap (λ (r : List ℕ). get_or l i 0 ∷ r) (part-add v w l (suc i) ∙ ap (λ (n : ℕ). part v l (suc i) ++ part w l n) (omega arith)))

-- and so a number
pub number_at-add : (v w : ℕ) (l : List ℕ) (i : ℕ) → number_at (v + w) l i ≡ number_at v l i * 256 ^ w + number_at w l (i + v)
unfolding number_at number
number_at-add v w l i =
    ap (onto 0) (part-add v w l i) ∙ onto-append 0 (part v l i) (part w l (i + v)) ∙ onto-split (onto 0 (part v l i)) (part w l (i + v))
    ∙ ap (λ (n : ℕ). onto 0 (part v l i) * 256 ^ n + onto 0 (part w l (i + v))) (length_part w l (i + v))

-- ---- a part that is lent, `&s[a..a + k]`, and the list once ys comes back in its place
abbrev pub lent : ℕ → ℕ → List ℕ → List ℕ
lent a k xs = take k (drop a xs)

abbrev pub back : ℕ → ℕ → List ℕ → List ℕ → List ℕ
back a k xs ys = take a xs ++ (ys ++ drop k (drop a xs))

-- what was done to the part, said of the whole
pub lent_back : (a k : ℕ) (xs : List ℕ) (b : ℕ) (vs : List ℕ) → b + length vs ≤ k
    → back a k xs (splice (lent a k xs) b vs) ≡ splice xs (a + b) vs
unfolding splice
lent_back a k xs b [] h = ap (λ (r : List ℕ). take a xs ++ r) (take-append-drop k (drop a xs)) ∙ take-append-drop a xs
lent_back a k xs b (v ∷ vs) h =
    let ys : List ℕ = set xs (a + b) v in
    let same : take k (drop a ys) ≡ set (take k (drop a xs)) b v =
    ap (take k) (drop-set-add a xs b v) ∙ take-set-lt k (drop a xs) b v (omega arith) in
    let front : take a ys ≡ take a xs = take-set-le a xs (a + b) v (omega arith) in
    let rest : drop k (drop a ys) ≡ drop k (drop a xs) =
    drop-drop k a ys ∙ drop-set-lt (a + k) xs (a + b) v (omega arith) ∙ sym (drop-drop k a xs) in
    let e : a + suc b ≡ suc (a + b) = add-suc a b in
    rw (← same, ← front, ← rest) (lent_back a k ys (suc b) vs (omega arith) ∙ ap (λ (n : ℕ). sets ys n vs) e)

-- ---- more of parts and splices
-- one splice after another, side by side
pub splice-append : (l : List ℕ) (a : ℕ) (xs ys : List ℕ) → splice (splice l a xs) (a + length xs) ys ≡ splice l a (xs ++ ys)
unfolding splice
splice-append l a [] ys = ap (λ (n : ℕ). sets l n ys) (add-zero a)
splice-append l a (x ∷ xs) ys =
    ap (λ (n : ℕ). sets (sets (set l a x) (suc a) xs) n ys) (add-suc a (length xs) ∙ sym (suc-add a (length xs)))
    ∙ splice-append (set l a x) (suc a) xs ys

-- a part that a splice does not touch
pub part-splice-out : (w : ℕ) (l : List ℕ) (a : ℕ) (vs : List ℕ) (i : ℕ) → (i + w ≤ a) ⊎ (a + length vs ≤ i) → part w (splice l a vs) i ≡ part w l i
part-splice-out w l a vs i h =
    part-cong w (splice l a vs) l i i
    (λ k b. splice-out l a vs (i + k) (⊎_elim (λ p. inl (omega arith)) (λ p. inr (omega arith)) h))

-- a part of a part, and a number in a part
pub part-part : (v w : ℕ) (l : List ℕ) (i k : ℕ) → k + v ≤ w → part v (part w l i) k ≡ part v l (i + k)
part-part v w l i k h =
    part-cong v (part w l i) l k (i + k)
    (λ n b. get_or-part w l i (k + n) (omega arith) ∙ ap (λ (x : ℕ). get_or l x 0) (omega arith))

pub number_at-part : (v w : ℕ) (l : List ℕ) (i k : ℕ) → k + v ≤ w → number_at v (part w l i) k ≡ number_at v l (i + k)
unfolding number_at
number_at-part v w l i k h = ap number (part-part v w l i k h)

-- the whole list as a part
pub part-all : (l : List ℕ) → part (length l) l 0 ≡ l
part-all l =
    ext_get_or 0 _ _ (length_part _ _ _)
    (λ i h. let h' : i < length l = rw length_part at h in get_or-part (length l) l 0 i h' ∙ ap (λ (n : ℕ). get_or l n 0) (zero-add i))

-- ---- a part that is lent, and one that comes back whole
pub part-lent : (w : ℕ) (l : List ℕ) (i : ℕ) → i + w ≤ length l → lent i w l ≡ part w l i
part-lent w l i h =
    let n : length (take w (drop i l)) ≡ w = length-take-le w (drop i l) (simp length-drop (omega arith)) in
    ext_get_or 0 _ _ (n ∙ sym (length_part w l i))
    (λ k j. let j' : k < w = rw n at j in get_or-take w (drop i l) k 0 j' ∙ get_or-drop i l k 0 ∙ sym (get_or-part w l i k j'))

pub put_whole : (a k : ℕ) (xs ys : List ℕ) → length ys ≡ k → a + k ≤ length xs → back a k xs ys ≡ splice xs a ys
unfolding splice
put_whole a k xs ys n h =
    let e : drop k (drop a xs) ≡ drop (a + length ys) xs = drop-drop k a xs ∙ ap (λ (m : ℕ). drop (a + m) xs) (sym n) in
    ap (λ (zs : List ℕ). take a xs ++ (ys ++ zs)) e ∙ sym (append_assoc (take a xs) ys (drop (a + length ys) xs)) ∙ sym (sets-eq ys xs a (omega arith))

-- the bytes of a number, put in the place of as many
pub put_number : (a w n : ℕ) (xs : List ℕ) {ys : List ℕ} → ys ≡ bytes w n → a + w ≤ length xs → back a (a + w - a) xs ys ≡ splice xs a (bytes w n)
put_number a w n xs {ys} e h = rw e (put_whole a (a + w - a) xs (bytes w n) (length-bytes w n ∙ omega arith) (omega arith))

-- what is put into a part, put into the whole
pub splice-part : (n : ℕ) (l : List ℕ) (a b : ℕ) (vs : List ℕ) → b + length vs ≤ n → a + n ≤ length l → splice l (a + b) vs ≡ splice l a (splice (part n l a) b vs)
splice-part n l a b vs h f =
    sym (lent_back a n l b vs h)
    ∙ ap (λ (ys : List ℕ). back a n l (splice ys b vs)) (part-lent n l a f)
    ∙ put_whole a n l (splice (part n l a) b vs) (length-splice _ b vs ∙ length_part n l a) f

-- one element more
pub splice-more : (l s : List ℕ) (a i : ℕ) (xs : List ℕ) (v : ℕ) → s ≡ splice l a xs → length xs ≡ i → set s (a + i) v ≡ splice l a (xs ++ (v ∷ []))
unfolding splice
splice-more l s a i xs v e n = (λ j. set (e j) (a + sym n j) v) ∙ splice-append l a xs (v ∷ [])

-- the first i elements of xs have been put, and now one more
pub part-more : (l s : List ℕ) (a i : ℕ) (xs : List ℕ) → s ≡ splice l a (part i xs 0) → set s (a + i) (get_or xs i 0) ≡ splice l a (part (i + 1) xs 0)
part-more l s a i xs e = splice-more l s a i (part i xs 0) (get_or xs i 0) e (length_part i xs 0) ∙ ap (splice l a) (sym more)
  where
    more : part (i + 1) xs 0 ≡ part i xs 0 ++ (get_or xs i 0 ∷ [])
    more = part-add i 1 xs 0 ∙ ap (λ (k : ℕ). part i xs 0 ++ part 1 xs k) (zero-add i) ∙ unfold part in refl

-- ---- a part of two lists joined, of a list as long as itself, and of zeros
pub part_left : (w : ℕ) (xs ys : List ℕ) (k : ℕ) → k + w ≤ length xs → part w (xs ++ ys) k ≡ part w xs k
part_left w xs ys k h = part-cong w (xs ++ ys) xs k k (λ j b. get_or-append xs ys 0 (k + j) (omega arith))

pub part_right : (w : ℕ) (xs ys : List ℕ) {n : ℕ} → length xs ≡ n → (k : ℕ) → part w (xs ++ ys) (n + k) ≡ part w ys k
part_right w xs ys {n} e k = part-cong w (xs ++ ys) ys (n + k) k
    (λ j b. ap (λ (i : ℕ). get_or (xs ++ ys) i 0) (omega arith) ∙ get_or-append-add xs ys (k + j) 0)

pub part_same : (w : ℕ) (l : List ℕ) (i : ℕ) → part w (part w l i) 0 ≡ part w l i
part_same w l i = part-part w w l i 0 (omega arith) ∙ ap (part w l) (add-zero i)

pub part-whole : (w : ℕ) (l : List ℕ) → length l ≡ w → part w l 0 ≡ l
part-whole w l e = rw (← e) (part-all l)

pub get_or-zeros : (n i : ℕ) → ◌≡◌ {A = ℕ} (get_or (replicate n 0) i 0) 0
get_or-zeros zero i = refl
get_or-zeros (suc n) zero = refl
get_or-zeros (suc n) (suc i) = get_or-zeros n i

-- ---- nothing put, and one thing put after another
pub wrote_none : (o : List ℕ) (i : ℕ) → Wrote o o i i []
unfolding splice
wrote_none o i = record { next = omega arith; bytes = refl }

pub wrote_then : {o o' o'' : List ℕ} {i r r' : ℕ} {xs ys : List ℕ} → Wrote o o' i r xs → Wrote o' o'' r r' ys → Wrote o o'' i r' (xs ++ ys)
wrote_then {o} {o'} {o''} {i} {r} {r'} {xs} {ys} f g = record {
  next = g.next ∙ (omega (arith, f.next, length-append xs ys));
  bytes = g.bytes ∙ (λ k. splice (f.bytes k) (f.next k) ys) ∙ splice-append o i xs ys;
}
