-- Laws of slots, for any capacity and width.
--     slots-of-bytes, bytes-of-slots    decode of encode, encode of decode
--     sent, removed                     what storing a slot and raising the count, or moving up and lowering it, leaves
--     nth-part                          where the i-th slot stands
use mathlib.Core.Path.{◌≡◌, refl, ap, sym, ◌∙◌}
use mathlib.Core.List.{List, [], ◌∷◌, ◌++◌, append_assoc, append-nil}
use Prim.Native.Nat.{ℕ, zero, suc, ◌+◌, ◌*◌, ◌-◌, ◌≤◌, ◌<◌}
use native.Mathlib.Nat.{zero-mul, suc-mul, not-suc-le-zero, le_of_suc-le-suc, add_comm, mul-le-mul_right, add-mul, add-sub_of_le}
use native.Mathlib.Numerals.{one-add}
use native.Mathlib.Omega.{arith}
use lib.ListN.{length, take, drop, get_or, set, replicate, length-append, length-drop, length-replicate, replicate-append-replicate, take-append-drop}
use lib.Seq.{take_at, drop_at, take-add, drop-drop, length-take-le}
use Rattle.bits.proofs.Parts.{lent, back}
use Rattle.protocol.specs.Net.{remove_at}
use Rattle.channel.specs.Slots.{slots, flat, laid, in_use}
use Rattle.channel.specs.Inner.Channels.{Queue, Sized, moved_up}

-- ---- slots, one after the other
pub length-slots : (w n : ℕ) (s : List ℕ) → length (slots w n s) ≡ n
unfolding slots
length-slots w zero s = refl
length-slots w (suc n) s = ap suc (length-slots w n (drop w s))

pub sized-slots : (w n : ℕ) (s : List ℕ) → n * w ≤ length s → Sized w (slots w n s)
unfolding slots
sized-slots w zero s h = tt
sized-slots w (suc n) s h =
    let g : w + n * w ≤ length s = omega (arith, suc-mul n w) in
    (length-take-le w s (omega arith), sized-slots w n (drop w s) (simp length-drop (omega arith)))

pub flat-slots : (w n : ℕ) (s : List ℕ) → n * w ≤ length s → flat (slots w n s) ≡ take (n * w) s
unfolding slots flat
flat-slots w zero s h = rw zero-mul
flat-slots w (suc n) s h =
    let g : w + n * w ≤ length s = omega (arith, suc-mul n w) in
    let ih : flat (slots w n (drop w s)) ≡ take (n * w) (drop w s) = flat-slots w n (drop w s) (simp length-drop (omega arith)) in
    rw (ih, suc-mul n w, add_comm (n * w) w, take-add)

pub length-flat : (w : ℕ) (ms : List (List ℕ)) → Sized w ms → length (flat ms) ≡ length ms * w
unfolding flat
length-flat w [] h = rw zero-mul
length-flat w (m ∷ ms) h = rw (length-append, suc-mul) (omega (arith, h.0, length-flat w ms h.1))

pub slots-flat : (w : ℕ) (ms : List (List ℕ)) (z : List ℕ) → Sized w ms → slots w (length ms) (flat ms ++ z) ≡ ms
unfolding slots flat
slots-flat w [] z h = refl
slots-flat w (m ∷ ms) z h =
    rw (append_assoc, take_at m (flat ms ++ z) w h.0, drop_at m (flat ms ++ z) w h.0, slots-flat w ms z h.1)

pub flat_append : (xs ys : List (List ℕ)) → flat (xs ++ ys) ≡ flat xs ++ flat ys
unfolding flat
flat_append [] ys = refl
flat_append (m ∷ ms) ys = rw (flat_append ms ys, append_assoc)

-- decode of encode
pub slots-of-bytes : (most w : ℕ) (ms : List (List ℕ)) → Sized w ms → in_use w (laid most w ms) ≡ ms
unfolding in_use laid
slots-of-bytes most w ms h = slots-flat w ms (replicate ((most - length ms) * w) 0) h

-- what Queue says of a count and the bytes after it
pub body-len : (most w k : ℕ) (t : List ℕ) → Queue most w (k ∷ t) → length t ≡ most * w
body-len most w k t h = omega (arith, h.len)

pub used_le : (most w k : ℕ) (t : List ℕ) → Queue most w (k ∷ t) → k * w ≤ length t
used_le most w k t h = rw (body-len most w k t h) (mul-le-mul_right w h.at_most)

pub body-clear : (most w k : ℕ) (t : List ℕ) → Queue most w (k ∷ t) → drop (k * w) t ≡ replicate ((most - k) * w) 0
body-clear most w k t h = rw one-add at h.clear

-- encode of decode
pub bytes-of-slots : (most w : ℕ) (b : List ℕ) → Queue most w b → laid most w (in_use w b) ≡ b
unfolding in_use laid
bytes-of-slots most w [] h = let z : 0 ≡ 1 + most * w = h.len in absurd (omega arith)
bytes-of-slots most w (k ∷ t) h =
    rw (length-slots w k t, flat-slots w k t (used_le most w k t h), ← body-clear most w k t h, take-append-drop)

pub used-and-free : (most w k : ℕ) → k ≤ most → k * w + (most - k) * w ≡ most * w
used-and-free most w k h = rw (← add-mul k (most - k) w, add-sub_of_le h)

pub shaped-bytes : (most w : ℕ) (ms : List (List ℕ)) → Sized w ms → length ms ≤ most → Queue most w (laid most w ms)
unfolding laid
shaped-bytes most w ms h few =
    record {
      len = simp (length-append, length-replicate, length-flat w ms h) (omega (arith, used-and-free most w (length ms) few));
      at_most = few;
      clear = rw one-add (drop_at (flat ms) _ _ (length-flat w ms h));
    }

-- ---- removing one

pub remove_at-split : {A : Type 0} (xs : List A) (m : A) (ys : List A) → remove_at (length xs) (xs ++ m ∷ ys) ≡ xs ++ ys
unfolding remove_at
remove_at-split [] m ys = refl
remove_at-split (x ∷ xs) m ys = rw (remove_at-split xs m ys)

pub sized-left : (w : ℕ) (xs ys : List (List ℕ)) → Sized w (xs ++ ys) → Sized w xs
sized-left w [] ys h = tt
sized-left w (x ∷ xs) ys h = (h.0, sized-left w xs ys h.1)

pub sized-right : (w : ℕ) (xs ys : List (List ℕ)) → Sized w (xs ++ ys) → Sized w ys
sized-right w [] ys h = h
sized-right w (x ∷ xs) ys h = sized-right w xs ys h.1

pub split-slots : {A : Type 0} (i : ℕ) (ms : List A) → i < length ms → (xs : List A) × (m : A) × (ys : List A) × (ms ≡ xs ++ m ∷ ys) × (length xs ≡ i)
split-slots i [] h = absurd (not-suc-le-zero h)
split-slots zero (m ∷ ms) h = ([], m, ms, refl, refl)
split-slots (suc i) (x ∷ ms) h =
    let r = split-slots i ms (le_of_suc-le-suc h) in
    (x ∷ r.0, r.1, r.2, ap (λ l. x ∷ l) r.3, ap suc r.4)

-- the bytes P, M, R, Z, of which M and R were moved to the left over M
pub cut : (P M R Z : List ℕ) (p q w : ℕ) → length P ≡ p → length M ≡ w → length (M ++ R) ≡ q
    → back p q (P ++ (M ++ (R ++ Z))) (moved_up w (lent p q (P ++ (M ++ (R ++ Z))))) ≡ P ++ (R ++ (replicate w 0 ++ Z))
unfolding moved_up
cut P M R Z p q w hp hm hq =
    rw (take_at P (M ++ (R ++ Z)) p hp, drop_at P (M ++ (R ++ Z)) p hp, ← append_assoc M R Z, take_at (M ++ R) Z q hq, drop_at (M ++ R) Z q hq, drop_at M R w hm)
    (simp append_assoc)

-- the same of the bytes behind the count: xs, then m, then ys, with what follows m moved w to the left
pub removed-body : (most w : ℕ) (xs : List (List ℕ)) (m : List ℕ) (ys : List (List ℕ)) (p q : ℕ) → Sized w (xs ++ m ∷ ys) → length (xs ++ m ∷ ys) ≤ most
    → p ≡ length xs * w → q ≡ suc (length ys) * w
    → (t : List ℕ) → t ≡ flat (xs ++ m ∷ ys) ++ replicate ((most - length (xs ++ m ∷ ys)) * w) 0
    → back p q t (moved_up w (lent p q t)) ≡ flat (xs ++ ys) ++ replicate ((most - length (xs ++ ys)) * w) 0
unfolding flat
removed-body most w xs m ys p q sz few hp hq t ht =
    let z : List ℕ = replicate ((most - length (xs ++ m ∷ ys)) * w) 0 in
    let right = sized-right w xs (m ∷ ys) sz in
    let e : t ≡ flat xs ++ (m ++ (flat ys ++ z)) = ht ∙ rw flat_append (simp append_assoc) in
    let n : most - length (xs ++ ys) ≡ suc (most - length (xs ++ m ∷ ys)) = omega (arith, length-append xs (m ∷ ys), length-append xs ys) in
    rw (e, cut (flat xs) m (flat ys) z p q w (length-flat w xs (sized-left w xs (m ∷ ys) sz) ∙ sym hp) right.0 (length-flat w (m ∷ ys) right ∙ sym hq), n, suc-mul, flat_append, append_assoc)
    (rw (replicate-append-replicate w, add_comm w))

pub body-of-slots : (most w k : ℕ) (t : List ℕ) → Queue most w (k ∷ t) → t ≡ flat (slots w k t) ++ replicate ((most - length (slots w k t)) * w) 0
unfolding in_use laid
body-of-slots most w k t h = ap (drop 1) (sym (bytes-of-slots most w (k ∷ t) h))

pub removed-cons : (most w i k q : ℕ) (t : List ℕ) → Queue most w (k ∷ t) → q ≡ 1 + k * w - suc (i * w)
    → (xs : List (List ℕ)) (m : List ℕ) (ys : List (List ℕ)) → slots w k t ≡ xs ++ m ∷ ys → length xs ≡ i
    → (k - 1) ∷ back (i * w) q t (moved_up w (lent (i * w) q t)) ≡ laid most w (remove_at i (slots w k t))
unfolding laid
removed-cons most w i k q t h hq xs m ys e li =
    let lk : length (xs ++ m ∷ ys) ≡ k = ap length (sym e) ∙ length-slots w k t in
    let n : k - 1 ≡ length (xs ++ ys) = omega (arith, length-append xs (m ∷ ys), length-append xs ys) in
    let sz : Sized w (xs ++ m ∷ ys) = rw e at (sized-slots w k t (used_le most w k t h)) in
    let kw : k * w ≡ length xs * w + suc (length ys) * w = rw (← lk, length-append, add-mul) in
    rw (e, ← li, remove_at-split xs m ys, n)
    (ap (λ (l : List ℕ). length (xs ++ ys) ∷ l)
    (removed-body most w xs m ys (length xs * w) q sz (omega (arith, h.at_most)) refl
    (hq ∙ rw (kw, ← li) (omega arith))
    t
    (rw e at (body-of-slots most w k t h))))

-- a channel's bytes in which the part from slot i to the last in use was moved w to the left, and the count lowered: one message less
pub removed : (most w i : ℕ) (b last : List ℕ) → Queue most w b → i < get_or b 0 0
    → last ≡ moved_up w (lent (1 + i * w) (1 + get_or b 0 0 * w - (1 + i * w)) b)
    → set (back (1 + i * w) (1 + get_or b 0 0 * w - (1 + i * w)) b last) 0 (get_or b 0 0 - 1) ≡ laid most w (remove_at i (in_use w b))
unfolding in_use
removed most w i [] last h hi hl = absurd (not-suc-le-zero hi)
removed most w i (k ∷ t) last h hi hl =
    let r = split-slots i (slots w k t) (rw length-slots hi) in
    rw (hl, one-add (i * w)) (removed-cons most w i k _ t h refl r.0 r.1 r.2 r.3 r.4)

-- ---- sending one

pub sent-body : (most w : ℕ) (ms : List (List ℕ)) (s : List ℕ) (p : ℕ) → Sized w ms → length s ≡ w → length ms < most → p ≡ length ms * w
    → (t : List ℕ) → t ≡ flat ms ++ replicate ((most - length ms) * w) 0
    → back p w t s ≡ flat (ms ++ (s ∷ [])) ++ replicate ((most - length (ms ++ (s ∷ []))) * w) 0
unfolding flat
sent-body most w ms s p sz hs few hp t ht =
    let z : List ℕ = replicate ((most - length (ms ++ (s ∷ []))) * w) 0 in
    let n : most - length ms ≡ suc (most - length (ms ++ (s ∷ []))) = omega (arith, length-append ms (s ∷ [])) in
    let zz : replicate ((most - length ms) * w) 0 ≡ replicate w 0 ++ z = rw (n, suc-mul, replicate-append-replicate w, add_comm w) in
    let e : t ≡ flat ms ++ (replicate w 0 ++ z) = rw zz at ht in
    let long = length-flat w ms sz ∙ sym hp in
    rw (e, take_at (flat ms) (replicate w 0 ++ z) p long, drop_at (flat ms) (replicate w 0 ++ z) p long, drop_at (replicate w 0) z w (length-replicate w 0), flat_append, append_assoc, append-nil)

pub sent : (most w : ℕ) (b s : List ℕ) → Queue most w b → get_or b 0 0 < most → length s ≡ w
    → set (back (1 + get_or b 0 0 * w) w b s) 0 (get_or b 0 0 + 1) ≡ laid most w (in_use w b ++ (s ∷ []))
unfolding in_use laid
sent most w [] s h hi hs = let z : 0 ≡ 1 + most * w = h.len in absurd (omega arith)
sent most w (k ∷ t) s h hi hs =
    let ms = slots w k t in
    let lk : length (slots w k t) ≡ k = length-slots w k t in
    let n : k + 1 ≡ length (slots w k t ++ (s ∷ [])) = omega (arith, length-append (slots w k t) (s ∷ [])) in
    rw (one-add (k * w), n)
    (ap (λ (l : List ℕ). length (slots w k t ++ (s ∷ [])) ∷ l)
    (sent-body most w (slots w k t) s (k * w) (sized-slots w k t (used_le most w k t h)) hs (rw lk hi) (rw lk) t (body-of-slots most w k t h)))

-- ---- reading one

pub nth-slot : (w n i : ℕ) (s : List ℕ) → i < n → get_or (slots w n s) i [] ≡ take w (drop (i * w) s)
unfolding slots
nth-slot w zero i s h = absurd (not-suc-le-zero h)
nth-slot w (suc n) zero s h = rw zero-mul
nth-slot w (suc n) (suc i) s h = nth-slot w n i (drop w s) (le_of_suc-le-suc h) ∙ rw (drop-drop, suc-mul, add_comm w)

pub nth-part : (most w i : ℕ) (b : List ℕ) → Queue most w b → i < get_or b 0 0 → lent (1 + i * w) w b ≡ get_or (in_use w b) i []
unfolding in_use
nth-part most w i [] h hi = absurd (not-suc-le-zero hi)
nth-part most w i (k ∷ t) h hi = rw one-add (sym (nth-slot w k i t hi))

pub length-in-use : (w : ℕ) (b : List ℕ) → length (in_use w b) ≡ get_or b 0 0
unfolding in_use
length-in-use w b = length-slots w (get_or b 0 0) (drop 1 b)
