-- A list rewritten from its front, w elements a turn: what a loop that puts them at 0, w, 2 w, .. has done up to an index.
use mathlib.Core.Path.{◌≡◌, refl, sym, ap, ◌∙◌}
use mathlib.Core.List.{List, [], ◌∷◌, ◌++◌, append-nil}
use Prim.Native.Nat.{ℕ, zero, suc, ◌+◌, ◌≤◌, ◌<◌}
use native.Mathlib.Nat.{add-zero, not-suc-le-zero, le_of_suc-le-suc, suc_inj, add_comm, zero-add}
use native.Mathlib.Omega.{arith}
use lib.ListN.{length, take, drop, get_or, set, replicate, length-append, length-drop, length-replicate}
use lib.Seq.{length-take-le, get_or-append-add, get_or-drop, drop-length, drop-drop, take_at, drop_at, sets, sets-eq}
use Rattle.bits.specs.Parts.{part, splice}
use Rattle.bits.proofs.Parts.{lent, back, part-cong, get_or-zeros}
use Rattle.channel.specs.Inner.Channels.{moved_up}

-- the first j of t, then d from j on
abbrev pub upto : ℕ → List ℕ → List ℕ → List ℕ
upto j t d = take j t ++ drop j d

pub upto-suc : (j : ℕ) (t d : List ℕ) → j < length t → j < length d → set (upto j t d) j (get_or t j 0) ≡ upto (suc j) t d
upto-suc zero [] d h g = absurd (not-suc-le-zero h)
upto-suc zero (x ∷ t) [] h g = absurd (not-suc-le-zero g)
upto-suc zero (x ∷ t) (y ∷ d) h g = refl
upto-suc (suc j) [] d h g = absurd (not-suc-le-zero h)
upto-suc (suc j) (x ∷ t) [] h g = absurd (not-suc-le-zero g)
upto-suc (suc j) (x ∷ t) (y ∷ d) h g = ap (λ (r : List ℕ). x ∷ r) (upto-suc j t d (le_of_suc-le-suc h) (le_of_suc-le-suc g))

-- w elements a turn
pub upto_turn : (w a : ℕ) (t d : List ℕ) → a + w ≤ length t → a + w ≤ length d → splice (upto a t d) a (part w t a) ≡ upto (a + w) t d
unfolding splice part
upto_turn zero a t d h g = rw add-zero refl
upto_turn (suc w) a t d h g =
    let e : suc a + w ≡ a + suc w = omega arith in
    ap (λ (l : List ℕ). sets l (suc a) (part w t (suc a))) (upto-suc a t d (omega arith) (omega arith))
    ∙ upto_turn w (suc a) t d (omega arith) (omega arith) ∙ ap (λ (n : ℕ). upto n t d) e

pub length-upto : (j : ℕ) (t d : List ℕ) → length t ≡ length d → length (upto j t d) ≡ length d
length-upto zero t d e = refl
length-upto (suc j) [] [] e = refl
length-upto (suc j) [] (y ∷ d) e = absurd (omega arith)
length-upto (suc j) (x ∷ t) [] e = absurd (omega arith)
length-upto (suc j) (x ∷ t) (y ∷ d) e = ap suc (length-upto j t d (suc_inj e))

-- what has not been passed is as it was
pub upto-ahead : (j k : ℕ) (t d : List ℕ) → j ≤ length t → get_or (upto j t d) (j + k) 0 ≡ get_or d (j + k) 0
upto-ahead j k t d h =
    let e : length (take j t) ≡ j = length-take-le j t h in
    let g : get_or (take j t ++ drop j d) (length (take j t) + k) 0 ≡ get_or (drop j d) k 0 = get_or-append-add (take j t) (drop j d) k 0 in
    (rw e at g) ∙ get_or-drop j d k 0

pub length-moved_up : (w : ℕ) (d : List ℕ) → w ≤ length d → length (moved_up w d) ≡ length d
unfolding moved_up
length-moved_up w d h = simp (length-append, length-drop, length-replicate) (omega arith)

pub get_or-append-zeros : (xs : List ℕ) (n i : ℕ) → get_or (xs ++ replicate n 0) i 0 ≡ get_or xs i 0
get_or-append-zeros [] n i = get_or-zeros n i
get_or-append-zeros (x ∷ xs) n zero = refl
get_or-append-zeros (x ∷ xs) n (suc i) = get_or-append-zeros xs n i

-- past the end too, where both are 0
pub get_or-moved_up : (w : ℕ) (d : List ℕ) (j : ℕ) → get_or (moved_up w d) j 0 ≡ get_or d (j + w) 0
unfolding moved_up
get_or-moved_up w d j = get_or-append-zeros (drop w d) w j ∙ get_or-drop w d j 0 ∙ ap (λ (k : ℕ). get_or d k 0) (add_comm w j)

-- a turn of the loop that moves: the w elements that stand w further on than a are put at a
pub moved-turn : (w a : ℕ) (d s : List ℕ) → s ≡ upto a (moved_up w d) d → a + w + w ≤ length d → splice s a (part w s (a + w)) ≡ upto (a + w) (moved_up w d) d
moved-turn w a d s hs h =
    let n : length (moved_up w d) ≡ length d = length-moved_up w d (omega arith) in
    let ahead : part w s (a + w) ≡ part w (moved_up w d) a = part-cong w s (moved_up w d) (a + w) a
    (λ k b. let e : a + w + k ≡ a + (w + k) = omega arith in
    let f : a + (w + k) ≡ a + k + w = omega arith in
    ap (λ (i : ℕ). get_or s i 0) e ∙ rw hs (upto-ahead a (w + k) (moved_up w d) d (omega arith)) ∙ ap (λ (i : ℕ). get_or d i 0) f ∙ sym (get_or-moved_up w d (a + k))) in
    rw (ahead, hs) (upto_turn w a (moved_up w d) d (omega arith) (omega arith))

-- the loop is done, and the v elements that are left, as many as it moved by, were lent on and filled with zeros
pub moved-cleared : (w k v : ℕ) (d s z : List ℕ) → s ≡ upto k (moved_up w d) d → k + w ≡ length d → v ≡ w
    → z ≡ replicate (length (lent k v s)) 0 → back k v s z ≡ moved_up w d
unfolding moved_up
moved-cleared w k v d s z hs n hv hz =
    let m : length (drop w d) ≡ k = length-drop w d ∙ omega arith in
    let kept : take k (drop w d ++ replicate w 0) ≡ drop w d = take_at (drop w d) (replicate w 0) k m in
    let t : s ≡ drop w d ++ drop k d = hs ∙ ap (λ (x : List ℕ). x ++ drop k d) kept in
    let end : drop w (drop k d) ≡ [] = drop-drop w k d ∙ (rw n (drop-length d)) in
    let rest : length (take w (drop k d)) ≡ w = length-take-le w (drop k d) (rw length-drop (omega arith)) in
    rw (hz, hv, t, take_at (drop w d) (drop k d) k m, drop_at (drop w d) (drop k d) k m, end, rest, append-nil) refl

-- every element stored anew: the stores' values
pub sets-whole : (vs s : List ℕ) → length s ≡ length vs → sets s 0 vs ≡ vs
sets-whole vs s e = sets-eq vs s 0 (omega arith) ∙ rw (zero-add, ← e, drop-length) (append-nil vs)
