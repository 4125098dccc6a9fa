-- Laws of the bytes of one entry and one message.
use mathlib.Core.Path.{◌≡◌, refl, sym, ap, ◌∙◌}
use mathlib.Core.List.{List, [], ◌∷◌, ◌++◌}
use Prim.Native.Nat.{ℕ, ◌+◌, ◌-◌, ◌^◌, ◌≤◌, ◌<◌}
use native.Mathlib.Nat.{add-zero}
use native.Mathlib.Numerals.{towards_suc}
use native.Mathlib.Omega.{arith}
use lib.ListN.{length, get_or, set, replicate, length-append}
use Rattle.bits.specs.Numbers.{Bytes, number, onto, bytes}
use Rattle.bits.specs.Parts.{number_at, part, splice}
use Rattle.bits.proofs.Cases.{by-lt}
use Rattle.bits.proofs.Numbers.{length-bytes, number-bytes}
use Rattle.bits.proofs.Parts.{get_or-part, number_at-part, bytes-number_at, part-all, splice-append, get_or-zeros}
use Rattle.protocol.specs.declared.Entry.{Entry}
use Rattle.protocol.specs.Entries.{with_parents, with_member, with_clock, with_children, with_waiting}
use Rattle.net.specs.View.{entry_of}
use Rattle.net.specs.Encode.{entry_bytes}

-- ---- entries
pub length-entry_bytes : (e : Entry) → length (entry_bytes e) ≡ 12
unfolding entry_bytes
length-entry_bytes e = simp (length-append, length-bytes)

four : (l : List ℕ) (a v w x y : ℕ) → set (set (set (set l a v) (a + 1) w) (a + 2) x) (a + 3) y ≡ splice l a (v ∷ w ∷ x ∷ y ∷ [])
unfolding splice
four l a v w x y = simp towards_suc

-- an entry's bytes, stored field by field
pub stores : (l : List ℕ) (a : ℕ) (e : Entry)
    → splice (splice (splice (set (set (set (set l a e.parent) (a + 1) e.tentative) (a + 2) e.member) (a + 3) 0) (a + 4) (bytes 4 e.clock)) (a + 8) (bytes 2 e.children)) (a + 10) (bytes 2 e.waiting)
    ≡ splice l a (entry_bytes e)
unfolding entry_bytes bytes
stores l a e =
    let b4 : List ℕ = bytes 4 e.clock in
    let b2 : List ℕ = bytes 2 e.children in
    let h : List ℕ = e.parent ∷ e.tentative ∷ e.member ∷ 0 ∷ [] in
    let r : List ℕ → List ℕ = λ x. splice x (a + 10) (bytes 2 e.waiting) in
    ap (λ (x : List ℕ). r (splice (splice x (a + 4) b4) (a + 8) b2)) (four l a e.parent e.tentative e.member 0)
    ∙ ap (λ (x : List ℕ). r (splice x (a + 8) b2)) (splice-append l a h b4)
    ∙ ap r (splice-append l a (h ++ b4) b2)
    ∙ splice-append l a (h ++ b4 ++ b2) (bytes 2 e.waiting)

-- a field put anew among an entry's bytes
pub parent-put : (e : Entry) (q : ℕ) → splice (entry_bytes e) 0 (q ∷ []) ≡ entry_bytes (with_parents e q e.tentative)
unfolding entry_bytes bytes splice
parent-put e q = refl

pub tentative-put : (e : Entry) (q : ℕ) → splice (entry_bytes e) 1 (q ∷ []) ≡ entry_bytes (with_parents e e.parent q)
unfolding entry_bytes bytes splice
tentative-put e q = refl

pub member-put : (e : Entry) (v : ℕ) → splice (entry_bytes e) 2 (v ∷ []) ≡ entry_bytes (with_member e v)
unfolding entry_bytes bytes splice
member-put e v = refl

pub clock-put : (e : Entry) (k : ℕ) → splice (entry_bytes e) 4 (bytes 4 k) ≡ entry_bytes (with_clock e k)
unfolding entry_bytes bytes splice
clock-put e k = refl

pub children-put : (e : Entry) (m : ℕ) → splice (entry_bytes e) 8 (bytes 2 m) ≡ entry_bytes (with_children e m)
unfolding entry_bytes bytes splice
children-put e m = refl

pub waiting-put : (e : Entry) (m : ℕ) → splice (entry_bytes e) 10 (bytes 2 m) ≡ entry_bytes (with_waiting e m)
unfolding entry_bytes bytes splice
waiting-put e m = refl

-- the fields of an entry, read where they stand
pub fields : (l : List ℕ) (o : ℕ) → entry_of (part 12 l o) ≡
    record { parent = get_or l o 0; tentative = get_or l (o + 1) 0; member = get_or l (o + 2) 0; clock = number_at 4 l (o + 4); children = number_at 2 l (o + 8); waiting = number_at 2 l (o + 10) }
unfolding entry_of
fields l o i =
    record {
      parent = (get_or-part 12 l o 0 (omega arith) ∙ ap (λ (n : ℕ). get_or l n 0) (add-zero o)) i;
      tentative = get_or-part 12 l o 1 (omega arith) i;
      member = get_or-part 12 l o 2 (omega arith) i;
      clock = number_at-part 4 12 l o 4 (omega arith) i;
      children = number_at-part 2 12 l o 8 (omega arith) i;
      waiting = number_at-part 2 12 l o 10 (omega arith) i;
    }

-- an entry whose numbers fit comes back
pub record FitsEntry (e : Entry) : Type 0 where
  pub clock : e.clock < 2 ^ 32
  pub children : e.children < 2 ^ 16
  pub waiting : e.waiting < 2 ^ 16

pub entry-back : (e : Entry) → FitsEntry e → entry_of (entry_bytes e) ≡ e
unfolding entry_of entry_bytes bytes number_at part
entry-back e h i =
    record {
      parent = e.parent;
      tentative = e.tentative;
      member = e.member;
      clock = number-bytes 4 e.clock h.clock i;
      children = number-bytes 2 e.children h.children i;
      waiting = number-bytes 2 e.waiting h.waiting i;
    }

-- twelve bytes whose fourth is zero come back
pub entry-form : (b : List ℕ) → length b ≡ 12 → Bytes b → get_or b 3 0 ≡ 0 → entry_bytes (entry_of b) ≡ b
unfolding entry_of entry_bytes part
entry-form b n h z =
    rw (bytes-number_at 4 b 4 h, bytes-number_at 2 b 8 h, bytes-number_at 2 b 10 h)
    (ap (λ (x : ℕ). get_or b 0 0 ∷ get_or b 1 0 ∷ get_or b 2 0 ∷ x ∷ part 8 b 4) (sym z) ∙ rw n at (part-all b))

-- ---- messages
-- a request's flag and clock are zero where its bytes are, and the other way
pub bare-clock : (s : List ℕ) → ((x : ℕ) → 2 ≤ x → x < 7 → get_or s x 0 ≡ 0) → number_at 4 s 3 ≡ 0
unfolding number_at number onto part
bare-clock s f = omega (arith, f 3 (omega arith) (omega arith), f 4 (omega arith) (omega arith), f 5 (omega arith) (omega arith), f 6 (omega arith) (omega arith))

pub bare-bytes : (s : List ℕ) → Bytes s → get_or s 2 0 ≡ 0 → number_at 4 s 3 ≡ 0 → (x : ℕ) → 2 ≤ x → x < 7 → get_or s x 0 ≡ 0
unfolding bytes
bare-bytes s h c k x a b =
    by-lt x 3 (λ j. ap (λ (y : ℕ). get_or s y 0) (omega arith) ∙ c)
    (λ j.
    let e : part 4 s 3 ≡ replicate 4 0 = sym (bytes-number_at 4 s 3 h) ∙ ap (bytes 4) k in
    ap (λ (y : ℕ). get_or s y 0) (omega arith) ∙ sym (get_or-part 4 s 3 (x - 3) (omega arith)) ∙ ap (λ (ys : List ℕ). get_or ys (x - 3) 0) e ∙ get_or-zeros 4 (x - 3))
