-- Bytes that hold a net, in any form: the plan in front and three tables behind it.
--     bytes-hold, hold-bytes    the bytes of a net hold it, and no others do
--     bytes_same                nets that are the same wherever something is used have the same bytes
use mathlib.Core.Path.{◌≡◌, sym, ap, ap₂, subst, ◌∙◌}
use mathlib.Core.List.{List, [], ◌++◌, append_assoc, append-nil}
use Prim.Native.Nat.{ℕ, ◌+◌, ◌<◌}
use native.Mathlib.Omega.{arith}
use lib.ListN.{length, length-append}
use Rattle.bits.specs.Parts.{part}
use Rattle.bits.proofs.Parts.{part-add, part-all}
use Rattle.protocol.specs.Net.{NetOf}
use Rattle.protocol.specs.Fresh.{Plan, plan_of}
use Rattle.protocol.specs.Shaped.{Version}
use Rattle.layout.specs.Layout.{plan_length}
use Rattle.forms.specs.Plans.{plan_bytes}
use Rattle.forms.specs.Tables.{cell}
use Rattle.forms.specs.Forms.{Form, routes_of, entries_of, channels_of, bytes_in}
use Rattle.forms.proofs.Plan.Holds.{HoldsPlan, length-plan_bytes, plan-holds, holds-plan}
use Rattle.forms.proofs.Grids.{laid-between}
use Rattle.forms.proofs.Tables.{HoldsIn, same}

pub record HoldsNet {E M : Type 0} {v : Version E M} (φ : Form v) (N : NetOf E M) (l : List ℕ) : Type 0 where
  pub long : length l ≡ φ.header.size
  pub plan : HoldsPlan (plan_of N) φ.header l
  pub routes : HoldsIn φ.routes N.stations N.stations N.route l
  pub entries : HoldsIn φ.entries N.groups N.stations N.entry l
  pub channels : HoldsIn φ.channels N.stations N.stations N.channel l

module _ {E M : Type 0} {v : Version E M} (φ : Form v) where
  module _ (N : NetOf E M) where
    -- ---- the pieces, one after the other, and where each begins
    abbrev P : List ℕ
    P = plan_bytes (plan_of N) φ.header

    abbrev R : List ℕ
    R = routes_of φ N

    abbrev T : List ℕ
    T = entries_of φ N

    abbrev C : List ℕ
    C = channels_of φ N

    begins : (plan_length ≡ φ.routes.grid.from) × (plan_length + length R ≡ φ.entries.grid.from)
        × (plan_length + length R + length T ≡ φ.channels.grid.from) × (plan_length + length R + length T + length C ≡ φ.header.size)
    begins =
        let r = φ.routes.grid.laid.long (cell φ.routes N.stations N.stations N.route) in
        let t = φ.entries.grid.laid.long (cell φ.entries N.groups N.stations N.entry) in
        let c = φ.channels.grid.laid.long (cell φ.channels N.stations N.stations N.channel) in
        let a = φ.first in let b = φ.second in let d = φ.third in let e = φ.last in (omega arith, omega arith, omega arith, omega arith)

    pub bytes-hold : HoldsNet φ N (bytes_in φ N)
    unfolding bytes_in
    bytes-hold =
        let p : length P ≡ plan_length = length-plan_bytes (plan_of N) φ.header in
        let s = begins in
        let pr : length (P ++ R) ≡ φ.entries.grid.from = omega (arith, length-append P R) in
        let prt : length ((P ++ R) ++ T) ≡ φ.channels.grid.from = omega (arith, length-append (P ++ R) T) in
        let two : P ++ (R ++ (T ++ C)) ≡ (P ++ R) ++ (T ++ C) = sym (append_assoc P R (T ++ C)) in
        let three : P ++ (R ++ (T ++ C)) ≡ ((P ++ R) ++ T) ++ (C ++ []) =
        two ∙ sym (append_assoc (P ++ R) T C) ∙ ap (λ (x : List ℕ). ((P ++ R) ++ T) ++ x) (sym (append-nil C)) in
        record {
          long = omega (arith, length-append P (R ++ (T ++ C)), length-append R (T ++ C), length-append T C);
          plan = plan-holds (plan_of N) φ.header (R ++ (T ++ C));
          routes = laid-between φ.routes.grid _ P (T ++ C) (omega arith);
          entries = λ i j hi hj. ap (λ (x : List ℕ). part φ.entries.grid.width x (φ.entries.grid.at i j)) two
              ∙ laid-between φ.entries.grid _ (P ++ R) C pr i j hi hj;
          channels = λ i j hi hj. ap (λ (x : List ℕ). part φ.channels.grid.width x (φ.channels.grid.at i j)) three
              ∙ laid-between φ.channels.grid _ ((P ++ R) ++ T) [] prt i j hi hj;
        }

    pub hold-bytes : (l : List ℕ) → HoldsNet φ N l → l ≡ bytes_in φ N
    unfolding bytes_in
    hold-bytes l K =
        let s = begins in
        let long = K.long in
        let size = φ.last in
        let n : length l ≡ plan_length + (length R + (length T + length C)) = omega arith in
        let i1 : 0 + plan_length ≡ φ.routes.grid.from = omega arith in
        let i2 : 0 + plan_length + length R ≡ φ.entries.grid.from = omega arith in
        let i3 : 0 + plan_length + length R + length T ≡ φ.channels.grid.from = omega arith in
        let b = φ.second in let c = φ.third in
        sym (part-all l) ∙ ap (λ (k : ℕ). part k l 0) n ∙ part-add plan_length (length R + (length T + length C)) l 0
        ∙ ap₂ ◌++◌ (sym (holds-plan (plan_of N) φ.header l K.plan))
        (part-add (length R) (length T + length C) l (0 + plan_length)
        ∙ ap₂ ◌++◌ (ap (part (length R) l) i1 ∙ sym (φ.routes.grid.laid.whole _ l K.routes (length R) (omega arith)))
        (part-add (length T) (length C) l (0 + plan_length + length R)
        ∙ ap₂ ◌++◌ (ap (part (length T) l) i2 ∙ sym (φ.entries.grid.laid.whole _ l K.entries (length T) (omega arith)))
        (ap (part (length C) l) i3 ∙ sym (φ.channels.grid.laid.whole _ l K.channels (length C) (omega arith)))))

  pub bytes_same : (N O : NetOf E M) → plan_of N ≡ plan_of O
      → ((p d : ℕ) → p < N.stations → d < N.stations → N.route p d ≡ O.route p d)
      → ((g p : ℕ) → g < N.groups → p < N.stations → N.entry g p ≡ O.entry g p)
      → ((s d : ℕ) → s < N.stations → d < N.stations → N.channel s d ≡ O.channel s d)
      → bytes_in φ N ≡ bytes_in φ O
  bytes_same N O e r w c =
      let l = bytes_in φ N in
      let H : HoldsNet φ N l = bytes-hold N in
      let st : N.stations ≡ O.stations = ap (λ (P : Plan). P.stations) e in
      let gr : N.groups ≡ O.groups = ap (λ (P : Plan). P.groups) e in
      hold-bytes O l (record {
        long = H.long;
        plan = subst (λ (P : Plan). HoldsPlan P φ.header l) e H.plan;
        routes = subst (λ (n : ℕ). HoldsIn φ.routes n n O.route l) st (same φ.routes _ _ N.route l H.routes O.route r);
        entries = subst (λ (n : ℕ). HoldsIn φ.entries O.groups n O.entry l) st (subst (λ (m : ℕ). HoldsIn φ.entries m N.stations O.entry l) gr
            (same φ.entries _ _ N.entry l H.entries O.entry w));
        channels = subst (λ (n : ℕ). HoldsIn φ.channels n n O.channel l) st (same φ.channels _ _ N.channel l H.channels O.channel c);
      })
