-- How a call ends: one law for each number.
use mathlib.Core.Path.{◌≡◌, refl}
use mathlib.Core.Logic.{◌≢◌}
use mathlib.Core.Bool.{true, false, ◌&&◌}
use mathlib.Core.List.{List}
use Prim.Native.Nat.{ℕ, suc, ◌-◌, ◌<◌}
use native.Mathlib.Omega.{arith}
use lib.Dec.{ltb}
use lib.ListN.{length}
use borrow.Author.Tests.{ltb-true, lt-ltb, eq-eqb, ne_eqb}
use Rattle.bits.proofs.Cases.{and_l, and_r, and_both}
use Rattle.tree.specs.Tree.{on_tree}
use Rattle.tree.specs.Reach.{reach}
use Rattle.tree.specs.Flood.{spread}
use Rattle.tree.proofs.Chains.{on-tree}
use Rattle.std.specs.Prelude.{Ok, Err}
use Rattle.protocol.specs.declared.Refusal.TheVariants.{NotANet, BadOperand, NotOnTree, WrongSize}
use Rattle.protocol.specs.Net.{Net, group?, station?}
use Rattle.protocol.specs.Calls.{tree_of, call_outcome, called, reach_list}
use Rattle.protocol.proofs.Calls.{tree-rooted, call-copies}
use Rattle.shape.specs.Shape.{shaped}
use Rattle.net.specs.View.{view}
use Rattle.access.specs.Inner.Nets.{IsNet}
use Rattle.visit.specs.Lists.{reach_bytes, list_length}
use Rattle.call.specs.Answers.{called_in, list_after_call, CallEnd}
use Rattle.net.proofs.Forms.{seen}

-- a group and a station of the net, as the test has them
pub both-in : (N : Net) (g c : ℕ) → g < N.groups → c < N.stations → (group? N g && station? N c) ≡ true
unfolding group? station?
both-in N g c h k = and_both _ _ (lt-ltb g N.groups h) (lt-ltb c N.stations k)

pub in_both : (N : Net) (g c : ℕ) → (group? N g && station? N c) ≡ true → (g < N.groups) × (c < N.stations)
unfolding group? station?
in_both N g c o = (ltb-true _ _ (and_l (ltb g N.groups) (ltb c N.stations) o), ltb-true _ _ (and_r (ltb g N.groups) (ltb c N.stations) o))

-- one more than the copies is the number reached
pub copies : (l : List ℕ) (R : IsNet l) (g c : ℕ) → g < (view l).groups → on_tree (tree_of (view l) g) c ≡ true → suc (length (spread (tree_of (view l) g) c)) ≡ length (reach (tree_of (view l) g))
copies l R g c h t = let H = seen _ l R.shape in call-copies (view l) H g h c ((on-tree (tree_of (view l) g) (tree-rooted (view l) H g h) c).1 t)

module _ (l : List ℕ) (g c : ℕ) (out : List ℕ) where
  pub ends-1 : shaped l ≡ false → CallEnd l g c out (Err NotANet) out
  unfolding called_in list_after_call
  ends-1 s = record { answer = rw s refl; list = rw s refl }

  module _ (s : shaped l ≡ true) where
    pub ends-3 : (group? (view l) g && station? (view l) c) ≡ false → CallEnd l g c out (Err BadOperand) out
    unfolding called_in list_after_call called call_outcome
    ends-3 o = record { answer = rw (s, o) refl; list = rw (s, o) refl }

    module _ (o : (group? (view l) g && station? (view l) c) ≡ true) where
      pub ends-10 : length out ≢ list_length → CallEnd l g c out (Err WrongSize) out
      unfolding called_in list_after_call called call_outcome
      ends-10 n = let f = ne_eqb _ _ n in record { answer = rw (s, o, f) refl; list = rw (s, o, f) refl }

      module _ (n : length out ≡ list_length) where
        pub ends-8 : on_tree (tree_of (view l) g) c ≡ false → CallEnd l g c out (Err NotOnTree) out
        unfolding called_in list_after_call called call_outcome
        ends-8 f = let e = eq-eqb _ _ n in record { answer = rw (s, o, e, f) refl; list = rw (s, o, e, f) refl }

        -- "copies is the number of passings-on in that definition, and is reached minus one"
        pub ends-0 : IsNet l → on_tree (tree_of (view l) g) c ≡ true → (r : ℕ) (out' : List ℕ) → r ≡ length (reach (tree_of (view l) g))
            → out' ≡ reach_bytes (reach_list (view l) g) → CallEnd l g c out (Ok (record { reached = r; copies = r - 1 })) out'
        unfolding called_in list_after_call called call_outcome
        ends-0 R t r out' i w =
            let e = eq-eqb _ _ n in
            let k : r - 1 ≡ length (spread (tree_of (view l) g) c) = omega (arith, copies l R g c (in_both (view l) g c o).0 t) in
            record { answer = rw (s, o, e, t) (λ x. record { outcome = 0; reached = i x; copies = k x }); list = rw (s, o, e, t) w }
