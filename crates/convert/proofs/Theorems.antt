-- What a conversion does, on any bytes and between any two forms.
--     converted-after    an accepted one leaves the net that was read, in the form that is written
--     converted-net      and so a well-shaped net there, that shows the same
--     refused-after      a refusal leaves every byte
--     back-again         there and back is where it began: the conversions are inverse to each other on nets
--     one_form           no bytes are a net in two forms
use mathlib.Core.Path.{◌≡◌, refl, sym, ap, ◌∙◌}
use mathlib.Core.Logic.{◌≢◌}
use mathlib.Core.Bool.{true}
use mathlib.Core.List.{List}
use Prim.Native.Nat.{ℕ}
use native.Mathlib.Omega.{arith}
use lib.Dec.{eqb}
use lib.ListN.{length}
use borrow.Author.Tests.{eq-eqb, ne_eqb}
use Rattle.protocol.proofs.Steps.Steps.{or_else-pass}
use Rattle.layout.specs.Layout.{net_length}
use Rattle.layout.specs.declared.form.Mark.{Mark}
use Rattle.shape.specs.Shape.{shaped_as}
use Rattle.shape.proofs.Nets.{marked}
use Rattle.net.specs.View.{view}
use Rattle.net.specs.Encode.{bytes_as}
use Rattle.net.proofs.Forms.{seen, view-bytes, stands}
use Rattle.convert.specs.Converts.{convert_outcome, after_convert}

-- a net in another form: well shaped there, and the same net
pub carried-net : (m n : Mark) (l : List ℕ) → shaped_as m l ≡ true → (shaped_as n (bytes_as n (view l)) ≡ true) × (view (bytes_as n (view l)) ≡ view l)
carried-net m n l s = stands n (view l) (bytes_as n (view l)) (seen m l s) refl

module _ (m n : Mark) (l out : List ℕ) where
  pub passed : convert_outcome m l out ≡ 0 → (shaped_as m l ≡ true) × (eqb (length out) net_length ≡ true)
  unfolding convert_outcome
  passed o =
      let s = or_else-pass (shaped_as m l) 1 _ 0 (λ i. omega arith) o in
      (s.0, (or_else-pass (eqb (length out) net_length) 10 0 0 (λ i. omega arith) s.1).0)

  pub converted-after : convert_outcome m l out ≡ 0 → after_convert m n l out ≡ bytes_as n (view l)
  unfolding after_convert
  converted-after o = rw (eq-eqb _ 0 o) refl

  pub converted-net : convert_outcome m l out ≡ 0 → (shaped_as n (after_convert m n l out) ≡ true) × (view (after_convert m n l out) ≡ view l)
  converted-net o = rw (converted-after o) (carried-net m n l (passed o).0)

  pub refused-after : convert_outcome m l out ≢ 0 → after_convert m n l out ≡ out
  unfolding after_convert
  refused-after o = rw (ne_eqb _ 0 o) refl

  -- back into any buffer: where the first conversion is accepted, the second, into one of the right size, leaves what was read
  pub back-again : (out' : List ℕ) → convert_outcome m l out ≡ 0 → convert_outcome n (after_convert m n l out) out' ≡ 0
      → after_convert n m (after_convert m n l out) out' ≡ l
  unfolding after_convert
  back-again out' o o' = rw (eq-eqb _ 0 o') (ap (bytes_as m) (converted-net o).1 ∙ view-bytes m l (passed o).0)

pub one_form : (m n : Mark) (l : List ℕ) → shaped_as m l ≡ true → shaped_as n l ≡ true → m ≡ n
one_form m n l s t = sym (marked m l s) ∙ marked n l t
