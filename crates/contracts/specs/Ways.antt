-- How a public function can end: its result, and what the lent things hold then, one or two of them. A contract admits some ends for
-- the bytes and numbers at entry. It determines the end if any two that it admits are the same.
use Rattle.std.specs.Prelude.{◌≡◌, Result}
use Rattle.protocol.specs.declared.Refusal.{Refusal}

abbrev pub Determines : {R : Type 0} → (R → Type 0) → Type 0
Determines {R} admits = (x y : R) → admits x → admits y → x ≡ y

abbrev pub Determines2 : {R A : Type 0} → (R → A → Type 0) → Type 0
Determines2 {R} {A} admits = (x y : R × A) → admits x.0 x.1 → admits y.0 y.1 → x ≡ y

abbrev pub Determines3 : {R A B : Type 0} → (R → A → B → Type 0) → Type 0
Determines3 {R} {A} {B} admits = (x y : R × A × B) → admits x.0 x.1 x.2 → admits y.0 y.1 y.2 → x ≡ y

-- the result of a function that tells nothing but why it refuses
abbrev pub Refusable : Type 0
Refusable = Result (Unit {0}) Refusal
