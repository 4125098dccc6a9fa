-- What the plan in front shows of a group or a station that is used, and of one that is not.
use mathlib.Core.Path.{◌≡◌}
use mathlib.Core.List.{List, []}
use Prim.Native.Nat.{ℕ, ◌≤◌, ◌<◌}
use borrow.Author.Tests.{lt-ltb, le-ltb}
use Rattle.bits.specs.Parts.{part}
use Rattle.layout.specs.Layout.{stations, groups, group_at, root, neighbours}
use Rattle.forms.specs.Plans.{name_of, plan_in}

module _ (l : List ℕ) where
  pub plan-name : (g : ℕ) → g < groups l → (plan_in l).name g ≡ name_of (part 17 l (group_at g))
  unfolding plan_in
  plan-name g h = rw (lt-ltb g (groups l) h)

  pub plan-root : (g : ℕ) → g < groups l → (plan_in l).root g ≡ root l g
  unfolding plan_in
  plan-root g h = rw (lt-ltb g (groups l) h)

  pub plan-mask : (p : ℕ) → p < stations l → (plan_in l).neighbours p ≡ neighbours l p
  unfolding plan_in
  plan-mask p h = rw (lt-ltb p (stations l) h)

  pub no-name : (g : ℕ) → groups l ≤ g → (plan_in l).name g ≡ []
  unfolding plan_in
  no-name g h = rw (le-ltb g (groups l) h)

  pub no-root : (g : ℕ) → groups l ≤ g → (plan_in l).root g ≡ 0
  unfolding plan_in
  no-root g h = rw (le-ltb g (groups l) h)

  pub no-mask : (p : ℕ) → stations l ≤ p → (plan_in l).neighbours p ≡ 0
  unfolding plan_in
  no-mask p h = rw (le-ltb p (stations l) h)
