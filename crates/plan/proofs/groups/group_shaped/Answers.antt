use borrow.Author.Tests.{lt-leb, le-leb}
use Rattle.plan.specs.Planned.{group_shaped}
use Rattle.plan.proofs.groups.group_shaped.Goals as goal

pub returns-then-m-gt-LONGEST_NAME : goal.returns-then-m-gt-LONGEST_NAME
unfolding group_shaped
returns-then-m-gt-LONGEST_NAME c = simp (← c.name_length.ensures, ← c.from-m.ensures, lt-leb _ _ c.if-m-gt-LONGEST_NAME.true)

pub returns : goal.returns
unfolding group_shaped
returns c = simp (← c.name_length.ensures, ← c.from-m.ensures, le-leb _ _ c.if-m-gt-LONGEST_NAME.false) (cc)
