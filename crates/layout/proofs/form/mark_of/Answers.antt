use borrow.Author.Tests.{eq-eqb, ne_eqb}
use Rattle.layout.specs.Marks.{mark_of}
use Rattle.layout.proofs.form.mark_of.Goals as goal

pub returns-then-front-eq1 : goal.returns-then-front-eq1
unfolding mark_of
returns-then-front-eq1 c = rw (eq-eqb _ 1 c.if-front-eq1.true)

pub returns-else-front-eq1 : goal.returns-else-front-eq1
unfolding mark_of
returns-else-front-eq1 c = rw (ne_eqb _ 1 c.if-front-eq1.false)
