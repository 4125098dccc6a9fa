use Rattle.std.proofs.Common.{sym, ◌∙◌, arith}
use Rattle.text.specs.Text.{text, in_gap}
use Rattle.text.proofs.Puts.{within_of}
use Rattle.text.proofs.put_in_gap.Goals as goal

pub returns-then-is_nil : goal.returns-then-is_nil
unfolding text in_gap
returns-then-is_nil c = rw (sym c.is_nil.ensures ∙ c.if-is_nil.true) (within_of c.put_byte.ensures.wrote (omega arith))

pub returns-else-is_nil : goal.returns-else-is_nil
unfolding in_gap
returns-else-is_nil c = rw (sym c.is_nil.ensures ∙ c.if-is_nil.false) c.put_number.ensures
