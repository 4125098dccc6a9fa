use Rattle.std.proofs.Common.{sym, ◌∙◌}
use Rattle.text.specs.Text.{mask_item}
use Rattle.text.proofs.Puts.{within_none, ◌then◌}
use Rattle.text.proofs.put_mask_item.Goals as goal

pub returns-then-has : goal.returns-then-has
unfolding mask_item
returns-then-has c = rw (sym c.has.ensures ∙ c.if-has.true, sym c.from.ensures) (c.put_byte_if-next.ensures then c.put_number.ensures)

pub returns-else-has : goal.returns-else-has
unfolding mask_item
returns-else-has c = rw (sym c.has.ensures ∙ c.if-has.false) (within_none _ _ _)
