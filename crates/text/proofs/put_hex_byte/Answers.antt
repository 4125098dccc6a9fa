use Rattle.text.specs.Text.{hex_byte}
use Rattle.text.proofs.Puts.{◌then◌}
use Rattle.text.proofs.put_hex_byte.Goals as goal

pub returns : goal.returns
unfolding hex_byte
returns c = rw (c.hex_digit.ensures, c.hex_digit-2.ensures) at (c.put_byte-next.ensures then c.put_byte.ensures)
