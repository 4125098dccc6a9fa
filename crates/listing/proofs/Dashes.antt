-- What is a dash in print is nil in the net.
use mathlib.Core.Path.{◌≡◌, refl}
use Rattle.protocol.specs.Net.{nil}
use Rattle.text.specs.Text.{nil as dashed}

pub same-nil : dashed ≡ nil
same-nil = refl
