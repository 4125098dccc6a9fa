use Rattle.std.proofs.Common.{List, ℕ, ap, ◌∙◌}
use Rattle.protocol.specs.Names.{same_name}
use Rattle.find.proofs.Names.{same-bytes}
use Rattle.find.proofs.has_name.Goals as goal

pub returns : goal.returns
returns c = c.eq.ensures ∙ same-bytes _ _ ∙ ap (λ (x : List ℕ). same_name x c.args.name.now) c.name_of.ensures.0
