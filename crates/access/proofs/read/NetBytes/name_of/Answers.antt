use Rattle.std.proofs.Common.{ℕ, ◌+◌, ap, ◌∙◌}
use Rattle.layout.specs.Layout.{group_at, name_length}
use Rattle.access.proofs.Laws.{name-is}
use Rattle.access.proofs.read.NetBytes.name_of.Goals as goal

pub returns : goal.returns
returns c =
    let n = c.args.self.now in
    name-is n.bytes.now n.is_net c.args.g _ _ c.requires
    (ap (λ (k : ℕ). k + 1) (c.group_at-at.ensures.0 ∙ ap group_at c.from-g.ensures))
    (c.from.ensures ∙ c.name_length-n.ensures ∙ ap (name_length n.bytes.now) c.from-g.ensures)
