use Rattle.std.proofs.Common.{sym, ap, ◌∙◌, arith}
use Rattle.layout.specs.Layout.{root}
use Rattle.net.specs.View.{view}
use Rattle.forms.proofs.Plan.Shown.{plan-root}
use Rattle.net.proofs.Forms.{seen}
use Rattle.access.proofs.read.NetBytes.root_of.Goals as goal

pub returns : goal.returns
unfolding view
returns c =
    let n = c.args.self.now in
    let l = n.bytes.now in
    let e = c.root.ensures ∙ ap (root l) c.from.ensures ∙ sym (plan-root l c.args.g (omega arith)) in
    (e, rw e ((seen _ l n.is_net.shape).plan.roots c.args.g c.requires))
