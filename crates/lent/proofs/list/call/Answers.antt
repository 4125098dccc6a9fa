use Rattle.std.proofs.Common.{◌*◌, ℕ, take, refl, ap, ◌∙◌}
use Rattle.std.proofs.lemmas.List.{length-take-le}
use Rattle.lent.proofs.list.call.Goals as goal

pub returns : goal.returns
returns c =
    let k = c.call_bytes-k.result in
    let w = c.call_bytes-k.ensures in
    (w.called, w.after c.args.list.now _ refl (c.fill.ensures ∙ ap (λ (n : ℕ). take (3 * n) k.bytes) (length-take-le k.fill c.args.list.now w.within.0)))
