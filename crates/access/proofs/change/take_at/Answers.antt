use Rattle.std.proofs.Common.{◌≡◌, ℕ, ◌+◌, ◌-◌, List, ap, ◌∙◌, arith}
use Rattle.bits.proofs.Parts.{back}
use Rattle.protocol.specs.Net.{remove_at, take_at}
use Rattle.protocol.proofs.Laws.Maps.{length-remove}
use Rattle.channel.specs.Messages.{channel_bytes}
use Rattle.layout.specs.Layout.{channel_size, channel_at}
use Rattle.net.specs.View.{view}
use Rattle.net.proofs.Forms.{seen}
use Rattle.access.proofs.Laws.{channel-lent, channel-back}
use Rattle.access.proofs.change.take_at.Goals as goal

pub remove_at-requires : goal.remove_at-requires
remove_at-requires c =
    let a = c.args in
    let r = c.requires in
    let at : c.channel_at-at.result ≡ channel_at a.s a.d = omega arith in
    let ch = channel-lent a.net.now r.net a.s a.d _ r.s_bound.0 r.s_bound.1 at in
    record { channel = ch.0; i_in_bounds = rw (ch.1, c.from-3.ensures) r.s_bound.2 }

pub returns : goal.returns
unfolding take_at
returns c =
    let a = c.args in
    let r = c.requires in
    let i = c.channel_at-at.result in
    let ms = (view a.net.now).channel a.s a.d in
    let at : i ≡ channel_at a.s a.d = omega arith in
    let ch = channel-lent a.net.now r.net a.s a.d i r.s_bound.0 r.s_bound.1 at in
    ap (λ (ys : List ℕ). back i (i + channel_size - i) a.net.now ys)
    (c.remove_at.ensures ∙ (λ j. channel_bytes (remove_at (c.from-3.ensures j) (ch.1 j))))
    ∙ channel-back a.net.now r.net a.s a.d i r.s_bound.0 r.s_bound.1 at (remove_at a.i ms)
    (omega (arith, length-remove a.i ms, ((seen _ _ r.net.shape).channels a.s a.d).at_most))
