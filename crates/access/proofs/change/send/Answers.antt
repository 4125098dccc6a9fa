use Rattle.std.proofs.Common.{◌≡◌, ℕ, ◌+◌, ◌-◌, List, [], ◌∷◌, ◌++◌, ap, ◌∙◌, arith}
use Rattle.bits.proofs.Parts.{back}
use Rattle.protocol.specs.declared.Message.{Message}
use Rattle.protocol.specs.Net.{send}
use Rattle.protocol.proofs.Laws.Maps.{length-snoc}
use Rattle.channel.specs.Messages.{channel_bytes}
use Rattle.layout.specs.Layout.{channel_size, channel_at}
use Rattle.net.specs.View.{view}
use Rattle.access.proofs.Laws.{channel-lent, channel-back}
use Rattle.access.proofs.change.send.Goals as goal

pub push-requires : goal.push-requires
push-requires c =
    let a = c.args in
    let r = c.requires in
    let at : c.channel_at-at.result ≡ channel_at a.s a.d = omega arith in
    let ch = channel-lent a.net.now r.net a.s a.d _ r.s_bound.0 r.s_bound.1 at in
    record { channel = ch.0; ch_len_bound = rw ch.1 r.s_bound.2 }

pub returns : goal.returns
unfolding send
returns c =
    let a = c.args in
    let r = c.requires in
    let i = c.channel_at-at.result in
    let ms = (view a.net.now).channel a.s a.d in
    let at : i ≡ channel_at a.s a.d = omega arith in
    let ch = channel-lent a.net.now r.net a.s a.d i r.s_bound.0 r.s_bound.1 at in
    ap (λ (ys : List ℕ). back i (i + channel_size - i) a.net.now ys)
    (c.push.ensures ∙ ap (λ (l : List Message). channel_bytes (l ++ (a.m ∷ []))) ch.1)
    ∙ channel-back a.net.now r.net a.s a.d i r.s_bound.0 r.s_bound.1 at (ms ++ (a.m ∷ [])) (omega (arith, r.s_bound.2, length-snoc ms a.m))
