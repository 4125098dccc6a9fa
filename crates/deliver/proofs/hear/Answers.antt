use Rattle.std.proofs.Common.{◌<◌, sym, subst, ◌∙◌, length}
use Rattle.protocol.specs.Net.{Net, set_entry, set_channel, take_at}
use Rattle.protocol.specs.Rules.{heard}
use Rattle.net.specs.View.{view}
use Rattle.net.specs.Encode.{bytes_like}
use Rattle.net.proofs.Forms.{seen}
use Rattle.access.proofs.Laws.{is-net-after}
use Rattle.deliver.proofs.Takes.{sender, receiver, hears}
use Rattle.deliver.proofs.hear.Goals as goal

pub take_at-requires : goal.take_at-requires
unfolding heard set_entry
take_at-requires c =
    let a = c.args in
    let N = view a.net.now in
    let H = seen _ _ c.requires.net.shape in
    let O = c.requires.may_deliver in
    let after = is-net-after _ _ _ (hears N H a.s a.d O a.reply c.requires.reply_value) c.listen-case.ensures.1 in
    record {
      net = after.0;
      s_bound = subst (λ (M : Net). (a.s < M.stations) × (a.d < M.stations) × (0 < length (M.channel a.s a.d))) (sym after.1)
          (sender N H a.s a.d O, receiver N H a.s a.d O, O.some);
    }

pub returns : goal.returns
unfolding heard set_entry take_at set_channel
returns c =
    let a = c.args in
    let N = view a.net.now in
    let H = seen _ _ c.requires.net.shape in
    let O = c.requires.may_deliver in
    let after = is-net-after _ _ _ (hears N H a.s a.d O a.reply c.requires.reply_value) c.listen-case.ensures.1 in
    (c.listen-case.ensures.0, c.take_at.ensures ∙ after.2 _ ∙ (λ i. bytes_like a.net.now (take_at (after.1 i) a.s a.d 0)))
