use Rattle.std.proofs.Common.{ℕ, not, get_or, refl, ◌∙◌, arith, rules}
use Rattle.bits.proofs.Below.{all_is}
use Rattle.protocol.specs.Entries.{is_of}
use Rattle.protocol.specs.Rules.{no_message}
use Rattle.channel.specs.Messages.{messages_of}
use Rattle.channel.proofs.Messages.{none-below}
use Rattle.channel.proofs.none_of.Goals as goal

pub returns : goal.returns
returns c =
    let a = c.args in
    let ms = messages_of a.ch.now in
    all_is _ (λ (i : ℕ). not (is_of a.kind a.group (get_or ms i no_message))) _ c.from.result (λ i b f' k. search rules) _ _ refl _ c.all.ensures.ran
    ∙ none-below a.kind a.group ms c.from.result (omega arith)
