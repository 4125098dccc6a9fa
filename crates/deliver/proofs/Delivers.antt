-- A delivery ends accepted: a request answered, or a reply heard.
use mathlib.Core.Path.{◌≡◌, refl, ap, ◌∙◌}
use mathlib.Core.Logic.{◌≢◌}
use mathlib.Core.Bool.{true}
use mathlib.Core.List.{List}
use Prim.Native.Nat.{ℕ}
use borrow.Author.Tests.{ne_eqb}
use Rattle.protocol.specs.declared.Case.{Case}
use Rattle.protocol.specs.Net.{Net, request, take_at}
use Rattle.protocol.specs.Rules.{oldest, room?, answered, heard, case_at, deliver}
use Rattle.net.specs.Encode.{bytes_like}
use Rattle.action.specs.declared.Answer.TheVariants.{Answered, Heard}
use Rattle.action.specs.Inner.Ends.{traffic_of, ActionEnd}
use Rattle.action.proofs.Ends.{ends-0}

module _ (N : Net) (l : List ℕ) (s d c : ℕ) (o : (deliver N s d c).operands ≡ true) (e : (deliver N s d c).enabled ≡ true) where
  pub request-ends : {l' : List ℕ} → (oldest N.channel s d).kind ≡ request → room? N d s ≡ true
      → l' ≡ bytes_like l (answered (take_at N s d 0) (oldest N.channel s d).group s d)
      → ActionEnd (deliver N s d c) l Answered l'
  unfolding deliver
  request-ends k t b = ends-0 _ _ refl (rw k refl) (record { operands = o; enabled = e; clock_room = refl; send_room = rw k t }) (b ∙ rw k refl)

  pub reply-ends : {case : Case} {l' : List ℕ} → (oldest N.channel s d).kind ≢ request
      → case ≡ case_at N s d (oldest N.channel s d) → l' ≡ bytes_like l (heard (take_at N s d 0) s d (oldest N.channel s d))
      → ActionEnd (deliver N s d c) l (Heard case) l'
  unfolding deliver
  reply-ends k a b =
      let f = ne_eqb _ _ k in
      ends-0 _ _ refl (ap (λ (x : Case). traffic_of (Heard x)) a ∙ rw f refl) (record { operands = o; enabled = e; clock_room = refl; send_room = rw f refl }) (b ∙ rw f refl)
