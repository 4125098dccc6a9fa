-- What an action on a net's bytes answers, and the bytes that it leaves: those of the rule. "A refusal .. changes no lent byte".
use Rattle.std.specs.Prelude.{◌≡◌, Bool, true, false, cond, List, ℕ, eqb}
use Rattle.protocol.specs.Net.{Net}
use Rattle.protocol.specs.Cases.{case_number, no_case}
use Rattle.protocol.specs.Rules.{Traffic, no_traffic, one_sent, one_lost, Rule}
use Rattle.protocol.specs.Steps.{verdict}
use Rattle.net.specs.Encode.{bytes_like}
use Rattle.action.specs.declared.Answer.{Answer}
use Rattle.action.specs.declared.Answer.TheVariants.{Refused, Changed, Sent, Answered, Heard, Lost}

-- what an answer says: whether the action is accepted, and its traffic
abbrev pub accepted? : Answer → Bool
accepted? Refused = false
accepted? Changed = true
accepted? Sent = true
accepted? Answered = true
accepted? (Heard k) = true
accepted? Lost = true

abbrev pub traffic_of : Answer → Traffic
traffic_of Refused = no_traffic
traffic_of Changed = no_traffic
traffic_of Sent = one_sent
traffic_of Answered = record { sent = 1; delivered = 1; lost = 0; case = no_case }
traffic_of (Heard k) = record { sent = 0; delivered = 1; lost = 0; case = case_number k }
traffic_of Lost = one_lost

-- what is left of l where a rule with this verdict is applied
unfoldable pub bytes_after : ℕ → List ℕ → Net → List ℕ
bytes_after verdict l next = cond (eqb verdict 0) (bytes_like l next) l

-- r and l' are what comes of l by a rule with this verdict
pub record Ended (verdict : ℕ) (R : Rule Net) (l : List ℕ) (r : Answer) (l' : List ℕ) : Type 0 where
  pub accepted : accepted? r ≡ eqb verdict 0
  pub traffic : verdict ≡ 0 → traffic_of r ≡ R.traffic
  pub bytes : l' ≡ bytes_after verdict l R.next

abbrev pub ActionEnd : Rule Net → List ℕ → Answer → List ℕ → Type 0
ActionEnd R = Ended (verdict R) R
