-- One step more in a tally.
use Rattle.std.specs.Prelude.{cond, ℕ, ◌+◌, ◌≤◌}
use Rattle.protocol.specs.declared.Case.{Case}
use Rattle.protocol.specs.declared.Replies.{Replies}
use Rattle.protocol.specs.declared.Tally.{Tally}
use Rattle.protocol.specs.Rules.{Traffic}
use Rattle.protocol.specs.Runs.{case_count, count_case, count_refused}
use Rattle.action.specs.declared.Answer.{Answer}
use Rattle.action.specs.Inner.Ends.{accepted?, traffic_of}

abbrev pub count_traffic : Tally → Traffic → Tally
count_traffic t m = record {
  accepted = t.accepted + 1;
  refused = t.refused;
  sent = t.sent + m.sent;
  delivered = t.delivered + m.delivered;
  lost = t.lost + m.lost;
  replies = count_case t.replies m.case;
}

unfoldable pub counted : Tally → Answer → Tally
counted t d = cond (accepted? d) (count_traffic t (traffic_of d)) (count_refused t)

-- no count is over k: so that one more fits
abbrev pub RepliesUpTo : ℕ → Replies → Type 0
RepliesUpTo k r = (x : Case) → case_count r x ≤ k

pub record CountsUpTo (k : ℕ) (t : Tally) : Type 0 where
  pub accepted : t.accepted ≤ k
  pub refused : t.refused ≤ k
  pub sent : t.sent ≤ k
  pub delivered : t.delivered ≤ k
  pub lost : t.lost ≤ k
  pub replies : RepliesUpTo k t.replies
