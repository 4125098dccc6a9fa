-- A run: the steps of a script in turn, and their tally.
use Rattle.std.specs.Prelude.{Bool, cond, ◌&&◌, List, ℕ, zero, suc, ◌+◌, ◌*◌, ◌/◌, ◌%◌, eqb, leb, length, get_or}
use Rattle.bits.specs.Sums.{bit}
use Rattle.protocol.specs.declared.Case.{Case}
use Rattle.protocol.specs.declared.Case.TheVariants.{Adopted, NotTentative, Unconnected, NotGreater}
use Rattle.protocol.specs.declared.Replies.{Replies}
use Rattle.protocol.specs.declared.Tally.{Tally}
use Rattle.protocol.specs.Net.{Net, longest_script}
use Rattle.protocol.specs.Cases.{case_number}
use Rattle.protocol.specs.Rules.{Rule, oldest}
use Rattle.protocol.specs.Steps.{or_else, rule, outcome, step, case_heard}

-- "one count for each case", and the count of a case
abbrev pub replies_by : (Case → ℕ) → Replies
replies_by n = record { adopted = n Adopted; not_tentative = n NotTentative; unconnected = n Unconnected; not_greater = n NotGreater }

unfoldable pub case_count : Replies → Case → ℕ
case_count r Adopted = r.adopted
case_count r NotTentative = r.not_tentative
case_count r Unconnected = r.unconnected
case_count r NotGreater = r.not_greater

abbrev pub no_tally : Tally
no_tally = record { accepted = 0; refused = 0; sent = 0; delivered = 0; lost = 0; replies = replies_by (λ _. 0) }

-- one more in the count of the case of number k: in none where no reply is heard
unfoldable pub count_case : Replies → ℕ → Replies
count_case r k = replies_by (λ x. cond (eqb k (case_number x)) (case_count r x + 1) (case_count r x))

-- what an accepted step adds to the tally, and a refused one
abbrev pub count_accepted : Tally → Rule Net → Tally
count_accepted t R = record {
  accepted = t.accepted + 1;
  refused = t.refused;
  sent = t.sent + R.traffic.sent;
  delivered = t.delivered + R.traffic.delivered;
  lost = t.lost + R.traffic.lost;
  replies = count_case t.replies R.traffic.case;
}

abbrev pub count_refused : Tally → Tally
count_refused t = record {
  accepted = t.accepted;
  refused = t.refused + 1;
  sent = t.sent;
  delivered = t.delivered;
  lost = t.lost;
  replies = t.replies;
}

pub record RunState : Type 0 where
  pub net : Net
  pub tally : Tally

-- one step more: "a step refused is counted and passed over"
unfoldable pub then : RunState → ℕ → ℕ → ℕ → ℕ → RunState
then R k a b c = record {
  net = step R.net k a b c;
  tally = cond (eqb (outcome R.net k a b c) 0) (count_accepted R.tally (rule R.net k a b c)) (count_refused R.tally);
}

-- "A script is 4 bytes a step": f of the action and the operands a, b, c of step i
abbrev pub at_step : {A : Type 0} → List ℕ → ℕ → (ℕ → ℕ → ℕ → ℕ → A) → A
at_step s i f = f (get_or s (4 * i) 0) (get_or s (4 * i + 1) 0) (get_or s (4 * i + 2) 0) (get_or s (4 * i + 3) 0)

-- after the first i steps of the script s
unfoldable pub after : Net → List ℕ → ℕ → RunState
after N s zero = record { net = N; tally = no_tally }
after N s (suc i) = at_step s i (then (after N s i))

-- 11: "script length is not a multiple of 4"; 12: "script longer than 16,384 bytes"
unfoldable pub length_outcome : ℕ → ℕ
length_outcome n = or_else (eqb (n % 4) 0) 11 (or_else (leb n longest_script) 12 0)

unfoldable pub script_outcome : List ℕ → ℕ
script_outcome s = length_outcome (length s)

-- "The run takes every step in turn". A refused run takes none
unfoldable pub run : Net → List ℕ → RunState
run N s = after N s (cond (eqb (script_outcome s) 0) (length s / 4) 0)

-- ---- what is counted
-- how many of the first i steps are so, each asked of the net that it finds
unfoldable pub how_many : (Net → ℕ → ℕ → ℕ → ℕ → Bool) → Net → List ℕ → ℕ → ℕ
how_many so N s zero = 0
how_many so N s (suc i) = how_many so N s i + bit (at_step s i (so (after N s i).net))

-- a message of this kind is delivered
unfoldable pub delivers : (kind : ℕ) → Net → ℕ → ℕ → ℕ → ℕ → Bool
delivers kind N k a b c = eqb k 4 && eqb (outcome N k a b c) 0 && eqb (oldest N.channel a b).kind kind

-- a reply of this case is heard
unfoldable pub hears : Case → Net → ℕ → ℕ → ℕ → ℕ → Bool
hears x N k a b c = eqb (case_heard N k a b c) (case_number x)

-- the four counts together
abbrev pub all_replies : Replies → ℕ
all_replies r = case_count r Adopted + case_count r NotTentative + case_count r Unconnected + case_count r NotGreater
