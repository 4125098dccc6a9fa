-- One step: its outcome, the case of the reply that it hears, and the net that it leaves.
use Rattle.std.specs.Prelude.{Bool, true, false, cond, ◌&&◌, ℕ, ◌-◌, eqb, ltb, leb, get_or}
use Rattle.protocol.specs.Net.{Net}
use Rattle.protocol.specs.Cases.{no_case}
use Rattle.protocol.specs.Rules.{no_traffic, Rule, rules}

-- the number k where a test fails, and else the rest
abbrev pub or_else : Bool → ℕ → ℕ → ℕ
or_else true k rest = rest
or_else false k rest = k

module _ {T : Type 0} where
  -- "Tests are made in rising number": the first that fails gives its number, and 0 is "accepted"
  unfoldable pub verdict : Rule T → ℕ
  verdict R = or_else R.operands 3 (or_else R.enabled 4 (or_else R.clock_room 5 (or_else R.send_room 6 0)))

  -- what stands where there is no action: it is never accepted
  abbrev pub no_rule : T → Rule T
  no_rule N = record {
    operands = false;
    enabled = false;
    clock_room = false;
    send_room = false;
    traffic = no_traffic;
    next = N;
  }

-- action k
unfoldable pub rule : Net → ℕ → ℕ → ℕ → ℕ → Rule Net
rule N k a b c = get_or (rules N a b c) (k - 1) (no_rule N)

-- 2: "action number is 0 or above 9"
abbrev pub action? : ℕ → Bool
action? k = ltb 0 k && leb k 9

unfoldable pub outcome : Net → ℕ → ℕ → ℕ → ℕ → ℕ
outcome N k a b c = or_else (action? k) 2 (verdict (rule N k a b c))

-- a refused step changes nothing
unfoldable pub step : Net → ℕ → ℕ → ℕ → ℕ → Net
step N k a b c = cond (eqb (outcome N k a b c) 0) (rule N k a b c).next N

-- which case the reply that is heard is, by its number: 0 where none is heard, and beside a refusal
unfoldable pub case_heard : Net → ℕ → ℕ → ℕ → ℕ → ℕ
case_heard N k a b c = cond (eqb (outcome N k a b c) 0) (rule N k a b c).traffic.case no_case
