-- A plan, and the fresh net that is made of it.
use Rattle.std.specs.Prelude.{List, [], ℕ}
use Rattle.protocol.specs.declared.Entry.{Entry}
use Rattle.protocol.specs.Net.{NetOf, Net, nil}

-- what a net never changes: its stations, groups and cables
pub record Plan : Type 0 where
  pub stations : ℕ
  pub groups : ℕ
  pub name : ℕ → List ℕ
  pub root : ℕ → ℕ
  pub neighbours : ℕ → ℕ

-- the entry of a station that has heard nothing yet: parents are nil; member, clock, children and waiting are zero
abbrev pub blank : Entry
blank = record { parent = nil; tentative = nil; member = 0; clock = 0; children = 0; waiting = 0 }

-- "A fresh net keeps the plan's groups and cables. Routes and parents are nil; members, clocks, children, waiting and
-- channels are zero"
unfoldable pub fresh : Plan → Net
fresh P = record {
  stations = P.stations;
  groups = P.groups;
  name = P.name;
  root = P.root;
  neighbours = P.neighbours;
  route = λ p d. nil;
  entry = λ g p. blank;
  channel = λ s d. [];
}

-- the plan that a net keeps
abbrev pub plan_of : {E M : Type 0} → NetOf E M → Plan
plan_of N = record { stations = N.stations; groups = N.groups; name = N.name; root = N.root; neighbours = N.neighbours }
