-- Agreed links and chains, over any parents and any lists of children.
use Rattle.std.specs.Prelude.{◌≡◌, Bool, true, false, ◌&&◌, ◌||◌, ℕ, zero, suc, ◌<◌, eqb}

-- 255 is "nil" wherever a station may be missing
abbrev pub nil : ℕ
nil = 255

-- what a group's stations say of each other: the root, each station's parent, and whether p lists j among its children
pub record Tree : Type 0 where
  pub stations : ℕ
  pub root : ℕ
  pub parent : ℕ → ℕ
  pub lists : ℕ → ℕ → Bool

-- "Station and parent agree when the parent lists the station": p is the parent of j and lists it
unfoldable pub agreed : Tree → ℕ → ℕ → Bool
agreed t p j = t.lists p j && eqb (t.parent j) p

-- "A chain is agreed when each hop is": an agreed chain of k hops from x to the root
pub data Chain (t : Tree) : ℕ → ℕ → Type 0 where
  here : Chain t t.root 0
  hop : {x k : ℕ} → agreed t (t.parent x) x ≡ true → Chain t (t.parent x) k → Chain t x (suc k)

-- "A station is on the tree if an agreed chain leads from it to the root; the root is, by a chain of no hops"
pub record OnTree (t : Tree) (x : ℕ) : Type 0 where
  pub hops : ℕ
  pub chain : Chain t x hops

-- the same as a test that ends: an agreed chain of fewer than d hops
unfoldable pub climbs : Tree → ℕ → ℕ → Bool
climbs t zero x = false
climbs t (suc d) x = eqb t.root x || (agreed t (t.parent x) x && climbs t d (t.parent x))

unfoldable pub on_tree : Tree → ℕ → Bool
on_tree t x = climbs t t.stations x

-- what a tree has to be for the theorems: children are stations, and the root is a station with no agreed parent
pub record Rooted (t : Tree) : Type 0 where
  pub low : (p j : ℕ) → agreed t p j ≡ true → j < t.stations
  pub station : t.root < t.stations
  pub top : agreed t (t.parent t.root) t.root ≡ false
