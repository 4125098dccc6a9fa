-- A channel's bytes: a count, then so many slots of w bytes, oldest first, unused slots zero. Over any capacity and width.
use Rattle.std.specs.Prelude.{List, [], ◌∷◌, ◌++◌, map, ℕ, zero, suc, ◌*◌, ◌-◌, length, take, drop, get_or, replicate}

-- the first n slots of w bytes
unfoldable pub slots : ℕ → ℕ → List ℕ → List (List ℕ)
slots w zero s = []
slots w (suc n) s = take w s ∷ slots w n (drop w s)

-- one after the other
unfoldable pub flat : List (List ℕ) → List ℕ
flat [] = []
flat (m ∷ ms) = m ++ flat ms

-- the bytes of a channel that holds ms
unfoldable pub laid : ℕ → ℕ → List (List ℕ) → List ℕ
laid most w ms = length ms ∷ (flat ms ++ replicate ((most - length ms) * w) 0)

-- the slots in use of a channel's bytes
unfoldable pub in_use : ℕ → List ℕ → List (List ℕ)
in_use w b = slots w (get_or b 0 0) (drop 1 b)

-- ---- things in slots: `out` writes one, `into` reads it
module _ {A : Type 0} where
  -- the things of a channel's bytes, oldest first
  abbrev pub read_all : (w : ℕ) → (List ℕ → A) → List ℕ → List A
  read_all w into b = map into (in_use w b)

  -- the bytes of a channel that holds these things
  abbrev pub write_all : (most w : ℕ) → (A → List ℕ) → List A → List ℕ
  write_all most w out l = laid most w (map out l)
