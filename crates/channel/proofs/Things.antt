-- Laws of things in slots, for any capacity and width, and any way to write and read a thing.
--     read-back, written_back    read of written, written of read
use mathlib.Core.Path.{◌≡◌, refl, ap, ◌∙◌}
use mathlib.Core.List.{List, [], ◌∷◌, map}
use Prim.Native.Nat.{ℕ, ◌+◌, ◌*◌, ◌≤◌}
use lib.ListN.{length, get_or, length-map}
use Rattle.protocol.specs.Shaped.{All, none, both}
use Rattle.channel.specs.Slots.{in_use, laid, read_all, write_all}
use Rattle.channel.specs.Inner.Channels.{Queue, Sized}
use Rattle.channel.proofs.Slots.{length-in-use, slots-of-bytes, bytes-of-slots, shaped-bytes}

-- there and back, one by one
pub map_back : {A B : Type 0} (f : A → B) (g : B → A) {l : List A} → All (λ x. g (f x) ≡ x) l → map g (map f l) ≡ l
map_back f g none = refl
map_back f g (both h hs) = λ i. h i ∷ map_back f g hs i

module _ {A : Type 0} (most w : ℕ) (out : A → List ℕ) (into : List ℕ → A) where
  pub length-read : (b : List ℕ) → length (read_all w into b) ≡ get_or b 0 0
  length-read b = length-map (in_use w b) into ∙ length-in-use w b

  pub written_back : (b : List ℕ) → Queue most w b → All (λ s. out (into s) ≡ s) (in_use w b) → write_all most w out (read_all w into b) ≡ b
  written_back b q h = ap (laid most w) (map_back into out h) ∙ bytes-of-slots most w b q

  -- where each is written in w bytes
  module _ (long : (x : A) → length (out x) ≡ w) where
    sized : (l : List A) → Sized w (map out l)
    sized [] = tt
    sized (x ∷ l) = (long x, sized l)

    pub slots-written : (l : List A) → in_use w (write_all most w out l) ≡ map out l
    slots-written l = slots-of-bytes most w (map out l) (sized l)

    pub queue-written : (l : List A) → length l ≤ most → Queue most w (write_all most w out l)
    queue-written l h = shaped-bytes most w (map out l) (sized l) (rw length-map h)

    pub length-written : (l : List A) → length l ≤ most → length (write_all most w out l) ≡ 1 + most * w
    length-written l h = (queue-written l h).len

    pub read_back : {l : List A} → All (λ x. into (out x) ≡ x) l → read_all w into (write_all most w out l) ≡ l
    read_back {l} h = ap (map into) (slots-written l) ∙ map_back out into h
