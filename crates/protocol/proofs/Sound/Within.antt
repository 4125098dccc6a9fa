-- The core of a net of another version, whose entries and messages contain those of version 1: `body` and `word` take them out. What an
-- action does to such an entry or channel, it does to what is within, so that the laws of Core, Moves and Posts serve every version.
use mathlib.Core.Path.{sym, ap, subst, ◌∙◌}
use mathlib.Core.Bool.{Bool}
use mathlib.Core.List.{List, [], ◌∷◌, ◌++◌, map}
use Prim.Native.Nat.{ℕ}
use Rattle.protocol.specs.declared.Entry.{Entry}
use Rattle.protocol.specs.declared.Message.{Message}
use Rattle.protocol.specs.Net.{upd, upd2, remove_at}
use Rattle.protocol.proofs.Laws.Maps.{upd-map, upd2-map, map-append, map-remove_at}
use Rattle.protocol.proofs.Laws.Messages.{taken, sent}
use Rattle.protocol.proofs.Sound.Core.{Core}

module _ {E : Type 0} (body : E → Entry) where
  abbrev pub bodies : (ℕ → E) → ℕ → Entry
  bodies F p = body (F p)

  -- one entry anew
  pub core-put : {g : ℕ} {R : ℕ → Bool} {C : ℕ → ℕ → List Message} (F : ℕ → E) (p : ℕ) (e : E) → Core g R (upd (bodies F) p (body e)) C → Core g R (bodies (upd F p e)) C
  core-put {g} {R} {C} F p e = subst (λ (G : ℕ → Entry). Core g R G C) (sym (upd-map body F p e))

module _ {M : Type 0} (word : M → Message) where
  abbrev pub words : (ℕ → ℕ → List M) → ℕ → ℕ → List Message
  words C s d = map word (C s d)

  -- a message is taken out, and one goes out
  pub core-taken : {g : ℕ} {R : ℕ → Bool} {F : ℕ → Entry} (C : ℕ → ℕ → List M) (s d i : ℕ) → Core g R F (taken (words C) s d i)
      → Core g R F (words (upd2 C s d (remove_at i (C s d))))
  core-taken {g} {R} {F} C s d i = subst (Core g R F) (sym (upd2-map (map word) C s d _ ∙ ap (upd2 (words C) s d) (map-remove_at word i (C s d))))

  pub core-sent : {g : ℕ} {R : ℕ → Bool} {F : ℕ → Entry} (C : ℕ → ℕ → List M) (s d : ℕ) (m : M) → Core g R F (sent (words C) s d (word m))
      → Core g R F (words (upd2 C s d (C s d ++ (m ∷ []))))
  core-sent {g} {R} {F} C s d m = subst (Core g R F) (sym (upd2-map (map word) C s d _ ∙ ap (upd2 (words C) s d) (map-append word (C s d) (m ∷ []))))
