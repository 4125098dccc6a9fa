-- A message is taken out of a channel, or goes out: what keeps the core.
use mathlib.Core.Path.{◌≡◌}
use mathlib.Core.Logic.{◌≢◌}
use mathlib.Core.Bool.{Bool, true}
use mathlib.Core.List.{List}
use Prim.Native.Nat.{ℕ, ◌+◌, ◌≤◌}
use native.Mathlib.Omega.{arith}
use Rattle.bits.specs.Sums.{bit}
use Rattle.bits.specs.Masks.{has}
use Rattle.protocol.specs.declared.Entry.{Entry}
use Rattle.protocol.specs.declared.Message.{Message}
use Rattle.protocol.specs.Net.{request, reply}
use Rattle.protocol.specs.Entries.{is_of, count_of, under_way}
use Rattle.protocol.specs.Shaped.{All}
use Rattle.protocol.proofs.Laws.Maps.{upd2-all, All-snoc, All-remove}
use Rattle.protocol.proofs.Laws.Messages.{bit_le, is_of-kind, is_of-group, count-snoc, taken, sent, taken-le, sent-same}
use Rattle.protocol.proofs.Sound.Core.{Word, Core}

module _ {g : ℕ} {R : ℕ → Bool} {E : ℕ → Entry} {C : ℕ → ℕ → List Message} (S : Core g R E C) where
  rechannel : (D : ℕ → ℕ → List Message) → ((p q : ℕ) → under_way D g p q ≤ bit (has (E p).waiting q)) → ((q p : ℕ) → All (Word g (R q) (E q) p) (D q p))
      → Core g R E D
  rechannel D calls words = record { root_parent = S.root_parent; calls = calls; agreed = S.agreed; words = words; reaches = S.reaches }

  module _ (s d : ℕ) where
    pub taking : (i : ℕ) → Core g R E (taken C s d i)
    unfolding under_way
    taking i = rechannel (taken C s d i)
        (λ p q. omega (arith, S.calls p q, taken-le C s d request g i p q, taken-le C s d reply g i q p))
        (upd2-all (λ q p (l : List Message). All (Word g (R q) (E q) p) l) (All-remove i (S.words s d)) (λ q p _. S.words q p))

    sent-words : (m : Message) → Word g (R s) (E s) d m → (q p : ℕ) → All (Word g (R q) (E q) p) (sent C s d m q p)
    sent-words m w = upd2-all (λ q p (l : List Message). All (Word g (R q) (E q) p) l) (All-snoc m (S.words s d) w) (λ q p _. S.words q p)

    -- a message of another group
    pub sending-other : (m : Message) → m.group ≢ g → Core g R E (sent C s d m)
    unfolding under_way
    sending-other m n = rechannel (sent C s d m)
        (λ p q. omega (arith, S.calls p q, sent-same C s d request g m (is_of-group request g m n) p q, sent-same C s d reply g m (is_of-group reply g m n) q p))
        (sent-words m (λ _ i. absurd (n i)))

    -- a request goes out where the station waits and nothing is under way
    pub sending-request : (m : Message) → m.kind ≡ request → has (E s).waiting d ≡ true → under_way C g s d ≡ 0 → Core g R E (sent C s d m)
    unfolding under_way
    sending-request m k w z = rechannel (sent C s d m)
        (λ p q. omega (arith, requests p q, sent-same C s d reply g m (is_of-kind reply g m (λ i. omega arith)) q p))
        (sent-words m (λ i. absurd (omega arith)))
      where
        requests : (p q : ℕ) → count_of request g (sent C s d m p q) + count_of reply g (C q p) ≤ bit (has (E p).waiting q)
        requests = upd2-all (λ p q (l : List Message). count_of request g l + count_of reply g (C q p) ≤ bit (has (E p).waiting q))
            (rw w (omega (arith, count-snoc request g (C s d) m, bit_le (is_of request g m))))
            (λ p q _. S.calls p q)

    -- a reply goes out where the receiver waits and nothing is under way
    pub sending-reply : (m : Message) → m.kind ≡ reply → has (E d).waiting s ≡ true → under_way C g d s ≡ 0 → Word g (R s) (E s) d m → Core g R E (sent C s d m)
    unfolding under_way
    sending-reply m k w z v = rechannel (sent C s d m)
        (λ p q. omega (arith, replies q p, sent-same C s d request g m (is_of-kind request g m (λ i. omega arith)) p q))
        (sent-words m v)
      where
        replies : (q p : ℕ) → count_of request g (C p q) + count_of reply g (sent C s d m q p) ≤ bit (has (E p).waiting q)
        replies = upd2-all (λ q p (l : List Message). count_of request g (C p q) + count_of reply g l ≤ bit (has (E p).waiting q))
            (rw w (omega (arith, count-snoc reply g (C s d) m, bit_le (is_of reply g m))))
            (λ q p _. S.calls p q)
