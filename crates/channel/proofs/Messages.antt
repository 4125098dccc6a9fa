-- Laws of channels as lists of messages.
--     removed-list, sent-list, nth-message    removing, sending and reading, said of the messages
use mathlib.Core.Path.{◌≡◌, refl, ap, sym, ◌∙◌, subst}
use mathlib.Core.List.{List, [], ◌∷◌, ◌++◌, map}
use Prim.Native.Nat.{ℕ, zero, suc, ◌+◌, ◌-◌, ◌*◌, ◌^◌, ◌≤◌, ◌<◌}
use native.Mathlib.Nat.{add-sub_cancel_left}
use native.Mathlib.Numerals.{add-one}
use native.Mathlib.Omega.{arith}
use mathlib.Core.Bool.{Bool, true, false, not, ◌&&◌}
use lib.Dec.{eqb}
use borrow.Author.Tests.{ne_eqb}
use Rattle.bits.specs.Below.{all_below}
use Rattle.bits.proofs.Below.{all_first}
use lib.ListN.{length, take, get_or, get_or-map}
use lib.Seq.{take-suc}
use Rattle.bits.specs.Sums.{bit}
use Rattle.bits.specs.Numbers.{Bytes, bytes, number, onto}
use Rattle.bits.specs.Parts.{part, number_at, splice}
use Rattle.bits.proofs.Numbers.{length-bytes, number-bytes}
use Rattle.bits.proofs.Parts.{lent, back, bytes-number_at, length_part, part-Bytes, part-lent, part-all, put_whole}
use Rattle.protocol.specs.declared.Message.{Message}
use Rattle.protocol.specs.Net.{capacity, remove_at}
use Rattle.protocol.specs.Entries.{is_of, count_of}
use Rattle.protocol.specs.Rules.{no_message}
use Rattle.protocol.proofs.Laws.Maps.{map-append, map-remove_at}
use Rattle.protocol.proofs.Laws.Messages.{count-snoc}
use Rattle.layout.specs.Layout.{message_size, channel_size}
use Rattle.channel.specs.Slots.{in_use, laid}
use Rattle.channel.specs.Inner.Channels.{Queue}
use Rattle.channel.specs.Messages.{message_of, message_bytes, messages_of, channel_bytes}
use Rattle.channel.specs.Inner.Channels.{IsChannel}
use Rattle.channel.proofs.Slots.{nth-part}
use Rattle.channel.proofs.Things as things

-- ---- one message
pub length-message_bytes : (m : Message) → length (message_bytes m) ≡ message_size
length-message_bytes m = ap (λ (n : ℕ). suc (suc (suc n))) (length-bytes 4 m.clock)

-- a message whose clock fits comes back from its slot, and the bytes of a slot from its message
pub message-back : (m : Message) → m.clock < 256 ^ 4 → message_of (message_bytes m) ≡ m
unfolding number_at part bytes
message-back m h = λ i. record { kind = m.kind; group = m.group; connected = m.connected; clock = number-bytes 4 m.clock h i }

pub slot-back : (s : List ℕ) → length s ≡ message_size → Bytes s → message_bytes (message_of s) ≡ s
unfolding part
slot-back s e h = rw (bytes-number_at 4 s 3 h) (rw e at (part-all s))

-- the message of the slot behind the one at `at`, written there
pub moved-one : (at : ℕ) (s : List ℕ) (m : Message) (t : List ℕ) → Bytes s → at + message_size + message_size ≤ length s
    → m ≡ message_of (lent (at + message_size) (at + message_size + message_size - (at + message_size)) s) → t ≡ message_bytes m
    → back at (at + message_size - at) s t ≡ splice s at (part message_size s (at + message_size))
moved-one at s m t h f hm ht =
    let b = part message_size s (at + message_size) in
    let slot : lent (at + message_size) (at + message_size + message_size - (at + message_size)) s ≡ b = rw (add-sub_cancel_left (at + message_size) message_size) (part-lent message_size s (at + message_size) f) in
    let e : t ≡ b = ht ∙ ap message_bytes (hm ∙ ap message_of slot) ∙ slot-back b (length_part message_size s (at + message_size)) (part-Bytes message_size s (at + message_size) h) in
    rw (add-sub_cancel_left at message_size, e) (put_whole at message_size s b (length_part message_size s (at + message_size)) (omega arith))

no-message : message_of [] ≡ no_message
unfolding number_at part number onto
no-message = refl

-- ---- the messages of a channel
pub length-messages : (b : List ℕ) → length (messages_of b) ≡ get_or b 0 0
length-messages = things.length-read capacity message_size message_bytes message_of

pub length-channel : (ms : List Message) → length ms ≤ capacity → length (channel_bytes ms) ≡ channel_size
length-channel = things.length-written capacity message_size message_bytes message_of length-message_bytes

-- what the one form gives
module _ (b : List ℕ) (h : IsChannel b) where
  slots-are : in_use message_size b ≡ map message_bytes (messages_of b)
  slots-are = ap (in_use message_size) h.form ∙ things.slots-written capacity message_size message_bytes message_of length-message_bytes (messages_of b)

  pub queue : Queue capacity message_size b
  queue = subst (Queue capacity message_size) (sym h.form) (things.queue-written capacity message_size message_bytes message_of length-message_bytes (messages_of b) h.at_most)

  pub removed-list : (i : ℕ) → laid capacity message_size (remove_at i (in_use message_size b)) ≡ channel_bytes (remove_at i (messages_of b))
  removed-list i = ap (λ (l : List (List ℕ)). laid capacity message_size (remove_at i l)) slots-are ∙ ap (laid capacity message_size) (sym (map-remove_at message_bytes i (messages_of b)))

  pub sent-list : (m : Message) → laid capacity message_size (in_use message_size b ++ (message_bytes m ∷ [])) ≡ channel_bytes (messages_of b ++ (m ∷ []))
  sent-list m = ap (λ (l : List (List ℕ)). laid capacity message_size (l ++ (message_bytes m ∷ []))) slots-are ∙ ap (laid capacity message_size) (sym (map-append message_bytes (messages_of b) (m ∷ [])))

  pub nth-message : (i : ℕ) → i < get_or b 0 0 → message_of (lent (1 + i * message_size) message_size b) ≡ get_or (messages_of b) i no_message
  nth-message i l = ap message_of (nth-part capacity message_size i b queue l) ∙ sym (get_or-map message_of (in_use message_size b) i []) ∙ ap (get_or (messages_of b) i) no-message

-- ---- counting: one message more
pub count_turn : (k g : ℕ) (ms : List Message) (i : ℕ) → i < length ms
    → count_of k g (take (i + 1) ms) ≡ count_of k g (take i ms) + bit (is_of k g (get_or ms i no_message))
count_turn k g ms i h = rw (add-one, take-suc ms i no_message h) (count-snoc k g (take i ms) (get_or ms i no_message))

pub count-take : (k g i : ℕ) (ms : List Message) → count_of k g (take i ms) ≤ count_of k g ms
unfolding count_of
count-take k g zero ms = omega arith
count-take k g (suc i) [] = omega arith
count-take k g (suc i) (m ∷ ms) = omega (arith, count-take k g i ms)

-- ---- counting: none of a kind and a group, where no message passes
pub none-below : (k g : ℕ) (ms : List Message) (n : ℕ) → n ≡ length ms → all_below n (λ i. not (is_of k g (get_or ms i no_message))) ≡ eqb (count_of k g ms) 0
unfolding count_of all_below
none-below k g [] zero e = refl
none-below k g [] (suc n) e = cc
none-below k g (m ∷ ms) zero e = cc
none-below k g (m ∷ ms) (suc n) e =
    all_first (λ i. not (is_of k g (get_or (m ∷ ms) i no_message))) n
    ∙ ap (λ (b : Bool). not (is_of k g m) && b) (none-below k g ms n (omega (arith, e)))
    ∙ one (is_of k g m) (count_of k g ms)
  where
    one : (b : Bool) (c : ℕ) → (not b && eqb c 0) ≡ eqb (bit b + c) 0
    one true c = sym (ne_eqb (1 + c) 0 (omega arith))
    one false c = ap (λ (n : ℕ). eqb n 0) (omega arith)
