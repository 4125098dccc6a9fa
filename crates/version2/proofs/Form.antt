-- The bytes of version 2 are a form: every law of forms holds of it. And the core of version 1 serves its nets.
--     shaped2-is               its test is the one spelt out
--     bytes_back, net-back     bytes that passed come back from the net that they show, and a well-shaped net from its bytes
--     core-lost                a message is lost: the core of what is within the entries and messages is kept
use mathlib.Core.Path.{◌≡◌, refl, sym, ◌∙◌}
use mathlib.Core.Bool.{Bool, true}
use mathlib.Core.List.{List}
use Prim.Native.Nat.{ℕ}
use native.Mathlib.Omega.{arith}
use Rattle.protocol.specs.Net.{NetOf, most_stations, most_groups, nil, upd2, remove_at}
use Rattle.protocol.specs.Shaped.{ShapedOf}
use Rattle.protocol.proofs.Shape.Changes.{blank-shaped}
use Rattle.protocol.proofs.Sound.Core.{Core}
use Rattle.protocol.proofs.Sound.Posts.{taking}
use Rattle.protocol.proofs.Sound.Within.{bodies, words, core-taken}
use Rattle.layout.specs.Layout.{entries_at}
use Rattle.shape.specs.Shape.{routes_shaped}
use Rattle.forms.specs.Grids.{Grid}
use Rattle.forms.specs.Forms.{Form, view_in, laid_out_in, shaped_in, bytes_in}
use Rattle.forms.proofs.Grids.{by_rows}
use Rattle.forms.proofs.Queues.{queues}
use Rattle.forms.proofs.Form.Seen.{view-bytes}
use Rattle.forms.proofs.Form.Back.{stands}
use Rattle.net.proofs.Codecs.{route_codec}
use Rattle.net.proofs.Forms.{route_grid}
use Rattle.version2.specs.Records.{Entry2, Message2, version2, entry_size2, message_size2}
use Rattle.version2.specs.Shape.{header2, entry_row_size2, entry_at2, channels_at2, channel_size2, channel_row_size2, channel_at2, channel_shaped2, shaped2}
use Rattle.version2.proofs.Codecs.{entry_codec2, message_codec2}

abbrev pub entry_grid2 : Grid most_groups most_stations
entry_grid2 = by_rows entries_at entry_size2 16 entry_row_size2 4 refl (omega arith) (omega arith) entry_at2 (λ i j. refl)

abbrev pub channel_grid2 : Grid most_stations most_stations
channel_grid2 = by_rows channels_at2 channel_size2 16 channel_row_size2 16 refl (omega arith) (omega arith) channel_at2 (λ i j. refl)

abbrev pub saved2 : Form version2
saved2 = record {
  header = header2;
  routes = record { grid = route_grid; codec = route_codec };
  entries = record { grid = entry_grid2; codec = entry_codec2 };
  channels = record { grid = channel_grid2; codec = queues version2 message_size2 message_codec2 (λ m. tt) (omega arith) };
  blank_shaped = λ n nb r p. record { base = blank-shaped nb nil p; believed_station = λ e. absurd (e refl); next_near = λ e. absurd (e refl) };
  size_fits = omega arith;
  version_fits = omega arith;
  byte7_fits = omega arith;
  first = refl;
  second = refl;
  third = refl;
  last = refl;
}

pub shaped2-is : (l : List ℕ) → shaped2 l ≡ shaped_in saved2 l
unfolding shaped2 shaped_in laid_out_in routes_shaped channel_shaped2
shaped2-is l = refl

pub bytes_back : (l : List ℕ) → shaped2 l ≡ true → bytes_in saved2 (view_in saved2 l) ≡ l
bytes_back l s = view-bytes saved2 l (sym (shaped2-is l) ∙ s)

pub net-back : (N : NetOf Entry2 Message2) → ShapedOf version2 N → (shaped2 (bytes_in saved2 N) ≡ true) × (view_in saved2 (bytes_in saved2 N) ≡ N)
net-back N H = let w = stands saved2 N (bytes_in saved2 N) H refl in (shaped2-is _ ∙ w.0, w.1)

-- ---- what is within
pub core-lost : (g : ℕ) (R : ℕ → Bool) (F : ℕ → Entry2) (C : ℕ → ℕ → List Message2) (s d i : ℕ)
    → Core g R (bodies (λ (e : Entry2). e.base) F) (words (λ (m : Message2). m.base) C)
    → Core g R (bodies (λ (e : Entry2). e.base) F) (words (λ (m : Message2). m.base) (upd2 C s d (remove_at i (C s d))))
core-lost g R F C s d i S = core-taken (λ (m : Message2). m.base) C s d i (taking S s d i)
