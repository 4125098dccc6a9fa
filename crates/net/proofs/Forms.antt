-- The forms of a net of version 1, by their mark. The readable definitions, `view`, `bytes_as` and `shaped_as`, are the forms' as they
-- compute, so that every law of forms holds of them; those that are cited stand here, each once for all marks.
--     entries-by-rows                       the test of entries, in the saved form, row after row
--     seen, view-bytes, view-injective      bytes that passed
--     bytes-hold, hold-bytes, bytes_same    the bytes of a net
--     stands, passes, bytes-view            the bytes of a well-shaped net
--     bytes-entry, bytes-field, bytes-parent, bytes-channel, bytes-route    one thing put anew
use mathlib.Core.Path.{◌≡◌, refl, sym, ap, subst, ◌∙◌}
use mathlib.Core.Bool.{true}
use mathlib.Core.List.{List, [], ◌∷◌}
use Prim.Native.Nat.{ℕ, ◌+◌, ◌≤◌, ◌<◌}
use native.Mathlib.Omega.{arith}
use lib.ListN.{length}
use Rattle.bits.specs.Numbers.{bytes}
use Rattle.bits.specs.Parts.{part, splice}
use Rattle.bits.proofs.Numbers.{length-bytes}
use Rattle.bits.proofs.Parts.{length_part, part-whole, splice-part}
use Rattle.protocol.specs.declared.Entry.{Entry}
use Rattle.protocol.specs.declared.Message.{Message}
use Rattle.protocol.specs.Net.{Net, capacity, most_stations, most_groups, set_entry, set_channel, set_route}
use Rattle.protocol.specs.Fresh.{plan_of}
use Rattle.protocol.specs.Shaped.{version1, Shaped}
use Rattle.protocol.specs.Entries.{with_parents, with_clock}
use Rattle.protocol.proofs.Laws.Maps.{upd2-hit, set-again}
use Rattle.protocol.proofs.Shape.Changes.{blank-shaped}
use Rattle.layout.specs.Layout.{stations, groups, routes_at, route_at, route, entries_at, entry_size, channels_at, channel_size, channel_row_size, channel_at, message_size}
use Rattle.channel.specs.Messages.{messages_of, channel_bytes}
use Rattle.channel.specs.Inner.Channels.{IsChannel}
use Rattle.channel.proofs.Messages.{length-messages}
use Rattle.layout.specs.declared.form.Mark.{Mark}
use Rattle.layout.specs.declared.form.Mark.TheVariants.{Saved, Working}
use Rattle.layout.specs.Marks.{mark_byte, mark_of, by_group, by_station, stretch_at, entry_at}
use Rattle.layout.specs.Bounded.{table, grid_pass}
use Rattle.layout.proofs.Bounded.{used-in}
use Rattle.plan.specs.Planned.{net_header}
use Rattle.shape.specs.Shape.{entry_shaped_at, count_shaped, channel_shaped, routes_shaped, entries_shaped, channels_shaped, laid_out, shaped_as}
use Rattle.shape.proofs.Nets.{marked}
use Rattle.forms.specs.Grids.{Laid, Grid}
use Rattle.forms.specs.Forms.{Form, view_in, laid_out_in, shaped_in, bytes_in}
use Rattle.forms.proofs.Grids.{by_rows, rows-laid, rows_pass, turned, cell-by-cell, either_way}
use Rattle.forms.proofs.Queues.{queues}
use Rattle.forms.proofs.Form.Holds.{HoldsNet}
use Rattle.forms.proofs.Form.Holds as holds
use Rattle.forms.proofs.Form.Seen as forms
use Rattle.forms.proofs.Form.Back as back
use Rattle.forms.proofs.Form.Changes as changes
use Rattle.net.specs.View.{entry_of, view}
use Rattle.net.specs.Encode.{entry_bytes, entries_laid, bytes_as}
use Rattle.net.proofs.Records.{length-entry_bytes, parent-put, clock-put}
use Rattle.net.proofs.Codecs.{route_codec, entry_codec, message_codec}

-- ---- the forms
abbrev pub route_grid : Grid most_stations most_stations
route_grid = by_rows routes_at 1 16 16 16 refl (omega arith) (omega arith) route_at (λ i j. omega arith)

abbrev pub channel_grid : Grid most_stations most_stations
channel_grid = by_rows channels_at channel_size 16 channel_row_size 16 refl (omega arith) (omega arith) channel_at (λ i j. refl)

-- what a form adds: that its entries fill their stretch, one after the other
pub entries-laid : (m : Mark) → Laid most_groups most_stations (entry_at m) entry_size entries_at channels_at (entries_laid m)
entries-laid Saved = rows-laid entries_at entry_size 16 (by_group Saved) 4 refl (omega arith) (omega arith) (entry_at Saved) (λ g p. refl)
entries-laid Working = turned (rows-laid entries_at entry_size 4 (by_station Working) 16 refl (omega arith) (omega arith) (λ p g. entry_at Working g p) (λ p g. omega arith))

abbrev pub entry_grid : Mark → Grid most_groups most_stations
entry_grid m = record {
  at = entry_at m;
  width = entry_size;
  from = entries_at;
  to = channels_at;
  lay = entries_laid m;
  pass = λ l g n P. grid_pass l (entry_at m) entry_size most_groups most_stations g n P;
  laid = entries-laid m;
  passes = cell-by-cell most_groups most_stations (entry_at m) entry_size;
}

pub mark-fits : (m : Mark) → mark_byte m < 256
mark-fits Saved = omega arith
mark-fits Working = omega arith

abbrev pub form_of : Mark → Form version1
form_of m = record {
  header = net_header m;
  routes = record { grid = route_grid; codec = route_codec };
  entries = record { grid = entry_grid m; codec = entry_codec };
  channels = record { grid = channel_grid; codec = queues version1 message_size message_codec (λ m. tt) (omega arith) };
  blank_shaped = λ n. blank-shaped;
  size_fits = omega arith;
  version_fits = omega arith;
  byte7_fits = mark-fits m;
  first = refl;
  second = refl;
  third = refl;
  last = refl;
}

-- ---- the readable definitions are the forms'
pub view-is : (m : Mark) (l : List ℕ) → mark_of l ≡ m → view l ≡ view_in (form_of m) l
unfolding view view_in part
view-is m l e = rw e refl

pub bytes-are : (m : Mark) (N : Net) → bytes_as m N ≡ bytes_in (form_of m) N
unfolding bytes_as bytes_in
bytes-are m N = refl

pub shaped-is : (m : Mark) (l : List ℕ) → shaped_as m l ≡ shaped_in (form_of m) l
unfolding shaped_as laid_out routes_shaped entries_shaped channels_shaped channel_shaped count_shaped shaped_in laid_out_in
shaped-is m l = refl

-- the test of the entries goes cell by cell: in the saved form that is row after row, as routes and channels are tested
pub entries-by-rows : (l : List ℕ) (n g : ℕ) → n ≤ most_stations → g ≤ most_groups
    → entries_shaped l n Saved g ≡ table l entries_at (by_group Saved) most_groups g (λ k.
    table l (stretch_at Saved k) entry_size most_stations n (entry_shaped_at l n Saved k))
unfolding entries_shaped
entries-by-rows l n g hn hg =
    either_way (cell-by-cell most_groups most_stations (entry_at Saved) entry_size)
    (rows_pass entries_at entry_size 16 (by_group Saved) 4 refl (omega arith) (omega arith) (entry_at Saved) (λ g p. refl)) l g n _ hg hn

-- ---- what the view shows of what is used
module _ (l : List ℕ) where
  pub view-route : (p d : ℕ) → p < stations l → d < stations l → (view l).route p d ≡ route l p d
  unfolding view
  view-route p d h k = rw (used-in p (stations l) d (stations l) h k)

  pub view-entry : (g p : ℕ) → g < groups l → p < stations l → (view l).entry g p ≡ entry_of (part entry_size l (entry_at (mark_of l) g p))
  unfolding view
  view-entry g p h k = rw (used-in g (groups l) p (stations l) h k)

  pub view-channel : (s d : ℕ) → s < stations l → d < stations l → (view l).channel s d ≡ messages_of (part channel_size l (channel_at s d))
  unfolding view
  view-channel s d h k = rw (used-in s (stations l) d (stations l) h k)

-- ---- bytes that passed
module _ (m : Mark) (l : List ℕ) (s : shaped_as m l ≡ true) where
  in-form : shaped_in (form_of m) l ≡ true
  in-form = sym (shaped-is m l) ∙ s

  shown : view l ≡ view_in (form_of m) l
  shown = view-is m l (marked m l s)

  pub seen : Shaped (view l)
  seen = subst Shaped (sym shown) (forms.seen (form_of m) l in-form)

  pub view-bytes : bytes_as m (view l) ≡ l
  view-bytes = ap (bytes_as m) shown ∙ bytes-are m _ ∙ forms.view-bytes (form_of m) l in-form

  -- the bytes of a channel are those of the messages that they show
  pub channel-is : (p q : ℕ) → p < stations l → q < stations l → IsChannel (part channel_size l (channel_at p q))
  channel-is p q h k =
      let b = part channel_size l (channel_at p q) in
      let w = forms.channel-form (form_of m) l in-form p q h k in
      record { form = sym w.0; at_most = w.1.at_most; long = length_part channel_size l (channel_at p q); said = sym (length-messages b) }

pub view-injective : (m : Mark) (a b : List ℕ) → shaped_as m a ≡ true → shaped_as m b ≡ true → view a ≡ view b → a ≡ b
view-injective m a b ha hb e = sym (view-bytes m a ha) ∙ ap (bytes_as m) e ∙ view-bytes m b hb

-- ---- the bytes of a net
abbrev pub Holds : Mark → Net → List ℕ → Type 0
Holds m = HoldsNet (form_of m)

pub bytes-hold : (m : Mark) (N : Net) → Holds m N (bytes_as m N)
bytes-hold m N = subst (Holds m N) (sym (bytes-are m N)) (holds.bytes-hold (form_of m) N)

pub hold-bytes : (m : Mark) (N : Net) (l : List ℕ) → Holds m N l → l ≡ bytes_as m N
hold-bytes m N l K = holds.hold-bytes (form_of m) N l K ∙ sym (bytes-are m N)

pub bytes_same : (m : Mark) (N M : Net) → plan_of N ≡ plan_of M
    → ((p d : ℕ) → p < N.stations → d < N.stations → N.route p d ≡ M.route p d)
    → ((g p : ℕ) → g < N.groups → p < N.stations → N.entry g p ≡ M.entry g p)
    → ((s d : ℕ) → s < N.stations → d < N.stations → N.channel s d ≡ M.channel s d)
    → bytes_as m N ≡ bytes_as m M
unfolding bytes_as bytes_in
bytes_same m = holds.bytes_same (form_of m)

-- ---- bytes that are those of a well-shaped net are well shaped, and show it
pub stands : (m : Mark) (N : Net) (l : List ℕ) → Shaped N → l ≡ bytes_as m N → (shaped_as m l ≡ true) × (view l ≡ N)
stands m N l H e =
    let w = back.stands (form_of m) N l H (e ∙ bytes-are m N) in
    let s = shaped-is m l ∙ w.0 in (s, view-is m l (marked m l s) ∙ w.1)

pub passes : (m : Mark) (N : Net) → Shaped N → shaped_as m (bytes_as m N) ≡ true
passes m N H = (stands m N (bytes_as m N) H refl).0

pub bytes-view : (m : Mark) (N : Net) → Shaped N → view (bytes_as m N) ≡ N
bytes-view m N H = (stands m N (bytes_as m N) H refl).1

-- ---- one thing put anew, in the net and in its bytes: the same, for any net
module _ (m : Mark) (N : Net) (few : N.stations ≤ most_stations) (few_groups : N.groups ≤ most_groups) where
  pub bytes-entry : (g p : ℕ) (e : Entry) → g < N.groups → p < N.stations → bytes_as m (set_entry N g p e) ≡ splice (bytes_as m N) (entry_at m g p) (entry_bytes e)
  unfolding bytes_as bytes_in
  bytes-entry g p e hg hp = changes.bytes-entry (form_of m) N few few_groups g p e tt hg hp

  -- the entry's bytes, and one field of them put anew
  pub bytes-of-entry : (g p : ℕ) → g < N.groups → p < N.stations → part entry_size (bytes_as m N) (entry_at m g p) ≡ entry_bytes (N.entry g p)
  bytes-of-entry g p hg hp =
      (bytes-hold m N).entries g p (omega arith) (omega arith)
      ∙ rw (used-in g N.groups p N.stations hg hp) (part-whole entry_size (entry_bytes (N.entry g p)) (length-entry_bytes (N.entry g p)))

  pub bytes-field : (g p o : ℕ) (vs : List ℕ) (e : Entry) → splice (entry_bytes (N.entry g p)) o vs ≡ entry_bytes e → o + length vs ≤ entry_size → g < N.groups → p < N.stations
      → splice (bytes_as m N) (entry_at m g p + o) vs ≡ bytes_as m (set_entry N g p e)
  bytes-field g p o vs e put fits hg hp =
      splice-part entry_size (bytes_as m N) (entry_at m g p) o vs fits (omega (arith, ((entries-laid m).inside g p (omega arith) (omega arith)).1, (bytes-hold m N).long))
      ∙ ap (λ (x : List ℕ). splice (bytes_as m N) (entry_at m g p) (splice x o vs)) (bytes-of-entry g p hg hp)
      ∙ ap (splice (bytes_as m N) (entry_at m g p)) put
      ∙ sym (bytes-entry g p e hg hp)

  pub bytes-channel : (s d : ℕ) (ms : List Message) → length ms ≤ capacity → s < N.stations → d < N.stations
      → bytes_as m (set_channel N s d ms) ≡ splice (bytes_as m N) (channel_at s d) (channel_bytes ms)
  unfolding bytes_as bytes_in
  bytes-channel s d ms most hs hd = changes.bytes-channel (form_of m) N few few_groups s d ms most hs hd

  pub bytes-route : (p d q : ℕ) → p < N.stations → d < N.stations → bytes_as m (set_route N p d q) ≡ splice (bytes_as m N) (route_at p d) (q ∷ [])
  unfolding bytes_as bytes_in
  bytes-route p d q hp hd = changes.bytes-route (form_of m) N few few_groups p d q tt hp hd

-- a parent and a clock: one field after the other
pub bytes-parent : (m : Mark) (N : Net) → N.stations ≤ most_stations → N.groups ≤ most_groups → (g p q k : ℕ) → g < N.groups → p < N.stations
    → let e = N.entry g p in let at = entry_at m g p in
    splice (splice (bytes_as m N) (at + 0) (q ∷ [])) (at + 4) (bytes 4 k) ≡ bytes_as m (set_entry N g p (with_clock (with_parents e q e.tentative) k))
unfolding set_entry
bytes-parent m N few few_groups g p q k hg hp =
    let e = N.entry g p in
    let f = with_parents e q e.tentative in
    let there : (set_entry N g p f).entry g p ≡ f = upd2-hit N.entry g p f in
    let put : splice (entry_bytes ((set_entry N g p f).entry g p)) 4 (bytes 4 k) ≡ entry_bytes (with_clock f k) = rw there (clock-put f k) in
    ap (λ (x : List ℕ). splice x (entry_at m g p + 4) (bytes 4 k)) (bytes-field m N few few_groups g p 0 (q ∷ []) f (parent-put e q) (omega arith) hg hp)
    ∙ bytes-field m (set_entry N g p f) few few_groups g p 4 (bytes 4 k) (with_clock f k) put (omega (arith, length-bytes 4 k)) hg hp
    ∙ ap (bytes_as m) (set-again N g p f (with_clock f k))
