-- What the functions of this crate read and leave, over lists. `at` is what the code computed for an offset.
use mathlib.Core.Path.{◌≡◌, refl, sym, ap, subst, ◌∙◌}
use mathlib.Core.Bool.{true}
use mathlib.Core.List.{List, [], ◌∷◌}
use Prim.Native.Nat.{ℕ, ◌+◌, ◌-◌, ◌≤◌, ◌<◌}
use native.Mathlib.Nat.{add-zero, add_assoc, add-sub_cancel_left}
use native.Mathlib.Omega.{arith}
use lib.ListN.{length}
use Rattle.bits.specs.Numbers.{bytes}
use Rattle.bits.specs.Parts.{part, splice}
use Rattle.bits.proofs.Numbers.{length-bytes, bytes-one}
use Rattle.bits.proofs.Parts.{lent, back, length_part, get_or-part, part-lent, part-part, put_whole, lent_back}
use Rattle.protocol.specs.declared.Entry.{Entry}
use Rattle.protocol.specs.declared.Message.{Message}
use Rattle.protocol.specs.Net.{Net, most_stations, most_groups, capacity, longest_name, set_entry, set_channel, set_route}
use Rattle.protocol.specs.Shaped.{Shaped}
use Rattle.protocol.proofs.Laws.Maps.{upd2-hit, set-again, set_same}
use Rattle.channel.specs.Messages.{messages_of, channel_bytes}
use Rattle.channel.specs.Inner.Channels.{IsChannel}
use Rattle.channel.proofs.Messages.{length-channel}
use Rattle.layout.specs.Layout.{byte, stations, groups, group_at, name_length, route_at, entry_size, channel_at, net_length}
use Rattle.layout.specs.declared.form.Mark.{Mark}
use Rattle.layout.specs.Marks.{mark_of, stretch_at, in_stretch, entry_at}
use Rattle.plan.specs.Planned.{net_header}
use Rattle.plan.proofs.Plans.{name-at}
use Rattle.shape.specs.Shape.{shaped_as}
use Rattle.shape.proofs.Nets.{long, plan-pass, marked}
use Rattle.net.specs.View.{view}
use Rattle.net.specs.Encode.{entry_bytes, bytes_as, bytes_like}
use Rattle.access.specs.declared.change.Field.{Field}
use Rattle.access.specs.Inner.Nets.{IsNet, EntryMade}
use Rattle.access.specs.Inner.Fields.{FieldIn}
use Rattle.forms.specs.Plans.{name_of, plan_in}
use Rattle.forms.proofs.Plan.Shown.{plan-name}
use Rattle.net.proofs.Forms.{view-channel, seen, channel-is, view-bytes, bytes-field, bytes-channel, bytes-route, stands}

pub is-net : (m : Mark) (l : List ℕ) → shaped_as m l ≡ true → IsNet l
unfolding view plan_in
is-net m l s =
    let H = seen m l s in
    record {
      shape = rw (marked m l s) s;
      long = long m l s;
      stations_shown = refl;
      groups_shown = refl;
      stations_most = H.plan.stations_most;
      groups_most = H.plan.groups_most;
    }

-- bytes that are those of a well-shaped net: they are in its form, too
pub is-net-of : (m : Mark) (N : Net) (l : List ℕ) → Shaped N → l ≡ bytes_as m N → (IsNet l) × (view l ≡ N) × (mark_of l ≡ m)
is-net-of m N l H e = let w = stands m N l H e in (is-net m l w.0, w.1, marked m l w.0)

-- the bytes that a change of l leaves: those of a well-shaped net again, in the same form
pub is-net-after : (l : List ℕ) (N : Net) (l' : List ℕ) → Shaped N → l' ≡ bytes_like l N
    → (IsNet l') × (view l' ≡ N) × ((M : Net) → bytes_like l' M ≡ bytes_like l M) × (mark_of l ≡ mark_of l')
is-net-after l N l' H e = let w = is-net-of (mark_of l) N l' H e in (w.0, w.1, (λ M. ap (λ (m : Mark). bytes_as m M) w.2), sym w.2)

-- ---- an entry made into another
module _ (m : Mark) (g p : ℕ) where
  -- by a field that was put where it stands
  pub field-made : (l l' : List ℕ) (o : ℕ) (vs : List ℕ) (f : Entry → Entry) → ((e : Entry) → splice (entry_bytes e) o vs ≡ entry_bytes (f e)) → o + length vs ≤ entry_size
      → l' ≡ splice l (entry_at m g p + o) vs → EntryMade m l l' g p f
  field-made l l' o vs f put fits wrote = λ N few few_groups hg hp e.
      wrote ∙ ap (λ (x : List ℕ). splice x (entry_at m g p + o) vs) e ∙ bytes-field m N few few_groups g p o vs (f (N.entry g p)) (put (N.entry g p)) fits hg hp

  -- by a number that was put there, or a byte
  pub number-made : (l l' : List ℕ) (o w v : ℕ) (f : Entry → Entry) → ((e : Entry) → splice (entry_bytes e) o (bytes w v) ≡ entry_bytes (f e)) → o + w ≤ entry_size
      → l' ≡ splice l (entry_at m g p + o) (bytes w v) → EntryMade m l l' g p f
  number-made l l' o w v f put fits wrote = field-made l l' o (bytes w v) f put (omega (arith, length-bytes w v)) wrote

  pub byte-made : (l l' : List ℕ) (o v : ℕ) (f : Entry → Entry) → ((e : Entry) → splice (entry_bytes e) o (v ∷ []) ≡ entry_bytes (f e)) → o + 1 ≤ entry_size → v < 256
      → l' ≡ splice l (entry_at m g p + o) (bytes 1 v) → EntryMade m l l' g p f
  byte-made l l' o v f put fits small wrote = field-made l l' o (v ∷ []) f put fits (wrote ∙ ap (splice l (entry_at m g p + o)) (bytes-one v small))

  -- left as it is
  pub made-same : (l : List ℕ) → EntryMade m l l g p (λ e. e)
  made-same l = λ N few few_groups hg hp e. e ∙ ap (bytes_as m) (sym (set_same N g p))

  -- and then into another
  pub made_then : (l l' l'' : List ℕ) (f h : Entry → Entry) → EntryMade m l l' g p f → EntryMade m l' l'' g p h → EntryMade m l l'' g p (λ e. h (f e))
  unfolding set_entry
  made_then l l' l'' f h first second = λ N few few_groups hg hp e.
      let x = f (N.entry g p) in
      let there : (set_entry N g p x).entry g p ≡ x = upd2-hit N.entry g p x in
      second (set_entry N g p x) few few_groups hg hp (first N few few_groups hg hp e)
      ∙ ap (λ (y : Entry). bytes_as m (set_entry (set_entry N g p x) g p (h y))) there
      ∙ ap (bytes_as m) (set-again N g p x (h x))

  -- after a change of l, in the form that l is in
  pub made_after : (l : List ℕ) (N : Net) (l' l'' : List ℕ) (f : Entry → Entry) → m ≡ mark_of l → N.stations ≤ most_stations → N.groups ≤ most_groups → g < N.groups → p < N.stations
      → l' ≡ bytes_like l N → EntryMade m l' l'' g p f → l'' ≡ bytes_like l (set_entry N g p (f (N.entry g p)))
  made_after l N l' l'' f i few few_groups hg hp e made =
      made N few few_groups hg hp (e ∙ ap (λ (k : Mark). bytes_as k N) (sym i)) ∙ ap (λ (k : Mark). bytes_as k (set_entry N g p (f (N.entry g p)))) i

-- the stretch of a group was lent on, and comes back with a field put
pub field_back : (m : Mark) (g p o : ℕ) (f : Field) (l vs : List ℕ) → FieldIn m g p o f → o + length vs ≤ entry_size
    → back f.start (f.end - f.start) l (splice (lent f.start (f.end - f.start) l) f.at vs) ≡ splice l (entry_at m g p + o) vs
field_back m g p o f l vs F short =
    lent_back f.start (f.end - f.start) l f.at vs (omega (arith, F.fits, short))
    ∙ (λ i. splice l (F.starts i + F.stands i) vs)
    ∙ ap (λ (i : ℕ). splice l i vs) (sym (add_assoc (stretch_at m g) (in_stretch m p) o))

module _ (l : List ℕ) (r : IsNet l) where
  here : bytes_like l (view l) ≡ l
  here = view-bytes (mark_of l) l r.shape

  -- the channel from s to d, as it is lent: its width is the code's `at + 57 - at`
  module _ (s d at : ℕ) (hs : s < (view l).stations) (hd : d < (view l).stations) (e : at ≡ channel_at s d) where
    lent_is : lent at (at + 57 - at) l ≡ part 57 l (channel_at s d)
    lent_is = rw add-sub_cancel_left (part-lent 57 l at (omega (arith, r.long, r.stations_most)) ∙ ap (part 57 l) e)

    pub channel-lent : IsChannel (lent at (at + 57 - at) l) × (messages_of (lent at (at + 57 - at) l) ≡ (view l).channel s d)
    channel-lent =
        let below : (s < stations l) × (d < stations l) = (omega (arith, r.stations_shown), omega (arith, r.stations_shown)) in (
          subst IsChannel (sym lent_is) (channel-is (mark_of l) l r.shape s d below.0 below.1),
          ap messages_of lent_is ∙ sym (view-channel l s d below.0 below.1),
        )

    -- and as it comes back
    pub channel-back : (ms : List Message) → length ms ≤ capacity → back at (at + 57 - at) l (channel_bytes ms) ≡ bytes_like l (set_channel (view l) s d ms)
    channel-back ms most =
        rw add-sub_cancel_left
        (put_whole at 57 l (channel_bytes ms) (length-channel ms most) (omega (arith, r.long, r.stations_most))
        ∙ (λ i. splice (sym here i) (e i) (channel_bytes ms))
        ∙ sym (bytes-channel (mark_of l) (view l) r.stations_most r.groups_most s d ms most hs hd))

  -- the name of group g, as it is lent
  module _ (g at n : ℕ) (h : g < (view l).groups) (i : at ≡ group_at g + 1) (e : n ≡ name_length l g) where
    name-few : n ≤ longest_name
    name-few = rw e (name-at l (net_header (mark_of l)) (plan-pass (mark_of l) l r.shape) g (omega (arith, r.groups_shown))).1

    name-lent : lent at (at + n - at) l ≡ (view l).name g
    unfolding view name_of
    name-lent =
        let hg : g < groups l = omega (arith, r.groups_shown) in
        rw add-sub_cancel_left
        (part-lent n l at (omega (arith, name-few, r.long, r.groups_most)) ∙ ap (part n l) i
        ∙ sym (plan-name l g hg
        ∙ ap (λ (k : ℕ). lent 1 k (part 17 l (group_at g))) (get_or-part 17 l (group_at g) 0 (omega arith) ∙ ap (byte l) (add-zero (group_at g)) ∙ sym e)
        ∙ part-lent n (part 17 l (group_at g)) 1 (omega (arith, name-few, length_part 17 l (group_at g)))
        ∙ part-part n 17 l (group_at g) 1 (omega (arith, name-few))))

    pub name-is : (lent at (at + n - at) l ≡ (view l).name g) × (length (lent at (at + n - at) l) ≤ longest_name)
    name-is = (name-lent, rw name-lent ((seen (mark_of l) l r.shape).plan.named g h).1)

  -- where its entries stand there is room for them
  pub few : (g p : ℕ) → g < (view l).groups → p < (view l).stations → (g < most_groups) × (p < most_stations)
  few g p hg hp = (omega (arith, hg, r.groups_most), omega (arith, hp, r.stations_most))

  pub own : (g p : ℕ) → g < (view l).groups → p < (view l).stations → (length l ≡ net_length) × (g < most_groups) × (p < most_stations)
  own g p hg hp = let w = few g p hg hp in (r.long, w.0, w.1)

  -- an entry of the net itself made into another
  pub made : (m : Mark) (g p : ℕ) (l' : List ℕ) (f : Entry → Entry) → m ≡ mark_of l → g < (view l).groups → p < (view l).stations → EntryMade m l l' g p f
      → l' ≡ bytes_like l (set_entry (view l) g p (f ((view l).entry g p)))
  made m g p l' f i hg hp = made_after m g p l (view l) l l' f i r.stations_most r.groups_most hg hp (sym here)

  pub route-back : (p d at q : ℕ) → at ≡ route_at p d → p < (view l).stations → d < (view l).stations → splice l at (q ∷ []) ≡ bytes_like l (set_route (view l) p d q)
  route-back p d at q i hp hd = (λ j. splice (sym here j) (i j) (q ∷ [])) ∙ sym (bytes-route (mark_of l) (view l) r.stations_most r.groups_most p d q hp hd)
