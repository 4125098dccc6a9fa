-- The bytes that are laid are those of the fresh net.
use mathlib.Core.Path.{◌≡◌, refl, sym, ap, ap₂, ◌∙◌}
use mathlib.Core.Logic.{inr}
use mathlib.Core.Bool.{Bool, true, false}
use mathlib.Core.List.{List, [], ◌∷◌, ◌++◌}
use Prim.Native.Nat.{ℕ, ◌+◌, ◌≤◌, ◌<◌}
use native.Mathlib.Nat.{zero-add}
use native.Mathlib.Omega.{arith}
use lib.ListN.{length, get_or, replicate, length-replicate}
use Rattle.bits.specs.Numbers.{bytes}
use Rattle.bits.specs.Parts.{part, splice}
use Rattle.bits.proofs.Numbers.{length-bytes}
use Rattle.bits.proofs.Parts.{length-splice, part-splice, part-splice-out, part-part, part-add, part-cong, splice-in, part_right, get_or-zeros}
use Rattle.protocol.specs.declared.Entry.{Entry}
use Rattle.protocol.specs.Net.{Net, nil, upd2, set_entry, set_route}
use Rattle.protocol.specs.Fresh.{Plan, blank, plan_of, fresh}
use Rattle.protocol.proofs.Laws.Maps.{upd2-hit, upd2-all}
use Rattle.channel.specs.Slots.{flat}
use Rattle.channel.specs.Slots as slots
use Rattle.channel.specs.Messages.{channel_bytes}
use Rattle.layout.specs.Layout.{net_length, plan_length, stations, groups, group_at, mask_at, route_at, channel_at}
use Rattle.layout.specs.declared.form.Mark.TheVariants.{Saved}
use Rattle.layout.specs.Marks.{entry_at}
use Rattle.layout.specs.Bounded.{used}
use Rattle.plan.specs.Planned.{plan_header, net_header, plan_shaped}
use Rattle.plan.proofs.Plans.{counts, plan-long, plan-passes}
use Rattle.net.specs.Encode.{entry_bytes, bytes_of}
use Rattle.forms.specs.Folds.{in_rows}
use Rattle.fresh.specs.Inner.Laying.{route_nil, entry_blank, plan_laid, laid}
use Rattle.forms.proofs.Folds.{rows-kept, rows-read, rows-tied}
use Rattle.forms.specs.Cells.{if_used}
use Rattle.forms.specs.Plans.{plan_in, header_bytes}
use Rattle.forms.proofs.Plan.Holds.{HoldsPlan}
use Rattle.net.proofs.Forms.{Holds, hold-bytes, bytes_same, bytes-entry, bytes-route}
use Rattle.forms.proofs.Plan.Seen.{plan-held}

-- ---- the net whose bytes are the plan's, and zeros
abbrev bare : Entry
bare = record { parent = 0; tentative = 0; member = 0; clock = 0; children = 0; waiting = 0 }

abbrev unlaid : Plan → Net
unlaid P = record {
  stations = P.stations;
  groups = P.groups;
  name = P.name;
  root = P.root;
  neighbours = P.neighbours;
  route = λ p d. 0;
  entry = λ g p. bare;
  channel = λ s d. [];
}

-- a cell of zeros, used or not
route-zero : (b : Bool) → part 1 (if_used b (0 ∷ [])) 0 ≡ part 1 [] 0
unfolding part
route-zero true = refl
route-zero false = refl

entry_zero : (b : Bool) → part 12 (if_used b (entry_bytes bare)) 0 ≡ part 12 [] 0
unfolding part entry_bytes bytes
entry_zero true = refl
entry_zero false = refl

channel-zero : (b : Bool) → part 57 (if_used b (channel_bytes [])) 0 ≡ part 57 [] 0
unfolding part flat slots.laid
channel-zero true = refl
channel-zero false = refl

-- what is v stays v, if v is put
put-stays : {W : Type 0} (f : ℕ → ℕ → W) (v : W) (i j p d : ℕ) → f p d ≡ v → upd2 f i j v p d ≡ v
put-stays {W} f v i j p d = upd2-all (λ p d (w : W). f p d ≡ v → w ≡ v) (λ _. refl) (λ p d _ h. h) p d

module _ (plan : List ℕ) (s : plan_shaped plan ≡ true) where
  abbrev P : Plan
  P = plan_in plan

  abbrev zeros : List ℕ
  zeros = replicate net_length 0

  zeros-long : length zeros ≡ net_length
  zeros-long = length-replicate {A = ℕ} net_length 0

  abbrev laid1 : List ℕ
  laid1 = splice zeros 0 plan

  n112 : length plan ≡ 112
  n112 = plan-long plan s

  held : HoldsPlan P plan_header plan
  held = plan-held plan s

  -- past the length, the front is the plan's
  front : (w at : ℕ) → 4 ≤ at → at + w ≤ 112 → part w (plan_laid plan) at ≡ part w plan at
  unfolding plan_laid
  front w at h k =
      part-splice-out w laid1 0 (bytes 4 net_length) at (inr (omega (arith, length-bytes 4 net_length)))
      ∙ part-cong w laid1 plan at at (λ x b. ap (λ (i : ℕ). get_or laid1 i 0) (sym (zero-add (at + x))) ∙ splice-in zeros 0 plan (at + x) (omega (arith, n112)) (omega (arith, n112, zeros-long)))

  -- and past the plan, zeros
  back : (w at : ℕ) → 112 ≤ at → part w (plan_laid plan) at ≡ part w [] 0
  unfolding plan_laid
  back w at h =
      part-splice-out w laid1 0 (bytes 4 net_length) at (inr (omega (arith, length-bytes 4 net_length)))
      ∙ part-splice-out w zeros 0 plan at (inr (omega (arith, n112)))
      ∙ part-cong w zeros [] at 0 (λ x b. get_or-zeros net_length (at + x))

  -- version 1, stations, groups, zero
  tail : part 4 plan 4 ≡ 1 ∷ P.stations ∷ P.groups ∷ 0 ∷ []
  unfolding header_bytes part
  tail =
      sym (part-part 4 8 plan 0 4 (omega arith)) ∙ ap (λ (l : List ℕ). part 4 l 4) held.head
      ∙ part_right 4 (bytes 4 plan_length) (1 ∷ P.stations ∷ P.groups ∷ 0 ∷ []) (length-bytes 4 plan_length) 0

  head : part 8 (plan_laid plan) 0 ≡ header_bytes P (net_header Saved)
  unfolding plan_laid header_bytes bytes
  head =
      part-add 4 4 (plan_laid plan) 0
      ∙ ap₂ ◌++◌ (part-splice laid1 0 (bytes 4 net_length) (omega (arith, length-bytes 4 net_length, length-splice zeros 0 plan, zeros-long)))
      (front 4 4 (omega arith) (omega arith) ∙ tail)

  laid-long : length (plan_laid plan) ≡ net_length
  unfolding plan_laid
  laid-long = length-splice laid1 0 (bytes 4 net_length) ∙ length-splice zeros 0 plan ∙ zeros-long

  unlaid-held : Holds Saved (unlaid P) (plan_laid plan)
  unlaid-held = record {
    long = laid-long;
    plan = record {
      head = head;
      groups = λ g h. front 18 (group_at g) (omega arith) (omega arith) ∙ held.groups g h;
      masks = λ p h. front 2 (mask_at p) (omega arith) (omega arith) ∙ held.masks p h;
    };
    routes = λ p d h k. back 1 (route_at p d) (omega arith) ∙ sym (route-zero (used p P.stations d P.stations));
    entries = λ g p h k. back 12 (entry_at Saved g p) (omega arith) ∙ sym (entry_zero (used g P.groups p P.stations));
    channels = λ x y h k. back 57 (channel_at x y) (omega arith) ∙ sym (channel-zero (used x P.stations y P.stations));
  }

  -- ---- the routes and the entries
  abbrev n : ℕ
  n = stations plan

  abbrev gone : Net → ℕ → ℕ → Net
  gone M p d = set_route M p d nil

  abbrev blanked : Net → ℕ → ℕ → Net
  blanked M g p = set_entry M g p blank

  abbrev routed : Net
  routed = in_rows gone (unlaid P) n n

  abbrev all : Net
  all = in_rows blanked routed (groups plan) n

  -- a net of the plan: where a put in the net is a put in its bytes
  abbrev Planned : Net → Type 0
  Planned M = plan_of M ≡ P

  few : stations plan ≤ 16
  few = (counts plan plan_header (plan-passes plan s)).1

  few_groups : groups plan ≤ 4
  few_groups = (counts plan plan_header (plan-passes plan s)).3

  tied-route : (M : Net) (p d : ℕ) → Planned M → p < n → d < n → bytes_of (gone M p d) ≡ route_nil (bytes_of M) p d
  unfolding route_nil plan_in
  tied-route M p d e h k =
      let st : M.stations ≡ n = ap (λ (Q : Plan). Q.stations) e in
      let gr : M.groups ≡ groups plan = ap (λ (Q : Plan). Q.groups) e in
      bytes-route Saved M (omega (arith, few)) (omega (arith, few_groups)) p d nil (omega arith) (omega arith)

  tied-entry : (M : Net) (g p : ℕ) → Planned M → g < groups plan → p < n → bytes_of (blanked M g p) ≡ entry_blank (bytes_of M) g p
  unfolding entry_blank plan_in
  tied-entry M g p e h k =
      let st : M.stations ≡ n = ap (λ (Q : Plan). Q.stations) e in
      let gr : M.groups ≡ groups plan = ap (λ (Q : Plan). Q.groups) e in
      bytes-entry Saved M (omega (arith, few)) (omega (arith, few_groups)) g p blank (omega arith) (omega arith)

  routed-plan : Planned routed
  unfolding set_route
  routed-plan = rows-kept gone (λ (M : Net). plan_of M) n n (λ M p d h k. refl) (unlaid P) n n (omega arith) (omega arith)

  all-plan : Planned all
  unfolding set_entry
  all-plan = rows-kept blanked (λ (M : Net). plan_of M) (groups plan) n (λ M g p h k. refl) routed (groups plan) n (omega arith) (omega arith) ∙ routed-plan

  laid-all : laid plan ≡ bytes_of all
  unfolding laid set_route set_entry
  laid-all =
      ap (λ (l : List ℕ). in_rows entry_blank l (groups plan) n)
      (ap (λ (l : List ℕ). in_rows route_nil l n n) (hold-bytes Saved (unlaid P) (plan_laid plan) unlaid-held)
      ∙ sym (rows-tied gone Planned n n (λ M p d h k e. e) route_nil bytes_of tied-route (unlaid P) n n refl (omega arith) (omega arith)))
      ∙ sym (rows-tied blanked Planned (groups plan) n (λ M g p h k e. e) entry_blank bytes_of tied-entry routed (groups plan) n routed-plan (omega arith) (omega arith))

  all-route : (p d : ℕ) → p < n → d < n → all.route p d ≡ nil
  unfolding set_entry set_route
  all-route p d h k =
      (λ i. rows-kept blanked (λ (M : Net). M.route) (groups plan) n (λ M g p h k. refl) routed (groups plan) n (omega arith) (omega arith) i p d)
      ∙ rows-read gone Planned n n (λ M p d h k e. e) (λ (M : Net). M.route) (λ p d. nil)
      (λ M i j e hi hj. upd2-hit M.route i j nil) (λ M i j p d e hi hj hp hd was. put-stays M.route nil i j p d was) (unlaid P) n n p d refl (omega arith) (omega arith) h k

  all-entry : (g p : ℕ) → g < groups plan → p < n → all.entry g p ≡ blank
  unfolding set_entry
  all-entry g p h k =
      rows-read blanked Planned (groups plan) n (λ M g p h k e. e) (λ (M : Net). M.entry) (λ g p. blank)
      (λ M i j e hi hj. upd2-hit M.entry i j blank) (λ M i j p d e hi hj hp hd was. put-stays M.entry blank i j p d was) routed (groups plan) n g p routed-plan (omega arith) (omega arith) h k

  all-channel : all.channel ≡ (λ (x y : ℕ). [])
  unfolding set_entry set_route
  all-channel =
      rows-kept blanked (λ (M : Net). M.channel) (groups plan) n (λ M g p h k. refl) routed (groups plan) n (omega arith) (omega arith)
      ∙ rows-kept gone (λ (M : Net). M.channel) n n (λ M p d h k. refl) (unlaid P) n n (omega arith) (omega arith)

  -- what is laid is the fresh net
  pub laid-fresh : laid plan ≡ bytes_of (fresh P)
  unfolding fresh
  laid-fresh = laid-all ∙ bytes_same Saved all (fresh P) all-plan
      (λ p d h k. all-route p d (omega (arith, st)) (omega (arith, st)))
      (λ g p h k. all-entry g p (omega (arith, gr)) (omega (arith, st)))
      (λ x y h k. λ i. all-channel i x y)
    where
      st : all.stations ≡ n
      st = unfold plan_in in ap (λ (Q : Plan). Q.stations) all-plan

      gr : all.groups ≡ groups plan
      gr = unfold plan_in in ap (λ (Q : Plan). Q.groups) all-plan
