-- The call into a list of records is that into the first bytes of a list of 48: into all of them for sixteen records, and into none for any
-- other number.
use Rattle.std.proofs.Common.{◌≡◌, ◌≢◌, refl, sym, ap, ◌∙◌, ℕ, Bool, true, false, ◌&&◌, List, [], ◌++◌, length, take, drop, replicate, eqb, Result, Ok, Err, arith}
use Rattle.std.proofs.lemmas.List.{length-take, take_all, drop_all, append-nil}
use borrow.Author.Tests.{eqb-true, eq-eqb, ne_eqb}
use Rattle.bits.proofs.Cases.{by_bool, by-eq, clash}
use Rattle.protocol.specs.declared.Refusal.{Refusal}
use Rattle.protocol.specs.Refusals.{number}
use Rattle.protocol.proofs.Refusals.{number-positive}
use Rattle.protocol.specs.Net.{nil, most_stations, group?, station?}
use Rattle.protocol.specs.Calls.{Called, call_outcome, called, reach_list}
use Rattle.shape.specs.Shape.{shaped}
use Rattle.net.specs.View.{view}
use Rattle.visit.specs.Lists.{reach_bytes, list_length, list_fits}
use Rattle.call.specs.declared.Reached.{Reached}
use Rattle.call.specs.Answers.{called_of, called_in, list_after_call, CallEnd}
use Rattle.lent.specs.Lists.{called_on, records_after_call}
use Rattle.lent.specs.Inner.Filling.{FillsList}
use Rattle.lent.proofs.Records.{same-records}

-- a list of the wrong size is refused
misfit : (l : List ℕ) (g c : ℕ) → eqb (called_in l g c false).outcome 0 ≡ false
unfolding called_in called call_outcome
misfit l g c = by_bool (shaped l)
    (λ s. rw s (by_bool (group? (view l) g && station? (view l) c) (λ o. rw o refl) (λ o. rw o refl)))
    (λ s. rw s refl)

-- so many of the 48 bytes are lent, for n records
abbrev pub lent : ℕ → List ℕ
lent size = take size (replicate list_length nil)

abbrev pub kept : ℕ → List ℕ
kept size = drop size (replicate list_length nil)

pub fits-all : (n size : ℕ) → size ≡ list_length → n ≡ most_stations → list_fits (lent size) ≡ eqb n most_stations
fits-all n size s e = rw (s, e) refl

pub fits-none : (n size : ℕ) → size ≡ 0 → n ≢ most_stations → list_fits (lent size) ≡ eqb n most_stations
fits-none n size s e = rw (s, ne_eqb _ _ e) refl

module _ (l : List ℕ) (g c n size : ℕ) (fits : list_fits (lent size) ≡ eqb n most_stations)
    (r : Result Reached Refusal) (out : List ℕ) (said : CallEnd l g c (lent size) r out) where
  told : called_of r ≡ called_on l g c n
  told = said.answer ∙ ap (called_in l g c) fits

  pub fills-none : (e : Refusal) → r ≡ Err e → FillsList l g c n (record { called = r; fill = 0; bytes = out ++ kept size })
  unfolding records_after_call reach_bytes
  fills-none e was =
      let outcome : (called_on l g c n).outcome ≡ number e = ap (λ (k : Called). k.outcome) (sym told ∙ ap called_of was) in
      let refused : eqb (called_on l g c n).outcome 0 ≡ false = ne_eqb _ 0 (λ z. omega (arith, number-positive e, outcome, z)) in
      record {
        called = told;
        within = (omega arith, omega arith);
        after = λ xs ys h i. rw (same-records ys [] i, h, refused) refl;
      }

  module _ (a : Reached) (was : r ≡ Ok a) (same : length out ≡ length (lent size)) where
    accepted : eqb (called_on l g c n).outcome 0 ≡ true
    accepted = ap (λ (k : Called). eqb k.outcome 0) (sym told ∙ ap called_of was)

    sixteen : n ≡ most_stations
    sixteen = by-eq n most_stations (λ e. e)
        (λ d. clash accepted (ap (λ (b : Bool). eqb (called_in l g c b).outcome 0) (ne_eqb _ _ d) ∙ misfit l g c))

    all : length (lent size) ≡ list_length
    all = eqb-true _ _ (fits ∙ eq-eqb _ _ sixteen)

    whole : out ++ kept size ≡ out
    whole = rw (drop_all size (replicate list_length nil) (omega (arith, all, length-take size (replicate list_length nil)))) (append-nil out)

    listed : out ≡ reach_bytes (reach_list (view l) g)
    unfolding list_after_call
    listed = said.list ∙ rw (fits, accepted) refl

    pub fills-sixteen : FillsList l g c n (record { called = r; fill = 16; bytes = out ++ kept size })
    unfolding records_after_call
    fills-sixteen = record {
      called = told;
      within = (omega (arith, sixteen), omega arith);
      after = λ xs ys h i.
          let first : reach_bytes ys ≡ out = i ∙ ap (take 48) whole ∙ take_all 48 out (omega (arith, same, all)) in
          rw (drop_all 16 xs (omega (arith, h, sixteen)), append-nil, h, accepted) (same-records ys _ (first ∙ listed));
    }
