-- Offers as the search carries them, each with what it takes to carry it out.
use Rattle.std.specs.Prelude.{List, map}
use Rattle.fm_bank.specs.Terms.{numbers}
use Rattle.fm_steps.specs.Lemmas.{Due}
use Rattle.fm_steps.specs.Rows.{Offer}
use Rattle.fm_state.specs.declared.offer.Due.{Due as TheDue}
use Rattle.fm_state.specs.declared.offer.Offer.{Offer as TheOffer}

abbrev pub due_in : TheDue → Due
due_in TheDue.Clash = Due.Clash
due_in (TheDue.Value a positive) = Due.Value a positive
due_in (TheDue.Clique sort) = Due.Clique sort.0
due_in TheDue.SumBound = Due.SumBound
due_in (TheDue.CardOrder sort k) = Due.CardOrder sort.0 k
due_in (TheDue.BoundOrder n) = Due.BoundOrder n

abbrev pub offer_in : TheOffer → Offer
offer_in (TheOffer.Learn n) = Offer.Learn n
offer_in (TheOffer.Unit n) = Offer.Unit' n
offer_in (TheOffer.Take r) = Offer.Take r
offer_in (TheOffer.Lemma r d) = Offer.Lemma r (due_in d)
offer_in (TheOffer.Imply r d) = Offer.Imply r (due_in d)
offer_in TheOffer.Turn = Offer.Turn
offer_in (TheOffer.Decide l) = Offer.Decide l
offer_in (TheOffer.Split a b) = Offer.Split a.0 b.0
offer_in (TheOffer.Instance i terms) = Offer.Instance i (numbers terms)
offer_in TheOffer.Raise = Offer.Raise
offer_in (TheOffer.Answer w) = Offer.Answer w

abbrev pub offers_in : List TheOffer → List Offer
offers_in os = map offer_in os
