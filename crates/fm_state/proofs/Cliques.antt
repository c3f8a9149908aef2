-- What a test offers: the lemma of its clique, or nothing.
use Rattle.std.proofs.Common.{◌≡◌, ℕ, List, [], Some, None, refl, ap}
use Rattle.std.specs.Prelude.{OnOk, Option, Ok, Err, Result}
use Rattle.fm_base.specs.declared.ids.Reader.{Reader}
use Rattle.fm_steps.specs.Lemmas.{Due}
use Rattle.fm_steps.specs.Menu.{clique_offer, clique_offer_of, offer_for}
use Rattle.fm_steps.specs.Picks.{clique_lemma}
use Rattle.fm_steps.specs.State.{Pick, State}
use Rattle.fm_state.specs.Groups.{clique_by, clique_in}

absent_by : (s : State) (u : ℕ) (terms : List ℕ) (o : Option (ℕ × ℕ)) → None ≡ clique_by o terms → clique_offer_of s u terms o ≡ []
absent_by s u terms None e = absurd (cc e)
absent_by s u terms (Some p) e = refl

pub absent : (s : State) (u : ℕ) (p : Option Pick) → None ≡ clique_in p → clique_offer s u p ≡ []
absent s u None e = refl
absent s u (Some pick) e = absent_by s u pick.terms pick.pair e

present_by : (s : State) (u : ℕ) (terms ts : List ℕ) (o : Option (ℕ × ℕ)) → Some ts ≡ clique_by o terms → offer_for s Reader.Regions (Due.Clique u) (clique_lemma u ts) ≡ clique_offer_of s u terms o
present_by s u terms ts None e = let it : ts ≡ terms = cc e in ap (λ l. offer_for s Reader.Regions (Due.Clique u) (clique_lemma u l)) it
present_by s u terms ts (Some p) e = absurd (cc e)

pub present : (s : State) (u : ℕ) (p : Option Pick) (ts : List ℕ) → Some ts ≡ clique_in p → offer_for s Reader.Regions (Due.Clique u) (clique_lemma u ts) ≡ clique_offer s u p
present s u None ts e = absurd (cc e)
present s u (Some pick) ts e = present_by s u pick.terms ts pick.pair e

pub on_ok : {A E P Q : Type 0} (r : Result A E) → OnOk r P → (P → Q) → OnOk r Q
on_ok (Ok x) h f = f h
on_ok (Err e) h f = h
