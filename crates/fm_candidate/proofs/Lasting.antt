-- What the parts of a bounded state of a run are good for, where only the last group of its menu is left.
use Rattle.std.proofs.Common.{◌≡◌, ℕ, true, List, Option, Some, None, refl, sym, ap, subst, ◌∙◌}
use Rattle.fm_base.specs.Interpretations.{is_fit, reading_of}
use Rattle.fm_base.specs.declared.interp.Interp.{Interp}
use Rattle.fm_bank.specs.Interning.{Held}
use Rattle.fm_bank.specs.Tests.{Tests}
use Rattle.fm_build.specs.Parts.{AreFirstOrder, AreInstancesOver, IsBankFor, IsCandidateBy}
use Rattle.fm_candidate.specs.Found.{IsFound, IsLast, outcome_of}
use Rattle.fm_cong.specs.Held.{Held as Graph}
use Rattle.fm_cong.specs.Tests.{AreTestsOf, HasTests}
use Rattle.fm_inst.specs.Answers.{AnswersLeastIn, first_failing_in, found_instance}
use Rattle.fm_rounds.specs.Failing.{AreTrueThere, failing_instance, numbered_reps}
use Rattle.fm_rounds.specs.Grounds.{IsGrounded}
use Rattle.fm_rounds.specs.Rounds.{Content, candidate, content_of, representatives}
use Rattle.fm_rounds.specs.Soundness.{TablesReadAlike}
use Rattle.fm_rounds.specs.declared.answers.Candidate.{Candidate}
use Rattle.fm_rounds.specs.declared.answers.Failing.{Failing}
use Rattle.fm_steps.specs.Laws.{EachIsKnown}
use Rattle.fm_steps.specs.Lines.{RunsStayHeld}
use Rattle.fm_steps.specs.Menu.{failing_at}
use Rattle.fm_steps.specs.Picks.{IsKnown, Known}
use Rattle.fm_steps.specs.Rows.{content_at}
use Rattle.fm_steps.specs.Searchable.{AddedAreTerms, ContentsAreGrounded, InstancesHold, IsSearchable, SearchableAreSorted}
use Rattle.fm_steps.specs.State.{Problem, State}

pub first_order : (p : Problem) → IsSearchable p → AreFirstOrder p
first_order p search = record { declared = search.declared; named = search.named; sorted = search.sorted }

-- what is said of the content of a state by tests holds of that of its parts
moved : (p : Problem) (Fact : Content → Type 0) (s : State) (held : Held) (added : List (ℕ × List ℕ)) (k : Known) → s.held ≡ held → s.added ≡ added
    → Fact (content_at p s k) → Fact (content_of p held.terms k.congruence.same added)
moved p Fact s held added k e f h =
    subst (λ (a : List (ℕ × List ℕ)). Fact (content_of p held.terms k.congruence.same a)) f (subst (λ (b : Held). Fact (content_of p b.terms k.congruence.same s.added)) e h)

module _ (p : Problem) (held : Held) (g : Graph) (added : List (ℕ × List ℕ)) (search : IsSearchable p) (last : IsLast p held g added) where
  -- the tests of the graph as those of Congruence, with some of Regions
  known_by : EachIsKnown → (t : Tests) → AreTestsOf g t → (k : Known) × IsKnown last.state k × (k.congruence ≡ t)
  known_by each t h =
      let some = each last.state in
      let k : Known = record { congruence = t; regions = some.0.regions } in
      let is : IsKnown last.state k = record { congruence = last.tests t h; regions = some.1.regions } in
      (k, is, refl)

  pub is_grounded : EachIsKnown → ContentsAreGrounded → (t : Tests) → AreTestsOf g t → IsGrounded (content_of p held.terms t.same added)
  is_grounded each grounded t h =
      let k = known_by each t h in
      subst (λ (u : Tests). IsGrounded (content_of p held.terms u.same added)) k.2
      (moved p IsGrounded last.state held added k.0 last.held_is last.added_is (grounded p last.budget last.events last.state k.0 search last.reached k.1))

  pub is_bank : EachIsKnown → ContentsAreGrounded → SearchableAreSorted → RunsStayHeld → HasTests g → IsBankFor p held
  is_bank each grounded sorted stay tests =
      let stands = stay p last.budget last.events last.state (sorted p search) last.reached in
      record {
        sig = subst (λ (b : Held). b.sig ≡ p.sig) last.held_is stands.sig;
        inhabited = (is_grounded each grounded tests.0 tests.1).inhabited;
      }

  pub are_over : AddedAreTerms → SearchableAreSorted → AreInstancesOver held added
  are_over terms sorted =
      subst (λ (a : List (ℕ × List ℕ)). AreInstancesOver held a) last.added_is
      (subst (λ (b : Held). AreInstancesOver b last.state.added) last.held_is (terms p last.budget last.events last.state (sorted p search) last.reached))

  -- the added instances are true in the tables of the content, and so in those of a candidate that is made of it
  are_true : EachIsKnown → InstancesHold → (t : Tests) → AreTestsOf g t
      → AreTrueThere (reading_of (candidate (content_of p held.terms t.same added))) (representatives (content_of p held.terms t.same added)) p.clauses added
  are_true each hold t h =
      let k = known_by each t h in
      let now = hold p last.budget last.events last.state k.0 search last.reached k.1 last.bounded (last.alone k.0 k.1) in
      let there = subst (λ (a : List (ℕ × List ℕ)). AreTrueThere (reading_of (candidate (content_at p last.state k.0))) (representatives (content_at p last.state k.0)) p.clauses a) last.added_is now.tables in
      subst (λ (u : Tests). AreTrueThere (reading_of (candidate (content_of p held.terms u.same added))) (representatives (content_of p held.terms u.same added)) p.clauses added) k.2
      (moved p (λ c. AreTrueThere (reading_of (candidate c)) (representatives c) p.clauses added) last.state held added k.0 last.held_is last.added_is there)

  pub true_in : EachIsKnown → InstancesHold → HasTests g → (k : Candidate) → IsCandidateBy p held g added k
      → AreTrueThere (reading_of k.interp) (numbered_reps k.reps) p.clauses added
  true_in each hold tests k by =
      let made = by tests.0 tests.1 in
      let there = are_true each hold tests.0 tests.1 in
      subst (λ (i : Interp). AreTrueThere (reading_of i) (numbered_reps k.reps) p.clauses added) (sym made.interp)
      (subst (λ (reps : List (List ℕ)). AreTrueThere (reading_of (candidate (content_of p held.terms tests.0.same added))) reps p.clauses added) (sym made.reps) there)

  -- what fails first in the tables of such a candidate fails first by the definition
  fails_alike : EachIsKnown → ContentsAreGrounded → TablesReadAlike → (k : Candidate) → IsCandidateBy p held g added k → (t : Tests) → AreTestsOf g t
      → first_failing_in p k ≡ failing_at p (content_of p held.terms t.same added)
  fails_alike each grounded alike k by t h =
      let c = content_of p held.terms t.same added in
      let made = by t h in
      let law = alike c p.clauses (is_grounded each grounded t h) search.named search.sorted in
      ap (λ (i : Interp). failing_instance (reading_of i) (numbered_reps k.reps) p.clauses) made.interp
      ∙ ap (λ (reps : List (List ℕ)). failing_instance (reading_of (candidate c)) reps p.clauses) made.reps
      ∙ law.failing

  pub found : EachIsKnown → ContentsAreGrounded → TablesReadAlike → (k : Candidate) → IsCandidateBy p held g added k → is_fit p.sig k.interp ≡ true
      → (o : Option Failing) → found_instance o ≡ first_failing_in p k → AnswersLeastIn p k o
      → (t : Tests) → AreTestsOf g t → IsFound p (content_of p held.terms t.same added) (outcome_of k.interp o)
  found each grounded alike k by fits None first least t h = (sym (fails_alike each grounded alike k by t h) ∙ sym first, (by t h).interp, fits, least)
  found each grounded alike k by fits (Some f) first least t h = sym (fails_alike each grounded alike k by t h) ∙ sym first
