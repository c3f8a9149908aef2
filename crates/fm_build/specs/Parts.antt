-- What the parts of a search have in common, so that a candidate can be made of them: the clauses, the bank of terms, the
-- e-graph and the instances that were added.
use Rattle.std.specs.Prelude.{◌≡◌, ◌↔◌, ℕ, ◌<◌, Bool, true, false, List, get_or, length, slice_get, Some}
use Rattle.std.specs.List.{All, list_all}
use Rattle.fm_base.specs.Interpretations.{names_its_sorts}
use Rattle.fm_base.specs.Resolution.{Has}
use Rattle.fm_base.specs.declared.signature.Rank.{Rank}
use Rattle.fm_base.specs.declared.signature.Ty.{Ty}
use Rattle.fm_bank.specs.Closure.{Shape, object, yes}
use Rattle.fm_bank.specs.Interning.{Held as Bank, IsHeld}
use Rattle.fm_bank.specs.Sorted.{is_sorted_clause}
use Rattle.fm_bank.specs.Terms.{Term, is_type, type_of}
use Rattle.fm_bank.specs.Tests.{Tests}
use Rattle.fm_bank.specs.declared.clause.ClauseSet.{ClauseSet}
use Rattle.fm_cong.specs.Held.{AreEqual, Held as Graph, IsRegistered}
use Rattle.fm_cong.specs.Tests.{AreTestsOf}
use Rattle.fm_cong.specs.Types.{IsOldestOf}
use Rattle.fm_cong.specs.declared.fact.Fact.{Fact}
use Rattle.fm_rounds.specs.Grounds.{AreTermsOf, IsGrounded, is_declared}
use Rattle.fm_rounds.specs.InstanceTerms.{start_terms}
use Rattle.fm_rounds.specs.Rounds.{Content, content_of}
use Rattle.fm_rounds.specs.Soundness.{CandidateHolds}
use Rattle.fm_rounds.specs.declared.answers.Candidate.{Candidate}
use Rattle.fm_build.specs.Built.{IsCandidateOf}
use Rattle.fm_build.specs.Marks.{class_at}

-- no symbol has a Bool argument, ranks name sorts of the signature, and clauses are well sorted
pub record AreFirstOrder (set : ClauseSet) : Type 0 where
  pub declared : (f : ℕ) (rank : Rank) → slice_get set.sig.ranks f ≡ Some rank → list_all is_declared rank.args ≡ true
  pub named : names_its_sorts set.sig ≡ true
  pub sorted : list_all (is_sorted_clause set.sig) set.clauses ≡ true

abbrev pub term_of : Shape → Term
term_of s = record { symbol = s.symbol; args = s.args }

-- the graph has the terms of the bank, each as it is there, and has read literals on atoms of the bank
pub record IsGraphOver (b : Bank) (g : Graph) : Type 0 where
  pub terms : All (λ (s : Shape). slice_get b.terms s.number ≡ Some (term_of s)) g.shapes
  pub registered : (n : ℕ) → n < length b.terms → IsRegistered g.shapes n
  pub atoms : All (λ (f : Fact). slice_get b.atoms f.lit.atom.0 ≡ Some f.atom) g.facts

-- the bank is over the signature of the clauses, and each sort has a ground term of the clauses or a fresh constant in it
pub record IsBankFor (set : ClauseSet) (b : Bank) : Type 0 where
  pub sig : b.sig ≡ set.sig
  pub inhabited : (s : ℕ) → s < set.sig.sorts → (n : ℕ) × Has (start_terms set b.terms) n × (is_type (type_of set.sig b.terms n) (Ty.Of (record { 0 = s })) ≡ true)

-- what stands for the variables of the instances are terms of the bank
abbrev pub AreInstancesOver : Bank → List (ℕ × List ℕ) → Type 0
AreInstancesOver b added = (i : ℕ × List ℕ) → Has added i → AreTermsOf b.terms i.1

-- what the clauses, the terms of the bank and the instances are by the test of a graph
abbrev pub content_by : ClauseSet → Bank → List (ℕ × List ℕ) → Tests → Content
content_by set b added t = content_of set b.terms t.same added

-- the candidate of the content by the graph
abbrev pub IsCandidateBy : ClauseSet → Bank → Graph → List (ℕ × List ℕ) → Candidate → Type 0
IsCandidateBy set b g added k = (t : Tests) → AreTestsOf g t → IsCandidateOf (content_by set b added t) k

-- what a candidate is good for holds of that content: among others, each reached term has the element of its class as value
abbrev pub CandidateHoldsBy : ClauseSet → Bank → Graph → List (ℕ × List ℕ) → Type 0
CandidateHoldsBy set b g added = (t : Tests) → AreTestsOf g t → CandidateHolds (content_by set b added t)

-- such parts make a content of which the laws of candidates hold
abbrev pub ContentsAreGrounded : Type 0
ContentsAreGrounded =
    (set : ClauseSet) (b : Bank) (g : Graph) (added : List (ℕ × List ℕ)) (t : Tests) → IsHeld b.sig b.terms b.atoms → AreFirstOrder set → IsBankFor set b
    → IsGraphOver b g → AreInstancesOver b added → AreTestsOf g t → IsGrounded (content_by set b added t)

-- the class of each term is the number of the oldest in it
pub record AreClasses (g : Graph) (count : ℕ) (class : List ℕ) : Type 0 where
  pub many : length class ≡ count
  pub each : (n : ℕ) → n < count → IsOldestOf g (record { 0 = n }) (record { 0 = class_at class n })

-- the type of each term
pub record AreTypes (b : Bank) (count : ℕ) (types : List Ty) : Type 0 where
  pub many : length types ≡ count
  pub each : (n : ℕ) → n < count → slice_get types n ≡ type_of b.sig b.terms n

-- whether each term is joined with yes
pub record AreTruths (g : Graph) (count : ℕ) (holds : List Bool) : Type 0 where
  pub many : length holds ≡ count
  pub each : (n : ℕ) → n < count → (get_or holds n false ≡ true) ↔ AreEqual g (object n) yes
