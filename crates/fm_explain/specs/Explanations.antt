-- What an explanation is, and what it shows.
use Rattle.std.specs.Prelude.{◌≡◌, ◌↔◌, ℕ, Bool, if◌then◌else◌, List, slice_get, Option, Some}
use Rattle.std.specs.List.{All, Contains}
use Rattle.fm_base.specs.Resolution.{AreDistinct}
use Rattle.fm_base.specs.declared.ids.Lit.{Lit}
use Rattle.fm_bank.specs.Closure.{Follows, Shape, no, object, shapes_of, yes}
use Rattle.fm_bank.specs.Interning.{Held as Bank}
use Rattle.fm_bank.specs.Terms.{Term, numbers}
use Rattle.fm_bank.specs.declared.atom.Atom.{Atom}
use Rattle.fm_cells.specs.declared.edge.Edge.{Edge}
use Rattle.fm_cong.specs.Explained.{IsExplained}
use Rattle.fm_cong.specs.Held.{Held, link_held}
use Rattle.fm_cong.specs.declared.fact.Fact.{Fact}
use Rattle.fm_explain.specs.declared.explaining.Explanation.{Explanation}
use Rattle.fm_explain.specs.Meant.{IsLitMeant, IsNodeMeant, pairs_by}

abbrev pub term_of : Shape → Term
term_of s = record { symbol = s.symbol; args = s.args }

abbrev pub AreTermsOf : List Term → List Shape → Type 0
AreTermsOf terms shapes = All (λ (s : Shape). slice_get terms s.number ≡ Some (term_of s)) shapes

abbrev pub AreAtomsOf : List Atom → List Fact → Type 0
AreAtomsOf atoms facts = All (λ (f : Fact). slice_get atoms f.lit.atom.0 ≡ Some f.atom) facts

-- the bank holds each registered term as it was, and the atom of each literal read, now and as each open level was opened
pub record IsKnownBy (g : Held) (bank : Bank) : Type 0 where
  pub terms : AreTermsOf bank.terms g.shapes
  pub atoms : AreAtomsOf bank.atoms g.facts
  pub levels : All (AreAtomsOf bank.atoms) g.levels

-- the links are the explanation forest of some e-graph over this bank
pub record IsForestOver (bank : Bank) (links : List (Option Edge)) : Type 0 where
  pub graph : Held
  pub explained : IsExplained graph links
  pub known : IsKnownBy graph bank

-- the literals are exactly those of the links by a fact on the paths meant, and the support the terms on them, each once
pub record IsExplanation (bank : Bank) (link : ℕ → Option Edge) (a b : ℕ) (x : Explanation) : Type 0 where
  pub literals : (k : Lit) → Contains x.lits.items k ↔ IsLitMeant bank.terms link a b k
  pub once : AreDistinct x.lits.items
  pub terms : (n : ℕ) → Contains (numbers x.support.items) n ↔ IsNodeMeant bank.terms link a b (object n)
  pub terms_once : AreDistinct (numbers x.support.items)

-- the literal was read
pub record IsRead (facts : List Fact) (k : Lit) : Type 0 where
  pub fact : Fact
  pub read : Contains facts fact
  pub lit_is : fact.lit ≡ k

abbrev pub AreRead : Held → Explanation → Type 0
AreRead g x = All (IsRead g.facts) x.lits.items

-- the two nodes follow equal from the literals by congruence over the support alone
abbrev pub ShowsEqual : Bank → ℕ → ℕ → Explanation → Type 0
ShowsEqual bank a b x = Follows (shapes_of bank.terms (numbers x.support.items)) (pairs_by bank.atoms x.lits.items) a b

-- by the explanation forest of an e-graph
pub record Explains (g : Held) (bank : Bank) (a b : ℕ) (x : Explanation) : Type 0 where
  pub explanation : IsExplanation bank (link_held g) a b x
  pub read : AreRead g x
  pub shows : ShowsEqual bank a b x

-- yes or no
abbrev pub truth_node : Bool → ℕ
truth_node truth = if truth then yes else no
