-- What is offered can be done: what the rows of offers of the menu ask for.
use Rattle.std.specs.Prelude.{◌≡◌, ◌<◌, ℕ, true, false, List, length, Some, None}
use Rattle.fm_base.specs.Resolution.{Has}
use Rattle.fm_base.specs.declared.ids.Lit.{Lit}
use Rattle.fm_base.specs.declared.ids.Reader.{Reader}
use Rattle.fm_bank.specs.Instances.{equality}
use Rattle.fm_bank.specs.Interning.{find_atom}
use Rattle.fm_bank.specs.declared.atom.Atom.{Atom}
use Rattle.fm_bank.specs.declared.literal.Literal.{Literal}
use Rattle.fm_guide.specs.declared.event.Word.{Word}
use Rattle.fm_sat.specs.Learning.{IsConflict, IsRefuted}
use Rattle.fm_sat.specs.Store.{HasNoFalse, IsUnit}
use Rattle.fm_trail.specs.Trail.{head_of}
use Rattle.fm_steps.specs.Menu.{failing_at, menu_of}
use Rattle.fm_steps.specs.Picks.{Known}
use Rattle.fm_steps.specs.Rows.{Offer, content_at}
use Rattle.fm_steps.specs.Sizes.{is_refuted, is_unvalued}
use Rattle.fm_steps.specs.State.{Problem, State}

-- where the menu has the offer, this holds
abbrev pub IsReady : Offer → (Problem → State → Known → Type 0) → Type 0
IsReady o Fact = (p : Problem) (s : State) (k : Known) → Has (menu_of p s k) o → Fact p s k

abbrev pub LearnIsReady : Type 0
LearnIsReady = (n : ℕ) → IsReady (Offer.Learn n) (λ p s k. IsConflict s.clauses s.trail.entries n)

abbrev pub UnsatIsReady : Type 0
UnsatIsReady = IsReady (Offer.Answer Word.Unsat) (λ p s k. (n : ℕ) × IsRefuted s.clauses s.trail.entries n)

abbrev pub UnitIsReady : Type 0
UnitIsReady = (n : ℕ) → IsReady (Offer.Unit' n) (λ p s k. HasNoFalse s.clauses s.trail.entries × ((l : Lit) × IsUnit s.clauses s.trail.entries n l))

abbrev pub TakeIsReady : Type 0
TakeIsReady = (r : Reader) → IsReady (Offer.Take r) (λ p s k. HasNoFalse s.clauses s.trail.entries × (head_of s.trail.heads r < length s.trail.entries))

abbrev pub TurnIsReady : Type 0
TurnIsReady = IsReady Offer.Turn (λ p s k. (s.free ≡ false) × (is_refuted s (Atom.Bound s.bound) ≡ true))

abbrev pub DecideIsReady : Type 0
DecideIsReady = (l : Literal) → IsReady (Offer.Decide l) (λ p s k. is_unvalued s l.atom ≡ true)

abbrev pub SplitIsReady : Type 0
SplitIsReady = (a b : ℕ) → IsReady (Offer.Split a b) (λ p s k. (s.free ≡ false) × (find_atom s.held.atoms (equality a b) ≡ None))

abbrev pub InstanceIsReady : Type 0
InstanceIsReady = (i : ℕ) (subst : List ℕ) → IsReady (Offer.Instance i subst) (λ p s k. (s.free ≡ false) × (failing_at p (content_at p s k) ≡ Some (i, subst)))

abbrev pub SatIsReady : Type 0
SatIsReady = IsReady (Offer.Answer Word.Sat) (λ p s k. (s.free ≡ false) × (failing_at p (content_at p s k) ≡ None))

abbrev pub RaiseIsReady : Type 0
RaiseIsReady = IsReady Offer.Raise (λ p s k. s.free ≡ true)
