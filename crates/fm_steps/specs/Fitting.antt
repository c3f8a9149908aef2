-- What is carried out is over the registered terms: what stands for variables, and what is decided and split.
use Rattle.std.specs.Prelude.{◌≡◌, ℕ, true, List}
use Rattle.fm_base.specs.Resolution.{Has}
use Rattle.fm_bank.specs.Instances.{equality, is_substitution}
use Rattle.fm_bank.specs.Interning.{is_atom}
use Rattle.fm_bank.specs.declared.literal.Literal.{Literal}
use Rattle.fm_steps.specs.Lines.{IsSorted, IsWellHeld}
use Rattle.fm_steps.specs.Menu.{menu_of}
use Rattle.fm_steps.specs.Picks.{Known}
use Rattle.fm_steps.specs.Rows.{InstanceRow, Offer, SplitRow}
use Rattle.fm_steps.specs.State.{Budget, Problem, State}

abbrev pub InstancesAreTyped : Type 0
InstancesAreTyped =
    (p : Problem) (b : Budget) (s : State) (k : Known) (i : ℕ) (subst : List ℕ) (t : State) → IsSorted p → (r : InstanceRow p b s k i subst t)
    → is_substitution p.sig s.held.terms r.clause.vars subst ≡ true

abbrev pub SplitsAreAtoms : Type 0
SplitsAreAtoms = (s : State) (k : Known) (a b : ℕ) (t : State) → SplitRow s k a b t → is_atom s.held.sig s.held.terms (equality a b) ≡ true

abbrev pub DecisionsAreAtoms : Type 0
DecisionsAreAtoms =
    (p : Problem) (s : State) (k : Known) (l : Literal) → IsWellHeld p s → Has (menu_of p s k) (Offer.Decide l)
    → is_atom s.held.sig s.held.terms l.atom ≡ true
