-- What a run has shown of every interpretation that satisfies its problem's clauses.
use Rattle.std.specs.Prelude.{◌≡◌, ◌<◌, ◌≤◌, ℕ, true, List, slice_get, Some}
use Rattle.fm_base.specs.Interpretations.{IsInterpretation, Reading}
use Rattle.fm_base.specs.Models.{sum_of_sizes}
use Rattle.fm_bank.specs.Clauses.{Satisfies}
use Rattle.fm_bank.specs.Ground.{lit_true}
use Rattle.fm_bank.specs.Terms.{value_of}
use Rattle.fm_guide.specs.declared.event.Event.{Event}
use Rattle.fm_sat.specs.Learning.{IsRefuted}
use Rattle.fm_trail.specs.declared.entry.Entry.{Entry}
use Rattle.fm_steps.specs.Lines.{Certified, IsSorted, are_written, literal_in, searched}
use Rattle.fm_steps.specs.Runs.{IsReached}
use Rattle.fm_steps.specs.State.{Budget, State}

-- in every state of a run whose numbers can be written, of every such interpretation
abbrev pub HoldsInModels : (Certified → State → Reading → Type 0) → Type 0
HoldsInModels Fact =
    (c : Certified) (user : ℕ) (b : Budget) (events : List Event) (s : State) (m : Reading) → IsSorted (searched c user)
    → IsReached (searched c user) b events s → are_written s ≡ true → IsInterpretation c.symbols m → Satisfies m c.clauses → Fact c s m

-- the literals of level 0 are true, each term having its value there
abbrev pub ZeroIsTrue : Certified → State → Reading → Type 0
ZeroIsTrue c s m =
    (i : ℕ) (e : Entry) → slice_get s.trail.entries i ≡ Some e → e.level ≡ 0
    → lit_true c.symbols m (value_of m s.held.terms) e.lit.positive (literal_in s.held.atoms e.lit).atom ≡ true

-- the sum of the sizes isn't below the bound, and is above it in the free phase
pub record SumIsReached (c : Certified) (s : State) (m : Reading) : Type 0 where
  pub least : s.bound ≤ sum_of_sizes c.symbols m
  pub above : s.free ≡ true → s.bound < sum_of_sizes c.symbols m

-- and no clause is false at level 0
abbrev pub NoneIsRefuted : Certified → State → Reading → Type 0
NoneIsRefuted c s m = (n : ℕ) → IsRefuted s.clauses s.trail.entries n → ⊥
