-- An explanation along a forest is one for the e-graph whose forest it is.
use Rattle.std.proofs.Common.{◌≡◌, ℕ, List, Option, Result, Ok, Err, IfOk, subst}
use Rattle.fm_base.specs.declared.ids.Memory.{Memory}
use Rattle.fm_bank.specs.Interning.{Held as Bank}
use Rattle.fm_cells.specs.Forest.{link_of}
use Rattle.fm_cells.specs.declared.edge.Edge.{Edge}
use Rattle.fm_cong.specs.Explained.{IsExplained}
use Rattle.fm_cong.specs.Held.{Held}
use Rattle.fm_explain.specs.Explanations.{AreRead, Explains, IsExplanation, ShowsEqual}
use Rattle.fm_explain.specs.declared.explaining.Explanation.{Explanation}

module _ (g : Held) (bank : Bank) (links : List (Option Edge)) (x : IsExplained g links) where
  by_forest : (r : Result Explanation Memory) (u v : ℕ) → IfOk r (IsExplanation bank (link_of links) u v) → IfOk r (AreRead g) → IfOk r (ShowsEqual bank u v) → IfOk r (Explains g bank u v)
  by_forest (Ok e) u v paths read shows = record { explanation = subst (λ (link : ℕ → Option Edge). IsExplanation bank link u v e) x.same paths; read = read; shows = shows }
  by_forest (Err e) u v paths read shows = tt

  pub explains_by : (r : Result Explanation Memory) (u v a b : ℕ) → u ≡ a → v ≡ b → IfOk r (IsExplanation bank (link_of links) u v) → ((h : Held) → IsExplained h links → IfOk r (AreRead h)) → IfOk r (ShowsEqual bank u v) → IfOk r (Explains g bank a b)
  explains_by r u v a b p q paths read shows =
      subst (λ (z : ℕ). IfOk r (Explains g bank z b)) p (subst (λ (z : ℕ). IfOk r (Explains g bank u z)) q (by_forest r u v paths (read g x) shows))
