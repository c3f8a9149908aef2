-- A predicate term that is told true or false is joined with yes or no.
use Rattle.std.proofs.Common.{◌≡◌, ℕ, Bool, true, false, Option, Some}
use Rattle.fm_bank.specs.Closure.{object}
use Rattle.fm_cong.specs.Held.{AreEqual, Held, IsTruth}
use Rattle.fm_explain.specs.Explanations.{truth_node}

pub told_equal : (g : Held) (n : ℕ) (o : Option Bool) (b : Bool) → IsTruth g n o → o ≡ Some b → AreEqual g (object n) (truth_node b)
told_equal g n o true h e = h.yes.0 e
told_equal g n o false h e = (h.no.0 e).0
