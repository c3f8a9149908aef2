-- The numbers of terms by place.
use Rattle.std.proofs.Common.{◌≡◌, ℕ, ◌<◌, List, length, get_or}
use Rattle.std.proofs.lemmas.List.{get_or-map}
use Rattle.fm_base.specs.declared.ids.TermId.{TermId}
use Rattle.fm_bank.specs.Terms.{numbers}
use Rattle.fm_region.specs.Rows.{number_at}

-- the number at a place is that of the term there
pub at_number : (ts : List TermId) (i : ℕ) (d : TermId) → i < length ts → number_at (numbers ts) i ≡ (get_or ts i d).0
at_number ts i d lt = get_or-map (λ (t : TermId). t.0) ts i d 0 lt
