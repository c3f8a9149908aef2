-- What a test of entries one after the other shows.
use Rattle.std.proofs.Common.{◌≡◌, ℕ, Bool, true, List, Some}
use Rattle.std.specs.Prelude.{slice_get}
use Rattle.std.specs.List.{list_any}
use Rattle.fm_rounds.proofs.Candidates.{get_in}
use Rattle.fm_rounds.proofs.Members.{in_any}

pub any_at : {X : Type 0} (p : X → Bool) (xs : List X) (n : ℕ) (x : X) → slice_get xs n ≡ Some x → p x ≡ true → list_any p xs ≡ true
any_at p xs n x at e = in_any p xs x (get_in xs n x at) e
