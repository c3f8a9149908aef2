-- Parts of commands, as the definitions see them.
use Rattle.std.specs.Prelude.{ℕ, List, map}
use Rattle.std.specs.Borrow.{Bor}
use Rattle.fm_sexp.specs.declared.items.Sexp.{Sexp}

abbrev pub items_shown : List (Bor Sexp) → List Sexp
items_shown items = map (λ (i : Bor Sexp). i.now) items

abbrev pub names_shown : List (Bor (List ℕ)) → List (List ℕ)
names_shown names = map (λ (n : Bor (List ℕ)). n.now) names
