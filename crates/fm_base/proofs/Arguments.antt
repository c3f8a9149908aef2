-- Arguments and types of two lengths don't fit one by one.
use Rattle.std.proofs.Common.{◌≡◌, suc, false, List, [], ◌∷◌, length, refl, sym, ap}
use Rattle.std.proofs.lemmas.Bool.{and_right}
use Rattle.fm_base.specs.Truth.{Sort, are_arguments, is_of_sort}
use Rattle.fm_base.specs.declared.ids.SortId.{SortId}
use Rattle.fm_base.specs.declared.signature.Sig.{Sig}
use Rattle.fm_base.specs.declared.signature.Ty.{Ty}

pub arguments_apart : (ks : List Sort) (us : List Ty) (sig : Sig) (scope : List SortId) → (length ks ≡ length us → ⊥) → false ≡ are_arguments ks us sig scope
arguments_apart [] [] sig scope apart = absurd (apart refl)
arguments_apart [] (u ∷ us) sig scope apart = refl
arguments_apart (k ∷ ks) [] sig scope apart = refl
arguments_apart (k ∷ ks) (u ∷ us) sig scope apart = sym (and_right (is_of_sort (k sig scope) u) (are_arguments ks us sig scope) (sym (arguments_apart ks us sig scope (λ e. apart (ap suc e)))))
