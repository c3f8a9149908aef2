-- The arguments of a term and the types of a rank of two lengths don't fit one by one.
use Rattle.std.proofs.Common.{◌≡◌, false, List, length, map, sym, ◌∙◌}
use Rattle.std.proofs.lemmas.List.{length-map}
use Rattle.fm_base.proofs.Arguments.{arguments_apart}
use Rattle.fm_base.specs.Truth.{are_arguments, sort_of}
use Rattle.fm_base.specs.declared.ids.SortId.{SortId}
use Rattle.fm_base.specs.declared.signature.Sig.{Sig}
use Rattle.fm_base.specs.declared.signature.Ty.{Ty}
use Rattle.fm_base.specs.declared.formula.Fterm.{Fterm}

pub arguments_differ : (ts : List Fterm) (us : List Ty) (sig : Sig) (scope : List SortId) → (length ts ≡ length us → ⊥) → false ≡ are_arguments (map sort_of ts) us sig scope
arguments_differ ts us sig scope apart = arguments_apart (map sort_of ts) us sig scope (λ e. apart (sym (length-map ts sort_of) ∙ e))
