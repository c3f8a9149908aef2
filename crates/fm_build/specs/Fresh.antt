-- The fresh constants as they are found: the sorts without a term, and constants looked up.
use Rattle.std.specs.Prelude.{ℕ, ◌-◌, Bool, not, List, [], length}
use Rattle.std.specs.List.{filter, flat_map, list_any, range_with_len}
use Rattle.fm_base.specs.declared.signature.Sig.{Sig}
use Rattle.fm_bank.specs.Terms.{Term, find}
use Rattle.fm_bank.specs.declared.clause.ClauseSet.{ClauseSet}
use Rattle.fm_rounds.specs.InstanceTerms.{as_list, is_bare, is_term_of}

-- none of the terms is of the sort
abbrev pub is_bare_in : Sig → List Term → ℕ → Bool
is_bare_in sig terms s = not (list_any (is_term_of sig s) terms)

abbrev pub bare_count_in : Sig → List Term → ℕ
bare_count_in sig terms = length (filter (is_bare_in sig terms) (range_with_len 0 sig.sorts))

abbrev pub bare_count : ClauseSet → ℕ
bare_count set = length (filter (is_bare set) (range_with_len 0 set.sig.sorts))

-- the constants among the symbols from this one on, by their numbers
abbrev pub constants_from : List Term → ℕ → ℕ → List ℕ
constants_from terms first all = flat_map (λ f. as_list (find terms (record { symbol = f; args = [] }))) (range_with_len first (all - first))
