-- That normal forms and clauses are well sorted over the signature with the symbols that were made, and what the ranks of
-- these symbols name.
use Rattle.std.specs.Prelude.{◌≡◌, ◌&&◌, Bool, true, not, nat_lt, List, [], ◌++◌, length}
use Rattle.std.specs.List.{list_all}
use Rattle.fm_base.specs.Interpretations.{names_its_sorts}
use Rattle.fm_base.specs.Truth.{Sorted, all_sorted, is_bool, is_closed}
use Rattle.fm_base.specs.declared.ids.SortId.{SortId}
use Rattle.fm_base.specs.declared.signature.Rank.{Rank}
use Rattle.fm_base.specs.declared.signature.Sig.{Sig}
use Rattle.fm_base.specs.declared.signature.Ty.{Ty}
use Rattle.fm_base.specs.declared.formula.Formula.{Formula}
use Rattle.fm_base.specs.declared.formula.Nnf.{Nnf}
use Rattle.fm_base.specs.declared.formula.Nnf.TheOpen.{Nnf-F}
use Rattle.fm_base.specs.declared.formula.Nnf.TheFolds.{fold-Nnf}
use Rattle.fm_bank.specs.Sorted.{is_sorted_atom, is_sorted_clause}
use Rattle.fm_bank.specs.declared.clause.Clause.{Clause}
use Rattle.fm_nnf.specs.LiftLaw.{with_ranks}
use Rattle.fm_nnf.specs.NormalForm.{normal}
use Rattle.fm_nnf.specs.Plain.{is_plain}
use Rattle.fm_clauses.specs.Assertions.{clause_table}
use Rattle.fm_clauses.specs.TableLaw.{AreClosed}

abbrev pub sorted_form_step : Nnf-F Sorted → Sorted
sorted_form_step (Nnf-F.Lit positive a) sig scope = is_sorted_atom sig scope a
sorted_form_step (Nnf-F.And fs) sig scope = all_sorted fs sig scope
sorted_form_step (Nnf-F.Or fs) sig scope = all_sorted fs sig scope
sorted_form_step (Nnf-F.All vars body) sig scope = list_all (λ (s : SortId). nat_lt s.0 sig.sorts) vars && body sig (scope ++ vars)

-- the normal form is well sorted under the variables in scope
abbrev pub is_sorted_form : Nnf → Sorted
is_sorted_form = fold-Nnf Sorted sorted_form_step

abbrev pub are_sorted_clauses : Sig → List Clause → Bool
are_sorted_clauses sig clauses = list_all (is_sorted_clause sig) clauses

-- no symbol takes a truth value
abbrev pub takes_no_truth : Rank → Bool
takes_no_truth r = list_all (λ (t : Ty). not (is_bool t)) r.args

abbrev pub take_no_truths : Sig → Bool
take_no_truths sig = list_all takes_no_truth sig.ranks

-- a normal form is well sorted, where its Skolem functions are numbered on from the signature's symbols
abbrev pub NormalFormsAreSorted : Type 0
NormalFormsAreSorted = (sig : Sig) (f : Formula) → is_closed f sig ≡ true → is_plain f ≡ true → let r = normal f (length sig.ranks) in
    is_sorted_form r.0 (with_ranks sig r.1) [] ≡ true

-- all clauses of a table are well sorted over its signature
abbrev pub TablesAreSorted : Type 0
TablesAreSorted = (sig : Sig) (assertions : List Formula) → AreClosed sig assertions → let table = clause_table sig assertions in
    are_sorted_clauses table.sig table.clauses ≡ true

-- the ranks of a table name its sorts, where those of the signature do, and take no truth values, where those don't
abbrev pub TablesNameSorts : Type 0
TablesNameSorts = (sig : Sig) (assertions : List Formula) → AreClosed sig assertions → names_its_sorts sig ≡ true →
    names_its_sorts (clause_table sig assertions).sig ≡ true

abbrev pub TablesTakeNoTruths : Type 0
TablesTakeNoTruths = (sig : Sig) (assertions : List Formula) → AreClosed sig assertions → take_no_truths sig ≡ true →
    take_no_truths (clause_table sig assertions).sig ≡ true
