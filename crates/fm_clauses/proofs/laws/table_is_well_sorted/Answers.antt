use Rattle.fm_clauses.proofs.SortedForms.{normal_forms_are_sorted}
use Rattle.fm_clauses.proofs.SortedTables.{tables_are_sorted, tables_name_sorts, tables_take_no_truths}
use Rattle.fm_clauses.proofs.laws.table_is_well_sorted.Goals as goal

pub returns : goal.returns
returns c = record { forms = normal_forms_are_sorted; clauses = tables_are_sorted; names = tables_name_sorts; truths = tables_take_no_truths }
