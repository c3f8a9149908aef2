use Rattle.std.proofs.Common.{◌≡◌, take}
use Rattle.std.specs.List.{filter}
use Rattle.fm_cells.specs.Sorts.{is_first}
use Rattle.fm_cells.proofs.sorts.first_terms.Given as goal

abbrev pub invariant-loop-term : goal.invariant-loop-term
invariant-loop-term l = l.list.items ≡ filter (is_first l.classes) (take l.term-index l.terms)
