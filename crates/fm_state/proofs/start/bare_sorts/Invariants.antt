use Rattle.std.proofs.Common.{◌≡◌, ◌≤◌, length}
use Rattle.std.specs.List.{filter, range_with_len}
use Rattle.fm_state.specs.Begins.{is_bare_in}
use Rattle.fm_state.proofs.start.bare_sorts.Given as goal

abbrev pub invariant-loop-sort : goal.invariant-loop-sort
invariant-loop-sort l = record {
  count : l.count ≡ length (filter (is_bare_in l.bank.sig l.bank.terms) (range_with_len 0 l.sort));
  few : l.count ≤ l.sort;
}
