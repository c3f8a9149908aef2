use Rattle.std.proofs.Common.{◌≡◌, ◌↔◌, map}
use Rattle.std.specs.List.{filter, range_with_len}
use Rattle.fm_rounds.specs.Fresh.{constant_of}
use Rattle.fm_state.specs.Begins.{is_bare_in}
use Rattle.fm_state.proofs.Constants.{constants_from}
use Rattle.fm_state.proofs.searchable.are_fresh.Given as goal

abbrev pub invariant-loop-sort : goal.invariant-loop-sort
invariant-loop-sort l = (l.left ≡ constants_from (is_bare_in l.bank.sig l.bank.terms) l.sort l.bank.sig.sorts) ↔ (l.ranks ≡ map constant_of (filter (is_bare_in l.bank.sig l.bank.terms) (range_with_len 0 l.bank.sig.sorts)))
