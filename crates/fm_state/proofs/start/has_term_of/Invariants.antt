use Rattle.std.proofs.Common.{◌≡◌, drop}
use Rattle.std.specs.List.{list_any}
use Rattle.fm_rounds.specs.InstanceTerms.{is_term_of}
use Rattle.fm_state.proofs.start.has_term_of.Given as goal

abbrev pub invariant-loop-term : goal.invariant-loop-term
invariant-loop-term l = list_any (is_term_of l.bank.sig l.sort.0) (drop l.term l.bank.terms) ≡ list_any (is_term_of l.bank.sig l.sort.0) l.bank.terms
