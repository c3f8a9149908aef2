use Rattle.std.proofs.Common.{◌≡◌, true, drop}
use Rattle.std.specs.List.{list_all}
use Rattle.fm_bank.specs.Sorted.{is_sorted_clause}
use Rattle.fm_rounds.specs.InstanceTerms.{clauses_ground_grown}
use Rattle.fm_state.proofs.start.put_clauses.Given as goal

abbrev pub invariant-loop-clause : goal.invariant-loop-clause
invariant-loop-clause l = record {
  sig : l.bank.sig ≡ l.fn.bank.sig;
  atoms : l.bank.atoms ≡ l.fn.bank.atoms;
  sorted : list_all (is_sorted_clause l.fn.bank.sig) (drop l.clause-index l.clauses) ≡ true;
  terms : clauses_ground_grown (drop l.clause-index l.clauses) l.bank.terms ≡ clauses_ground_grown l.clauses l.fn.bank.terms;
}
