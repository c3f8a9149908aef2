use Rattle.std.proofs.Common.{rules, append_assoc}
use Rattle.fm_sexp.proofs.Trees.{before_all_push}
use Rattle.fm_sexp.proofs.building.Builder.open.Goals as goal

pub returns-clause-so_far : goal.returns-clause-so_far
returns-clause-so_far c = search (rules, before_all_push, append_assoc)
