use Rattle.std.proofs.Common.{sym, Ok, Err}
use Rattle.std.proofs.lemmas.List.Sorted.{searched}
use Rattle.fm_clauses.proofs.Listings.{below_found, below_missing, rises_or_same}
use Rattle.fm_clauses.proofs.scoped.position.Goals as goal

pub returns-in-Ok : goal.returns-in-Ok
returns-in-Ok c =
    let h = searched c.args.used.now c.args.v (Ok c.in-Ok.i) c.in-Ok.ensures.position (rises_or_same c.args.used.now c.requires) in
    sym (below_found c.args.used.now c.args.v c.in-Ok.i c.requires h.0 h.1)

pub returns-in-Err : goal.returns-in-Err
returns-in-Err c =
    let h = searched c.args.used.now c.args.v (Err c.in-Err.i) c.in-Err.ensures.position (rises_or_same c.args.used.now c.requires) in
    sym (below_missing c.args.used.now c.args.v c.in-Err.i h.0 h.1 h.2)
