use Rattle.std.proofs.Common.{ℕ, List, sym, subst}
use Rattle.std.specs.Prelude.{slice_set}
use Rattle.std.proofs.lemmas.Option.{get_or_from_slice_get}
use Rattle.fm_cells.specs.Logs.{AreOfCells, HasLogged}
use Rattle.fm_cells.proofs.Logging.{logged_write, places_write}
use Rattle.fm_cells.proofs.cells.Logged.set.Goals as goal

pub returns-clause-logged : goal.returns-clause-logged
returns-clause-logged g c =
    let cells = c.args.self.now.cells.items in
    let old = c.get-old.result in
    subst (λ (log : List (ℕ × g.row.T.Denot)). HasLogged c.args.self.now.log.items cells log (slice_set cells c.args.i c.args.value)) (sym c.in_ok-push.ensures.items) (logged_write c.args.self.now.log.items cells c.args.i old old c.args.value (sym (get_or_from_slice_get cells c.args.i old old c.get-old.ensures)))

pub invariant_of-self-2 : goal.invariant_of-self-2
invariant_of-self-2 g c =
    let s = c.args.self.now in
    let old = c.get-old.result in
    record { places = subst (λ (log : List (ℕ × g.row.T.Denot)). AreOfCells (slice_set s.cells.items c.args.i c.args.value) log) (sym c.in_ok-push.ensures.items) (places_write s.cells.items s.log.items c.args.i old c.args.value c.requires s.places) }
