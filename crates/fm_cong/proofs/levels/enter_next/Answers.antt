use Rattle.std.proofs.Common.{◌≡◌, ℕ, List, sym, subst, get_or}
use Rattle.fm_cong.specs.Graphs.{IsWorking, cells_of}
use Rattle.fm_cells.proofs.Logging.{logged_none}
use Rattle.fm_cong.proofs.Entering.{grown_none}
use Rattle.fm_cong.proofs.Reading.{entering_start, working_entered}
use Rattle.fm_cong.proofs.levels.enter_next.Goals as goal

pub returns-clause-working : goal.returns-clause-working
returns-clause-working c =
    let s = c.args.state.now in
    let shape = c.index-members-state.result in
    let w = subst (λ (ws : List (ℕ × ℕ)). IsWorking c.args.members.now (cells_of s) ws) (sym c.requires.quiet) c.requires.steady.working in
    let at : shape ≡ get_or c.args.members.now s.entered shape = c.index-members-state.is in
    let e = c.in_ok-enter.ensures in
    working_entered c.args.members.now (cells_of s) s.waiting.items c.enter.new.waiting.items c.enter.new.table.entries shape w c.requires.more at e.table e.waiting e.entered (e.sound c.args.members.now (s.entered, c.requires.more, sym at) (entering_start c.args.members.now (cells_of s) s.waiting.items w))

pub returns-clause-after : goal.returns-clause-after
returns-clause-after c =
    let s = c.args.state.now in
    record { class = logged_none s.classes.class.log.items s.classes.class.cells.items; next = logged_none s.classes.next.log.items s.classes.next.cells.items; size = logged_none s.classes.size.log.items s.classes.size.cells.items; links = logged_none s.links.log.items s.links.cells.items; table = c.in_ok-enter.ensures.table; facts = grown_none s.facts.items }
