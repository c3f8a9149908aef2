use Rattle.std.proofs.Common.{◌<◌, ◌≤◌, length, ap, arith}
use Rattle.fm_cong.specs.Held.{Held as Graph}
use Rattle.fm_readers.proofs.Graphs.{goes_back, stays_back}
use Rattle.fm_readers.proofs.graph.go_back.Goals as goal

pub returns-in_ok-settle-clause-read : goal.returns-in_ok-settle-clause-read
returns-in_ok-settle-clause-read c =
    let lt : c.args.level < length c.args.graph.now.levels = (let a = c.if-level-opened.true in let b = c.requires.opened in omega (arith, a, b)) in
    let settled = c.in_ok-settle.ensures.settled in
    goes_back c.args.bank.now c.args.level c.args.graph.now c.undo_to.new.self c.settle.new.self lt c.undo_to.ensures.levels c.undo_to.ensures.content (ap (λ (x : Graph). x.facts) settled) (ap (λ (x : Graph). x.levels) settled)

pub returns-else-level-opened-clause-read : goal.returns-else-level-opened-clause-read
returns-else-level-opened-clause-read c =
    let le : length c.args.graph.now.levels ≤ c.args.level = (let a = c.if-level-opened.false in let b = c.requires.opened in omega (arith, a, b)) in
    stays_back c.args.bank.now c.args.level c.args.graph.now le
