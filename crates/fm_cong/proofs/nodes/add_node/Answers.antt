use Rattle.std.proofs.Common.{◌++◌, ◌∷◌, [], List, Option, None, refl, ap, ◌∙◌}
use Rattle.fm_cells.specs.declared.edge.Edge.{Edge}
use Rattle.fm_cong.specs.declared.state.State.{State}
use Rattle.fm_cong.proofs.Widening.{keeps_node, logs_from, node_from}
use Rattle.fm_cong.proofs.nodes.add_node.Goals as goal

pub returns-clause-keeps : goal.returns-clause-keeps
returns-clause-keeps c =
    let s = c.args.state.now in
    let r = c.reserve.new.self in
    let t : State = record { classes = c.push_within.new.self; links = c.push_within-2.new.self; table = s.table; waiting = s.waiting; facts = s.facts; entered = s.entered } in
    let node = node_from s.classes r c.push_within.new.self c.in_ok-reserve.ensures.cells c.push_within.ensures.node in
    let logs = logs_from s.classes r c.push_within.new.self c.in_ok-reserve.ensures.logs c.push_within.ensures.logs in
    let links = c.push_within-2.ensures.cells ∙ ap (λ (xs : List (Option Edge)). xs ++ None ∷ []) c.in_ok-reserve-2.ensures.cells in
    keeps_node s t logs (c.push_within-2.ensures.log ∙ c.in_ok-reserve-2.ensures.log) refl refl refl refl node links
