use Rattle.std.proofs.Common.{Bool, List, ◌++◌, ap, ◌∙◌}
use Rattle.fm_clauses.specs.Assertions.{fresh_constants, has_ground}
use Rattle.fm_clauses.specs.Marked.{marked}
use Rattle.fm_clauses.proofs.Marking.{fresh_marked, none_marked}
use Rattle.fm_clauses.proofs.fresh.push_fresh.Goals as goal

pub returns : goal.returns
returns c =
    let sorts = c.args.sig.now.sorts in
    let old = c.args.ranks.now.items in
    let is = c.in_ok-push_all_unmarked.ensures ∙ ap (λ (ms : List Bool). old ++ fresh_constants sorts (marked ms)) c.as_slice.ensures.value in
    fresh_marked sorts (has_ground c.args.sig.now c.args.clauses.now) c.resize.new.self.items c.mark_clauses.new.marks.items old c.push_all_unmarked.new.ranks.items (none_marked sorts _ c.new-marks.result.items c.resize.new.self.items c.new-marks.ensures.items c.new-marks.ensures.len c.in_ok-resize.ensures.items) c.mark_clauses.ensures is
