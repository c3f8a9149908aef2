use Rattle.std.proofs.Common.{◌≡◌, ap, ◌∙◌, get_or, arith}
use Rattle.std.specs.Prelude.{slice_set}
use Rattle.std.proofs.lemmas.List.{get_or_default}
use Rattle.std.proofs.lemmas.List.Edits.{map_over_more}
use Rattle.fm_closure.specs.Classes.{relabelled}
use Rattle.fm_closure.proofs.classes.relabel.Goals as goal

pub loop-class-preserved : goal.loop-class-preserved
loop-class-preserved c =
    let classes = c.loop-class.classes in
    let i = c.loop-class.class-index in
    let written : slice_set classes i c.relabelled.result ≡ slice_set classes i (relabelled c.args.from c.args.to (get_or classes i 0)) = ap (slice_set classes i) c.relabelled.ensures in
    written ∙ map_over_more (relabelled c.args.from c.args.to) c.args.classes.now classes i (get_or classes i 0) (omega arith) c.loop-class.invariant (get_or_default classes i 0 (get_or classes i 0) (omega arith))
