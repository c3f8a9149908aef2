use Rattle.std.proofs.Common.{◌∙◌}
use Rattle.fm_resolve.specs.Marks.{members}
use Rattle.fm_resolve.specs.Names.{all_names, names}
use Rattle.fm_resolve.proofs.StepLaws.{steps_next}
use Rattle.fm_resolve.proofs.chain.resolve_all.Goals as goal

pub loop-step-preserved : goal.loop-step-preserved
loop-step-preserved c =
    let inv = c.loop-step.invariant in
    let done = c.in_ok-resolve_with.ensures in
    let atoms = c.args.atoms.now.keys in
    record {
      same = steps_next (all_names atoms c.args.clauses.now) (names atoms (members c.args.marks.now)) (names atoms (members c.loop-step.marks)) c.args.steps.now c.loop-step.step-index _ c.loop-step-test.true inv.same (names atoms (members c.resolve_with.new.marks)) (done.yes c.if-not-branch.false);
      numbered = done.numbered c.if-not-branch.false;
      marks = record { positive = done.size.positive ∙ inv.marks.positive; negative = done.size.negative ∙ inv.marks.negative };
      covers = done.covers;
      size = record { positive = done.size.positive ∙ inv.size.positive; negative = done.size.negative ∙ inv.size.negative };
    }
