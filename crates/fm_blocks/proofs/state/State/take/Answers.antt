use Rattle.std.proofs.Common.{List, sym, ap, ◌∙◌}
use Rattle.fm_base.specs.declared.ids.TermId.{TermId}
use Rattle.fm_cert.specs.declared.block.Line.{Line}
use Rattle.fm_blocks.proofs.TakeLaws.{cardinality_bad, cardinality_good, instance_bad}
use Rattle.fm_blocks.proofs.state.State.take.Goals as goal

pub returns-in-Cardinality-clause-good : goal.returns-in-Cardinality-clause-good
returns-in-Cardinality-clause-good c =
    let is = c.in-Cardinality.is ∙ ap (λ (ts : List TermId). Line.Cardinality c.in-Cardinality.sort c.in-Cardinality.k ts) (sym c.as_slice-in-Cardinality.ensures) in
    cardinality_good c.cardinality.result c.args.self.now c.cardinality.new.self c.args.table.now c.args.line.now c.in-Cardinality.sort c.in-Cardinality.k c.as_slice-in-Cardinality.result.now is c.cardinality.ensures.bank c.cardinality.ensures.count c.cardinality.ensures.sorted c.cardinality.ensures.clause

pub returns-in-Cardinality-clause-bad : goal.returns-in-Cardinality-clause-bad
returns-in-Cardinality-clause-bad c =
    let is = c.in-Cardinality.is ∙ ap (λ (ts : List TermId). Line.Cardinality c.in-Cardinality.sort c.in-Cardinality.k ts) (sym c.as_slice-in-Cardinality.ensures) in
    cardinality_bad c.cardinality.result c.args.self.now c.args.table.now c.args.line.now c.in-Cardinality.sort c.in-Cardinality.k c.as_slice-in-Cardinality.result.now is c.cardinality.ensures.bad

pub returns-in-Instance-clause-bad : goal.returns-in-Instance-clause-bad
returns-in-Instance-clause-bad c =
    let is = c.in-Instance.is ∙ ap (λ (ts : List TermId). Line.Instance c.in-Instance.clause ts) (sym c.as_slice-in-Instance.ensures) in
    instance_bad c.instance.result c.args.self.now c.args.table.now c.args.line.now c.in-Instance.clause c.as_slice-in-Instance.result.now is c.instance.ensures.bad
