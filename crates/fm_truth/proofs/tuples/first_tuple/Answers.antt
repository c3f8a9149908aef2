use Rattle.std.proofs.Common.{arith}
use Rattle.fm_base.specs.Interpretations.{reading_of}
use Rattle.fm_truth.proofs.Scopes.{first_written}
use Rattle.fm_truth.proofs.tuples.first_tuple.Goals as goal

pub returns-clause-first : goal.returns-clause-first
returns-clause-first c =
    let i = c.loop-variable.variable in
    first_written (reading_of c.args.interp.now) c.args.sorts.now c.args.depth i c.args.vars.now c.loop-variable.vars (omega arith) (omega arith) c.requires c.loop-variable.invariant.elements c.loop-variable.invariant.written
