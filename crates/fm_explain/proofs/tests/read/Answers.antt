use Rattle.std.proofs.Common.{◌<◌, length, true, false, arith}
use Rattle.fm_explain.proofs.Knowing.{known_reading}
use Rattle.fm_explain.proofs.tests.read.Goals as goal

pub returns-then-positive : goal.returns-then-positive
returns-then-positive c =
    let lt : c.args.atom.0 < length c.args.bank.now.atoms = omega (arith, c.atoms.ensures, c.if-atom-atoms.false) in
    known_reading c.merge.result c.args.graph.now c.merge.new.self c.args.bank.now c.args.atom true c.requires lt c.merge.ensures.read c.merge.ensures.err

pub returns-else-positive : goal.returns-else-positive
returns-else-positive c =
    let lt : c.args.atom.0 < length c.args.bank.now.atoms = omega (arith, c.atoms.ensures, c.if-atom-atoms.false) in
    known_reading c.unequal.result c.args.graph.now c.unequal.new.self c.args.bank.now c.args.atom false c.requires lt c.unequal.ensures.read c.unequal.ensures.err
