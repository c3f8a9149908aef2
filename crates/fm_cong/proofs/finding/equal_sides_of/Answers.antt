use Rattle.std.proofs.Common.{sym}
use Rattle.fm_cong.proofs.Parting.{none_joined}
use Rattle.fm_cong.proofs.finding.equal_sides_of.Goals as goal

pub returns-then-not-apart : goal.returns-then-not-apart
returns-then-not-apart c = sym (none_joined c.args.state.now.classes.class.cells.items c.args.state.now.facts.items c.args.apart.now c.requires.pairs c.requires.indexed c.if-apart.true c.if-not-apart.true)
