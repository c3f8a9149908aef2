use Rattle.std.proofs.Common.{sym}
use Rattle.fm_base.specs.Interpretations.{reading_of}
use Rattle.fm_truth.proofs.Lengths.{are_tables-other_length}
use Rattle.fm_truth.proofs.tables.have_tables.Goals as goal

pub returns-then-ranks-tables : goal.returns-then-ranks-tables
returns-then-ranks-tables c = sym (are_tables-other_length (reading_of c.args.interp.now) c.args.ranks.now c.args.tables.now c.if-ranks-tables.true)
