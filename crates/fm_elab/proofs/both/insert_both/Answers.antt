use Rattle.std.proofs.Common.{◌∙◌}
use Rattle.fm_elab.proofs.Placing.{cut_one}
use Rattle.fm_elab.proofs.both.insert_both.Goals as goal

pub returns-in-Err-clause-left_err : goal.returns-in-Err-clause-left_err
returns-in-Err-clause-left_err g c = c.cut_back.ensures ∙ cut_one c.args.first c.args.left.now _ (c.args.name.now, c.args.a) c.count_in-count.result c.in_ok-insert.ensures.added c.count_in-count.ensures
