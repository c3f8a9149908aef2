use Rattle.std.proofs.Common.{sym, subst}
use Rattle.fm_cong.specs.Levels.{IsSteady}
use Rattle.fm_cong.proofs.Marking.{cells_back, classes_after, classes_back, count_after, count_back, kept_after, kept_back}
use Rattle.fm_cong.proofs.levels.settle.Goals as goal

pub returns-in-Ok-clause-kept : goal.returns-in-Ok-clause-kept
returns-in-Ok-clause-kept c = λ shapes m k. kept_after shapes c.args.state.now c.settle_on.new.state m c.in-Ok.ensures.after k

pub returns-in-Err-clause-steady : goal.returns-in-Err-clause-steady
returns-in-Err-clause-steady c = subst (IsSteady c.args.members.now) (sym (cells_back c.args.state.now c.settle_on.new.state c.rewind.new.state c.mark_of-mark.result c.mark_of-mark.ensures c.in-Err.ensures.after c.rewind.ensures)) c.requires.steady

pub returns-in-Err-clause-kept : goal.returns-in-Err-clause-kept
returns-in-Err-clause-kept c = λ shapes m k. kept_back shapes c.args.state.now c.settle_on.new.state c.rewind.new.state c.mark_of-mark.result m c.mark_of-mark.ensures c.in-Err.ensures.after c.rewind.ensures k

pub returns-in-Err-clause-err : goal.returns-in-Err-clause-err
returns-in-Err-clause-err c = cells_back c.args.state.now c.settle_on.new.state c.rewind.new.state c.mark_of-mark.result c.mark_of-mark.ensures c.in-Err.ensures.after c.rewind.ensures

pub returns-in-Ok-clause-nodes : goal.returns-in-Ok-clause-nodes
returns-in-Ok-clause-nodes c = count_after c.args.state.now c.settle_on.new.state c.in-Ok.ensures.after

pub returns-in-Err-clause-nodes : goal.returns-in-Err-clause-nodes
returns-in-Err-clause-nodes c = count_back c.args.state.now c.settle_on.new.state c.rewind.new.state c.mark_of-mark.result c.mark_of-mark.ensures c.in-Err.ensures.after c.rewind.ensures

pub returns-in-Ok-clause-classes : goal.returns-in-Ok-clause-classes
returns-in-Ok-clause-classes c = classes_after c.args.state.now c.settle_on.new.state c.in-Ok.ensures.after

pub returns-in-Err-clause-classes : goal.returns-in-Err-clause-classes
returns-in-Err-clause-classes c = classes_back c.args.state.now c.settle_on.new.state c.rewind.new.state c.mark_of-mark.result c.mark_of-mark.ensures c.in-Err.ensures.after c.rewind.ensures
