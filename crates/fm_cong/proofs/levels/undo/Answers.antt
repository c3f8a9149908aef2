use Rattle.std.proofs.Common.{sym, subst}
use Rattle.fm_cong.specs.Levels.{IsSteady}
use Rattle.fm_cong.proofs.Marking.{cells_rewound, classes_restored, count_rewound, kept_rewound}
use Rattle.fm_cong.proofs.levels.undo.Goals as goal

pub returns-clause-steady : goal.returns-clause-steady
returns-clause-steady c = subst (IsSteady c.args.members.now) (sym (cells_rewound c.args.state.now c.args.mark c.rewind.new.state c.requires.kept.inside c.rewind.ensures)) c.requires.kept.steady

pub returns-clause-kept : goal.returns-clause-kept
returns-clause-kept c = λ shapes m before k. kept_rewound shapes c.args.state.now c.args.mark c.rewind.new.state m c.requires.kept.inside c.rewind.ensures before k

pub returns-clause-classes : goal.returns-clause-classes
returns-clause-classes c = classes_restored c.args.state.now c.args.mark c.rewind.new.state c.requires.kept.inside c.rewind.ensures

pub returns-clause-nodes : goal.returns-clause-nodes
returns-clause-nodes c = count_rewound c.args.state.now c.args.mark c.rewind.new.state c.requires.kept.inside c.rewind.ensures
