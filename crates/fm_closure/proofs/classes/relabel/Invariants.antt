use Rattle.std.proofs.Common.{◌≡◌, ◌++◌, map, take, drop}
use Rattle.fm_closure.specs.Classes.{relabelled}
use Rattle.fm_closure.proofs.classes.relabel.Given as goal

abbrev pub invariant-loop-class : goal.invariant-loop-class
invariant-loop-class l = l.classes ≡ map (relabelled l.from l.to) (take l.class-index l.fn.classes) ++ drop l.class-index l.fn.classes
