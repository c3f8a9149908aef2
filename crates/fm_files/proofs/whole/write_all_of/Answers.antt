use Rattle.std.proofs.Common.{[], ◌++◌, take, refl}
use Rattle.fm_files.proofs.Leaves.{WritesAt-same, WritesAt-then, NoFault-same, NoFault-then, lowered-none, roomy_then}
use Rattle.fm_files.proofs.Pieces.{Extends-nil, Extends-then, Part-then, split_more}
use Rattle.fm_files.proofs.whole.write_all_of.Goals as goal

pub loop-rest-init : goal.loop-rest-init
loop-rest-init g c =
    record {
      front = [];
      split = refl;
      added = Extends-nil _;
      leaves = WritesAt-same _ _;
      quiet = NoFault-same _;
      roomy = λ h. (h, lowered-none _, NoFault-same _);
    }

pub returns-in-Err-clause-part : goal.returns-in-Err-clause-part
returns-in-Err-clause-part g c =
    Part-then _ _ _ _ _ _ c.loop-rest.invariant.split c.loop-rest.invariant.added c.in-Err.ensures.adds

pub loop-rest-preserved : goal.loop-rest-preserved
loop-rest-preserved g c =
    record {
      front = c.loop-rest.invariant.front ++ take c.in-Ok.count c.loop-rest.rest.now;
      split = split_more _ _ _ _ _ c.loop-rest.invariant.split c.split_at.ensures.back;
      added = Extends-then _ _ _ _ _ c.loop-rest.invariant.added c.in-Ok.ensures.adds;
      leaves = WritesAt-then _ _ _ _ c.loop-rest.invariant.leaves c.append.ensures.leaves;
      quiet = NoFault-then _ _ _ c.loop-rest.invariant.quiet c.in-Ok.ensures.quiet;
      roomy = λ h. roomy_then _ _ _ _ _ _ _ _ c.in-Ok.ensures.bound c.split_at.ensures.back (c.loop-rest.invariant.roomy h) c.in-Ok.ensures.never;
    }
