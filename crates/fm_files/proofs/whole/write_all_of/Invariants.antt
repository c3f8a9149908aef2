use Rattle.std.proofs.Common.{◌≡◌, List, ℕ, ◌++◌, length}
use Rattle.fm_files.specs.Seen.{Extends, WritesAt, NoFault, HasRoom, lowered}
use Rattle.fm_files.proofs.whole.write_all_of.Given as goal

abbrev pub invariant-loop-rest : goal.invariant-loop-rest
invariant-loop-rest g l =
    record {
      front : List ℕ;
      split : l.bytes ≡ front ++ l.rest;
      added : Extends ((g.F.Files.seen l.fn.files).written l.name) ((g.F.Files.seen l.files).written l.name) front;
      leaves : WritesAt (g.F.Files.seen l.fn.files) (g.F.Files.seen l.files) l.name;
      quiet : NoFault (g.F.Files.seen l.fn.files) (g.F.Files.seen l.files);
      roomy : HasRoom ((g.F.Files.seen l.fn.files).room l.name) (length l.bytes) → HasRoom ((g.F.Files.seen l.files).room l.name) (length l.rest) × ((g.F.Files.seen l.files).room l.name ≡ lowered ((g.F.Files.seen l.fn.files).room l.name) (length front)) × NoFault (g.F.Files.seen l.fn.files) (g.F.Files.seen l.files);
    }

abbrev pub decreases-loop-rest : goal.decreases-loop-rest
decreases-loop-rest g l = length l.rest
