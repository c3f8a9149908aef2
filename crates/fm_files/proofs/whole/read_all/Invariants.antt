use Rattle.std.proofs.Common.{◌+◌, ◌-◌, ◌≤◌, vec_len}
use Rattle.std.specs.Io.KnownBytes.{Consumes}
use Rattle.fm_files.specs.Seen.{OnlyReads, NoFault}
use Rattle.fm_files.proofs.whole.read_all.Given as goal

abbrev pub invariant-loop-chunk : goal.invariant-loop-chunk
invariant-loop-chunk g l =
    record {
      taken : Consumes ((g.F.Files.seen l.fn.files).left l.name) ((g.F.Files.seen l.files).left l.name) l.bytes.items;
      within : vec_len l.bytes ≤ l.limit + 1;
      leaves : OnlyReads (g.F.Files.seen l.fn.files) (g.F.Files.seen l.files) l.name;
      quiet : NoFault (g.F.Files.seen l.fn.files) (g.F.Files.seen l.files);
    }

abbrev pub decreases-loop-chunk : goal.decreases-loop-chunk
decreases-loop-chunk g l = l.limit + 1 - vec_len l.bytes
