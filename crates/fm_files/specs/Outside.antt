-- What the files of the system tell: two counts, which are those of every name.
use Rattle.std.specs.Prelude.{ℕ, false, None}
use Rattle.fm_files.specs.Seen.{Seen}

abbrev pub counts_only : ℕ → ℕ → Seen
counts_only reads writes =
    record {
      left = λ name. None;
      written = λ name. None;
      read_faults = λ name. reads;
      write_faults = λ name. writes;
      is_sure = λ name. false;
      room = λ name. None;
    }
