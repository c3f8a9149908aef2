-- The exit codes of the statuses, and the fixed lines on standard error.
use Rattle.std.specs.Prelude.{ℕ, List, Option, Some, None, codes}
use Rattle.fmf.specs.declared.status.Status.{Status}

abbrev pub exit_code : Status → ℕ
exit_code Status.Done = 0
exit_code Status.Usage = 1
exit_code Status.Script = 2
exit_code Status.ReadFault = 3
exit_code Status.WriteFault = 4
exit_code Status.Memory = 5
exit_code Status.Rejected = 10

abbrev pub fixed_line : Status → Option (List ℕ)
fixed_line Status.Done = None
fixed_line Status.Usage = Some (codes "fmf: usage")
fixed_line Status.Script = None
fixed_line Status.Rejected = None
fixed_line Status.ReadFault = Some (codes "fmf: read fault")
fixed_line Status.WriteFault = Some (codes "fmf: write fault")
fixed_line Status.Memory = Some (codes "fmf: out of memory")
