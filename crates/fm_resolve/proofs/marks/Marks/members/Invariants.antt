use Rattle.std.proofs.Common.{◌≡◌, take}
use Rattle.std.specs.List.{filter}
use Rattle.fm_resolve.specs.Marks.{is_in}
use Rattle.fm_resolve.proofs.marks.Marks.members.Given as goal

abbrev pub invariant-loop-lit : goal.invariant-loop-lit
invariant-loop-lit l = l.lits.items ≡ filter (is_in l.self) (take l.lit-index l.self.touched.items)
