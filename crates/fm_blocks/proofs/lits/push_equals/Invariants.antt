use Rattle.std.proofs.Common.{◌≡◌, ◌++◌, take}
use Rattle.fm_cert.specs.Lines.{equals_with}
use Rattle.fm_bank.specs.Terms.{numbers}
use Rattle.fm_blocks.proofs.lits.push_equals.Given as goal

abbrev pub invariant-loop-other : goal.invariant-loop-other
invariant-loop-other l = l.lits.items ≡ l.fn.lits.items ++ equals_with l.term.0 (numbers (take l.other-index l.others))
