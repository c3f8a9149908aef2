use Rattle.std.proofs.Common.{take}
use Rattle.std.specs.List.{All}
use Rattle.fm_bank.specs.Terms.{numbers}
use Rattle.fm_cong.specs.Held.{IsRegistered}
use Rattle.fm_explain.proofs.tests.are_registered.Given as goal

abbrev pub invariant-loop-term : goal.invariant-loop-term
invariant-loop-term l = All (IsRegistered l.graph.shapes) (numbers (take l.term-index l.terms))
