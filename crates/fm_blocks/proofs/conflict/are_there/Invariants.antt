use Rattle.std.proofs.Common.{◌≡◌, ℕ, length, drop}
use Rattle.std.specs.Prelude.{nat_lt}
use Rattle.std.specs.List.{list_all}
use Rattle.fm_bank.specs.Terms.{numbers}
use Rattle.fm_blocks.proofs.conflict.are_there.Given as goal

abbrev pub invariant-loop-term : goal.invariant-loop-term
invariant-loop-term l =
    let p = λ (n : ℕ). nat_lt n (length l.bank.terms) in
    list_all p (numbers l.terms) ≡ list_all p (numbers (drop l.term-index l.terms))
