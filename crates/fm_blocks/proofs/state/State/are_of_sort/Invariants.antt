use Rattle.std.proofs.Common.{◌≡◌, ℕ, drop}
use Rattle.std.specs.List.{list_all}
use Rattle.fm_base.specs.declared.signature.Ty.{Ty}
use Rattle.fm_bank.specs.Terms.{is_type, numbers, type_of}
use Rattle.fm_blocks.proofs.state.State.are_of_sort.Given as goal

abbrev pub invariant-loop-term : goal.invariant-loop-term
invariant-loop-term l =
    let p = λ (n : ℕ). is_type (type_of l.self.bank.sig l.self.bank.terms n) (Ty.Of l.sort) in
    list_all p (numbers l.terms) ≡ list_all p (numbers (drop l.term-index l.terms))
