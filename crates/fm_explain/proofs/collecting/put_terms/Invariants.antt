use Rattle.std.proofs.Common.{◌≡◌, map, take}
use Rattle.fm_bank.specs.Closure.{object}
use Rattle.fm_bank.specs.Terms.{numbers}
use Rattle.fm_explain.specs.Meant.{with_all}
use Rattle.fm_explain.proofs.collecting.put_terms.Given as goal

abbrev pub invariant-loop-term : goal.invariant-loop-term
invariant-loop-term l = l.nodes.keys ≡ with_all l.fn.nodes.keys (map (λ s. object s) (numbers (take l.term-index l.terms)))
