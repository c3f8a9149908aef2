use Rattle.std.proofs.Common.{◌≡◌, ◌++◌, map, take}
use Rattle.fm_base.specs.Interpretations.{reading_of}
use Rattle.fm_base.specs.Normal.{value}
use Rattle.fm_inst.proofs.values.+values.Given as goal

abbrev pub invariant-put_values-loop-term : goal.invariant-put_values-loop-term
invariant-put_values-loop-term l = l.args.items ≡ l.fn.args.items ++ map (λ t. value t (reading_of l.interp) l.env) (take l.term-index l.terms)
