use Rattle.std.proofs.Common.{drop, map, ℕ, ◌++◌, ◌≡◌}
use Rattle.fm_apply.proofs.application.each.Given as goal

abbrev pub invariant-loop-arg : goal.invariant-loop-arg
invariant-loop-arg l = l.types.items ++ map (λ (a : ℕ). l.ty) (drop l.arg-index l.args) ≡ map (λ (a : ℕ). l.ty) l.args
