use Rattle.std.proofs.Common.{List, drop, map, ◌++◌, ◌≡◌, ℕ}
use Rattle.fm_base.specs.declared.signature.Rank.{Rank}
use Rattle.fm_levels.specs.Levels.{joined}
use Rattle.fm_elab.proofs.scopes.Scopes.ranks.Given as goal

abbrev pub invariant-loop-place : goal.invariant-loop-place
invariant-loop-place l = l.ranks.items ++ map (λ (e : List ℕ × Rank). e.1) (drop l.place (joined l.self.symbols)) ≡ map (λ (e : List ℕ × Rank). e.1) (joined l.self.symbols)
