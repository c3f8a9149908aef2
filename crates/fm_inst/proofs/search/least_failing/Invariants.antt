use Rattle.std.proofs.Common.{◌≡◌, ℕ, ◌+◌, ◌-◌, ◌*◌, ◌<◌, ◌≤◌, false, not, length, take}
use Rattle.std.specs.List.{find}
use Rattle.fm_base.specs.Interpretations.{reading_of}
use Rattle.fm_bank.specs.Clauses.{lits_true}
use Rattle.fm_rounds.specs.Tuples.{tuples}
use Rattle.fm_inst.specs.Prefixes.{rest}
use Rattle.fm_inst.specs.Depths.{level_true}
use Rattle.fm_inst.proofs.search.least_failing.Given as goal

-- what is left to search gives what the whole does, and no literal is true at the beginning
abbrev pub invariant-loop-env : goal.invariant-loop-env
invariant-loop-env l =
    let m = reading_of l.interp in
    record {
      within : l.depth ≤ length l.sizes;
      room : length l.env ≡ length l.sizes;
      same : find (λ xs. not (lits_true m xs l.lits)) (rest l.sizes (take l.depth l.env)) ≡ find (λ xs. not (lits_true m xs l.lits)) (tuples l.sizes);
      quiet : (j : ℕ) → j < l.depth → level_true m l.lits j (take j l.env) ≡ false;
    }

abbrev pub decreases-loop-env : goal.decreases-loop-env
decreases-loop-env l = length (rest l.sizes (take l.depth l.env)) * (length l.sizes + 2) + (length l.sizes - l.depth)
