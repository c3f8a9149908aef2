use Rattle.std.proofs.Common.{◌≡◌, ◌⊎◌, ◌↔◌, ◌++◌, ℕ, List, true}
use Rattle.fm_bank.specs.Terms.{numbers}
use Rattle.fm_cells.specs.Forest.{link_of}
use Rattle.fm_cells.specs.Members.{is_on}
use Rattle.fm_explain.specs.Meant.{IsOnArguments}
use Rattle.fm_explain.proofs.paths.add_arguments.Given as goal

abbrev pub invariant-loop-i : goal.invariant-loop-i
invariant-loop-i l = record {
  has : (e : ℕ) → (is_on l.met.keys e ≡ true) ↔ ((is_on l.fn.met.keys e ≡ true) ⊎ IsOnArguments (link_of l.links) (numbers l.xs) (numbers l.ys) l.i e);
  grown : (more : List ℕ) × (l.met.keys ≡ l.fn.met.keys ++ more);
}
