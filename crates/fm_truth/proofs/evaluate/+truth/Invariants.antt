use Rattle.std.proofs.Common.{◌≡◌, ◌+◌, ◌++◌, map, take, drop}
use Rattle.fm_base.specs.Interpretations.{reading_of}
use Rattle.fm_base.specs.Truth.{truth, value, values, all_true, some_true}
use Rattle.fm_truth.specs.Tuples.{if_any, tuple_of}
use Rattle.fm_truth.proofs.Blocks.{Passed}
use Rattle.fm_truth.proofs.Orders.{left}
use Rattle.fm_truth.proofs.Weights.{total, formula_weight, term_weight}
use Rattle.fm_truth.proofs.evaluate.+truth.Given as goal

abbrev pub decreases-formula_holds : goal.decreases-formula_holds
decreases-formula_holds l = formula_weight l.formula.now

abbrev pub decreases-term_value : goal.decreases-term_value
decreases-term_value l = term_weight l.term.now

abbrev pub decreases-applied : goal.decreases-applied
decreases-applied l = 2 + total (map term_weight l.terms.now)

abbrev pub decreases-put_values : goal.decreases-put_values
decreases-put_values l = 1 + total (map term_weight l.terms.now)

abbrev pub decreases-all_hold : goal.decreases-all_hold
decreases-all_hold l = 1 + total (map formula_weight l.formulas.now)

abbrev pub decreases-some_hold : goal.decreases-some_hold
decreases-some_hold l = 1 + total (map formula_weight l.formulas.now)

abbrev pub decreases-block_holds : goal.decreases-block_holds
decreases-block_holds l = 1 + formula_weight l.body.now

abbrev pub invariant-put_values-loop-i : goal.invariant-put_values-loop-i
invariant-put_values-loop-i l = record {
  values : take (l.taken.args + l.i) l.args ++ values (map value (drop l.i l.terms)) (reading_of l.interp) (take l.taken.vars l.fn.vars) ≡ take l.taken.args l.fn.args ++ values (map value l.terms) (reading_of l.interp) (take l.taken.vars l.fn.vars);
  same_vars : take l.taken.vars l.vars ≡ take l.taken.vars l.fn.vars;
}

abbrev pub invariant-all_hold-loop-formula : goal.invariant-all_hold-loop-formula
invariant-all_hold-loop-formula l = record {
  value : all_true (map truth (drop l.formula-index l.formulas)) (reading_of l.interp) (take l.taken.vars l.fn.vars) ≡ all_true (map truth l.formulas) (reading_of l.interp) (take l.taken.vars l.fn.vars);
  same_vars : take l.taken.vars l.vars ≡ take l.taken.vars l.fn.vars;
  same_args : take l.taken.args l.args ≡ take l.taken.args l.fn.args;
}

abbrev pub invariant-some_hold-loop-formula : goal.invariant-some_hold-loop-formula
invariant-some_hold-loop-formula l = record {
  value : some_true (map truth (drop l.formula-index l.formulas)) (reading_of l.interp) (take l.taken.vars l.fn.vars) ≡ some_true (map truth l.formulas) (reading_of l.interp) (take l.taken.vars l.fn.vars);
  same_vars : take l.taken.vars l.vars ≡ take l.taken.vars l.fn.vars;
  same_args : take l.taken.args l.args ≡ take l.taken.args l.fn.args;
}

abbrev pub invariant-block_holds-loop-more : goal.invariant-block_holds-loop-more
invariant-block_holds-loop-more l = record {
  passed : Passed (reading_of l.interp) l.all l.sorts (λ inner. truth l.body (reading_of l.interp) inner) (take l.taken.vars l.fn.vars) (if_any l.more (tuple_of l.sorts l.taken.vars l.vars));
  same_vars : take l.taken.vars l.vars ≡ take l.taken.vars l.fn.vars;
  same_args : take l.taken.args l.args ≡ take l.taken.args l.fn.args;
}

abbrev pub decreases-block_holds-loop-more : goal.decreases-block_holds-loop-more
decreases-block_holds-loop-more l = left (reading_of l.interp) l.sorts (if_any l.more (tuple_of l.sorts l.taken.vars l.vars))
