use Rattle.std.proofs.Common.{◌≡◌, true, drop}
use Rattle.fm_arena.specs.Measures.{is_fit}
use Rattle.fm_arena.specs.Kept.{kept_arguments}
use Rattle.fm_arena.specs.Weights.{beside, form_weight, params_weight}
use Rattle.fm_arena.proofs.forms.measure_use.Given as goal

abbrev pub invariant-loop-place : goal.invariant-loop-place
invariant-loop-place l = record {
  fit : is_fit l.sum ≡ true;
  rest : beside l.sum (params_weight (drop l.place l.params) l.place (kept_arguments l.entries l.args)) ≡ form_weight l.form (kept_arguments l.entries l.args);
}
