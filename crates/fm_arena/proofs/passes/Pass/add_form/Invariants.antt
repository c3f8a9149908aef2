use Rattle.std.proofs.Common.{drop, length}
use Rattle.fm_arena.specs.Weights.{weighed_of}
use Rattle.fm_arena.specs.Passes.{Gains, form_gain, params_gain}
use Rattle.fm_arena.specs.declared.passes.Pass.{Pass}
use Rattle.fm_arena.proofs.passes.Pass.add_form.Given as goal

abbrev pub invariant-loop-place : goal.invariant-loop-place
invariant-loop-place l = (p : Pass) → Gains (weighed_of l.before) (length l.before) l.self p (params_gain (weighed_of l.before) l.reads l.named l.args (drop l.place l.params) l.place) → Gains (weighed_of l.before) (length l.before) l.fn.self p (form_gain (weighed_of l.before) l.reads l.named l.args l.form)
