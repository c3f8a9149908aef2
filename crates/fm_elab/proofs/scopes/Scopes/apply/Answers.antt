use Rattle.std.proofs.Common.{List, length, subst, sym, true, ◌≡◌}
use Rattle.std.specs.Borrow.{Bor}
use Rattle.std.specs.Prelude.{◌&&◌}
use Rattle.std.proofs.lemmas.Bool.{and_parts}
use Rattle.fm_sexp.specs.Items.{spans_within}
use Rattle.fm_sexp.specs.declared.items.Sexp.{Sexp}
use Rattle.fm_script.specs.Shown.{name_shown, shown}
use Rattle.fm_script.specs.Within.{parameters_within, parts_within}
use Rattle.fm_script.specs.declared.command.Command.{Command}
use Rattle.fm_script.specs.declared.command.Part.{Part}
use Rattle.fm_terms.specs.Scoped.{shown_pairs}
use Rattle.fm_terms.proofs.Nesting.{parameters_are_within}
use Rattle.fm_elab.specs.Held.{state_of}
use Rattle.fm_elab.specs.Shown.{items_shown}
use Rattle.fm_elab.specs.Steps.{Applies, declare_function, define_function, step_of}
use Rattle.fm_elab.proofs.scopes.Scopes.apply.Goals as goal

pub define_function-requires-clause-params : goal.define_function-requires-clause-params
define_function-requires-clause-params c =
    let n = length c.args.text.now in
    let h = subst (λ (k : Command). parts_within n (shown k) ≡ true) c.in-DefineFun.is c.requires.within in
    let p = and_parts (parameters_within n (shown_pairs c.in-DefineFun.params.items)) (spans_within n c.in-DefineFun.sort.now && spans_within n c.in-DefineFun.body.now) h in
    parameters_are_within n c.as_slice-in-DefineFun.result.now (subst (λ (ps : List (Part × Bor Sexp)). parameters_within n (shown_pairs ps) ≡ true) (sym c.as_slice-in-DefineFun.ensures.value) p.0)

pub returns-in-DeclareFun : goal.returns-in-DeclareFun
returns-in-DeclareFun c =
    let s = state_of c.args.self.now in
    let t = state_of c.declare_function-in-DeclareFun.new.self in
    let r = c.declare_function-in-DeclareFun.result in
    subst (λ (k : Command). Applies r s (step_of c.args.text.now s (shown k)) t) (sym c.in-DeclareFun.is)
    (subst (λ (xs : List (Bor Sexp)). Applies r s (declare_function c.args.text.now s (name_shown c.in-DeclareFun.name) (items_shown xs) c.in-DeclareFun.sort.now) t) c.as_slice.ensures.value c.declare_function-in-DeclareFun.ensures)

pub returns-in-DefineFun : goal.returns-in-DefineFun
returns-in-DefineFun c =
    let s = state_of c.args.self.now in
    let t = state_of c.define_function.new.self in
    let r = c.define_function.result in
    subst (λ (k : Command). Applies r s (step_of c.args.text.now s (shown k)) t) (sym c.in-DefineFun.is)
    (subst (λ (ps : List (Part × Bor Sexp)). Applies r s (define_function c.args.text.now s c.in-DefineFun.at (name_shown c.in-DefineFun.name) (shown_pairs ps) c.in-DefineFun.sort.now c.in-DefineFun.body.now) t) c.as_slice-in-DefineFun.ensures.value c.define_function.ensures)
