use Rattle.std.proofs.Common.{◌∙◌, ℕ, ap, refl, subst, length, rules, arith}
use Rattle.fm_arena.specs.Weights.{weight_at, weighed_of}
use Rattle.fm_arena.specs.Passes.{AreOnesPast}
use Rattle.fm_arena.specs.declared.forms.Form.{Form}
use Rattle.fm_arena.specs.declared.passes.Pass.{Pass}
use Rattle.fm_arena.proofs.Passing.{before_less, fewer, form_found, front_kept, nil_of, last_formed, skip_weight, spread_weight}
use Rattle.fm_arena.proofs.passes.+passes.Goals as goal

pub form_of-spread-requires : goal.form_of-spread-requires
form_of-spread-requires t c =
    let left = c.loop-reads.left.now in
    let es = c.in-Some-split_last.before.now in
    let e = c.in-Some-split_last.entry.now in
    let split = c.in-Some-split_last.ensures.cases.0 in
    let less = before_less left es e (length c.args.entries.now) split c.loop-reads.invariant.shorter in
    (omega (arith, c.decreases, less), (c.if-reads-gt0.true, (front_kept left es e split c.loop-reads.invariant.kept, last_formed left es e split c.loop-reads.invariant.kept)))

pub form_of-loop-reads-preserved-in_ok-spread : goal.form_of-loop-reads-preserved-in_ok-spread
form_of-loop-reads-preserved-in_ok-spread t c =
    let left = c.loop-reads.left.now in
    let es = c.in-Some-split_last.before.now in
    let e = c.in-Some-split_last.entry.now in
    let split = c.in-Some-split_last.ensures.cases.0 in
    let less = before_less left es e (length c.args.entries.now) split c.loop-reads.invariant.shorter in
    record {
      weight = λ w past. spread_weight left es e c.loop-reads.pass _ c.spread.new.pass c.in-Some.reads c.args.params _ w split refl refl c.in-Some.ensures.items c.loop-reads.invariant.few c.loop-reads.invariant.params past c.in_ok-spread.ensures (c.loop-reads.invariant.weight w past);
      params = c.in_ok-spread.ensures.params ∙ c.loop-reads.invariant.params;
      few = c.in_ok-spread.ensures.few (fewer left es e c.loop-reads.pass.marks.items c.pop_front.new.self.items c.in-Some.reads split c.in-Some.ensures.items c.loop-reads.invariant.few);
      kept = front_kept left es e split c.loop-reads.invariant.kept;
      shorter = omega (arith, less);
    }

pub form_of-loop-reads-preserved : goal.form_of-loop-reads-preserved
form_of-loop-reads-preserved t c =
    let left = c.loop-reads.left.now in
    let es = c.in-Some-split_last.before.now in
    let e = c.in-Some-split_last.entry.now in
    let split = c.in-Some-split_last.ensures.cases.0 in
    let less = before_less left es e (length c.args.entries.now) split c.loop-reads.invariant.shorter in
    let mid : Pass = record { own = c.loop-reads.pass.own; params = c.loop-reads.pass.params; marks = c.pop_front.new.self } in
    record {
      weight = λ w past. skip_weight left es e c.loop-reads.pass mid c.in-Some.reads (weight_at (weighed_of c.args.entries.now) c.args.number w) w split refl refl c.in-Some.ensures.items c.loop-reads.invariant.few c.if-reads-gt0.false (c.loop-reads.invariant.weight w past);
      params = c.loop-reads.invariant.params;
      few = fewer left es e c.loop-reads.pass.marks.items c.pop_front.new.self.items c.in-Some.reads split c.in-Some.ensures.items c.loop-reads.invariant.few;
      kept = front_kept left es e split c.loop-reads.invariant.kept;
      shorter = omega (arith, less);
    }

pub form_of-returns-clause-form : goal.form_of-returns-clause-form
form_of-returns-clause-form t c =
    let left = c.loop-reads.left.now in
    let form : Form = record { own = c.loop-reads.pass.own; params = c.from_vec.result } in
    form_found (weighed_of left) (weighed_of c.args.entries.now) (length left) c.args.number c.loop-reads.pass form refl c.from_vec.ensures (nil_of c.loop-reads.pass.marks.items (search rules))
    (λ w past. c.loop-reads.invariant.weight w (subst (λ (n : ℕ). AreOnesPast n w) (ap length c.from_vec.ensures ∙ c.loop-reads.invariant.params) past))
