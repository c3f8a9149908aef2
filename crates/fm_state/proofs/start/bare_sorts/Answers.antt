use Rattle.std.proofs.Common.{◌+◌, true, false, ap, sym, ◌∙◌, arith}
use Rattle.fm_state.specs.Begins.{is_bare_in}
use Rattle.fm_state.proofs.Starting.{more_pass}
use Rattle.fm_state.proofs.start.bare_sorts.Goals.{then-has_none_of, else-has_none_of}
use Rattle.fm_state.proofs.start.bare_sorts.Goals as goal

pub loop-sort-preserved : goal.loop-sort-preserved
loop-sort-preserved c =
    let p = is_bare_in c.args.bank.now.sig c.args.bank.now.terms in
    let s = c.loop-sort.sort in
    let few = c.loop-sort.invariant.few in
    elim c.if-has_none_of.branch [
      | then-has_none_of w ↦
          let one = w.count-is in
          record { count = w.count-is ∙ ap (λ n. n + 1) c.loop-sort.invariant.count ∙ sym (more_pass p s true (sym c.has_none_of.ensures ∙ w.if-has_none_of.true)); few = omega (arith, few, one) }
      | else-has_none_of w ↦
          let one = w.count-is in
          record { count = w.count-is ∙ c.loop-sort.invariant.count ∙ sym (more_pass p s false (sym c.has_none_of.ensures ∙ w.if-has_none_of.false)); few = omega (arith, few, one) }
    ]
