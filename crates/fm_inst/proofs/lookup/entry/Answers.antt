use Rattle.std.proofs.Common.{◌≡◌, ◌+◌, ◌-◌, ◌/◌, ◌<◌, true, [], length, ap, sym, subst, ◌∙◌, arith}
use Rattle.std.specs.declared.cmp.Ordering.{Ordering}
use Rattle.std.proofs.lemmas.List.{get_or_read}
use Rattle.fm_base.specs.Interpretations.{ascends, entry_in}
use Rattle.fm_rounds.proofs.Searches.{Exception, below_from, above_from, order_read, entry_in-none, entry_in-found}
use Rattle.fm_inst.proofs.lookup.entry.Goals as goal

pub loop-low-preserved-in-Less : goal.loop-low-preserved-in-Less
loop-low-preserved-in-Less c =
    let es = c.as_slice-except.result.now in
    let m = c.loop-low.low + (c.loop-low.high - c.loop-low.low) / 2 in
    let lt : m < length es = omega arith in
    let up : ascends es ≡ true = subst (λ e. ascends e ≡ true) (sym c.as_slice-except.ensures) c.requires in
    record {
      within = c.loop-low.invariant.within;
      below = below_from es m c.args.tuple.now up lt (order_read es m c.index-except-middle.result c.as_slice.result.now c.args.tuple.now Ordering.Less lt c.index-except-middle.is c.as_slice.ensures c.in-Less.ensures);
      above = c.loop-low.invariant.above;
    }

pub loop-low-preserved : goal.loop-low-preserved
loop-low-preserved c =
    let es = c.as_slice-except.result.now in
    let m = c.loop-low.low + (c.loop-low.high - c.loop-low.low) / 2 in
    let lt : m < length es = omega arith in
    let up : ascends es ≡ true = subst (λ e. ascends e ≡ true) (sym c.as_slice-except.ensures) c.requires in
    record {
      within = omega arith;
      below = c.loop-low.invariant.below;
      above = above_from es m c.args.tuple.now up (order_read es m c.index-except-middle.result c.as_slice.result.now c.args.tuple.now Ordering.Greater lt c.index-except-middle.is c.as_slice.ensures c.in-Greater.ensures);
    }

pub returns-in-Equal : goal.returns-in-Equal
returns-in-Equal c =
    let es = c.as_slice-except.result.now in
    let default = c.args.table.now.default in
    let xs = c.args.tuple.now in
    let m = c.loop-low.low + (c.loop-low.high - c.loop-low.low) / 2 in
    let lt : m < length es = omega arith in
    let up : ascends es ≡ true = subst (λ e. ascends e ≡ true) (sym c.as_slice-except.ensures) c.requires in
    let at = order_read es m c.index-except-middle.result c.as_slice.result.now xs Ordering.Equal lt c.index-except-middle.is c.as_slice.ensures c.in-Equal.ensures in
    ap (λ (z : Exception). z.1) (get_or_read es m c.index-except-middle.result lt c.index-except-middle.is ([], 0)) ∙ sym (entry_in-found default es m xs up lt at) ∙ ap (λ e. entry_in default e xs) c.as_slice-except.ensures

pub returns : goal.returns
returns c =
    let es = c.as_slice-except.result.now in
    let default = c.args.table.now.default in
    let xs = c.args.tuple.now in
    sym (entry_in-none default es c.loop-low.low c.loop-low.high xs c.loop-low.invariant.below c.loop-low.invariant.above (omega arith)) ∙ ap (λ e. entry_in default e xs) c.as_slice-except.ensures
