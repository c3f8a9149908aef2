use Rattle.std.proofs.Common.{arith, length, subst, sym, true, ◌≡◌, ◌≤◌}
use Rattle.std.proofs.lemmas.Grind.{common_steps}
use Rattle.fm_sexp.specs.Items.{all_within}
use Rattle.fm_terms.specs.Elaborate.{items_in, nesting, nesting_all}
use Rattle.fm_terms.specs.Scoped.{shown_pairs}
use Rattle.fm_terms.proofs.Nesting.{item_nests, nests_push, within_push}
use Rattle.fm_terms.proofs.pairs.pairs.Goals as goal

pub loop-item-preserved : goal.loop-item-preserved
loop-item-preserved c = record {
  so_far = grind (arith, common_steps);
  made = subst (λ ps. all_within (length c.args.text.now) (items_in (shown_pairs ps)) ≡ true) (sym c.in_ok-push-in-Some.ensures.items) (within_push (length c.args.text.now) c.loop-item.list.items c.in-Some.pair c.loop-item.invariant.made c.in-Some.ensures.within);
  nests = subst (λ ps. nesting_all (items_in (shown_pairs ps)) ≤ nesting_all c.args.items.now) (sym c.in_ok-push-in-Some.ensures.items) (nests_push c.loop-item.list.items c.in-Some.pair (nesting_all c.args.items.now) c.loop-item.invariant.nests (let h = c.in-Some.ensures.nests in let k = item_nests nesting c.args.items.now c.loop-item.item-index c.item-item.result (omega (arith, c.loop-item-test.true)) c.item-item.is in omega (arith, h, k)));
  within = grind (arith, common_steps);
}
