use Rattle.std.proofs.Common.{List, length, subst, sym}
use Rattle.fm_terms.specs.Scoped.{AreValuesWithin, attributes_shown}
use Rattle.fm_terms.specs.declared.attributes.Attribute.{Attribute}
use Rattle.fm_terms.proofs.Attaching.{attributes_step, values_push, within_rest}
use Rattle.fm_terms.proofs.attributes.attributes.Goals as goal

pub value_before-requires : goal.value_before-requires
value_before-requires c = within_rest (length c.args.text.now) c.loop-first.rest.now c.in-Some.behind.now c.in-Some.first.now c.in-Some.ensures.cases.0 c.loop-first.invariant.within

pub loop-first-preserved : goal.loop-first-preserved
loop-first-preserved c =
    let a : Attribute = record { keyword = c.in-Some-keyword.keyword; value = c.value_before.result.0 } in
    record {
      so_far = attributes_step c.args.text.now c.loop-first.rest.now c.in-Some.behind.now c.value_before.result.1.now c.in-Some.first.now c.loop-first.list.items c.push.new.self.items a _ c.in-Some.ensures.cases.0 c.in-Some-keyword.ensures c.value_before.ensures.split c.in_ok-push.ensures.items c.loop-first.invariant.so_far;
      values = subst (λ (l : List Attribute). AreValuesWithin c.args.text.now (attributes_shown l)) (sym c.in_ok-push.ensures.items) (values_push c.args.text.now c.loop-first.list.items a c.loop-first.invariant.values c.value_before.ensures.value);
      within = c.value_before.ensures.within;
    }
