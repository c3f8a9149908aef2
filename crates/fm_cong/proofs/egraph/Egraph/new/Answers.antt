use Rattle.std.proofs.Common.{map, sym, subst, ap, ◌∙◌, rules}
use Rattle.std.proofs.lemmas.List.Elements.{All-nil}
use Rattle.fm_cong.specs.Facts.{numbers_of_pair, unequal_of}
use Rattle.fm_cong.specs.Held.{JoinsRegistered}
use Rattle.fm_cong.specs.States.{class_in}
use Rattle.fm_cong.specs.declared.fact.Fact.{Fact}
use Rattle.fm_cong.proofs.Tracing.{tracked_none}
use Rattle.fm_cong.proofs.Whole.{AreRead, sorts_empty}
use Rattle.fm_cong.proofs.egraph.Egraph.new.Goals as goal

pub invariant_of-result : goal.invariant_of-result
invariant_of-result c =
    let s = c.in_ok-state.state in
    let e = c.in_ok-state.ensures in
    record {
      sound = search rules;
      unequal = ap (map numbers_of_pair) c.new-5.ensures.pairs ∙ sym (ap unequal_of e.facts);
      tracked = tracked_none s c.new-5.result c.new-7.result.items c.new-8.result.items c.new-7.ensures.items c.new-8.ensures.items (c.new-5.ensures.indexed (class_in s));
      read = subst (AreRead c.new.result.items) (sym e.facts) (All-nil (λ (f : Fact). JoinsRegistered c.new.result.items f.atom));
      sorts = sorts_empty c.new-2.result.items c.new-6.result c.new.result.items c.new-2.ensures.items c.new-6.ensures;
    }
