use Rattle.std.proofs.Common.{◌≡◌, length, map, true, arith, sym, subst}
use Rattle.std.proofs.lemmas.Grind.{common_steps}
use Rattle.fm_script.proofs.Numbers.{parameters_push}
use Rattle.fm_script.specs.Shown.{name_shown}
use Rattle.fm_script.specs.Within.{parameters_within}
use Rattle.fm_script.proofs.read.parameters.Goals as goal

pub loop-item-preserved : goal.loop-item-preserved
loop-item-preserved c = record {
  so_far = grind (arith, common_steps);
  made = subst (λ ps. parameters_within (length c.args.text.now) (map (λ p. (name_shown p.0, p.1.now)) ps) ≡ true) (sym c.in_ok-push-in-Some.ensures.items) (parameters_push (length c.args.text.now) (λ p. (name_shown p.0, p.1.now)) c.loop-item.list.items c.in-Some.pair c.loop-item.invariant.made c.in-Some.ensures.within);
  within = grind (arith, common_steps);
}
