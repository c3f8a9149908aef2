use Rattle.std.proofs.Common.{◌≡◌, ◌||◌, false, sym, ◌∙◌}
use Rattle.fm_closure.proofs.Passing.{not_true, pass_end}
use Rattle.fm_closure.proofs.passes.pass_until_done.Goals as goal

pub returns-then-neither-clause-closed : goal.returns-then-neither-clause-closed
returns-then-neither-clause-closed c =
    let none : (c.in_ok-some.some || c.in_ok-more.more) ≡ false = not_true (c.in_ok-some.some || c.in_ok-more.more) (sym c.neither.ensures ∙ c.if-neither.true) in
    pass_end c.args.bank.now.terms c.args.over.now c.args.objects.now.keys c.args.facts.now c.join_facts.new.classes c.join_terms.new.classes c.in_ok-some.some c.in_ok-more.more none c.in_ok-more.ensures.pass c.in_ok-some.ensures.done c.in_ok-more.ensures.done
