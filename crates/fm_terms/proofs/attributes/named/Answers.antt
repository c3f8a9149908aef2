use Rattle.std.proofs.Common.{arith, sym, ◌≤◌}
use Rattle.fm_script.specs.Shown.{name_shown}
use Rattle.fm_arena.specs.Meanings.{terms_of}
use Rattle.fm_apply.specs.Scoped.{context_of, named_in, names_in}
use Rattle.fm_terms.specs.Elaborate.{Read, none_read}
use Rattle.fm_terms.specs.Scoped.{read_in}
use Rattle.fm_terms.proofs.Attaching.{named_passed}
use Rattle.fm_terms.proofs.Stepping.{none_is, read_by}
use Rattle.fm_terms.proofs.attributes.named.Goals as goal

pub returns-else-found-all-clause-answer : goal.returns-else-found-all-clause-answer
returns-else-found-all-clause-answer c =
    let ts = terms_of c.args.arena.now in
    let x = context_of (c.args.scope.now, c.args.frame.now) ts in
    let r : Read = read_in c.args.arena.now c.args.found (named_in ts c.args.given.now) in
    let all = none_is ts (names_in c.args.frame.now) c.in-Ok.all c.in-Ok.ensures in
    let le : none_read x ≤ c.args.found.low = omega (arith, all, c.if-found-all.false) in
    read_by (c.give.new.arena, c.give.new.given) c.give.result _ _ (named_passed x c.args.at (name_shown c.in-Some.part) _ r (sym c.in-Some.ensures) le) (c.give.ensures.answer c.args.frame.now)
