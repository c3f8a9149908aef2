use Rattle.std.proofs.Common.{◌≡◌, ◌≤◌, [], length, get_or, ap, ◌∙◌, arith}
use Rattle.std.proofs.lemmas.List.{get_or_default}
use Rattle.fm_closure.proofs.Uniting.{moving_emptied, moving_end, moving_first, moving_next}
use Rattle.fm_closure.proofs.members.move_members.Goals as goal

pub loop-at-init : goal.loop-at-init
loop-at-init c =
    moving_first c.args.from c.args.to c.requires.differ c.args.numbers.now.items c.args.members.now.items c.move_place.new.numbers.items c.move_place.new.members.items c.requires.to c.requires.listed c.in_ok-move_place.ensures.numbers c.in_ok-move_place.ensures.members

pub returns-in_err-move_place-2-clause-listed : goal.returns-in_err-move_place-2-clause-listed
returns-in_err-move_place-2-clause-listed c = rw (c.in_err-move_place-2.ensures.same_numbers, c.in_err-move_place-2.ensures.same_members) c.loop-at.invariant.listed

pub loop-at-preserved : goal.loop-at-preserved
loop-at-preserved c =
    let base = c.args.members.now.items in
    let count : c.len-count.result ≡ length (get_or base c.args.from []) = c.len-count.ensures ∙ ap length (c.index.ensures ∙ get_or_default base c.args.from c.index.result.now [] c.requires.from) in
    moving_next c.args.from c.args.to c.requires.differ c.args.numbers.now.items base c.loop-at.numbers.items c.move_place-in-loop-at.new.numbers.items c.loop-at.members.items c.move_place-in-loop-at.new.members.items c.loop-at.at c.member-place.result c.requires.to (omega (arith, count, c.loop-at-test.true)) c.member-place.ensures c.in_ok-move_place-2.ensures.numbers c.in_ok-move_place-2.ensures.members c.loop-at.invariant

pub returns-clause-moved : goal.returns-clause-moved
returns-clause-moved c =
    let base = c.args.members.now.items in
    let count : c.len-count.result ≡ length (get_or base c.args.from []) = c.len-count.ensures ∙ ap length (c.index.ensures ∙ get_or_default base c.args.from c.index.result.now [] c.requires.from) in
    let all : length (get_or base c.args.from []) ≤ c.loop-at.at = omega (arith, count, c.loop-at-test.false) in
    moving_end c.args.from c.args.to c.requires.differ c.args.numbers.now.items base c.loop-at.numbers.items c.loop-at.members.items c.loop-at.at all c.loop-at.invariant

pub returns-clause-emptied : goal.returns-clause-emptied
returns-clause-emptied c =
    let base = c.args.members.now.items in
    let count : c.len-count.result ≡ length (get_or base c.args.from []) = c.len-count.ensures ∙ ap length (c.index.ensures ∙ get_or_default base c.args.from c.index.result.now [] c.requires.from) in
    let all : length (get_or base c.args.from []) ≤ c.loop-at.at = omega (arith, count, c.loop-at-test.false) in
    moving_emptied c.args.from c.args.to c.requires.differ c.args.numbers.now.items base c.loop-at.numbers.items c.loop-at.members.items c.loop-at.at all c.loop-at.invariant
