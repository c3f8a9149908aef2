use Rattle.std.proofs.Common.{◌≡◌, suc, ◌+◌, ◌<◌, length, subst, ap, arith}
use Rattle.std.proofs.lemmas.List.{length-map}
use Rattle.fm_rounds.specs.Rounds.{round}
use Rattle.fm_build.specs.Reached.{IsRoundBy, pair_of}
use Rattle.fm_build.proofs.Growing.{early}
use Rattle.fm_build.proofs.rounds.all_rounds.Goals as goal

pub returns-then-len-before-clause-reached : goal.returns-then-len-before-clause-reached
returns-then-len-before-clause-reached c = λ c' k s a.
    let i = c.loop-turn._turn in
    let lt : i < length c'.added = omega (arith, c.loop-turn-test.true, ap length a, length-map c.args.added.now pair_of) in
    let now = c.loop-turn.invariant.rounds c' k s a in
    early c' c.args.class.now c.loop-turn.round c.next_round.new.round i (length c'.added) lt now (c.in_ok-next_round.ensures.next c' i k a now) (omega (arith, c.len-before.ensures, c.len.ensures, c.if-len-before.true))

pub loop-turn-preserved : goal.loop-turn-preserved
loop-turn-preserved c =
    let i = c.loop-turn._turn in
    let same : suc i ≡ i + 1 = omega arith in
    record {
      kept = c.in_ok-next_round.ensures.kept;
      rounds = λ c' k s a. subst (λ n. IsRoundBy c.args.class.now (round c' n) c.next_round.new.round) same (c.in_ok-next_round.ensures.next c' i k a (c.loop-turn.invariant.rounds c' k s a));
    }
