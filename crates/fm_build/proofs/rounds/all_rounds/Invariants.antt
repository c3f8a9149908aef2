use Rattle.std.proofs.Common.{◌≡◌}
use Rattle.fm_rounds.specs.Rounds.{Content, round}
use Rattle.fm_build.specs.Reached.{Classifies, IsKept, IsRoundBy, pairs_of}
use Rattle.fm_build.proofs.rounds.all_rounds.Given as goal

abbrev pub invariant-loop-turn : goal.invariant-loop-turn
invariant-loop-turn l = record {
  kept : IsKept l.class l.round;
  rounds : (c : Content) → Classifies l.class c → c.start ≡ l.start → c.added ≡ pairs_of l.added → IsRoundBy l.class (round c l._turn) l.round;
}
