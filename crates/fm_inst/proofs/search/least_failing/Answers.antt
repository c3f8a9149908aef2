use Rattle.std.proofs.Common.{◌≡◌, ◌<◌, true, false, length, take, ap, sym, ◌∙◌, arith}
use Rattle.std.specs.List.{find}
use Rattle.std.proofs.lemmas.List.{length-set}
use Rattle.fm_base.specs.Interpretations.{reading_of}
use Rattle.fm_inst.specs.Depths.{level_true}
use Rattle.fm_inst.proofs.Passing.{entered, entered_less, entered_quiet, fails, found, moved_less, moved_quiet, moved_same, passed}
use Rattle.fm_inst.proofs.search.least_failing.Goals as goal

pub returns-in-None : goal.returns-in-None
returns-in-None c =
    let m = reading_of c.args.interp.now in
    let lits = c.args.lits.now in
    let ns = c.args.sizes.now in
    let d = c.loop-env.depth in
    let env = c.loop-env.env in
    let true_there : level_true m lits d (take d env) ≡ true = ap (level_true m lits d) (sym c.split_at.ensures.front) ∙ sym c.in_ok-level_holds.ensures ∙ c.if-branch.true in
    sym (ap (find (fails m lits)) c.in-None.ensures.none) ∙ sym (passed m lits ns env d c.loop-env.invariant.within c.loop-env.invariant.room true_there) ∙ c.loop-env.invariant.same

pub loop-env-smaller-in-Some : goal.loop-env-smaller-in-Some
loop-env-smaller-in-Some c =
    let m = reading_of c.args.interp.now in
    moved_less m c.args.lits.now c.args.sizes.now c.loop-env.env c.loop-env.depth c.loop-env.invariant.within c.loop-env.invariant.room c.in-Some.next c.advance.new.env c.requires.sizes c.in-Some.ensures.some

pub loop-env-preserved-in-Some : goal.loop-env-preserved-in-Some
loop-env-preserved-in-Some c =
    let m = reading_of c.args.interp.now in
    let lits = c.args.lits.now in
    let ns = c.args.sizes.now in
    let d = c.loop-env.depth in
    let env = c.loop-env.env in
    let moves = c.in-Some.ensures.some in
    let true_there : level_true m lits d (take d env) ≡ true = ap (level_true m lits d) (sym c.split_at.ensures.front) ∙ sym c.in_ok-level_holds.ensures ∙ c.if-branch.true in
    record {
      within = omega (arith, moves.within, c.loop-env.invariant.within);
      room = c.advance.auto.env ∙ c.loop-env.invariant.room;
      same = moved_same m lits ns env d c.loop-env.invariant.within c.loop-env.invariant.room c.in-Some.next c.advance.new.env _ true_there moves c.loop-env.invariant.same;
      quiet = moved_quiet m lits ns env d c.loop-env.invariant.within c.loop-env.invariant.room c.in-Some.next c.advance.new.env moves c.loop-env.invariant.quiet;
    }

pub returns-then-depth-sizes : goal.returns-then-depth-sizes
returns-then-depth-sizes c =
    let m = reading_of c.args.interp.now in
    let lits = c.args.lits.now in
    let ns = c.args.sizes.now in
    let d = c.loop-env.depth in
    let env = c.loop-env.env in
    let false_there : level_true m lits d (take d env) ≡ false = ap (level_true m lits d) (sym c.split_at.ensures.front) ∙ sym c.in_ok-level_holds.ensures ∙ c.if-branch.false in
    let end : d ≡ length ns = omega (arith, c.if-depth-sizes.true) in
    sym (found m lits ns env d c.loop-env.invariant.within c.loop-env.invariant.room end c.requires.within c.loop-env.invariant.quiet false_there) ∙ c.loop-env.invariant.same

pub loop-env-smaller : goal.loop-env-smaller
loop-env-smaller c =
    let m = reading_of c.args.interp.now in
    let lt : c.loop-env.depth < length c.args.sizes.now = omega (arith, c.if-depth-sizes.false, c.loop-env.invariant.within) in
    entered_less m c.args.lits.now c.args.sizes.now c.loop-env.env c.loop-env.depth c.loop-env.invariant.within c.loop-env.invariant.room lt c.requires.sizes

pub loop-env-preserved : goal.loop-env-preserved
loop-env-preserved c =
    let m = reading_of c.args.interp.now in
    let lits = c.args.lits.now in
    let ns = c.args.sizes.now in
    let d = c.loop-env.depth in
    let env = c.loop-env.env in
    let false_there : level_true m lits d (take d env) ≡ false = ap (level_true m lits d) (sym c.split_at.ensures.front) ∙ sym c.in_ok-level_holds.ensures ∙ c.if-branch.false in
    let lt : d < length ns = omega (arith, c.if-depth-sizes.false, c.loop-env.invariant.within) in
    record {
      within = omega (arith, lt);
      room = length-set env d 0 ∙ c.loop-env.invariant.room;
      same = ap (find (fails m lits)) (entered m lits ns env d c.loop-env.invariant.within c.loop-env.invariant.room lt c.requires.sizes) ∙ c.loop-env.invariant.same;
      quiet = entered_quiet m lits ns env d c.loop-env.invariant.within c.loop-env.invariant.room lt c.loop-env.invariant.quiet false_there;
    }
