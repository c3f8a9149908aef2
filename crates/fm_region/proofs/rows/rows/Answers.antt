use Rattle.std.proofs.Common.{◌≡◌, ℕ, ◌+◌, ◌||◌, ◌∷◌, [], ◌++◌, List, take, sym, ap, ◌∙◌, arith, get_or}
use Rattle.std.proofs.lemmas.List.{take_more}
use Rattle.fm_region.specs.Rows.{are_both, between}
use Rattle.fm_region.proofs.Pairing.{between_one}
use Rattle.fm_region.proofs.rows.rows.Goals as goal

pub loop-pair-preserved : goal.loop-pair-preserved
loop-pair-preserved c =
    let pairs = c.args.pairs.now in
    let i = c.loop-pair.pair-index in
    let p : ℕ × ℕ = get_or pairs i (0, 0) in
    let before = take i pairs in
    let more : take (i + 1) pairs ≡ before ++ p ∷ [] = take_more pairs i (0, 0) (omega (arith, c.loop-pair-test.true)) in
    record {
      grid = c.mark_both.ensures.grid;
      says = λ x y lx ly. c.mark_both.ensures.marked x y lx ly ∙ (ap (λ b. b || are_both p x y) (c.loop-pair.invariant.says x y lx ly) ∙ (sym (between_one before p x y) ∙ ap (λ ps. between ps x y) (sym more)));
    }
