use Rattle.std.proofs.Common.{◌≡◌, ◌+◌, [], ◌∷◌, length, take, sym, ap, ◌∙◌, arith}
use Rattle.std.proofs.lemmas.List.{length_push}
use Rattle.fm_cells.proofs.Keying.{pops_keep, taken_front}
use Rattle.fm_cells.proofs.apart.Apart.drop_pairs.Goals as goal

pub loop-self-preserved : goal.loop-self-preserved
loop-self-preserved c = record {
  pairs = (let new = c.pop.new.self.items in
      let old = c.loop-self.self.pairs.items in
      let long = ap length c.in-Some.ensures.items ∙ length_push new (c.in-Some.a, c.in-Some.b) in
      sym (ap (take c.args.to) c.in-Some.ensures.items ∙ taken_front c.args.to new ((c.in-Some.a, c.in-Some.b) ∷ []) (omega (arith, long, c.loop-self-test.true, c.len.ensures))) ∙ c.loop-self.invariant.pairs);
  sides = λ x i lt h.
      let inv = c.loop-self.invariant in
      let before = c.loop-self.self.sides.items in
      let middle = c.drop_side.new.sides.items in
      let after = c.drop_side-in-Some.new.sides.items in
      pops_keep c.args.to c.saturating_add-in-Some.result middle after c.drop_side-in-Some.ensures x i lt (pops_keep c.args.to c.saturating_add.result before middle c.drop_side.ensures x i lt (inv.sides x i lt h));
  keys = c.loop-self.invariant.keys;
}
