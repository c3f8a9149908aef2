use Rattle.std.proofs.Common.{◌||◌, ◌&&◌, not, sym, ◌∙◌}
use Rattle.fm_base.specs.declared.ids.Lit.{Lit}
use Rattle.fm_resolve.specs.Marks.{is_in, is_same}
use Rattle.fm_resolve.proofs.MarkLaws.{any_more, more_in}
use Rattle.fm_resolve.proofs.marks.Marks.mark_rest.Goals as goal

pub loop-lit-preserved : goal.loop-lit-preserved
loop-lit-preserved c =
    let inv = c.loop-lit.invariant in
    let done = c.in_ok-is_but.ensures in
    let but : Lit = c.args.but in
    record {
      now = λ (k : Lit). more_in (λ (l : Lit). is_same l k && not (is_same l but)) c.args.lits.now c.loop-lit.lit-index _ (is_in c.args.self.now k) (is_in c.loop-lit.self k) (is_in c.mark_but.new.self k) c.loop-lit-test.true (inv.now k) (done.now k);
      found = c.either-found.ensures ∙ ((λ i. inv.found i || done.is_but i) ∙ sym (any_more (λ (l : Lit). is_same l but) c.args.lits.now c.loop-lit.lit-index _ c.loop-lit-test.true));
      covers = done.covers;
      size = record { positive = done.size.positive ∙ inv.size.positive; negative = done.size.negative ∙ inv.size.negative };
    }
