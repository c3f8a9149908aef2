use Rattle.std.proofs.Common.{◌∙◌, ap, ◌++◌, ◌∷◌, [], List, sym, subst}
use Rattle.fm_cong.specs.Faithful.{AreMarks}
use Rattle.fm_cong.specs.declared.mark.Mark.{Mark}
use Rattle.fm_cells.specs.declared.apart.Cut.{Cut}
use Rattle.fm_cong.specs.Tracked.{IsTracked}
use Rattle.fm_cong.proofs.Tracing.{tracked_pushed}
use Rattle.fm_cong.proofs.Holding.{marks_pushed}
use Rattle.fm_cong.proofs.egraph.EgraphUndo.mark.Goals as goal

pub invariant_of-self-2 : goal.invariant_of-self-2
invariant_of-self-2 c =
    let g = c.self.inside in
    let w = c.self.invariant in
    let f = c.self.invariant.sound in
    record {
      sound = record {
        steady = f.steady;
        quiet = f.quiet;
        entered = f.entered;
        uses = f.uses;
        flags = f.flags;
        objects = f.objects;
        atoms = f.atoms;
        marks = subst (λ (ms : List Mark). AreMarks g.members.items g.state ms) (sym c.in_ok-push.ensures.items) (marks_pushed g.members.items g.state g.marks.items c.mark_of-mark.result c.mark_of-mark.ensures f.steady f.entered f.marks);
      };
      unequal = w.unequal;
      tracked = subst (λ (ms : List Mark). IsTracked g.state g.apart ms c.put_cut.new.cuts.items) (sym c.in_ok-push.ensures.items) (subst (λ (xs : List Cut). IsTracked g.state g.apart (g.marks.items ++ c.mark_of-mark.result ∷ []) xs) (sym (c.put_cut.ensures ∙ ap (λ xs. xs ++ c.cut.result ∷ []) c.in_ok-reserve.ensures.items)) (tracked_pushed g.state g.apart g.marks.items g.cuts.items c.mark_of-mark.result c.cut.result c.mark_of-mark.ensures c.cut.ensures.pairs c.cut.ensures.keys c.cut.ensures.right w.unequal w.tracked));
      read = w.read;
      sorts = w.sorts;
    }
