use Rattle.std.proofs.Common.{◌||◌, ◌≤◌, List, ap, ◌∙◌, length, arith}
use Rattle.std.proofs.lemmas.List.{take_all}
use Rattle.fm_base.specs.declared.ids.Lit.{Lit}
use Rattle.fm_resolve.specs.Marks.{is_member, is_never, mark_of}
use Rattle.fm_resolve.proofs.MarkLaws.{cleared}
use Rattle.fm_resolve.proofs.marks.Marks.clear.Goals as goal

pub returns-clause-clean : goal.returns-clause-clean
returns-clause-clean c =
    let touched = c.args.self.now.touched.items in
    let le : length touched ≤ c.loop-i.i = omega (arith, c.loop-i-test.false, c.len-i-end.ensures, c.args.self.now.touched.ok.0) in
    let all = take_all c.loop-i.i touched le in
    cleared c.args.self.now c.loop-i.self c.requires.covers (λ (k : Lit). c.loop-i.invariant.now k ∙ ap (λ (ls : List Lit). is_never (mark_of c.args.self.now k) || is_member ls k) all)
