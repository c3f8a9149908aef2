use Rattle.std.proofs.Common.{ℕ, List, length, take, drop, sym, ap, ◌∙◌, arith}
use Rattle.std.specs.Prelude.{slice_set}
use Rattle.std.proofs.lemmas.List.{length_push}
use Rattle.fm_cells.specs.Logs.{restored}
use Rattle.fm_cells.proofs.Logging.{rewound}
use Rattle.fm_cells.proofs.cells.Logged.rewind.Goals as goal

pub loop-self-preserved : goal.loop-self-preserved
loop-self-preserved g c =
    let full = c.args.self.now.log.items in
    let new = c.pop.new.self.items in
    let r = rewound full c.loop-self.self.log.items new c.in-Some.entry c.loop-self.invariant.log c.in-Some.ensures.items in
    let long = ap length c.in-Some.ensures.items ∙ length_push new c.in-Some.entry in
    let same = c.restore.ensures.log in
    record {
      log = same ∙ (r.front ∙ ap (λ (es : List (ℕ × g.row.T.Denot)). take (length es) full) (sym same));
      left = omega (arith, ap length same, long, c.loop-self-test.true, c.len.ensures);
      cells = c.restore.ensures.cells ∙ (ap (λ (xs : List g.row.T.Denot). slice_set xs c.in-Some.entry.0 c.in-Some.entry.1) c.loop-self.invariant.cells ∙ (ap (λ (es : List (ℕ × g.row.T.Denot)). restored es c.args.self.now.cells.items) (sym r.next) ∙ ap (λ (es : List (ℕ × g.row.T.Denot)). restored (drop (length es) full) c.args.self.now.cells.items) (sym same)));
    }
