use Rattle.std.proofs.Common.{◌≡◌, List, length, true, sym, subst, inl}
use Rattle.fm_sexp.proofs.Spans.{all_lie}
use Rattle.fm_sexp.specs.Items.{all_within}
use Rattle.fm_sexp.specs.declared.items.Sexp.{Sexp}
use Rattle.fmf.specs.Solved.{Answered}
use Rattle.fmf.proofs.solve.answer_text.Goals as goal

pub answer_all-requires-clause-within : goal.answer_all-requires-clause-within
answer_all-requires-clause-within g c = subst (λ xs. all_within (length c.args.text.now) xs ≡ true) (sym c.as_slice.ensures) (all_lie c.args.text.now c.in-Ok.items c.in-Ok.ensures.reads)

pub returns-in-Ok-clause-wrote : goal.returns-in-Ok-clause-wrote
returns-in-Ok-clause-wrote g c = inl (c.in-Ok.items, c.in-Ok.ensures.reads, subst (λ (xs : List Sexp). Answered (record { budget = c.args.budget; text = c.args.text.now; items = xs }) c.args.cert.now (g.F.Files.seen c.args.files.now) (g.F.Files.seen c.answer_all.new.files) c.answer_all.result) c.as_slice.ensures c.answer_all.ensures.wrote)
