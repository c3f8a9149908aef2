use Rattle.std.proofs.Common.{◌≡◌, length, true, sym, subst}
use Rattle.fm_sexp.proofs.Spans.{all_lie}
use Rattle.fm_sexp.specs.Items.{all_within}
use Rattle.fm_check.proofs.judging.judge.Goals as goal

pub count_checks-requires : goal.count_checks-requires
count_checks-requires c = record { within = subst (λ xs. all_within (length c.args.script.now) xs ≡ true) (sym c.as_slice.ensures) (all_lie c.args.script.now c.in-Ok.items c.in-Ok.ensures.reads) }
