use Rattle.std.proofs.Common.{◌≡◌, ◌++◌, map, drop}
use Rattle.fm_nnf.specs.Bindings.{terms_of}
use Rattle.fm_nnf.specs.NormalForm.{normal_term, terms_at}
use Rattle.fm_nnf.proofs.making.+plain.Given as goal

abbrev pub invariant-plain_all-loop-term : goal.invariant-plain_all-loop-term
invariant-plain_all-loop-term l = l.made.items ++ terms_at (map normal_term (drop l.term-index l.terms)) (terms_of l.bindings) ≡ terms_at (map normal_term l.terms) (terms_of l.bindings)
