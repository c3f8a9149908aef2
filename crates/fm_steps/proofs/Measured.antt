-- What can still be done at the states of the worked run: it falls with each event but the decisions.
use Rattle.std.proofs.Common.{◌≡◌, refl}
use Rattle.fm_steps.specs.Offered.{raised}
use Rattle.fm_steps.specs.Progress.{work_left}
use Rattle.fm_steps.proofs.Worked.{above_bound, above_one, after_units, at_bound, at_bound_again, at_one, first, next, set_free, with_clique, with_sum}

-- three equalities unknown, and of 13 atoms none has a value; Unit gives one a value, and four readers have to read it
start_left : work_left first ≡ 69
start_left = refl

unit_left : work_left next ≡ 68
unit_left = refl

-- five units, all read; the bound is fresh, so it can't be turned or raised
units_left : work_left after_units ≡ 44
units_left = refl

-- two decisions, then the lemma of the clique, and what is learnt
bound_left : work_left at_bound ≡ 282
bound_left = refl

size_left : work_left at_one ≡ 358
size_left = refl

clique_left : work_left with_clique ≡ 357
clique_left = refl

learnt_left : work_left above_one ≡ 39
learnt_left = refl

-- the decision of the bound again, the sum lemma, what is learnt, Turn, and Raise
again_left : work_left at_bound_again ≡ 277
again_left = refl

sum_left : work_left with_sum ≡ 276
sum_left = refl

refuted_left : work_left above_bound ≡ 196
refuted_left = refl

free_left : work_left set_free ≡ 115
free_left = refl

raised_left : work_left (raised set_free) ≡ 44
raised_left = refl
