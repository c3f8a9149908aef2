use Rattle.std.proofs.Common.{◌++◌, ◌+◌, List, map, drop}
use Rattle.fm_base.specs.declared.signature.Rank.{Rank}
use Rattle.fm_base.specs.declared.formula.Nnf.{Nnf}
use Rattle.fm_nnf.specs.Bindings.{Makes}
use Rattle.fm_nnf.specs.NormalForm.{formed_all, normal_form, with_sign}
use Rattle.fm_nnf.specs.NormalSize.{total}
use Rattle.fm_nnf.proofs.Weights.{formula_weight}
use Rattle.fm_nnf.proofs.making.+make.Given as goal

-- whatever the rest makes goes behind what is made
abbrev pub invariant-make_all-loop-formula : goal.invariant-make_all-loop-formula
invariant-make_all-loop-formula l = (last : List Rank) (rest : List Nnf) →
    Makes (formed_all (with_sign l.positive (map normal_form (drop l.formula-index l.formulas)))) l.bindings l.scope l.first l.ranks.items last rest →
    Makes (formed_all (with_sign l.positive (map normal_form l.formulas))) l.bindings l.scope l.first l.fn.ranks.items last (l.made.items ++ rest)

abbrev pub decreases-make : goal.decreases-make
decreases-make l = formula_weight l.formula.now

abbrev pub decreases-make_or : goal.decreases-make_or
decreases-make_or l = 1 + (formula_weight l.left.now + formula_weight l.right.now)

abbrev pub decreases-make_all : goal.decreases-make_all
decreases-make_all l = 1 + total (map formula_weight l.formulas.now)

abbrev pub decreases-make_each : goal.decreases-make_each
decreases-make_each l = 1 + formula_weight l.body.now

abbrev pub decreases-make_some : goal.decreases-make_some
decreases-make_some l = 1 + formula_weight l.body.now

abbrev pub decreases-make_junction : goal.decreases-make_junction
decreases-make_junction l = 2 + total (map formula_weight l.formulas.now)

abbrev pub decreases-make_iff : goal.decreases-make_iff
decreases-make_iff l = 2 + (formula_weight l.a.now + formula_weight l.b.now)

abbrev pub decreases-make_ite : goal.decreases-make_ite
decreases-make_ite l = 2 + (formula_weight l.c.now + (formula_weight l.a.now + formula_weight l.b.now))
