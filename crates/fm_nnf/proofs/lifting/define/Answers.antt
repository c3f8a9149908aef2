use Rattle.std.proofs.Common.{◌≡◌, ◌+◌, ◌∷◌, [], List, Bool, length, ap, ◌∙◌, arith, vec_len}
use Rattle.fm_base.specs.declared.signature.Rank.{Rank}
use Rattle.fm_base.specs.declared.formula.Formula.{Formula}
use Rattle.fm_base.specs.declared.formula.Fterm
use Rattle.fm_base.specs.declared.formula.Fterm.{Fterm}
use Rattle.fm_nnf.specs.Made.{parts_of}
use Rattle.fm_nnf.specs.Marked.{marked}
use Rattle.fm_nnf.proofs.Lifters.{defined}
use Rattle.fm_nnf.proofs.lifting.define.Goals as goal

pub returns : goal.returns
returns c =
    let marks = c.as_slice-marks.result.now in
    let old = c.args.made.now in
    let n : vec_len old.ranks ≡ length old.ranks.items = omega arith in
    let symbol = c.args.first + c.len.result in
    let at : symbol ≡ c.args.first + length old.ranks.items = (let e = c.len.ensures in omega (arith, e, n)) in
    defined marks (parts_of c.args.parts.now) c.args.ty c.args.scope.now c.args.first symbol old c.add.new.made (Fterm.App (record { 0 = symbol }) c.in_ok-args.args) c.in_ok-formula.formula c.in_ok-rank.rank
    (λ k. ap (λ (ms : List Bool). marked ms k) c.as_slice-marks.ensures.value ∙ c.in_ok-marks.ensures k) at
    (ap (λ ts. Fterm.App (record { 0 = symbol }) ts) c.in_ok-args.ensures) (ap (λ (f : Formula). f ∷ []) c.in_ok-formula.ensures) (ap (λ (r : Rank). r ∷ []) c.in_ok-rank.ensures) c.in_ok-add.ensures.definitions c.in_ok-add.ensures.ranks
