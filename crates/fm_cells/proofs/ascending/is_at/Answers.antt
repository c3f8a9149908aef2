use Rattle.std.proofs.Common.{arith, get_or}
use Rattle.fm_base.specs.declared.ids.TermId.{TermId}
use Rattle.fm_cells.proofs.Placing.{none_there, same_at, some_there}
use Rattle.fm_cells.proofs.ascending.is_at.Goals as goal

pub returns-then-place-terms : goal.returns-then-place-terms
returns-then-place-terms c =
    let terms = c.args.terms.now in
    let d : TermId = record { 0 = 0 } in
    let t = get_or terms c.args.place d in
    some_there terms c.requires.ascending c.args.number c.args.place c.requires.place t (omega (arith, c.if-place-terms.true)) (same_at terms c.args.place d t (omega (arith, c.if-place-terms.true)))

pub returns-else-place-terms : goal.returns-else-place-terms
returns-else-place-terms c = none_there c.args.terms.now c.requires.ascending c.args.number c.args.place c.requires.place (omega (arith, c.if-place-terms.false))
