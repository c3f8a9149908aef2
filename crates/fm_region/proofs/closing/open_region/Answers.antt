use Rattle.std.proofs.Common.{ℕ, List, Bool, [], not, sym, ap, ◌∙◌, arith}
use Rattle.fm_region.specs.Parts.{regions_of}
use Rattle.fm_bank.specs.Regions.{is_closed_at}
use Rattle.fm_region.specs.Rows.{apart_in}
use Rattle.fm_region.proofs.Keeping.{parts_long}
use Rattle.fm_region.proofs.Searching.{position_at, position_none}
use Rattle.fm_region.proofs.closing.open_region.Goals as goal

pub returns-then-not-branch : goal.returns-then-not-branch
returns-then-not-branch c =
    let p : List ℕ → Bool = λ r. not (is_closed_at (apart_in c.args.near.now) c.args.classes.now c.args.k r) in
    let rs = regions_of c.args.parts.now in
    let long = parts_long c.args.parts.now in
    sym (position_at p rs c.loop-i.i [] (omega (arith, c.loop-i-test.true, long)) (ap not (sym c.in_ok-is_closed.ensures ∙ c.if-not-branch.true)) c.loop-i.invariant)

pub returns : goal.returns
returns c =
    let p : List ℕ → Bool = λ r. not (is_closed_at (apart_in c.args.near.now) c.args.classes.now c.args.k r) in
    let long = parts_long c.args.parts.now in
    sym (position_none p (regions_of c.args.parts.now) [] (λ m lt. c.loop-i.invariant m (omega (arith, lt, long, c.loop-i-test.false))))
