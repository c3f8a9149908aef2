use Rattle.std.proofs.Common.{ℕ, Bool, length, not, ◌&&◌, sym, ap, ◌∙◌, arith}
use Rattle.std.specs.Prelude.{◌==◌}
use Rattle.std.proofs.lemmas.Bool.{and_from}
use Rattle.fm_region.specs.Parts.{regions_of}
use Rattle.fm_bank.specs.Regions.{region_at, touches}
use Rattle.fm_region.specs.Rows.{apart_in}
use Rattle.fm_region.proofs.Keeping.{parts_long}
use Rattle.fm_region.proofs.Searching.{find_at, find_none, other_number}
use Rattle.fm_region.proofs.closing.touching_region.Goals as goal

pub returns-then-touch : goal.returns-then-touch
returns-then-touch c =
    let rs = regions_of c.args.parts.now in
    let long = parts_long c.args.parts.now in
    let i = c.args.i in
    let j = c.loop-j.j in
    let p : ℕ → Bool = λ z. not (z == i) && touches (apart_in c.args.near.now) (region_at rs i) (region_at rs z) in
    sym (find_at p 0 (length rs) j (omega arith) (omega (arith, c.loop-j-test.true, long)) (and_from (not (j == i)) (touches (apart_in c.args.near.now) (region_at rs i) (region_at rs j)) (ap not (other_number j i c.if-j-i.true)) (sym c.touch.ensures ∙ c.if-touch.true)) (λ m l lt. c.loop-j.invariant m lt))

pub returns : goal.returns
returns c =
    let rs = regions_of c.args.parts.now in
    let long = parts_long c.args.parts.now in
    let p : ℕ → Bool = λ z. not (z == c.args.i) && touches (apart_in c.args.near.now) (region_at rs c.args.i) (region_at rs z) in
    sym (find_none p 0 (length rs) (λ m l lt. c.loop-j.invariant m (omega (arith, lt, long, c.loop-j-test.false))))
