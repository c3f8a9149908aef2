use Rattle.std.proofs.Common.{◌≡◌, ◌+◌, ◌<◌, ◌||◌, false, length, map, drop, ap, sym, ◌∙◌, arith}
use Rattle.std.proofs.lemmas.List.{get_or_read, length-map}
use Rattle.fm_base.specs.Interpretations.{reading_of}
use Rattle.fm_bank.specs.Clauses.{plit_true}
use Rattle.fm_inst.specs.Depths.{level_true, literal_depth}
use Rattle.fm_inst.specs.Levels.{place_of}
use Rattle.fm_inst.proofs.Linking.{arrived, step}
use Rattle.fm_inst.proofs.search.level_holds.Goals as goal

pub loop-place-init : goal.loop-place-init
loop-place-init c =
    let m = reading_of c.args.interp.now in
    let lits = c.args.lits.now in
    let d = c.args.depth in
    let first = c.args.levels.now.first.items in
    let level = c.requires.level in
    let lt : d < length first = omega (arith, level.within, level.linked.levels) in
    let at : c.index-place.result.now ≡ place_of d 0 (map literal_depth lits) = get_or_read first d c.index-place.result.now lt c.index-place.ensures 0 ∙ level.linked.firsts d level.within in
    let there = arrived m d c.args.env.now lits 0 c.index-place.result.now at in
    record { here = there.0; same = there.1 }

pub loop-place-preserved : goal.loop-place-preserved
loop-place-preserved c =
    let m = reading_of c.args.interp.now in
    let lits = c.args.lits.now in
    let es = map literal_depth lits in
    let d = c.args.depth in
    let env = c.args.env.now in
    let k = c.loop-place.place in
    let next = c.args.levels.now.next.items in
    let linked = c.requires.level.linked in
    let lt : k < length lits = c.loop-place-test.true in
    let low : k < length es = omega (arith, lt, length-map lits literal_depth) in
    let inside : k < length next = omega (arith, low, linked.places) in
    let here = c.loop-place.invariant.here lt in
    let to = c.index-place-in-loop-place.result.now in
    let at : to ≡ place_of d (k + 1) es = get_or_read next k to inside c.index-place-in-loop-place.ensures 0 ∙ linked.nexts k (omega arith) low ∙ ap (λ e. place_of e (k + 1) es) here in
    let there = arrived m d env lits (k + 1) to at in
    let false_here : plit_true m env c.index-lits-place.result ≡ false = sym c.in_ok-literal_holds.ensures ∙ c.if-branch.false in
    let passed = step m d env lits k c.index-lits-place.result lt c.index-lits-place.is here ∙ ap (λ b. b || level_true m (drop (k + 1) lits) d env) false_here in
    record { here = there.0; same = there.1 ∙ sym passed ∙ c.loop-place.invariant.same }
