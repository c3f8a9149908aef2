use Rattle.std.proofs.Common.{ℕ, ◌+◌, ◌<◌, ◌∷◌, List, length, drop, take_all, cond, refl, ap, subst, ◌∙◌, arith, length-set}
use Rattle.fm_cells.specs.Members.{is_on}
use Rattle.fm_cells.specs.Rings.{IsChain, own_or, root_or}
use Rattle.fm_cells.proofs.Logging.{logged_more, logged_none}
use Rattle.fm_cells.proofs.Relabeling.{in_class, own_at, relabel_more, ring_turn, root_size}
use Rattle.fm_cells.proofs.rings.relabel.Goals as goal

pub loop-i-init : goal.loop-i-init
loop-i-init c = record { whole = c.requires.ring; ring = c.requires.ring.ring; cells = λ x. refl; long = refl; logged = logged_none c.args.class.now.log.items c.args.class.now.cells.items }

pub set-requires : goal.set-requires
set-requires c =
    let inv = c.loop-i.invariant in
    let size = root_size c.args.size.now.cells.items c.args.from c.get-root.result c.get-root.ensures in
    let t = ring_turn c.args.next.now.cells.items c.args.class.now.cells.items c.args.size.now.cells.items c.args.from c.loop-i.at c.loop-i._i inv.whole c.requires.from (omega (arith, c.loop-i-test.true, size, inv.whole.size_is)) inv.ring in
    omega (arith, t.below, inv.long)

pub get-at-requires : goal.get-at-requires
get-at-requires c =
    let inv = c.loop-i.invariant in
    let size = root_size c.args.size.now.cells.items c.args.from c.get-root.result c.get-root.ensures in
    let t = ring_turn c.args.next.now.cells.items c.args.class.now.cells.items c.args.size.now.cells.items c.args.from c.loop-i.at c.loop-i._i inv.whole c.requires.from (omega (arith, c.loop-i-test.true, size, inv.whole.size_is)) inv.ring in
    omega (arith, t.below, c.requires.nexts)

pub returns-in_err-set-clause-logged : goal.returns-in_err-set-clause-logged
returns-in_err-set-clause-logged c = logged_more c.args.class.now.log.items c.loop-i.class.log.items c.set.new.self.log.items c.args.class.now.cells.items c.loop-i.class.cells.items c.set.new.self.cells.items c.loop-i.invariant.logged c.in_err-set.ensures.logged

pub loop-i-preserved : goal.loop-i-preserved
loop-i-preserved c =
    let inv = c.loop-i.invariant in
    let nodes = c.args.from ∷ inv.whole.others in
    let size = root_size c.args.size.now.cells.items c.args.from c.get-root.result c.get-root.ensures in
    let lt : c.loop-i._i < length (c.args.from ∷ inv.whole.others) = omega (arith, c.loop-i-test.true, size, inv.whole.size_is) in
    let t = ring_turn c.args.next.now.cells.items c.args.class.now.cells.items c.args.size.now.cells.items c.args.from c.loop-i.at c.loop-i._i inv.whole c.requires.from lt inv.ring in
    let at = own_at c.args.next.now.cells.items c.loop-i.at c.get-at.result c.get-at.ensures in
    let set = c.in_ok-set.ensures.cells in
    let more = relabel_more c.args.class.now.cells.items c.loop-i.class.cells.items nodes c.loop-i._i c.loop-i.at c.args.to lt (omega (arith, t.below, inv.long)) t.at_is inv.cells in
    record {
      whole = inv.whole;
      ring = subst (λ (z : ℕ). IsChain (own_or c.args.next.now.cells.items) z (drop (c.loop-i._i + 1) nodes) c.args.from) at t.onward;
      cells = λ x. ap (λ (xs : List ℕ). own_or xs x) set ∙ more x;
      long = ap length set ∙ (length-set c.loop-i.class.cells.items c.loop-i.at c.args.to ∙ inv.long);
      logged = logged_more c.args.class.now.log.items c.loop-i.class.log.items c.set.new.self.log.items c.args.class.now.cells.items c.loop-i.class.cells.items c.set.new.self.cells.items inv.logged c.in_ok-set.ensures.logged;
    }

pub returns-clause-cells : goal.returns-clause-cells
returns-clause-cells c =
    let inv = c.loop-i.invariant in
    let nodes = c.args.from ∷ inv.whole.others in
    let size = root_size c.args.size.now.cells.items c.args.from c.get-root.result c.get-root.ensures in
    λ x. inv.cells x ∙ (ap (λ (ns : List ℕ). cond (is_on ns x) c.args.to (own_or c.args.class.now.cells.items x)) (take_all c.loop-i._i nodes (omega (arith, c.loop-i-test.false, size, inv.whole.size_is))) ∙ in_class (own_or c.args.next.now.cells.items) (own_or c.args.class.now.cells.items) (root_or c.args.size.now.cells.items) c.args.from c.args.to inv.whole x)
