use Rattle.std.proofs.Common.{◌≡◌, ◌+◌, ◌<◌, ◌∷◌, ◌++◌, [], ℕ, take, drop, take_all, length, sym, subst, ap, ◌∙◌, arith, inl, inr}
use Rattle.std.specs.List.{All}
use Rattle.std.proofs.lemmas.Bool.{false≢true}
use Rattle.std.proofs.lemmas.List.{take_more}
use Rattle.fm_cells.specs.Members.{is_on}
use Rattle.fm_cells.specs.Rings.{IsChain, own_or}
use Rattle.fm_cells.proofs.Members.{on_cases, on_one}
use Rattle.fm_cells.proofs.Relabeling.{root_size, own_at, ring_turn}
use Rattle.fm_cong.specs.Tables.{IsAgain, moved, uses_at}
use Rattle.fm_cong.proofs.Entering.{again_grown, grown_more, grown_none}
use Rattle.fm_cong.proofs.table.enter_class.Goals as goal

pub loop-i-init : goal.loop-i-init
loop-i-init c = record { whole = c.requires.ring; ring = c.requires.ring.ring; table = grown_none c.args.table.now.entries; waiting = grown_none c.args.waiting.now.items; entered = λ x on. absurd (false≢true on); sound = λ h. h }

pub get-at-requires : goal.get-at-requires
get-at-requires c =
    let inv = c.loop-i.invariant in
    let cl = c.args.classes.now in
    let nodes = c.args.from ∷ inv.whole.others in
    let size = root_size cl.size.cells.items c.args.from c.get-root.result c.get-root.ensures in
    let lt : c.loop-i._i < length (c.args.from ∷ inv.whole.others) = omega (arith, c.loop-i-test.true, size, inv.whole.size_is) in
    let t = ring_turn cl.next.cells.items cl.class.cells.items cl.size.cells.items c.args.from c.loop-i.at c.loop-i._i inv.whole c.requires.from lt inv.ring in
    omega (arith, t.below, c.requires.nexts)

pub loop-i-preserved : goal.loop-i-preserved
loop-i-preserved c =
    let inv = c.loop-i.invariant in
    let cl = c.args.classes.now in
    let nodes = c.args.from ∷ inv.whole.others in
    let size = root_size cl.size.cells.items c.args.from c.get-root.result c.get-root.ensures in
    let lt : c.loop-i._i < length (c.args.from ∷ inv.whole.others) = omega (arith, c.loop-i-test.true, size, inv.whole.size_is) in
    let t = ring_turn cl.next.cells.items cl.class.cells.items cl.size.cells.items c.args.from c.loop-i.at c.loop-i._i inv.whole c.requires.from lt inv.ring in
    let e = c.in_ok-enter_node.ensures in
    let at = own_at cl.next.cells.items c.loop-i.at c.get-at.result c.get-at.ensures in
    let grown : take (c.loop-i._i + 1) nodes ≡ take c.loop-i._i nodes ++ c.loop-i.at ∷ [] = take_more nodes c.loop-i._i 0 lt ∙ ap (λ n. take c.loop-i._i nodes ++ n ∷ []) (sym t.at_is) in
    record {
      whole = inv.whole;
      ring = subst (λ (z : ℕ). IsChain (own_or cl.next.cells.items) z (drop (c.loop-i._i + 1) nodes) c.args.from) at t.onward;
      table = grown_more c.args.table.now.entries c.loop-i.table.entries c.enter_node.new.table.entries inv.table e.table;
      waiting = grown_more c.args.waiting.now.items c.loop-i.waiting.items c.enter_node.new.waiting.items inv.waiting e.waiting;
      entered = λ x on. elim (on_cases (take c.loop-i._i nodes) (c.loop-i.at ∷ []) x (ap (λ ns. is_on ns x) (sym grown) ∙ on)) [
        | inl old ↦ again_grown c.args.members.now (moved c.args.from c.args.to c.args.classes.now.class.cells.items) c.loop-i.table.entries c.enter_node.new.table.entries c.loop-i.waiting.items c.enter_node.new.waiting.items (uses_at c.args.uses.now x) e.table e.waiting (inv.entered x old)
        | inr new ↦ subst (λ (z : ℕ). All (IsAgain c.args.members.now (moved c.args.from c.args.to c.args.classes.now.class.cells.items) c.enter_node.new.table.entries c.enter_node.new.waiting.items) (uses_at c.args.uses.now z)) (sym (on_one c.loop-i.at x new)) e.entered
      ];
      sound = λ h. e.sound (inv.sound h);
    }

pub returns-clause-entered : goal.returns-clause-entered
returns-clause-entered c =
    let inv = c.loop-i.invariant in
    let nodes = c.args.from ∷ inv.whole.others in
    let size = root_size c.args.classes.now.size.cells.items c.args.from c.get-root.result c.get-root.ensures in
    let all = take_all c.loop-i._i nodes (omega (arith, c.loop-i-test.false, size, inv.whole.size_is)) in
    λ x e. inv.entered x (ap (λ ns. is_on ns x) all ∙ (inv.whole.members x).1 e)
