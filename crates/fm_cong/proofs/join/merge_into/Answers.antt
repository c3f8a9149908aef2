use Rattle.std.proofs.Common.{ℕ, length, refl, subst}
use Rattle.fm_cells.specs.Rings.{own_or}
use Rattle.fm_cells.specs.Forest.{HasOneMore, link_of}
use Rattle.fm_cells.proofs.Logging.{logged_none}
use Rattle.fm_cells.proofs.Relabeling.{own_at}
use Rattle.fm_cong.specs.Graphs.{cells_of}
use Rattle.fm_cong.proofs.Merging.{classes_differ, coarser_merged, entering_moved, fewer_roots, first_below, first_root, joined_merged, logged_length, no_tree, second_below, second_root, working_merged}
use Rattle.fm_cong.proofs.join.merge_into.Goals as goal

pub returns-in_err-enter_class-clause-extends : goal.returns-in_err-enter_class-clause-extends
returns-in_err-enter_class-clause-extends c = record { class = logged_none c.args.state.now.classes.class.log.items c.args.state.now.classes.class.cells.items; next = logged_none c.args.state.now.classes.next.log.items c.args.state.now.classes.next.cells.items; size = logged_none c.args.state.now.classes.size.log.items c.args.state.now.classes.size.cells.items; links = logged_none c.args.state.now.links.log.items c.args.state.now.links.cells.items; table = c.in_err-enter_class.ensures.table; facts = refl; entered = refl }

pub hang-requires-clause-apart : goal.hang-requires-clause-apart
hang-requires-clause-apart c = no_tree c.args.members.now (cells_of c.args.state.now) c.args.state.now.waiting.items c.requires.working c.args.node c.args.to c.get-from.result c.get-onto.result (own_at c.args.state.now.classes.class.cells.items c.args.node c.get-from.result c.get-from.ensures) (own_at c.args.state.now.classes.class.cells.items c.args.to c.get-onto.result c.get-onto.ensures) c.requires.differ

pub returns-in_err-hang-clause-extends : goal.returns-in_err-hang-clause-extends
returns-in_err-hang-clause-extends c = record { class = logged_none c.args.state.now.classes.class.log.items c.args.state.now.classes.class.cells.items; next = logged_none c.args.state.now.classes.next.log.items c.args.state.now.classes.next.cells.items; size = logged_none c.args.state.now.classes.size.log.items c.args.state.now.classes.size.cells.items; links = c.in_err-hang.ensures.logged; table = c.in_ok-enter_class.ensures.table; facts = refl; entered = refl }

pub union-requires-clause-a : goal.union-requires-clause-a
union-requires-clause-a c = first_below c.args.members.now (cells_of c.args.state.now) c.args.state.now.waiting.items c.requires.working c.args.node c.args.to c.get-from.result c.get-onto.result (own_at c.args.state.now.classes.class.cells.items c.args.node c.get-from.result c.get-from.ensures) (own_at c.args.state.now.classes.class.cells.items c.args.to c.get-onto.result c.get-onto.ensures) c.requires.differ c.requires.node

pub union-requires-clause-b : goal.union-requires-clause-b
union-requires-clause-b c = second_below c.args.members.now (cells_of c.args.state.now) c.args.state.now.waiting.items c.requires.working c.args.node c.args.to c.get-from.result c.get-onto.result (own_at c.args.state.now.classes.class.cells.items c.args.node c.get-from.result c.get-from.ensures) (own_at c.args.state.now.classes.class.cells.items c.args.to c.get-onto.result c.get-onto.ensures) c.requires.differ c.requires.to

pub union-requires-clause-root_a : goal.union-requires-clause-root_a
union-requires-clause-root_a c = first_root c.args.members.now (cells_of c.args.state.now) c.args.state.now.waiting.items c.requires.working c.args.node c.args.to c.get-from.result c.get-onto.result (own_at c.args.state.now.classes.class.cells.items c.args.node c.get-from.result c.get-from.ensures) (own_at c.args.state.now.classes.class.cells.items c.args.to c.get-onto.result c.get-onto.ensures) c.requires.differ

pub union-requires-clause-root_b : goal.union-requires-clause-root_b
union-requires-clause-root_b c = second_root c.args.members.now (cells_of c.args.state.now) c.args.state.now.waiting.items c.requires.working c.args.node c.args.to c.get-from.result c.get-onto.result (own_at c.args.state.now.classes.class.cells.items c.args.node c.get-from.result c.get-from.ensures) (own_at c.args.state.now.classes.class.cells.items c.args.to c.get-onto.result c.get-onto.ensures) c.requires.differ

pub union-requires-clause-differ : goal.union-requires-clause-differ
union-requires-clause-differ c = classes_differ c.args.members.now (cells_of c.args.state.now) c.args.state.now.waiting.items c.requires.working c.args.node c.args.to c.get-from.result c.get-onto.result (own_at c.args.state.now.classes.class.cells.items c.args.node c.get-from.result c.get-from.ensures) (own_at c.args.state.now.classes.class.cells.items c.args.to c.get-onto.result c.get-onto.ensures) c.requires.differ

pub returns-clause-working : goal.returns-clause-working
returns-clause-working c =
    let s = c.args.state.now in
    let u = c.in_ok-union.ensures in
    let h = c.in_ok-hang.ensures in
    let e = c.in_ok-enter_class.ensures in
    let d = cells_of (record { classes = c.union.new.self; links = c.hang.new.links; table = c.enter_class.new.table; waiting = c.enter_class.new.waiting; facts = s.facts; entered = s.entered }) in
    let timed : HasOneMore (link_of s.links.cells.items) (link_of c.hang.new.links.cells.items) c.args.node (record { to = c.args.to; cause = c.args.cause; time = length s.links.log.items }) = subst (λ (t : ℕ). HasOneMore (link_of s.links.cells.items) (link_of c.hang.new.links.cells.items) c.args.node (record { to = c.args.to; cause = c.args.cause; time = t })) c.mark-time.ensures h.more in
    working_merged c.args.members.now (cells_of c.args.state.now) c.args.state.now.waiting.items c.requires.working c.args.node c.args.to c.get-from.result c.get-onto.result (own_at c.args.state.now.classes.class.cells.items c.args.node c.get-from.result c.get-from.ensures) (own_at c.args.state.now.classes.class.cells.items c.args.to c.get-onto.result c.get-onto.ensures) c.requires.differ c.args.uses.now d c.enter_class.new.waiting.items c.args.cause c.requires.node c.requires.to c.requires.uses c.requires.follows c.requires.justified
    (logged_length s.classes.class.log.items c.union.new.self.class.log.items s.classes.class.cells.items c.union.new.self.class.cells.items u.class_logged)
    (logged_length s.classes.next.log.items c.union.new.self.next.log.items s.classes.next.cells.items c.union.new.self.next.cells.items u.next_logged)
    (logged_length s.classes.size.log.items c.union.new.self.size.log.items s.classes.size.cells.items c.union.new.self.size.cells.items u.size_logged)
    (logged_length s.links.log.items c.hang.new.links.log.items s.links.cells.items c.hang.new.links.cells.items h.logged)
    u.classes u.rings (h.trees (own_or s.classes.class.cells.items) c.requires.working.forest.trees) timed h.within h.longer e.table e.waiting e.entered (e.sound (entering_moved c.args.members.now (cells_of c.args.state.now) c.args.state.now.waiting.items c.requires.working c.args.node c.args.to c.get-from.result c.get-onto.result (own_at c.args.state.now.classes.class.cells.items c.args.node c.get-from.result c.get-from.ensures) (own_at c.args.state.now.classes.class.cells.items c.args.to c.get-onto.result c.get-onto.ensures) c.requires.differ)) refl refl

pub returns-clause-coarser : goal.returns-clause-coarser
returns-clause-coarser c = coarser_merged c.args.members.now (cells_of c.args.state.now) c.args.state.now.waiting.items c.requires.working c.args.node c.args.to c.get-from.result c.get-onto.result (own_at c.args.state.now.classes.class.cells.items c.args.node c.get-from.result c.get-from.ensures) (own_at c.args.state.now.classes.class.cells.items c.args.to c.get-onto.result c.get-onto.ensures) c.requires.differ c.union.new.self.class.cells.items c.in_ok-union.ensures.classes

pub returns-clause-joined : goal.returns-clause-joined
returns-clause-joined c = joined_merged c.args.members.now (cells_of c.args.state.now) c.args.state.now.waiting.items c.requires.working c.args.node c.args.to c.get-from.result c.get-onto.result (own_at c.args.state.now.classes.class.cells.items c.args.node c.get-from.result c.get-from.ensures) (own_at c.args.state.now.classes.class.cells.items c.args.to c.get-onto.result c.get-onto.ensures) c.requires.differ c.union.new.self.class.cells.items c.in_ok-union.ensures.classes

pub returns-clause-fewer : goal.returns-clause-fewer
returns-clause-fewer c =
    let s = c.args.state.now in
    fewer_roots c.args.members.now (cells_of c.args.state.now) c.args.state.now.waiting.items c.requires.working c.args.node c.args.to c.get-from.result c.get-onto.result (own_at c.args.state.now.classes.class.cells.items c.args.node c.get-from.result c.get-from.ensures) (own_at c.args.state.now.classes.class.cells.items c.args.to c.get-onto.result c.get-onto.ensures) c.requires.differ c.union.new.self.class.cells.items c.in_ok-union.ensures.classes (logged_length s.classes.class.log.items c.union.new.self.class.log.items s.classes.class.cells.items c.union.new.self.class.cells.items c.in_ok-union.ensures.class_logged) c.requires.node
