use Rattle.std.proofs.Common.{◌<◌, List, length, length-append, arith, ℕ, Option, sym, subst, ap}
use Rattle.fm_cells.specs.Forest.{AreTrees, AreWithin, HasOneMore, height_of, link_of, merged}
use Rattle.fm_cells.specs.declared.edge.Edge.{Edge}
use Rattle.fm_cells.proofs.Logging.{logged_more, logged_none}
use Rattle.fm_cells.proofs.Hanging.{IsHanging, all_start, by_end, hanging_lower, hanging_more, hanging_step, hanging_trees, hanging_within}
use Rattle.fm_cells.proofs.forest.hang.Goals as goal

pub loop-above-init : goal.loop-above-init
loop-above-init c =
    record {
      hanging = all_start c.args.links.now.cells.items c.args.node c.args.edge c.requires.node c.requires.to c.requires.within c.requires.apart;
      logged = logged_none c.args.links.now.log.items c.args.links.now.cells.items;
    }

pub returns-in_err-set-clause-logged : goal.returns-in_err-set-clause-logged
returns-in_err-set-clause-logged c =
    logged_more c.args.links.now.log.items c.loop-above.links.log.items c.set.new.self.log.items c.args.links.now.cells.items c.loop-above.links.cells.items c.set.new.self.cells.items c.loop-above.invariant.logged c.in_err-set.ensures.logged

pub returns-in_err-set-2-clause-logged : goal.returns-in_err-set-2-clause-logged
returns-in_err-set-2-clause-logged c =
    logged_more c.args.links.now.log.items c.loop-above.links.log.items c.set-2.new.self.log.items c.args.links.now.cells.items c.loop-above.links.cells.items c.set-2.new.self.cells.items c.loop-above.invariant.logged c.in_err-set-2.ensures.logged

pub returns-clause-logged : goal.returns-clause-logged
returns-clause-logged c =
    logged_more c.args.links.now.log.items c.loop-above.links.log.items c.set-2.new.self.log.items c.args.links.now.cells.items c.loop-above.links.cells.items c.set-2.new.self.cells.items c.loop-above.invariant.logged c.in_ok-set-2.ensures.logged

pub loop-above-smaller : goal.loop-above-smaller
loop-above-smaller c =
    let class : ℕ → ℕ = merged (λ x. (c.requires.ended x).end) c.args.node c.args.edge.to in
    subst (λ (ls : List (Option Edge)). height_of ls c.in-Some.above.to < height_of c.loop-above.links.cells.items c.loop-above.at) (sym c.in_ok-set.ensures.cells) (hanging_lower c.args.links.now.cells.items class c.args.node c.args.edge c.loop-above.links.cells.items c.loop-above.at c.loop-above.new (by_end c.args.links.now.cells.items c.requires.ended c.args.node c.args.edge c.loop-above.links.cells.items c.loop-above.at c.loop-above.new c.loop-above.invariant.hanging) c.in-Some.above (sym c.in-Some.ensures))

pub loop-above-preserved : goal.loop-above-preserved
loop-above-preserved c =
    record {
      hanging = λ class trees. subst (λ (ls : List (Option Edge)). IsHanging c.args.links.now.cells.items (merged class c.args.node c.args.edge.to) c.args.node c.args.edge ls c.in-Some.above.to (record { to = c.loop-above.at; cause = c.in-Some.above.cause; time = c.in-Some.above.time })) (sym c.in_ok-set.ensures.cells) (hanging_step c.args.links.now.cells.items (merged class c.args.node c.args.edge.to) c.args.node c.args.edge c.loop-above.links.cells.items c.loop-above.at c.loop-above.new (c.loop-above.invariant.hanging class trees) c.in-Some.above (sym c.in-Some.ensures));
      logged = logged_more c.args.links.now.log.items c.loop-above.links.log.items c.set.new.self.log.items c.args.links.now.cells.items c.loop-above.links.cells.items c.set.new.self.cells.items c.loop-above.invariant.logged c.in_ok-set.ensures.logged;
    }

pub returns-clause-trees : goal.returns-clause-trees
returns-clause-trees c =
    λ class trees. subst (λ (ls : List (Option Edge)). AreTrees (link_of ls) (merged class c.args.node c.args.edge.to)) (sym c.in_ok-set-2.ensures.cells) (hanging_trees c.args.links.now.cells.items (merged class c.args.node c.args.edge.to) c.args.node c.args.edge c.loop-above.links.cells.items c.loop-above.at c.loop-above.new (c.loop-above.invariant.hanging class trees) (sym c.in_default.ensures))

pub returns-clause-more : goal.returns-clause-more
returns-clause-more c =
    let class : ℕ → ℕ = merged (λ x. (c.requires.ended x).end) c.args.node c.args.edge.to in
    subst (λ (ls : List (Option Edge)). HasOneMore (link_of c.args.links.now.cells.items) (link_of ls) c.args.node c.args.edge) (sym c.in_ok-set-2.ensures.cells) (hanging_more c.args.links.now.cells.items class c.args.node c.args.edge c.loop-above.links.cells.items c.loop-above.at c.loop-above.new (by_end c.args.links.now.cells.items c.requires.ended c.args.node c.args.edge c.loop-above.links.cells.items c.loop-above.at c.loop-above.new c.loop-above.invariant.hanging) (sym c.in_default.ensures))

pub returns-clause-within : goal.returns-clause-within
returns-clause-within c =
    let class : ℕ → ℕ = merged (λ x. (c.requires.ended x).end) c.args.node c.args.edge.to in
    subst AreWithin (sym c.in_ok-set-2.ensures.cells) (hanging_within c.args.links.now.cells.items class c.args.node c.args.edge c.loop-above.links.cells.items c.loop-above.at c.loop-above.new (by_end c.args.links.now.cells.items c.requires.ended c.args.node c.args.edge c.loop-above.links.cells.items c.loop-above.at c.loop-above.new c.loop-above.invariant.hanging))

pub set-requires-2 : goal.set-requires-2
set-requires-2 c = (by_end c.args.links.now.cells.items c.requires.ended c.args.node c.args.edge c.loop-above.links.cells.items c.loop-above.at c.loop-above.new c.loop-above.invariant.hanging).at_in

pub returns-clause-longer : goal.returns-clause-longer
returns-clause-longer c =
    let g = ap length c.loop-above.invariant.logged.grown in
    omega (arith, g, length-append c.args.links.now.log.items c.loop-above.invariant.logged.tail, c.in_ok-set-2.ensures.longer)
