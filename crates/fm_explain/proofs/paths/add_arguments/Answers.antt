use Rattle.std.proofs.Common.{ℕ, ◌<◌, [], append-nil, length, sym, subst, arith, get_or}
use Rattle.fm_bank.specs.Closure.{object}
use Rattle.fm_bank.specs.Terms.{numbers}
use Rattle.fm_cells.specs.Forest.{AreInOneTree, link_of}
use Rattle.fm_explain.specs.Searches.{HasPath}
use Rattle.fm_explain.proofs.Adding.{grown_more}
use Rattle.fm_explain.proofs.Arguments.{arguments_more, arguments_none, number_at, nodes_zipped, same_length}
use Rattle.fm_explain.proofs.paths.add_arguments.Goals as goal

pub bounds-ys-i : goal.bounds-ys-i
bounds-ys-i c = omega (arith, same_length (λ s t. AreInOneTree (link_of c.args.links.now) (object s) (object t)) c.args.xs.now c.args.ys.now c.requires.trees, c.loop-i-test.true)

pub loop-i-init : goal.loop-i-init
loop-i-init c = record {
  has = arguments_none (link_of c.args.links.now) (numbers c.args.xs.now) (numbers c.args.ys.now) c.args.met.now.keys;
  grown = ([], sym (append-nil c.args.met.now.keys));
}

pub add_path-requires-clause-tree : goal.add_path-requires-clause-tree
add_path-requires-clause-tree c =
    let link = link_of c.args.links.now in
    let tree = nodes_zipped (λ s t. AreInOneTree link (object s) (object t)) c.args.xs.now c.args.ys.now c.loop-i.i (record { 0 = 0 }) c.loop-i-test.true c.requires.trees in
    subst (λ (z : ℕ). AreInOneTree link c.in_ok-left.left z) (sym c.in_ok-right.ensures) (subst (λ (z : ℕ). AreInOneTree link z (object (get_or c.args.ys.now c.loop-i.i (record { 0 = 0 })).0)) (sym c.in_ok-left.ensures) tree)

pub loop-i-preserved : goal.loop-i-preserved
loop-i-preserved c =
    let link = link_of c.args.links.now in
    let s = (get_or c.args.xs.now c.loop-i.i (record { 0 = 0 })).0 in
    let t = (get_or c.args.ys.now c.loop-i.i (record { 0 = 0 })).0 in
    let lt : c.loop-i.i < length c.args.ys.now = omega (arith, same_length (λ s t. AreInOneTree (link_of c.args.links.now) (object s) (object t)) c.args.xs.now c.args.ys.now c.requires.trees, c.loop-i-test.true) in
    let right = subst (λ (z : ℕ). HasPath link c.loop-i.met.keys c.add_path.new.met.keys c.in_ok-left.left z) c.in_ok-right.ensures c.in_ok-add_path.ensures.has in
    let step = subst (λ (z : ℕ). HasPath link c.loop-i.met.keys c.add_path.new.met.keys z (object t)) c.in_ok-left.ensures right in
    record {
      has = arguments_more link (numbers c.args.xs.now) (numbers c.args.ys.now) c.args.met.now.keys c.loop-i.met.keys c.add_path.new.met.keys c.loop-i.i s t (number_at c.args.xs.now c.loop-i.i (record { 0 = 0 }) c.loop-i-test.true) (number_at c.args.ys.now c.loop-i.i (record { 0 = 0 }) lt) c.loop-i.invariant.has step;
      grown = grown_more c.args.met.now.keys c.loop-i.met.keys c.add_path.new.met.keys c.loop-i.invariant.grown c.in_ok-add_path.ensures.grown;
    }
