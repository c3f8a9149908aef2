use Rattle.std.proofs.Common.{sym}
use Rattle.std.proofs.lemmas.Option.{slice_get_within}
use Rattle.fm_bank.specs.Terms.{numbers}
use Rattle.fm_cells.specs.Forest.{link_of}
use Rattle.fm_explain.proofs.Arguments.{both_trees, expanded, expanded_only, long_by_numbers}
use Rattle.fm_explain.proofs.paths.expand.Goals as goal

pub arguments-xs-requires : goal.arguments-xs-requires
arguments-xs-requires c =
    let j = c.requires.congruent c.args.node c.in-Some.edge (sym c.in-Some.ensures) c.in-Congruence.is in
    (j.m, j.u_is, slice_get_within c.args.bank.now.terms j.m j.left j.left_is)

pub arguments-ys-requires : goal.arguments-ys-requires
arguments-ys-requires c =
    let j = c.requires.congruent c.args.node c.in-Some.edge (sym c.in-Some.ensures) c.in-Congruence.is in
    (j.n, j.v_is, slice_get_within c.args.bank.now.terms j.n j.right j.right_is)

pub add_arguments-requires-clause-trees : goal.add_arguments-requires-clause-trees
add_arguments-requires-clause-trees c =
    let j = c.requires.congruent c.args.node c.in-Some.edge (sym c.in-Some.ensures) c.in-Congruence.is in
    both_trees c.args.bank.now.terms (link_of c.args.links.now) c.args.node c.in-Some.edge.to c.in-Some.edge.time (numbers c.arguments-xs.result.now) (numbers c.arguments-ys.result.now) j c.arguments-xs.ensures c.arguments-ys.ensures

pub returns-in_ok-add_arguments-in-Congruence-clause-has : goal.returns-in_ok-add_arguments-in-Congruence-clause-has
returns-in_ok-add_arguments-in-Congruence-clause-has c =
    expanded c.args.bank.now.terms (link_of c.args.links.now) c.args.node c.in-Some.edge (sym c.in-Some.ensures) (numbers c.arguments-xs.result.now) (numbers c.arguments-ys.result.now) c.args.met.now.keys c.add_arguments.new.met.keys c.arguments-xs.ensures c.arguments-ys.ensures (long_by_numbers (link_of c.args.links.now) c.arguments-xs.result.now (numbers c.arguments-ys.result.now) c.args.met.now.keys c.add_arguments.new.met.keys c.in_ok-add_arguments-in-Congruence.ensures.has)

pub returns-in_ok-add_arguments-in-Congruence-clause-only : goal.returns-in_ok-add_arguments-in-Congruence-clause-only
returns-in_ok-add_arguments-in-Congruence-clause-only c =
    expanded_only c.args.bank.now.terms (link_of c.args.links.now) c.args.node c.in-Some.edge (sym c.in-Some.ensures) (numbers c.arguments-xs.result.now) (numbers c.arguments-ys.result.now) c.args.met.now.keys c.add_arguments.new.met.keys c.arguments-xs.ensures c.arguments-ys.ensures (long_by_numbers (link_of c.args.links.now) c.arguments-xs.result.now (numbers c.arguments-ys.result.now) c.args.met.now.keys c.add_arguments.new.met.keys c.in_ok-add_arguments-in-Congruence.ensures.has) c.in-Congruence.is
