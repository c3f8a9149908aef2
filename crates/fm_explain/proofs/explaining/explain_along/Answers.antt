use Rattle.std.proofs.Common.{◌≡◌, ◌↔◌, ℕ, List, [], sym, ap, ◌∙◌, subst}
use Rattle.std.specs.List.{Contains, filter_map}
use Rattle.fm_base.specs.Resolution.{AreDistinct}
use Rattle.fm_base.specs.declared.ids.Lit.{Lit}
use Rattle.fm_bank.specs.Closure.{shapes_of}
use Rattle.fm_bank.specs.Terms.{numbers}
use Rattle.fm_cells.specs.Forest.{link_of}
use Rattle.fm_explain.specs.Meant.{IsLitMeant, lit_at, pairs_by, path_nodes, term_at, with_all}
use Rattle.fm_explain.proofs.Exact.{congruences_known, once, one_node, one_place, read_by, support_exact}
use Rattle.fm_explain.proofs.Showing.{follows_by}
use Rattle.fm_explain.proofs.Supporting.{literals_exact, shown_by}
use Rattle.fm_explain.proofs.explaining.explain_along.Goals as goal

pub meant-requires-clause-congruent : goal.meant-requires-clause-congruent
meant-requires-clause-congruent c =
    let f = c.requires.forest in
    congruences_known f.graph c.args.links.now c.args.bank.now f.explained f.known

pub nodes_met-requires : goal.nodes_met-requires
nodes_met-requires c =
    let f = c.requires.forest in
    record { congruent = congruences_known f.graph c.args.links.now c.args.bank.now f.explained f.known }

pub returns-clause-paths : goal.returns-clause-paths
returns-clause-paths c =
    let f = c.requires.forest in
    let terms = c.args.bank.now.terms in
    let link = link_of c.args.links.now in
    let keys = c.in_ok-met.met.keys in
    let lits : c.in_ok-lits.lits.items ≡ filter_map (λ (e : ℕ). lit_at (link_of c.args.links.now e)) c.in_ok-met.met.keys = c.in_ok-lits.ensures ∙ ap (λ (ks : List ℕ). filter_map (λ (e : ℕ). lit_at (link_of c.args.links.now e)) ks) c.as_slice.ensures.keys in
    let support : numbers c.in_ok-support.support.items ≡ filter_map term_at (with_all [] (path_nodes c.args.bank.now.terms (link_of c.args.links.now) c.args.a c.args.b c.in_ok-met.met.keys)) = c.in_ok-support.ensures ∙ ap (filter_map term_at) (c.as_slice-3.ensures.keys ∙ (c.in_ok-nodes.ensures ∙ ap (λ (ks : List ℕ). with_all [] (path_nodes c.args.bank.now.terms (link_of c.args.links.now) c.args.a c.args.b ks)) c.as_slice-2.ensures.keys)) in
    record {
      literals = λ k. subst (λ (ls : List Lit). Contains ls k ↔ IsLitMeant terms link c.args.a c.args.b k) (sym lits) (literals_exact terms link c.args.a c.args.b keys c.in_ok-met.ensures.meant k);
      once = subst (λ (ls : List Lit). AreDistinct ls) (sym lits) (once (λ e. lit_at (link e)) (one_place f.graph c.args.links.now c.args.bank.now f.explained f.known) keys c.in_ok-met.ensures.once);
      terms_once = subst (λ (ns : List ℕ). AreDistinct ns) (sym (c.in_ok-support.ensures ∙ ap (filter_map term_at) c.as_slice-3.ensures.keys)) (once term_at one_node c.in_ok-nodes.nodes.keys c.as_slice-3.ensures.unique);
      terms = support_exact terms link c.args.a c.args.b keys c.in_ok-met.ensures.meant (numbers c.in_ok-support.support.items) support;
    }

pub returns-clause-read : goal.returns-clause-read
returns-clause-read c =
    let terms = c.args.bank.now.terms in
    let link = link_of c.args.links.now in
    let keys = c.in_ok-met.met.keys in
    let lits : c.in_ok-lits.lits.items ≡ filter_map (λ (e : ℕ). lit_at (link_of c.args.links.now e)) c.in_ok-met.met.keys = c.in_ok-lits.ensures ∙ ap (λ (ks : List ℕ). filter_map (λ (e : ℕ). lit_at (link_of c.args.links.now e)) ks) c.as_slice.ensures.keys in
    λ g x. read_by g c.args.links.now x c.in_ok-lits.lits.items terms c.args.a c.args.b (λ k. subst (λ (ls : List Lit). Contains ls k ↔ IsLitMeant terms link c.args.a c.args.b k) (sym lits) (literals_exact terms link c.args.a c.args.b keys c.in_ok-met.ensures.meant k))

pub returns-clause-shows : goal.returns-clause-shows
returns-clause-shows c =
    let f = c.requires.forest in
    let terms = c.args.bank.now.terms in
    let atoms = c.args.bank.now.atoms in
    let link = link_of c.args.links.now in
    let keys = c.in_ok-met.met.keys in
    let lits : c.in_ok-lits.lits.items ≡ filter_map (λ (e : ℕ). lit_at (link_of c.args.links.now e)) c.in_ok-met.met.keys = c.in_ok-lits.ensures ∙ ap (λ (ks : List ℕ). filter_map (λ (e : ℕ). lit_at (link_of c.args.links.now e)) ks) c.as_slice.ensures.keys in
    let support : numbers c.in_ok-support.support.items ≡ filter_map term_at (with_all [] (path_nodes c.args.bank.now.terms (link_of c.args.links.now) c.args.a c.args.b c.in_ok-met.met.keys)) = c.in_ok-support.ensures ∙ ap (filter_map term_at) (c.as_slice-3.ensures.keys ∙ (c.in_ok-nodes.ensures ∙ ap (λ (ks : List ℕ). with_all [] (path_nodes c.args.bank.now.terms (link_of c.args.links.now) c.args.a c.args.b ks)) c.as_slice-2.ensures.keys)) in
    let by = shown_by terms link f.graph.facts atoms c.args.a c.args.b keys c.in_ok-met.ensures.meant f.known.atoms (numbers c.in_ok-support.support.items) support c.in_ok-lits.lits.items lits in
    follows_by terms link f.explained.ended f.graph.facts f.explained.literals (congruences_known f.graph c.args.links.now c.args.bank.now f.explained f.known) c.args.a c.args.b (shapes_of terms (numbers c.in_ok-support.support.items)) (pairs_by atoms c.in_ok-lits.lits.items) by c.requires.tree
