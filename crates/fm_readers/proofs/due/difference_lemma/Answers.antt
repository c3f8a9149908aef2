use Rattle.std.proofs.Common.{List, ◌++◌, true, false, sym, ap, subst, ◌∙◌}
use Rattle.fm_base.specs.declared.ids.TermId.{TermId}
use Rattle.fm_bank.specs.Closure.{object}
use Rattle.fm_bank.specs.Interning.{with_literal}
use Rattle.fm_bank.specs.declared.atom.Atom.{Atom}
use Rattle.fm_bank.specs.declared.literal.Literal.{Literal}
use Rattle.fm_steps.specs.Sizes.{lit}
use Rattle.fm_readers.specs.Shown.{PutsReasons, ShowsValue}
use Rattle.fm_readers.proofs.Nodes.{equality_below}
use Rattle.fm_readers.proofs.Shows.{difference_shown, unequal_there, witness_below}
use Rattle.fm_readers.proofs.due.difference_lemma.Goals as goal

pub put_equal-requires-clause-a : goal.put_equal-requires-clause-a
put_equal-requires-clause-a c = (equality_below c.args.bank.now c.args.a c.args.b c.requires.atom).0

pub put_equal-requires-clause-b : goal.put_equal-requires-clause-b
put_equal-requires-clause-b c = (witness_below c.args.bank.now c.one_number_per_term.ensures.held c.args.graph.now c.requires.known c.args.a c.args.b c.args.seen c.requires.seen).0

pub put_equal-requires-2-clause-a : goal.put_equal-requires-2-clause-a
put_equal-requires-2-clause-a c = (equality_below c.args.bank.now c.args.a c.args.b c.requires.atom).1

pub put_equal-requires-2-clause-b : goal.put_equal-requires-2-clause-b
put_equal-requires-2-clause-b c = (witness_below c.args.bank.now c.one_number_per_term.ensures.held c.args.graph.now c.requires.known c.args.a c.args.b c.args.seen c.requires.seen).1

pub returns : goal.returns
returns c = λ es r.
    let a = c.args.a in
    let b = c.args.b in
    let w = c.args.seen in
    let held = c.args.bank.now in
    let g = c.args.graph.now in
    let mid = c.put_equal.new.lits.keys in
    let lits = c.put_equal-2.new.lits.keys in
    let left = c.in_ok-support.support.items in
    let right = c.in_ok-far.far.items in
    let first = c.in_ok-put.ensures ∙ ap (λ (ks : List Literal). with_literal ks (lit false (Atom.Equal a b))) c.new-lits.ensures.empty in
    let second = c.in_ok-put-2.ensures ∙ ap (λ (ks : List Literal). with_literal ks (lit true (Atom.Equal w.left w.right))) first in
    let near = subst (λ (ks : List Literal). PutsReasons held es (object a.0) (object w.near.0) ks mid left) second (c.in_ok-support.ensures es r) in
    let both = c.in_ok-extend_from_slice.ensures.items ∙ ap (λ (ts : List TermId). left ++ ts) c.as_slice.ensures.value in
    let shown = difference_shown held es c.one_number_per_term.ensures.held g r a b w.left w.right w.near w.far mid lits left right c.requires.atom (unequal_there held es c.one_number_per_term.ensures.held g r w.left w.right c.requires.seen.read) c.requires.seen.between.ways near (c.in_ok-far.ensures es r) in
    subst (λ (ks : List Literal). ShowsValue held es (Atom.Equal a b) false ks c.extend_from_slice.new.self.items) (sym c.in_ok-lits.ensures) (subst (λ (ts : List TermId). ShowsValue held es (Atom.Equal a b) false lits ts) (sym both) shown)
