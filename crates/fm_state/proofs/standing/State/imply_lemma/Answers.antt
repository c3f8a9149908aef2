use Rattle.std.proofs.Common.{◌≡◌, ℕ, List, None, length, sym, ap, subst, ◌∙◌}
use Rattle.std.specs.Prelude.{OnOk}
use Rattle.fm_bank.specs.Interning.{atom_number, is_atom, lit_in}
use Rattle.fm_bank.specs.declared.literal.Literal.{Literal}
use Rattle.fm_base.specs.declared.ids.Lit.{Lit}
use Rattle.fm_steps.specs.State.{State, put, value_by, with_literals}
use Rattle.fm_steps.proofs.Due.{all_in}
use Rattle.fm_steps.proofs.Trails.{none_by_number}
use Rattle.fm_trail.specs.declared.entry.Entry.{Entry}
use Rattle.fm_state.proofs.Open.{known_stays}
use Rattle.fm_state.proofs.standing.State.imply_lemma.Goals as goal

pub know-requires : goal.know-requires
know-requires c = all_in (λ (l : Literal). is_atom c.args.self.now.held.sig c.args.self.now.held.terms l.atom) c.args.lits.now c.args.lit c.requires.atoms c.requires.unit.has

pub put-requires : goal.put-requires
put-requires c =
    let s = c.args.self.now in
    let a = c.args.lit.atom in
    let same : c.know.new.self ≡ s = c.in_ok-atom.ensures.known ∙ known_stays s c.args.lits.now c.args.lit c.requires.unit.has c.requires.known in
    let entries : c.add_lemma.new.self.trail.entries ≡ s.trail.entries = ap (λ (x : State). x.trail.entries) c.in_ok-add_lemma.ensures ∙ ap (λ (x : State). x.trail.entries) same in
    let number : c.in_ok-atom.atom.0 ≡ atom_number s.held.atoms a = c.in_ok-atom.ensures.number ∙ ap (λ (x : State). atom_number x.held.atoms a) same in
    let none : value_by s.trail.entries (atom_number s.held.atoms a) ≡ None = none_by_number s.trail.entries s.held.atoms a c.requires.over c.requires.unit.unset in
    subst (λ (es : List Entry). value_by es c.in_ok-atom.atom.0 ≡ None) (sym entries) (subst (λ (n : ℕ). value_by s.trail.entries n ≡ None) (sym number) none)

pub returns : goal.returns
returns c =
    let s = c.args.self.now in
    let a = c.args.lit.atom in
    let same : c.know.new.self ≡ s = c.in_ok-atom.ensures.known ∙ known_stays s c.args.lits.now c.args.lit c.requires.unit.has c.requires.known in
    let number : c.in_ok-atom.atom.0 ≡ atom_number s.held.atoms a = c.in_ok-atom.ensures.number ∙ ap (λ (x : State). atom_number x.held.atoms a) same in
    let clause : c.len-clause.result ≡ length s.clauses = c.len-clause.ensures ∙ ap (λ (x : State). length x.clauses) (c.self.view_is ∙ same) in
    let after : c.add_lemma.new.self ≡ with_literals c.args.lits.now s = c.in_ok-add_lemma.ensures ∙ ap (with_literals c.args.lits.now) same in
    let l : Lit = record { atom = c.in_ok-atom.atom; positive = c.args.lit.positive } in
    let lit : l ≡ lit_in s.held.atoms c.args.lit = λ i. record { atom = record { 0 = number i }; positive = c.args.lit.positive } in
    let goes : put l c.len-clause.result c.add_lemma.new.self ≡ put (lit_in s.held.atoms c.args.lit) (length s.clauses) (with_literals c.args.lits.now s) = λ i. put (lit i) (clause i) (after i) in
    subst (λ (t : State). OnOk c.put.result (c.put.new.self ≡ t)) goes c.put.ensures
