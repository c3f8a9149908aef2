use Rattle.std.proofs.Common.{◌≡◌, true, [], ◌∷◌, ◌++◌, sym, ap, subst, ◌∙◌}
use Rattle.fm_base.specs.Resolution.{AreDistinct}
use Rattle.fm_bank.specs.Interning.{Held, IsInstance, after_instance}
use Rattle.fm_bank.specs.Terms.{are_terms, numbers}
use Rattle.fm_sat.specs.Store.{Stored}
use Rattle.fm_steps.specs.State.{State}
use Rattle.fm_state.proofs.Instances.{instance_distinct, instance_is, instance_lits}
use Rattle.fm_state.proofs.standing.State.add_instance_clause.Goals as goal

pub add-requires : goal.add-requires
add-requires c =
    let b = c.args.self.now.held in
    let k = c.args.clause.now in
    let ns = numbers c.args.terms.now in
    let held : c.self.inside.bank ≡ b = ap (λ (x : State). x.held) c.self.view_is in
    let after : c.instance.new.self ≡ after_instance b k.lits ns = c.in_ok-lits.ensures.after ∙ ap (λ (h : Held). after_instance h k.lits ns) held in
    let good = subst (λ (h : Held). are_terms h.sig h.terms ≡ true) held c.one_number_per_term.ensures.held.terms_good in
    let is = subst (λ (h : Held). IsInstance h k.lits ns c.in_ok-lits.lits.items) after c.in_ok-lits.ensures.instance in
    let lits = c.as_slice.ensures.value ∙ instance_is b k ns c.in_ok-lits.lits.items c.requires.clause c.requires.terms good is in
    subst AreDistinct (sym lits) (instance_distinct b k ns)

pub returns : goal.returns
returns c =
    let s = c.args.self.now in
    let b = s.held in
    let k = c.args.clause.now in
    let ns = numbers c.args.terms.now in
    let held : c.self.inside.bank ≡ b = ap (λ (x : State). x.held) c.self.view_is in
    let after : c.instance.new.self ≡ after_instance b k.lits ns = c.in_ok-lits.ensures.after ∙ ap (λ (h : Held). after_instance h k.lits ns) held in
    let good = subst (λ (h : Held). are_terms h.sig h.terms ≡ true) held c.one_number_per_term.ensures.held.terms_good in
    let is = subst (λ (h : Held). IsInstance h k.lits ns c.in_ok-lits.lits.items) after c.in_ok-lits.ensures.instance in
    let lits : c.as_slice.result.now ≡ instance_lits b k ns = c.as_slice.ensures.value ∙ instance_is b k ns c.in_ok-lits.lits.items c.requires.clause c.requires.terms good is in
    let before : c.self.inside.store.clauses ≡ s.clauses = ap (λ (x : State). x.clauses) c.self.view_is in
    let added : c.add.new.self.clauses ≡ c.self.inside.store.clauses ++ c.as_slice.result.now ∷ [] = ap (λ (t : Stored). t.clauses) c.in_ok-add.ensures.added in
    let all : c.self.inside.store.clauses ++ c.as_slice.result.now ∷ [] ≡ s.clauses ++ instance_lits b k ns ∷ [] = λ i. before i ++ lits i ∷ [] in
    let clauses : c.add.new.self.clauses ≡ s.clauses ++ instance_lits b k ns ∷ [] = added ∙ all in
    λ i. record (c.self.view_is i) { held = after i; clauses = clauses i }
