-- The literals of an instance, by numbers.
use Rattle.std.proofs.Common.{◌≡◌, ℕ, true, List, [], map, Some, sym, ap, ◌∙◌}
use Rattle.std.proofs.lemmas.Bool.{and_parts}
use Rattle.fm_base.specs.declared.ids.Lit.{Lit}
use Rattle.fm_base.specs.Resolution.{AreDistinct}
use Rattle.fm_bank.specs.Instances.{is_substitution}
use Rattle.fm_bank.specs.Interning.{Held, IsInstance, after_instance, first_places, lit_in, literals_grown}
use Rattle.fm_bank.specs.Sorted.{are_sorted_literals, is_sorted_clause}
use Rattle.fm_bank.specs.Terms.{are_terms}
use Rattle.fm_bank.specs.declared.clause.Clause.{Clause}
use Rattle.fm_bank.specs.declared.literal.Literal.{Literal}
use Rattle.fm_bank.proofs.Growing.{front-refl}
use Rattle.fm_bank.proofs.Instancing.{literals_put}
use Rattle.fm_steps.specs.Rows.{instance_literals}
use Rattle.fm_steps.proofs.Distinct.{places_distinct}
use Rattle.fm_state.proofs.Distinct.{numbers_distinct}

abbrev pub instance_lits : Held → Clause → List ℕ → List Lit
instance_lits b k subst = map (lit_in (after_instance b k.lits subst).atoms) (instance_literals b k subst)

pub instance_is : (b : Held) (k : Clause) (subst : List ℕ) (answer : List Lit) → is_sorted_clause b.sig k ≡ true → is_substitution b.sig b.terms k.vars subst ≡ true → are_terms b.sig b.terms ≡ true → IsInstance (after_instance b k.lits subst) k.lits subst answer → answer ≡ instance_lits b k subst
instance_is b k subst answer sorted typed good is =
    let g = literals_grown k.lits subst b.terms in
    let lits = (and_parts _ (are_sorted_literals b.sig k.vars k.lits) sorted).1 in
    let put = literals_put b.sig k.vars subst k.lits b.terms good typed lits in
    let both : Some is.literals ≡ Some g.1 = sym is.grounded ∙ put.stay g.0 (front-refl g.0) in
    let same : is.literals ≡ g.1 = cc both in
    is.once ∙ ap (λ (ls : List Literal). map (lit_in (after_instance b k.lits subst).atoms) (first_places [] ls)) same

pub instance_distinct : (b : Held) (k : Clause) (subst : List ℕ) → AreDistinct (instance_lits b k subst)
instance_distinct b k subst = let g = literals_grown k.lits subst b.terms in numbers_distinct b.atoms (first_places [] g.1) (places_distinct g.1)
