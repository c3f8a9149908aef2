-- What is carried out is over the registered terms.
use Rattle.std.proofs.Common.{◌≡◌, ℕ, nat_le, nat_lt, true, false, cond, Bool, List, Some, None, inl, inr, sym, ap, subst, ◌∙◌, arith}
use Rattle.std.specs.Prelude.{Option}
use Rattle.std.specs.List.{list_all}
use Rattle.std.proofs.lemmas.Bool.{and_from, and_parts, cases_Bool, eqb-true, false≢true, le-leb, leb-false}
use Rattle.fm_base.specs.declared.ids.SortId.{SortId}
use Rattle.fm_base.specs.declared.signature.Ty.{Ty}
use Rattle.fm_bank.specs.Instances.{is_substitution}
use Rattle.fm_bank.specs.Interning.{are_of_one_sort, is_atom}
use Rattle.fm_bank.specs.Sorted.{are_sorted_literals, is_sorted_clause}
use Rattle.fm_bank.specs.Terms.{is_type, type_of}
use Rattle.fm_bank.specs.declared.atom.Atom.{Atom}
use Rattle.fm_steps.specs.Fitting.{DecisionsAreAtoms, InstancesAreTyped, SplitsAreAtoms}
use Rattle.fm_steps.specs.Rows.{content_at}
use Rattle.fm_steps.proofs.Due.{all_in}
use Rattle.fm_steps.proofs.Held.{decided}
use Rattle.fm_steps.proofs.Lists.{Has-get}
use Rattle.fm_steps.proofs.Written.{named_typed}

pub instances_are_typed : InstancesAreTyped
instances_are_typed p b s k i env t sorted r =
    let is = all_in (is_sorted_clause p.sig) p.clauses r.clause sorted.clauses (Has-get p.clauses i r.clause r.there) in
    let vars = (and_parts (list_all (λ (v : SortId). nat_lt v.0 p.sig.sorts) r.clause.vars) (are_sorted_literals p.sig r.clause.vars r.clause.lits) is).0 in
    subst (λ (ns : List ℕ). is_substitution p.sig s.held.terms r.clause.vars ns ≡ true) r.named (named_typed (content_at p s k) r.clause.vars r.elements vars r.within)

-- two terms of one sort
one_sort : (o q : Option Ty) (u : ℕ) → is_type o (Ty.Of (record { 0 = u })) ≡ true → is_type q (Ty.Of (record { 0 = u })) ≡ true → are_of_one_sort o q ≡ true
one_sort None q u a b = absurd (false≢true a)
one_sort (Some Ty.Bool) q u a b = absurd (false≢true a)
one_sort (Some (Ty.Of r)) q u a b = let same = eqb-true r.0 u a in subst (λ n. is_type q (Ty.Of (record { 0 = n })) ≡ true) (sym same) b

pub splits_are_atoms : SplitsAreAtoms
splits_are_atoms s k a b t r =
    let sig = s.held.sig in
    let terms = s.held.terms in
    let u = r.sort_of in
    elim (cases_Bool (nat_le a b)) [
      | inl e ↦ ap (λ (c : Bool). is_atom sig terms (cond c (Atom.Equal (record { 0 = a }) (record { 0 = b })) (Atom.Equal (record { 0 = b }) (record { 0 = a })))) e ∙ and_from (nat_le a b) _ e (one_sort (type_of sig terms a) (type_of sig terms b) u r.first r.second)
      | inr e ↦ ap (λ (c : Bool). is_atom sig terms (cond c (Atom.Equal (record { 0 = a }) (record { 0 = b })) (Atom.Equal (record { 0 = b }) (record { 0 = a })))) e ∙ and_from (nat_le b a) _ (le-leb b a (let lt = leb-false a b e in omega (arith, lt))) (one_sort (type_of sig terms b) (type_of sig terms a) u r.second r.first)
    ]

pub decisions_are_atoms : DecisionsAreAtoms
decisions_are_atoms p s k l w h = decided p s w k l h
