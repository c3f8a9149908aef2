-- Loops over the literals of a line `e`.
use Rattle.std.proofs.Common.{[], ap, Bool, length, List, None, Option, refl, Some, subst, sym, true, ℕ, ◌++◌, ◌<◌, ◌∙◌, ◌∷◌, ◌≡◌, ◌⊎◌}
use Rattle.std.specs.Prelude.{nat_le, nat_lt}
use Rattle.std.specs.List.{All, list_all}
use Rattle.std.proofs.lemmas.Bool.{and_from, and_parts, eq-eqb, false≢true, lt-ltb}
use Rattle.fm_base.specs.declared.ids.TermId.{TermId}
use Rattle.fm_base.specs.declared.signature.Sig.{Sig}
use Rattle.fm_base.specs.declared.signature.Ty.{Ty}
use Rattle.fm_bank.specs.Closure.{Clashes, shapes_of}
use Rattle.fm_bank.specs.Interning.{are_of_one_sort}
use Rattle.fm_bank.specs.Terms.{Term, is_type, numbers, type_of}
use Rattle.fm_bank.specs.declared.atom.Atom.{Atom}
use Rattle.fm_cert.specs.Lines.{Clause, IsConflict, JoinsSome, facts_against, is_on_terms, terms_of_atom, terms_of_clause}
use Rattle.fm_bank.specs.Subterms.{AreSubterms}
use Rattle.fm_bank.specs.declared.literal.Literal.{Literal}
use Rattle.fm_blocks.proofs.OverLaws.{closes_over}
use Rattle.fm_bank.proofs.Meanings.{typed_within}
use Rattle.fm_bank.proofs.Walks.{numbers_below}

-- the terms of the literals are there
sort_below : (sig : Sig) (terms : List Term) (a : ℕ) (o u : Option Ty) → type_of sig terms a ≡ o → are_of_one_sort o u ≡ true → a < length terms
sort_below sig terms a None u e h = absurd (false≢true h)
sort_below sig terms a (Some Ty.Bool) u e h = absurd (false≢true h)
sort_below sig terms a (Some (Ty.Of s)) u e h = typed_within sig terms a (Ty.Of s) (ap (λ (o : Option Ty). is_type o (Ty.Of s)) e ∙ eq-eqb s.0 s.0 refl)

other_below : (sig : Sig) (terms : List Term) (b : ℕ) (o : Option Ty) → are_of_one_sort o (type_of sig terms b) ≡ true → b < length terms
other_below sig terms b None h = absurd (false≢true h)
other_below sig terms b (Some Ty.Bool) h = absurd (false≢true h)
other_below sig terms b (Some (Ty.Of s)) h = typed_within sig terms b (Ty.Of s) h

abbrev is_below : List Term → ℕ → Bool
is_below terms n = nat_lt n (length terms)

atom_below : (sig : Sig) (terms : List Term) (a : Atom) → is_on_terms sig terms a ≡ true → list_all (is_below terms) (terms_of_atom a) ≡ true
atom_below sig terms (Atom.Equal a b) h =
    let p = and_parts (nat_le a.0 b.0) (are_of_one_sort (type_of sig terms a.0) (type_of sig terms b.0)) h in
    and_from _ _ (lt-ltb a.0 (length terms) (sort_below sig terms a.0 (type_of sig terms a.0) (type_of sig terms b.0) refl p.1)) (and_from _ _ (lt-ltb b.0 (length terms) (other_below sig terms b.0 (type_of sig terms a.0) p.1)) refl)
atom_below sig terms (Atom.Pred t) h = and_from _ _ (lt-ltb t.0 (length terms) (typed_within sig terms t.0 Ty.Bool h)) refl
atom_below sig terms (Atom.Card s k) h = refl
atom_below sig terms (Atom.Bound n) h = refl

all_both : (p : ℕ → Bool) (xs ys : List ℕ) → list_all p xs ≡ true → list_all p ys ≡ true → list_all p (xs ++ ys) ≡ true
all_both p [] ys a b = b
all_both p (x ∷ xs) ys a b = let q = and_parts (p x) (list_all p xs) a in and_from _ _ q.0 (all_both p xs ys q.1 b)

clause_below : (sig : Sig) (terms : List Term) (lits : Clause) → list_all (λ (l : Literal). is_on_terms sig terms l.atom) lits ≡ true → list_all (is_below terms) (terms_of_clause lits) ≡ true
clause_below sig terms [] h = refl
clause_below sig terms (l ∷ lits) h =
    let q = and_parts (is_on_terms sig terms l.atom) (list_all (λ (k : Literal). is_on_terms sig terms k.atom) lits) h in
    all_both (is_below terms) (terms_of_atom l.atom) (terms_of_clause lits) (atom_below sig terms l.atom q.0) (clause_below sig terms lits q.1)

pub roots_below : (sig : Sig) (terms : List Term) (lits : Clause) (support : List ℕ) (roots : List TermId) → list_all (λ (l : Literal). is_on_terms sig terms l.atom) lits ≡ true → list_all (λ (n : ℕ). nat_lt n (length terms)) support ≡ true → numbers roots ≡ terms_of_clause lits ++ support → All (λ (t : TermId). t.0 < length terms) roots
roots_below sig terms lits support roots a b e = numbers_below terms roots (ap (list_all (is_below terms)) e ∙ all_both (is_below terms) (terms_of_clause lits) support (clause_below sig terms lits a) b)

pub conflict_yes : (sig : Sig) (terms : List Term) (lits : Clause) (support roots over : List ℕ) (facts : List (ℕ × ℕ)) → list_all (λ (l : Literal). is_on_terms sig terms l.atom) lits ≡ true → list_all (λ (n : ℕ). nat_lt n (length terms)) support ≡ true → roots ≡ terms_of_clause lits ++ support → AreSubterms terms roots over → facts ≡ facts_against lits → Clashes (shapes_of terms over) facts ⊎ JoinsSome (shapes_of terms over) facts lits → IsConflict sig terms lits support
conflict_yes sig terms lits support roots over facts a b e sub f h =
    record {
      on_terms = a;
      there = b;
      over = over;
      subterms = subst (λ (r : List ℕ). AreSubterms terms r over) e sub;
      closes = subst (λ (g : List (ℕ × ℕ)). Clashes (shapes_of terms over) g ⊎ JoinsSome (shapes_of terms over) g lits) f h;
    }

pub conflict_no : (sig : Sig) (terms : List Term) (lits : Clause) (support roots over : List ℕ) (facts : List (ℕ × ℕ)) → roots ≡ terms_of_clause lits ++ support → AreSubterms terms roots over → facts ≡ facts_against lits → (Clashes (shapes_of terms over) facts ⊎ JoinsSome (shapes_of terms over) facts lits → ⊥) → IsConflict sig terms lits support → ⊥
conflict_no sig terms lits support roots over facts e sub f refuses h =
    let mine = subst (λ (r : List ℕ). AreSubterms terms r over) e sub in
    let closes = closes_over terms (terms_of_clause lits ++ support) h.over over (facts_against lits) lits h.subterms mine h.closes in
    refuses (subst (λ (g : List (ℕ × ℕ)). Clashes (shapes_of terms over) g ⊎ JoinsSome (shapes_of terms over) g lits) (sym f) closes)
