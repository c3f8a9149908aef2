-- Closure over a set of terms: the list's order and repeats mean nothing.
use Rattle.std.proofs.Common.{◌≡◌, ℕ, zero, suc, ◌<◌, ◌⊎◌, inl, inr, Bool, true, false, List, [], ◌∷◌, length, refl, sym, subst, arith}
use Rattle.std.specs.Prelude.{◌↔◌, nat_lt, slice_get}
use Rattle.std.specs.List.{All, Contains, list_all}
use Rattle.std.proofs.lemmas.List.Elements.{Contains-append_cases, Contains-append_left, Contains-append_right}
use Rattle.fm_bank.specs.Closure.{Clashes, Shape, no, object, shape_at, shapes_of, yes}
use Rattle.fm_bank.specs.Meaning.{IsPart}
use Rattle.fm_bank.specs.Terms.{Term}
use Rattle.fm_bank.specs.declared.atom.Atom.{Atom}
use Rattle.fm_bank.proofs.Closures.{more_follows}
use Rattle.fm_cert.specs.Lines.{Clause, Joins, JoinsSome}
use Rattle.fm_bank.specs.Subterms.{AreSubterms}

no_element : {X : Type 0} (x : X) → Contains [] x → ⊥
no_element x c = absurd (omega (arith, c.1))

put_shape : (terms : List Term) (over : List ℕ) (n k : ℕ) (s : Shape) → k < length over → Rattle.std.specs.Prelude.slice_index_or over k n ≡ n → Contains (shape_at n (slice_get terms n)) s → Contains (shapes_of terms over) s
put_shape terms [] n k s lt e c = absurd (omega (arith, lt))
put_shape terms (m ∷ over) n zero s lt e c = Contains-append_left (shape_at m (slice_get terms m)) (shapes_of terms over) s (subst (λ (x : ℕ). Contains (shape_at x (slice_get terms x)) s) (sym e) c)
put_shape terms (m ∷ over) n (suc k) s lt e c = Contains-append_right (shape_at m (slice_get terms m)) (shapes_of terms over) s (put_shape terms over n k s (omega (arith, lt)) e c)

got_shape : (terms : List Term) (over : List ℕ) (s : Shape) → Contains (shapes_of terms over) s → (n : ℕ) × Contains over n × Contains (shape_at n (slice_get terms n)) s
got_shape terms [] s c = absurd (no_element s c)
got_shape terms (m ∷ over) s c =
    elim (Contains-append_cases (shape_at m (slice_get terms m)) (shapes_of terms over) s c) [
      | inl here ↦ (m, (0, omega arith, refl), here)
      | inr rest ↦ let r = got_shape terms over s rest in (r.0, Contains-append_right (m ∷ []) over r.0 r.1, r.2)
    ]

over_part : (terms : List Term) (over more : List ℕ) → ((n : ℕ) → Contains over n → Contains more n) → IsPart (shapes_of terms over) (shapes_of terms more)
over_part terms over more h s c =
    let g = got_shape terms over s c in
    let m = h g.0 g.1 in
    put_shape terms more g.0 m.0 s m.1 m.2 g.2

joins_more : (shapes more : List Shape) (facts : List (ℕ × ℕ)) → IsPart shapes more → (positive : Bool) (a : Atom) → Joins shapes facts positive a → Joins more facts positive a
joins_more shapes more facts part true (Atom.Equal a b) j = more_follows shapes facts more facts part (λ p h. h) (object a.0) (object b.0) j
joins_more shapes more facts part true (Atom.Pred t) j = j
joins_more shapes more facts part true (Atom.Card s k) j = j
joins_more shapes more facts part true (Atom.Bound n) j = j
joins_more shapes more facts part false a j = j

some_more : (shapes more : List Shape) (facts : List (ℕ × ℕ)) → IsPart shapes more → (lits : Clause) → JoinsSome shapes facts lits → JoinsSome more facts lits
some_more shapes more facts part [] j = j
some_more shapes more facts part (l ∷ lits) j =
    elim j [
      | inl here ↦ inl (joins_more shapes more facts part l.positive l.atom here)
      | inr rest ↦ inr (some_more shapes more facts part lits rest)
    ]

-- what closes over one list of the subterms does over another
pub closes_over : (terms : List Term) (roots over more : List ℕ) (facts : List (ℕ × ℕ)) (lits : Clause) → AreSubterms terms roots over → AreSubterms terms roots more → Clashes (shapes_of terms over) facts ⊎ JoinsSome (shapes_of terms over) facts lits → Clashes (shapes_of terms more) facts ⊎ JoinsSome (shapes_of terms more) facts lits
closes_over terms roots over more facts lits a b closes =
    let part = over_part terms over more (λ n c. (b n).1 ((a n).0 c)) in
    elim closes [
      | inl clash ↦ inl (more_follows (shapes_of terms over) facts (shapes_of terms more) facts part (λ p h. h) yes no clash)
      | inr some ↦ inr (some_more (shapes_of terms over) (shapes_of terms more) facts part lits some)
    ]
