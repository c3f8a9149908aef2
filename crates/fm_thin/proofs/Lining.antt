-- The lines that show that no sum lies below the number of the sorts are good, and can be printed.
use Rattle.std.proofs.Common.{◌≡◌, ◌≢◌, ℕ, zero, suc, ◌+◌, ◌<◌, ◌≤◌, inl, inr, true, false, List, [], ◌∷◌, ◌++◌, length, replicate, Some, ap, refl, sym, subst, ◌∙◌, arith, add-one, add-zero, zero-add, append_assoc}
use Rattle.std.specs.Prelude.{slice_get}
use Rattle.std.specs.List.{AllByRecursion}
use Rattle.std.proofs.lemmas.Bool.{false≢true}
use Rattle.std.proofs.lemmas.List.{append-nil, length-replicate}
use Rattle.fm_base.specs.declared.ids.SortId.{SortId}
use Rattle.fm_bank.specs.declared.atom.Atom.{Atom}
use Rattle.fm_bank.specs.declared.literal.Literal.{Literal}
use Rattle.fm_cert.specs.Claims.{ShowsLeast}
use Rattle.fm_cert.specs.Fits.{IsOrderedStep, IsPrintable}
use Rattle.fm_cert.specs.Lines.{Problem, Clause, Has, SameSet, Made, Resolves, Chain, at_most, more_than, above, sum_clause, total_above, AreGoodLines}
use Rattle.fm_cert.specs.Lines.{nothing as nothing_made}
use Rattle.fm_cert.specs.declared.block.Line.{Line}
use Rattle.fm_thin.specs.Certified.{orders, zero_steps, lines_of}

pub total_above-zeros : (n : ℕ) → total_above (replicate n 0) ≡ n
total_above-zeros zero = refl
total_above-zeros (suc n) = omega (arith, total_above-zeros n)

abbrev pub mark : ℕ → SortId
mark t = record { 0 = t }

pub not_below : (s t n b : ℕ) → s < t → Has (sum_clause t (replicate n 0) b) (at_most s 0) → ⊥
not_below s t zero b lt h =
    elim h [
      | inl e ↦ let signs : false ≡ true = ap (λ (l : Literal). l.positive) e in false≢true signs
      | inr none ↦ none
    ]
not_below s t (suc n) b lt h =
    elim h [
      | inl e ↦
          let atoms : Atom.Card (record { 0 = t }) 0 ≡ Atom.Card (record { 0 = s }) 0 = ap (λ (l : Literal). l.atom) e in
          let ids : mark t ≡ mark s = cc atoms in
          let sorts : t ≡ s = ap (λ (i : SortId). i.0) ids in
          absurd (omega arith)
      | inr rest ↦ not_below s (t + 1) n b (omega arith) rest
    ]

pub resolves_next : (s n b : ℕ) → Resolves (sum_clause s (replicate (suc n) 0) b) (at_most s 0) (more_than s 0 ∷ []) (sum_clause (s + 1) (replicate n 0) b)
resolves_next s n b = record {
  stands = inl refl;
  against = inl refl;
  exactly = λ k. (
    λ h. inl (inr h, λ same. not_below s (s + 1) n b (omega arith) (subst (λ (l : Literal). Has (sum_clause (s + 1) (replicate n 0) b) l) same h)),
    λ h. elim h [
      | inl left ↦ elim left.0 [ inl e ↦ absurd (left.1 (sym e)) | inr rest ↦ rest ]
      | inr right ↦ elim right.0 [ inl e ↦ absurd (right.1 (sym e)) | inr none ↦ absurd none ]
    ],
  );
}

-- the clauses of the lines `o z` of n sorts from s on
abbrev pub order_clauses : ℕ → ℕ → List Clause
order_clauses s zero = []
order_clauses s (suc n) = (more_than s 0 ∷ []) ∷ order_clauses (s + 1) n

pub order_at : (s n i : ℕ) → i < n → slice_get (order_clauses s n) i ≡ Some (more_than (s + i) 0 ∷ [])
order_at s zero i lt = absurd (omega arith)
order_at s (suc n) zero lt = rw add-zero refl
order_at s (suc n) (suc i) lt =
    let same : s + 1 + i ≡ s + suc i = omega arith in
    subst (λ (k : ℕ). slice_get (order_clauses (s + 1) n) i ≡ Some (more_than k 0 ∷ [])) same (order_at (s + 1) n i (omega arith))

pub chain_good : (sum : Clause) (m b s n : ℕ) → s + n ≡ m → Chain (sum ∷ order_clauses 0 m) (sum_clause s (replicate n 0) b) (zero_steps s n) (above b ∷ [])
unfolding zero_steps
chain_good sum m b s zero all = λ l. (λ h. h, λ h. h)
chain_good sum m b s (suc n) all =
    let at : slice_get (sum ∷ order_clauses 0 m) (s + 1) ≡ Some (more_than s 0 ∷ []) = rw add-one (subst (λ (k : ℕ). slice_get (order_clauses 0 m) s ≡ Some (more_than k 0 ∷ [])) (zero-add s) (order_at 0 m s (omega arith))) in
    (more_than s 0 ∷ [], sum_clause (s + 1) (replicate n 0) b, at, resolves_next s n b, chain_good sum m b (s + 1) n (omega arith))

pub same_set : (c : Clause) → SameSet c c
same_set c l = (λ h. h, λ h. h)

-- these clauses are made, and no term
abbrev pub with_clauses : List Clause → Made
with_clauses clauses = record { terms = []; clauses = clauses }

pub orders_good : (p : Problem) (s n : ℕ) (earlier : List Clause) (rest : List Line) (end' : Made) → s + n ≤ p.symbols.sorts → AreGoodLines p (with_clauses (earlier ++ order_clauses s n)) rest end' → AreGoodLines p (with_clauses earlier) (orders s n ++ rest) end'
unfolding orders
orders_good p s zero earlier rest end' le good = subst (λ (cs : List Clause). AreGoodLines p (with_clauses cs) rest end') (append-nil earlier) good
orders_good p s (suc n) earlier rest end' le good =
    let clause = more_than s 0 ∷ [] in
    let behind = subst (λ (cs : List Clause). AreGoodLines p (with_clauses cs) rest end') (sym (append_assoc earlier (clause ∷ []) (order_clauses (s + 1) n))) good in
    (with_clauses (earlier ++ clause ∷ []), (clause, (omega arith, same_set clause), refl), orders_good p (s + 1) n (earlier ++ clause ∷ []) rest end' (omega arith) behind)

pub get_last : (cs : List Clause) (c : Clause) → slice_get (cs ++ c ∷ []) (length cs) ≡ Some c
get_last [] c = refl
get_last (x ∷ cs) c = get_last cs c

pub some_steps : (n : ℕ) → zero_steps 0 (suc n) ≢ []
unfolding zero_steps
some_steps n = λ e. cc e

-- the clauses of all the lines
abbrev pub clauses_made : ℕ → List Clause
clauses_made zero = []
clauses_made (suc n) = (sum_clause 0 (replicate (suc n) 0) n ∷ order_clauses 0 (suc n)) ++ (above n ∷ []) ∷ []

pub lines_good : (p : Problem) (sorts : ℕ) → p.symbols.sorts ≡ sorts → AreGoodLines p nothing_made (lines_of sorts) (with_clauses (clauses_made sorts))
lines_good p zero all = refl
lines_good p (suc n) all =
    let sum = sum_clause 0 (replicate (suc n) 0) n in
    let long : length (replicate (suc n) 0) ≡ p.symbols.sorts = length-replicate (suc n) 0 ∙ sym all in
    let big : n < total_above (replicate (suc n) 0) = omega (arith, total_above-zeros (suc n)) in
    let chain = chain_good sum (suc n) n 0 (suc n) (omega arith) in
    let resolution = Line.Resolution 0 (zero_steps 0 (suc n)) ∷ [] in
    let earlier = sum ∷ order_clauses 0 (suc n) in
    let last : AreGoodLines p (with_clauses earlier) resolution (with_clauses (clauses_made (suc n))) = (with_clauses (clauses_made (suc n)), (above n ∷ [], (some_steps n, (sum, refl, chain)), refl), refl) in
    (with_clauses (sum ∷ []), (sum, (long, big, same_set sum), refl), orders_good p 0 (suc n) (sum ∷ []) resolution (with_clauses (clauses_made (suc n))) (omega arith) last)

pub shows_least : (sorts : ℕ) → ShowsLeast (clauses_made sorts) sorts
shows_least zero = tt
shows_least (suc n) =
    let earlier = sum_clause 0 (replicate (suc n) 0) n ∷ order_clauses 0 (suc n) in
    (length earlier, above n ∷ [], get_last earlier (above n ∷ []), same_set (above n ∷ []))

-- the block can be printed
orders_printable : (s n : ℕ) (rest : List Line) → AllByRecursion IsPrintable rest → AllByRecursion IsPrintable (orders s n ++ rest)
unfolding orders
orders_printable s zero rest h = h
orders_printable s (suc n) rest h = (tt, orders_printable (s + 1) n rest h)

steps_printable : (s n : ℕ) → AllByRecursion IsOrderedStep (zero_steps s n)
unfolding zero_steps
steps_printable s zero = tt
steps_printable s (suc n) = (tt, steps_printable (s + 1) n)

pub lines_printable : (sorts : ℕ) → AllByRecursion IsPrintable (lines_of sorts)
lines_printable zero = tt
lines_printable (suc n) = (tt, orders_printable 0 (suc n) (Line.Resolution 0 (zero_steps 0 (suc n)) ∷ []) ((some_steps n, steps_printable 0 (suc n)), tt))
