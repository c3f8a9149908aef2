-- Clauses as parts of the one list of literals.
use Rattle.std.proofs.Common.{◌≡◌, ℕ, zero, suc, ◌-◌, ◌≤◌, List, [], ◌∷◌, ◌++◌, length, take, drop, Some, refl, subst, ap, ◌∙◌, arith}
use Rattle.std.specs.Prelude.{slice_get}
use Rattle.std.specs.Option.{option_map}
use Rattle.std.proofs.lemmas.List.{length-drop, length-append, take-append-le, drop-append-le, take_all, drop_at, map_push}
use Rattle.std.proofs.lemmas.Option.{slice_get-map}
use Rattle.fm_base.specs.declared.ids.Lit.{Lit}
use Rattle.fm_sat.specs.declared.store.Span.{Span}
use Rattle.fm_sat.specs.Store.{AreSpans, IsSpan, clauses_of, cut}

pub span_at : (lits : List Lit) (ss : List Span) (i : ℕ) (s : Span) → AreSpans lits ss → slice_get ss i ≡ Some s → IsSpan lits s
span_at lits [] i s h at = absurd cc
span_at lits (t ∷ ss) zero s h at = let same : t ≡ s = cc in subst (IsSpan lits) same h.0
span_at lits (t ∷ ss) (suc i) s h at = span_at lits ss i s h.1 at

pub clause_at : (lits : List Lit) (ss : List Span) (i : ℕ) (s : Span) → slice_get ss i ≡ Some s → slice_get (clauses_of lits ss) i ≡ Some (cut lits s)
clause_at lits ss i s at = slice_get-map (cut lits) ss i ∙ ap (option_map (cut lits)) at

cut_more : (lits more : List Lit) (s : Span) → IsSpan lits s → cut (lits ++ more) s ≡ cut lits s
cut_more lits more s h =
    let a : s.start ≤ length lits = omega (arith, h.0, h.1) in
    let n : s.end - s.start ≤ length (drop s.start lits) = omega (arith, length-drop s.start lits, h.0, h.1) in
    ap (take (s.end - s.start)) (drop-append-le s.start lits more a) ∙ take-append-le (s.end - s.start) (drop s.start lits) more n

pub clauses_more : (lits more : List Lit) (ss : List Span) → AreSpans lits ss → clauses_of (lits ++ more) ss ≡ clauses_of lits ss
clauses_more lits more [] h = refl
clauses_more lits more (s ∷ ss) h = λ i. cut_more lits more s h.0 i ∷ clauses_more lits more ss h.1 i

spans_more : (lits more : List Lit) (ss : List Span) → AreSpans lits ss → AreSpans (lits ++ more) ss
spans_more lits more [] h = tt
spans_more lits more (s ∷ ss) h = ((h.0.0, omega (arith, h.0.1, length-append lits more)), spans_more lits more ss h.1)

spans_end : (lits : List Lit) (ss : List Span) (s : Span) → AreSpans lits ss → IsSpan lits s → AreSpans lits (ss ++ s ∷ [])
spans_end lits [] s h one = (one, tt)
spans_end lits (t ∷ ss) s h one = (h.0, spans_end lits ss s h.1 one)

-- the span of what is added
abbrev pub new_span : List Lit → List Lit → Span
new_span lits more = record { start = length lits; end = length (lits ++ more) }

pub spans_push : (lits more : List Lit) (ss : List Span) → AreSpans lits ss → AreSpans (lits ++ more) (ss ++ new_span lits more ∷ [])
spans_push lits more ss h = spans_end (lits ++ more) ss (new_span lits more) (spans_more lits more ss h) (omega (arith, length-append lits more), omega arith)

cut_new : (lits more : List Lit) → cut (lits ++ more) (new_span lits more) ≡ more
cut_new lits more =
    let n : length more ≤ length (lits ++ more) - length lits = omega (arith, length-append lits more) in
    ap (take (length (lits ++ more) - length lits)) (drop_at lits more (length lits) refl) ∙ take_all (length (lits ++ more) - length lits) more n

pub clauses_push : (lits more : List Lit) (ss : List Span) → AreSpans lits ss → clauses_of (lits ++ more) (ss ++ new_span lits more ∷ []) ≡ clauses_of lits ss ++ more ∷ []
clauses_push lits more ss h = map_push (cut (lits ++ more)) ss (new_span lits more) ∙ λ i. clauses_more lits more ss h i ++ cut_new lits more i ∷ []
