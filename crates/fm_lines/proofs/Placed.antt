-- Lines that are put behind others, one after the other.
use Rattle.std.proofs.Common.{◌≡◌, ℕ, zero, suc, ◌+◌, ◌<◌, List, [], ◌∷◌, ◌++◌, drop, get_or, length, map, refl, sym, ap, ◌∙◌, slice_get, Some, append_assoc, arith}
use Rattle.std.specs.List.{range_with_len}
use Rattle.std.proofs.lemmas.List.{drop_more, map-append}
use Rattle.std.proofs.lemmas.Option.{slice_get-get_or}
use Rattle.fm_base.specs.declared.ids.SymId.{SymId}
use Rattle.fm_base.specs.declared.ids.TermId.{TermId}
use Rattle.fm_bank.specs.Terms.{Term, application, numbers}
use Rattle.fm_cert.specs.declared.block.Line.{Line}
use Rattle.fm_steps.specs.Lines.{lines_from, term_line}
use Rattle.fm_steps.specs.Runs.{term_id}

pub ids_numbers : (ts : List TermId) → map term_id (numbers ts) ≡ ts
ids_numbers [] = refl
ids_numbers (t ∷ ts) = ap (λ (us : List TermId). t ∷ us) (ids_numbers ts)

-- the line of an application
pub line_is : (f : SymId) (args : List TermId) → term_line (application f args) ≡ Line.Term f args
line_is f args = ap (λ (ts : List TermId). Line.Term f ts) (ids_numbers args)

-- one line of the rest comes behind
pub put_one : (old new front rest : List Line) (line : Line) → new ≡ old ++ line ∷ [] → old ++ line ∷ rest ≡ front → new ++ rest ≡ front
put_one old new front rest line e all = ap (λ (ls : List Line). ls ++ rest) e ∙ (append_assoc old (line ∷ []) rest ∙ all)

drop_at : (terms : List Term) (n : ℕ) (t : Term) → n < length terms → slice_get terms n ≡ Some t → drop n terms ≡ t ∷ drop (n + 1) terms
drop_at terms n t lt at =
    let there = slice_get-get_or terms n t lt in
    let same : get_or terms n t ≡ t = cc (there, at) in
    drop_more terms n t lt ∙ ap (λ (u : Term). u ∷ drop (n + 1) terms) same

pub terms_next : (old new front : List Line) (terms : List Term) (n : ℕ) (t : Term) → n < length terms → slice_get terms n ≡ Some t → new ≡ old ++ term_line t ∷ [] → old ++ lines_from n terms ≡ front → new ++ lines_from (n + 1) terms ≡ front
terms_next old new front terms n t lt at e all =
    put_one old new front (lines_from (n + 1) terms) (term_line t) e (ap (λ (us : List Term). old ++ map term_line us) (sym (drop_at terms n t lt at)) ∙ all)

-- a range with one more
range_next : (n : ℕ) → range_with_len 0 (n + 1) ≡ range_with_len 0 n ++ n ∷ []
range_next n =
    let same : suc n ≡ n + 1 = omega arith in
    let plain : 0 + n ≡ n = omega arith in
    ap (range_with_len 0) (sym same) ∙ (more 0 n ∙ ap (λ i. range_with_len 0 n ++ i ∷ []) plain)
  where
    more : (a n : ℕ) → range_with_len a (suc n) ≡ range_with_len a n ++ (a + n) ∷ []
    more a zero = let e : a ≡ a + 0 = omega arith in ap (λ i. i ∷ []) e
    more a (suc n) = let e : a + 1 + n ≡ a + suc n = omega arith in ap (λ l. a ∷ l) (more (a + 1) n ∙ ap (λ i. range_with_len (a + 1) n ++ i ∷ []) e)

pub range_put : {X : Type 0} (f : ℕ → X) (front old new : List X) (n : ℕ) → new ≡ old ++ f n ∷ [] → old ≡ front ++ map f (range_with_len 0 n) → new ≡ front ++ map f (range_with_len 0 (n + 1))
range_put {X} f front old new n e all =
    e ∙ (ap (λ (xs : List X). xs ++ f n ∷ []) all ∙ (append_assoc front (map f (range_with_len 0 n)) (f n ∷ []) ∙ ap (λ (xs : List X). front ++ xs) (sym (map-append f (range_with_len 0 n) (n ∷ [])) ∙ ap (map f) (sym (range_next n)))))
