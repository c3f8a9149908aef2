-- Every good clause line holds in every interpretation that satisfies the clauses of the table, each term having its value
-- there. So the claim of a good block holds.
use Rattle.std.proofs.Common.{◌≡◌, ◌≢◌, ℕ, zero, suc, ◌+◌, ◌<◌, ◌≤◌, ◌⊎◌, inl, inr, Bool, true, false, cond, not, ◌||◌, List, [], ◌∷◌, ◌++◌, length, map, Option, Some, None, refl, sym, subst, ap, ◌∙◌, append-nil, arith, add-one}
use Rattle.std.specs.Prelude.{◌==◌, nat_le, slice_get}
use Rattle.std.specs.List.{All, AllByRecursion, Contains, IsDistinct, list_all, list_any}
use Rattle.std.proofs.lemmas.Bool.{and_parts, or_cases, or_left, or_right, or_parts, cases_Bool, cases_eq, cond-false, eq-eqb, eqb-true, ne_eqb, le-leb, leb-true, leb-false, lt-leb, not_from_true, not_from_false, not-true, not-false, true_from_ne_false, both_ways, false≢true}
use Rattle.std.proofs.lemmas.List.{length-map}
use Rattle.std.proofs.lemmas.List.Elements.{All-append, All-cons, All-head, All-nil, All-tail, Contains-append_cases, Contains-append_left, Contains-append_right}
use Rattle.std.proofs.lemmas.Map.Keys.{IsDistinct-cons}
use Rattle.std.proofs.lemmas.Map.Steps.{length-le_from_distinct_below}
use Rattle.fm_base.specs.Interpretations.{Reading, IsInterpretation}
use Rattle.fm_base.specs.Models.{sum_below, sum_of_sizes, IsModel}
use Rattle.fm_base.specs.declared.signature.Sig.{Sig}
use Rattle.fm_bank.specs.declared.atom.Atom.{Atom}
use Rattle.fm_bank.proofs.InstanceTruth.{instances_true}
use Rattle.fm_base.specs.declared.ids.SortId.{SortId}
use Rattle.fm_base.specs.declared.ids.TermId.{TermId}
use Rattle.fm_base.specs.declared.signature.Ty.{Ty}
use Rattle.fm_bank.specs.Closure.{Follows, Shape, no, object, shape_at, shapes_of, yes}
use Rattle.fm_bank.specs.Instances.{equality, ground_literals, is_substitution}
use Rattle.fm_bank.specs.Interning.{IsFront, with_term}
use Rattle.fm_bank.specs.Meaning.{AreFactsTrue, ClosureIsSound, IsPart}
use Rattle.fm_bank.specs.Terms.{Term, application, are_terms, is_same, is_type, numbers, type_of, value_of}
use Rattle.fm_bank.proofs.Closures.{closure_sound, more_follows}
use Rattle.fm_bank.proofs.Growing.{front-trans}
use Rattle.fm_bank.proofs.Meanings.{value_typed}
use Rattle.fm_bank.proofs.Sorts.{get-front, good_front, good_with_term, type_kept}
use Rattle.fm_cert.proofs.Kept.{clause_kept, literals_below}
use Rattle.fm_bank.specs.Clauses.{ClauseHolds, Satisfies}
use Rattle.fm_bank.specs.declared.literal.Literal.{Literal}
use Rattle.fm_bank.specs.declared.clause.Clause.{Clause as FirstOrderClause}
use Rattle.fm_bank.specs.Ground.{atom_true, clause_true, lit_true}
use Rattle.fm_cert.specs.Lines.{Problem, Clause, Has, SameSet, Made, nothing, opposite, Resolves, Chain, above, within, at_most, more_than, sum_clause, total_above, is_on_terms, pairs_against, trues_against, falses_against, pairs_of, trues_of, falses_of, facts_against, Joins, JoinsSome, IsConflict, equals_with, some_equal, IsNewTerm, MakesClause, Makes, AreGoodLines, with_clause, with_new_term}
use Rattle.fm_cert.specs.Claims.{HasTable, ShowsLeast, IsGoodEnding, IsGoodBlock, ClaimHolds, GoodLinesHold}
use Rattle.fm_cert.specs.declared.block.Block.{Block}
use Rattle.fm_cert.specs.declared.block.Claim.{Claim}
use Rattle.fm_cert.specs.declared.block.Line.{Line}

abbrev pub is_true : Sig → Reading → (ℕ → ℕ) → Literal → Bool
is_true sig m v l = lit_true sig m v l.positive l.atom

pub true_member : (sig : Sig) (m : Reading) (v : ℕ → ℕ) (c : Clause) → clause_true sig m v c ≡ true → (k : Literal) × Has c k × (is_true sig m v k ≡ true)
true_member sig m v [] e = absurd (false≢true e)
true_member sig m v (k ∷ ks) e =
    elim (or_cases (is_true sig m v k) (clause_true sig m v ks) e) [
      | inl h ↦ (k, inl refl, h)
      | inr h ↦ let rest = true_member sig m v ks h in (rest.0, inr rest.1, rest.2)
    ]

pub member_true : (sig : Sig) (m : Reading) (v : ℕ → ℕ) (c : Clause) (k : Literal) → Has c k → is_true sig m v k ≡ true → clause_true sig m v c ≡ true
member_true sig m v [] k h t = absurd h
member_true sig m v (x ∷ xs) k h t =
    elim h [
      | inl same ↦ or_left (is_true sig m v x) (clause_true sig m v xs) (subst (λ (l : Literal). is_true sig m v l ≡ true) (sym same) t)
      | inr rest ↦ or_right (is_true sig m v x) (clause_true sig m v xs) (member_true sig m v xs k rest t)
    ]

pub opposite-is_true : (sig : Sig) (m : Reading) (v : ℕ → ℕ) (positive : Bool) (a : Atom) → lit_true sig m v positive a ≡ true → lit_true sig m v (not positive) a ≡ false
opposite-is_true sig m v true a t = not_from_true (atom_true sig m v a) t
opposite-is_true sig m v false a t = not-true (atom_true sig m v a) t

-- the truths of a true and a false literal differ, so the literals do
pub differ : (sig : Sig) (m : Reading) (v : ℕ → ℕ) (k l : Literal) → is_true sig m v k ≡ true → is_true sig m v l ≡ false → k ≢ l
differ sig m v k l t f same = both_ways (is_true sig m v l) f (subst (λ (x : Literal). is_true sig m v x ≡ true) same t)

pub resolvent_true : (sig : Sig) (m : Reading) (v : ℕ → ℕ) (a : Clause) (l : Literal) (b result : Clause) → Resolves a l b result → clause_true sig m v a ≡ true → clause_true sig m v b ≡ true → clause_true sig m v result ≡ true
resolvent_true sig m v a l b result r ta tb =
    elim (cases_Bool (is_true sig m v l)) [
      | inl pivot ↦
          let k = true_member sig m v b tb in
          let ne = differ sig m v k.0 (opposite l) k.2 (opposite-is_true sig m v l.positive l.atom pivot) in
          member_true sig m v result k.0 ((r.exactly k.0).1 (inr (k.1, ne))) k.2
      | inr pivot ↦
          let k = true_member sig m v a ta in
          let ne = differ sig m v k.0 l k.2 pivot in
          member_true sig m v result k.0 ((r.exactly k.0).1 (inl (k.1, ne))) k.2
    ]

abbrev pub AllTrue : Sig → Reading → (ℕ → ℕ) → List Clause → Type 0
AllTrue sig m v [] = Unit {0}
AllTrue sig m v (c ∷ cs) = (clause_true sig m v c ≡ true) × AllTrue sig m v cs

pub AllTrue-at : (sig : Sig) (m : Reading) (v : ℕ → ℕ) (cs : List Clause) (i : ℕ) (c : Clause) → AllTrue sig m v cs → slice_get cs i ≡ Some c → clause_true sig m v c ≡ true
AllTrue-at sig m v [] i c h e = cc
AllTrue-at sig m v (x ∷ xs) zero c h e = let same : x ≡ c = cc e in subst (λ (y : Clause). clause_true sig m v y ≡ true) same h.0
AllTrue-at sig m v (x ∷ xs) (suc i) c h e = AllTrue-at sig m v xs i c h.1 e

pub AllTrue-push : (sig : Sig) (m : Reading) (v : ℕ → ℕ) (cs : List Clause) (c : Clause) → AllTrue sig m v cs → clause_true sig m v c ≡ true → AllTrue sig m v (cs ++ c ∷ [])
AllTrue-push sig m v [] c h t = (t, tt)
AllTrue-push sig m v (x ∷ xs) c h t = (h.0, AllTrue-push sig m v xs c h.1 t)

-- a clause is true where it is one set with a true one
pub same_true : (sig : Sig) (m : Reading) (v : ℕ → ℕ) (c d : Clause) → SameSet c d → clause_true sig m v d ≡ true → clause_true sig m v c ≡ true
same_true sig m v c d same t =
    let k = true_member sig m v d t in
    member_true sig m v c k.0 ((same k.0).1 k.1) k.2

pub chain_true : (sig : Sig) (m : Reading) (v : ℕ → ℕ) (earlier : List Clause) (now : Clause) (steps : List (Literal × ℕ)) (result : Clause) → AllTrue sig m v earlier → clause_true sig m v now ≡ true → Chain earlier now steps result → clause_true sig m v result ≡ true
chain_true sig m v earlier now [] result h t same =
    let k = true_member sig m v now t in
    member_true sig m v result k.0 ((same k.0).0 k.1) k.2
chain_true sig m v earlier now (step ∷ steps) result h t (other, next, found, resolves, rest) =
    chain_true sig m v earlier next steps result h (resolvent_true sig m v now step.0 other next resolves t (AllTrue-at sig m v earlier step.1 other h found)) rest

pub sum_below-more : (s : ℕ) (f : ℕ → ℕ) → sum_below (s + 1) f ≡ sum_below s f + f s
unfolding sum_below
sum_below-more s f = rw add-one refl

pub sum_true : (sig : Sig) (m : Reading) (v : ℕ → ℕ) (s : ℕ) (ks : List ℕ) (n acc : ℕ) → acc ≤ sum_below s m.size → n < acc + total_above ks → s + length ks ≡ sig.sorts → clause_true sig m v (sum_clause s ks n) ≡ true
sum_true sig m v s [] n acc small lt all =
    let here : s ≡ sig.sorts = omega (arith, all) in
    let small' : acc ≤ sum_below sig.sorts m.size = subst (λ i. acc ≤ sum_below i m.size) here small in
    or_left (not (nat_le (sum_of_sizes sig m) n)) false (not_from_false (nat_le (sum_of_sizes sig m) n) (lt-leb (sum_of_sizes sig m) n (omega arith)))
sum_true sig m v s (k ∷ ks) n acc small lt all =
    elim (cases_Bool (nat_le (m.size s) k)) [
      | inl few ↦ or_left (nat_le (m.size s) k) (clause_true sig m v (sum_clause (s + 1) ks n)) few
      | inr many ↦
          let more : k < m.size s = leb-false (m.size s) k many in
          or_right (nat_le (m.size s) k) (clause_true sig m v (sum_clause (s + 1) ks n)) (sum_true sig m v (s + 1) ks n (acc + (k + 1)) (rw sum_below-more (omega arith)) (omega arith) (omega arith))
    ]

-- a clause of the table holds where all do
pub clause_holds : (m : Reading) (cs : List FirstOrderClause) (i : ℕ) (input : FirstOrderClause) → Satisfies m cs → slice_get cs i ≡ Some input → ClauseHolds m input
clause_holds m [] i input h e = cc
clause_holds m (x ∷ cs) zero input h e = let same : x ≡ input = cc e in subst (λ (c : FirstOrderClause). ClauseHolds m c) same h.0
clause_holds m (x ∷ cs) (suc i) input h e = clause_holds m cs i input h.1 e

no_element : {X : Type 0} (x : X) → Contains [] x → ⊥
no_element x h = omega (arith, h.1)

nothing_repeats : IsDistinct (λ (x y : ℕ). x == y) []
unfolding IsDistinct
nothing_repeats = tt

-- an interpretation of the table's symbols that satisfies its clauses, and terms over them; the terms are those of the
-- whole block
pub record Holds (p : Problem) (m : Reading) (terms : List Term) : Type 0 where
  pub interprets : IsInterpretation p.symbols m
  pub satisfies : Satisfies m p.clauses
  pub good : are_terms p.symbols terms ≡ true

-- The clause of an instance.
instance_true : (p : Problem) (m : Reading) (terms more : List Term) → Holds p m more → IsFront terms more → (i : ℕ) (input : FirstOrderClause) (env : List ℕ) (literals : List Literal) → slice_get p.clauses i ≡ Some input → is_substitution p.symbols terms input.vars env ≡ true → ground_literals terms env input.lits ≡ Some literals → clause_true p.symbols m (value_of m more) literals ≡ true
instance_true p m terms more is front i input env literals found substitution instance =
    let good = good_front p.symbols terms more front is.good in
    let holds = clause_holds m p.clauses i input is.satisfies found in
    let here = instances_true p.symbols m terms input env literals is.interprets good substitution instance holds in
    clause_kept p.symbols m terms more literals front (literals_below p.symbols terms env input.vars substitution input.lits literals instance) ∙ here.whole

-- The clause of an equality line: were all of its literals false, the closure's facts would be true.
module _ (sig : Sig) (m : Reading) (terms more : List Term) (front : IsFront terms more) where
  abbrev v : ℕ → ℕ
  v = value_of m more

  false_cons : (l : Literal) (c : Clause) → clause_true sig m v (l ∷ c) ≡ false → (is_true sig m v l ≡ false) × (clause_true sig m v c ≡ false)
  false_cons l c e = or_parts (is_true sig m v l) (clause_true sig m v c) e

  pairs_one : (positive : Bool) (a : Atom) → lit_true sig m v positive a ≡ false → All (λ (p : ℕ × ℕ). v p.0 ≡ v p.1) (pairs_against positive a)
  pairs_one false (Atom.Equal a b) e = All-cons (λ (p : ℕ × ℕ). v p.0 ≡ v p.1) (a.0, b.0) [] (eqb-true (v a.0) (v b.0) (not-false (v a.0 == v b.0) e)) (All-nil (λ (p : ℕ × ℕ). v p.0 ≡ v p.1))
  pairs_one false (Atom.Pred t) e = All-nil (λ (p : ℕ × ℕ). v p.0 ≡ v p.1)
  pairs_one false (Atom.Card s k) e = All-nil (λ (p : ℕ × ℕ). v p.0 ≡ v p.1)
  pairs_one false (Atom.Bound n) e = All-nil (λ (p : ℕ × ℕ). v p.0 ≡ v p.1)
  pairs_one true a e = All-nil (λ (p : ℕ × ℕ). v p.0 ≡ v p.1)

  pairs_true : (c : Clause) → clause_true sig m v c ≡ false → All (λ (p : ℕ × ℕ). v p.0 ≡ v p.1) (pairs_of c)
  pairs_true [] e = All-nil (λ (p : ℕ × ℕ). v p.0 ≡ v p.1)
  pairs_true (l ∷ c) e = let f = false_cons l c e in All-append (λ (p : ℕ × ℕ). v p.0 ≡ v p.1) (pairs_against l.positive l.atom) (pairs_of c) (pairs_one l.positive l.atom f.0) (pairs_true c f.1)

  trues_one : (positive : Bool) (a : Atom) → lit_true sig m v positive a ≡ false → All (λ (t : ℕ). (v t == 1) ≡ true) (trues_against positive a)
  trues_one false (Atom.Pred t) e = All-cons (λ (t : ℕ). (v t == 1) ≡ true) t.0 [] (not-false (v t.0 == 1) e) (All-nil (λ (t : ℕ). (v t == 1) ≡ true))
  trues_one false (Atom.Equal a b) e = All-nil (λ (t : ℕ). (v t == 1) ≡ true)
  trues_one false (Atom.Card s k) e = All-nil (λ (t : ℕ). (v t == 1) ≡ true)
  trues_one false (Atom.Bound n) e = All-nil (λ (t : ℕ). (v t == 1) ≡ true)
  trues_one true a e = All-nil (λ (t : ℕ). (v t == 1) ≡ true)

  trues_true : (c : Clause) → clause_true sig m v c ≡ false → All (λ (t : ℕ). (v t == 1) ≡ true) (trues_of c)
  trues_true [] e = All-nil (λ (t : ℕ). (v t == 1) ≡ true)
  trues_true (l ∷ c) e = let f = false_cons l c e in All-append (λ (t : ℕ). (v t == 1) ≡ true) (trues_against l.positive l.atom) (trues_of c) (trues_one l.positive l.atom f.0) (trues_true c f.1)

  abbrev IsFalse : ℕ → Type 0
  IsFalse t = (is_type (type_of sig more t) Ty.Bool ≡ true) × ((v t == 1) ≡ false)

  falses_one : (positive : Bool) (a : Atom) → is_on_terms sig terms a ≡ true → lit_true sig m v positive a ≡ false → All IsFalse (falses_against positive a)
  falses_one true (Atom.Pred t) on e = All-cons IsFalse t.0 [] (type_kept sig terms more t.0 Ty.Bool front on, e) (All-nil IsFalse)
  falses_one true (Atom.Equal a b) on e = All-nil IsFalse
  falses_one true (Atom.Card s k) on e = All-nil IsFalse
  falses_one true (Atom.Bound n) on e = All-nil IsFalse
  falses_one false a on e = All-nil IsFalse

  falses_true : (c : Clause) → list_all (λ (l : Literal). is_on_terms sig terms l.atom) c ≡ true → clause_true sig m v c ≡ false → All IsFalse (falses_of c)
  falses_true [] on e = All-nil IsFalse
  falses_true (l ∷ c) on e =
      let f = false_cons l c e in
      let p = and_parts (is_on_terms sig terms l.atom) (list_all (λ (k : Literal). is_on_terms sig terms k.atom) c) on in
      All-append IsFalse (falses_against l.positive l.atom) (falses_of c) (falses_one l.positive l.atom p.0 f.0) (falses_true c p.1 f.1)

  -- the shapes of terms stay where terms are added
  shape_kept : (n : ℕ) (o : Option Term) (s : Shape) → slice_get terms n ≡ o → Contains (shape_at n o) s → Contains (shape_at n (slice_get more n)) s
  shape_kept n None s e h = absurd (no_element s h)
  shape_kept n (Some t) s e h = subst (λ (o : Option Term). Contains (shape_at n o) s) (sym (get-front terms more n t front e)) h

  shapes_kept : (over : List ℕ) → IsPart (shapes_of terms over) (shapes_of more over)
  shapes_kept [] s h = h
  shapes_kept (n ∷ over) s h =
      elim (Contains-append_cases (shape_at n (slice_get terms n)) (shapes_of terms over) s h) [
        | inl here ↦ Contains-append_left (shape_at n (slice_get more n)) (shapes_of more over) s (shape_kept n (slice_get terms n) s refl here)
        | inr rest ↦ Contains-append_right (shape_at n (slice_get more n)) (shapes_of more over) s (shapes_kept over s rest)
      ]

  follows_kept : (over : List ℕ) (facts : List (ℕ × ℕ)) (x y : ℕ) → Follows (shapes_of terms over) facts x y → Follows (shapes_of more over) facts x y
  follows_kept over facts x y f = more_follows (shapes_of terms over) facts (shapes_of more over) facts (shapes_kept over) (λ p h. h) x y f

  joins_false : (over : List ℕ) (facts : List (ℕ × ℕ)) → ClosureIsSound m more (shapes_of more over) facts → (positive : Bool) (a : Atom) → lit_true sig m v positive a ≡ false → Joins (shapes_of terms over) facts positive a → ⊥
  joins_false over facts sound true (Atom.Equal a b) e j = both_ways (v a.0 == v b.0) e (eq-eqb (v a.0) (v b.0) (sound.equal a.0 b.0 (follows_kept over facts (object a.0) (object b.0) j)))
  joins_false over facts sound true (Atom.Pred t) e j = j
  joins_false over facts sound true (Atom.Card s k) e j = j
  joins_false over facts sound true (Atom.Bound n) e j = j
  joins_false over facts sound false a e j = j

  some_false : (over : List ℕ) (facts : List (ℕ × ℕ)) → ClosureIsSound m more (shapes_of more over) facts → (c : Clause) → clause_true sig m v c ≡ false → JoinsSome (shapes_of terms over) facts c → ⊥
  some_false over facts sound [] e j = j
  some_false over facts sound (l ∷ c) e j =
      let f = false_cons l c e in
      elim j [
        | inl here ↦ joins_false over facts sound l.positive l.atom f.0 here
        | inr rest ↦ some_false over facts sound c f.1 rest
      ]

  pub conflict_true : IsInterpretation sig m → are_terms sig more ≡ true → (lits : Clause) (support : List ℕ) → IsConflict sig terms lits support → clause_true sig m v lits ≡ true
  conflict_true int good lits support conflict = true_from_ne_false (clause_true sig m v lits) (λ e.
      let facts : AreFactsTrue sig m more (pairs_of lits) (trues_of lits) (falses_of lits) = record { equal = pairs_true lits e; holding = trues_true lits e; failing = falses_true lits conflict.on_terms e } in
      let sound = closure_sound sig m more conflict.over (pairs_of lits) (trues_of lits) (falses_of lits) int good facts in
      elim conflict.closes [
        | inl clash ↦ sound.consistent (follows_kept conflict.over (facts_against lits) yes no clash)
        | inr joins ↦ some_false conflict.over (facts_against lits) sound lits e joins
      ])

-- The clause of a cardinality line: k + 1 values can't all differ where a sort has at most k elements.
module _ (sig : Sig) (m : Reading) (v : ℕ → ℕ) where
  equality_true : (a b : ℕ) → atom_true sig m v (equality a b) ≡ (v a == v b)
  equality_true a b =
      elim (cases_Bool (nat_le a b)) [
        | inl t ↦ ap (λ (c : Bool). atom_true sig m v (cond c (Atom.Equal (record { 0 = a }) (record { 0 = b })) (Atom.Equal (record { 0 = b }) (record { 0 = a })))) t
        | inr t ↦ ap (λ (c : Bool). atom_true sig m v (cond c (Atom.Equal (record { 0 = a }) (record { 0 = b })) (Atom.Equal (record { 0 = b }) (record { 0 = a })))) t ∙ flipped (v b) (v a)
      ]
    where
      flipped : (x y : ℕ) → (x == y) ≡ (y == x)
      flipped x y =
          elim (cases_eq x y) [
            | inl e ↦ eq-eqb x y e ∙ sym (eq-eqb y x (sym e))
            | inr n ↦ ne_eqb x y n ∙ sym (ne_eqb y x (λ e. n (sym e)))
          ]

  differ_with : (a : ℕ) (bs : List ℕ) → clause_true sig m v (equals_with a bs) ≡ false → AllByRecursion (λ y. (v a == y) ≡ false) (map v bs)
  differ_with a [] e = tt
  differ_with a (b ∷ bs) e =
      let p = or_parts (atom_true sig m v (equality a b)) (clause_true sig m v (equals_with a bs)) e in
      (sym (equality_true a b) ∙ p.0, differ_with a bs p.1)

  true_append : (c d : Clause) → clause_true sig m v (c ++ d) ≡ (clause_true sig m v c || clause_true sig m v d)
  true_append [] d = refl
  true_append (l ∷ c) d = ap (λ (b : Bool). is_true sig m v l || b) (true_append c d) ∙ sym (or_assoc (is_true sig m v l) (clause_true sig m v c) (clause_true sig m v d))
    where
      or_assoc : (x y z : Bool) → ((x || y) || z) ≡ (x || (y || z))
      or_assoc true y z = refl
      or_assoc false y z = refl

  all_differ : (as' : List ℕ) → clause_true sig m v (some_equal as') ≡ false → IsDistinct (λ x y. x == y) (map v as')
  all_differ [] e = nothing_repeats
  all_differ (a ∷ as') e =
      let p = or_parts (clause_true sig m v (equals_with a as')) (clause_true sig m v (some_equal as')) (sym (true_append (equals_with a as') (some_equal as')) ∙ e) in
      IsDistinct-cons (λ x y. x == y) (v a) (map v as') (differ_with a as' p.0) (all_differ as' p.1)

  below_all : (bound : ℕ) (as' : List ℕ) → All (λ a. v a < bound) as' → (q : ℕ) → list_any (λ x. q == x) (map v as') ≡ true → q < bound
  below_all bound [] h q e = absurd (false≢true e)
  below_all bound (a ∷ as') h q e =
      elim (or_cases (q == v a) (list_any (λ x. q == x) (map v as')) e) [
        | inl here ↦ subst (λ (x : ℕ). x < bound) (sym (eqb-true q (v a) here)) (All-head (λ a. v a < bound) a as' h)
        | inr rest ↦ below_all bound as' (All-tail (λ a. v a < bound) a as' h) q rest
      ]

  pub cardinality_true : (s k : ℕ) (as' : List ℕ) → length as' ≡ k + 1 → All (λ a. v a < m.size s) as' → clause_true sig m v (more_than s k ∷ some_equal as') ≡ true
  cardinality_true s k as' long typed =
      elim (cases_Bool (nat_le (m.size s) k)) [
        | inr many ↦ or_left (not (nat_le (m.size s) k)) (clause_true sig m v (some_equal as')) (not_from_false (nat_le (m.size s) k) many)
        | inl few ↦
            or_right (not (nat_le (m.size s) k)) (clause_true sig m v (some_equal as')) (true_from_ne_false (clause_true sig m v (some_equal as')) (λ e.
            let short = length-le_from_distinct_below (map v as') (m.size s) (all_differ as' e) (below_all (m.size s) as' typed) in
            let size = leb-true (m.size s) k few in
            let same = length-map as' v in
            absurd (omega (arith, short, size, same, long))))
      ]

values_below : (p : Problem) (m : Reading) (terms more : List Term) → Holds p m more → IsFront terms more → (s : SortId) (as' : List ℕ) → list_all (λ n. is_type (type_of p.symbols terms n) (Ty.Of s)) as' ≡ true → All (λ a. value_of m more a < m.size s.0) as'
values_below p m terms more is front s [] e = All-nil (λ a. value_of m more a < m.size s.0)
values_below p m terms more is front s (a ∷ as') e =
    let q = and_parts (is_type (type_of p.symbols terms a) (Ty.Of s)) (list_all (λ n. is_type (type_of p.symbols terms n) (Ty.Of s)) as') e in
    All-cons (λ a. value_of m more a < m.size s.0) a as' (value_typed p.symbols m more a (Ty.Of s) is.interprets is.good (type_kept p.symbols terms more a (Ty.Of s) front q.0)) (values_below p m terms more is front s as' q.1)

-- an order line: what is at most k is at most k + 1
order_true : (sig : Sig) (m : Reading) (v : ℕ → ℕ) (n k : ℕ) → (not (nat_le n k) || (nat_le n (k + 1) || false)) ≡ true
order_true sig m v n k =
    elim (cases_Bool (nat_le n k)) [
      | inr more ↦ or_left (not (nat_le n k)) (nat_le n (k + 1) || false) (not_from_false (nat_le n k) more)
      | inl few ↦ or_right (not (nat_le n k)) (nat_le n (k + 1) || false) (or_left (nat_le n (k + 1)) false (le-leb n (k + 1) (let h = leb-true n k few in omega (arith, h))))
    ]

pub line_true : (p : Problem) (m : Reading) (more : List Term) → Holds p m more → (made : Made) → IsFront made.terms more → (line : Line) (c : Clause) → AllTrue p.symbols m (value_of m more) made.clauses → MakesClause p made line c → clause_true p.symbols m (value_of m more) c ≡ true
line_true p m more is made front (Line.Term f args) c h makes = absurd makes
line_true p m more is made front (Line.Instance i subst') c h (input, literals, found, (substitution, instance), same) = same_true p.symbols m (value_of m more) c literals same (instance_true p m made.terms more is front i input (numbers subst') literals found substitution instance)
line_true p m more is made front (Line.Equality lits support) c h (conflict, same) = same_true p.symbols m (value_of m more) c lits same (conflict_true p.symbols m made.terms more front is.interprets is.good lits (numbers support) conflict)
line_true p m more is made front (Line.Cardinality s k ts) c h (long, typed, same) = same_true p.symbols m (value_of m more) c (more_than s.0 k ∷ some_equal (numbers ts)) same (cardinality_true p.symbols m (value_of m more) s.0 k (numbers ts) (length-map ts (λ (t : TermId). t.0) ∙ long) (values_below p m made.terms more is front s (numbers ts) typed))
line_true p m more is made front (Line.OrderCard s k) c h (there, fits, same) = same_true p.symbols m (value_of m more) c (more_than s.0 k ∷ at_most s.0 (k + 1) ∷ []) same (order_true p.symbols m (value_of m more) (m.size s.0) k)
line_true p m more is made front (Line.OrderBound n) c h (fits, same) = same_true p.symbols m (value_of m more) c (above n ∷ within (n + 1) ∷ []) same (order_true p.symbols m (value_of m more) (sum_of_sizes p.symbols m) n)
line_true p m more is made front (Line.Sum n ks) c h (long, big, same) = same_true p.symbols m (value_of m more) c (sum_clause 0 ks n) same (sum_true p.symbols m (value_of m more) 0 ks n 0 (omega arith) (omega arith) (omega arith))
line_true p m more is made front (Line.OrderZero s) c h (there, same) =
    let some : 1 ≤ m.size s.0 = is.interprets.inhabited s.0 there in
    same_true p.symbols m (value_of m more) c (more_than s.0 0 ∷ []) same (or_left (not (nat_le (m.size s.0) 0)) false (not_from_false (nat_le (m.size s.0) 0) (lt-leb (m.size s.0) 0 (omega arith))))
line_true p m more is made front (Line.Resolution first steps) c h (some, (start, found, chain)) = chain_true p.symbols m (value_of m more) made.clauses start steps c h (AllTrue-at p.symbols m (value_of m more) made.clauses first start h found) chain

-- What a line leaves: one more term, or one more clause.
abbrev pub Left : Problem → Made → Line → Made → Type 0
Left p made line after = ((t : Term) × IsNewTerm p.symbols made.terms t × (after ≡ with_new_term made t)) ⊎ ((c : Clause) × MakesClause p made line c × (after ≡ with_clause made c))

pub left : (p : Problem) (made : Made) (line : Line) (after : Made) → Makes p made line after → Left p made line after
left p made (Line.Term f args) after (new, is) = inl (application f args, new, is)
left p made (Line.Instance i s) after (c, h, is) = inr (c, h, is)
left p made (Line.Equality lits support) after (c, h, is) = inr (c, h, is)
left p made (Line.Cardinality s k ts) after (c, h, is) = inr (c, h, is)
left p made (Line.OrderCard s k) after (c, h, is) = inr (c, h, is)
left p made (Line.OrderBound n) after (c, h, is) = inr (c, h, is)
left p made (Line.Sum n ks) after (c, h, is) = inr (c, h, is)
left p made (Line.OrderZero s) after (c, h, is) = inr (c, h, is)
left p made (Line.Resolution first steps) after (c, h, is) = inr (c, h, is)

made_front : (p : Problem) (made : Made) (line : Line) (after : Made) → Left p made line after → IsFront made.terms after.terms
made_front p made line after l =
    elim l [
      | inl t ↦ (t.0 ∷ [], sym (ap (λ (x : Made). x.terms) t.2))
      | inr c ↦ ([], append-nil made.terms ∙ sym (ap (λ (x : Made). x.terms) c.2))
    ]

pub lines_front : (p : Problem) (made : Made) (lines : List Line) (end' : Made) → AreGoodLines p made lines end' → IsFront made.terms end'.terms
lines_front p made [] end' same = ([], append-nil made.terms ∙ sym (ap (λ (x : Made). x.terms) same))
lines_front p made (line ∷ lines) end' (after, makes, rest) = front-trans made.terms after.terms end'.terms (made_front p made line after (left p made line after makes)) (lines_front p after lines end' rest)

made_terms : (p : Problem) (made : Made) (line : Line) (after : Made) → are_terms p.symbols made.terms ≡ true → Left p made line after → are_terms p.symbols after.terms ≡ true
made_terms p made line after good l =
    elim l [
      | inl t ↦
          let new : with_term made.terms t.0 ≡ made.terms ++ t.0 ∷ [] = cond-false (list_any (is_same t.0) made.terms) made.terms (made.terms ++ t.0 ∷ []) t.1.1 in
          subst (λ (ts : List Term). are_terms p.symbols ts ≡ true) (new ∙ sym (ap (λ (x : Made). x.terms) t.2)) (good_with_term p.symbols made.terms t.0 good t.1.0)
      | inr c ↦ subst (λ (ts : List Term). are_terms p.symbols ts ≡ true) (sym (ap (λ (x : Made). x.terms) c.2)) good
    ]

pub lines_terms : (p : Problem) (made : Made) (lines : List Line) (end' : Made) → are_terms p.symbols made.terms ≡ true → AreGoodLines p made lines end' → are_terms p.symbols end'.terms ≡ true
lines_terms p made [] end' good same = subst (λ (x : Made). are_terms p.symbols x.terms ≡ true) (sym same) good
lines_terms p made (line ∷ lines) end' good (after, makes, rest) = lines_terms p after lines end' (made_terms p made line after good (left p made line after makes)) rest

left_true : (p : Problem) (m : Reading) (more : List Term) → Holds p m more → (made : Made) → IsFront made.terms more → (line : Line) (after : Made) → AllTrue p.symbols m (value_of m more) made.clauses → Left p made line after → AllTrue p.symbols m (value_of m more) after.clauses
left_true p m more is made front line after h l =
    elim l [
      | inl t ↦ subst (λ (x : Made). AllTrue p.symbols m (value_of m more) x.clauses) (sym t.2) h
      | inr c ↦ subst (λ (x : Made). AllTrue p.symbols m (value_of m more) x.clauses) (sym c.2) (AllTrue-push p.symbols m (value_of m more) made.clauses c.0 h (line_true p m more is made front line c.0 h c.1))
    ]

pub lines_true : (p : Problem) (m : Reading) (end' : Made) → Holds p m end'.terms → (made : Made) (lines : List Line) → AllTrue p.symbols m (value_of m end'.terms) made.clauses → AreGoodLines p made lines end' → AllTrue p.symbols m (value_of m end'.terms) end'.clauses
lines_true p m end' is made [] h same = subst (λ (x : Made). AllTrue p.symbols m (value_of m end'.terms) x.clauses) (sym same) h
lines_true p m end' is made (line ∷ lines) h (after, makes, rest) =
    let l = left p made line after makes in
    let front = front-trans made.terms after.terms end'.terms (made_front p made line after l) (lines_front p after lines end' rest) in
    lines_true p m end' is after lines (left_true p m end'.terms is made front line after h l) rest

pub good_lines : GoodLinesHold
good_lines p m lines made i clause is sat good at =
    AllTrue-at p.symbols m (value_of m made.terms) made.clauses i clause (lines_true p m made (record { interprets = is; satisfies = sat; good = lines_terms p nothing lines made refl good }) nothing lines tt good) at

pub least : (p : Problem) (m : Reading) → IsInterpretation p.symbols m → Satisfies m p.clauses → (lines : List Line) (made : Made) (n : ℕ) → AreGoodLines p nothing lines made → ShowsLeast made.clauses n → n ≤ sum_of_sizes p.symbols m
least p m is sat lines made zero good shows = omega arith
least p m is sat lines made (suc n) good shows =
    let made_true = good_lines p m lines made shows.0 shows.1 is sat good shows.2 in
    let flipped : SameSet (above n ∷ []) shows.1 = λ l. ((shows.3 l).1, (shows.3 l).0) in
    let holds = same_true p.symbols m (value_of m made.terms) (above n ∷ []) shows.1 flipped made_true in
    elim (or_cases (not (nat_le (sum_of_sizes p.symbols m) n)) false holds) [
      | inl t ↦ let big : n < sum_of_sizes p.symbols m = leb-false (sum_of_sizes p.symbols m) n (not-true (nat_le (sum_of_sizes p.symbols m) n) t) in omega arith
      | inr f ↦ absurd (false≢true f)
    ]

-- an expansion has the sizes of the model
pub least_model : (p : Problem) → HasTable p → (m : Reading) → IsModel p.sig p.assertions m → (lines : List Line) (made : Made) (n : ℕ) → AreGoodLines p nothing lines made → ShowsLeast made.clauses n → n ≤ sum_of_sizes p.sig m
least_model p table m is lines made n good shows =
    let expansion = table.expands m is in
    subst (λ (k : ℕ). n ≤ sum_below k m.size) table.sorts (least p (record { size = m.size; at = expansion.0 }) expansion.1 expansion.2 lines made n good shows)

pub ending_holds : (p : Problem) → HasTable p → (lines : List Line) (made : Made) (claim : Claim) → AreGoodLines p nothing lines made → IsGoodEnding p made.clauses claim → ClaimHolds p claim
ending_holds p table lines made Claim.Unsat good (i, e) = λ m is.
    let expansion = table.expands m is in
    false≢true (good_lines p (record { size = m.size; at = expansion.0 }) lines made i [] expansion.1 expansion.2 good e)
ending_holds p table lines made (Claim.Sat sum model) good (shows, fit, is, total) = (is, total, λ m other. least_model p table m other lines made sum good shows)
ending_holds p table lines made (Claim.Unknown instances decisions) good ending = tt

pub blocks-sound : (p : Problem) (block : Block) → HasTable p → IsGoodBlock p block → ClaimHolds p block.claim
blocks-sound p block table good = ending_holds p table block.lines good.made block.claim good.lines good.ending
