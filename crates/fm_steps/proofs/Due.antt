-- A lemma that is due is the clause of its line.
use Rattle.std.proofs.Common.{◌≡◌, ℕ, zero, suc, ◌+◌, ◌-◌, ◌^◌, ◌<◌, ◌⊎◌, Bool, true, false, not, ◌&&◌, nat_lt, List, [], ◌∷◌, ◌++◌, length, map, Some, None, inl, inr, refl, sym, ap, subst, ◌∙◌, arith}
use Rattle.std.specs.Prelude.{Option}
use Rattle.std.specs.List.{All, list_all, list_any, range_with_len}
use Rattle.std.proofs.lemmas.Bool.{and_from, and_parts, eq-eqb, false≢true, lt-ltb, ltb-true, or_cases, true≢false}
use Rattle.std.proofs.lemmas.List.{length-map}
use Rattle.std.proofs.lemmas.List.Elements.{All-append, All-contains, Contains-append_right}
use Rattle.fm_base.specs.Resolution.{Has, SameSet}
use Rattle.fm_base.specs.declared.ids.Reader.{Reader}
use Rattle.fm_base.specs.declared.ids.SortId.{SortId}
use Rattle.fm_base.specs.declared.signature.Sig.{Sig}
use Rattle.fm_base.specs.declared.signature.Ty.{Ty}
use Rattle.fm_bank.specs.Closure.{Follows, Shape, facts_of, no, object, yes}
use Rattle.fm_bank.specs.Instances.{equality}
use Rattle.fm_bank.specs.Interning.{Held, are_atoms_after, are_of_one_sort, is_atom, is_same_atom}
use Rattle.fm_bank.specs.Subterms.{AreSubterms, IsSubtermSet}
use Rattle.fm_bank.specs.Terms.{Term, are_terms, is_type, numbers, type_of}
use Rattle.fm_bank.specs.declared.atom.Atom.{Atom}
use Rattle.fm_bank.specs.declared.literal.Literal.{Literal}
use Rattle.fm_bank.proofs.Meanings.{typed_within}
use Rattle.fm_cert.specs.Lines.{IsConflict, Joins, JoinsSome, MakesClause, facts_against, falses_against, falses_of, is_on_terms, more_than, pairs_against, pairs_of, some_equal, sum_clause, terms_of_atom, terms_of_clause, trues_against, trues_of}
use Rattle.fm_cert.specs.Lines.{total_above as total_of}
use Rattle.fm_rounds.proofs.Elements.{parts_of}
use Rattle.fm_rounds.proofs.Members.{in_range, range_in}
use Rattle.fm_steps.specs.Content.{ShowsEquality, all_shapes, equal_pair, facts_in, is_size, opposites, pairs_in, predicate_term, terms_in}
use Rattle.fm_steps.specs.Lemmas.{Due, IsDue, are_known, bounds_from, is_known, sum_literals, total_above, with_bound}
use Rattle.fm_steps.specs.Lines.{Certified, IsWellHeld, LemmasAreLines, all_terms, are_written, due_line, is_written, made_of, searched}
use Rattle.fm_steps.specs.Picks.{Known, pair_literals}
use Rattle.fm_steps.specs.Runs.{term_id}
use Rattle.fm_steps.specs.Sizes.{card, greatest_false, lit}
use Rattle.fm_steps.specs.State.{State, read_by}
use Rattle.fm_steps.proofs.Closing.{tests_exist}
use Rattle.fm_steps.proofs.Guarded.{read_ground, value_ground}
use Rattle.fm_steps.proofs.Lists.{Has-contains, Has-get, all_from, all_has}
use Rattle.fm_steps.proofs.Numbers.{get_place, known_any, known_one}

pub numbers_ids : (ns : List ℕ) → numbers (map term_id ns) ≡ ns
numbers_ids [] = refl
numbers_ids (n ∷ ns) = ap (λ ms. n ∷ ms) (numbers_ids ns)

pub same_if : {X : Type 0} (xs ys : List X) → xs ≡ ys → SameSet xs ys
same_if xs ys e = subst (SameSet xs) e (λ x. (λ h. h, λ h. h))

-- each atom that is known is one over the terms
pub atom_step : (sig : Sig) (terms : List Term) (before atoms : List Atom) (a : Atom) → are_atoms_after sig terms before atoms ≡ true → Has atoms a → is_atom sig terms a ≡ true
atom_step sig terms before [] a e h = absurd h
atom_step sig terms before (b ∷ bs) a e (inl s) = subst (λ (x : Atom). is_atom sig terms x ≡ true) s (and_parts (is_atom sig terms b) (not (list_any (is_same_atom b) before) && are_atoms_after sig terms (before ++ b ∷ []) bs) e).0
atom_step sig terms before (b ∷ bs) a e (inr h) =
    let rest = (and_parts (is_atom sig terms b) (not (list_any (is_same_atom b) before) && are_atoms_after sig terms (before ++ b ∷ []) bs) e).1 in
    atom_step sig terms (before ++ b ∷ []) bs a (and_parts (not (list_any (is_same_atom b) before)) (are_atoms_after sig terms (before ++ b ∷ []) bs) rest).1 h

pub known_has : (s : State) (a : Atom) → is_known s a ≡ true → Has s.held.atoms a
known_has s a h = Has-get s.held.atoms _ a (get_place s.held.atoms a (known_any s.held.atoms a h))

pub all_in : {X : Type 0} (p : X → Bool) (xs : List X) (x : X) → list_all p xs ≡ true → Has xs x → p x ≡ true
all_in p [] x e h = absurd h
all_in p (y ∷ ys) x e (inl s) = subst (λ z. p z ≡ true) s (and_parts (p y) (list_all p ys) e).0
all_in p (y ∷ ys) x e (inr h) = all_in p ys x (and_parts (p y) (list_all p ys) e).1 h

pub in_all : {X : Type 0} (p : X → Bool) (xs : List X) → ((x : X) → Has xs x → p x ≡ true) → list_all p xs ≡ true
in_all p [] h = refl
in_all p (y ∷ ys) h = and_from (p y) (list_all p ys) (h y (inl refl)) (in_all p ys (λ x q. h x (inr q)))

-- A literal that is false makes of its atom what the closure begins with, on either side.
pairs_same : (positive : Bool) (a : Atom) → equal_pair true (not positive) a ≡ pairs_against positive a
pairs_same true (Atom.Equal a b) = refl
pairs_same true (Atom.Pred t) = refl
pairs_same true (Atom.Card s k) = refl
pairs_same true (Atom.Bound n) = refl
pairs_same false (Atom.Equal a b) = refl
pairs_same false (Atom.Pred t) = refl
pairs_same false (Atom.Card s k) = refl
pairs_same false (Atom.Bound n) = refl

trues_same : (positive : Bool) (a : Atom) → predicate_term true (not positive) a ≡ trues_against positive a
trues_same true (Atom.Equal a b) = refl
trues_same true (Atom.Pred t) = refl
trues_same true (Atom.Card s k) = refl
trues_same true (Atom.Bound n) = refl
trues_same false (Atom.Equal a b) = refl
trues_same false (Atom.Pred t) = refl
trues_same false (Atom.Card s k) = refl
trues_same false (Atom.Bound n) = refl

falses_same : (positive : Bool) (a : Atom) → predicate_term false (not positive) a ≡ falses_against positive a
falses_same true (Atom.Equal a b) = refl
falses_same true (Atom.Pred t) = refl
falses_same true (Atom.Card s k) = refl
falses_same true (Atom.Bound n) = refl
falses_same false (Atom.Equal a b) = refl
falses_same false (Atom.Pred t) = refl
falses_same false (Atom.Card s k) = refl
falses_same false (Atom.Bound n) = refl

all_pairs : (ls : List Literal) → pairs_in true (opposites ls) ≡ pairs_of ls
all_pairs [] = refl
all_pairs (l ∷ ls) = λ i. pairs_same l.positive l.atom i ++ all_pairs ls i

all_trues : (ls : List Literal) → terms_in true (opposites ls) ≡ trues_of ls
all_trues [] = refl
all_trues (l ∷ ls) = λ i. trues_same l.positive l.atom i ++ all_trues ls i

all_falses : (ls : List Literal) → terms_in false (opposites ls) ≡ falses_of ls
all_falses [] = refl
all_falses (l ∷ ls) = λ i. falses_same l.positive l.atom i ++ all_falses ls i

facts_same : (ls : List Literal) → facts_in (opposites ls) ≡ facts_against ls
facts_same ls = λ i. facts_of (all_pairs ls i) (all_trues ls i) (all_falses ls i)

-- a positive equality whose sides are joined
module _ (shapes : List Shape) (facts : List (ℕ × ℕ)) (same : ℕ → ℕ → Bool) (tells : (x y : ℕ) → same x y ≡ true → Follows shapes facts x y) where
  abbrev is_joined : ℕ × ℕ → Bool
  is_joined p = same (object p.0) (object p.1)

  joined_one : (positive : Bool) (a : Atom) (more : List (ℕ × ℕ)) → list_any is_joined (equal_pair false (not positive) a ++ more) ≡ true → Joins shapes facts positive a ⊎ (list_any is_joined more ≡ true)
  joined_one true (Atom.Equal a b) more e = elim (or_cases (same (object a.0) (object b.0)) (list_any is_joined more) e) [ inl q ↦ inl (tells (object a.0) (object b.0) q) | inr q ↦ inr q ]
  joined_one true (Atom.Pred t) more e = inr e
  joined_one true (Atom.Card s k) more e = inr e
  joined_one true (Atom.Bound n) more e = inr e
  joined_one false (Atom.Equal a b) more e = inr e
  joined_one false (Atom.Pred t) more e = inr e
  joined_one false (Atom.Card s k) more e = inr e
  joined_one false (Atom.Bound n) more e = inr e

  joined_some : (ls : List Literal) → list_any is_joined (pairs_in false (opposites ls)) ≡ true → JoinsSome shapes facts ls
  joined_some [] e = absurd (false≢true e)
  joined_some (l ∷ ls) e =
      elim (joined_one l.positive l.atom (pairs_in false (opposites ls)) e) [
        | inl q ↦ inl q
        | inr q ↦ inr (joined_some ls q)
      ]

of_one_sort : (a b : Option Ty) → are_of_one_sort a b ≡ true → (r : SortId) × (is_type a (Ty.Of r) ≡ true) × (is_type b (Ty.Of r) ≡ true)
of_one_sort None b e = absurd (false≢true e)
of_one_sort (Some Ty.Bool) b e = absurd (false≢true e)
of_one_sort (Some (Ty.Of r)) b e = (r, eq-eqb r.0 r.0 refl, e)

-- all terms are the subterms of some and of all
abbrev numbered : List Term → List ℕ
numbered terms = range_with_len 0 (length terms)

roots_below : (sig : Sig) (terms : List Term) (a : Atom) (n : ℕ) → is_on_terms sig terms a ≡ true → Has (terms_of_atom a) n → n < length terms
roots_below sig terms (Atom.Equal a b) n e h =
    let r = of_one_sort (type_of sig terms a.0) (type_of sig terms b.0) (and_parts _ (are_of_one_sort (type_of sig terms a.0) (type_of sig terms b.0)) e).1 in
    elim h [
      | inl s ↦ subst (λ k. k < length terms) s (typed_within sig terms a.0 (Ty.Of r.0) r.1)
      | inr t ↦ elim t [ inl s ↦ subst (λ k. k < length terms) s (typed_within sig terms b.0 (Ty.Of r.0) r.2) | inr f ↦ absurd f ]
    ]
roots_below sig terms (Atom.Pred t) n e (inl s) = subst (λ k. k < length terms) s (typed_within sig terms t.0 Ty.Bool e)
roots_below sig terms (Atom.Pred t) n e (inr f) = absurd f
roots_below sig terms (Atom.Card s k) n e h = absurd h
roots_below sig terms (Atom.Bound k) n e h = absurd h

clause_below : (sig : Sig) (terms : List Term) (ls : List Literal) → list_all (λ (l : Literal). is_on_terms sig terms l.atom) ls ≡ true → All (λ n. nat_lt n (length terms) ≡ true) (terms_of_clause ls)
clause_below sig terms [] e = all_from (λ n. nat_lt n (length terms) ≡ true) [] (λ n h. absurd h)
clause_below sig terms (l ∷ ls) e =
    let p = and_parts (is_on_terms sig terms l.atom) (list_all (λ (k : Literal). is_on_terms sig terms k.atom) ls) e in
    All-append (λ n. nat_lt n (length terms) ≡ true) (terms_of_atom l.atom) (terms_of_clause ls) (all_from (λ n. nat_lt n (length terms) ≡ true) (terms_of_atom l.atom) (λ n h. lt-ltb n (length terms) (roots_below sig terms l.atom n p.0 h))) (clause_below sig terms ls p.1)

range_below : (terms : List Term) → All (λ n. nat_lt n (length terms) ≡ true) (numbered terms)
range_below terms = all_from (λ n. nat_lt n (length terms) ≡ true) (numbered terms) (λ n h. let r = (in_range n 0 (length terms) h).1 in lt-ltb n (length terms) (omega (arith, r)))

all_subterms : (sig : Sig) (terms : List Term) (roots : List ℕ) → are_terms sig terms ≡ true → All (λ n. nat_lt n (length terms) ≡ true) roots → AreSubterms terms (roots ++ numbered terms) (numbered terms)
all_subterms sig terms roots good low n = (
  λ c S h. All-contains (λ k. S k ≡ true) (roots ++ numbered terms) n h.has_roots (Contains-append_right roots (numbered terms) n c),
  λ h.
      let closed : IsSubtermSet terms (roots ++ numbered terms) (λ k. nat_lt k (length terms)) = record {
        has_roots = All-append (λ k. nat_lt k (length terms) ≡ true) roots (numbered terms) low (range_below terms);
        has_args = λ k t lt at. all_from (λ a. nat_lt a (length terms) ≡ true) t.args (λ a q. let m = (parts_of sig terms k t good at).before a q in let l = ltb-true k (length terms) lt in lt-ltb a (length terms) (omega (arith, m, l)));
      } in
      let lt = ltb-true n (length terms) (h (λ k. nat_lt k (length terms)) closed) in
      Has-contains (numbered terms) n (range_in n 0 (length terms) (omega arith) (omega (arith, lt))),
)

-- what shows an equality can't all be false
shown : (sig : Sig) (held : Held) (ls : List Literal) → are_terms sig held.terms ≡ true → list_all (λ (l : Literal). is_on_terms sig held.terms l.atom) ls ≡ true → ShowsEquality held ls → IsConflict sig held.terms ls (numbered held.terms)
shown sig held ls good on shows =
    let terms = held.terms in
    let w = tests_exist (all_shapes held) (facts_in (opposites ls)) (pairs_in false (opposites ls)) in
    let tells : (x y : ℕ) → w.0.same x y ≡ true → Follows (all_shapes held) (facts_against ls) x y = λ x y e. subst (λ fs. Follows (all_shapes held) fs x y) (facts_same ls) ((w.1.same_is x y).0 e) in
    record {
      on_terms = on;
      there = in_all (λ n. nat_lt n (length terms)) (numbered terms) (λ n h. all_has (λ k. nat_lt k (length terms) ≡ true) (numbered terms) n (range_below terms) h);
      over = numbered terms;
      subterms = all_subterms sig terms (terms_of_clause ls) good (clause_below sig terms ls on);
      closes = elim (or_cases (w.0.same yes no) (list_any (λ (p : ℕ × ℕ). w.0.same (object p.0) (object p.1)) (pairs_in false (opposites ls))) (shows w.0 w.1)) [
        | inl q ↦ inl (tells yes no q)
        | inr q ↦ inr (joined_some (all_shapes held) (facts_against ls) w.0.same tells ls q)
      ];
    }

on_by : (sig : Sig) (terms : List Term) (a : Atom) → is_size a ≡ false → is_atom sig terms a ≡ true → is_on_terms sig terms a ≡ true
on_by sig terms (Atom.Equal a b) g e = e
on_by sig terms (Atom.Pred t) g e = e
on_by sig terms (Atom.Card s k) g e = absurd (true≢false g)
on_by sig terms (Atom.Bound n) g e = absurd (true≢false g)

-- the clause of a clique, and of the sum
pairs_equal : (ts : List ℕ) → pair_literals ts ≡ some_equal ts
pairs_equal [] = refl
pairs_equal (t ∷ ts) = ap (λ (ls : List Literal). map (λ u. record { positive = true; atom = equality t u }) ts ++ ls) (pairs_equal ts)

bound_of : (s : State) (u : ℕ) (ks : List ℕ) → sum_literals s u ks ≡ sum_clause u ks s.bound
bound_of s u [] = refl
bound_of s u (k ∷ ks) = ap (λ (ls : List Literal). record { positive = true; atom = card u k } ∷ ls) (bound_of s (u + 1) ks)

totals : (ks : List ℕ) → total_above ks ≡ total_of ks
totals [] = refl
totals (k ∷ ks) = ap (λ n. k + 1 + n) (totals ks)

with_step : (o : Option ℕ) (q : Option (List ℕ)) (ks : List ℕ) (n : ℕ) → ((js : List ℕ) → q ≡ Some js → length js ≡ n) → with_bound o q ≡ Some ks → length ks ≡ suc n
with_step None q ks n rec e = absurd (cc e)
with_step (Some k) None ks n rec e = absurd (cc e)
with_step (Some k) (Some js) ks n rec e = let same : k ∷ js ≡ ks = cc e in sym (ap length same) ∙ ap suc (rec js refl)

as_many : (s : State) (u n : ℕ) (ks : List ℕ) → bounds_from s u n ≡ Some ks → length ks ≡ n
as_many s u zero ks e = let same : [] ≡ ks = cc e in sym (ap length same)
as_many s u (suc n) ks e = with_step (greatest_false s u) (bounds_from s (u + 1) n) ks n (as_many s (u + 1) n) e

module _ (c : Certified) (user : ℕ) (s : State) (w : IsWellHeld (searched c user) s) (fit : are_written s ≡ true) where
  here : are_terms c.symbols s.held.terms ≡ true
  here = subst (λ (sig : Sig). are_terms sig s.held.terms ≡ true) w.sig w.held.terms_good

  pub known_atom : (a : Atom) → is_known s a ≡ true → is_atom c.symbols s.held.terms a ≡ true
  known_atom a k = subst (λ (sig : Sig). is_atom sig s.held.terms a ≡ true) w.sig (atom_step s.held.sig s.held.terms [] s.held.atoms a w.held.atoms_good (known_has s a k))

  written_atom : (a : Atom) → is_known s a ≡ true → is_written a ≡ true
  written_atom a k = all_in is_written s.held.atoms a fit (known_has s a k)

  equal_line : (ls : List Literal) → are_known s ls ≡ true → ((l : Literal) → Has ls l → is_size l.atom ≡ false) → ShowsEquality s.held ls → IsConflict c.symbols s.held.terms ls (numbers (all_terms s)) × SameSet ls ls
  equal_line ls k ground shows =
      let on = in_all (λ (l : Literal). is_on_terms c.symbols s.held.terms l.atom) ls (λ l h. on_by c.symbols s.held.terms l.atom (ground l h) (known_atom l.atom (known_one s.held.atoms ls l h k))) in
      (subst (IsConflict c.symbols s.held.terms ls) (sym (numbers_ids (numbered s.held.terms))) (shown c.symbols s.held ls here on shows), same_if ls ls refl)

  second_known : (a b : Literal) → are_known s (a ∷ (b ∷ [])) ≡ true → is_known s b.atom ≡ true
  second_known a b h = known_one s.held.atoms (a ∷ (b ∷ [])) b (inr (inl refl)) h

  pub line_of : (k : Known) (r : Reader) (d : Due) (ls : List Literal) → are_known s ls ≡ true → (h : IsDue s k r d ls) → MakesClause c (made_of s) (due_line s k r d ls h) ls
  line_of k Reader.Congruence Due.Clash ls known h = equal_line ls known (λ l q. read_ground s.held.atoms (read_by Reader.Congruence s) l (h.read l q)) h.shows
  line_of k Reader.Congruence (Due.Value a v) ls known h = equal_line ls known (λ l q. value_ground s.held.atoms (read_by Reader.Congruence s) k.congruence a v l h.decided (h.read l q)) h.shows
  line_of k Reader.Regions (Due.Clique u) ls known h =
      let ts : List ℕ = h.pick.terms in
      let good = w.picks u h.pick h.there in
      let many : length (map term_id ts) ≡ length ts - 1 + 1 = (let n = length-map ts term_id in let q = good.some in omega (arith, n, q)) in
      let sorts : list_all (λ n. is_type (type_of c.symbols s.held.terms n) (Ty.Of (record { 0 = u }))) (numbers (map term_id ts)) ≡ true =
      subst (λ ns. list_all (λ n. is_type (type_of c.symbols s.held.terms n) (Ty.Of (record { 0 = u }))) ns ≡ true) (sym (numbers_ids ts))
      (subst (λ (sig : Sig). list_all (λ n. is_type (type_of sig s.held.terms n) (Ty.Of (record { 0 = u }))) ts ≡ true) w.sig good.sorts) in
      let is : ls ≡ more_than u (length ts - 1) ∷ some_equal (numbers (map term_id ts)) = h.is ∙ ap (λ (ks : List Literal). more_than u (length ts - 1) ∷ ks) (pairs_equal ts ∙ ap some_equal (sym (numbers_ids ts))) in
      (many, sorts, same_if ls _ is)
  line_of k Reader.Sum Due.SumBound ls known h =
      let due = ltb-true s.bound (total_above h.ks) (and_parts (nat_lt s.bound (total_above h.ks)) _ h.due).0 in
      (as_many s 0 s.held.sig.sorts h.ks h.bounds ∙ ap (λ (sig : Sig). sig.sorts) w.sig, subst (λ n. s.bound < n) (totals h.ks) due, same_if ls _ (h.is ∙ bound_of s 0 h.ks))
  line_of k Reader.Sum (Due.CardOrder u j) ls known h =
      let there : is_known s (card u (j + 1)) ≡ true = second_known (lit false (card u j)) (lit true (card u (j + 1))) (subst (λ (ks : List Literal). are_known s ks ≡ true) h.is known) in
      (ltb-true u c.symbols.sorts (known_atom (card u (j + 1)) there), ltb-true (j + 1) (2 ^ 64) (written_atom (card u (j + 1)) there), same_if ls _ h.is)
  line_of k Reader.Sum (Due.BoundOrder n) ls known h =
      let there : is_known s (Atom.Bound (n + 1)) ≡ true = second_known (lit false (Atom.Bound n)) (lit true (Atom.Bound (n + 1))) (subst (λ (ks : List Literal). are_known s ks ≡ true) h.is known) in
      (ltb-true (n + 1) (2 ^ 64) (written_atom (Atom.Bound (n + 1)) there), same_if ls _ h.is)
  line_of k r d ls known h = absurd h

pub lemmas_are_lines : LemmasAreLines
lemmas_are_lines c user s k r d ls w fit known h = line_of c user s w fit k r d ls known h
