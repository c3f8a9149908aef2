-- The candidate is an interpretation, an element's representative has it, and an instance over reached terms is true in it
-- exactly where the test makes one of its literals true.
use Rattle.std.proofs.Common.{◌≡◌, ℕ, zero, suc, ◌+◌, ◌<◌, ◌≤◌, Bool, true, false, ◌&&◌, ◌||◌, not, cond, List, [], ◌∷◌, ◌++◌, ◌⊎◌, length, map, get_or, Option, Some, None, refl, sym, subst, ap, ◌∙◌, arith, inl, inr}
use Rattle.std.specs.Prelude.{◌==◌, slice_get, nat_lt}
use Rattle.std.specs.Cmp.{both_ways}
use Rattle.std.specs.List.{filter, find, flat_map, list_all, list_any, position_or_len, range_with_len}
use Rattle.std.proofs.lemmas.Bool.{and_parts, and_from, cases_Bool, eq-eqb, eqb-true, false≢true, lt-ltb, ltb-true, not-true}
use Rattle.std.proofs.lemmas.List.Sums.{position_or_len_is}
use Rattle.fm_base.specs.Interpretations.{IsInterpretation, Reading, is_sort_of, is_tuple, names_its_sorts, values_of}
use Rattle.fm_base.specs.declared.ids.SortId.{SortId}
use Rattle.fm_base.specs.declared.signature.Rank.{Rank}
use Rattle.fm_base.specs.declared.signature.Ty.{Ty}
use Rattle.fm_base.specs.Normal.{signed}
use Rattle.fm_base.specs.Resolution.{Has}
use Rattle.fm_bank.specs.Clauses.{lits_true}
use Rattle.fm_bank.specs.Subterms.{is_found as has}
use Rattle.fm_bank.specs.Closure.{object, yes}
use Rattle.fm_bank.specs.Ground.{atom_true, lit_true}
use Rattle.fm_bank.specs.Instances.{ground_literals}
use Rattle.fm_bank.specs.declared.literal.Literal.{Literal}
use Rattle.fm_bank.specs.Interning.{are_of_one_sort}
use Rattle.fm_bank.specs.Meaning.{literals_true}
use Rattle.fm_bank.specs.Terms.{Term, are_of_types, is_type, result_type, type_in, type_of, value_of}
use Rattle.fm_bank.specs.declared.atom.Atom.{Atom}
use Rattle.fm_bank.specs.declared.clause.Plit.{Plit}
use Rattle.fm_bank.proofs.InstanceTruth.{literals_truth}
use Rattle.fm_rounds.specs.Rounds.{Content, candidate_reading, element_in, element_of, element_of_first, grown, is_application_at, is_new, joins, reached, reached_by, reps_of, round}
use Rattle.fm_rounds.specs.Grounds.{AreReached, IsGrounded, IsReached, atom_by, literal_by}
use Rattle.fm_rounds.proofs.Members.{filter_in, has_in, in_any, in_either, in_filter, in_has, in_left, in_range, range_in}
use Rattle.fm_rounds.specs.Soundness.{Agree}
use Rattle.fm_rounds.proofs.Reaching.{all_in, reached_is}
use Rattle.fm_rounds.proofs.Elements.{application_parts, element_within, one_class, parts_of, reached_value, read_value, same_element, type_is, value_there}

pub get_in : {X : Type 0} (xs : List X) (n : ℕ) (x : X) → slice_get xs n ≡ Some x → Has xs x
get_in [] n x e = cc
get_in (y ∷ ys) zero x e = inl (cc e)
get_in (y ∷ ys) (suc n) x e = inr (get_in ys n x e)

found_step : {X : Type 0} (p : X → Bool) (y k : X) (xs : List X) (b : Bool) → p y ≡ b → cond b (Some y) (find p xs) ≡ Some k → ((y ≡ k) × (b ≡ true)) ⊎ (find p xs ≡ Some k)
found_step p y k xs true e f = inl (cc f, refl)
found_step p y k xs false e f = inr f

pub found_in : {X : Type 0} (p : X → Bool) (xs : List X) (k : X) → find p xs ≡ Some k → Has xs k × (p k ≡ true)
found_in p [] k e = cc
found_in p (y ∷ xs) k e = elim (found_step p y k xs (p y) refl e) [
  | inl (s, t) ↦ (inl s, ap p (sym s) ∙ t)
  | inr r ↦ let q = found_in p xs k r in (inr q.0, q.1)
]

bit_below : (b : Bool) → cond b 1 0 < 2
bit_below true = omega arith
bit_below false = omega arith

bit_is : (b : Bool) → (cond b 1 0 == 1) ≡ b
bit_is true = refl
bit_is false = refl

some_member : {X : Type 0} (xs : List X) (i : ℕ) → i < length xs → 1 ≤ length xs
some_member xs i lt = omega (arith, lt)

module _ (c : Content) (g : IsGrounded c) (named : names_its_sorts c.sig ≡ true) where
  abbrev over : List ℕ
  over = (reached c).terms

  started : (i n : ℕ) → Has c.start n → Has (round c i).terms n
  unfolding round
  started zero n h = h
  started (suc i) n h = in_left n (round c i).terms (flat_map (reached_by (round c i).reps) c.added) (started i n h)

  inhabited : (s : ℕ) → s < c.sig.sorts → 1 ≤ length (reps_of c s)
  inhabited s lt =
      let n = g.inhabited s lt in
      some_member (reps_of c s) (position_or_len (λ r. c.same (object r) (object n.0)) (reps_of c s)) (element_within c g s n.0 (started (length c.added) n.0 n.1) (type_is (type_of c.sig c.terms n.0) (Ty.Of (record { 0 = s })) n.2))

  result_named : (f : ℕ) (rank : Rank) → slice_get c.sig.ranks f ≡ Some rank → is_sort_of c.sig.sorts rank.result ≡ true
  result_named f rank e =
      let p = all_in (λ (r : Rank). list_all (is_sort_of c.sig.sorts) r.args && is_sort_of c.sig.sorts r.result) c.sig.ranks rank named (get_in c.sig.ranks f rank e) in
      (and_parts (list_all (is_sort_of c.sig.sorts) rank.args) (is_sort_of c.sig.sorts rank.result) p).1

  zero_below : (u : Ty) → is_sort_of c.sig.sorts u ≡ true → 0 < values_of (candidate_reading c) u
  zero_below Ty.Bool e = omega arith
  zero_below (Ty.Of s) e = omega (arith, inhabited s.0 (ltb-true s.0 c.sig.sorts e))

  element_below : (u : Ty) (n : ℕ) → Has over n → type_of c.sig c.terms n ≡ Some u → element_in c (Some u) n < values_of (candidate_reading c) u
  element_below Ty.Bool n h e = bit_below (c.same (object n) yes)
  element_below (Ty.Of s) n h e = element_within c g s.0 n h e

  value_below : (f : ℕ) (rank : Rank) (xs : List ℕ) (o : Option ℕ) → slice_get c.sig.ranks f ≡ Some rank → find (λ n. is_application_at c f xs (slice_get c.terms n)) over ≡ o → element_of_first c o < values_of (candidate_reading c) rank.result
  value_below f rank xs None e is = zero_below rank.result (result_named f rank e)
  value_below f rank xs (Some n) e is =
      let h = found_in (λ k. is_application_at c f xs (slice_get c.terms k)) over n is in
      let a = application_parts c g f xs (slice_get c.terms n) h.1 in
      let typed : type_of c.sig c.terms n ≡ Some rank.result = ap (type_in c.sig) a.1 ∙ ap (λ i. result_type (slice_get c.sig.ranks i)) a.2 ∙ ap result_type e in
      subst (λ o. element_in c o n < values_of (candidate_reading c) rank.result) (sym typed) (element_below rank.result n h.0 typed)

  pub candidate_interprets : IsInterpretation c.sig (candidate_reading c)
  candidate_interprets = record {
    inhabited = inhabited;
    closed = λ f rank xs e t. value_below f rank xs (find (λ n. is_application_at c f xs (slice_get c.terms n)) over) e refl;
  }

  type_named : (o : Option Rank) (u : Ty) (f : ℕ) → slice_get c.sig.ranks f ≡ o → result_type o ≡ Some u → is_sort_of c.sig.sorts u ≡ true
  type_named None u f is e = cc e
  type_named (Some rank) u f is e = let same : rank.result ≡ u = cc e in subst (λ v. is_sort_of c.sig.sorts v ≡ true) same (result_named f rank is)

  term_named : (o : Option Term) (u : Ty) → type_in c.sig o ≡ Some u → is_sort_of c.sig.sorts u ≡ true
  term_named None u e = cc e
  term_named (Some t) u e = type_named (slice_get c.sig.ranks t.symbol) u t.symbol refl e

  -- a term's sort is one of the signature
  pub sort_within : (n : ℕ) (s : SortId) → type_of c.sig c.terms n ≡ Some (Ty.Of s) → s.0 < c.sig.sorts
  sort_within n s e = ltb-true s.0 c.sig.sorts (term_named (slice_get c.terms n) (Ty.Of s) e)

  -- the elements of reached terms of these types
  elements_typed : (us : List Ty) (ks : List ℕ) → are_of_types c.sig c.terms ks us ≡ true → ((k : ℕ) → Has ks k → Has over k) → is_tuple (candidate_reading c) us (map (element_of c) ks) ≡ true
  elements_typed [] [] e h = refl
  elements_typed [] (k ∷ ks) e h = absurd (false≢true e)
  elements_typed (u ∷ us) [] e h = absurd (false≢true e)
  elements_typed (u ∷ us) (k ∷ ks) e h =
      let p = and_parts (is_type (type_of c.sig c.terms k) u) (are_of_types c.sig c.terms ks us) e in
      let typed = type_is (type_of c.sig c.terms k) u p.0 in
      let low : element_of c k < values_of (candidate_reading c) u = subst (λ o. element_in c o k < values_of (candidate_reading c) u) (sym typed) (element_below u k (h k (inl refl)) typed) in
      and_from (nat_lt (element_of c k) (values_of (candidate_reading c) u)) (is_tuple (candidate_reading c) us (map (element_of c) ks)) (lt-ltb (element_of c k) (values_of (candidate_reading c) u) low) (elements_typed us ks p.1 (λ j i. h j (inr i)))

  -- in a reading that agrees with the candidate's a reached term has its element
  pub agreed_value : (w : Reading) → Agree c.sig (candidate_reading c) w → (n : ℕ) → Has over n → value_of w c.terms n ≡ element_of c n
  agreed_value w same n h = read_value c g w
      (λ k t i e.
      let p = parts_of c.sig c.terms k t g.terms e in
      same t.symbol p.rank p.is (map (element_of c) t.args) (elements_typed p.rank.args t.args p.typed (λ j a. (reached_is c g).closed k j t i e a)) ∙ value_there c g k t i e)
      n h

  -- the truth of literals over reached terms
  one_sort : (o q : Option Ty) → are_of_one_sort o q ≡ true → (s : ℕ) × (o ≡ Some (Ty.Of (record { 0 = s }))) × (q ≡ Some (Ty.Of (record { 0 = s })))
  one_sort None q e = absurd (false≢true e)
  one_sort (Some Ty.Bool) q e = absurd (false≢true e)
  one_sort (Some (Ty.Of s)) q e = (s.0, refl, type_is q (Ty.Of s) e)

  equal_by : (a b : ℕ) → Has over a → Has over b → are_of_one_sort (type_of c.sig c.terms a) (type_of c.sig c.terms b) ≡ true → (element_of c a == element_of c b) ≡ c.same (object a) (object b)
  equal_by a b ha hb e =
      let s = one_sort (type_of c.sig c.terms a) (type_of c.sig c.terms b) e in
      both_ways (element_of c a == element_of c b) (c.same (object a) (object b)) (λ t. one_class c g s.0 a b ha hb s.1 s.2 (eqb-true (element_of c a) (element_of c b) t)) (λ t. eq-eqb (element_of c a) (element_of c b) (same_element c g a b t))

  atom_is : (a : Atom) → IsReached c a → atom_true c.sig (candidate_reading c) (value_of (candidate_reading c) c.terms) a ≡ atom_by c a
  atom_is (Atom.Equal a b) (ha, hb, e) = let left = reached_value c g a.0 ha in let right = reached_value c g b.0 hb in (λ i. left i == right i) ∙ equal_by a.0 b.0 ha hb e
  atom_is (Atom.Pred t) (h, e) = ap (λ n. n == 1) (reached_value c g t.0 h ∙ ap (λ o. element_in c o t.0) (type_is (type_of c.sig c.terms t.0) Ty.Bool e)) ∙ bit_is (c.same (object t.0) yes)
  atom_is (Atom.Card s k) h = absurd h
  atom_is (Atom.Bound n) h = absurd h

  literal_is : (positive : Bool) (a : Atom) → IsReached c a → lit_true c.sig (candidate_reading c) (value_of (candidate_reading c) c.terms) positive a ≡ signed positive (atom_by c a)
  literal_is true a h = atom_is a h
  literal_is false a h = ap not (atom_is a h)

  literals_are : (ls : List Literal) → AreReached c ls → literals_true c.sig (candidate_reading c) c.terms ls ≡ list_any (literal_by c) ls
  literals_are [] h = refl
  literals_are (l ∷ ls) (h, hs) = let one = literal_is l.positive l.atom h in let rest = literals_are ls hs in λ i. one i || rest i

  values_are : (ns : List ℕ) → ((n : ℕ) → Has ns n → Has over n) → map (value_of (candidate_reading c) c.terms) ns ≡ map (element_of c) ns
  values_are [] h = refl
  values_are (n ∷ ns) h = let one = reached_value c g n (h n (inl refl)) in let rest = values_are ns (λ k i. h k (inr i)) in λ i. one i ∷ rest i

  pub instance_truth : (subst : List ℕ) (lits : List Plit) (ls : List Literal) → ((n : ℕ) → Has subst n → Has over n) → ground_literals c.terms subst lits ≡ Some ls → AreReached c ls → lits_true (candidate_reading c) (map (element_of c) subst) lits ≡ list_any (literal_by c) ls
  instance_truth subst lits ls h e r =
      ap (λ xs. lits_true (candidate_reading c) xs lits) (sym (values_are subst h)) ∙ literals_truth c.sig (candidate_reading c) c.terms g.terms subst lits ls e ∙ literals_are ls r

-- representatives are of different classes, so each has its own place as element
abbrev pub Apart : Content → List ℕ → Type 0
Apart c [] = Unit {0}
Apart c (n ∷ ns) = ((m : ℕ) → Has ns m → c.same (object n) (object m) ≡ false) × Apart c ns

apart_append : (c : Content) (xs ys : List ℕ) → Apart c xs → Apart c ys → ((x y : ℕ) → Has xs x → Has ys y → c.same (object x) (object y) ≡ false) → Apart c (xs ++ ys)
apart_append c [] ys hx hy h = hy
apart_append c (x ∷ xs) ys (one, hx) hy h = ((λ m i. elim (in_either m xs ys i) [ inl a ↦ one m a | inr b ↦ h x m (inl refl) b ]), apart_append c xs ys hx hy (λ a b i j. h a b (inr i) j))

apart_kept : (c : Content) (p : ℕ → Bool) (x : ℕ) (xs : List ℕ) (b : Bool) → ((m : ℕ) → Has xs m → c.same (object x) (object m) ≡ false) → Apart c (filter p xs) → Apart c (cond b (x ∷ filter p xs) (filter p xs))
apart_kept c p x xs true one h = ((λ m i. one m (in_filter p m xs i).0), h)
apart_kept c p x xs false one h = h

apart_filter : (c : Content) (p : ℕ → Bool) (xs : List ℕ) → Apart c xs → Apart c (filter p xs)
apart_filter c p [] h = tt
apart_filter c p (x ∷ xs) (one, h) = apart_kept c p x xs (p x) one (apart_filter c p xs h)

new_parts : (c : Content) (reps met : List ℕ) (n : ℕ) → is_new c reps met n ≡ true → Has met n × (joins c reps n ≡ false) × (joins c (filter (has met) (range_with_len 0 n)) n ≡ false)
new_parts c reps met n e =
    let p = and_parts (has met n) (not (joins c reps n) && not (joins c (filter (has met) (range_with_len 0 n)) n)) e in
    let q = and_parts (not (joins c reps n)) (not (joins c (filter (has met) (range_with_len 0 n)) n)) p.1 in
    (has_in met n p.0, not-true (joins c reps n) q.0, not-true (joins c (filter (has met) (range_with_len 0 n)) n) q.1)

not_joined : (c : Content) (ns : List ℕ) (m n : ℕ) → joins c ns n ≡ false → Has ns m → c.same (object m) (object n) ≡ false
not_joined c ns m n e h = elim (cases_Bool (c.same (object m) (object n))) [
  | inl t ↦ absurd (false≢true (sym e ∙ in_any (λ k. c.same (object k) (object n)) ns m h t))
  | inr f ↦ f
]

new_step : (c : Content) (reps met : List ℕ) (a k : ℕ) (b : Bool) → is_new c reps met a ≡ b → Apart c (filter (is_new c reps met) (range_with_len (a + 1) k)) → Apart c (cond b (a ∷ filter (is_new c reps met) (range_with_len (a + 1) k)) (filter (is_new c reps met) (range_with_len (a + 1) k)))
new_step c reps met a k true e h = (
  (λ m i.
      let f = in_filter (is_new c reps met) m (range_with_len (a + 1) k) i in
      let low = in_range m (a + 1) k f.0 in
      let there = filter_in (has met) a (range_with_len 0 m) (range_in a 0 m (omega arith) (omega (arith, low.0))) (in_has met a (new_parts c reps met a e).0) in
      not_joined c (filter (has met) (range_with_len 0 m)) a m (new_parts c reps met m f.1).2 there),
  h,
)
new_step c reps met a k false e h = h

new_apart : (c : Content) (reps met : List ℕ) (a k : ℕ) → Apart c (filter (is_new c reps met) (range_with_len a k))
new_apart c reps met a zero = tt
new_apart c reps met a (suc k) = new_step c reps met a k (is_new c reps met a) refl (new_apart c reps met (a + 1) k)

grown_apart : (c : Content) (reps met : List ℕ) → Apart c reps → Apart c (grown c reps met).reps
grown_apart c reps met h =
    let all = range_with_len 0 (length c.terms) in
    apart_append c reps (filter (is_new c reps met) all) h (new_apart c reps met 0 (length c.terms)) (λ x y i j. not_joined c reps x y (new_parts c reps met y (in_filter (is_new c reps met) y all j).1).1 i)

round_apart : (c : Content) (i : ℕ) → Apart c (round c i).reps
unfolding round
round_apart c zero = grown_apart c [] c.start tt
round_apart c (suc i) = grown_apart c (round c i).reps ((round c i).terms ++ flat_map (reached_by (round c i).reps) c.added) (round_apart c i)

pub reps_apart : (c : Content) (s : ℕ) → Apart c (reps_of c s)
reps_apart c s = apart_filter c (λ n. is_type (type_of c.sig c.terms n) (Ty.Of (record { 0 = s }))) (reached c).reps (round_apart c (length c.added))

member_at : (ns : List ℕ) (i : ℕ) → i < length ns → Has ns (get_or ns i 0)
member_at [] i lt = absurd (omega (arith, lt))
member_at (n ∷ ns) zero lt = inl refl
member_at (n ∷ ns) (suc i) lt = inr (member_at ns i (omega (arith, lt)))

apart_at : (c : Content) (ns : List ℕ) (k i : ℕ) → Apart c ns → k < i → i < length ns → c.same (object (get_or ns k 0)) (object (get_or ns i 0)) ≡ false
apart_at c [] k i h less lt = absurd (omega (arith, lt))
apart_at c (n ∷ ns) k zero h less lt = absurd (omega (arith, less))
apart_at c (n ∷ ns) zero (suc i) (one, h) less lt = one (get_or ns i 0) (member_at ns i (omega (arith, lt)))
apart_at c (n ∷ ns) (suc k) (suc i) (one, h) less lt = apart_at c ns k i h (omega (arith, less)) (omega (arith, lt))

pub rep_place : (c : Content) (g : IsGrounded c) (s x : ℕ) → x < length (reps_of c s) → position_or_len (λ r. c.same (object r) (object (get_or (reps_of c s) x 0))) (reps_of c s) ≡ x
rep_place c g s x lt =
    let reps = reps_of c s in
    let apart = reps_apart c s in
    position_or_len_is (λ r. c.same (object r) (object (get_or reps x 0))) reps x 0 (omega (arith, lt)) (λ k less. apart_at c reps k x apart less lt) (λ h. g.reflexive (object (get_or reps x 0)))

typed_rep : (c : Content) (s n : ℕ) → Has (reps_of c s) n → type_of c.sig c.terms n ≡ Some (Ty.Of (record { 0 = s }))
typed_rep c s n h = type_is (type_of c.sig c.terms n) (Ty.Of (record { 0 = s })) (in_filter (λ k. is_type (type_of c.sig c.terms k) (Ty.Of (record { 0 = s }))) n (reached c).reps h).1

pub rep_element : (c : Content) (g : IsGrounded c) (s x : ℕ) → x < length (reps_of c s) → element_of c (get_or (reps_of c s) x 0) ≡ x
rep_element c g s x lt = ap (λ o. element_in c o (get_or (reps_of c s) x 0)) (typed_rep c s (get_or (reps_of c s) x 0) (member_at (reps_of c s) x lt)) ∙ rep_place c g s x lt
