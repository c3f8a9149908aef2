-- Each reached term has the element of its class as its value in the candidate.
use Rattle.std.proofs.Common.{◌≡◌, ℕ, zero, suc, ◌+◌, ◌<◌, ◌≤◌, Bool, true, false, ◌&&◌, not, cond, List, [], ◌∷◌, ◌++◌, length, map, get_or, Option, Some, None, refl, sym, subst, ap, ◌∙◌, arith, inl, inr}
use Rattle.std.specs.Prelude.{◌==◌, slice_get}
use Rattle.std.specs.Cmp.{both_ways}
use Rattle.std.specs.Cmp.Lexicographic.{bytes_decides}
use Rattle.std.specs.Str.{bytes_eq}
use Rattle.std.specs.List.{find, list_all, list_any, position_or_len}
use Rattle.std.proofs.lemmas.Bool.{and_parts, and_from, eq-eqb, eqb-true, false≢true}
use Rattle.std.proofs.lemmas.List.{append_assoc, length-append}
use Rattle.std.proofs.lemmas.List.Sums.{passes_at_first}
use Rattle.fm_base.specs.Interpretations.{Reading}
use Rattle.fm_base.specs.declared.signature.Rank.{Rank}
use Rattle.fm_base.specs.declared.signature.Sig.{Sig}
use Rattle.fm_base.specs.declared.signature.Ty.{Ty}
use Rattle.fm_bank.specs.Closure.{are_related, object, yes}
use Rattle.fm_bank.specs.Terms.{Term, are_of_types, are_terms, are_terms_after, is_application, is_same, is_term, is_type, type_of, value_of}
use Rattle.fm_bank.proofs.Meanings.{typed_within, value_is}
use Rattle.fm_bank.proofs.Sorts.{types_kept}
use Rattle.fm_base.specs.Resolution.{Has}
use Rattle.fm_rounds.specs.Rounds.{Content, candidate_reading, element_in, element_of, element_of_first, is_application_at, reached, reps_of, value_at}
use Rattle.fm_rounds.specs.Grounds.{IsGrounded, is_declared}
use Rattle.fm_rounds.proofs.Members.{any_in, filter_in}
use Rattle.fm_rounds.proofs.Reaching.{IsRound, reached_is}

-- a term stands behind its arguments
split_at : (sig : Sig) (before ts : List Term) (n : ℕ) (t : Term) → are_terms_after sig before ts ≡ true → slice_get ts n ≡ Some t → (pre : List Term) × (post : List Term) × (pre ++ post ≡ before ++ ts) × (length pre ≡ length before + n) × (is_term sig pre t ≡ true)
split_at sig before [] n t good e = cc
split_at sig before (x ∷ xs) zero t good e =
    let p = and_parts (is_term sig before x) (not (list_any (is_same x) before) && are_terms_after sig (before ++ x ∷ []) xs) good in
    let same : x ≡ t = cc e in
    (before, x ∷ xs, refl, omega arith, subst (λ (y : Term). is_term sig before y ≡ true) same p.0)
split_at sig before (x ∷ xs) (suc n) t good e =
    let p = and_parts (is_term sig before x) (not (list_any (is_same x) before) && are_terms_after sig (before ++ x ∷ []) xs) good in
    let q = and_parts (not (list_any (is_same x) before)) (are_terms_after sig (before ++ x ∷ []) xs) p.1 in
    let r = split_at sig (before ++ x ∷ []) xs n t q.1 e in
    (r.0, r.1, r.2 ∙ append_assoc before (x ∷ []) xs, omega (arith, r.3, length-append before (x ∷ [])), r.4)

rank_there : (sig : Sig) (pre : List Term) (o : Option Rank) (args : List ℕ) → is_application sig pre o args ≡ true → (rank : Rank) × (o ≡ Some rank) × (are_of_types sig pre args rank.args ≡ true)
rank_there sig pre None args e = absurd (false≢true e)
rank_there sig pre (Some rank) args e = (rank, refl, e)

args_before : (sig : Sig) (pre : List Term) (args : List ℕ) (us : List Ty) → are_of_types sig pre args us ≡ true → (k : ℕ) → Has args k → k < length pre
args_before sig pre [] us e k h = absurd h
args_before sig pre (a ∷ as') [] e k h = absurd (false≢true e)
args_before sig pre (a ∷ as') (u ∷ us) e k (inl s) = typed_within sig pre k u (subst (λ i. is_type (type_of sig pre i) u ≡ true) s (and_parts (is_type (type_of sig pre a) u) (are_of_types sig pre as' us) e).0)
args_before sig pre (a ∷ as') (u ∷ us) e k (inr h) = args_before sig pre as' us (and_parts (is_type (type_of sig pre a) u) (are_of_types sig pre as' us) e).1 k h

pub record Parts (sig : Sig) (terms : List Term) (n : ℕ) (t : Term) : Type 0 where
  pub rank : Rank
  pub is : slice_get sig.ranks t.symbol ≡ Some rank
  pub typed : are_of_types sig terms t.args rank.args ≡ true
  pub before : (k : ℕ) → Has t.args k → k < n

pub parts_of : (sig : Sig) (terms : List Term) (n : ℕ) (t : Term) → are_terms sig terms ≡ true → slice_get terms n ≡ Some t → Parts sig terms n t
parts_of sig terms n t good e =
    let s = split_at sig [] terms n t good e in
    let r = rank_there sig s.0 (slice_get sig.ranks t.symbol) t.args s.4 in
    record {
      rank = r.0;
      is = r.1;
      typed = types_kept sig s.0 terms t.args r.0.args (s.1, s.2) r.2;
      before = λ k h. omega (arith, args_before sig s.0 t.args r.0.args r.2 k h, s.3);
    }

position_step : {X : Type 0} (p : X → Bool) (x : X) (xs : List X) (b : Bool) → p x ≡ b → (b ≡ false → position_or_len p xs < length xs) → position_or_len p (x ∷ xs) < length (x ∷ xs)
position_step p x xs true e h = subst (λ c. cond (not c) (1 + position_or_len p xs) 0 < suc (length xs)) (sym e) (omega arith)
position_step p x xs false e h = subst (λ c. cond (not c) (1 + position_or_len p xs) 0 < suc (length xs)) (sym e) (omega (arith, h refl))

position_within : {X : Type 0} (p : X → Bool) (xs : List X) (x : X) → Has xs x → p x ≡ true → position_or_len p xs < length xs
position_within p [] x h e = absurd h
position_within p (y ∷ xs) x (inl s) e = position_step p y xs (p y) refl (λ f. absurd (false≢true (sym f ∙ ap p s ∙ e)))
position_within p (y ∷ xs) x (inr h) e = position_step p y xs (p y) refl (λ f. position_within p xs x h e)

find_step : {X : Type 0} (p : X → Bool) (y : X) (xs : List X) (b : Bool) → p y ≡ b → (b ≡ false → (k : X) × (find p xs ≡ Some k) × Has xs k × (p k ≡ true)) → (k : X) × (cond b (Some y) (find p xs) ≡ Some k) × Has (y ∷ xs) k × (p k ≡ true)
find_step p y xs true e h = (y, refl, inl refl, e)
find_step p y xs false e h = let r = h refl in (r.0, r.1, inr r.2, r.3)

find_there : {X : Type 0} (p : X → Bool) (xs : List X) (x : X) → Has xs x → p x ≡ true → (k : X) × (find p xs ≡ Some k) × Has xs k × (p k ≡ true)
find_there p [] x h e = absurd h
find_there p (y ∷ xs) x (inl s) e = find_step p y xs (p y) refl (λ f. absurd (false≢true (sym f ∙ ap p s ∙ e)))
find_there p (y ∷ xs) x (inr h) e = find_step p y xs (p y) refl (λ f. find_there p xs x h e)

pub type_is : (o : Option Ty) (u : Ty) → is_type o u ≡ true → o ≡ Some u
type_is None u e = absurd (false≢true e)
type_is (Some Ty.Bool) Ty.Bool e = refl
type_is (Some Ty.Bool) (Ty.Of s) e = absurd (false≢true e)
type_is (Some (Ty.Of s)) Ty.Bool e = absurd (false≢true e)
type_is (Some (Ty.Of s)) (Ty.Of r) e = let same = eqb-true s.0 r.0 e in λ i. Some (Ty.Of (record { 0 = same i }))

is_itself : (u : Ty) → is_type (Some u) u ≡ true
is_itself Ty.Bool = refl
is_itself (Ty.Of s) = eq-eqb s.0 s.0 refl

module _ (c : Content) (g : IsGrounded c) where
  abbrev over : List ℕ
  over = (reached c).terms

  abbrev rounds : IsRound c (reached c)
  rounds = reached_is c g

  same_left : (x a b : ℕ) → c.same (object a) (object b) ≡ true → c.same x (object a) ≡ c.same x (object b)
  same_left x a b e = both_ways (c.same x (object a)) (c.same x (object b)) (λ h. g.transitive x (object a) (object b) h e) (λ h. g.transitive x (object b) (object a) h (g.symmetric (object a) (object b) e))

  pub same_right : (x a b : ℕ) → c.same (object a) (object b) ≡ true → c.same (object a) x ≡ c.same (object b) x
  same_right x a b e = both_ways (c.same (object a) x) (c.same (object b) x) (λ h. g.transitive (object b) (object a) x (g.symmetric (object a) (object b) e) h) (λ h. g.transitive (object a) (object b) x e h)

  same_in : (o : Option Ty) (a b : ℕ) → c.same (object a) (object b) ≡ true → element_in c o a ≡ element_in c o b
  same_in None a b e = refl
  same_in (Some Ty.Bool) a b e = ap (λ t. cond t 1 0) (same_right yes a b e)
  same_in (Some (Ty.Of s)) a b e = λ i. position_or_len (λ r. same_left (object r) a b e i) (reps_of c s.0)

  pub same_element : (a b : ℕ) → c.same (object a) (object b) ≡ true → element_of c a ≡ element_of c b
  same_element a b e = ap (λ o. element_in c o a) (g.typed a b e) ∙ same_in (type_of c.sig c.terms b) a b e

  pub element_within : (s n : ℕ) → Has over n → type_of c.sig c.terms n ≡ Some (Ty.Of (record { 0 = s })) → position_or_len (λ r. c.same (object r) (object n)) (reps_of c s) < length (reps_of c s)
  element_within s n h e =
      let j = any_in (λ r. c.same (object r) (object n)) (reached c).reps (rounds.covered n h) in
      let typed : is_type (type_of c.sig c.terms j.0) (Ty.Of (record { 0 = s })) ≡ true = ap (λ o. is_type o (Ty.Of (record { 0 = s }))) (g.typed j.0 n j.2 ∙ e) ∙ eq-eqb s s refl in
      position_within (λ r. c.same (object r) (object n)) (reps_of c s) j.0 (filter_in (λ r. is_type (type_of c.sig c.terms r) (Ty.Of (record { 0 = s }))) j.0 (reached c).reps j.1 typed) j.2

  -- terms of a declared sort with one element are of one class
  pub one_class : (s a b : ℕ) → Has over a → Has over b → type_of c.sig c.terms a ≡ Some (Ty.Of (record { 0 = s })) → type_of c.sig c.terms b ≡ Some (Ty.Of (record { 0 = s })) → element_of c a ≡ element_of c b → c.same (object a) (object b) ≡ true
  one_class s a b ha hb ea eb e =
      let reps = reps_of c s in
      let pa = position_or_len (λ r. c.same (object r) (object a)) reps in
      let pb = position_or_len (λ r. c.same (object r) (object b)) reps in
      let at : pa ≡ pb = sym (ap (λ o. element_in c o a) ea) ∙ e ∙ ap (λ o. element_in c o b) eb in
      let ra : c.same (object (get_or reps pa 0)) (object a) ≡ true = passes_at_first (λ r. c.same (object r) (object a)) reps 0 (element_within s a ha ea) in
      let rb : c.same (object (get_or reps pb 0)) (object b) ≡ true = passes_at_first (λ r. c.same (object r) (object b)) reps 0 (element_within s b hb eb) in
      let rab : c.same (object (get_or reps pa 0)) (object b) ≡ true = ap (λ i. c.same (object (get_or reps i 0)) (object b)) at ∙ rb in
      g.transitive (object a) (object (get_or reps pa 0)) (object b) (g.symmetric (object (get_or reps pa 0)) (object a) ra) rab

  declared_class : (u : Ty) (a b : ℕ) → is_declared u ≡ true → Has over a → Has over b → is_type (type_of c.sig c.terms a) u ≡ true → is_type (type_of c.sig c.terms b) u ≡ true → element_of c a ≡ element_of c b → c.same (object a) (object b) ≡ true
  declared_class Ty.Bool a b d ha hb ea eb e = absurd (false≢true d)
  declared_class (Ty.Of s) a b d ha hb ea eb e = one_class s.0 a b ha hb (type_is (type_of c.sig c.terms a) (Ty.Of s) ea) (type_is (type_of c.sig c.terms b) (Ty.Of s) eb) e

  related : (us : List Ty) (as' bs : List ℕ) → list_all is_declared us ≡ true → ((k : ℕ) → Has as' k → Has over k) → ((k : ℕ) → Has bs k → Has over k) → are_of_types c.sig c.terms as' us ≡ true → are_of_types c.sig c.terms bs us ≡ true → map (element_of c) as' ≡ map (element_of c) bs → are_related c.same as' bs ≡ true
  related [] [] [] d ha hb ea eb e = refl
  related [] [] (b ∷ bs) d ha hb ea eb e = absurd (false≢true eb)
  related [] (a ∷ as') bs d ha hb ea eb e = absurd (false≢true ea)
  related (u ∷ us) [] bs d ha hb ea eb e = absurd (false≢true ea)
  related (u ∷ us) (a ∷ as') [] d ha hb ea eb e = absurd (false≢true eb)
  related (u ∷ us) (a ∷ as') (b ∷ bs) d ha hb ea eb e =
      let pd = and_parts (is_declared u) (list_all is_declared us) d in
      let pa = and_parts (is_type (type_of c.sig c.terms a) u) (are_of_types c.sig c.terms as' us) ea in
      let pb = and_parts (is_type (type_of c.sig c.terms b) u) (are_of_types c.sig c.terms bs us) eb in
      let first : element_of c a ≡ element_of c b = cc e in
      let rest : map (element_of c) as' ≡ map (element_of c) bs = cc e in
      and_from (c.same (object a) (object b)) (are_related c.same as' bs) (declared_class u a b pd.0 (ha a (inl refl)) (hb b (inl refl)) pa.0 pb.0 first) (related us as' bs pd.1 (λ k h. ha k (inr h)) (λ k h. hb k (inr h)) pa.1 pb.1 rest)

  pub application_parts : (f : ℕ) (xs : List ℕ) (o : Option Term) → is_application_at c f xs o ≡ true → (t : Term) × (o ≡ Some t) × (t.symbol ≡ f) × (map (element_of c) t.args ≡ xs)
  application_parts f xs None e = absurd (false≢true e)
  application_parts f xs (Some t) e =
      let p = and_parts (t.symbol == f) (bytes_eq (map (element_of c) t.args) xs) e in
      (t, refl, eqb-true t.symbol f p.0, (bytes_decides (map (element_of c) t.args) xs).0 p.1)

  -- the value at a reached term's arguments is the term's element
  pub value_there : (n : ℕ) (t : Term) → Has over n → slice_get c.terms n ≡ Some t → value_at c t.symbol (map (element_of c) t.args) ≡ element_of c n
  value_there n t h e =
      let xs = map (element_of c) t.args in
      let q : ℕ → Bool = λ m. is_application_at c t.symbol xs (slice_get c.terms m) in
      let itself : q n ≡ true = ap (is_application_at c t.symbol xs) e ∙ and_from (t.symbol == t.symbol) (bytes_eq xs xs) (eq-eqb t.symbol t.symbol refl) ((bytes_decides xs xs).1 refl) in
      let f = find_there q over n h itself in
      let k = f.0 in
      let a = application_parts t.symbol xs (slice_get c.terms k) f.3 in
      let mine = parts_of c.sig c.terms n t g.terms e in
      let other = parts_of c.sig c.terms k a.0 g.terms a.1 in
      let ranks : mine.rank ≡ other.rank = cc (sym mine.is ∙ ap (slice_get c.sig.ranks) (sym a.2) ∙ other.is) in
      let typed : are_of_types c.sig c.terms a.0.args mine.rank.args ≡ true = subst (λ (r : Rank). are_of_types c.sig c.terms a.0.args r.args ≡ true) (sym ranks) other.typed in
      let alike = related mine.rank.args a.0.args t.args (g.declared t.symbol mine.rank mine.is) (λ j i. rounds.closed k j a.0 f.2 a.1 i) (λ j i. rounds.closed n j t h e i) typed mine.typed a.3 in
      ap (element_of_first c) f.1 ∙ same_element k n (g.congruent k n a.0 t f.2 h a.1 e a.2 alike)

  -- in a reading that gives reached terms' elements the elements of the terms
  module _ (w : Reading) (there : (n : ℕ) (t : Term) → Has over n → slice_get c.terms n ≡ Some t → w.at t.symbol (map (element_of c) t.args) ≡ element_of c n) where
    each_value : (b n : ℕ) (t : Term) → ((k : ℕ) → k < b → Has over k → value_of w c.terms k ≡ element_of c k) → Has over n → slice_get c.terms n ≡ Some t → n ≤ b → ((k : ℕ) → Has t.args k → k < n)
        → (ks : List ℕ) → ((k : ℕ) → Has ks k → Has t.args k) → map (value_of w c.terms) ks ≡ map (element_of c) ks
    each_value b n t ih h e le before [] sub = refl
    each_value b n t ih h e le before (k ∷ ks) sub =
        let here : value_of w c.terms k ≡ element_of c k = ih k (omega (arith, before k (sub k (inl refl)), le)) (rounds.closed n k t h e (sub k (inl refl))) in
        let rest = each_value b n t ih h e le before ks (λ j i. sub j (inr i)) in
        λ i. here i ∷ rest i

    values_below : (b : ℕ) (n : ℕ) → n < b → Has over n → value_of w c.terms n ≡ element_of c n
    values_below zero n lt h = absurd (omega (arith, lt))
    values_below (suc b) n lt h =
        let t = rounds.terms n h in
        let p = parts_of c.sig c.terms n t.0 g.terms t.1 in
        value_is c.sig w c.terms n t.0 g.terms t.1 ∙ ap (w.at t.0.symbol) (each_value b n t.0 (λ k less i. values_below b k less i) h t.1 (omega (arith, lt)) p.before t.0.args (λ k i. i)) ∙ there n t.0 h t.1

    pub read_value : (n : ℕ) → Has over n → value_of w c.terms n ≡ element_of c n
    read_value n h = values_below (suc n) n (omega arith) h

  pub reached_value : (n : ℕ) → Has over n → value_of (candidate_reading c) c.terms n ≡ element_of c n
  reached_value n h = read_value (candidate_reading c) value_there n h
