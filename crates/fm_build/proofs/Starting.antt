-- Steps of the loops that find the terms at the start, and that ask an e-graph.
use Rattle.std.proofs.Common.{◌≡◌, ◌↔◌, ℕ, zero, suc, ◌+◌, ◌-◌, ◌<◌, ◌≤◌, ◌||◌, Bool, true, false, cond, List, [], ◌∷◌, ◌++◌, drop, length, Some, refl, sym, subst, ap, ◌∙◌, arith, inl, inr, get_or, append_assoc}
use Rattle.std.specs.List.{filter, flat_map, list_any, range_with_len}
use Rattle.std.proofs.lemmas.Bool.{cases_lt}
use Rattle.std.proofs.Math.ListN.{get_or-append}
use Rattle.std.proofs.Math.Seq.{get_or-append_seam}
use Rattle.std.proofs.lemmas.List.{drop_more, length-append}
use Rattle.std.proofs.lemmas.Option.{slice_get-get_or}
use Rattle.fm_base.specs.declared.ids.TermId.{TermId}
use Rattle.fm_base.specs.declared.signature.Sig.{Sig}
use Rattle.fm_base.specs.declared.signature.Ty.{Ty}
use Rattle.fm_bank.specs.Closure.{object, yes}
use Rattle.fm_bank.specs.Terms.{Term, find, is_type, type_in, type_of}
use Rattle.fm_cong.specs.Held.{AreEqual, Held as Graph}
use Rattle.fm_cong.specs.Types.{IsOldestOf}
use Rattle.fm_rounds.specs.InstanceTerms.{as_list, is_term_of}
use Rattle.fm_build.specs.Fresh.{constants_from}
use Rattle.fm_build.specs.Marks.{class_at}
use Rattle.fm_build.specs.Parts.{AreClasses, AreTruths}
use Rattle.fm_build.proofs.Placing.{filter_append, range_next}

any_found : {X : Type 0} (p : X → Bool) (xs : List X) (n : ℕ) (d : X) (b : Bool) → n < length xs → p (get_or xs n d) ≡ b → list_any p (drop n xs) ≡ (b || list_any p (drop (n + 1) xs))
any_found p xs n d b lt e = ap (list_any p) (drop_more xs n d lt) ∙ ap (λ c. c || list_any p (drop (n + 1) xs)) e

-- the term of a number is of the sort, or isn't
is_there : (sig : Sig) (s : ℕ) (terms : List Term) (n : ℕ) (ty : Ty) (b : Bool) → n < length terms → type_of sig terms n ≡ Some ty → b ≡ is_type (Some ty) (Ty.Of (record { 0 = s })) → is_term_of sig s (get_or terms n (record { symbol = 0; args = [] })) ≡ b
is_there sig s terms n ty b lt typed is =
    let t : Term = get_or terms n (record { symbol = 0; args = [] }) in
    let at = slice_get-get_or terms n (record { symbol = 0; args = [] }) lt in
    let same : type_in sig (Some t) ≡ Some ty = ap (type_in sig) (sym at) ∙ typed in
    ap (λ o. is_type o (Ty.Of (record { 0 = s }))) same ∙ sym is

pub term_is_of : (sig : Sig) (s : ℕ) (terms : List Term) (n : ℕ) (ty : Ty) (b : Bool) → n < length terms → type_of sig terms n ≡ Some ty → b ≡ is_type (Some ty) (Ty.Of (record { 0 = s })) → b ≡ true
    → list_any (is_term_of sig s) (drop n terms) ≡ list_any (is_term_of sig s) terms → true ≡ list_any (is_term_of sig s) terms
term_is_of sig s terms n ty b lt typed is e inv = sym (any_found (is_term_of sig s) terms n (record { symbol = 0; args = [] }) true lt (is_there sig s terms n ty b lt typed is ∙ e)) ∙ inv

pub term_is_not_of : (sig : Sig) (s : ℕ) (terms : List Term) (n : ℕ) (ty : Ty) (b : Bool) → n < length terms → type_of sig terms n ≡ Some ty → b ≡ is_type (Some ty) (Ty.Of (record { 0 = s })) → b ≡ false
    → list_any (is_term_of sig s) (drop n terms) ≡ list_any (is_term_of sig s) terms → list_any (is_term_of sig s) (drop (n + 1) terms) ≡ list_any (is_term_of sig s) terms
term_is_not_of sig s terms n ty b lt typed is e inv = sym (any_found (is_term_of sig s) terms n (record { symbol = 0; args = [] }) false lt (is_there sig s terms n ty b lt typed is ∙ e)) ∙ inv

count_next : (n : ℕ) (xs : List ℕ) (b : Bool) → length (xs ++ cond b (n ∷ []) []) ≡ cond b (length xs + 1) (length xs)
count_next n xs true = length-append xs (n ∷ [])
count_next n xs false = let e = length-append xs [] in omega (arith, e)

-- how many numbers pass a test, with one more
pub more_pass : (p : ℕ → Bool) (n : ℕ) (b : Bool) → p n ≡ b → length (filter p (range_with_len 0 (n + 1))) ≡ cond b (length (filter p (range_with_len 0 n)) + 1) (length (filter p (range_with_len 0 n)))
more_pass p n b e =
    ap (λ l. length (filter p l)) (range_next n) ∙ ap (λ l. length l) (filter_append p (range_with_len 0 n) (n ∷ []))
    ∙ ap (λ c. length (filter p (range_with_len 0 n) ++ cond c (n ∷ []) [])) e ∙ count_next n (filter p (range_with_len 0 n)) b

abbrev constant : List Term → ℕ → List ℕ
constant terms f = as_list (find terms (record { symbol = f; args = [] }))

from_one : (terms : List Term) (f k : ℕ) → flat_map (constant terms) (range_with_len f (suc k)) ≡ constant terms f ++ flat_map (constant terms) (range_with_len (f + 1) k)
from_one terms f k = refl

constants_next : (terms : List Term) (f all : ℕ) → f < all → constants_from terms f all ≡ constant terms f ++ constants_from terms (f + 1) all
constants_next terms f all lt =
    let more : all - f ≡ suc (all - (f + 1)) = omega (arith, lt) in
    ap (λ k. flat_map (constant terms) (range_with_len f k)) more ∙ from_one terms f (all - (f + 1))

pub constant_put : (terms : List Term) (f all : ℕ) (old new : List ℕ) (target : List ℕ) (own : List ℕ) → f < all → own ≡ constant terms f → new ≡ old ++ own → old ++ constants_from terms f all ≡ target → new ++ constants_from terms (f + 1) all ≡ target
constant_put terms f all old new target own lt is put inv =
    let rest = constants_from terms (f + 1) all in
    ap (λ l. l ++ rest) (put ∙ ap (λ l. old ++ l) is) ∙ append_assoc old (constant terms f) rest ∙ ap (λ l. old ++ l) (sym (constants_next terms f all lt)) ∙ inv

-- the numbers behind some of a range
pub drop_range : (k a n : ℕ) → k ≤ n → drop k (range_with_len a n) ≡ range_with_len (a + k) (n - k)
drop_range zero a n le = let at : a ≡ a + 0 = omega arith in let all : n ≡ n - 0 = omega arith in λ i. range_with_len (at i) (all i)
drop_range (suc k) a zero le = absurd (omega (arith, le))
drop_range (suc k) a (suc n) le =
    let at : a + 1 + k ≡ a + suc k = omega arith in
    let rest : n - k ≡ suc n - suc k = omega (arith, le) in
    drop_range k (a + 1) n (omega (arith, le)) ∙ (λ i. range_with_len (at i) (rest i))

pub constants_behind : (terms : List Term) (all few : ℕ) → constants_from terms (all - few) all ≡ flat_map (constant terms) (drop (all - few) (range_with_len 0 all))
constants_behind terms all few =
    let none : 0 + (all - few) ≡ all - few = omega arith in
    ap (flat_map (constant terms)) (sym (drop_range (all - few) 0 all (omega arith) ∙ ap (λ a. range_with_len a (all - (all - few))) none))

-- one more class, and one more truth value
pub classes_next : (g : Graph) (n : ℕ) (class new : List ℕ) (oldest : TermId) → AreClasses g n class → IsOldestOf g (record { 0 = n }) oldest → new ≡ class ++ oldest.0 ∷ [] → AreClasses g (n + 1) new
classes_next g n class new oldest h is put =
    let many = h.many in
    subst (AreClasses g (n + 1)) (sym put) (record {
      many = let e = length-append class (oldest.0 ∷ []) in omega (arith, e, many);
      each = λ m lt. elim (cases_lt m n) [
        | inl low ↦ subst (λ k. IsOldestOf g (record { 0 = m }) (record { 0 = k })) (sym (get_or-append class (oldest.0 ∷ []) 0 m (omega (arith, low, many)))) (h.each m low)
        | inr high ↦
            let here : m ≡ length class = omega (arith, lt, high, many) in
            let own : n ≡ m = omega (arith, lt, high) in
            let last : oldest.0 ≡ class_at (class ++ oldest.0 ∷ []) m = sym (ap (λ k. get_or (class ++ oldest.0 ∷ []) k 0) here ∙ get_or-append_seam class oldest.0 [] 0) in
            subst (λ k. IsOldestOf g (record { 0 = m }) (record { 0 = k })) last (subst (λ k. IsOldestOf g (record { 0 = k }) oldest) own is)
      ];
    })

pub truths_next : (g : Graph) (n : ℕ) (holds new : List Bool) (b : Bool) → AreTruths g n holds → (b ≡ true) ↔ AreEqual g (object n) yes → new ≡ holds ++ b ∷ [] → AreTruths g (n + 1) new
truths_next g n holds new b h is put =
    let many = h.many in
    subst (AreTruths g (n + 1)) (sym put) (record {
      many = let e = length-append holds (b ∷ []) in omega (arith, e, many);
      each = λ m lt. elim (cases_lt m n) [
        | inl low ↦ subst (λ k. (k ≡ true) ↔ AreEqual g (object m) yes) (sym (get_or-append holds (b ∷ []) false m (omega (arith, low, many)))) (h.each m low)
        | inr high ↦
            let here : m ≡ length holds = omega (arith, lt, high, many) in
            let own : n ≡ m = omega (arith, lt, high) in
            let last : b ≡ get_or (holds ++ b ∷ []) m false = sym (ap (λ k. get_or (holds ++ b ∷ []) k false) here ∙ get_or-append_seam holds b [] false) in
            subst (λ k. (k ≡ true) ↔ AreEqual g (object m) yes) last (subst (λ k. (b ≡ true) ↔ AreEqual g (object k) yes) own is)
      ];
    })
