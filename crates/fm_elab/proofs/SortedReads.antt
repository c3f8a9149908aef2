-- What elaborates is well sorted, by one induction on how deep items nest: a term wherever the bound names that stand in it
-- are well sorted, and a term that was given a name anywhere.
use Rattle.std.proofs.Common.{◌≡◌, ℕ, zero, suc, ◌+◌, ◌-◌, ◌<◌, ◌≤◌, Bool, true, false, cond, List, [], ◌∷◌, ◌++◌, map, length, Option, Some, None, ap, refl, sym, subst, ◌∙◌, arith}
use Rattle.std.specs.Prelude.{Err, Ok, Result, codes, min, nat_lt, slice_get}
use Rattle.std.specs.List.{AllByRecursion, list_all}
use Rattle.std.specs.Str.{bytes_eq}
use Rattle.std.proofs.lemmas.Bool.{and_from, ltb-false, ltb-true}
use Rattle.std.proofs.lemmas.Option.{slice_get_within}
use Rattle.fm_base.specs.Interpretations.{is_sort_of}
use Rattle.fm_base.specs.Truth.{is_bool}
use Rattle.fm_base.specs.declared.ids.SortId.{SortId}
use Rattle.fm_base.specs.declared.refusal.Place.{Place}
use Rattle.fm_base.specs.declared.refusal.Reason.{Reason}
use Rattle.fm_base.specs.declared.refusal.Refusal.{Refusal}
use Rattle.fm_base.specs.declared.signature.Sig.{Sig}
use Rattle.fm_base.specs.declared.signature.Ty.{Ty}
use Rattle.fm_sexp.specs.declared.items.Sexp.{Sexp}
use Rattle.fm_script.specs.Shown.{Name}
use Rattle.fm_script.specs.Commands.{bad_shape, members_of, name_of, parameters_in, place_of_item, symbol_of}
use Rattle.fm_arena.specs.Meanings.{Term, named, quantified}
use Rattle.fm_apply.specs.Applied.{Bound, Context, Function, Named, Sort, and_then, constant_of, function_at, function_by, function_named, in_force, is_taken, or_else, refused, unless_large}
use Rattle.fm_terms.specs.Elaborate.{Answer, Attribute, Go, Read, Reads, all_at, annotated_at, annotated_with, application_at, applied_to, attribute_at, attributes_at, attributes_of, bound_to, by_bound, by_head, closes_at, elaborated, is_list, is_word, items_in, let_at, let_over, let_with, list_at, name_in, named_at, nesting, newest_from, none_read, outside, pairs_in, quantified_at, quantifier_at, quantifier_over, quantifier_with, read_at, read_of, repeated, sort_named, term_at, term_step, unless_again, unless_repeated, variable_sort, variable_sort_in, variable_sorts, variables_at, variables_named, with_bound, with_name, with_read, word_at}
use Rattle.fm_elab.specs.Sorted.{AreAnywhere, AreBelow, AreSortedFrom, IsSortedAnywhere, IsSortedContext, IsSortedFunction, IsSortedMeaning, IsSortedRead, IsSortedTerm, Known, nothing_known, parameters}
use Rattle.fm_elab.proofs.SortedTerms.{AllSorted, name_sorted, of_variable, quantified_sorted, wider_sorted, with_variables}
use Rattle.fm_elab.proofs.SortedCore.{IsSortedWhere, constant_sorted, either, function_sorted, is_fitting, no_answer, went_on}

-- lists

pub all_both : {A : Type 0} (P : A → Type 0) (xs ys : List A) → AllByRecursion P xs → AllByRecursion P ys → AllByRecursion P (xs ++ ys)
all_both P [] ys a b = b
all_both P (x ∷ xs) ys a b = (a.0, all_both P xs ys a.1 b)

-- an element of one list or of the other
get_either : {A G : Type 0} (xs ys : List A) (i : ℕ) (a : A) → slice_get (xs ++ ys) i ≡ Some a → (slice_get xs i ≡ Some a → G) → ((k : ℕ) → i ≡ length xs + k → slice_get ys k ≡ Some a → G) → G
get_either [] ys i a e f g = g i (omega arith) e
get_either (x ∷ xs) ys zero a e f g = f e
get_either (x ∷ xs) ys (suc i) a e f g = get_either xs ys i a e f (λ k p q. g k (omega (arith, p)) q)

read_is : (a b : Read) → ◌≡◌ {A = Answer} (Ok a) (Ok b) → a ≡ b
read_is a b e = cc e

some_term : {A : Type 0} (a b : A) → Some a ≡ Some b → a ≡ b
some_term a b e = cc e

-- where a term answers what is read
read_from : (ns : List Named) (low : ℕ) (a : Result Term Refusal) (r : Read) → read_at ns low a ≡ Ok r → (t : Term) × (a ≡ Ok t) × (read_of ns low t ≡ r)
read_from ns low a r e =
    let w = went_on a (λ (t : Term). Ok (read_of ns low t)) r e in
    (w.0, w.1, read_is (read_of ns low w.0) r w.2)

-- functions in force

given_sorted : (sig : Sig) (ns : List Named) → AreAnywhere sig ns → AllByRecursion (IsSortedFunction sig) (map function_by ns)
given_sorted sig [] a = tt
given_sorted sig (n ∷ ns) a = (wider_sorted nothing_known (parameters []) sig n.term.ty n.term.meaning (λ place t k. cc k) a.0, given_sorted sig ns a.1)

in_force_sorted : (sig : Sig) (c : Context) (ns : List Named) → IsSortedContext sig c → AreAnywhere sig ns → AllByRecursion (IsSortedFunction sig) (in_force c ns)
in_force_sorted sig c ns s a = all_both (IsSortedFunction sig) c.functions (map function_by ns) s.functions (given_sorted sig ns a)

chosen_sorted : (sig : Sig) (b : Bool) (f : Function) (rest : Option Function) → IsSortedFunction sig f → IsSortedWhere sig rest → IsSortedWhere sig (cond b (Some f) rest)
chosen_sorted sig true f rest s r = s
chosen_sorted sig false f rest s r = r

found_sorted : (sig : Sig) (name : List ℕ) (fs : List Function) → AllByRecursion (IsSortedFunction sig) fs → IsSortedWhere sig (function_named name fs)
found_sorted sig name [] a = tt
found_sorted sig name (f ∷ fs) a = chosen_sorted sig (bytes_eq f.name name) f (function_named name fs) a.0 (found_sorted sig name fs a.1)

-- bound names

pub record IsBoundAt (bs : List Bound) (i : ℕ) (p : ℕ × Term) : Type 0 where
  pub k : ℕ
  pub bound : Bound
  pub place : p.0 ≡ i + k
  pub there : slice_get bs k ≡ Some bound
  pub term : p.1 ≡ bound.term

later_bound : (b : Bound) (bs : List Bound) (i : ℕ) (p : ℕ × Term) → IsBoundAt bs (i + 1) p → IsBoundAt (b ∷ bs) i p
later_bound b bs i p h = let q = h.place in record { k = suc h.k; bound = h.bound; place = omega (arith, q); there = h.there; term = h.term }

first_bound : (b : Bound) (bs : List Bound) (i : ℕ) (p : ℕ × Term) → (i, b.term) ≡ p → IsBoundAt (b ∷ bs) i p
first_bound b bs i p e = record { k = 0; bound = b; place = ap (λ (q : ℕ × Term). q.0) (sym e) ∙ omega arith; there = refl; term = ap (λ (q : ℕ × Term). q.1) (sym e) }

own_bound : (same : Bool) (b : Bound) (bs : List Bound) (i : ℕ) (p : ℕ × Term) → cond same (Some (i, b.term)) None ≡ Some p → IsBoundAt (b ∷ bs) i p
own_bound true b bs i p e = first_bound b bs i p (some_term (i, b.term) p e)
own_bound false b bs i p e = cc e

either_bound : (o : Option (ℕ × Term)) (same : Bool) (b : Bound) (bs : List Bound) (i : ℕ) (p : ℕ × Term) → (o ≡ Some p → IsBoundAt bs (i + 1) p) → or_else o (cond same (Some (i, b.term)) None) ≡ Some p → IsBoundAt (b ∷ bs) i p
either_bound (Some q) same b bs i p h e = later_bound b bs i p (h e)
either_bound None same b bs i p h e = own_bound same b bs i p e

newest_bound : (i : ℕ) (name : List ℕ) (bs : List Bound) (p : ℕ × Term) → newest_from i name bs ≡ Some p → IsBoundAt bs i p
newest_bound i name [] p e = cc e
newest_bound i name (b ∷ bs) p e = either_bound (newest_from (i + 1) name bs) (bytes_eq b.name name) b bs i p (newest_bound (i + 1) name bs p) e

-- names

bound_read : (sig : Sig) (c : Context) (ns : List Named) (p : ℕ × Term) → AreAnywhere sig ns → IsBoundAt c.bound 0 p → IsSortedRead sig c (read_of ns p.0 p.1)
bound_read sig c ns p a h =
    let q = h.place in
    record {
      term = λ known below from. subst (IsSortedTerm known sig) (sym h.term) (from h.k h.bound (omega (arith, q)) h.there);
      named = a;
    }

name_read : (sig : Sig) (c : Context) (ns : List Named) (n : Name) (o : Option (ℕ × Term)) (r : Read) → IsSortedContext sig c → AreAnywhere sig ns → newest_from 0 n.bytes c.bound ≡ o → by_bound c ns n o ≡ Ok r → IsSortedRead sig c r
name_read sig c ns n (Some p) r s a e h = subst (IsSortedRead sig c) (read_is (read_of ns p.0 p.1) r h) (bound_read sig c ns p a (newest_bound 0 n.bytes c.bound p e))
name_read sig c ns n None r s a e h =
    let f = function_named n.bytes (in_force c ns) in
    let w = read_from ns (none_read c) (constant_of c n f) r h in
    let constant : IsSortedWhere sig f = found_sorted sig n.bytes (in_force c ns) (in_force_sorted sig c ns s a) in
    subst (IsSortedRead sig c) w.2 (record { term = λ known below from. constant_sorted known sig c n f w.0 constant w.1; named = a })

word_read : (sig : Sig) (c : Context) (ns : List Named) (at : Place) (o : Option Name) (r : Read) → IsSortedContext sig c → AreAnywhere sig ns → word_at c ns at o ≡ Ok r → IsSortedRead sig c r
word_read sig c ns at None r s a h = absurd (no_answer (bad_shape at) r h)
word_read sig c ns at (Some n) r s a h = name_read sig c ns n (newest_from 0 n.bytes c.bound) r s a refl h

-- terms one after the other

abbrev pub Keeps : Sig → Go → Type 0
Keeps sig go = (c : Context) (ns : List Named) (x : Sexp) (r : Read) → IsSortedContext sig c → AreAnywhere sig ns → go c ns x ≡ Ok r → IsSortedRead sig c r

pub record AreSortedReads (sig : Sig) (c : Context) (xs : List Sexp) (rs : Reads) : Type 0 where
  pub terms : (known : Known) → AreBelow c.places known → AreSortedFrom known sig rs.low c.bound → AllSorted known sig rs.terms
  pub named : AreAnywhere sig rs.named
  pub count : length rs.terms ≡ length xs

from_lower : (known : Known) (sig : Sig) (low other : ℕ) (bs : List Bound) → low ≤ other → AreSortedFrom known sig low bs → AreSortedFrom known sig other bs
from_lower known sig low other bs l from i b k e = from i b (omega (arith, l, k)) e

reads_is : (a b : Reads) → ◌≡◌ {A = Result Reads Refusal} (Ok a) (Ok b) → a ≡ b
reads_is a b e = cc e

reads_more : (sig : Sig) (c : Context) (x : Sexp) (xs : List Sexp) (r : Read) (rs : Reads) → IsSortedRead sig c r → AreSortedReads sig c xs rs → AreSortedReads sig c (x ∷ xs) (record { terms = r.term ∷ rs.terms; low = min r.low rs.low; named = rs.named })
reads_more sig c x xs r rs h k = record {
  terms = λ known below from. (h.term known below (from_lower known sig (min r.low rs.low) r.low c.bound (omega arith) from), k.terms known below (from_lower known sig (min r.low rs.low) rs.low c.bound (omega arith) from));
  named = k.named;
  count = ap suc k.count;
}

all_read : (sig : Sig) (go : Go) → Keeps sig go → (c : Context) (ns : List Named) (xs : List Sexp) (rs : Reads) → IsSortedContext sig c → AreAnywhere sig ns → all_at go c ns xs ≡ Ok rs → AreSortedReads sig c xs rs
all_read sig go g c ns [] rs s a h =
    let none : Reads = record { terms = []; low = none_read c; named = ns } in
    subst (AreSortedReads sig c []) (reads_is none rs h) (record { terms = λ known below from. tt; named = a; count = refl })
all_read sig go g c ns (x ∷ xs) rs s a h =
    let w = went_on (go c ns x) (λ (r : Read). and_then (all_at go c r.named xs) (with_read r)) rs h in
    let v = went_on (all_at go c w.0.named xs) (with_read w.0) rs w.2 in
    let one = g c ns x w.0 s a w.1 in
    let rest = all_read sig go g c w.0.named xs v.0 s one.named v.1 in
    let both : Reads = record { terms = w.0.term ∷ v.0.terms; low = min w.0.low v.0.low; named = v.0.named } in
    subst (AreSortedReads sig c (x ∷ xs)) (reads_is both rs v.2) (reads_more sig c x xs w.0 v.0 one rest)

-- applications

application_read : (sig : Sig) (go : Go) → Keeps sig go → (c : Context) (ns : List Named) (at : Place) (o : Option Name) (xs : List Sexp) (r : Read) → IsSortedContext sig c → AreAnywhere sig ns → application_at go c ns at o xs ≡ Ok r → IsSortedRead sig c r
application_read sig go g c ns at None xs r s a h = absurd (no_answer (bad_shape at) r h)
application_read sig go g c ns at (Some n) [] r s a h = absurd (no_answer (bad_shape at) r h)
application_read sig go g c ns at (Some n) (x ∷ xs) r s a h =
    let w = went_on (all_at go c ns (x ∷ xs)) (applied_to c at n (x ∷ xs)) r h in
    let rs = all_read sig go g c ns (x ∷ xs) w.0 s a w.1 in
    let f = function_named n.bytes (in_force c w.0.named) in
    let v = read_from w.0.named w.0.low (function_at c at n (x ∷ xs) w.0.terms f) r w.2 in
    let found : IsSortedWhere sig f = found_sorted sig n.bytes (in_force c w.0.named) (in_force_sorted sig c w.0.named s rs.named) in
    subst (IsSortedRead sig c) v.2
    (record { term = λ known below from. function_sorted known sig c at n (x ∷ xs) w.0.terms f v.0 rs.count (rs.terms known below from) found v.1; named = rs.named })

-- let

bound_sorted : (known : Known) (sig : Sig) (ps : List (Name × Sexp)) (ts : List Term) (k : ℕ) (b : Bound) → AllSorted known sig ts → slice_get (bound_to ps ts) k ≡ Some b → IsSortedTerm known sig b.term
bound_sorted known sig [] ts k b a e = cc e
bound_sorted known sig (p ∷ ps) [] k b a e = cc e
bound_sorted known sig (p ∷ ps) (t ∷ ts) zero b a e = subst (λ (d : Bound). IsSortedTerm known sig d.term) (some_term (record { name = p.0.bytes; term = t }) b e) a.0
bound_sorted known sig (p ∷ ps) (t ∷ ts) (suc k) b a e = bound_sorted known sig ps ts k b a.1 e

let_read : (sig : Sig) (go : Go) → Keeps sig go → (c : Context) (ps : List (Name × Sexp)) (u : Sexp) (xs : List Sexp) (rs : Reads) (r : Read) → IsSortedContext sig c → AreSortedReads sig c xs rs → let_over go c ps u rs ≡ Ok r → IsSortedRead sig c r
let_read sig go g c ps u xs rs r s k h =
    let inner : Context = with_bound c (bound_to ps rs.terms) c.places in
    let w = went_on (go inner rs.named u) (outside c rs.low) r h in
    let one : IsSortedRead sig inner w.0 = g inner rs.named u w.0 (record { sorts = s.sorts; functions = s.functions }) k.named w.1 in
    let low : ℕ = min rs.low (min (none_read c) w.0.low) in
    subst (IsSortedRead sig c) (read_is (read_of w.0.named low w.0.term) r w.2)
    (record {
      term = λ known below from.
          let terms = k.terms known below (from_lower known sig low rs.low c.bound (omega arith) from) in
          one.term known below (λ i b l e.
          get_either c.bound (bound_to ps rs.terms) i b e
          (λ q. from i b (omega (arith, l)) q)
          (λ j p q. bound_sorted known sig ps rs.terms j b terms q));
      named = one.named;
    })

not_repeated : {A : Type 0} (o : Option Place) (a : Result A Refusal) (t : A) → unless_repeated o a ≡ Ok t → a ≡ Ok t
not_repeated None a t h = h
not_repeated (Some at) a t h = absurd (no_answer (bad_shape at) t h)

lets_read : (sig : Sig) (go : Go) → Keeps sig go → (c : Context) (ns : List Named) (at : Place) (o : Option (List (Name × Sexp))) (u : Sexp) (r : Read) → IsSortedContext sig c → AreAnywhere sig ns → let_with go c ns at o u ≡ Ok r → IsSortedRead sig c r
lets_read sig go g c ns at None u r s a h = absurd (no_answer (bad_shape at) r h)
lets_read sig go g c ns at (Some []) u r s a h = absurd (no_answer (bad_shape at) r h)
lets_read sig go g c ns at (Some (p ∷ ps)) u r s a h =
    let all = and_then (all_at go c ns (items_in (p ∷ ps))) (let_over go c (p ∷ ps) u) in
    let w = went_on (all_at go c ns (items_in (p ∷ ps))) (let_over go c (p ∷ ps) u) r (not_repeated (repeated [] (p ∷ ps)) all r h) in
    let_read sig go g c (p ∷ ps) u (items_in (p ∷ ps)) w.0 r s (all_read sig go g c ns (items_in (p ∷ ps)) w.0 s a w.1) w.2

let_at_read : (sig : Sig) (go : Go) → Keeps sig go → (c : Context) (ns : List Named) (at : Place) (xs : List Sexp) (r : Read) → IsSortedContext sig c → AreAnywhere sig ns → let_at go c ns at xs ≡ Ok r → IsSortedRead sig c r
let_at_read sig go g c ns at [] r s a h = absurd (no_answer (bad_shape at) r h)
let_at_read sig go g c ns at (bs ∷ []) r s a h = absurd (no_answer (bad_shape at) r h)
let_at_read sig go g c ns at (bs ∷ u ∷ []) r s a h = lets_read sig go g c ns at (pairs_in c.text (members_of bs)) u r s a h
let_at_read sig go g c ns at (bs ∷ u ∷ x ∷ xs) r s a h = absurd (no_answer (bad_shape at) r h)

-- quantifiers: the sorts of variables are declared ones

sort_there : (sig : Sig) (name : List ℕ) (sorts : List Sort) (ty : Ty) → AllByRecursion (λ (s : Sort). is_sort_of sig.sorts s.ty ≡ true) sorts → sort_named name sorts ≡ Some ty → is_sort_of sig.sorts ty ≡ true
sort_there sig name [] ty a e = cc e
sort_there sig name (d ∷ ds) ty a e =
    either (bytes_eq d.name name) (Some d.ty) (sort_named name ds) (Some ty) e
    (λ b k. subst (λ (t : Ty). is_sort_of sig.sorts t ≡ true) (some_term d.ty ty k) a.0) (λ b k. sort_there sig name ds ty a.1 k)

sort_is : (u s : SortId) → ◌≡◌ {A = Result SortId Refusal} (Ok u) (Ok s) → u ≡ s
sort_is u s e = cc e

sort_in : (sig : Sig) (at : Place) (o : Option Ty) (s : SortId) → ((ty : Ty) → o ≡ Some ty → is_sort_of sig.sorts ty ≡ true) → variable_sort_in at o ≡ Ok s → nat_lt s.0 sig.sorts ≡ true
sort_in sig at None s k h = absurd (no_answer (refused Reason.UnknownSort at) s h)
sort_in sig at (Some Ty.Bool) s k h = absurd (no_answer (refused Reason.BoolArgument at) s h)
sort_in sig at (Some (Ty.Of u)) s k h = subst (λ (v : SortId). nat_lt v.0 sig.sorts ≡ true) (sort_is u s h) (k (Ty.Of u) refl)

variable_there : (sig : Sig) (sorts : List Sort) (at : Place) (o : Option Name) (s : SortId) → AllByRecursion (λ (d : Sort). is_sort_of sig.sorts d.ty ≡ true) sorts → variable_sort sorts at o ≡ Ok s → nat_lt s.0 sig.sorts ≡ true
variable_there sig sorts at None s a h = absurd (no_answer (refused Reason.SortArity at) s h)
variable_there sig sorts at (Some n) s a h =
    either (bytes_eq n.bytes (codes "Bool")) (Err (refused Reason.BoolArgument n.at)) (variable_sort_in n.at (sort_named n.bytes sorts)) (Ok s) h
    (λ b k. absurd (no_answer (refused Reason.BoolArgument n.at) s k))
    (λ b k. sort_in sig n.at (sort_named n.bytes sorts) s (λ ty e. sort_there sig n.bytes sorts ty a e) k)

abbrev pub are_there : Sig → List SortId → Bool
are_there sig ss = list_all (λ (s : SortId). nat_lt s.0 sig.sorts) ss

sorts_is : (a b : List SortId) → ◌≡◌ {A = Result (List SortId) Refusal} (Ok a) (Ok b) → a ≡ b
sorts_is a b e = cc e

variables_there : (sig : Sig) (text : List ℕ) (sorts : List Sort) (ps : List (Name × Sexp)) (ss : List SortId) → AllByRecursion (λ (d : Sort). is_sort_of sig.sorts d.ty ≡ true) sorts → variable_sorts text sorts ps ≡ Ok ss → are_there sig ss ≡ true
variables_there sig text sorts [] ss a h = subst (λ (l : List SortId). are_there sig l ≡ true) (sorts_is [] ss h) refl
variables_there sig text sorts (p ∷ ps) ss a h =
    let w = went_on (variable_sort sorts (place_of_item p.1) (name_of text p.1)) (λ (s : SortId). and_then (variable_sorts text sorts ps) (λ (more : List SortId). Ok (s ∷ more))) ss h in
    let v = went_on (variable_sorts text sorts ps) (λ (more : List SortId). Ok (w.0 ∷ more)) ss w.2 in
    subst (λ (l : List SortId). are_there sig l ≡ true) (sorts_is (w.0 ∷ v.0) ss v.2)
    (and_from (nat_lt w.0.0 sig.sorts) (are_there sig v.0) (variable_there sig sorts (place_of_item p.1) (name_of text p.1) w.0 a w.1) (variables_there sig text sorts ps v.0 a v.1))

not_again : (o : Option Place) (l ss : List SortId) → unless_again o l ≡ Ok ss → l ≡ ss
not_again None l ss h = sorts_is l ss h
not_again (Some at) l ss h = absurd (no_answer (bad_shape at) ss h)

block_there : (sig : Sig) (text : List ℕ) (sorts : List Sort) (at : Place) (ps : List (Name × Sexp)) (ss : List SortId) → AllByRecursion (λ (d : Sort). is_sort_of sig.sorts d.ty ≡ true) sorts → variables_at text sorts at ps ≡ Ok ss → are_there sig ss ≡ true
block_there sig text sorts at [] ss a h = absurd (no_answer (bad_shape at) ss h)
block_there sig text sorts at (p ∷ ps) ss a h =
    let w = went_on (variable_sorts text sorts (p ∷ ps)) (unless_again (repeated [] (p ∷ ps))) ss h in
    subst (λ (l : List SortId). are_there sig l ≡ true) (not_again (repeated [] (p ∷ ps)) w.0 ss w.2) (variables_there sig text sorts (p ∷ ps) w.0 a w.1)

-- the variables of a block as bound names

pub record IsVariable (place : ℕ) (ss : List SortId) (k : ℕ) (b : Bound) : Type 0 where
  pub sort : SortId
  pub there : slice_get ss k ≡ Some sort
  pub is : b.term ≡ record { ty = Ty.Of sort; meaning = named (place + k) false }

first_variable : (place : ℕ) (p : Name × Sexp) (s : SortId) (ss : List SortId) (b : Bound) → record { name = p.0.bytes; term = record { ty = Ty.Of s; meaning = named place false } } ≡ b → IsVariable place (s ∷ ss) 0 b
first_variable place p s ss b e =
    let same : place + 0 ≡ place = omega arith in
    record {
      sort = s;
      there = refl;
      is = ap (λ (d : Bound). d.term) (sym e) ∙ ap (λ (n : ℕ). let t : Term = record { ty = Ty.Of s; meaning = named n false } in t) (sym same);
    }

later_variable : (place : ℕ) (s : SortId) (ss : List SortId) (k : ℕ) (b : Bound) → IsVariable (place + 1) ss k b → IsVariable place (s ∷ ss) (suc k) b
later_variable place s ss k b h =
    let same : (place + 1) + k ≡ place + suc k = omega arith in
    record { sort = h.sort; there = h.there; is = h.is ∙ ap (λ (n : ℕ). let t : Term = record { ty = Ty.Of h.sort; meaning = named n false } in t) same }

variable_bound : (place : ℕ) (ps : List (Name × Sexp)) (ss : List SortId) (k : ℕ) (b : Bound) → slice_get (variables_named place ps ss) k ≡ Some b → IsVariable place ss k b
variable_bound place [] ss k b e = cc e
variable_bound place (p ∷ ps) [] k b e = cc e
variable_bound place (p ∷ ps) (s ∷ ss) zero b e = first_variable place p s ss b (some_term (record { name = p.0.bytes; term = record { ty = Ty.Of s; meaning = named place false } }) b e)
variable_bound place (p ∷ ps) (s ∷ ss) (suc k) b e = later_variable place s ss k b (variable_bound (place + 1) ps ss k b e)

-- what is known around a block is known within it, and so are its variables

known_within : (b : Bool) (known : Known) (place base : ℕ) (ss : List SortId) (ty : Ty) → nat_lt place base ≡ b → place < base → known place ≡ Some ty → cond b (known place) (of_variable (slice_get ss (place - base))) ≡ Some ty
known_within true known place base ss ty e l k = k
known_within false known place base ss ty e l k = let m = ltb-false place base e in absurd (omega (arith, m, l))

known_variable : (b : Bool) (known : Known) (base k : ℕ) (ss : List SortId) (s : SortId) → nat_lt (base + k) base ≡ b → slice_get ss k ≡ Some s → cond b (known (base + k)) (of_variable (slice_get ss ((base + k) - base))) ≡ Some (Ty.Of s)
known_variable true known base k ss s e h = let m = ltb-true (base + k) base e in absurd (omega (arith, m))
known_variable false known base k ss s e h =
    let same : (base + k) - base ≡ k = omega arith in
    ap (λ (j : ℕ). of_variable (slice_get ss j)) same ∙ ap of_variable h

variable_within : (o : Option SortId) (ss : List SortId) (k : ℕ) (ty : Ty) → slice_get ss k ≡ o → of_variable o ≡ Some ty → k < length ss
variable_within None ss k ty e h = cc h
variable_within (Some s) ss k ty e h = slice_get_within ss k s e

below_at : (b : Bool) (known : Known) (place base : ℕ) (ss : List SortId) (ty : Ty) → nat_lt place base ≡ b → cond b (known place) (of_variable (slice_get ss (place - base))) ≡ Some ty → place < base + length ss
below_at true known place base ss ty e k = let m = ltb-true place base e in omega (arith, m)
below_at false known place base ss ty e k = let l = variable_within (slice_get ss (place - base)) ss (place - base) ty refl k in let m = ltb-false place base e in omega (arith, m, l)

below_within : (known : Known) (base : ℕ) (ss : List SortId) → AreBelow (base + length ss) (with_variables base ss known)
below_within known base ss place ty k = below_at (nat_lt place base) known place base ss ty refl k

variable_sorted : (known : Known) (sig : Sig) (base : ℕ) (ss : List SortId) (k : ℕ) (b : Bound) → IsVariable base ss k b → IsSortedTerm (with_variables base ss known) sig b.term
variable_sorted known sig base ss k b h =
    subst (IsSortedTerm (with_variables base ss known) sig) (sym h.is)
    (name_sorted (with_variables base ss known) sig (base + k) (Ty.Of h.sort) (known_variable (nat_lt (base + k) base) known base k ss h.sort refl h.there))

from_within : (known : Known) (sig : Sig) (base low : ℕ) (bs : List Bound) (ps : List (Name × Sexp)) (ss : List SortId) → AreBelow base known → AreSortedFrom known sig low bs → AreSortedFrom (with_variables base ss known) sig low (bs ++ variables_named base ps ss)
from_within known sig base low bs ps ss below from i b l e =
    get_either bs (variables_named base ps ss) i b e
    (λ q. wider_sorted known (with_variables base ss known) sig b.term.ty b.term.meaning (λ place t k. known_within (nat_lt place base) known place base ss t refl (below place t k) k) (from i b l q))
    (λ j p q. variable_sorted known sig base ss j b (variable_bound base ps ss j b q))

truth_type : (ty : Ty) → is_bool ty ≡ true → ty ≡ Ty.Bool
truth_type Ty.Bool e = refl
truth_type (Ty.Of s) e = cc e

quantified_is : (c : Context) (all : Bool) (ss : List SortId) (u : Sexp) (t q : Term) → quantified_at c all ss u t ≡ Ok q → (t.ty ≡ Ty.Bool) × (record { ty = Ty.Bool; meaning = quantified all ss c.places t.meaning } ≡ q)
quantified_is c all ss u t q h =
    let made : Term = record { ty = Ty.Bool; meaning = quantified all ss c.places t.meaning } in
    either (is_bool t.ty) (unless_large c.command made) (Err (refused Reason.SortMismatch (place_of_item u))) (Ok q) h
    (λ b e. (truth_type t.ty b, is_fitting c.command made q e)) (λ b e. absurd (no_answer (refused Reason.SortMismatch (place_of_item u)) q e))

block_sorted : (sig : Sig) (c : Context) (all : Bool) (ps : List (Name × Sexp)) (ss : List SortId) (t q : Term) (low : ℕ) (known : Known) → are_there sig ss ≡ true → t.ty ≡ Ty.Bool → record { ty = Ty.Bool; meaning = quantified all ss c.places t.meaning } ≡ q
    → ((wide : Known) → AreBelow (c.places + length ss) wide → AreSortedFrom wide sig low (c.bound ++ variables_named c.places ps ss) → IsSortedTerm wide sig t) → AreBelow c.places known → AreSortedFrom known sig low c.bound → IsSortedTerm known sig q
block_sorted sig c all ps ss t q low known v b e inner below from =
    let wide = with_variables c.places ss known in
    let body : IsSortedMeaning wide sig Ty.Bool t.meaning =
    subst (λ (ty : Ty). IsSortedMeaning wide sig ty t.meaning) b (inner wide (below_within known c.places ss) (from_within known sig c.places low c.bound ps ss below from)) in
    subst (IsSortedTerm known sig) e (quantified_sorted known sig all ss c.places t.meaning v body)

over_read : (sig : Sig) (go : Go) → Keeps sig go → (c : Context) (ns : List Named) (all : Bool) (ps : List (Name × Sexp)) (u : Sexp) (ss : List SortId) (r : Read) → IsSortedContext sig c → AreAnywhere sig ns → are_there sig ss ≡ true → quantifier_over go c ns all ps u ss ≡ Ok r → IsSortedRead sig c r
over_read sig go g c ns all ps u ss r s a v h =
    let inner : Context = with_bound c (variables_named c.places ps ss) (c.places + length ss) in
    let w = went_on (go inner ns u) (closes_at c all ss u) r h in
    let one : IsSortedRead sig inner w.0 = g inner ns u w.0 (record { sorts = s.sorts; functions = s.functions }) a w.1 in
    let low : ℕ = min (none_read c) w.0.low in
    let k = read_from w.0.named low (quantified_at c all ss u w.0.term) r w.2 in
    let q = quantified_is c all ss u w.0.term k.0 k.1 in
    subst (IsSortedRead sig c) k.2
    (record {
      term = λ known below from. block_sorted sig c all ps ss w.0.term k.0 w.0.low known v q.0 q.1 one.term below (from_lower known sig low w.0.low c.bound (omega arith) from);
      named = one.named;
    })

quantifier_read : (sig : Sig) (go : Go) → Keeps sig go → (c : Context) (ns : List Named) (all : Bool) (at : Place) (o : Option (List (Name × Sexp))) (u : Sexp) (r : Read) → IsSortedContext sig c → AreAnywhere sig ns → quantifier_with go c ns all at o u ≡ Ok r → IsSortedRead sig c r
quantifier_read sig go g c ns all at None u r s a h = absurd (no_answer (bad_shape at) r h)
quantifier_read sig go g c ns all at (Some ps) u r s a h =
    let w = went_on (variables_at c.text c.sorts at ps) (quantifier_over go c ns all ps u) r h in
    over_read sig go g c ns all ps u w.0 r s a (block_there sig c.text c.sorts at ps w.0 s.sorts w.1) w.2

quantifier_at_read : (sig : Sig) (go : Go) → Keeps sig go → (c : Context) (ns : List Named) (all : Bool) (at : Place) (xs : List Sexp) (r : Read) → IsSortedContext sig c → AreAnywhere sig ns → quantifier_at go c ns all at xs ≡ Ok r → IsSortedRead sig c r
quantifier_at_read sig go g c ns all at [] r s a h = absurd (no_answer (bad_shape at) r h)
quantifier_at_read sig go g c ns all at (bs ∷ []) r s a h = absurd (no_answer (bad_shape at) r h)
quantifier_at_read sig go g c ns all at (bs ∷ u ∷ []) r s a h = quantifier_read sig go g c ns all at (parameters_in c.text (members_of bs)) u r s a h
quantifier_at_read sig go g c ns all at (bs ∷ u ∷ x ∷ xs) r s a h = absurd (no_answer (bad_shape at) r h)

-- attributes

-- no name that is bound outside stands in what is read
free_of_bound : (sig : Sig) (c : Context) (r : Read) → nat_lt r.low (none_read c) ≡ false → IsSortedRead sig c r → IsSortedAnywhere sig r.term
free_of_bound sig c r l h =
    h.term nothing_known (λ place ty k. cc k) (λ i b le e. let w = slice_get_within c.bound i b e in let m = ltb-false r.low (none_read c) l in absurd (omega (arith, m, le, w)))

name_given : (sig : Sig) (c : Context) (r : Read) (name : List ℕ) → nat_lt r.low (none_read c) ≡ false → IsSortedRead sig c r → IsSortedRead sig c (with_name r name)
name_given sig c r name l h = record {
  term = h.term;
  named = all_both (λ (n : Named). IsSortedAnywhere sig n.term) r.named (record { name = name; term = r.term } ∷ []) h.named (free_of_bound sig c r l h, tt);
}

named_read : (sig : Sig) (c : Context) (at : Place) (o : Option Name) (r q : Read) → IsSortedRead sig c r → named_at c at o r ≡ Ok q → IsSortedRead sig c q
named_read sig c at None r q h e = absurd (no_answer (bad_shape at) q e)
named_read sig c at (Some n) r q h e =
    let given : Answer = cond (is_taken c r.named n.bytes) (Err (refused Reason.Redeclared n.at)) (Ok (with_name r n.bytes)) in
    either (nat_lt r.low (none_read c)) (Err (bad_shape n.at)) given (Ok q) e
    (λ b k. absurd (no_answer (bad_shape n.at) q k))
    (λ b k. either (is_taken c r.named n.bytes) (Err (refused Reason.Redeclared n.at)) (Ok (with_name r n.bytes)) (Ok q) k
    (λ b' k'. absurd (no_answer (refused Reason.Redeclared n.at) q k'))
    (λ b' k'. subst (IsSortedRead sig c) (read_is (with_name r n.bytes) q k') (name_given sig c r n.bytes b h)))

attribute_read : (sig : Sig) (c : Context) (at : Place) (t : Attribute) (r q : Read) → IsSortedRead sig c r → attribute_at c at t r ≡ Ok q → IsSortedRead sig c q
attribute_read sig c at t r q h e =
    let name : Answer = cond c.naming (named_at c at (name_in c.text t.value) r) (Err (bad_shape t.keyword.at)) in
    let pattern : Answer = cond (is_list t.value) (Ok r) (Err (bad_shape at)) in
    let same : Ok r ≡ Ok q → IsSortedRead sig c q = λ k. subst (IsSortedRead sig c) (read_is r q k) h in
    either (bytes_eq t.keyword.bytes (codes ":named")) name (cond (bytes_eq t.keyword.bytes (codes ":pattern")) pattern (Ok r)) (Ok q) e
    (λ b k. either c.naming (named_at c at (name_in c.text t.value) r) (Err (bad_shape t.keyword.at)) (Ok q) k (λ b' k'. named_read sig c at (name_in c.text t.value) r q h k') (λ b' k'. absurd (no_answer (bad_shape t.keyword.at) q k')))
    (λ b k. either (bytes_eq t.keyword.bytes (codes ":pattern")) pattern (Ok r) (Ok q) k (λ b' k'. either (is_list t.value) (Ok r) (Err (bad_shape at)) (Ok q) k' (λ d m. same m) (λ d m. absurd (no_answer (bad_shape at) q m))) (λ b' k'. same k'))

attributes_read : (sig : Sig) (c : Context) (at : Place) (ts : List Attribute) (r q : Read) → IsSortedRead sig c r → attributes_at c at ts r ≡ Ok q → IsSortedRead sig c q
attributes_read sig c at [] r q h e = subst (IsSortedRead sig c) (read_is r q e) h
attributes_read sig c at (t ∷ ts) r q h e =
    let w = went_on (attribute_at c at t r) (attributes_at c at ts) q e in
    attributes_read sig c at ts w.0 q (attribute_read sig c at t r w.0 h w.1) w.2

annotated_read : (sig : Sig) (go : Go) → Keeps sig go → (c : Context) (ns : List Named) (at : Place) (t : Sexp) (o : Option (List Attribute)) (r : Read) → IsSortedContext sig c → AreAnywhere sig ns → annotated_with go c ns at t o ≡ Ok r → IsSortedRead sig c r
annotated_read sig go g c ns at t None r s a h = absurd (no_answer (bad_shape at) r h)
annotated_read sig go g c ns at t (Some []) r s a h = absurd (no_answer (bad_shape at) r h)
annotated_read sig go g c ns at t (Some (x ∷ xs)) r s a h =
    let w = went_on (go c ns t) (attributes_at c at (x ∷ xs)) r h in
    attributes_read sig c at (x ∷ xs) w.0 r (g c ns t w.0 s a w.1) w.2

annotated_at_read : (sig : Sig) (go : Go) → Keeps sig go → (c : Context) (ns : List Named) (at : Place) (xs : List Sexp) (r : Read) → IsSortedContext sig c → AreAnywhere sig ns → annotated_at go c ns at xs ≡ Ok r → IsSortedRead sig c r
annotated_at_read sig go g c ns at [] r s a h = absurd (no_answer (bad_shape at) r h)
annotated_at_read sig go g c ns at (t ∷ xs) r s a h = annotated_read sig go g c ns at t (attributes_of c.text xs) r s a h

-- lists, by their head, and items

head_read : (sig : Sig) (go : Go) → Keeps sig go → (c : Context) (ns : List Named) (at : Place) (head : Option (List ℕ)) (x : Sexp) (xs : List Sexp) (r : Read) → IsSortedContext sig c → AreAnywhere sig ns → by_head go c ns at head x xs ≡ Ok r → IsSortedRead sig c r
head_read sig go g c ns at head x xs r s a h =
    let application : Answer = application_at go c ns at (name_of c.text x) xs in
    let annotated : Answer = cond (is_word head (codes "!")) (annotated_at go c ns at xs) application in
    let exists : Answer = cond (is_word head (codes "exists")) (quantifier_at go c ns false at xs) annotated in
    let forall : Answer = cond (is_word head (codes "forall")) (quantifier_at go c ns true at xs) exists in
    either (is_word head (codes "let")) (let_at go c ns at xs) forall (Ok r) h (λ b e. let_at_read sig go g c ns at xs r s a e)
    (λ b e. either (is_word head (codes "forall")) (quantifier_at go c ns true at xs) exists (Ok r) e (λ b e. quantifier_at_read sig go g c ns true at xs r s a e)
    (λ b e. either (is_word head (codes "exists")) (quantifier_at go c ns false at xs) annotated (Ok r) e (λ b e. quantifier_at_read sig go g c ns false at xs r s a e)
    (λ b e. either (is_word head (codes "!")) (annotated_at go c ns at xs) application (Ok r) e (λ b e. annotated_at_read sig go g c ns at xs r s a e)
    (λ b e. application_read sig go g c ns at (name_of c.text x) xs r s a e))))

list_read : (sig : Sig) (go : Go) → Keeps sig go → (c : Context) (ns : List Named) (at : Place) (xs : List Sexp) (r : Read) → IsSortedContext sig c → AreAnywhere sig ns → list_at go c ns at xs ≡ Ok r → IsSortedRead sig c r
list_read sig go g c ns at [] r s a h = absurd (no_answer (bad_shape at) r h)
list_read sig go g c ns at (x ∷ xs) r s a h = head_read sig go g c ns at (symbol_of c.text x) x xs r s a h

item_read : (sig : Sig) (go : Go) → Keeps sig go → (c : Context) (ns : List Named) (x : Sexp) (o : Option (List Sexp)) (r : Read) → IsSortedContext sig c → AreAnywhere sig ns → term_step go c ns x o ≡ Ok r → IsSortedRead sig c r
item_read sig go g c ns x None r s a h = word_read sig c ns (place_of_item x) (name_of c.text x) r s a h
item_read sig go g c ns x (Some xs) r s a h = list_read sig go g c ns (place_of_item x) xs r s a h

term_read : (sig : Sig) (n : ℕ) → Keeps sig (term_at n)
term_read sig zero c ns x r s a h = absurd (no_answer (bad_shape c.command) r h)
term_read sig (suc n) c ns x r s a h = item_read sig (term_at n) (term_read sig n) c ns x (members_of x) r s a h

pub elaborated_sorted : (sig : Sig) (c : Context) (x : Sexp) (r : Read) → IsSortedContext sig c → elaborated c x ≡ Ok r → IsSortedRead sig c r
elaborated_sorted sig c x r s h = term_read sig (nesting x + 1) c [] x r s tt h
