-- The names that an elaboration gives are new, by one induction on how deep items nest.
use Rattle.std.proofs.Common.{◌≡◌, ℕ, zero, suc, ◌+◌, Bool, true, false, not, cond, List, [], ◌∷◌, ◌++◌, map, length, Option, Some, None, ap, refl, sym, subst, ◌∙◌, append_assoc}
use Rattle.std.specs.Prelude.{Err, Ok, Result, ◌||◌, codes, min, nat_lt}
use Rattle.std.specs.List.{AllByRecursion}
use Rattle.std.specs.Str.{bytes_eq}
use Rattle.std.proofs.lemmas.List.{append-nil}
use Rattle.fm_base.specs.Truth.{is_bool}
use Rattle.fm_base.specs.declared.ids.SortId.{SortId}
use Rattle.fm_base.specs.declared.refusal.Place.{Place}
use Rattle.fm_base.specs.declared.refusal.Reason.{Reason}
use Rattle.fm_base.specs.declared.refusal.Refusal.{Refusal}
use Rattle.fm_base.specs.declared.signature.Ty.{Ty}
use Rattle.fm_sexp.specs.declared.items.Sexp.{Sexp}
use Rattle.fm_script.specs.Shown.{Name}
use Rattle.fm_script.specs.Commands.{bad_shape, members_of, name_of, parameters_in, place_of_item, symbol_of}
use Rattle.fm_arena.specs.Meanings.{Term}
use Rattle.fm_levels.specs.Levels.{in_newest, joined, put}
use Rattle.fm_levels.proofs.Tabling.{bytes_flip}
use Rattle.fm_apply.specs.Applied.{Context, Function, Named, and_then, constant_of, function_at, function_by, function_named, in_force, is_core, is_kept_for_solvers, is_own, is_taken, refused, same_type}
use Rattle.fm_terms.specs.Elaborate.{Answer, Attribute, Go, Read, Reads, all_at, annotated_at, annotated_with, application_at, applied_to, attribute_at, attributes_at, attributes_of, bound_to, by_bound, by_head, closes_at, elaborated, is_list, is_word, items_in, let_at, let_over, let_with, list_at, name_in, named_at, nesting, newest_from, none_read, outside, pairs_in, quantified_at, quantifier_at, quantifier_over, quantifier_with, read_at, read_of, repeated, term_at, term_step, unless_repeated, variables_at, variables_named, with_bound, with_name, with_read, word_at}
use Rattle.fm_elab.specs.Fresh.{AreFresh, AreNew}
use Rattle.fm_elab.specs.Givens.{new_asserted, new_defined, put_functions}
use Rattle.fm_elab.specs.Sizes.{is_large}
use Rattle.fm_elab.specs.Stacks.{State, is_barred, is_function_taken, is_named, put_all, signature}
use Rattle.fm_elab.specs.Steps.{Next, assert_term, asserted, context_at, defined, definition, formula_of, given_in, refused_where}
use Rattle.fm_elab.proofs.SortedCore.{either, no_answer, went_on}
use Rattle.fm_elab.proofs.SortedLevels.{all_put}

abbrev Fresh : Context → List Named → Type 0
Fresh c ns = AreFresh c.own c.functions ns

abbrev Keeps : Go → Type 0
Keeps go = (c : Context) (ns : List Named) (x : Sexp) (r : Read) → Fresh c ns → go c ns x ≡ Ok r → Fresh c r.named

same_fresh : (c : Context) (q r : Read) → Fresh c q.named → ◌≡◌ {A = Answer} (Ok q) (Ok r) → Fresh c r.named
same_fresh c q r f e = let is : q ≡ r = cc e in subst (λ (p : Read). Fresh c p.named) is f

-- what is read with these names
read_fresh : (c : Context) (ns : List Named) (low : ℕ) (a : Result Term Refusal) (r : Read) → Fresh c ns → read_at ns low a ≡ Ok r → Fresh c r.named
read_fresh c ns low a r f e =
    let w = went_on a (λ (t : Term). Ok (read_of ns low t)) r e in
    same_fresh c (read_of ns low w.0) r f w.2

word_fresh : (c : Context) (ns : List Named) (n : Name) (o : Option (ℕ × Term)) (r : Read) → Fresh c ns → by_bound c ns n o ≡ Ok r → Fresh c r.named
word_fresh c ns n (Some p) r f h = same_fresh c (read_of ns p.0 p.1) r f h
word_fresh c ns n None r f h = read_fresh c ns (none_read c) (constant_of c n (function_named n.bytes (in_force c ns))) r f h

name_fresh : (c : Context) (ns : List Named) (at : Place) (o : Option Name) (r : Read) → Fresh c ns → word_at c ns at o ≡ Ok r → Fresh c r.named
name_fresh c ns at None r f h = absurd (no_answer (bad_shape at) r h)
name_fresh c ns at (Some n) r f h = word_fresh c ns n (newest_from 0 n.bytes c.bound) r f h

all_fresh : (go : Go) → Keeps go → (c : Context) (ns : List Named) (xs : List Sexp) (rs : Reads) → Fresh c ns → all_at go c ns xs ≡ Ok rs → Fresh c rs.named
all_fresh go g c ns [] rs f h =
    let none : Reads = record { terms = []; low = none_read c; named = ns } in
    let is : none ≡ rs = cc h in
    subst (λ (p : Reads). Fresh c p.named) is f
all_fresh go g c ns (x ∷ xs) rs f h =
    let w = went_on (go c ns x) (λ (r : Read). and_then (all_at go c r.named xs) (with_read r)) rs h in
    let v = went_on (all_at go c w.0.named xs) (with_read w.0) rs w.2 in
    let both : Reads = record { terms = w.0.term ∷ v.0.terms; low = min w.0.low v.0.low; named = v.0.named } in
    let last = v.2 in
    let is : both ≡ rs = cc last in
    subst (λ (p : Reads). Fresh c p.named) is (all_fresh go g c w.0.named xs v.0 (g c ns x w.0 f w.1) v.1)

application_fresh : (go : Go) → Keeps go → (c : Context) (ns : List Named) (at : Place) (o : Option Name) (xs : List Sexp) (r : Read) → Fresh c ns → application_at go c ns at o xs ≡ Ok r → Fresh c r.named
application_fresh go g c ns at None xs r f h = absurd (no_answer (bad_shape at) r h)
application_fresh go g c ns at (Some n) [] r f h = absurd (no_answer (bad_shape at) r h)
application_fresh go g c ns at (Some n) (x ∷ xs) r f h =
    let w = went_on (all_at go c ns (x ∷ xs)) (applied_to c at n (x ∷ xs)) r h in
    read_fresh c w.0.named w.0.low (function_at c at n (x ∷ xs) w.0.terms (function_named n.bytes (in_force c w.0.named))) r (all_fresh go g c ns (x ∷ xs) w.0 f w.1) w.2

-- let

not_repeated : {A : Type 0} (o : Option Place) (a : Result A Refusal) (t : A) → unless_repeated o a ≡ Ok t → a ≡ Ok t
not_repeated None a t h = h
not_repeated (Some at) a t h = absurd (no_answer (bad_shape at) t h)

let_fresh : (go : Go) → Keeps go → (c : Context) (ps : List (Name × Sexp)) (u : Sexp) (rs : Reads) (r : Read) → Fresh c rs.named → let_over go c ps u rs ≡ Ok r → Fresh c r.named
let_fresh go g c ps u rs r f h =
    let inner : Context = with_bound c (bound_to ps rs.terms) c.places in
    let w = went_on (go inner rs.named u) (outside c rs.low) r h in
    same_fresh c (read_of w.0.named (min rs.low (min (none_read c) w.0.low)) w.0.term) r (g inner rs.named u w.0 f w.1) w.2

lets_fresh : (go : Go) → Keeps go → (c : Context) (ns : List Named) (at : Place) (o : Option (List (Name × Sexp))) (u : Sexp) (r : Read) → Fresh c ns → let_with go c ns at o u ≡ Ok r → Fresh c r.named
lets_fresh go g c ns at None u r f h = absurd (no_answer (bad_shape at) r h)
lets_fresh go g c ns at (Some []) u r f h = absurd (no_answer (bad_shape at) r h)
lets_fresh go g c ns at (Some (p ∷ ps)) u r f h =
    let all = and_then (all_at go c ns (items_in (p ∷ ps))) (let_over go c (p ∷ ps) u) in
    let w = went_on (all_at go c ns (items_in (p ∷ ps))) (let_over go c (p ∷ ps) u) r (not_repeated (repeated [] (p ∷ ps)) all r h) in
    let_fresh go g c (p ∷ ps) u w.0 r (all_fresh go g c ns (items_in (p ∷ ps)) w.0 f w.1) w.2

let_at_fresh : (go : Go) → Keeps go → (c : Context) (ns : List Named) (at : Place) (xs : List Sexp) (r : Read) → Fresh c ns → let_at go c ns at xs ≡ Ok r → Fresh c r.named
let_at_fresh go g c ns at [] r f h = absurd (no_answer (bad_shape at) r h)
let_at_fresh go g c ns at (bs ∷ []) r f h = absurd (no_answer (bad_shape at) r h)
let_at_fresh go g c ns at (bs ∷ u ∷ []) r f h = lets_fresh go g c ns at (pairs_in c.text (members_of bs)) u r f h
let_at_fresh go g c ns at (bs ∷ u ∷ x ∷ xs) r f h = absurd (no_answer (bad_shape at) r h)

-- quantifiers

over_fresh : (go : Go) → Keeps go → (c : Context) (ns : List Named) (all : Bool) (ps : List (Name × Sexp)) (u : Sexp) (ss : List SortId) (r : Read) → Fresh c ns → quantifier_over go c ns all ps u ss ≡ Ok r → Fresh c r.named
over_fresh go g c ns all ps u ss r f h =
    let inner : Context = with_bound c (variables_named c.places ps ss) (c.places + length ss) in
    let w = went_on (go inner ns u) (closes_at c all ss u) r h in
    read_fresh c w.0.named (min (none_read c) w.0.low) (quantified_at c all ss u w.0.term) r (g inner ns u w.0 f w.1) w.2

quantifier_fresh : (go : Go) → Keeps go → (c : Context) (ns : List Named) (all : Bool) (at : Place) (o : Option (List (Name × Sexp))) (u : Sexp) (r : Read) → Fresh c ns → quantifier_with go c ns all at o u ≡ Ok r → Fresh c r.named
quantifier_fresh go g c ns all at None u r f h = absurd (no_answer (bad_shape at) r h)
quantifier_fresh go g c ns all at (Some ps) u r f h =
    let w = went_on (variables_at c.text c.sorts at ps) (quantifier_over go c ns all ps u) r h in
    over_fresh go g c ns all ps u w.0 r f w.2

quantifier_at_fresh : (go : Go) → Keeps go → (c : Context) (ns : List Named) (all : Bool) (at : Place) (xs : List Sexp) (r : Read) → Fresh c ns → quantifier_at go c ns all at xs ≡ Ok r → Fresh c r.named
quantifier_at_fresh go g c ns all at [] r f h = absurd (no_answer (bad_shape at) r h)
quantifier_at_fresh go g c ns all at (bs ∷ []) r f h = absurd (no_answer (bad_shape at) r h)
quantifier_at_fresh go g c ns all at (bs ∷ u ∷ []) r f h = quantifier_fresh go g c ns all at (parameters_in c.text (members_of bs)) u r f h
quantifier_at_fresh go g c ns all at (bs ∷ u ∷ x ∷ xs) r f h = absurd (no_answer (bad_shape at) r h)

-- attributes

fresh_more : (own : Option (List ℕ)) (fs : List Function) (ns : List Named) (m : Named) → AreFresh own fs ns → is_own own m.name ≡ false → is_named m.name (fs ++ map function_by ns) ≡ false → AreFresh own fs (ns ++ m ∷ [])
fresh_more own fs [] m h o e = (o, ap (is_named m.name) (sym (append-nil fs)) ∙ e, tt)
fresh_more own fs (n ∷ ns) m h o e =
    (h.0, h.1, fresh_more own (fs ++ function_by n ∷ []) ns m h.2 o (ap (is_named m.name) (append_assoc fs (function_by n ∷ []) (map function_by ns)) ∙ e))

-- neither of two
pub neither : (a b : Bool) → (a || b) ≡ false → (a ≡ false) × (b ≡ false)
neither true b e = cc e
neither false b e = (refl, e)

given_fresh : (c : Context) (r : Read) (name : List ℕ) → is_taken c r.named name ≡ false → Fresh c r.named → Fresh c (with_name r name).named
given_fresh c r name t h =
    let free = (neither (is_core name || is_kept_for_solvers name) (is_own c.own name || is_named name (in_force c r.named)) t).1 in
    let apart = neither (is_own c.own name) (is_named name (in_force c r.named)) free in
    fresh_more c.own c.functions r.named (record { name = name; term = r.term }) h apart.0 apart.1

named_fresh : (c : Context) (at : Place) (o : Option Name) (r q : Read) → Fresh c r.named → named_at c at o r ≡ Ok q → Fresh c q.named
named_fresh c at None r q h e = absurd (no_answer (bad_shape at) q e)
named_fresh c at (Some n) r q h e =
    let given : Answer = cond (is_taken c r.named n.bytes) (Err (refused Reason.Redeclared n.at)) (Ok (with_name r n.bytes)) in
    either (nat_lt r.low (none_read c)) (Err (bad_shape n.at)) given (Ok q) e
    (λ b k. absurd (no_answer (bad_shape n.at) q k))
    (λ b k. either (is_taken c r.named n.bytes) (Err (refused Reason.Redeclared n.at)) (Ok (with_name r n.bytes)) (Ok q) k
    (λ b' k'. absurd (no_answer (refused Reason.Redeclared n.at) q k'))
    (λ b' k'. same_fresh c (with_name r n.bytes) q (given_fresh c r n.bytes b' h) k'))

attribute_fresh : (c : Context) (at : Place) (t : Attribute) (r q : Read) → Fresh c r.named → attribute_at c at t r ≡ Ok q → Fresh c q.named
attribute_fresh c at t r q h e =
    let name : Answer = cond c.naming (named_at c at (name_in c.text t.value) r) (Err (bad_shape t.keyword.at)) in
    let pattern : Answer = cond (is_list t.value) (Ok r) (Err (bad_shape at)) in
    either (bytes_eq t.keyword.bytes (codes ":named")) name (cond (bytes_eq t.keyword.bytes (codes ":pattern")) pattern (Ok r)) (Ok q) e
    (λ b k. either c.naming (named_at c at (name_in c.text t.value) r) (Err (bad_shape t.keyword.at)) (Ok q) k (λ b' k'. named_fresh c at (name_in c.text t.value) r q h k') (λ b' k'. absurd (no_answer (bad_shape t.keyword.at) q k')))
    (λ b k. either (bytes_eq t.keyword.bytes (codes ":pattern")) pattern (Ok r) (Ok q) k
    (λ b' k'. either (is_list t.value) (Ok r) (Err (bad_shape at)) (Ok q) k' (λ d m. same_fresh c r q h m) (λ d m. absurd (no_answer (bad_shape at) q m))) (λ b' k'. same_fresh c r q h k'))

attributes_fresh : (c : Context) (at : Place) (ts : List Attribute) (r q : Read) → Fresh c r.named → attributes_at c at ts r ≡ Ok q → Fresh c q.named
attributes_fresh c at [] r q h e = same_fresh c r q h e
attributes_fresh c at (t ∷ ts) r q h e =
    let w = went_on (attribute_at c at t r) (attributes_at c at ts) q e in
    attributes_fresh c at ts w.0 q (attribute_fresh c at t r w.0 h w.1) w.2

annotated_fresh : (go : Go) → Keeps go → (c : Context) (ns : List Named) (at : Place) (t : Sexp) (o : Option (List Attribute)) (r : Read) → Fresh c ns → annotated_with go c ns at t o ≡ Ok r → Fresh c r.named
annotated_fresh go g c ns at t None r f h = absurd (no_answer (bad_shape at) r h)
annotated_fresh go g c ns at t (Some []) r f h = absurd (no_answer (bad_shape at) r h)
annotated_fresh go g c ns at t (Some (x ∷ xs)) r f h =
    let w = went_on (go c ns t) (attributes_at c at (x ∷ xs)) r h in
    attributes_fresh c at (x ∷ xs) w.0 r (g c ns t w.0 f w.1) w.2

annotated_at_fresh : (go : Go) → Keeps go → (c : Context) (ns : List Named) (at : Place) (xs : List Sexp) (r : Read) → Fresh c ns → annotated_at go c ns at xs ≡ Ok r → Fresh c r.named
annotated_at_fresh go g c ns at [] r f h = absurd (no_answer (bad_shape at) r h)
annotated_at_fresh go g c ns at (t ∷ xs) r f h = annotated_fresh go g c ns at t (attributes_of c.text xs) r f h

-- lists, by their head, and items

head_fresh : (go : Go) → Keeps go → (c : Context) (ns : List Named) (at : Place) (head : Option (List ℕ)) (x : Sexp) (xs : List Sexp) (r : Read) → Fresh c ns → by_head go c ns at head x xs ≡ Ok r → Fresh c r.named
head_fresh go g c ns at head x xs r f h =
    let application : Answer = application_at go c ns at (name_of c.text x) xs in
    let annotated : Answer = cond (is_word head (codes "!")) (annotated_at go c ns at xs) application in
    let exists : Answer = cond (is_word head (codes "exists")) (quantifier_at go c ns false at xs) annotated in
    let forall : Answer = cond (is_word head (codes "forall")) (quantifier_at go c ns true at xs) exists in
    either (is_word head (codes "let")) (let_at go c ns at xs) forall (Ok r) h (λ b e. let_at_fresh go g c ns at xs r f e)
    (λ b e. either (is_word head (codes "forall")) (quantifier_at go c ns true at xs) exists (Ok r) e (λ b e. quantifier_at_fresh go g c ns true at xs r f e)
    (λ b e. either (is_word head (codes "exists")) (quantifier_at go c ns false at xs) annotated (Ok r) e (λ b e. quantifier_at_fresh go g c ns false at xs r f e)
    (λ b e. either (is_word head (codes "!")) (annotated_at go c ns at xs) application (Ok r) e (λ b e. annotated_at_fresh go g c ns at xs r f e)
    (λ b e. application_fresh go g c ns at (name_of c.text x) xs r f e))))

list_fresh : (go : Go) → Keeps go → (c : Context) (ns : List Named) (at : Place) (xs : List Sexp) (r : Read) → Fresh c ns → list_at go c ns at xs ≡ Ok r → Fresh c r.named
list_fresh go g c ns at [] r f h = absurd (no_answer (bad_shape at) r h)
list_fresh go g c ns at (x ∷ xs) r f h = head_fresh go g c ns at (symbol_of c.text x) x xs r f h

item_fresh : (go : Go) → Keeps go → (c : Context) (ns : List Named) (x : Sexp) (o : Option (List Sexp)) (r : Read) → Fresh c ns → term_step go c ns x o ≡ Ok r → Fresh c r.named
item_fresh go g c ns x None r f h = name_fresh c ns (place_of_item x) (name_of c.text x) r f h
item_fresh go g c ns x (Some xs) r f h = list_fresh go g c ns (place_of_item x) xs r f h

term_fresh : (n : ℕ) → Keeps (term_at n)
term_fresh zero c ns x r f h = absurd (no_answer (bad_shape c.command) r h)
term_fresh (suc n) c ns x r f h = item_fresh (term_at n) (term_fresh n) c ns x (members_of x) r f h

pub elaborated_fresh : (c : Context) (x : Sexp) (r : Read) → elaborated c x ≡ Ok r → AreFresh c.own c.functions r.named
elaborated_fresh c x r h = term_fresh (nesting x + 1) c [] x r tt h

-- functions with new names are all put in

abbrev pub AreApart : List ℕ → List Function → Type 0
AreApart name fs = AllByRecursion (λ (f : Function). bytes_eq f.name name ≡ false) fs

pub apart_from : (name : List ℕ) (fs : List Function) → is_named name fs ≡ false → AreApart name fs
apart_from name [] e = tt
apart_from name (f ∷ fs) e = let n = neither (bytes_eq f.name name) (is_named name fs) e in (n.0, apart_from name fs n.1)

pub apart_is : (name : List ℕ) (fs : List Function) → AreApart name fs → is_named name fs ≡ false
apart_is name [] a = refl
apart_is name (f ∷ fs) a = ap (λ (b : Bool). b || is_named name fs) a.0 ∙ apart_is name fs a.1

pub named_last : (name : List ℕ) (fs : List Function) (f : Function) → is_named name (fs ++ f ∷ []) ≡ false → (is_named name fs ≡ false) × (bytes_eq f.name name ≡ false)
named_last name [] f e = (refl, (neither (bytes_eq f.name name) false e).0)
named_last name (g ∷ fs) f e =
    let n = neither (bytes_eq g.name name) (is_named name (fs ++ f ∷ [])) e in
    let r = named_last name fs f n.1 in
    (ap (λ (b : Bool). b || is_named name fs) n.0 ∙ r.0, r.1)

put_in_new : (b first : Bool) (ls : List (List Function)) (f : Function) → b ≡ false → cond b ls (put first ls f) ≡ put first ls f
put_in_new true first ls f e = cc e
put_in_new false first ls f e = refl

all_put_in : (first : Bool) (ls : List (List Function)) (gs fs : List Function) → ((name : List ℕ) → is_named name gs ≡ false → AreApart name (joined ls)) → AreNew gs fs → put_functions first ls fs ≡ put_all first ls fs
all_put_in first ls gs [] k a = refl
all_put_in first ls gs (f ∷ fs) k a =
    let free : is_named f.name (joined ls) ≡ false = apart_is f.name (joined ls) (k f.name a.0) in
    ap (λ (ms : List (List Function)). put_functions first ms fs) (put_in_new (is_named f.name (joined ls)) first ls f free)
    ∙ all_put_in first (put first ls f) (gs ++ f ∷ []) fs
    (λ name e. let l = named_last name gs f e in all_put (λ (g : Function). bytes_eq g.name name ≡ false) first ls f (k name l.0) l.1) a.1

pub new_are_put : (first : Bool) (ls : List (List Function)) (fs : List Function) → AreNew (joined ls) fs → put_functions first ls fs ≡ put_all first ls fs
new_are_put first ls fs a = all_put_in first ls (joined ls) fs (λ name e. apart_from name (joined ls) e) a

flipped : (n name : List ℕ) → is_own (Some name) n ≡ false → bytes_eq n name ≡ false
flipped n name e = bytes_flip n name ∙ e

-- names that were given, as functions, and then the function that the command defines

pub given_are_new : (own : Option (List ℕ)) (fs : List Function) (ns : List Named) → AreFresh own fs ns → AreNew fs (map function_by ns)
given_are_new own fs [] a = tt
given_are_new own fs (n ∷ ns) a = (a.1, given_are_new own (fs ++ function_by n ∷ []) ns a.2)

name_flip : (name : List ℕ) (fs : List Function) (f : Function) → is_named name fs ≡ false → bytes_eq f.name name ≡ false → is_named name (fs ++ f ∷ []) ≡ false
name_flip name [] f e k = ap (λ (b : Bool). b || false) k
name_flip name (g ∷ fs) f e k =
    let n = neither (bytes_eq g.name name) (is_named name fs) e in
    ap (λ (b : Bool). b || is_named name (fs ++ f ∷ [])) n.0 ∙ name_flip name fs f n.1 k

pub defined_is_new : (name : List ℕ) (fs : List Function) (ns : List Named) (f : Function) → f.name ≡ name → is_named name fs ≡ false → AreFresh (Some name) fs ns → AreNew fs (map function_by ns ++ f ∷ [])
defined_is_new name fs [] f e k a = (ap (λ (m : List ℕ). is_named m fs) e ∙ k, tt)
defined_is_new name fs (n ∷ ns) f e k a = (a.1, defined_is_new name (fs ++ function_by n ∷ []) ns f e (name_flip name fs (function_by n) k (flipped n.name name a.0)) a.2)

-- so commands put them all in

asserted_same : (s : State) (at : Place) (x : Sexp) (r : Read) → AreFresh None (joined s.functions) r.named → new_asserted s at x r ≡ asserted s at x r
asserted_same s at x r f =
    ap (λ (ls : List (List Function)). refused_where (not (is_bool r.term.ty)) Reason.SortMismatch (place_of_item x)
    (refused_where (is_large (signature s) (formula_of r.term)) Reason.TooLarge at
    (Ok (record s { functions = ls; assertions = in_newest s.assertions (formula_of r.term); begun = true })))) (new_are_put false s.functions (given_in r) (given_are_new None (joined s.functions) r.named f))

defined_same : (s : State) (n : Name) (args : List Ty) (ty : Ty) (body : Sexp) (r : Read) → is_function_taken s n.bytes ≡ false → AreFresh (Some n.bytes) (joined s.functions) r.named → new_defined s n args ty body r ≡ defined s n args ty body r
defined_same s n args ty body r t f =
    let free = (neither (is_barred n.bytes) (is_named n.bytes (joined s.functions)) t).1 in
    ap (λ (ls : List (List Function)). refused_where (not (same_type r.term.ty ty)) Reason.SortMismatch (place_of_item body) (Ok (record s { functions = ls; begun = true })))
    (new_are_put s.global s.functions (given_in r ++ definition n.bytes args r.term ∷ []) (defined_is_new n.bytes (joined s.functions) r.named (definition n.bytes args r.term) refl free f))

same_after : (e : Answer) (r : Read) (go other : Read → Next) → e ≡ Ok r → go r ≡ other r → and_then e go ≡ and_then e other
same_after e r go other k h = ap (λ (a : Answer). and_then a go) k ∙ h ∙ sym (ap (λ (a : Answer). and_then a other) k)

pub assert_goes : (text : List ℕ) (s : State) (at : Place) (x : Sexp) (r : Read) → elaborated (context_at text s at None true [] []) x ≡ Ok r → and_then (elaborated (context_at text s at None true [] []) x) (new_asserted s at x) ≡ assert_term text s at x
assert_goes text s at x r e =
    same_after (elaborated (context_at text s at None true [] []) x) r (new_asserted s at x) (asserted s at x) e (asserted_same s at x r (elaborated_fresh (context_at text s at None true [] []) x r e))

pub definition_goes : (text : List ℕ) (s : State) (at : Place) (n : Name) (names : List (List ℕ)) (args : List Ty) (ty : Ty) (body : Sexp) (r : Read) → is_function_taken s n.bytes ≡ false → elaborated (context_at text s at (Some n.bytes) true names args) body ≡ Ok r
    → and_then (elaborated (context_at text s at (Some n.bytes) true names args) body) (new_defined s n args ty body) ≡ and_then (elaborated (context_at text s at (Some n.bytes) true names args) body) (defined s n args ty body)
definition_goes text s at n names args ty body r t e =
    let c = context_at text s at (Some n.bytes) true names args in
    same_after (elaborated c body) r (new_defined s n args ty body) (defined s n args ty body) e (defined_same s n args ty body r t (elaborated_fresh c body r e))
