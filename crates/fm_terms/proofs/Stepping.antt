-- Each step of the recursion over items: terms one after the other, applications, `let`, blocks and attributes.
use Rattle.std.proofs.Common.{Bool, List, [], ap, append-nil, append_assoc, arith, drop, false, get_or, length, map, refl, subst, suc, sym, true, zero, ℕ, ◌++◌, ◌+◌, ◌<◌, ◌∙◌, ◌∷◌, ◌≡◌, ◌≤◌}
use Rattle.std.specs.Prelude.{Err, IfSome, None, Ok, Option, Result, Some, cond, max, min}
use Rattle.std.proofs.lemmas.Bool.{and_parts}
use Rattle.std.proofs.lemmas.List.{drop_more, map-append}
use Rattle.std.specs.Borrow.{Bor}
use Rattle.std.specs.Option.{option_map}
use Rattle.std.specs.Str.{bytes_eq}
use Rattle.fm_levels.specs.Levels.{joined}
use Rattle.fm_base.specs.declared.ids.SortId.{SortId}
use Rattle.fm_base.specs.declared.refusal.Fail.{Fail}
use Rattle.fm_base.specs.declared.refusal.Place.{Place}
use Rattle.fm_base.specs.declared.refusal.Refusal.{Refusal}
use Rattle.fm_base.specs.declared.signature.Ty.{Ty}
use Rattle.fm_sexp.specs.Items.{all_within, spans_within}
use Rattle.fm_sexp.specs.declared.items.Sexp.{Sexp}
use Rattle.fm_script.specs.Commands.{members_of}
use Rattle.fm_script.specs.Shown.{IsShownBy, Name}
use Rattle.fm_arena.specs.Kept.{IsAdded}
use Rattle.fm_arena.specs.Meanings.{Making, Term, made, name_made, named, term_in, terms_of}
use Rattle.fm_arena.specs.declared.node.Entry.{Entry}
use Rattle.fm_apply.specs.declared.scope.Frame
use Rattle.fm_apply.specs.Applied.{Bound, Context, Function as TheFunction, Named, and_then, constant_of, function_named, in_force, or_else}
use Rattle.fm_apply.specs.Scoped.{AllBelow, AreBelow, AreInForce, Grows, IsMade, IsReady, IsShown, IsTerm, Moment, Numbered, bound_in, context_in, context_of, functions_in, lower, named_in, names_in, newest_number, number_term, places_in, terms_at, zipped}
use Rattle.fm_apply.specs.declared.scope.Found.{Found}
use Rattle.fm_apply.specs.declared.scope.Frame.{Frame}
use Rattle.fm_apply.specs.declared.scope.Scope.{Scope}
use Rattle.fm_apply.proofs.Framing.{names_inside, names_top, places_inside}
use Rattle.fm_apply.proofs.Growing.{context_stays, functions_stay, grows_added, grows_longer, in_force_stays, last_below, last_term, named_stays, terms_stay}
use Rattle.fm_terms.specs.Elaborate.{Answer, Attribute as TheAttribute, Go, Read, Reads, all_at, annotated_at, annotated_with, application_at, applied_to, attributes_at, attributes_of, bound_to, by_bound, closes_at, elaborated, items_in, let_over, let_with, nesting, nesting_all, newest_from, none_read, outside, quantified_at, quantifier_over, read_at, read_of, repeated, term_at, term_step, unless_repeated, variables_named, with_bound, with_read, word_at}
use Rattle.fm_terms.specs.Scoped.{IsElaborated, IsRead, Leaves, attributes_shown, bound_to_terms, context_under, names_of, parameters_from, read_shown, reads_shown, variables_from}
use Rattle.fm_terms.specs.declared.attributes.Attribute.{Attribute}

abbrev pub now_all : List (Bor Sexp) → List Sexp
now_all xs = map (λ (b : Bor Sexp). b.now) xs

pub next_lent : (xs : List (Bor Sexp)) (i : ℕ) (x : Bor Sexp) → i < length xs → x ≡ get_or xs i x → drop i xs ≡ x ∷ drop (i + 1) xs
next_lent xs i x lt e = subst (λ (y : Bor Sexp). drop i xs ≡ y ∷ drop (i + 1) xs) (sym e) (drop_more xs i x lt)

pub within_next : (n : ℕ) (xs : List (Bor Sexp)) (i : ℕ) (x : Bor Sexp) → i < length xs → x ≡ get_or xs i x → all_within n (now_all (drop i xs)) ≡ true
    → (spans_within n x.now ≡ true) × (all_within n (now_all (drop (i + 1) xs)) ≡ true)
within_next n xs i x lt e h =
    and_parts (spans_within n x.now) (all_within n (now_all (drop (i + 1) xs))) (subst (λ (l : List (Bor Sexp)). all_within n (now_all l) ≡ true) (next_lent xs i x lt e) h)

-- Terms one after the other.

-- what is read with terms in front
abbrev pub with_front : List Term → ℕ → Reads → Reads
with_front front low rs = record { terms = front ++ rs.terms; low = min low rs.low; named = rs.named }

abbrev pub behind : List Term → ℕ → Reads → Result Reads Refusal
behind front low rs = Ok (with_front front low rs)

reads_same : (ts us : List Term) (l m : ℕ) (ns : List Named) → ts ≡ us → l ≡ m → (let a : Reads = record { terms = ts; low = l; named = ns } in let b : Reads = record { terms = us; low = m; named = ns } in a ≡ b)
reads_same ts us l m ns e h =
    ap (λ (x : List Term). let a : Reads = record { terms = x; low = l; named = ns } in a) e ∙ ap (λ (y : ℕ). let a : Reads = record { terms = us; low = y; named = ns } in a) h

low_read : (k : ℕ) (r : Read) (rest : Result Reads Refusal) → and_then rest (behind [] k) ≡ rest → and_then (and_then rest (with_read r)) (behind [] k) ≡ and_then rest (with_read r)
low_read k r (Ok rs) h =
    let e : with_front [] k rs ≡ rs = cc in
    let m : min k rs.low ≡ rs.low = ap (λ (x : Reads). x.low) e in
    ap (λ (x : Reads). let a : Result Reads Refusal = Ok x in a) (reads_same (r.term ∷ rs.terms) (r.term ∷ rs.terms) (min k (min r.low rs.low)) (min r.low rs.low) rs.named refl (omega (arith, m)))
low_read k r (Err e) h = refl

low_step : (go : Go) (c : Context) (xs : List Sexp) (a : Answer) → ((ns : List Named) → and_then (all_at go c ns xs) (behind [] (none_read c)) ≡ all_at go c ns xs)
    → and_then (and_then a (λ (r : Read). and_then (all_at go c r.named xs) (with_read r))) (behind [] (none_read c)) ≡ and_then a (λ (r : Read). and_then (all_at go c r.named xs) (with_read r))
low_step go c xs (Ok r) h = low_read (none_read c) r (all_at go c r.named xs) (h r.named)
low_step go c xs (Err e) h = refl

-- none of them reads past all bound names
pub all_low : (go : Go) (c : Context) (xs : List Sexp) (ns : List Named) → and_then (all_at go c ns xs) (behind [] (none_read c)) ≡ all_at go c ns xs
all_low go c [] ns = ap (λ (k : ℕ). let a : Result Reads Refusal = Ok (record { terms = []; low = k; named = ns }) in a) (let e : min (none_read c) (none_read c) ≡ none_read c = omega arith in e)
all_low go c (x ∷ xs) ns = low_step go c xs (go c ns x) (all_low go c xs)

pushed_front : (rest : Result Reads Refusal) (front more : List Term) (low next : ℕ) (r : Read) → more ≡ front ++ r.term ∷ [] → next ≡ min low r.low
    → and_then (and_then rest (with_read r)) (behind front low) ≡ and_then rest (behind more next)
pushed_front (Ok rs) front more low next r e h =
    let m : min low (min r.low rs.low) ≡ min next rs.low = omega (arith, h) in
    ap (λ (x : Reads). let a : Result Reads Refusal = Ok x in a)
    (reads_same (front ++ r.term ∷ rs.terms) (more ++ rs.terms) (min low (min r.low rs.low)) (min next rs.low) rs.named (sym (append_assoc front (r.term ∷ []) rs.terms) ∙ ap (λ (l : List Term). l ++ rs.terms) (sym e)) m)
pushed_front (Err e) front more low next r q h = refl

-- one more term
pub all_step : (go : Go) (c : Context) (ns : List Named) (xs : List (Bor Sexp)) (i : ℕ) (x : Bor Sexp) (whole : Result Reads Refusal) (front more : List Term) (low next : ℕ) (r : Read) → i < length xs → x ≡ get_or xs i x
    → whole ≡ and_then (all_at go c ns (now_all (drop i xs))) (behind front low) → go c ns x.now ≡ Ok r → more ≡ front ++ r.term ∷ [] → next ≡ min low r.low
    → whole ≡ and_then (all_at go c r.named (now_all (drop (i + 1) xs))) (behind more next)
all_step go c ns xs i x whole front more low next r lt e h g m k =
    let later = now_all (drop (i + 1) xs) in
    h ∙ ap (λ (l : List (Bor Sexp)). and_then (all_at go c ns (now_all l)) (behind front low)) (next_lent xs i x lt e)
    ∙ ap (λ (a : Answer). and_then (and_then a (λ (r : Read). and_then (all_at go c r.named later) (with_read r))) (behind front low)) g
    ∙ pushed_front (all_at go c r.named later) front more low next r m k

-- a term that is refused
pub all_stopped : (go : Go) (c : Context) (ns : List Named) (xs : List (Bor Sexp)) (i : ℕ) (x : Bor Sexp) (whole : Result Reads Refusal) (front : List Term) (low : ℕ) (m : Moment) (f : Fail) → i < length xs → x ≡ get_or xs i x
    → whole ≡ and_then (all_at go c ns (now_all (drop i xs))) (behind front low) → IsRead m (Err f) (go c ns x.now) → IsShown (reads_shown m) (Err f) whole
all_stopped go c ns xs i x whole front low m Fail.Memory lt e h g = tt
all_stopped go c ns xs i x whole front low m (Fail.Refused r) lt e h g =
    let later = now_all (drop (i + 1) xs) in
    h ∙ ap (λ (l : List (Bor Sexp)). and_then (all_at go c ns (now_all l)) (behind front low)) (next_lent xs i x lt e)
    ∙ ap (λ (a : Answer). and_then (and_then a (λ (r : Read). and_then (all_at go c r.named later) (with_read r))) (behind front low)) g

-- no term is left
pub all_done : (go : Go) (c : Context) (ns : List Named) (xs : List Sexp) (whole : Result Reads Refusal) (front : List Term) (low : ℕ) → xs ≡ [] → low ≤ none_read c
    → whole ≡ and_then (all_at go c ns xs) (behind front low) → (let rs : Reads = record { terms = front; low = low; named = ns } in whole ≡ Ok rs)
all_done go c ns xs whole front low e le h =
    let m : min low (none_read c) ≡ low = omega (arith, le) in
    h ∙ ap (λ (l : List Sexp). and_then (all_at go c ns l) (behind front low)) e
    ∙ ap (λ (x : Reads). let a : Result Reads Refusal = Ok x in a) (reads_same (front ++ []) front (min low (none_read c)) low ns (append-nil front) m)

pub below_more : (m n : ℕ) (is more : List ℕ) (i : ℕ) → m ≤ n → more ≡ is ++ i ∷ [] → AllBelow m is → i < n → AllBelow n more
below_more m n is more i le e h lt = subst (λ (l : List ℕ). AllBelow n l) (sym e) (pushed is h) where
  pushed : (is : List ℕ) → AllBelow m is → AllBelow n (is ++ i ∷ [])
  pushed [] h = (lt, tt)
  pushed (j ∷ is) h = (let k = h.0 in omega (arith, k, le), pushed is h.1)

-- A term that was made, with the names given so far.

pub read_made : (m : Moment) (ns : List Named) (low n : ℕ) (a : Result Term Refusal) → ns ≡ named_in (terms_of m.0) m.1 → a ≡ Ok (number_term m.0 n)
    → read_at ns low a ≡ Ok (read_of (named_in (terms_of m.0) m.1) low (number_term m.0 n))
read_made m ns low n a e h =
    ap (λ (x : Result Term Refusal). read_at ns low x) h ∙ ap (λ (l : List Named). let y : Answer = Ok (read_of l low (number_term m.0 n)) in y) e

pub read_stopped : (m : Moment) (es : List Entry) (ns : List Named) (low : ℕ) (f : Fail) (a : Result Term Refusal) → IsTerm es (Err f) a → IsRead m (Err f) (read_at ns low a)
read_stopped m es ns low Fail.Memory a h = tt
read_stopped m es ns low (Fail.Refused r) a h = ap (λ (x : Result Term Refusal). read_at ns low x) h

pub read_by : (m : Moment) (r : Result Found Fail) (a b : Answer) → a ≡ b → IsRead m r b → IsRead m r a
read_by m r a b e h = subst (λ (x : Answer). IsRead m r x) (sym e) h

-- a term that is answered as another call made it
pub read_as : (m : Moment) (r : Result Found Fail) (f : Found) (whole : Answer) → IsMade r (Ok f) → whole ≡ Ok (read_shown m f) → IsRead m r whole
read_as m (Ok g) f whole h e = let s : f ≡ g = cc in e ∙ ap (λ (x : Found). let y : Answer = Ok (read_shown m x) in y) s
read_as m (Err (Fail.Refused r)) f whole h e = cc
read_as m (Err Fail.Memory) f whole h e = tt

-- Applications.

pub application_stopped : (go : Go) (c : Context) (ns : List Named) (at : Place) (n : Name) (name : Option Name) (xs : List Sexp) (m k : Moment) (f : Fail) → Some n ≡ name → 0 < length xs
    → IsShown (reads_shown k) (Err f) (all_at go c ns xs) → IsRead m (Err f) (application_at go c ns at name xs)
application_stopped go c ns at n name [] m k f e lt h = absurd (omega (arith, lt))
application_stopped go c ns at n name (x ∷ xs) m k Fail.Memory e lt h = tt
application_stopped go c ns at n name (x ∷ xs) m k (Fail.Refused r) e lt h =
    ap (λ (o : Option Name). application_at go c ns at o (x ∷ xs)) (sym e) ∙ ap (λ (a : Result Reads Refusal). and_then a (applied_to c at n (x ∷ xs))) h

pub application_made : (go : Go) (c : Context) (ns : List Named) (at : Place) (n : Name) (name : Option Name) (xs : List Sexp) (rs : Reads) → Some n ≡ name → 0 < length xs → all_at go c ns xs ≡ Ok rs
    → application_at go c ns at name xs ≡ applied_to c at n xs rs
application_made go c ns at n name [] rs e lt h = absurd (omega (arith, lt))
application_made go c ns at n name (x ∷ xs) rs e lt h =
    ap (λ (o : Option Name). application_at go c ns at o (x ∷ xs)) (sym e) ∙ ap (λ (a : Result Reads Refusal). and_then a (applied_to c at n (x ∷ xs))) h

-- Names with the numbers of terms.

pub bound_zipped : (ts : List Entry) (ps : List (Name × Sexp)) (is : List ℕ) → bound_in (terms_of ts) (zipped (names_of ps) is) ≡ bound_to ps (terms_at ts is)
bound_zipped ts [] is = refl
bound_zipped ts (p ∷ ps) [] = refl
bound_zipped ts (p ∷ ps) (i ∷ is) = ap (λ (l : List Bound). record { name = p.0.bytes; term = number_term ts i } ∷ l) (bound_zipped ts ps is)

pub bound_zipped_terms : (ts : List Entry) (ns : List (List ℕ)) (is : List ℕ) → bound_in (terms_of ts) (zipped ns is) ≡ bound_to_terms ns (terms_at ts is)
bound_zipped_terms ts [] is = refl
bound_zipped_terms ts (n ∷ ns) [] = refl
bound_zipped_terms ts (n ∷ ns) (i ∷ is) = ap (λ (l : List Bound). record { name = n; term = number_term ts i } ∷ l) (bound_zipped_terms ts ns is)

pub variables_bound : (place : ℕ) (ps : List (Name × Sexp)) (ss : List SortId) → bound_to ps (variables_from place ss) ≡ variables_named place ps ss
variables_bound place [] ss = refl
variables_bound place (p ∷ ps) [] = refl
variables_bound place (p ∷ ps) (s ∷ ss) =
    ap (λ (l : List Bound). record { name = p.0.bytes; term = record { ty = Ty.Of s; meaning = named place false } } ∷ l) (variables_bound (place + 1) ps ss)

bound_append : (ts : List Term) (as' bs : Numbered) → bound_in ts (as' ++ bs) ≡ bound_in ts as' ++ bound_in ts bs
bound_append ts [] bs = refl
bound_append ts (a ∷ as') bs = ap (λ (l : List Bound). record { name = a.0; term = term_in ts a.1 } ∷ l) (bound_append ts as' bs)

pub below_append : (n : ℕ) (as' bs : Numbered) → AreBelow n as' → AreBelow n bs → AreBelow n (as' ++ bs)
below_append n [] bs h k = k
below_append n (a ∷ as') bs h k = (h.0, below_append n as' bs h.1 k)

pub below_zipped : (n : ℕ) (ns : List (List ℕ)) (is : List ℕ) → AllBelow n is → AreBelow n (zipped ns is)
below_zipped n [] is h = tt
below_zipped n (a ∷ ns) [] h = tt
below_zipped n (a ∷ ns) (i ∷ is) h = (h.0, below_zipped n ns is h.1)

-- the context within a frame
pub inner_context : (s : Scope) (old mid : List Entry) (outer new : Numbered) (bs : List Bound) (places deeper k : ℕ) → Grows old mid → AreInForce (terms_of old) (joined s.functions.now) → AreBelow (length (terms_of old)) outer
    → bound_in (terms_of mid) new ≡ bs → deeper ≡ k
    → context_in s (outer ++ new) deeper (terms_of mid) ≡ with_bound (context_in s outer places (terms_of old)) bs k
inner_context s old mid outer new bs places deeper k g f b e d =
    let same : context_in s outer places (terms_of mid) ≡ context_in s outer places (terms_of old) = context_stays s old mid outer places g f b in
    let one : bound_in (terms_of mid) (outer ++ new) ≡ bound_in (terms_of mid) outer ++ bs = bound_append (terms_of mid) outer new ∙ ap (λ (l : List Bound). bound_in (terms_of mid) outer ++ l) e in
    ap (λ (l : List Bound). let c : Context = record (context_in s [] deeper (terms_of mid)) { bound = l } in c) one
    ∙ ap (λ (n : ℕ). with_bound (context_in s outer places (terms_of mid)) bs n) d
    ∙ ap (λ (c : Context). with_bound c bs k) same

-- `let`.

unless_refused : {A B : Type 0} (o : Option Place) (a : A) (b : Result B Refusal) (r : Refusal) → (let x : Result A Refusal = Ok a in unless_repeated o x ≡ Err r) → unless_repeated o b ≡ Err r
unless_refused None a b r h = cc
unless_refused (Some at) a b r h = cc

unless_passed : {A B : Type 0} (o : Option Place) (a c : A) (b : Result B Refusal) → (let x : Result A Refusal = Ok a in unless_repeated o x ≡ Ok c) → unless_repeated o b ≡ b
unless_passed None a c b h = refl
unless_passed (Some at) a c b h = cc

names_passed : {A : Type 0} (o : Option Place) (a c : A) → (let x : Result A Refusal = Ok a in unless_repeated o x ≡ Ok c) → a ≡ c
names_passed None a c h = cc
names_passed (Some at) a c h = cc

abbrev pub names_at : List (Name × Sexp) → Result (List (List ℕ)) Refusal
names_at ps = unless_repeated (repeated [] ps) (Ok (names_of ps))

pub names_are : (ps : List (Name × Sexp)) (ns : List (List ℕ)) → names_at ps ≡ Ok ns → names_of ps ≡ ns
names_are ps ns h = names_passed (repeated [] ps) (names_of ps) ns h

pub let_repeated : (go : Go) (c : Context) (ns : List Named) (at : Place) (ps : List (Name × Sexp)) (u : Sexp) (m : Moment) (f : Fail) → 0 < length ps → IsMade {A = List (List ℕ)} (Err f) (names_at ps) → IsRead m (Err f) (let_with go c ns at (Some ps) u)
let_repeated go c ns at [] u m f lt h = absurd (omega (arith, lt))
let_repeated go c ns at (p ∷ ps) u m Fail.Memory lt h = tt
let_repeated go c ns at (p ∷ ps) u m (Fail.Refused r) lt h = unless_refused (repeated [] (p ∷ ps)) (names_of (p ∷ ps)) (and_then (all_at go c ns (items_in (p ∷ ps))) (let_over go c (p ∷ ps) u)) r h

let_passed : (go : Go) (c : Context) (ns : List Named) (at : Place) (ps : List (Name × Sexp)) (u : Sexp) (names : List (List ℕ)) → 0 < length ps → names_at ps ≡ Ok names
    → let_with go c ns at (Some ps) u ≡ and_then (all_at go c ns (items_in ps)) (let_over go c ps u)
let_passed go c ns at [] u names lt h = absurd (omega (arith, lt))
let_passed go c ns at (p ∷ ps) u names lt h = unless_passed (repeated [] (p ∷ ps)) (names_of (p ∷ ps)) names (and_then (all_at go c ns (items_in (p ∷ ps))) (let_over go c (p ∷ ps) u)) h

pub let_stopped : (go : Go) (c : Context) (ns : List Named) (at : Place) (ps : List (Name × Sexp)) (u : Sexp) (names : List (List ℕ)) (m k : Moment) (f : Fail) → 0 < length ps → names_at ps ≡ Ok names
    → IsShown (reads_shown k) (Err f) (all_at go c ns (items_in ps)) → IsRead m (Err f) (let_with go c ns at (Some ps) u)
let_stopped go c ns at ps u names m k Fail.Memory lt e h = tt
let_stopped go c ns at ps u names m k (Fail.Refused r) lt e h =
    let_passed go c ns at ps u names lt e ∙ ap (λ (a : Result Reads Refusal). and_then a (let_over go c ps u)) h

pub let_made : (go : Go) (c inner : Context) (ns : List Named) (at : Place) (ps : List (Name × Sexp)) (u : Sexp) (names : List (List ℕ)) (rs : Reads) → 0 < length ps → names_at ps ≡ Ok names → all_at go c ns (items_in ps) ≡ Ok rs
    → inner ≡ with_bound c (bound_to ps rs.terms) c.places → let_with go c ns at (Some ps) u ≡ and_then (go inner rs.named u) (outside c rs.low)
let_made go c inner ns at ps u names rs lt e h i =
    let_passed go c ns at ps u names lt e ∙ ap (λ (a : Result Reads Refusal). and_then a (let_over go c ps u)) h ∙ ap (λ (k : Context). and_then (go k rs.named u) (outside c rs.low)) (sym i)

-- a term that a `let` or a block goes over, where that is refused
pub then_stopped : (m k : Moment) (f : Fail) (a : Answer) (go : Read → Answer) → IsRead k (Err f) a → IsRead m (Err f) (and_then a go)
then_stopped m k Fail.Memory a go h = tt
then_stopped m k (Fail.Refused r) a go h = ap (λ (x : Answer). and_then x go) h

-- Blocks.

pub block_stopped : {A : Type 0} (go : Go) (c : Context) (ns : List Named) (all : Bool) (ps : List (Name × Sexp)) (u : Sexp) (m : Moment) (f : Fail) (shows : A → List SortId) (vs : Result (List SortId) Refusal)
    → IsShown shows (Err f) vs → IsRead m (Err f) (and_then vs (quantifier_over go c ns all ps u))
block_stopped go c ns all ps u m Fail.Memory shows vs h = tt
block_stopped go c ns all ps u m (Fail.Refused r) shows vs h = ap (λ (x : Result (List SortId) Refusal). and_then x (quantifier_over go c ns all ps u)) h

pub block_made : (go : Go) (c inner : Context) (ns mid : List Named) (all : Bool) (ps : List (Name × Sexp)) (u : Sexp) (ss : List SortId) (vs : Result (List SortId) Refusal) → vs ≡ Ok ss → mid ≡ ns
    → inner ≡ with_bound c (variables_named c.places ps ss) (c.places + length ss)
    → and_then vs (quantifier_over go c ns all ps u) ≡ and_then (go inner mid u) (closes_at c all ss u)
block_made go c inner ns mid all ps u ss vs v n i =
    ap (λ (w : Result (List SortId) Refusal). and_then w (quantifier_over go c ns all ps u)) v
    ∙ ap (λ (k : Context). and_then (go k ns u) (closes_at c all ss u)) (sym i)
    ∙ ap (λ (l : List Named). and_then (go inner l u) (closes_at c all ss u)) (sym n)

-- Items.

pub term_by : (n : ℕ) (c : Context) (ns : List Named) (x : Sexp) (o : Option (List Sexp)) (m : Moment) (r : Result Found Fail) → o ≡ members_of x → nesting x < n
    → ((k : ℕ) → n ≡ suc k → IsRead m r (term_step (term_at k) c ns x o)) → IsRead m r (term_at n c ns x)
term_by zero c ns x o m r e lt h = absurd (omega (arith, lt))
term_by (suc k) c ns x o m r e lt h = subst (λ (p : Option (List Sexp)). IsRead m r (term_step (term_at k) c ns x p)) e (h k refl)

-- names of variables and parameters

pub names_push : (mid new : List Entry) (was is : List ℕ) (number : ℕ) (t : Term) → Grows mid new → AllBelow (length (terms_of mid)) was → number_term new number ≡ t → is ≡ was ++ number ∷ []
    → terms_at new is ≡ terms_at mid was ++ t ∷ []
names_push mid new was is number t g b e p =
    ap (terms_at new) p ∙ map-append (number_term new) was (number ∷ []) ∙ ap (λ (l : List Term). l ++ number_term new number ∷ []) (terms_stay mid new was g b)
    ∙ ap (λ (u : Term). terms_at mid was ++ u ∷ []) e

pub variable_step : (mid new : List Entry) (was is : List ℕ) (number place next i : ℕ) (s : SortId) (ss : List SortId) (whole : List Term) → IsAdded mid new (name_made place (Ty.Of s)) → number ≡ length (terms_of mid) → AllBelow (length (terms_of mid)) was
    → is ≡ was ++ number ∷ [] → next ≡ place + 1 → drop i ss ≡ s ∷ drop (i + 1) ss → terms_at mid was ++ variables_from place (drop i ss) ≡ whole → terms_at new is ++ variables_from next (drop (i + 1) ss) ≡ whole
variable_step mid new was is number place next i s ss whole a n b p x d h =
    let t : Term = name_made place (Ty.Of s) (terms_of mid) in
    ap (λ (l : List Term). l ++ variables_from next (drop (i + 1) ss)) (names_push mid new was is number t (grows_added mid new (name_made place (Ty.Of s)) a) b (last_term mid new (name_made place (Ty.Of s)) number a n) p)
    ∙ append_assoc (terms_at mid was) (t ∷ []) (variables_from next (drop (i + 1) ss))
    ∙ ap (λ (k : ℕ). terms_at mid was ++ t ∷ variables_from k (drop (i + 1) ss)) x
    ∙ ap (λ (l : List SortId). terms_at mid was ++ variables_from place l) (sym d)
    ∙ h

pub parameter_step : (mid new : List Entry) (was is : List ℕ) (number i : ℕ) (ty : Ty) (tys : List Ty) (whole : List Term) → IsAdded mid new (name_made i ty) → number ≡ length (terms_of mid) → AllBelow (length (terms_of mid)) was
    → is ≡ was ++ number ∷ [] → drop i tys ≡ ty ∷ drop (i + 1) tys → terms_at mid was ++ parameters_from i (drop i tys) ≡ whole → terms_at new is ++ parameters_from (i + 1) (drop (i + 1) tys) ≡ whole
parameter_step mid new was is number i ty tys whole a n b p d h =
    let t : Term = name_made i ty (terms_of mid) in
    ap (λ (l : List Term). l ++ parameters_from (i + 1) (drop (i + 1) tys)) (names_push mid new was is number t (grows_added mid new (name_made i ty) a) b (last_term mid new (name_made i ty) number a n) p)
    ∙ append_assoc (terms_at mid was) (t ∷ []) (parameters_from (i + 1) (drop (i + 1) tys))
    ∙ ap (λ (l : List Ty). terms_at mid was ++ parameters_from i l) (sym d)
    ∙ h

pub names_below : (mid new : List Entry) (made : Making) (was is : List ℕ) (number : ℕ) → IsAdded mid new made → number ≡ length (terms_of mid) → AllBelow (length (terms_of mid)) was → is ≡ was ++ number ∷ [] → AllBelow (length (terms_of new)) is
names_below mid new made was is number a n b p = below_more (length (terms_of mid)) (length (terms_of new)) was is number (grows_longer mid new (grows_added mid new made a)) p b (last_below mid new made number a n)

pub length_bound : (ts : List Term) (ns : Numbered) → length (bound_in ts ns) ≡ length ns
length_bound ts [] = refl
length_bound ts (n ∷ ns) = ap suc (length_bound ts ns)

pub all_start : (go : Go) (c : Context) (ns : List Named) (xs : List Sexp) (front : List Term) (low : ℕ) → front ≡ [] → low ≡ none_read c → all_at go c ns xs ≡ and_then (all_at go c ns xs) (behind front low)
all_start go c ns xs front low f e =
    sym (all_low go c xs ns) ∙ ap (λ (k : ℕ). and_then (all_at go c ns xs) (behind [] k)) (sym e) ∙ ap (λ (l : List Term). and_then (all_at go c ns xs) (behind l low)) (sym f)

pub none_is : (ts : List Term) (ns : Numbered) (k : ℕ) → (let o : Result ℕ Refusal = Ok (length ns) in o ≡ Ok k) → k ≡ length (bound_in ts ns)
none_is ts ns k e = let s : length ns ≡ k = cc in sym s ∙ sym (length_bound ts ns)

-- the term of a command, under parameters

abbrev context_parts : Scope → List TheFunction → List Bound → ℕ → Context
context_parts s fs bs places = record (context_in s [] places []) { functions = fs; bound = bs }

pub under_context : (s : Scope) (old mid : List Entry) (names : List (List ℕ)) (is : List ℕ) (types : List Ty) (places : ℕ) → Grows old mid → AreInForce (terms_of old) (joined s.functions.now) → terms_at mid is ≡ parameters_from 0 types → places ≡ length types
    → context_in s (zipped names is) places (terms_of mid) ≡ context_under s names types (terms_of old)
under_context s old mid names is types places g f e p =
    ap (λ (fs : List TheFunction). context_parts s fs (bound_in (terms_of mid) (zipped names is)) places) (functions_stay old mid (joined s.functions.now) g f)
    ∙ ap (λ (bs : List Bound). context_parts s (functions_in (terms_of old) (joined s.functions.now)) bs places) (bound_zipped_terms mid names is ∙ ap (bound_to_terms names) e)
    ∙ ap (λ (k : ℕ). context_parts s (functions_in (terms_of old) (joined s.functions.now)) (bound_to_terms names (parameters_from 0 types)) k) p

pub elaborated_stopped : (m : Moment) (f : Fail) (c d : Context) (x : Sexp) → c ≡ d → IsRead m (Err f) (term_at (nesting x + 1) c [] x) → IsElaborated m.0 (Err f) (elaborated d x)
elaborated_stopped m Fail.Memory c d x e h = tt
elaborated_stopped m (Fail.Refused r) c d x e h = ap (λ (k : Context). elaborated k x) (sym e) ∙ h

pub elaborated_made : (es : List Entry) (given : Numbered) (found : Found) (c d : Context) (x : Sexp) → c ≡ d → term_at (nesting x + 1) c [] x ≡ Ok (read_shown (es, given) found)
    → (low : ℕ) × (elaborated d x ≡ Ok (read_of (named_in (terms_of es) given) low (number_term es found.number)))
elaborated_made es given found c d x e h = (found.low, ap (λ (k : Context). elaborated k x) (sym e) ∙ h)

-- Words.

abbrev pub placed_in : List Term → ℕ → ℕ → ℕ × Term
placed_in ts low n = (low, term_in ts n)

abbrev pub placed_of : List Term → Found → ℕ × Term
placed_of ts f = placed_in ts f.low f.number

pair_chosen : (b : Bool) (ts : List Term) (n i : ℕ) (o : Option Found) → or_else (option_map (placed_of ts) o) (cond b (Some (placed_in ts i n)) None) ≡ option_map (placed_of ts) (or_else o (cond b (Some (record { number = n; low = i })) None))
pair_chosen b ts n i (Some f) = refl
pair_chosen true ts n i None = refl
pair_chosen false ts n i None = refl

pub newest_bound : (i : ℕ) (name : List ℕ) (ts : List Term) (ns : Numbered) → newest_from i name (bound_in ts ns) ≡ option_map (placed_of ts) (newest_number i name ns)
newest_bound i name ts [] = refl
newest_bound i name ts (e ∷ ns) =
    ap (λ (o : Option (ℕ × Term)). or_else o (cond (bytes_eq e.0 name) (Some (placed_in ts i e.1)) None)) (newest_bound (i + 1) name ts ns)
    ∙ pair_chosen (bytes_eq e.0 name) ts e.1 i (newest_number (i + 1) name ns)

below_chosen : (k : ℕ) (b : Bool) (n i : ℕ) (o : Option Found) → (b ≡ true → n < k) → IfSome o (λ f. f.number < k) → IfSome (or_else o (cond b (Some (record { number = n; low = i })) None)) (λ f. f.number < k)
below_chosen k b n i (Some f) lt h = h
below_chosen k true n i None lt h = lt refl
below_chosen k false n i None lt h = tt

newest_below : (k i : ℕ) (name : List ℕ) (ns : Numbered) → AreBelow k ns → IfSome (newest_number i name ns) (λ f. f.number < k)
newest_below k i name [] h = tt
newest_below k i name (e ∷ ns) h = below_chosen k (bytes_eq e.0 name) e.1 i (newest_number (i + 1) name ns) (λ x. h.0) (newest_below k (i + 1) name ns h.1)

pub found_below : (k : ℕ) (name : List ℕ) (ns : Numbered) (f : Found) → AreBelow k ns → (let o : Result (Option Found) Refusal = Ok (newest_number 0 name ns) in o ≡ Ok (Some f)) → f.number < k
found_below k name ns f h e =
    let s : newest_number 0 name ns ≡ Some f = cc in
    subst (λ (o : Option Found). IfSome o (λ g. g.number < k)) s (newest_below k 0 name ns h)

pub word_found : (c : Context) (ns : List Named) (at : Place) (n : Name) (name : Option Name) (m : Moment) (names : Numbered) (f : Found) → c.bound ≡ bound_in (terms_of m.0) names → ns ≡ named_in (terms_of m.0) m.1 → name ≡ Some n
    → (let o : Result (Option Found) Refusal = Ok (newest_number 0 n.bytes names) in o ≡ Ok (Some f)) → word_at c ns at name ≡ Ok (read_shown m f)
word_found c ns at n name m names f b s e h =
    let k : newest_number 0 n.bytes names ≡ Some f = cc in
    let found : newest_from 0 n.bytes c.bound ≡ Some (placed_of (terms_of m.0) f) =
    ap (newest_from 0 n.bytes) b ∙ newest_bound 0 n.bytes (terms_of m.0) names ∙ ap (option_map (placed_of (terms_of m.0))) k in
    ap (word_at c ns at) e ∙ ap (by_bound c ns n) found ∙ ap (λ (l : List Named). let a : Answer = Ok (read_of l f.low (number_term m.0 f.number)) in a) s

pub word_unbound : (c : Context) (ns : List Named) (at : Place) (n : Name) (name : Option Name) (ts : List Term) (names : Numbered) → c.bound ≡ bound_in ts names → name ≡ Some n
    → (let o : Result (Option Found) Refusal = Ok (newest_number 0 n.bytes names) in o ≡ Ok None) → word_at c ns at name ≡ by_bound c ns n None
word_unbound c ns at n name ts names b e h =
    let k : newest_number 0 n.bytes names ≡ None = cc in
    let found : newest_from 0 n.bytes c.bound ≡ None = ap (newest_from 0 n.bytes) b ∙ newest_bound 0 n.bytes ts names ∙ ap (option_map (placed_of ts)) k in
    ap (word_at c ns at) e ∙ ap (by_bound c ns n) found

pub unbound_made : (c : Context) (ns : List Named) (n : Name) (m : Moment) (names : Numbered) (number : ℕ) (r : Result Found Fail) → length c.bound ≡ length names → ns ≡ named_in (terms_of m.0) m.1
    → constant_of c n (function_named n.bytes (in_force c ns)) ≡ Ok (number_term m.0 number) → IsMade r (Ok (record { number = number; low = length names })) → IsRead m r (by_bound c ns n None)
unbound_made c ns n m names number r l s h e =
    read_as m r (record { number = number; low = length names }) (by_bound c ns n None) e
    (read_made m ns (none_read c) number (constant_of c n (function_named n.bytes (in_force c ns))) s h
    ∙ ap (λ (k : ℕ). let a : Answer = Ok (read_of (named_in (terms_of m.0) m.1) k (number_term m.0 number)) in a) l)

pub leaves_as : (m : Moment) (r : Result Found Fail) (f : Found) → IsMade r (Ok f) → f.number < length (terms_of m.0) → AreBelow (length (terms_of m.0)) m.1 → Leaves m r
leaves_as m (Ok g) f e lt b = let s : f ≡ g = cc in (subst (λ (x : Found). x.number < length (terms_of m.0)) s lt, b)
leaves_as m (Err e) f h lt b = tt

-- Frames.

pub inner_ready : (s : Scope) (outer : Bor Frame) (names : List (List ℕ)) (is : List ℕ) (places : ℕ) (mid : List Entry) (given : Numbered) → AreInForce (terms_of mid) (joined s.functions.now) → AreBelow (length (terms_of mid)) (names_in outer.now) → AllBelow (length (terms_of mid)) is → AreBelow (length (terms_of mid)) given
    → IsReady (s, Frame.Inner outer names is places) (mid, given)
inner_ready s outer names is places mid given f b i g = record {
  functions = f;
  bound = subst (λ (ns : Numbered). AreBelow (length (terms_of mid)) ns) (sym (names_inside outer names is places)) (below_append (length (terms_of mid)) (names_in outer.now) (zipped names is) b (below_zipped (length (terms_of mid)) names is i));
  given = g;
}

frame_context : (s : Scope) (outer : Bor Frame) (names : List (List ℕ)) (is : List ℕ) (places : ℕ) (ts : List Term) → context_of (s, Frame.Inner outer names is places) ts ≡ context_in s (names_in outer.now ++ zipped names is) places ts
frame_context s outer names is places ts =
    ap (λ (ns : Numbered). context_in s ns (places_in (Frame.Inner outer names is places)) ts) (names_inside outer names is places)
    ∙ ap (λ (k : ℕ). context_in s (names_in outer.now ++ zipped names is) k ts) (places_inside outer names is places)

pub let_context : (s : Scope) (outer : Bor Frame) (names : List (List ℕ)) (ps : List (Name × Sexp)) (is : List ℕ) (places : ℕ) (old mid : List Entry) → Grows old mid → AreInForce (terms_of old) (joined s.functions.now) → AreBelow (length (terms_of old)) (names_in outer.now)
    → names_of ps ≡ names → places ≡ places_in outer.now → context_of (s, Frame.Inner outer names is places) (terms_of mid) ≡ with_bound (context_of (s, outer.now) (terms_of old)) (bound_to ps (terms_at mid is)) (places_in outer.now)
let_context s outer names ps is places old mid g f b n p =
    frame_context s outer names is places (terms_of mid)
    ∙ inner_context s old mid (names_in outer.now) (zipped names is) (bound_to ps (terms_at mid is)) (places_in outer.now) places (places_in outer.now) g f b
    (ap (λ (ns : List (List ℕ)). bound_in (terms_of mid) (zipped ns is)) (sym n) ∙ bound_zipped mid ps is) p

pub block_context : (s : Scope) (outer : Bor Frame) (names : List (List ℕ)) (ps : List (Name × Sexp)) (is : List ℕ) (ss : List SortId) (base deeper : ℕ) (old mid : List Entry) → Grows old mid → AreInForce (terms_of old) (joined s.functions.now) → AreBelow (length (terms_of old)) (names_in outer.now)
    → names ≡ names_of ps → base ≡ places_in outer.now → terms_at mid is ≡ variables_from base ss → deeper ≡ base + length ss
    → context_of (s, Frame.Inner outer names is deeper) (terms_of mid) ≡ with_bound (context_of (s, outer.now) (terms_of old)) (variables_named (places_in outer.now) ps ss) (places_in outer.now + length ss)
block_context s outer names ps is ss base deeper old mid g f b n p t d =
    frame_context s outer names is deeper (terms_of mid)
    ∙ inner_context s old mid (names_in outer.now) (zipped names is) (variables_named (places_in outer.now) ps ss) (places_in outer.now) deeper (places_in outer.now + length ss) g f b
    (ap (λ (ns : List (List ℕ)). bound_in (terms_of mid) (zipped ns is)) n ∙ bound_zipped mid ps is ∙ ap (bound_to ps) t
    ∙ variables_bound base ps ss ∙ ap (λ (k : ℕ). variables_named k ps ss) p)
    (d ∙ ap (λ (k : ℕ). k + length ss) p)

-- a term that was read within a `let`
pub let_read : (c : Context) (low : ℕ) (m : Moment) (found : Found) (names : Numbered) (whole : Answer) (r : Result Found Fail) → length c.bound ≡ length names → whole ≡ and_then (Ok (read_shown m found)) (outside c low)
    → IsMade r (Ok (lower low (lower (length names) found))) → IsRead m r whole
let_read c low m found names whole r l e h =
    read_as m r (lower low (lower (length names) found)) whole h
    (e ∙ ap (λ (k : ℕ). let a : Answer = Ok (read_of (named_in (terms_of m.0) m.1) (min low (min k found.low)) (number_term m.0 found.number)) in a) l)

-- a block over a term
pub block_read : (c : Context) (all : Bool) (ss : List SortId) (u : Sexp) (mid new : List Entry) (given : Numbered) (found : Found) (number : ℕ) (names : Numbered) (whole : Answer) (r : Result Found Fail) → length c.bound ≡ length names → Grows mid new → AreBelow (length (terms_of mid)) given
    → whole ≡ and_then (Ok (read_shown (mid, given) found)) (closes_at c all ss u) → quantified_at c all ss u (number_term mid found.number) ≡ Ok (number_term new number)
    → IsMade r (Ok (lower (length names) (record { number = number; low = found.low }))) → IsRead (new, given) r whole
block_read c all ss u mid new given found number names whole r l g b e q h =
    read_as (new, given) r (lower (length names) (record { number = number; low = found.low })) whole h
    (e ∙ read_made (new, given) (named_in (terms_of mid) given) (min (none_read c) found.low) number (quantified_at c all ss u (number_term mid found.number)) (sym (named_stays mid new given g b)) q
    ∙ ap (λ (k : ℕ). let a : Answer = Ok (read_of (named_in (terms_of new) given) (min k found.low) (number_term new number)) in a) l)

-- Attributes.

pub shown_some : {A B : Type 0} (found : Option B) (shows : A → B) (o : Option A) (a : A) → IsShownBy found shows o → o ≡ Some a → found ≡ Some (shows a)
shown_some found shows (Some x) a h e = let s : x ≡ a = cc in h ∙ ap (λ y. Some (shows y)) s
shown_some found shows None a h e = cc

pub annotated_made : (go : Go) (c : Context) (ns : List Named) (at : Place) (parts rest : List Sexp) (t : Sexp) (as' : List TheAttribute) (r : Read) → parts ≡ t ∷ rest → attributes_of c.text rest ≡ Some as' → 0 < length as' → go c ns t ≡ Ok r
    → annotated_at go c ns at parts ≡ attributes_at c at as' r
annotated_made go c ns at parts rest t [] r e a lt h = absurd (omega (arith, lt))
annotated_made go c ns at parts rest t (x ∷ as') r e a lt h =
    ap (annotated_at go c ns at) e ∙ ap (annotated_with go c ns at t) a ∙ ap (λ (y : Answer). and_then y (attributes_at c at (x ∷ as'))) h

pub first_nests : (parts rest : List Sexp) (t : Sexp) (n : ℕ) → parts ≡ t ∷ rest → nesting_all parts < n → nesting t < n
first_nests parts rest t n e lt =
    let h : nesting_all (t ∷ rest) < n = subst (λ (xs : List Sexp). nesting_all xs < n) e lt in
    let k : max (nesting t) (nesting_all rest) < n = h in
    omega (arith, k)

pub shown_long : (list : List Attribute) → length (attributes_shown list) ≡ length list
shown_long [] = refl
shown_long (a ∷ list) = ap suc (shown_long list)

-- the frame of a command's parameters
pub top_ready : (s : Scope) (outer : Bor Frame) (names : List (List ℕ)) (is : List ℕ) (places : ℕ) (old mid : List Entry) (given : Numbered) → outer.now ≡ Frame.Top → Grows old mid → AreInForce (terms_of old) (joined s.functions.now) → AllBelow (length (terms_of mid)) is → given ≡ []
    → IsReady (s, Frame.Inner outer names is places) (mid, given)
top_ready s outer names is places old mid given t g f b e =
    inner_ready s outer names is places mid given (in_force_stays old mid (joined s.functions.now) g f)
    (subst (λ (ns : Numbered). AreBelow (length (terms_of mid)) ns) (sym (ap names_in t ∙ names_top)) tt) b (subst (λ (ns : Numbered). AreBelow (length (terms_of mid)) ns) (sym e) tt)

pub top_context : (s : Scope) (outer : Bor Frame) (names : List (List ℕ)) (is : List ℕ) (types : List Ty) (places : ℕ) (old mid : List Entry) → outer.now ≡ Frame.Top → Grows old mid → AreInForce (terms_of old) (joined s.functions.now) → terms_at mid is ≡ parameters_from 0 types → places ≡ length types
    → context_of (s, Frame.Inner outer names is places) (terms_of mid) ≡ context_under s names types (terms_of old)
top_context s outer names is types places old mid t g f e p =
    frame_context s outer names is places (terms_of mid)
    ∙ ap (λ (ns : Numbered). context_in s (ns ++ zipped names is) places (terms_of mid)) (ap names_in t ∙ names_top)
    ∙ under_context s old mid names is types places g f e p

pub elaborated_under : (m : Moment) (f : Fail) (c d : Context) (ns : List Named) (x : Sexp) → c ≡ d → ns ≡ [] → IsRead m (Err f) (term_at (nesting x + 1) c ns x) → IsElaborated m.0 (Err f) (elaborated d x)
elaborated_under m f c d ns x e z h = elaborated_stopped m f c d x e (subst (λ (l : List Named). IsRead m (Err f) (term_at (nesting x + 1) c l x)) z h)

pub elaborated_as : (es : List Entry) (given : Numbered) (found : Found) (c d : Context) (ns : List Named) (x : Sexp) → c ≡ d → ns ≡ [] → term_at (nesting x + 1) c ns x ≡ Ok (read_shown (es, given) found)
    → (low : ℕ) × (elaborated d x ≡ Ok (read_of (named_in (terms_of es) given) low (number_term es found.number)))
elaborated_as es given found c d ns x e z h =
    elaborated_made es given found c d x e (subst (λ (l : List Named). term_at (nesting x + 1) c l x ≡ Ok (read_shown (es, given) found)) z h)
