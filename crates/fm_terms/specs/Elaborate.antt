-- Terms of a script (SMT-LIB 2.6, terms and the Core theory), elaborated: an item in a context is a term with its type,
-- or has one refusal, the first that is met. Arguments come before the term itself, from left to right. The number on
-- which the definition recurs is how deep the item nests.
use Rattle.std.specs.Prelude.{ℕ, zero, suc, ◌+◌, max, min, nat_lt, Bool, true, false, ◌||◌, cond, List, [], ◌∷◌, ◌++◌, length, map, is_some, Option, Some, None, Result, Ok, Err, codes}
use Rattle.std.specs.Str.{bytes_eq}
use Rattle.fm_base.specs.Truth.{is_bool}
use Rattle.fm_base.specs.declared.ids.SortId.{SortId}
use Rattle.fm_base.specs.declared.signature.Ty.{Ty}
use Rattle.fm_base.specs.declared.refusal.Place.{Place}
use Rattle.fm_base.specs.declared.refusal.Reason.{Reason}
use Rattle.fm_base.specs.declared.refusal.Refusal.{Refusal}
use Rattle.fm_sexp.specs.declared.items.Sexp.{Sexp}
use Rattle.fm_sexp.specs.declared.items.Sexp.TheOpen.{Sexp-F}
use Rattle.fm_sexp.specs.declared.items.Sexp.TheFolds.{fold-Sexp}
use Rattle.fm_script.specs.Shown.{Name}
use Rattle.fm_script.specs.Commands.{bad_shape, keyword_of, members_of, name_of, parameters_in, place_of_item, symbol_of}
use Rattle.fm_arena.specs.Meanings.{Term, named, quantified}
use Rattle.fm_apply.specs.Applied.{refused, Sort, Bound, Named, Context, and_then, unless_large, or_else, in_force, function_named, is_taken, constant_of, function_at}

-- the nesting of an item: 0 for a word
abbrev pub deepest_of : List ℕ → ℕ
deepest_of [] = 0
deepest_of (n ∷ ns) = max n (deepest_of ns)

abbrev pub nesting_step : Sexp-F ℕ → ℕ
nesting_step (Sexp-F.Word kind start end at) = 0
nesting_step (Sexp-F.List items start end at) = 1 + deepest_of items

abbrev pub nesting : Sexp → ℕ
nesting = fold-Sexp ℕ nesting_step

abbrev pub nesting_all : List Sexp → ℕ
nesting_all xs = deepest_of (map nesting xs)

-- an elaborated term, the least place of a bound name that stands in it as it is written (past all where none does), and
-- the names given in the command so far
pub record Read : Type 0 where
  pub term : Term
  pub low : ℕ
  pub named : List Named

pub record Reads : Type 0 where
  pub terms : List Term
  pub low : ℕ
  pub named : List Named

abbrev pub Answer : Type 0
Answer = Result Read Refusal

abbrev pub Go : Type 0
Go = Context → List Named → Sexp → Answer

-- no bound name is read
abbrev pub none_read : Context → ℕ
none_read c = length c.bound

abbrev pub read_of : List Named → ℕ → Term → Read
read_of ns low t = record { term = t; low = low; named = ns }

abbrev pub read_at : List Named → ℕ → Result Term Refusal → Answer
read_at ns low a = and_then a (λ t. Ok (read_of ns low t))

-- names

-- the newest bound name that is this one, with its place
abbrev pub newest_from : ℕ → List ℕ → List Bound → Option (ℕ × Term)
newest_from i name [] = None
newest_from i name (b ∷ bs) = or_else (newest_from (i + 1) name bs) (cond (bytes_eq b.name name) (Some (i, b.term)) None)

abbrev pub by_bound : Context → List Named → Name → Option (ℕ × Term) → Answer
by_bound c ns n (Some p) = Ok (read_of ns p.0 p.1)
by_bound c ns n None = read_at ns (none_read c) (constant_of c n (function_named n.bytes (in_force c ns)))

abbrev pub word_at : Context → List Named → Place → Option Name → Answer
word_at c ns at None = Err (bad_shape at)
word_at c ns at (Some n) = by_bound c ns n (newest_from 0 n.bytes c.bound)

-- terms one after the other

abbrev pub with_read : Read → Reads → Result Reads Refusal
with_read r rs = Ok (record { terms = r.term ∷ rs.terms; low = min r.low rs.low; named = rs.named })

abbrev pub all_at : Go → Context → List Named → List Sexp → Result Reads Refusal
all_at go c ns [] = Ok (record { terms = []; low = none_read c; named = ns })
all_at go c ns (x ∷ xs) = and_then (go c ns x) (λ r. and_then (all_at go c r.named xs) (with_read r))

-- applications

-- the head is looked up behind the arguments, among the names that they gave too
abbrev pub applied_to : Context → Place → Name → List Sexp → Reads → Answer
applied_to c at n xs rs = read_at rs.named rs.low (function_at c at n xs rs.terms (function_named n.bytes (in_force c rs.named)))

abbrev pub application_at : Go → Context → List Named → Place → Option Name → List Sexp → Answer
application_at go c ns at None xs = Err (bad_shape at)
application_at go c ns at (Some n) [] = Err (bad_shape at)
application_at go c ns at (Some n) (x ∷ xs) = and_then (all_at go c ns (x ∷ xs)) (applied_to c at n (x ∷ xs))

-- let

abbrev pub named_item : Option Name → Sexp → Option (Name × Sexp)
named_item None x = None
named_item (Some n) x = Some (n, x)

abbrev pub pair_in : List ℕ → Option (List Sexp) → Option (Name × Sexp)
pair_in text None = None
pair_in text (Some []) = None
pair_in text (Some (n ∷ [])) = None
pair_in text (Some (n ∷ x ∷ [])) = named_item (name_of text n) x
pair_in text (Some (n ∷ x ∷ y ∷ xs)) = None

abbrev pub pair_of : List ℕ → Sexp → Option (Name × Sexp)
pair_of text x = pair_in text (members_of x)

abbrev pub with_pair : Option (Name × Sexp) → Option (List (Name × Sexp)) → Option (List (Name × Sexp))
with_pair None ps = None
with_pair (Some p) None = None
with_pair (Some p) (Some ps) = Some (p ∷ ps)

abbrev pub pairs_of : List ℕ → List Sexp → Option (List (Name × Sexp))
pairs_of text [] = Some []
pairs_of text (x ∷ xs) = with_pair (pair_of text x) (pairs_of text xs)

abbrev pub pairs_in : List ℕ → Option (List Sexp) → Option (List (Name × Sexp))
pairs_in text None = None
pairs_in text (Some xs) = pairs_of text xs

-- the first name that stood before
abbrev pub is_among : List (List ℕ) → List ℕ → Bool
is_among [] name = false
is_among (n ∷ ns) name = bytes_eq n name || is_among ns name

abbrev pub repeated : List (List ℕ) → List (Name × Sexp) → Option Place
repeated seen [] = None
repeated seen (p ∷ ps) = cond (is_among seen p.0.bytes) (Some p.0.at) (repeated (seen ++ p.0.bytes ∷ []) ps)

abbrev pub unless_repeated : {A : Type 0} → Option Place → Result A Refusal → Result A Refusal
unless_repeated None a = a
unless_repeated (Some at) a = Err (bad_shape at)

abbrev pub items_in : List (Name × Sexp) → List Sexp
items_in ps = map (λ (p : Name × Sexp). p.1) ps

-- the names bound to terms, one each
abbrev pub bound_to : List (Name × Sexp) → List Term → List Bound
bound_to [] ts = []
bound_to (p ∷ ps) [] = []
bound_to (p ∷ ps) (t ∷ ts) = record { name = p.0.bytes; term = t } ∷ bound_to ps ts

abbrev pub with_bound : Context → List Bound → ℕ → Context
with_bound c bs places =
    record { text = c.text; sorts = c.sorts; functions = c.functions; command = c.command; own = c.own; naming = c.naming; bound = c.bound ++ bs; places = places }

-- what is read in an inner scope, of the names bound outside it
abbrev pub outside : Context → ℕ → Read → Answer
outside c low r = Ok (read_of r.named (min low (min (none_read c) r.low)) r.term)

abbrev pub let_over : Go → Context → List (Name × Sexp) → Sexp → Reads → Answer
let_over go c ps u rs = and_then (go (with_bound c (bound_to ps rs.terms) c.places) rs.named u) (outside c rs.low)

abbrev pub let_with : Go → Context → List Named → Place → Option (List (Name × Sexp)) → Sexp → Answer
let_with go c ns at None u = Err (bad_shape at)
let_with go c ns at (Some []) u = Err (bad_shape at)
let_with go c ns at (Some (p ∷ ps)) u = unless_repeated (repeated [] (p ∷ ps)) (and_then (all_at go c ns (items_in (p ∷ ps))) (let_over go c (p ∷ ps) u))

abbrev pub let_at : Go → Context → List Named → Place → List Sexp → Answer
let_at go c ns at [] = Err (bad_shape at)
let_at go c ns at (bs ∷ []) = Err (bad_shape at)
let_at go c ns at (bs ∷ u ∷ []) = let_with go c ns at (pairs_in c.text (members_of bs)) u
let_at go c ns at (bs ∷ u ∷ x ∷ xs) = Err (bad_shape at)

-- quantifiers

abbrev pub sort_named : List ℕ → List Sort → Option Ty
sort_named name [] = None
sort_named name (s ∷ ss) = cond (bytes_eq s.name name) (Some s.ty) (sort_named name ss)

-- a declared sort; Bool is refused
abbrev pub variable_sort_in : Place → Option Ty → Result SortId Refusal
variable_sort_in at None = Err (refused Reason.UnknownSort at)
variable_sort_in at (Some Ty.Bool) = Err (refused Reason.BoolArgument at)
variable_sort_in at (Some (Ty.Of s)) = Ok s

abbrev pub variable_sort : List Sort → Place → Option Name → Result SortId Refusal
variable_sort sorts at None = Err (refused Reason.SortArity at)
variable_sort sorts at (Some n) = cond (bytes_eq n.bytes (codes "Bool")) (Err (refused Reason.BoolArgument n.at)) (variable_sort_in n.at (sort_named n.bytes sorts))

abbrev pub variable_sorts : List ℕ → List Sort → List (Name × Sexp) → Result (List SortId) Refusal
variable_sorts text sorts [] = Ok []
variable_sorts text sorts (p ∷ ps) = and_then (variable_sort sorts (place_of_item p.1) (name_of text p.1)) (λ s. and_then (variable_sorts text sorts ps) (λ ss. Ok (s ∷ ss)))

-- the sorts of the variables, unless a name stands twice
abbrev pub unless_again : Option Place → List SortId → Result (List SortId) Refusal
unless_again None ss = Ok ss
unless_again (Some at) ss = Err (bad_shape at)

abbrev pub variables_at : List ℕ → List Sort → Place → List (Name × Sexp) → Result (List SortId) Refusal
variables_at text sorts at [] = Err (bad_shape at)
variables_at text sorts at (p ∷ ps) = and_then (variable_sorts text sorts (p ∷ ps)) (unless_again (repeated [] (p ∷ ps)))

abbrev pub variables_named : ℕ → List (Name × Sexp) → List SortId → List Bound
variables_named place [] ss = []
variables_named place (p ∷ ps) [] = []
variables_named place (p ∷ ps) (s ∷ ss) = record { name = p.0.bytes; term = record { ty = Ty.Of s; meaning = named place false } } ∷ variables_named (place + 1) ps ss

abbrev pub quantified_at : Context → Bool → List SortId → Sexp → Term → Result Term Refusal
quantified_at c all ss u t = cond (is_bool t.ty) (unless_large c.command (record { ty = Ty.Bool; meaning = quantified all ss c.places t.meaning })) (Err (refused Reason.SortMismatch (place_of_item u)))

abbrev pub closes_at : Context → Bool → List SortId → Sexp → Read → Answer
closes_at c all ss u r = read_at r.named (min (none_read c) r.low) (quantified_at c all ss u r.term)

abbrev pub quantifier_over : Go → Context → List Named → Bool → List (Name × Sexp) → Sexp → List SortId → Answer
quantifier_over go c ns all ps u ss = and_then (go (with_bound c (variables_named c.places ps ss) (c.places + length ss)) ns u) (closes_at c all ss u)

abbrev pub quantifier_with : Go → Context → List Named → Bool → Place → Option (List (Name × Sexp)) → Sexp → Answer
quantifier_with go c ns all at None u = Err (bad_shape at)
quantifier_with go c ns all at (Some ps) u = and_then (variables_at c.text c.sorts at ps) (quantifier_over go c ns all ps u)

abbrev pub quantifier_at : Go → Context → List Named → Bool → Place → List Sexp → Answer
quantifier_at go c ns all at [] = Err (bad_shape at)
quantifier_at go c ns all at (bs ∷ []) = Err (bad_shape at)
quantifier_at go c ns all at (bs ∷ u ∷ []) = quantifier_with go c ns all at (parameters_in c.text (members_of bs)) u
quantifier_at go c ns all at (bs ∷ u ∷ x ∷ xs) = Err (bad_shape at)

-- attributes: a keyword, with the next item where that isn't a keyword

pub record Attribute : Type 0 where
  pub keyword : Name
  pub value : Option Sexp

-- the first attribute, and those behind it
abbrev pub attribute_before : Option Name → Option Sexp → Option (List Attribute) → Option (List Attribute)
attribute_before None value rest = None
attribute_before (Some k) value None = None
attribute_before (Some k) value (Some rest) = Some (record { keyword = k; value = value } ∷ rest)

abbrev pub attributes_of : List ℕ → List Sexp → Option (List Attribute)
attributes_of text [] = Some []
attributes_of text (k ∷ []) = attribute_before (keyword_of text k) None (Some [])
attributes_of text (k ∷ x ∷ xs) =
    cond (is_some (keyword_of text x))
    (attribute_before (keyword_of text k) None (attributes_of text (x ∷ xs)))
    (attribute_before (keyword_of text k) (Some x) (attributes_of text xs))

-- the name of a value, where it has one
abbrev pub name_in : List ℕ → Option Sexp → Option Name
name_in text None = None
name_in text (Some x) = name_of text x

abbrev pub is_list : Option Sexp → Bool
is_list None = false
is_list (Some x) = is_some (members_of x)

-- `:named` gives the term a name from its end on, unless a name that is bound outside it stands in it
abbrev pub with_name : Read → List ℕ → Read
with_name r name = record { term = r.term; low = r.low; named = r.named ++ record { name = name; term = r.term } ∷ [] }

abbrev pub named_at : Context → Place → Option Name → Read → Answer
named_at c at None r = Err (bad_shape at)
named_at c at (Some n) r =
    cond (nat_lt r.low (none_read c)) (Err (bad_shape n.at))
    (cond (is_taken c r.named n.bytes) (Err (refused Reason.Redeclared n.at))
    (Ok (with_name r n.bytes)))

abbrev pub attribute_at : Context → Place → Attribute → Read → Answer
attribute_at c at a r =
    cond (bytes_eq a.keyword.bytes (codes ":named")) (cond c.naming (named_at c at (name_in c.text a.value) r) (Err (bad_shape a.keyword.at)))
    (cond (bytes_eq a.keyword.bytes (codes ":pattern")) (cond (is_list a.value) (Ok r) (Err (bad_shape at)))
    (Ok r))

abbrev pub attributes_at : Context → Place → List Attribute → Read → Answer
attributes_at c at [] r = Ok r
attributes_at c at (a ∷ as') r = and_then (attribute_at c at a r) (attributes_at c at as')

abbrev pub annotated_with : Go → Context → List Named → Place → Sexp → Option (List Attribute) → Answer
annotated_with go c ns at t None = Err (bad_shape at)
annotated_with go c ns at t (Some []) = Err (bad_shape at)
annotated_with go c ns at t (Some (a ∷ as')) = and_then (go c ns t) (attributes_at c at (a ∷ as'))

abbrev pub annotated_at : Go → Context → List Named → Place → List Sexp → Answer
annotated_at go c ns at [] = Err (bad_shape at)
annotated_at go c ns at (t ∷ xs) = annotated_with go c ns at t (attributes_of c.text xs)

-- lists, by their head

abbrev pub is_word : Option (List ℕ) → List ℕ → Bool
is_word None w = false
is_word (Some s) w = bytes_eq s w

abbrev pub by_head : Go → Context → List Named → Place → Option (List ℕ) → Sexp → List Sexp → Answer
by_head go c ns at head x xs =
    cond (is_word head (codes "let")) (let_at go c ns at xs)
    (cond (is_word head (codes "forall")) (quantifier_at go c ns true at xs)
    (cond (is_word head (codes "exists")) (quantifier_at go c ns false at xs)
    (cond (is_word head (codes "!")) (annotated_at go c ns at xs)
    (application_at go c ns at (name_of c.text x) xs))))

abbrev pub list_at : Go → Context → List Named → Place → List Sexp → Answer
list_at go c ns at [] = Err (bad_shape at)
list_at go c ns at (x ∷ xs) = by_head go c ns at (symbol_of c.text x) x xs

abbrev pub term_step : Go → Context → List Named → Sexp → Option (List Sexp) → Answer
term_step go c ns x None = word_at c ns (place_of_item x) (name_of c.text x)
term_step go c ns x (Some items) = list_at go c ns (place_of_item x) items

-- the term of an item that nests less deep than the number
abbrev pub term_at : ℕ → Go
term_at zero c ns x = Err (bad_shape c.command)
term_at (suc n) c ns x = term_step (term_at n) c ns x (members_of x)

-- the term of an item of a command in which no name was given yet
abbrev pub elaborated : Context → Sexp → Answer
elaborated c x = term_at (nesting x + 1) c [] x
