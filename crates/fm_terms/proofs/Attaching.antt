-- Attributes, and the names that they give.
use Rattle.std.proofs.Common.{Bool, List, [], ap, append-nil, append_assoc, arith, drop, false, get_or, length, refl, subst, sym, true, ℕ, ◌++◌, ◌+◌, ◌<◌, ◌∙◌, ◌∷◌, ◌≡◌, ◌≤◌}
use Rattle.std.specs.Prelude.{Err, None, Ok, Option, Some, cond, is_some, nat_lt, not, ◌||◌}
use Rattle.std.proofs.lemmas.Bool.{and_parts}
use Rattle.std.proofs.lemmas.List.{drop_more}
use Rattle.std.specs.List.{list_any}
use Rattle.std.specs.Option.{option_map}
use Rattle.std.specs.Str.{bytes_eq}
use Rattle.fm_base.specs.declared.refusal.Fail.{Fail}
use Rattle.fm_base.specs.declared.refusal.Place.{Place}
use Rattle.fm_base.specs.declared.refusal.Reason.{Reason}
use Rattle.fm_sexp.specs.Items.{all_within, spans_within}
use Rattle.fm_sexp.specs.declared.items.Sexp.{Sexp}
use Rattle.fm_script.specs.Commands.{bad_shape, keyword_of}
use Rattle.fm_script.specs.Shown.{Name, name_shown}
use Rattle.fm_arena.specs.Kept.{IsAdded}
use Rattle.fm_arena.specs.Meanings.{Term, definition_made, term_in, terms_of}
use Rattle.fm_arena.specs.declared.node.Entry.{Entry}
use Rattle.fm_apply.specs.Applied.{Context, Function as TheFunction, Named, and_then, in_force, is_core, is_kept_for_solvers, is_own, is_taken, refused}
use Rattle.fm_apply.specs.Scoped.{AreBelow, Moment, Numbered, context_of, functions_in, named_in, number_term}
use Rattle.fm_levels.specs.Tables.{has}
use Rattle.fm_apply.specs.declared.scope.Found.{Found}
use Rattle.fm_apply.specs.declared.scope.Frame.{Frame}
use Rattle.fm_apply.specs.declared.scope.Scope.{Scope}
use Rattle.fm_apply.specs.declared.entry.Function.{Function}
use Rattle.fm_apply.proofs.Adding.{refused_shown}
use Rattle.fm_apply.proofs.Growing.{below_stays, grows_added, grows_longer, last_below, last_term, named_stays, term_stays}
use Rattle.fm_apply.proofs.Naming.{any_in_force, given_functions}
use Rattle.fm_terms.specs.Elaborate.{Answer, Attribute as TheAttribute, Read, attribute_at, attribute_before, attributes_at, attributes_of, named_at, none_read, read_of, with_name}
use Rattle.fm_terms.specs.Scoped.{AreValuesWithin, IsRead, IsValueBefore, IsValueWithin, attribute_shown, attributes_shown, given_name, read_in, read_shown}
use Rattle.fm_terms.specs.declared.attributes.Attribute.{Attribute}
use Rattle.fm_terms.proofs.Stepping.{below_append}

-- a name is given

or_parts : (a b : Bool) → (a || b) ≡ false → b ≡ false
or_parts true b h = cc
or_parts false b h = h

given_chosen : (b : Bool) (x y : Answer) → b ≡ true → cond b x y ≡ x
given_chosen true x y h = refl
given_chosen false x y h = cc

given_passed : (b : Bool) (x y : Answer) → b ≡ false → cond b x y ≡ y
given_passed true x y h = cc
given_passed false x y h = refl

pub given_refused : (c : Context) (n : Name) (r : Read) (m : Moment) (f : Fail) → is_taken c r.named n.bytes ≡ true → f ≡ Fail.Refused (refused Reason.Redeclared n.at) → IsRead m (Err f) (given_name c n r)
given_refused c n r m f h e =
    refused_shown (read_shown m) f (refused Reason.Redeclared n.at) (given_name c n r) e
    (given_chosen (is_taken c r.named n.bytes) (Err (refused Reason.Redeclared n.at)) (Ok (with_name r n.bytes)) h)

named_append : (ts : List Term) (as' bs : Numbered) → named_in ts (as' ++ bs) ≡ named_in ts as' ++ named_in ts bs
named_append ts [] bs = refl
named_append ts (a ∷ as') bs = ap (λ (l : List Named). record { name = a.0; term = term_in ts a.1 } ∷ l) (named_append ts as' bs)

pub not_there : (c : Context) (ts : List Term) (fs : List (List ℕ × Function)) (was : Numbered) (name : List ℕ) → c.functions ≡ functions_in ts fs → is_taken c (named_in ts was) name ≡ false → has name was ≡ false
not_there c ts fs was name e h =
    let first : Bool = is_core name || is_kept_for_solvers name in
    let own : Bool = is_own c.own name in
    let all : list_any (λ (f : TheFunction). bytes_eq f.name name) (in_force c (named_in ts was)) ≡ false =
    or_parts own (list_any (λ (f : TheFunction). bytes_eq f.name name) (in_force c (named_in ts was))) (or_parts first (own || list_any (λ (f : TheFunction). bytes_eq f.name name) (in_force c (named_in ts was))) h) in
    or_parts (has name fs) (has name was)
    (sym (any_in_force ts fs was name) ∙ ap (λ (gs : List TheFunction). list_any (λ (f : TheFunction). bytes_eq f.name name) (gs ++ given_functions ts was)) (sym e) ∙ all)

pub now_given : (b there : Bool) (was now : Numbered) (name : List ℕ) (number : ℕ) → b ≡ not there → there ≡ false → (b ≡ true → now ≡ was ++ (name, number) ∷ []) → now ≡ was ++ (name, number) ∷ []
now_given b there was now name number e h k = k (e ∙ ap not h)

pub given_added : (s : Scope) (f : Frame) (old new : List Entry) (was now : Numbered) (n : Name) (found : Found) (number : ℕ) → is_taken (context_of (s, f) (terms_of old)) (named_in (terms_of old) was) n.bytes ≡ false
    → IsAdded old new (definition_made found.number) → number ≡ length (terms_of old) → AreBelow (length (terms_of old)) was → found.number < length (terms_of old) → now ≡ was ++ (n.bytes, number) ∷ []
    → given_name (context_of (s, f) (terms_of old)) n (read_in old found (named_in (terms_of old) was)) ≡ Ok (read_shown (new, now) found)
given_added s f old new was now n found number h added e b lt k =
    let g = grows_added old new (definition_made found.number) added in
    let same : number_term new found.number ≡ number_term old found.number = term_stays old new found.number g lt in
    let last : number_term new number ≡ number_term old found.number = last_term old new (definition_made found.number) number added e in
    let names : named_in (terms_of new) now ≡ named_in (terms_of old) was ++ record { name = n.bytes; term = number_term old found.number } ∷ [] =
    ap (named_in (terms_of new)) k ∙ named_append (terms_of new) was ((n.bytes, number) ∷ [])
    ∙ ap (λ (l : List Named). l ++ named_in (terms_of new) ((n.bytes, number) ∷ [])) (named_stays old new was g b)
    ∙ ap (λ (t : Term). named_in (terms_of old) was ++ record { name = n.bytes; term = t } ∷ []) last in
    let r : Read = read_in old found (named_in (terms_of old) was) in
    given_passed (is_taken (context_of (s, f) (terms_of old)) (named_in (terms_of old) was) n.bytes) (Err (refused Reason.Redeclared n.at)) (Ok (with_name r n.bytes)) h
    ∙ ap (λ (l : List Named). let a : Answer = Ok (read_of l found.low (number_term old found.number)) in a) (sym names)
    ∙ ap (λ (t : Term). let a : Answer = Ok (read_of (named_in (terms_of new) now) found.low t) in a) (sym same)

pub given_below : (old new : List Entry) (was now : Numbered) (name : List ℕ) (found number : ℕ) → IsAdded old new (definition_made found) → number ≡ length (terms_of old) → AreBelow (length (terms_of old)) was → found < length (terms_of old)
    → now ≡ was ++ (name, number) ∷ [] → (found < length (terms_of new)) × AreBelow (length (terms_of new)) now
given_below old new was now name found number added e b lt k =
    let g = grows_added old new (definition_made found) added in
    let l = grows_longer old new g in
    (omega (arith, l, lt), subst (λ (ns : Numbered). AreBelow (length (terms_of new)) ns) (sym k) (below_append (length (terms_of new)) was ((name, number) ∷ []) (below_stays old new was g b) (last_below old new (definition_made found) number added e, tt)))

-- attributes, one after the other

pub attributes_none : (text : List ℕ) (k : Sexp) (xs : List Sexp) → keyword_of text k ≡ None → attributes_of text (k ∷ xs) ≡ None
attributes_none text k [] h = ap (λ (o : Option Name). attribute_before o None (Some [])) h
attributes_none text k (x ∷ xs) h =
    both (is_some (keyword_of text x)) (ap (λ (o : Option Name). attribute_before o None (attributes_of text (x ∷ xs))) h) (ap (λ (o : Option Name). attribute_before o (Some x) (attributes_of text xs)) h) where
      both : (b : Bool) {p q : Option (List TheAttribute)} → p ≡ None → q ≡ None → cond b p q ≡ None
      both true e d = e
      both false e d = d

split_chosen : (text : List ℕ) (k : Option Name) (b : Bool) (x : Sexp) (xs left : List Sexp) (value : Option Sexp) → (let p : Option Sexp × List Sexp = (value, left) in p ≡ cond b (None, x ∷ xs) (Some x, xs))
    → cond b (attribute_before k None (attributes_of text (x ∷ xs))) (attribute_before k (Some x) (attributes_of text xs)) ≡ attribute_before k value (attributes_of text left)
split_chosen text k true x xs left value h =
    let v : value ≡ None = ap (λ (p : Option Sexp × List Sexp). p.0) h in
    let l : left ≡ x ∷ xs = ap (λ (p : Option Sexp × List Sexp). p.1) h in
    ap (λ (o : Option Sexp). attribute_before k o (attributes_of text (x ∷ xs))) (sym v) ∙ ap (λ (ys : List Sexp). attribute_before k value (attributes_of text ys)) (sym l)
split_chosen text k false x xs left value h =
    let v : value ≡ Some x = ap (λ (p : Option Sexp × List Sexp). p.0) h in
    let l : left ≡ xs = ap (λ (p : Option Sexp × List Sexp). p.1) h in
    ap (λ (o : Option Sexp). attribute_before k o (attributes_of text xs)) (sym v) ∙ ap (λ (ys : List Sexp). attribute_before k value (attributes_of text ys)) (sym l)

attributes_next : (text : List ℕ) (k : Sexp) (xs left : List Sexp) (value : Option Sexp) → IsValueBefore text xs value left → attributes_of text (k ∷ xs) ≡ attribute_before (keyword_of text k) value (attributes_of text left)
attributes_next text k [] left value h =
    let v : value ≡ None = ap (λ (p : Option Sexp × List Sexp). p.0) h in
    let l : left ≡ [] = ap (λ (p : Option Sexp × List Sexp). p.1) h in
    ap (λ (o : Option Sexp). attribute_before (keyword_of text k) o (Some [])) (sym v) ∙ ap (λ (ys : List Sexp). attribute_before (keyword_of text k) value (attributes_of text ys)) (sym l)
attributes_next text k (x ∷ xs) left value h = split_chosen text (keyword_of text k) (is_some (keyword_of text x)) x xs left value h

shown_push : (list : List Attribute) (a : Attribute) → attributes_shown (list ++ a ∷ []) ≡ attributes_shown list ++ attribute_shown a ∷ []
shown_push [] a = refl
shown_push (x ∷ list) a = ap (λ (l : List TheAttribute). attribute_shown x ∷ l) (shown_push list a)

pushed : (front more : List TheAttribute) (k : Name) (value : Option Sexp) (rest : Option (List TheAttribute)) → more ≡ front ++ record { keyword = k; value = value } ∷ []
    → option_map (λ l. front ++ l) (attribute_before (Some k) value rest) ≡ option_map (λ l. more ++ l) rest
pushed front more k value None e = refl
pushed front more k value (Some l) e =
    ap (λ (x : List TheAttribute). Some x) (sym (append_assoc front (record { keyword = k; value = value } ∷ []) l) ∙ ap (λ (x : List TheAttribute). x ++ l) (sym e))

pub attributes_step : (text : List ℕ) (rest behind left : List Sexp) (first : Sexp) (list new : List Attribute) (a : Attribute) (whole : Option (List TheAttribute)) → rest ≡ first ∷ behind → Some (name_shown a.keyword) ≡ keyword_of text first
    → IsValueBefore text behind (option_map (λ x. x.now) a.value) left → new ≡ list ++ a ∷ []
    → option_map (λ more. attributes_shown list ++ more) (attributes_of text rest) ≡ whole → option_map (λ more. attributes_shown new ++ more) (attributes_of text left) ≡ whole
attributes_step text rest behind left first list new a whole r k v n h =
    let value : Option Sexp = option_map (λ x. x.now) a.value in
    sym (pushed (attributes_shown list) (attributes_shown new) (name_shown a.keyword) value (attributes_of text left) (ap attributes_shown n ∙ shown_push list a))
    ∙ ap (λ (o : Option Name). option_map (λ more. attributes_shown list ++ more) (attribute_before o value (attributes_of text left))) k
    ∙ ap (option_map (λ more. attributes_shown list ++ more)) (sym (attributes_next text first behind left value v))
    ∙ ap (λ (xs : List Sexp). option_map (λ more. attributes_shown list ++ more) (attributes_of text xs)) (sym r)
    ∙ h

pub attributes_stopped : (text : List ℕ) (rest behind : List Sexp) (first : Sexp) (front : List TheAttribute) (whole : Option (List TheAttribute)) → rest ≡ first ∷ behind → None ≡ keyword_of text first
    → option_map (λ more. front ++ more) (attributes_of text rest) ≡ whole → whole ≡ None
attributes_stopped text rest behind first front whole r k h =
    sym h ∙ ap (λ (xs : List Sexp). option_map (λ more. front ++ more) (attributes_of text xs)) r ∙ ap (option_map (λ more. front ++ more)) (attributes_none text first behind (sym k))

pub attributes_done : (text : List ℕ) (rest : List Sexp) (front : List TheAttribute) (whole : Option (List TheAttribute)) → rest ≡ [] → option_map (λ more. front ++ more) (attributes_of text rest) ≡ whole → whole ≡ Some front
attributes_done text rest front whole r h =
    sym h ∙ ap (λ (xs : List Sexp). option_map (λ more. front ++ more) (attributes_of text xs)) r ∙ ap (λ (l : List TheAttribute). Some l) (append-nil front)

pub values_push : (text : List ℕ) (list : List Attribute) (a : Attribute) → AreValuesWithin text (attributes_shown list) → IsValueWithin text (option_map (λ x. x.now) a.value) → AreValuesWithin text (attributes_shown (list ++ a ∷ []))
values_push text [] a h v = (v, tt)
values_push text (x ∷ list) a h v = (h.0, values_push text list a h.1 v)

pub within_rest : (n : ℕ) (rest behind : List Sexp) (first : Sexp) → rest ≡ first ∷ behind → all_within n rest ≡ true → all_within n behind ≡ true
within_rest n rest behind first e h = (and_parts (spans_within n first) (all_within n behind) (subst (λ (xs : List Sexp). all_within n xs ≡ true) e h)).1

next_of : (list : List Attribute) (i : ℕ) (a : Attribute) → i < length list → a ≡ get_or list i a → drop i list ≡ a ∷ drop (i + 1) list
next_of list i a lt is = subst (λ (y : Attribute). drop i list ≡ y ∷ drop (i + 1) list) (sym is) (drop_more list i a lt)

pub attributes_go : (c : Context) (at : Place) (list : List Attribute) (i : ℕ) (a : Attribute) (r next : Read) (whole : Answer) → i < length list → a ≡ get_or list i a
    → whole ≡ attributes_at c at (attributes_shown (drop i list)) r → attribute_at c at (attribute_shown a) r ≡ Ok next → whole ≡ attributes_at c at (attributes_shown (drop (i + 1) list)) next
attributes_go c at list i a r next whole lt is h e =
    h ∙ ap (λ (l : List Attribute). attributes_at c at (attributes_shown l) r) (next_of list i a lt is)
    ∙ ap (λ (x : Answer). and_then x (attributes_at c at (attributes_shown (drop (i + 1) list)))) e

pub attributes_halt : (c : Context) (at : Place) (list : List Attribute) (i : ℕ) (a : Attribute) (r : Read) (whole : Answer) (m : Moment) (f : Fail) → i < length list → a ≡ get_or list i a
    → whole ≡ attributes_at c at (attributes_shown (drop i list)) r → IsRead m (Err f) (attribute_at c at (attribute_shown a) r) → IsRead m (Err f) whole
attributes_halt c at list i a r whole m Fail.Memory lt is h e = tt
attributes_halt c at list i a r whole m (Fail.Refused x) lt is h e =
    h ∙ ap (λ (l : List Attribute). attributes_at c at (attributes_shown l) r) (next_of list i a lt is)
    ∙ ap (λ (x : Answer). and_then x (attributes_at c at (attributes_shown (drop (i + 1) list)))) e

pub values_next : (text : List ℕ) (list : List Attribute) (i : ℕ) (a : Attribute) → i < length list → a ≡ get_or list i a → AreValuesWithin text (attributes_shown (drop i list))
    → IsValueWithin text (attribute_shown a).value × AreValuesWithin text (attributes_shown (drop (i + 1) list))
values_next text list i a lt is h =
    let w = subst (λ (l : List Attribute). AreValuesWithin text (attributes_shown l)) (next_of list i a lt is) h in (w.0, w.1)

read_passed : (b : Bool) (x y : Answer) → b ≡ false → cond b x y ≡ y
read_passed true x y h = cc
read_passed false x y h = refl

not_less : (m n : ℕ) → n ≤ m → nat_lt m n ≡ false
not_less m n h = grind (arith, h)

pub named_passed : (c : Context) (at : Place) (n : Name) (o : Option Name) (r : Read) → o ≡ Some n → none_read c ≤ r.low → named_at c at o r ≡ given_name c n r
named_passed c at n o r e le =
    ap (λ (p : Option Name). named_at c at p r) e
    ∙ read_passed (nat_lt r.low (none_read c)) (Err (bad_shape n.at)) (given_name c n r) (not_less r.low (none_read c) le)
