-- Chains of arguments: each step of `xor`, `=>` and `=`, and two or more arguments of one type.
use Rattle.std.proofs.Common.{◌≡◌, ℕ, ◌+◌, ◌<◌, Bool, true, false, List, [], ◌∷◌, ◌++◌, length, map, drop, get_or, ap, refl, sym, subst, ◌∙◌, arith, append_assoc}
use Rattle.std.specs.Prelude.{Option, Some, None, Result, Ok, Err}
use Rattle.std.proofs.lemmas.List.{drop_more, map-append, length-map}
use Rattle.fm_base.specs.Truth.{is_bool}
use Rattle.fm_base.specs.declared.refusal.Fail.{Fail}
use Rattle.fm_base.specs.declared.refusal.Place.{Place}
use Rattle.fm_base.specs.declared.refusal.Reason.{Reason}
use Rattle.fm_base.specs.declared.refusal.Refusal.{Refusal}
use Rattle.fm_base.specs.declared.signature.Ty.{Ty}
use Rattle.fm_sexp.specs.declared.items.Sexp.{Sexp}
use Rattle.fm_arena.specs.Trees.{all_formulas, all_things, takes}
use Rattle.fm_arena.specs.Meanings.{Term, terms_of}
use Rattle.fm_arena.specs.declared.node.Entry.{Entry}
use Rattle.fm_arena.specs.declared.node.Op.{Op}
use Rattle.fm_apply.specs.Applied.{Context, all_of, and_then, differs_at, distinct_at, equal_at, first_wrong, implied_at, implies_at, made_at, neighbours_from, refused, same_at, several_at, type_among, unless_wrong, xor_from}
use Rattle.fm_apply.specs.Scoped.{AllBelow, AreOfKind, Grows, IsShown, IsTerm, number_kind, number_term, terms_at}
use Rattle.fm_apply.proofs.Applying.{right_kinds}
use Rattle.fm_apply.proofs.Growing.{grows_longer, kind_stays, term_stays, terms_stay}

pub of_kind_below : (k : Bool) (es : List Entry) (is : List ℕ) → AreOfKind k es is → AllBelow (length (terms_of es)) is
of_kind_below k es [] h = tt
of_kind_below k es (i ∷ is) h = (h.0, of_kind_below k es is h.2)

pub of_kind_stays : (k : Bool) (old new : List Entry) (is : List ℕ) → Grows old new → AreOfKind k old is → AreOfKind k new is
of_kind_stays k old new [] g h = tt
of_kind_stays k old new (i ∷ is) g h = (let l = grows_longer old new g in let b = h.0 in omega (arith, l, b), kind_stays old new i g h.0 ∙ h.1, of_kind_stays k old new is g h.2)

pub of_kind_push : (k : Bool) (es : List Entry) (is : List ℕ) (i : ℕ) → AreOfKind k es is → i < length (terms_of es) → number_kind es i ≡ k → AreOfKind k es (is ++ i ∷ [])
of_kind_push k es [] i h lt e = (lt, e, tt)
of_kind_push k es (j ∷ is) i h lt e = (h.0, h.1, of_kind_push k es is i h.2 lt e)

-- the next argument, and what is left
pub next_of_kind : (k : Bool) (es : List Entry) (xs : List ℕ) (i d : ℕ) → i < length xs → AreOfKind k es (drop i xs) → AreOfKind k es (get_or xs i d ∷ drop (i + 1) xs)
next_of_kind k es xs i d lt h = subst (λ (l : List ℕ). AreOfKind k es l) (drop_more xs i d lt) h

pub next_kind : (k : Bool) (old mid : List Entry) (xs : List ℕ) (i d : ℕ) → i < length xs → Grows old mid → AreOfKind k old (drop i xs) → number_kind mid (get_or xs i d) ≡ k
next_kind k old mid xs i d lt g h =
    let n = next_of_kind k old xs i d lt h in
    kind_stays old mid (get_or xs i d) g n.0 ∙ n.1

pub xor_step : (c : Context) (k : Bool) (old mid new : List Entry) (xs : List ℕ) (i d sum number : ℕ) (whole : Result Term Refusal) → i < length xs → Grows old mid → AreOfKind k old (drop i xs)
    → whole ≡ xor_from c (number_term mid sum) (terms_at old (drop i xs)) → differs_at c (number_term mid sum) (number_term mid (get_or xs i d)) ≡ Ok (number_term new number)
    → whole ≡ xor_from c (number_term new number) (terms_at old (drop (i + 1) xs))
xor_step c k old mid new xs i d sum number whole lt g a h e =
    let rest = terms_at old (drop (i + 1) xs) in
    h ∙ ap (λ (l : List ℕ). xor_from c (number_term mid sum) (terms_at old l)) (drop_more xs i d lt)
    ∙ ap (λ (t : Term). and_then (differs_at c (number_term mid sum) t) (λ (u : Term). xor_from c u rest)) (sym (term_stays old mid (get_or xs i d) g (next_of_kind k old xs i d lt a).0))
    ∙ ap (λ (r : Result Term Refusal). and_then r (λ (u : Term). xor_from c u rest)) e

pub xor_stopped : (c : Context) (k : Bool) (old mid new : List Entry) (xs : List ℕ) (i d sum : ℕ) (whole : Result Term Refusal) (f : Fail) → i < length xs → Grows old mid → AreOfKind k old (drop i xs)
    → whole ≡ xor_from c (number_term mid sum) (terms_at old (drop i xs)) → IsTerm new (Err f) (differs_at c (number_term mid sum) (number_term mid (get_or xs i d)))
    → IsTerm new (Err f) whole
xor_stopped c k old mid new xs i d sum whole Fail.Memory lt g a h e = tt
xor_stopped c k old mid new xs i d sum whole (Fail.Refused r) lt g a h e =
    let rest = terms_at old (drop (i + 1) xs) in
    h ∙ ap (λ (l : List ℕ). xor_from c (number_term mid sum) (terms_at old l)) (drop_more xs i d lt)
    ∙ ap (λ (t : Term). and_then (differs_at c (number_term mid sum) t) (λ (u : Term). xor_from c u rest)) (sym (term_stays old mid (get_or xs i d) g (next_of_kind k old xs i d lt a).0))
    ∙ ap (λ (r : Result Term Refusal). and_then r (λ (u : Term). xor_from c u rest)) e

-- `=>`

pub implies_made : (c : Context) (a b n b2 : Term) (new : List Entry) (r : Result ℕ Fail) → made_at c Op.Not Ty.Bool (a ∷ []) ≡ Ok n → b2 ≡ b → IsTerm new r (made_at c Op.Or Ty.Bool (n ∷ b2 ∷ [])) → IsTerm new r (implies_at c a b)
implies_made c a b n b2 new r e s h =
    subst (λ (y : Result Term Refusal). IsTerm new r y) (sym (ap (λ (x : Result Term Refusal). and_then x (λ (m : Term). made_at c Op.Or Ty.Bool (m ∷ b ∷ []))) e ∙ ap (λ (t : Term). made_at c Op.Or Ty.Bool (n ∷ t ∷ [])) (sym s))) h

abbrev pub finish : Context → List Term → Result Term Refusal → Result Term Refusal
finish c [] r = r
finish c (a ∷ ts) r = and_then (finish c ts r) (implies_at c a)

pub implied_split : (c : Context) (front : List Term) (last : Term) → implied_at c (front ++ last ∷ []) ≡ finish c front (Ok last)
implied_split c [] last = refl
implied_split c (a ∷ []) last = refl
implied_split c (a ∷ b ∷ front) last = ap (λ (r : Result Term Refusal). and_then r (implies_at c a)) (implied_split c (b ∷ front) last)

pub finish_push : (c : Context) (front : List Term) (a : Term) (r : Result Term Refusal) → finish c (front ++ a ∷ []) r ≡ finish c front (and_then r (implies_at c a))
finish_push c [] a r = refl
finish_push c (x ∷ front) a r = ap (λ (s : Result Term Refusal). and_then s (implies_at c x)) (finish_push c front a r)

pub finish_refused : (c : Context) (front : List Term) (r : Refusal) → finish c front (Err r) ≡ Err r
finish_refused c [] r = refl
finish_refused c (x ∷ front) r = ap (λ (s : Result Term Refusal). and_then s (implies_at c x)) (finish_refused c front r)

pub implied_start : (c : Context) (old : List Entry) (args front : List ℕ) (last : ℕ) → args ≡ front ++ last ∷ [] → implied_at c (terms_at old args) ≡ finish c (terms_at old front) (Ok (number_term old last))
implied_start c old args front last e = ap (λ (l : List ℕ). implied_at c (terms_at old l)) e ∙ ap (implied_at c) (map-append (number_term old) front (last ∷ [])) ∙ implied_split c (terms_at old front) (number_term old last)

pub of_kind_front : (k : Bool) (es : List Entry) (front : List ℕ) (last : ℕ) → AreOfKind k es (front ++ last ∷ []) → AreOfKind k es front × (last < length (terms_of es)) × (number_kind es last ≡ k)
of_kind_front k es [] last h = (tt, h.0, h.1)
of_kind_front k es (i ∷ front) last h = let r = of_kind_front k es front last h.2 in ((h.0, h.1, r.0), r.1, r.2)

implied_next : (c : Context) (old mid : List Entry) (rest before : List ℕ) (arg sum : ℕ) (whole : Result Term Refusal) → rest ≡ before ++ arg ∷ [] → Grows old mid → arg < length (terms_of old)
    → whole ≡ finish c (terms_at old rest) (Ok (number_term mid sum)) → whole ≡ finish c (terms_at old before) (implies_at c (number_term mid arg) (number_term mid sum))
implied_next c old mid rest before arg sum whole e g lt h =
    h ∙ ap (λ (l : List ℕ). finish c (terms_at old l) (Ok (number_term mid sum))) e
    ∙ ap (λ (l : List Term). finish c l (Ok (number_term mid sum))) (map-append (number_term old) before (arg ∷ []))
    ∙ finish_push c (terms_at old before) (number_term old arg) (Ok (number_term mid sum))
    ∙ ap (λ (t : Term). finish c (terms_at old before) (implies_at c t (number_term mid sum))) (sym (term_stays old mid arg g lt))

pub implied_step : (c : Context) (k : Bool) (old mid new : List Entry) (rest before : List ℕ) (arg sum number : ℕ) (whole : Result Term Refusal) → rest ≡ before ++ arg ∷ [] → Grows old mid → AreOfKind k old rest
    → whole ≡ finish c (terms_at old rest) (Ok (number_term mid sum)) → implies_at c (number_term mid arg) (number_term mid sum) ≡ Ok (number_term new number)
    → whole ≡ finish c (terms_at old before) (Ok (number_term new number))
implied_step c k old mid new rest before arg sum number whole e g a h s =
    implied_next c old mid rest before arg sum whole e g (of_kind_front k old before arg (subst (λ (l : List ℕ). AreOfKind k old l) e a)).1 h ∙ ap (finish c (terms_at old before)) s

pub implied_stopped : (c : Context) (k : Bool) (old mid new : List Entry) (rest before : List ℕ) (arg sum : ℕ) (whole : Result Term Refusal) (f : Fail) → rest ≡ before ++ arg ∷ [] → Grows old mid → AreOfKind k old rest
    → whole ≡ finish c (terms_at old rest) (Ok (number_term mid sum)) → IsTerm new (Err f) (implies_at c (number_term mid arg) (number_term mid sum)) → IsTerm new (Err f) whole
implied_stopped c k old mid new rest before arg sum whole Fail.Memory e g a h s = tt
implied_stopped c k old mid new rest before arg sum whole (Fail.Refused r) e g a h s =
    implied_next c old mid rest before arg sum whole e g (of_kind_front k old before arg (subst (λ (l : List ℕ). AreOfKind k old l) e a)).1 h ∙ ap (finish c (terms_at old before)) s ∙ finish_refused c (terms_at old before) r

pub front_of_kind : (k : Bool) (old : List Entry) (rest before : List ℕ) (arg : ℕ) → rest ≡ before ++ arg ∷ [] → AreOfKind k old rest → AreOfKind k old before × (arg < length (terms_of old)) × (number_kind old arg ≡ k)
front_of_kind k old rest before arg e a = of_kind_front k old before arg (subst (λ (l : List ℕ). AreOfKind k old l) e a)

-- `=`

behind : (rest : Result (List Term) Refusal) (made : List Term) (t : Term) → and_then (and_then rest (λ (ts : List Term). Ok (t ∷ ts))) (λ (ts : List Term). Ok (made ++ ts)) ≡ and_then rest (λ (ts : List Term). Ok ((made ++ t ∷ []) ++ ts))
behind (Ok ts) made t = ap Ok (sym (append_assoc made (t ∷ []) ts))
behind (Err r) made t = refl

neighbours_next : (c : Context) (old mid : List Entry) (xs : List ℕ) (i d left : ℕ) (made : List Term) (whole : Result (List Term) Refusal) → i < length xs → Grows old mid → left < length (terms_of old) → get_or xs i d < length (terms_of old)
    → whole ≡ and_then (neighbours_from c (number_term old left) (terms_at old (drop i xs))) (λ (es : List Term). Ok (made ++ es))
    → whole ≡ and_then (and_then (same_at c (number_term mid left) (number_term mid (get_or xs i d))) (λ (e : Term). and_then (neighbours_from c (number_term old (get_or xs i d)) (terms_at old (drop (i + 1) xs))) (λ (es : List Term). Ok (e ∷ es)))) (λ (es : List Term). Ok (made ++ es))
neighbours_next c old mid xs i d left made whole lt g ll lr h =
    let right = get_or xs i d in
    let rest = neighbours_from c (number_term old right) (terms_at old (drop (i + 1) xs)) in
    h ∙ ap (λ (l : List ℕ). and_then (neighbours_from c (number_term old left) (terms_at old l)) (λ (es : List Term). Ok (made ++ es))) (drop_more xs i d lt)
    ∙ ap (λ (t : Term). and_then (and_then (same_at c t (number_term old right)) (λ (e : Term). and_then rest (λ (es : List Term). Ok (e ∷ es)))) (λ (es : List Term). Ok (made ++ es))) (sym (term_stays old mid left g ll))
    ∙ ap (λ (t : Term). and_then (and_then (same_at c (number_term mid left) t) (λ (e : Term). and_then rest (λ (es : List Term). Ok (e ∷ es)))) (λ (es : List Term). Ok (made ++ es))) (sym (term_stays old mid right g lr))

pub neighbours_step : (c : Context) (old mid new : List Entry) (xs : List ℕ) (i d left number : ℕ) (was is : List ℕ) (whole : Result (List Term) Refusal) → i < length xs → Grows old mid → Grows mid new → left < length (terms_of old) → get_or xs i d < length (terms_of old) → AllBelow (length (terms_of mid)) was → is ≡ was ++ number ∷ []
    → whole ≡ and_then (neighbours_from c (number_term old left) (terms_at old (drop i xs))) (λ (es : List Term). Ok (terms_at mid was ++ es)) → same_at c (number_term mid left) (number_term mid (get_or xs i d)) ≡ Ok (number_term new number)
    → whole ≡ and_then (neighbours_from c (number_term old (get_or xs i d)) (terms_at old (drop (i + 1) xs))) (λ (es : List Term). Ok (terms_at new is ++ es))
neighbours_step c old mid new xs i d left number was is whole lt g g2 ll lr b p h s =
    let rest = neighbours_from c (number_term old (get_or xs i d)) (terms_at old (drop (i + 1) xs)) in
    let more : terms_at new is ≡ terms_at mid was ++ number_term new number ∷ [] = ap (terms_at new) p ∙ map-append (number_term new) was (number ∷ []) ∙ ap (λ (l : List Term). l ++ number_term new number ∷ []) (terms_stay mid new was g2 b) in
    neighbours_next c old mid xs i d left (terms_at mid was) whole lt g ll lr h
    ∙ ap (λ (r : Result Term Refusal). and_then (and_then r (λ (e : Term). and_then rest (λ (es : List Term). Ok (e ∷ es)))) (λ (es : List Term). Ok (terms_at mid was ++ es))) s
    ∙ behind rest (terms_at mid was) (number_term new number)
    ∙ ap (λ (l : List Term). and_then rest (λ (es : List Term). Ok (l ++ es))) (sym more)

pub neighbours_stopped : (c : Context) (old mid new : List Entry) (xs : List ℕ) (i d left : ℕ) (was : List ℕ) (whole : Result (List Term) Refusal) (f : Fail) → i < length xs → Grows old mid → left < length (terms_of old) → get_or xs i d < length (terms_of old)
    → whole ≡ and_then (neighbours_from c (number_term old left) (terms_at old (drop i xs))) (λ (es : List Term). Ok (terms_at mid was ++ es)) → IsTerm new (Err f) (same_at c (number_term mid left) (number_term mid (get_or xs i d)))
    → IsShown (terms_at new) (Err f) whole
neighbours_stopped c old mid new xs i d left was whole Fail.Memory lt g ll lr h s = tt
neighbours_stopped c old mid new xs i d left was whole (Fail.Refused r) lt g ll lr h s =
    let rest = neighbours_from c (number_term old (get_or xs i d)) (terms_at old (drop (i + 1) xs)) in
    neighbours_next c old mid xs i d left (terms_at mid was) whole lt g ll lr h
    ∙ ap (λ (r : Result Term Refusal). and_then (and_then r (λ (e : Term). and_then rest (λ (es : List Term). Ok (e ∷ es)))) (λ (es : List Term). Ok (terms_at mid was ++ es))) s

-- a type for each argument
pub each_step : (ty : Ty) (types new : List Ty) (args : List ℕ) (i : ℕ) (w : List Ty) → i < length args → new ≡ types ++ ty ∷ [] → types ++ map (λ (a : ℕ). ty) (drop i args) ≡ w → new ++ map (λ (a : ℕ). ty) (drop (i + 1) args) ≡ w
each_step ty types new args i w lt e h =
    ap (λ (l : List Ty). l ++ map (λ (a : ℕ). ty) (drop (i + 1) args)) e ∙ append_assoc types (ty ∷ []) (map (λ (a : ℕ). ty) (drop (i + 1) args))
    ∙ ap (λ (l : List ℕ). types ++ map (λ (a : ℕ). ty) l) (sym (drop_more args i 0 lt)) ∙ h

pub formulas_of_kind : (es : List Entry) (is : List ℕ) → AreOfKind true es is → all_formulas (map (number_kind es) is) ≡ true
formulas_of_kind es [] h = refl
formulas_of_kind es (i ∷ is) h = subst (λ (k : Bool). all_formulas (k ∷ map (number_kind es) is) ≡ true) (sym h.1) (formulas_of_kind es is h.2)

-- three or more
pub equal_stopped : (c : Context) (old new : List Entry) (args rest others : List ℕ) (a b : ℕ) (f : Fail) → args ≡ a ∷ rest → rest ≡ b ∷ others → 0 < length others
    → IsShown (terms_at new) (Err f) (neighbours_from c (number_term old a) (terms_at old rest)) → IsTerm new (Err f) (equal_at c (terms_at old args))
equal_stopped c old new args rest [] a b f e d lt h = absurd (omega (arith, lt))
equal_stopped c old new args rest (x ∷ others) a b Fail.Memory e d lt h = tt
equal_stopped c old new args rest (x ∷ others) a b (Fail.Refused r) e d lt h =
    ap (λ (l : List ℕ). equal_at c (terms_at old l)) (e ∙ ap (λ (l : List ℕ). a ∷ l) d)
    ∙ ap (λ (l : List ℕ). and_then (neighbours_from c (number_term old a) (terms_at old l)) (made_at c Op.And Ty.Bool)) (sym d)
    ∙ ap (λ (y : Result (List Term) Refusal). and_then y (made_at c Op.And Ty.Bool)) h

pub equal_made : (c : Context) (old mid new : List Entry) (args rest others parts : List ℕ) (a b : ℕ) (r : Result ℕ Fail) → args ≡ a ∷ rest → rest ≡ b ∷ others → 0 < length others
    → neighbours_from c (number_term old a) (terms_at old rest) ≡ Ok (terms_at mid parts) → IsTerm new r (made_at c Op.And Ty.Bool (terms_at mid parts))
    → IsTerm new r (equal_at c (terms_at old args))
equal_made c old mid new args rest [] parts a b r e d lt h k = absurd (omega (arith, lt))
equal_made c old mid new args rest (x ∷ others) parts a b r e d lt h k =
    subst (λ (y : Result Term Refusal). IsTerm new r y)
    (sym (ap (λ (l : List ℕ). equal_at c (terms_at old l)) (e ∙ ap (λ (l : List ℕ). a ∷ l) d)
    ∙ ap (λ (l : List ℕ). and_then (neighbours_from c (number_term old a) (terms_at old l)) (made_at c Op.And Ty.Bool)) (sym d)
    ∙ ap (λ (y : Result (List Term) Refusal). and_then y (made_at c Op.And Ty.Bool)) h)) k

-- two or more of one type
pub all_of_args : (es : List Entry) (ty : Ty) (args : List ℕ) → all_of ty (terms_at es args) ≡ map (λ (a : ℕ). ty) args
all_of_args es ty [] = refl
all_of_args es ty (a ∷ args) = ap (λ (l : List Ty). ty ∷ l) (all_of_args es ty args)

pub several_checked : (es : List Entry) (at : Place) (xs : List Sexp) (ty : Ty) (go : List Term → Result Term Refusal) (args : List ℕ) → 1 < length args
    → several_at at xs ty go (terms_at es args) ≡ unless_wrong (first_wrong (map (λ (a : ℕ). ty) args) (terms_at es args) xs) (go (terms_at es args))
several_checked es at xs ty go [] lt = absurd (omega (arith, lt))
several_checked es at xs ty go (a ∷ []) lt = absurd (omega (arith, lt))
several_checked es at xs ty go (a ∷ b ∷ args) lt =
    ap (λ (tys : List Ty). unless_wrong (first_wrong tys (terms_at es (a ∷ b ∷ args)) xs) (go (terms_at es (a ∷ b ∷ args)))) (all_of_args es ty (a ∷ b ∷ args))

pub several_few : (es : List Entry) (at : Place) (xs : List Sexp) (ty : Ty) (go : List Term → Result Term Refusal) (args : List ℕ) → length args < 2 → several_at at xs ty go (terms_at es args) ≡ Err (refused Reason.Arity at)
several_few es at xs ty go [] lt = refl
several_few es at xs ty go (a ∷ []) lt = refl
several_few es at xs ty go (a ∷ b ∷ args) lt = absurd (omega (arith, lt))

of_one_kind : (es : List Entry) (k : Bool) (args : List ℕ) → AllBelow (length (terms_of es)) args → map (number_kind es) args ≡ map (λ (a : ℕ). k) args → AreOfKind k es args
of_one_kind es k [] b e = tt
of_one_kind es k (a ∷ args) b e = (b.0, cc, of_one_kind es k args b.1 cc)

pub several_of_kind : (es : List Entry) (ty : Ty) (args : List ℕ) (items : List Sexp) → AllBelow (length (terms_of es)) args → length items ≡ length args → first_wrong (map (λ (a : ℕ). ty) args) (terms_at es args) items ≡ None → AreOfKind (is_bool ty) es args
several_of_kind es ty args items b l e =
    of_one_kind es (is_bool ty) args b (right_kinds es (map (λ (a : ℕ). ty) args) args items (sym (length-map args (λ (a : ℕ). ty))) l e ∙ kinds_of args) where
      kinds_of : (args : List ℕ) → map is_bool (map (λ (a : ℕ). ty) args) ≡ map (λ (a : ℕ). is_bool ty) args
      kinds_of [] = refl
      kinds_of (a ∷ args) = ap (λ (l : List Bool). is_bool ty ∷ l) (kinds_of args)

pub several_right : (es : List Entry) (at : Place) (xs : List Sexp) (ty : Ty) (go : List Term → Result Term Refusal) (args : List ℕ) → 1 < length args → None ≡ first_wrong (map (λ (a : ℕ). ty) args) (terms_at es args) xs
    → several_at at xs ty go (terms_at es args) ≡ go (terms_at es args)
several_right es at xs ty go args lt e = several_checked es at xs ty go args lt ∙ ap (λ (o : Option Place). unless_wrong o (go (terms_at es args))) (sym e)

pub several_wrong : (es : List Entry) (at place : Place) (xs : List Sexp) (ty : Ty) (go : List Term → Result Term Refusal) (args : List ℕ) → 1 < length args → Some place ≡ first_wrong (map (λ (a : ℕ). ty) args) (terms_at es args) xs
    → several_at at xs ty go (terms_at es args) ≡ Err (refused Reason.SortMismatch place)
several_wrong es at place xs ty go args lt e = several_checked es at xs ty go args lt ∙ ap (λ (o : Option Place). unless_wrong o (go (terms_at es args))) (sym e)

pub refused_is : (es : List Entry) (f : Fail) (r : Refusal) (a : Result Term Refusal) → f ≡ Fail.Refused r → a ≡ Err r → IsTerm es (Err f) a
refused_is es f r a e h = subst (λ (g : Fail). IsTerm es (Err g) a) (sym e) h

pub none_left : (xs : List ℕ) → length xs ≡ 0 → xs ≡ []
none_left [] e = refl
none_left (x ∷ xs) e = absurd (omega (arith, e))

pub distinct_made : (c : Context) (old new : List Entry) (args parts : List ℕ) (at : Place) (xs : List Sexp) (ty : Ty) (k : Bool) (r : Result ℕ Fail) → ty ≡ type_among (terms_at old args) 0 → k ≡ is_bool ty → parts ≡ args
    → several_at at xs ty (distinct_at c) (terms_at old args) ≡ distinct_at c (terms_at old args) → IsTerm new r (made_at c (Op.Distinct k) Ty.Bool (terms_at old parts))
    → IsTerm new r (several_at at xs (type_among (terms_at old args) 0) (distinct_at c) (terms_at old args))
distinct_made c old new args parts at xs ty k r et ek ep h a =
    subst (λ (y : Result Term Refusal). IsTerm new r y)
    (sym (ap (λ (u : Ty). several_at at xs u (distinct_at c) (terms_at old args)) (sym et) ∙ h
    ∙ ap (λ (u : Ty). made_at c (Op.Distinct (is_bool u)) Ty.Bool (terms_at old args)) (sym et)
    ∙ ap (λ (b : Bool). made_at c (Op.Distinct b) Ty.Bool (terms_at old args)) (sym ek)
    ∙ ap (λ (is : List ℕ). made_at c (Op.Distinct k) Ty.Bool (terms_at old is)) (sym ep))) a

things_of_kind : (es : List Entry) (is : List ℕ) → AreOfKind false es is → all_things (map (number_kind es) is) ≡ true
things_of_kind es [] h = refl
things_of_kind es (i ∷ is) h = subst (λ (k : Bool). all_things (k ∷ map (number_kind es) is) ≡ true) (sym h.1) (things_of_kind es is h.2)

pub distinct_taken : (k : Bool) (es : List Entry) (is : List ℕ) → AreOfKind k es is → takes (Op.Distinct k) (map (number_kind es) is) ≡ true
distinct_taken true es is h = formulas_of_kind es is h
distinct_taken false es is h = things_of_kind es is h
