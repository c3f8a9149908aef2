-- Names in tables, in sets and in force.
use Rattle.std.proofs.Common.{Bool, List, [], ap, arith, false, get_or, inl, inr, length, map, refl, subst, suc, sym, true, zero, ℕ, ◌++◌, ◌+◌, ◌<◌, ◌∙◌, ◌∷◌, ◌≡◌, ◌≤◌, ◌⊎◌}
use Rattle.std.specs.Prelude.{Err, None, Ok, Option, Result, Some, cond, if◌then◌else◌, is_some, min, nat_eq, slice_get, ◌&&◌, ◌==◌, ◌||◌}
use Rattle.std.proofs.lemmas.List.{length-append, length-map}
use Rattle.std.specs.Borrow.{Bor}
use Rattle.std.specs.List.{AllByRecursion, IsDistinct, list_any, position, position_from}
use Rattle.std.specs.Option.{option_map}
use Rattle.std.specs.Str.{bytes_eq}
use Rattle.fm_base.specs.declared.refusal.Fail.{Fail}
use Rattle.fm_base.specs.declared.refusal.Place.{Place}
use Rattle.fm_base.specs.declared.refusal.Reason.{Reason}
use Rattle.fm_base.specs.declared.refusal.Refusal.{Refusal}
use Rattle.fm_base.specs.declared.signature.Ty.{Ty}
use Rattle.fm_sexp.specs.declared.items.Sexp.{Sexp}
use Rattle.fm_script.specs.Shown.{Name}
use Rattle.fm_arena.specs.Meanings.{Term, term_in, terms_of}
use Rattle.fm_arena.specs.declared.node.Entry.{Entry}
use Rattle.fm_apply.specs.declared.scope.Frame
use Rattle.fm_apply.specs.Applied.{Context, Function as TheFunction, first_wrong, fits_at, function_at, function_by, function_named, or_else, refused, stands_at, unless_wrong}
use Rattle.fm_apply.specs.Scoped.{AreInForce, IsInForce, IsMade, IsTerm, Numbered, function_in, functions_in, further, head_at, named_in, names_in, newest_number, number_term, terms_at, zipped}
use Rattle.fm_levels.specs.Tables.{AreApart, AreDistinct, has, is_among_names, looked_up, named_values, newest_among, texts}
use Rattle.fm_apply.specs.declared.scope.Found.{Found}
use Rattle.fm_apply.specs.declared.scope.Frame.{Frame}
use Rattle.fm_apply.specs.declared.entry.Function.{Function}
use Rattle.fm_apply.proofs.Adding.{refused_shown}
use Rattle.fm_apply.proofs.Framing.{names_inside}
use Rattle.fm_levels.proofs.Tabling.{both_none, bytes_flip, chosen_none, has_none, is_none, none_among, or_else_none}

or-flip : (a b c : Bool) → (a || (b || c)) ≡ ((a || b) || c)
or-flip true b c = refl
or-flip false b c = refl

-- the number of a name in a frame

chosen_no : {A : Type 0} (b : Bool) (a : A) → cond b (Some a) None ≡ None → b ≡ false
chosen_no true a h = cc
chosen_no false a h = refl

pub none_zipped : (i : ℕ) (name : List ℕ) (ns : List (List ℕ)) (is : List ℕ) → newest_among i name ns ≡ None → newest_number i name (zipped ns is) ≡ None
none_zipped i name [] is h = refl
none_zipped i name (n ∷ ns) [] h = refl
none_zipped i name (n ∷ ns) (j ∷ is) h =
    let parts = both_none (newest_among (i + 1) name ns) (cond (bytes_eq n name) (Some i) None) h in
    let found : Found = record { number = j; low = i } in
    ap (λ (o : Option Found). or_else o (cond (bytes_eq n name) (Some found) None)) (none_zipped (i + 1) name ns is parts.0)
    ∙ ap (λ (b : Bool). cond b (Some found) None) (chosen_no (bytes_eq n name) i parts.1)

-- the place that is found lies behind where the search began
either_some : (o p : Option ℕ) (a : ℕ) → or_else o p ≡ Some a → (o ≡ Some a) ⊎ (p ≡ Some a)
either_some None p a h = inr h
either_some (Some b) p a h = inl h

chosen_some : (b : Bool) (i a : ℕ) → cond b (Some i) None ≡ Some a → i ≡ a
chosen_some true i a h = cc
chosen_some false i a h = cc

pub place_behind : (i p : ℕ) (name : List ℕ) (ns : List (List ℕ)) → newest_among i name ns ≡ Some p → i ≤ p
place_behind i p name [] h = cc
place_behind i p name (n ∷ ns) h =
    elim (either_some (newest_among (i + 1) name ns) (cond (bytes_eq n name) (Some i) None) p h) [
      | inl e ↦ let k : i + 1 ≤ p = place_behind (i + 1) p name ns e in omega (arith, k)
      | inr e ↦ let k : i ≡ p = chosen_some (bytes_eq n name) i p e in omega (arith, k)
    ]

abbrev pub numbered_at : ℕ → Option ℕ → Option Found
numbered_at low o = option_map (λ n. record { number = n; low = low }) o

zipped_step : (b : Bool) (i k j : ℕ) (is : List ℕ) (later : Option ℕ) (o : Option Found) → or_else later (cond b (Some i) None) ≡ Some (i + k) → (b ≡ true → (later ≡ None) × (o ≡ None))
    → ((p : ℕ) → k ≡ suc p → later ≡ Some ((i + 1) + p) → o ≡ numbered_at ((i + 1) + p) (slice_get is p)) → (later ≡ Some (i + k) → i + 1 ≤ i + k)
    → or_else o (cond b (Some (record { number = j; low = i })) None) ≡ numbered_at (i + k) (slice_get (j ∷ is) k)
zipped_step true i k j is later o h n s l =
    let none = n refl in
    let here : i ≡ i + k = let e : or_else later (Some i) ≡ Some i = ap (λ (q : Option ℕ). or_else q (Some i)) none.0 in cc in
    let zero_is : 0 ≡ k = omega (arith, here) in
    let found : Found = record { number = j; low = i } in
    ap (λ (q : Option Found). or_else q (Some found)) none.1
    ∙ subst (λ (m : ℕ). Some found ≡ numbered_at m (slice_get (j ∷ is) 0)) here refl
    ∙ ap (λ (m : ℕ). numbered_at (i + k) (slice_get (j ∷ is) m)) zero_is
zipped_step false i zero j is later o h n s l =
    let same : later ≡ Some (i + 0) = sym (or_else_none later) ∙ h in
    absurd (let k : i + 1 ≤ i + 0 = l same in omega (arith, k))
zipped_step false i (suc p) j is later o h n s l =
    let up : i + suc p ≡ (i + 1) + p = omega arith in
    let same : later ≡ Some ((i + 1) + p) = sym (or_else_none later) ∙ h ∙ ap (λ (m : ℕ). Some m) up in
    or_else_none o ∙ s p refl same ∙ ap (λ (m : ℕ). numbered_at m (slice_get is p)) (sym up)

pub found_zipped : (i k : ℕ) (name : List ℕ) (ns : List (List ℕ)) (is : List ℕ) → AreDistinct ns → newest_among i name ns ≡ Some (i + k) → newest_number i name (zipped ns is) ≡ numbered_at (i + k) (slice_get is k)
unfolding IsDistinct
found_zipped i k name [] is d h = cc
found_zipped i k name (n ∷ ns) [] d h = refl
found_zipped i k name (n ∷ ns) (j ∷ is) d h =
    zipped_step (bytes_eq n name) i k j is (newest_among (i + 1) name ns) (newest_number (i + 1) name (zipped ns is)) h
    (λ e. let none = none_among (i + 1) n name ns e d.0 in (none, none_zipped (i + 1) name ns is none))
    (λ p q e. found_zipped (i + 1) p name ns is d.1 e)
    (λ e. place_behind (i + 1) (i + k) name ns e)

pub within_some : (low n d : ℕ) (name : List ℕ) (ns : List (List ℕ)) (is : List ℕ) → AreDistinct ns → newest_among 0 name ns ≡ Some low → low < length is → n ≡ get_or is low d
    → Some (record { number = n; low = low }) ≡ newest_number 0 name (zipped ns is)
within_some low n d name ns is a h lt e =
    let z : 0 + low ≡ low = omega arith in
    let w : newest_number 0 name (zipped ns is) ≡ numbered_at (0 + low) (slice_get is low) = found_zipped 0 low name ns is a (h ∙ ap (λ (m : ℕ). Some m) (sym z)) in
    let r : slice_get is low ≡ Some n = read_at is low lt ∙ ap (λ (m : ℕ). Some m) (sym e) in
    sym (w ∙ ap (λ (m : ℕ). numbered_at m (slice_get is low)) z ∙ ap (λ (o : Option ℕ). numbered_at low o) r) where
      read_at : (is : List ℕ) (low : ℕ) → low < length is → slice_get is low ≡ Some (get_or is low d)
      read_at [] low lt = absurd (omega (arith, lt))
      read_at (i ∷ is) zero lt = refl
      read_at (i ∷ is) (suc low) lt = read_at is low (omega (arith, lt))

pub within_none : (low : ℕ) (name : List ℕ) (ns : List (List ℕ)) (is : List ℕ) → AreDistinct ns → newest_among 0 name ns ≡ Some low → length is ≤ low → None ≡ newest_number 0 name (zipped ns is)
within_none low name ns is a h le =
    let z : 0 + low ≡ low = omega arith in
    let w : newest_number 0 name (zipped ns is) ≡ numbered_at (0 + low) (slice_get is low) = found_zipped 0 low name ns is a (h ∙ ap (λ (m : ℕ). Some m) (sym z)) in
    sym (w ∙ ap (λ (o : Option ℕ). numbered_at (0 + low) o) (past is low le)) where
      past : (is : List ℕ) (low : ℕ) → length is ≤ low → slice_get is low ≡ None
      past [] low le = refl
      past (i ∷ is) zero le = absurd (omega (arith, le))
      past (i ∷ is) (suc low) le = past is low (omega (arith, le))

-- the newest name of a frame and those around it

pub length_zipped : (ns : List (List ℕ)) (is : List ℕ) → length (zipped ns is) ≡ min (length ns) (length is)
length_zipped [] is = omega arith
length_zipped (n ∷ ns) [] = omega arith
length_zipped (n ∷ ns) (i ∷ is) = let h : length (zipped ns is) ≡ min (length ns) (length is) = length_zipped ns is in omega (arith, h)

or_else_assoc : {A : Type 0} (a b c : Option A) → or_else (or_else a b) c ≡ or_else a (or_else b c)
or_else_assoc None b c = refl
or_else_assoc (Some x) b c = refl

newest_append : (i : ℕ) (name : List ℕ) (es fs : Numbered) → newest_number i name (es ++ fs) ≡ or_else (newest_number (i + length es) name fs) (newest_number i name es)
newest_append i name [] fs =
    let z : i ≡ i + 0 = omega arith in
    ap (λ (m : ℕ). newest_number m name fs) z ∙ sym (or_else_none (newest_number (i + 0) name fs))
newest_append i name (e ∷ es) fs =
    let up : (i + 1) + length es ≡ i + suc (length es) = omega arith in
    let last : Option Found = cond (bytes_eq e.0 name) (Some (record { number = e.1; low = i })) None in
    ap (λ (o : Option Found). or_else o last) (newest_append (i + 1) name es fs)
    ∙ or_else_assoc (newest_number ((i + 1) + length es) name fs) (newest_number (i + 1) name es) last
    ∙ ap (λ (m : ℕ). or_else (newest_number m name fs) (or_else (newest_number (i + 1) name es) last)) up

shifted : (k : ℕ) (b : Bool) (n i : ℕ) (o : Option Found) → or_else (option_map (further k) o) (cond b (Some (record { number = n; low = k + i })) None) ≡ option_map (further k) (or_else o (cond b (Some (record { number = n; low = i })) None))
shifted k b n i (Some f) = refl
shifted k true n i None = refl
shifted k false n i None = refl

newest_shift : (k i : ℕ) (name : List ℕ) (es : Numbered) → newest_number (k + i) name es ≡ option_map (further k) (newest_number i name es)
newest_shift k i name [] = refl
newest_shift k i name (e ∷ es) =
    let up : (k + i) + 1 ≡ k + (i + 1) = omega arith in
    let last : Option Found = cond (bytes_eq e.0 name) (Some (record { number = e.1; low = k + i })) None in
    ap (λ (m : ℕ). or_else (newest_number m name es) last) up
    ∙ ap (λ (o : Option Found). or_else o last) (newest_shift k (i + 1) name es)
    ∙ shifted k (bytes_eq e.0 name) e.1 i (newest_number (i + 1) name es)

newest_inner : (name : List ℕ) (outer inner : Numbered) (o : Option Found) → o ≡ newest_number 0 name inner → newest_number 0 name (outer ++ inner) ≡ or_else (option_map (further (length outer)) o) (newest_number 0 name outer)
newest_inner name outer inner o e =
    let z : 0 + length outer ≡ length outer + 0 = omega arith in
    newest_append 0 name outer inner
    ∙ ap (λ (m : ℕ). or_else (newest_number m name inner) (newest_number 0 name outer)) z
    ∙ ap (λ (p : Option Found). or_else p (newest_number 0 name outer)) (newest_shift (length outer) 0 name inner ∙ ap (option_map (further (length outer))) (sym e))

pub newest_outer : (f : Frame) (outer : Bor Frame) (places : ℕ) (names : List (List ℕ)) (is : List ℕ) (name : List ℕ) (r : Result (Option Found) Fail) → f ≡ Frame.Inner outer names is places → None ≡ newest_number 0 name (zipped names is)
    → IsMade r (Ok (newest_number 0 name (names_in outer.now))) → IsMade r (Ok (newest_number 0 name (names_in f)))
newest_outer f outer places names is name r n e h =
    subst (λ (o : Option Found). IsMade r (Ok o)) (sym (ap (newest_number 0 name) (ap names_in n ∙ names_inside outer names is places) ∙ newest_inner name (names_in outer.now) (zipped names is) None e)) h

pub newest_found : (f : Frame) (outer : Bor Frame) (places : ℕ) (names : List (List ℕ)) (is : List ℕ) (name : List ℕ) (found : Found) (r : Result (Option Found) Fail) → f ≡ Frame.Inner outer names is places → Some found ≡ newest_number 0 name (zipped names is)
    → IsMade r (Ok (Some (further (length (names_in outer.now)) found))) → IsMade r (Ok (newest_number 0 name (names_in f)))
newest_found f outer places names is name found r n e h =
    subst (λ (o : Option Found). IsMade r (Ok o)) (sym (ap (newest_number 0 name) (ap names_in n ∙ names_inside outer names is places) ∙ newest_inner name (names_in outer.now) (zipped names is) (Some found) e)) h

pub count_inner : (f : Frame) (outer : Bor Frame) (places : ℕ) (names : List (List ℕ)) (is : List ℕ) (k : ℕ) (before : ℕ) (r : Result ℕ Fail) → f ≡ Frame.Inner outer names is places → (let o : Result ℕ Refusal = Ok (length (names_in outer.now)) in o ≡ Ok before) → k ≡ before + min (length names) (length is)
    → IsMade r (Ok k) → IsMade r (Ok (length (names_in f)))
count_inner f outer places names is k before r n b e h =
    let l : length (names_in f) ≡ length (names_in outer.now) + length (zipped names is) = ap length (ap names_in n ∙ names_inside outer names is places) ∙ length-append (names_in outer.now) (zipped names is) in
    let m : length (names_in outer.now) ≡ before = cc in
    let z : length (zipped names is) ≡ min (length names) (length is) = length_zipped names is in
    subst (λ (m : ℕ). IsMade r (Ok m)) (let s : k ≡ length (names_in f) = omega (arith, e, l, z, m) in s) h

-- functions in force

chosen_named : {A : Type 0} (b : Bool) (x y : A) (rest : Option A) → cond b (Some x) rest ≡ Some y → ((b ≡ true) × (x ≡ y)) ⊎ ((b ≡ false) × (rest ≡ Some y))
chosen_named true x y rest h = inl (refl, cc)
chosen_named false x y rest h = inr (refl, h)

passed : {A : Type 0} (b : Bool) (x : A) (rest : Option A) → b ≡ false → cond b (Some x) rest ≡ rest
passed true x rest h = cc
passed false x rest h = refl

taken : {A : Type 0} (b : Bool) (x : A) (rest : Option A) → b ≡ true → cond b (Some x) rest ≡ Some x
taken true x rest h = refl
taken false x rest h = cc

pub function_found : (ts : List Term) (fs : List (List ℕ × Function)) (rest : List TheFunction) (name : List ℕ) (f : Function) → looked_up name fs ≡ Some f
    → (n : List ℕ) × (function_named name (functions_in ts fs ++ rest) ≡ Some (function_in ts n f))
function_found ts [] rest name f h = cc
function_found ts (e ∷ fs) rest name f h =
    elim (chosen_named (bytes_eq e.0 name) e.1 f (looked_up name fs) h) [
      | inl k ↦ (e.0, taken (bytes_eq e.0 name) (function_in ts e.0 e.1) (function_named name (functions_in ts fs ++ rest)) k.0 ∙ ap (λ (g : Function). Some (function_in ts e.0 g)) k.1)
      | inr k ↦ let later = function_found ts fs rest name f k.1 in (later.0, passed (bytes_eq e.0 name) (function_in ts e.0 e.1) (function_named name (functions_in ts fs ++ rest)) k.0 ∙ later.1)
    ]

pub function_none : (ts : List Term) (fs : List (List ℕ × Function)) (rest : List TheFunction) (name : List ℕ) → looked_up name fs ≡ None
    → function_named name (functions_in ts fs ++ rest) ≡ function_named name rest
function_none ts [] rest name h = refl
function_none ts (e ∷ fs) rest name h =
    let parts = chosen_none (bytes_eq e.0 name) e.1 (looked_up name fs) h in
    passed (bytes_eq e.0 name) (function_in ts e.0 e.1) (function_named name (functions_in ts fs ++ rest)) parts.0 ∙ function_none ts fs rest name parts.1

pub function_in_force : (ts : List Term) (fs : List (List ℕ × Function)) (name : List ℕ) (f : Function) → AreInForce ts fs → looked_up name fs ≡ Some f → IsInForce ts f
function_in_force ts [] name f a h = cc
function_in_force ts (e ∷ fs) name f a h =
    elim (chosen_named (bytes_eq e.0 name) e.1 f (looked_up name fs) h) [
      | inl k ↦ subst (λ (g : Function). IsInForce ts g) k.1 a.0
      | inr k ↦ function_in_force ts fs name f a.1 k.1
    ]

abbrev pub given_functions : List Term → Numbered → List TheFunction
given_functions ts given = map function_by (named_in ts given)

abbrev pub given_at : List Term → List ℕ → ℕ → TheFunction
given_at ts name n = function_by (record { name = name; term = term_in ts n })

pub given_found : (ts : List Term) (given : Numbered) (name : List ℕ) (n : ℕ) → looked_up name given ≡ Some n → (m : List ℕ) × (function_named name (given_functions ts given) ≡ Some (given_at ts m n))
given_found ts [] name n h = cc
given_found ts (e ∷ given) name n h =
    elim (chosen_named (bytes_eq e.0 name) e.1 n (looked_up name given) h) [
      | inl k ↦ (e.0, taken (bytes_eq e.0 name) (given_at ts e.0 e.1) (function_named name (given_functions ts given)) k.0 ∙ ap (λ (i : ℕ). Some (given_at ts e.0 i)) k.1)
      | inr k ↦ let later = given_found ts given name n k.1 in (later.0, passed (bytes_eq e.0 name) (given_at ts e.0 e.1) (function_named name (given_functions ts given)) k.0 ∙ later.1)
    ]

pub given_none : (ts : List Term) (given : Numbered) (name : List ℕ) → looked_up name given ≡ None → function_named name (given_functions ts given) ≡ None
given_none ts [] name h = refl
given_none ts (e ∷ given) name h =
    let parts = chosen_none (bytes_eq e.0 name) e.1 (looked_up name given) h in
    passed (bytes_eq e.0 name) (given_at ts e.0 e.1) (function_named name (given_functions ts given)) parts.0 ∙ given_none ts given name parts.1

-- whether some function in force has a name

some_chosen : {A : Type 0} (b : Bool) (x : A) (o : Option A) → is_some (cond b (Some x) o) ≡ (b || is_some o)
some_chosen true x o = refl
some_chosen false x o = refl

abbrev pub is_named : List ℕ → TheFunction → Bool
is_named name f = bytes_eq f.name name

pub any_given : (ts : List Term) (given : Numbered) (name : List ℕ) → list_any (is_named name) (given_functions ts given) ≡ has name given
any_given ts [] name = refl
any_given ts (e ∷ given) name = ap (λ (b : Bool). bytes_eq e.0 name || b) (any_given ts given name) ∙ sym (some_chosen (bytes_eq e.0 name) e.1 (looked_up name given))

pub any_in_force : (ts : List Term) (fs : List (List ℕ × Function)) (given : Numbered) (name : List ℕ) → list_any (is_named name) (functions_in ts fs ++ given_functions ts given) ≡ (has name fs || has name given)
any_in_force ts [] given name = any_given ts given name
any_in_force ts (e ∷ fs) given name =
    ap (λ (b : Bool). bytes_eq e.0 name || b) (any_in_force ts fs given name)
    ∙ or-flip (bytes_eq e.0 name) (has name fs) (has name given)
    ∙ ap (λ (b : Bool). b || has name given) (sym (some_chosen (bytes_eq e.0 name) e.1 (looked_up name fs)))

pub or_left : (a b : Bool) → a ≡ true → a ≡ (a || b)
or_left true b h = refl
or_left false b h = cc

pub or_right : (a b : Bool) → a ≡ false → b ≡ (a || b)
or_right true b h = cc
or_right false b h = refl

-- a name that `:named` gave takes no arguments

some_of : {A : Type 0} (o : Option A) → is_some o ≡ true → (a : A) × (o ≡ Some a)
some_of None h = cc
some_of (Some a) h = (a, refl)

fits_nothing : (c : Context) (at : Place) (xs : List Sexp) (ts : List Term) (f : TheFunction) → f.args ≡ [] → 0 < length ts → fits_at c at xs ts f ≡ Err (refused Reason.Arity at)
fits_nothing c at xs [] f e lt = absurd (omega (arith, lt))
fits_nothing c at xs (t ∷ ts) f e lt =
    let made : Result Term Refusal = unless_wrong (first_wrong [] (t ∷ ts) xs) (stands_at c f.stands f.result (t ∷ ts)) in
    ap (λ (l : List Ty). cond (length (t ∷ ts) == length l) (unless_wrong (first_wrong l (t ∷ ts) xs) (stands_at c f.stands f.result (t ∷ ts))) (Err (refused Reason.Arity at))) e
    ∙ term_passed (length (t ∷ ts) == 0) made (Err (refused Reason.Arity at)) (none_is (length (t ∷ ts)) lt) where
      none_is : (m : ℕ) → 0 < m → (m == 0) ≡ false
      none_is m lt = grind (arith, lt)

      term_passed : (b : Bool) (x y : Result Term Refusal) → b ≡ false → cond b x y ≡ y
      term_passed true x y h = cc
      term_passed false x y h = refl

pub given_takes_none : (c : Context) (es : List Entry) (new : List Entry) (fs : List (List ℕ × Function)) (given : Numbered) (at : Place) (n : Name) (xs : List Sexp) (args : List ℕ) (f : Fail) → 0 < length args → looked_up n.bytes fs ≡ None → has n.bytes given ≡ true → f ≡ Fail.Refused (refused Reason.Arity at)
    → IsTerm new (Err f) (head_at c (functions_in (terms_of es) fs ++ given_functions (terms_of es) given) at n xs (terms_at es args))
given_takes_none c es new fs given at n xs args f lt none there ef =
    let some = some_of (looked_up n.bytes given) there in
    let found = given_found (terms_of es) given n.bytes some.0 some.1 in
    let long : 0 < length (terms_at es args) = let l : length (terms_at es args) ≡ length args = length-map args (number_term es) in omega (arith, l, lt) in
    refused_shown (number_term new) f (refused Reason.Arity at) _ ef
    (ap (function_at c at n xs (terms_at es args)) (function_none (terms_of es) fs (given_functions (terms_of es) given) n.bytes none ∙ found.1)
    ∙ fits_nothing c at xs (terms_at es args) (given_at (terms_of es) found.0 some.0) refl long)
