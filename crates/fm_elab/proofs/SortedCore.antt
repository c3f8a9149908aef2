-- What functions and the operators of Core make of well sorted terms is well sorted.
use Rattle.std.proofs.Common.{◌≡◌, ℕ, suc, ◌==◌, Bool, true, false, cond, List, [], ◌∷◌, length, Option, Some, None, ap, refl, sym, subst, arith}
use Rattle.std.specs.Prelude.{Err, Ok, Result, codes}
use Rattle.std.specs.List.{AllByRecursion}
use Rattle.std.specs.Str.{bytes_eq}
use Rattle.std.proofs.lemmas.Bool.{eqb-true}
use Rattle.fm_base.specs.Truth.{is_bool}
use Rattle.fm_base.specs.declared.ids.SortId.{SortId}
use Rattle.fm_base.specs.declared.ids.SymId.{SymId}
use Rattle.fm_base.specs.declared.refusal.Place.{Place}
use Rattle.fm_base.specs.declared.refusal.Reason.{Reason}
use Rattle.fm_base.specs.declared.refusal.Refusal.{Refusal}
use Rattle.fm_base.specs.declared.signature.Sig.{Sig}
use Rattle.fm_base.specs.declared.signature.Ty.{Ty}
use Rattle.fm_sexp.specs.declared.items.Sexp.{Sexp}
use Rattle.fm_script.specs.Shown.{Name}
use Rattle.fm_script.specs.Commands.{bad_shape, place_of_item}
use Rattle.fm_arena.specs.Measures.{is_fit}
use Rattle.fm_arena.specs.Meanings.{Meaning, Term, applied, made, measure_of}
use Rattle.fm_arena.specs.declared.node.Op.{Op}
use Rattle.fm_apply.specs.Applied.{Context, Function, Stands, all_bool, all_of, and_then, applied_at, constant_of, core_at, core_constant, differs_at, distinct_at, equal_at, first_wrong, fits_at, function_at, implied_at, implies_at, is_operator, is_truth, later_core_at, made_at, meanings, neighbours_from, op_of, refused, same_at, same_type, several_at, stands_at, type_among, unless_large, unless_wrong, xor_at, xor_from}
use Rattle.fm_elab.specs.Sorted.{IsSortedFunction, IsSortedMeaning, IsSortedTerm, Known, StandsSorted}
use Rattle.fm_elab.proofs.SortedTrees.{and_sorted, app_sorted, chosen_op, distinct_sorted, equal_sorted, iff_sorted, ite_sorted, not_sorted, or_sorted, pred_sorted, truth_sorted}
use Rattle.fm_elab.proofs.SortedTerms.{AllSorted, Builds, all_one, applied_sorted, made_sorted, types_of}

-- one of two answers
pub either : {A G : Type 0} (b : Bool) (x y t : A) → cond b x y ≡ t → (b ≡ true → x ≡ t → G) → (b ≡ false → y ≡ t → G) → G
either true x y t e f g = f refl e
either false x y t e f g = g refl e

-- where an answer goes on
pub went_on : {A B : Type 0} (r : Result A Refusal) (go : A → Result B Refusal) (b : B) → and_then r go ≡ Ok b → (a : A) × (r ≡ Ok a) × (go a ≡ Ok b)
went_on (Ok a) go b h = (a, refl, h)
went_on (Err r) go b h = cc h

pub no_answer : {A : Type 0} (r : Refusal) (a : A) → Err r ≡ Ok a → ⊥
no_answer r a h = cc h

ok_is : {A : Type 0} (a b : A) → ◌≡◌ {A = Result A Refusal} (Ok a) (Ok b) → a ≡ b
ok_is a b h = cc h

pub is_fitting : (command : Place) (t u : Term) → unless_large command t ≡ Ok u → t ≡ u
is_fitting command t u h =
    either (is_fit (measure_of t.meaning)) (Ok t) (Err (refused Reason.TooLarge command)) (Ok u) h (λ b e. ok_is t u e) (λ b e. absurd (no_answer (refused Reason.TooLarge command) u e))

-- a well sorted term of a type
abbrev pub IsOfType : Known → Sig → Ty → Term → Type 0
IsOfType known sig ty t = (t.ty ≡ ty) × IsSortedTerm known sig t

pub of_type : (known : Known) (sig : Sig) (ty : Ty) (m : Meaning) (t : Term) → record { ty = ty; meaning = m } ≡ t → IsSortedMeaning known sig ty m → IsOfType known sig ty t
of_type known sig ty m t e h = (ap (λ (u : Term). u.ty) (sym e), subst (IsSortedTerm known sig) e h)

made_is : (known : Known) (sig : Sig) (c : Context) (op : Op) (ty : Ty) (ts : List Term) (tys : List Ty) (t : Term) → AllSorted known sig ts → types_of ts ≡ tys → Builds sig tys op ty → made_at c op ty ts ≡ Ok t → IsOfType known sig ty t
made_is known sig c op ty ts tys t a e b h =
    let u : Term = record { ty = ty; meaning = made op (meanings ts) } in
    of_type known sig ty (made op (meanings ts)) t (is_fitting c.command u t h) (made_sorted known sig op ty ts tys a e b)

-- what a function stands for

pred_or_app : (sig : Sig) (f : SymId) (args : List Ty) (ty : Ty) → StandsSorted sig args ty (Stands.Declared f) → Builds sig args (op_of f ty) ty
pred_or_app sig f args Ty.Bool s scope trees h = pred_sorted sig scope f args trees s.0 s.1 h
pred_or_app sig f args (Ty.Of u) s scope trees h = app_sorted sig scope f args u trees s.0 s.1 h

pub stands_sorted : (known : Known) (sig : Sig) (c : Context) (s : Stands) (args : List Ty) (ty : Ty) (ts : List Term) (t : Term) → StandsSorted sig args ty s → AllSorted known sig ts → types_of ts ≡ args → stands_at c s ty ts ≡ Ok t → IsOfType known sig ty t
stands_sorted known sig c (Stands.Declared f) args ty ts t s a e h = made_is known sig c (op_of f ty) ty ts args t a e (pred_or_app sig f args ty s) h
stands_sorted known sig c (Stands.Defined m) args ty ts t s a e h =
    let u : Term = record { ty = ty; meaning = applied m (meanings ts) } in
    of_type known sig ty (applied m (meanings ts)) t (is_fitting c.command u t h) (applied_sorted known sig m ty ts args a e s)

truth_is : (known : Known) (sig : Sig) (c : Context) (b : Bool) (t : Term) → made_at c (Op.Truth b) Ty.Bool [] ≡ Ok t → IsOfType known sig Ty.Bool t
truth_is known sig c b t h = made_is known sig c (Op.Truth b) Ty.Bool [] [] t tt refl (λ scope trees k. truth_sorted sig scope b trees) h

core_constant_sorted : (known : Known) (sig : Sig) (c : Context) (n : Name) (t : Term) → core_constant c n ≡ Ok t → IsSortedTerm known sig t
core_constant_sorted known sig c n t h =
    let unknown : Result Term Refusal = Err (refused Reason.UnknownSymbol n.at) in
    let arity : Result Term Refusal = Err (refused Reason.Arity n.at) in
    let none : Result Term Refusal = cond (is_operator n.bytes) arity unknown in
    let no : Result Term Refusal = made_at c (Op.Truth false) Ty.Bool [] in
    either (bytes_eq n.bytes (codes "true")) (made_at c (Op.Truth true) Ty.Bool []) (cond (bytes_eq n.bytes (codes "false")) no none) (Ok t) h
    (λ b e. (truth_is known sig c true t e).1)
    (λ b e. either (bytes_eq n.bytes (codes "false")) no none (Ok t) e (λ b e. (truth_is known sig c false t e).1)
    (λ b e. either (is_operator n.bytes) arity unknown (Ok t) e (λ b e. absurd (no_answer (refused Reason.Arity n.at) t e)) (λ b e. absurd (no_answer (refused Reason.UnknownSymbol n.at) t e))))

no_types : (tys : List Ty) → (length tys == 0) ≡ true → [] ≡ tys
no_types [] e = refl
no_types (ty ∷ tys) e = let l = eqb-true (length (ty ∷ tys)) 0 e in absurd (omega (arith, l))

-- the function of a name, where there is one
abbrev pub IsSortedWhere : Sig → Option Function → Type 0
IsSortedWhere sig None = Unit {0}
IsSortedWhere sig (Some f) = IsSortedFunction sig f

pub constant_sorted : (known : Known) (sig : Sig) (c : Context) (n : Name) (o : Option Function) (t : Term) → IsSortedWhere sig o → constant_of c n o ≡ Ok t → IsSortedTerm known sig t
constant_sorted known sig c n None t s h = core_constant_sorted known sig c n t h
constant_sorted known sig c n (Some f) t s h =
    either (length f.args == 0) (stands_at c f.stands f.result []) (Err (refused Reason.Arity n.at)) (Ok t) h
    (λ b e. (stands_sorted known sig c f.stands f.args f.result [] t s tt (no_types f.args b) e).1)
    (λ b e. absurd (no_answer (refused Reason.Arity n.at) t e))

-- types of arguments

type_is : (a b : Ty) → same_type a b ≡ true → a ≡ b
type_is Ty.Bool Ty.Bool e = refl
type_is Ty.Bool (Ty.Of s) e = cc e
type_is (Ty.Of s) Ty.Bool e = cc e
type_is (Ty.Of s) (Ty.Of u) e = ap (λ (n : ℕ). let v : SortId = record { 0 = n } in Ty.Of v) (eqb-true s.0 u.0 e)

right_from : (b : Bool) (rest : Option Place) (at : Place) → cond b rest (Some at) ≡ None → (b ≡ true) × (rest ≡ None)
right_from true rest at e = (refl, e)
right_from false rest at e = cc e

right_types : (tys : List Ty) (ts : List Term) (xs : List Sexp) → length ts ≡ length tys → length ts ≡ length xs → first_wrong tys ts xs ≡ None → types_of ts ≡ tys
right_types [] [] xs l k e = refl
right_types [] (t ∷ ts) xs l k e = absurd (omega (arith, l))
right_types (ty ∷ tys) [] xs l k e = absurd (omega (arith, l))
right_types (ty ∷ tys) (t ∷ ts) [] l k e = absurd (omega (arith, k))
right_types (ty ∷ tys) (t ∷ ts) (x ∷ xs) l k e =
    let r = right_from (same_type t.ty ty) (first_wrong tys ts xs) (place_of_item x) e in
    let more : types_of ts ≡ tys = right_types tys ts xs (omega (arith, l)) (omega (arith, k)) r.1 in
    λ i. type_is t.ty ty r.0 i ∷ more i

unless_wrong_is : (o : Option Place) (a : Result Term Refusal) (t : Term) → unless_wrong o a ≡ Ok t → (o ≡ None) × (a ≡ Ok t)
unless_wrong_is None a t h = (refl, h)
unless_wrong_is (Some at) a t h = absurd (no_answer (refused Reason.SortMismatch at) t h)

applied_is : (known : Known) (sig : Sig) (c : Context) (at : Place) (xs : List Sexp) (ts : List Term) (tys : List Ty) (op : Op) (ty : Ty) (t : Term) → length ts ≡ length xs → AllSorted known sig ts → Builds sig tys op ty
    → applied_at c at xs ts tys op ty ≡ Ok t → IsSortedTerm known sig t
applied_is known sig c at xs ts tys op ty t l a b h =
    either (length ts == length tys) (unless_wrong (first_wrong tys ts xs) (made_at c op ty ts)) (Err (refused Reason.Arity at)) (Ok t) h
    (λ n e.
    let w = unless_wrong_is (first_wrong tys ts xs) (made_at c op ty ts) t e in
    (made_is known sig c op ty ts tys t a (right_types tys ts xs (eqb-true (length ts) (length tys) n) l w.0) b w.1).1)
    (λ n e. absurd (no_answer (refused Reason.Arity at) t e))

-- a function in force, applied
pub fits_sorted : (known : Known) (sig : Sig) (c : Context) (at : Place) (xs : List Sexp) (ts : List Term) (f : Function) (t : Term) → length ts ≡ length xs → AllSorted known sig ts → IsSortedFunction sig f → fits_at c at xs ts f ≡ Ok t → IsSortedTerm known sig t
fits_sorted known sig c at xs ts f t l a s h =
    either (length ts == length f.args) (unless_wrong (first_wrong f.args ts xs) (stands_at c f.stands f.result ts)) (Err (refused Reason.Arity at)) (Ok t) h
    (λ n e.
    let w = unless_wrong_is (first_wrong f.args ts xs) (stands_at c f.stands f.result ts) t e in
    (stands_sorted known sig c f.stands f.args f.result ts t s a (right_types f.args ts xs (eqb-true (length ts) (length f.args) n) l w.0) w.1).1)
    (λ n e. absurd (no_answer (refused Reason.Arity at) t e))

-- operators of two or more of one type

abbrev pub AllOfType : Known → Sig → Ty → List Term → Type 0
AllOfType known sig ty ts = AllByRecursion (IsOfType known sig ty) ts

all_of_type : (known : Known) (sig : Sig) (ty : Ty) (ts : List Term) → AllSorted known sig ts → types_of ts ≡ all_of ty ts → AllOfType known sig ty ts
all_of_type known sig ty [] a e = tt
all_of_type known sig ty (t ∷ ts) a e =
    let head : t.ty ≡ ty = cc e in
    let rest : types_of ts ≡ all_of ty ts = cc e in
    ((head, a.0), all_of_type known sig ty ts a.1 rest)

all_are_sorted : (known : Known) (sig : Sig) (ty : Ty) (ts : List Term) → AllOfType known sig ty ts → AllSorted known sig ts
all_are_sorted known sig ty [] a = tt
all_are_sorted known sig ty (t ∷ ts) a = (a.0.1, all_are_sorted known sig ty ts a.1)

their_types : (known : Known) (sig : Sig) (ty : Ty) (ts : List Term) → AllOfType known sig ty ts → types_of ts ≡ all_of ty ts
their_types known sig ty [] a = refl
their_types known sig ty (t ∷ ts) a = λ i. a.0.0 i ∷ their_types known sig ty ts a.1 i

-- made of terms of one type
made_of_one : (known : Known) (sig : Sig) (c : Context) (op : Op) (ty result : Ty) (ts : List Term) (t : Term) → AllOfType known sig ty ts → Builds sig (all_of ty ts) op result → made_at c op result ts ≡ Ok t → IsOfType known sig result t
made_of_one known sig c op ty result ts t a b h = made_is known sig c op result ts (all_of ty ts) t (all_are_sorted known sig ty ts a) (their_types known sig ty ts a) b h

not_of : (known : Known) (sig : Sig) (c : Context) (a t : Term) → IsOfType known sig Ty.Bool a → made_at c Op.Not Ty.Bool (a ∷ []) ≡ Ok t → IsOfType known sig Ty.Bool t
not_of known sig c a t p h = made_of_one known sig c Op.Not Ty.Bool Ty.Bool (a ∷ []) t (p, tt) (λ scope trees k. not_sorted sig scope trees k) h

implies_of : (known : Known) (sig : Sig) (c : Context) (a b t : Term) → IsOfType known sig Ty.Bool a → IsOfType known sig Ty.Bool b → implies_at c a b ≡ Ok t → IsOfType known sig Ty.Bool t
implies_of known sig c a b t p q h =
    let n = went_on (made_at c Op.Not Ty.Bool (a ∷ [])) (λ (m : Term). made_at c Op.Or Ty.Bool (m ∷ b ∷ [])) t h in
    made_of_one known sig c Op.Or Ty.Bool Ty.Bool (n.0 ∷ b ∷ []) t (not_of known sig c a n.0 p n.1, (q, tt)) (λ scope trees k. or_sorted sig scope trees (all_one sig scope Ty.Bool (n.0 ∷ b ∷ []) trees k)) n.2

implied_of : (known : Known) (sig : Sig) (c : Context) (ts : List Term) (t : Term) → AllOfType known sig Ty.Bool ts → implied_at c ts ≡ Ok t → IsOfType known sig Ty.Bool t
implied_of known sig c [] t a h = absurd (no_answer (bad_shape c.command) t h)
implied_of known sig c (u ∷ []) t a h = subst (IsOfType known sig Ty.Bool) (ok_is u t h) a.0
implied_of known sig c (u ∷ v ∷ ts) t a h =
    let r = went_on (implied_at c (v ∷ ts)) (implies_at c u) t h in
    implies_of known sig c u r.0 t a.0 (implied_of known sig c (v ∷ ts) r.0 a.1 r.1) r.2

iff_built : (sig : Sig) (a b : Term) → Builds sig (Ty.Bool ∷ Ty.Bool ∷ []) Op.Iff Ty.Bool
iff_built sig a b scope [] k = absurd k
iff_built sig a b scope (x ∷ []) k = absurd k.1
iff_built sig a b scope (x ∷ y ∷ []) k = iff_sorted sig scope x y k.0 k.1.0
iff_built sig a b scope (x ∷ y ∷ z ∷ zs) k = absurd k.1.1

differs_of : (known : Known) (sig : Sig) (c : Context) (a b t : Term) → IsOfType known sig Ty.Bool a → IsOfType known sig Ty.Bool b → differs_at c a b ≡ Ok t → IsOfType known sig Ty.Bool t
differs_of known sig c a b t p q h =
    let n = went_on (made_at c Op.Iff Ty.Bool (a ∷ b ∷ [])) (λ (e : Term). made_at c Op.Not Ty.Bool (e ∷ [])) t h in
    not_of known sig c n.0 t (made_of_one known sig c Op.Iff Ty.Bool Ty.Bool (a ∷ b ∷ []) n.0 (p, (q, tt)) (iff_built sig a b) n.1) n.2

xor_of : (known : Known) (sig : Sig) (c : Context) (u : Term) (ts : List Term) (t : Term) → IsOfType known sig Ty.Bool u → AllOfType known sig Ty.Bool ts → xor_from c u ts ≡ Ok t → IsOfType known sig Ty.Bool t
xor_of known sig c u [] t p a h = subst (IsOfType known sig Ty.Bool) (ok_is u t h) p
xor_of known sig c u (v ∷ ts) t p a h =
    let r = went_on (differs_at c u v) (λ (d : Term). xor_from c d ts) t h in
    xor_of known sig c r.0 ts t (differs_of known sig c u v r.0 p a.0 r.1) a.1 r.2

equal_built : (sig : Sig) (ty : Ty) → Builds sig (ty ∷ ty ∷ []) (cond (is_bool ty) Op.Iff Op.Equal) Ty.Bool
equal_built sig ty scope [] k = absurd k
equal_built sig ty scope (x ∷ []) k = absurd k.1
equal_built sig Ty.Bool scope (x ∷ y ∷ []) k = iff_sorted sig scope x y k.0 k.1.0
equal_built sig (Ty.Of s) scope (x ∷ y ∷ []) k = equal_sorted sig scope s x y k.0 k.1.0
equal_built sig ty scope (x ∷ y ∷ z ∷ zs) k = absurd k.1.1

same_of : (known : Known) (sig : Sig) (c : Context) (ty : Ty) (a b t : Term) → IsOfType known sig ty a → IsOfType known sig ty b → same_at c a b ≡ Ok t → IsOfType known sig Ty.Bool t
same_of known sig c ty a b t p q h =
    made_of_one known sig c (cond (is_bool ty) Op.Iff Op.Equal) ty Ty.Bool (a ∷ b ∷ []) t (p, (q, tt)) (equal_built sig ty)
    (subst (λ (u : Ty). made_at c (cond (is_bool u) Op.Iff Op.Equal) Ty.Bool (a ∷ b ∷ []) ≡ Ok t) p.0 h)

neighbours_of : (known : Known) (sig : Sig) (c : Context) (ty : Ty) (a : Term) (ts es : List Term) → IsOfType known sig ty a → AllOfType known sig ty ts → neighbours_from c a ts ≡ Ok es → AllOfType known sig Ty.Bool es
neighbours_of known sig c ty a [] es p q h = subst (AllOfType known sig Ty.Bool) (ok_is [] es h) tt
neighbours_of known sig c ty a (b ∷ ts) es p q h =
    let r = went_on (same_at c a b) (λ (e : Term). and_then (neighbours_from c b ts) (λ (more : List Term). Ok (e ∷ more))) es h in
    let m = went_on (neighbours_from c b ts) (λ (more : List Term). Ok (r.0 ∷ more)) es r.2 in
    subst (AllOfType known sig Ty.Bool) (ok_is (r.0 ∷ m.0) es m.2) (same_of known sig c ty a b r.0 p q.0 r.1, neighbours_of known sig c ty b ts m.0 q.0 q.1 m.1)

equal_of : (known : Known) (sig : Sig) (c : Context) (ty : Ty) (ts : List Term) (t : Term) → AllOfType known sig ty ts → equal_at c ts ≡ Ok t → IsOfType known sig Ty.Bool t
equal_of known sig c ty [] t a h = absurd (no_answer (bad_shape c.command) t h)
equal_of known sig c ty (u ∷ []) t a h = absurd (no_answer (bad_shape c.command) t h)
equal_of known sig c ty (u ∷ v ∷ []) t a h = same_of known sig c ty u v t a.0 a.1.0 h
equal_of known sig c ty (u ∷ v ∷ x ∷ ts) t a h =
    let r = went_on (neighbours_from c u (v ∷ x ∷ ts)) (made_at c Op.And Ty.Bool) t h in
    made_of_one known sig c Op.And Ty.Bool Ty.Bool r.0 t (neighbours_of known sig c ty u (v ∷ x ∷ ts) r.0 a.0 a.1 r.1) (λ scope trees k. and_sorted sig scope trees (all_one sig scope Ty.Bool r.0 trees k)) r.2

distinct_of : (known : Known) (sig : Sig) (c : Context) (ty : Ty) (ts : List Term) (t : Term) → type_among ts 0 ≡ ty → AllOfType known sig ty ts → distinct_at c ts ≡ Ok t → IsOfType known sig Ty.Bool t
distinct_of known sig c ty ts t f a h =
    made_of_one known sig c (Op.Distinct (is_bool ty)) ty Ty.Bool ts t a (λ scope trees k. distinct_sorted sig scope ty trees (all_one sig scope ty ts trees k))
    (subst (λ (u : Ty). made_at c (Op.Distinct (is_bool u)) Ty.Bool ts ≡ Ok t) f h)

all_length : (ty : Ty) (ts : List Term) → length (all_of ty ts) ≡ length ts
all_length ty [] = refl
all_length ty (t ∷ ts) = ap suc (all_length ty ts)

-- all of a type, and then what is made of them
several_of : (known : Known) (sig : Sig) (at : Place) (xs : List Sexp) (ty : Ty) (go : List Term → Result Term Refusal) (ts : List Term) (t : Term) → length ts ≡ length xs → AllSorted known sig ts → several_at at xs ty go ts ≡ Ok t
    → AllOfType known sig ty ts × (go ts ≡ Ok t)
several_of known sig at xs ty go [] t l a h = absurd (no_answer (refused Reason.Arity at) t h)
several_of known sig at xs ty go (u ∷ []) t l a h = absurd (no_answer (refused Reason.Arity at) t h)
several_of known sig at xs ty go (u ∷ v ∷ ts) t l a h =
    let w = unless_wrong_is (first_wrong (all_of ty (u ∷ v ∷ ts)) (u ∷ v ∷ ts) xs) (go (u ∷ v ∷ ts)) t h in
    let same : length (u ∷ v ∷ ts) ≡ length (all_of ty (u ∷ v ∷ ts)) = sym (all_length ty (u ∷ v ∷ ts)) in
    (all_of_type known sig ty (u ∷ v ∷ ts) a (right_types (all_of ty (u ∷ v ∷ ts)) (u ∷ v ∷ ts) xs same l w.0), w.1)

-- the operators of Core, by their names

xor_at_of : (known : Known) (sig : Sig) (c : Context) (ts : List Term) (t : Term) → AllOfType known sig Ty.Bool ts → xor_at c ts ≡ Ok t → IsSortedTerm known sig t
xor_at_of known sig c [] t a h = absurd (no_answer (bad_shape c.command) t h)
xor_at_of known sig c (u ∷ ts) t a h = (xor_of known sig c u ts t a.0 a.1 h).1

later_core_sorted : (known : Known) (sig : Sig) (c : Context) (at : Place) (n : Name) (xs : List Sexp) (ts : List Term) (t : Term) → length ts ≡ length xs → AllSorted known sig ts → later_core_at c at n xs ts ≡ Ok t → IsSortedTerm known sig t
unfolding later_core_at
later_core_sorted known sig c at n xs ts t l a h =
    let unknown : Result Term Refusal = Err (refused Reason.UnknownSymbol n.at) in
    let arity : Result Term Refusal = Err (refused Reason.Arity at) in
    let none : Result Term Refusal = cond (is_truth n.bytes) arity unknown in
    let ty : Ty = type_among ts 0 in
    let apart : Result Term Refusal = several_at at xs ty (distinct_at c) ts in
    let same : Result Term Refusal = several_at at xs ty (equal_at c) ts in
    let xor : Result Term Refusal = several_at at xs Ty.Bool (xor_at c) ts in
    let implied : Result Term Refusal = several_at at xs Ty.Bool (implied_at c) ts in
    let four : Result Term Refusal = cond (bytes_eq n.bytes (codes "distinct")) apart none in
    let three : Result Term Refusal = cond (bytes_eq n.bytes (codes "=")) same four in
    let two : Result Term Refusal = cond (bytes_eq n.bytes (codes "xor")) xor three in
    either (bytes_eq n.bytes (codes "=>")) implied two (Ok t) h
    (λ b e. let s = several_of known sig at xs Ty.Bool (implied_at c) ts t l a e in (implied_of known sig c ts t s.0 s.1).1)
    (λ b e. either (bytes_eq n.bytes (codes "xor")) xor three (Ok t) e
    (λ b e. let s = several_of known sig at xs Ty.Bool (xor_at c) ts t l a e in xor_at_of known sig c ts t s.0 s.1)
    (λ b e. either (bytes_eq n.bytes (codes "=")) same four (Ok t) e
    (λ b e. let s = several_of known sig at xs ty (equal_at c) ts t l a e in (equal_of known sig c ty ts t s.0 s.1).1)
    (λ b e. either (bytes_eq n.bytes (codes "distinct")) apart none (Ok t) e
    (λ b e. let s = several_of known sig at xs ty (distinct_at c) ts t l a e in (distinct_of known sig c ty ts t refl s.0 s.1).1)
    (λ b e. either (is_truth n.bytes) arity unknown (Ok t) e (λ b e. absurd (no_answer (refused Reason.Arity at) t e)) (λ b e. absurd (no_answer (refused Reason.UnknownSymbol n.at) t e))))))

core_sorted : (known : Known) (sig : Sig) (c : Context) (at : Place) (n : Name) (xs : List Sexp) (ts : List Term) (t : Term) → length ts ≡ length xs → AllSorted known sig ts → core_at c at n xs ts ≡ Ok t → IsSortedTerm known sig t
core_sorted known sig c at n xs ts t l a h =
    let later : Result Term Refusal = later_core_at c at n xs ts in
    let ty : Ty = type_among ts 1 in
    let ite : Result Term Refusal = applied_at c at xs ts (Ty.Bool ∷ ty ∷ ty ∷ []) (chosen_op (is_bool ty)) ty in
    let or : Result Term Refusal = applied_at c at xs ts (all_bool ts) Op.Or Ty.Bool in
    let and : Result Term Refusal = applied_at c at xs ts (all_bool ts) Op.And Ty.Bool in
    let three : Result Term Refusal = cond (bytes_eq n.bytes (codes "ite")) ite later in
    let two : Result Term Refusal = cond (bytes_eq n.bytes (codes "or")) or three in
    let one : Result Term Refusal = cond (bytes_eq n.bytes (codes "and")) and two in
    either (bytes_eq n.bytes (codes "not")) (applied_at c at xs ts (Ty.Bool ∷ []) Op.Not Ty.Bool) one (Ok t) h
    (λ b e. applied_is known sig c at xs ts (Ty.Bool ∷ []) Op.Not Ty.Bool t l a (λ scope trees k. not_sorted sig scope trees k) e)
    (λ b e. either (bytes_eq n.bytes (codes "and")) and two (Ok t) e
    (λ b e. applied_is known sig c at xs ts (all_bool ts) Op.And Ty.Bool t l a (λ scope trees k. and_sorted sig scope trees (all_one sig scope Ty.Bool ts trees k)) e)
    (λ b e. either (bytes_eq n.bytes (codes "or")) or three (Ok t) e
    (λ b e. applied_is known sig c at xs ts (all_bool ts) Op.Or Ty.Bool t l a (λ scope trees k. or_sorted sig scope trees (all_one sig scope Ty.Bool ts trees k)) e)
    (λ b e. either (bytes_eq n.bytes (codes "ite")) ite later (Ok t) e
    (λ b e. applied_is known sig c at xs ts (Ty.Bool ∷ ty ∷ ty ∷ []) (chosen_op (is_bool ty)) ty t l a (λ scope trees k. ite_sorted sig scope ty trees k) e)
    (λ b e. later_core_sorted known sig c at n xs ts t l a e))))

pub function_sorted : (known : Known) (sig : Sig) (c : Context) (at : Place) (n : Name) (xs : List Sexp) (ts : List Term) (o : Option Function) (t : Term) → length ts ≡ length xs → AllSorted known sig ts → IsSortedWhere sig o → function_at c at n xs ts o ≡ Ok t → IsSortedTerm known sig t
function_sorted known sig c at n xs ts None t l a s h = core_sorted known sig c at n xs ts t l a h
function_sorted known sig c at n xs ts (Some f) t l a s h = fits_sorted known sig c at xs ts f t l a s h
