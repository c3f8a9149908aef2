-- Arguments of a function against the types that it takes.
use Rattle.std.proofs.Common.{◌≡◌, ℕ, zero, suc, ◌+◌, ◌<◌, ◌≤◌, Bool, true, false, List, [], ◌∷◌, length, map, drop, get_or, ap, refl, sym, subst, ◌∙◌, arith}
use Rattle.std.specs.Prelude.{cond, ◌==◌, Option, Some, None, Result}
use Rattle.std.proofs.lemmas.List.{drop_more, length-map}
use Rattle.fm_base.specs.Truth.{is_bool}
use Rattle.fm_base.specs.declared.ids.SymId.{SymId}
use Rattle.fm_base.specs.declared.refusal.Place.{Place}
use Rattle.fm_base.specs.declared.refusal.Refusal.{Refusal}
use Rattle.fm_base.specs.declared.signature.Ty.{Ty}
use Rattle.fm_sexp.specs.declared.items.Sexp.{Sexp}
use Rattle.fm_script.specs.Commands.{place_of_item}
use Rattle.fm_arena.specs.Trees.{all_things, makes_truth, takes}
use Rattle.fm_arena.specs.Meanings.{Term, terms_of, type_at}
use Rattle.fm_arena.specs.declared.node.Entry.{Entry}
use Rattle.fm_arena.specs.declared.node.Op.{Op}
use Rattle.fm_apply.specs.Applied.{Context, all_bool, first_wrong, op_of, same_type, stands_at, type_among, unless_wrong}
use Rattle.fm_apply.specs.Scoped.{IsTaken, StandsWell, definition_at, number_kind, number_term, stands_in, stood_at, terms_at}
use Rattle.fm_apply.specs.declared.entry.Function.{Function}
use Rattle.fm_apply.specs.declared.entry.Stands.{Stands}

pub wrong_step : (es : List Entry) (tys : List Ty) (args : List ℕ) (items : List Sexp) (i : ℕ) (t : Ty) (a : ℕ) (x : Sexp) (w : Option Place) → i < length tys → length args ≡ length tys → length items ≡ length tys
    → same_type (type_at (terms_of es) (get_or args i a)) (get_or tys i t) ≡ true → first_wrong (drop i tys) (terms_at es (drop i args)) (drop i items) ≡ w
    → first_wrong (drop (i + 1) tys) (terms_at es (drop (i + 1) args)) (drop (i + 1) items) ≡ w
wrong_step es tys args items i t a x w lt la li same h =
    let h1 = subst (λ (l : List Ty). first_wrong l (terms_at es (drop i args)) (drop i items) ≡ w) (drop_more tys i t lt) h in
    let h2 = subst (λ (l : List ℕ). first_wrong (get_or tys i t ∷ drop (i + 1) tys) (terms_at es l) (drop i items) ≡ w) (drop_more args i a (omega (arith, lt, la))) h1 in
    let h3 = subst (λ (l : List Sexp). first_wrong (get_or tys i t ∷ drop (i + 1) tys) (terms_at es (get_or args i a ∷ drop (i + 1) args)) l ≡ w) (drop_more items i x (omega (arith, lt, li))) h2 in
    subst (λ (b : Bool). cond b (first_wrong (drop (i + 1) tys) (terms_at es (drop (i + 1) args)) (drop (i + 1) items)) (Some (place_of_item (get_or items i x))) ≡ w) same h3

same_kind : (a b : Ty) → same_type a b ≡ true → is_bool a ≡ is_bool b
same_kind Ty.Bool Ty.Bool e = refl
same_kind Ty.Bool (Ty.Of s) e = cc
same_kind (Ty.Of s) Ty.Bool e = cc
same_kind (Ty.Of s) (Ty.Of u) e = refl

-- what follows where no argument is of a wrong type
no_wrong : (b : Bool) (rest : Option Place) (at : Place) → cond b rest (Some at) ≡ None → (b ≡ true) × (rest ≡ None)
no_wrong true rest at e = (refl, e)
no_wrong false rest at e = cc

pub right_kinds : (es : List Entry) (tys : List Ty) (args : List ℕ) (items : List Sexp) → length args ≡ length tys → length items ≡ length args → first_wrong tys (terms_at es args) items ≡ None → map (number_kind es) args ≡ map is_bool tys
right_kinds es [] [] items la li e = refl
right_kinds es [] (a ∷ args) items la li e = absurd (omega (arith, la))
right_kinds es (ty ∷ tys) [] items la li e = absurd (omega (arith, la))
right_kinds es (ty ∷ tys) (a ∷ args) [] la li e = absurd (omega (arith, li))
right_kinds es (ty ∷ tys) (a ∷ args) (x ∷ items) la li e =
    let parts = no_wrong (same_type (type_at (terms_of es) a) ty) (first_wrong tys (terms_at es args) items) (place_of_item x) e in
    ap (λ (k : Bool). k ∷ map (number_kind es) args) (same_kind (type_at (terms_of es) a) ty parts.0) ∙ ap (λ (ks : List Bool). is_bool ty ∷ ks) (right_kinds es tys args items (omega (arith, la)) (omega (arith, li)) parts.1)

pub kinds_taken : (es : List Entry) (op : Op) (tys : List Ty) (args : List ℕ) (items : List Sexp) (found : Option Place) → length args ≡ length tys → length items ≡ length args → found ≡ None → found ≡ first_wrong tys (terms_at es args) items
    → takes op (map is_bool tys) ≡ true → takes op (map (number_kind es) args) ≡ true
kinds_taken es op tys args items found la li n e t = ap (takes op) (right_kinds es tys args items la li (sym e ∙ n)) ∙ t

pub wrong_next : (es : List Entry) (tys : List Ty) (args : List ℕ) (items : List Sexp) (i : ℕ) (t : Ty) (a : ℕ) (ty : Ty) (b : Bool) (w : Option Place) → i < length tys → length args ≡ length tys → length items ≡ length tys
    → ty ≡ type_at (terms_of es) (get_or args i a) → b ≡ same_type ty (get_or tys i t) → b ≡ true → first_wrong (drop i tys) (terms_at es (drop i args)) (drop i items) ≡ w
    → first_wrong (drop (i + 1) tys) (terms_at es (drop (i + 1) args)) (drop (i + 1) items) ≡ w
wrong_next es tys args [] i t a ty b w lt la li et eb e h = absurd (omega (arith, lt, li))
wrong_next es tys args (x ∷ items) i t a ty b w lt la li et eb e h =
    wrong_step es tys args (x ∷ items) i t a x w lt la li (sym (ap (λ (u : Ty). same_type u (get_or tys i t)) et) ∙ sym eb ∙ e) h

eqb-same : (m n : ℕ) → m ≡ n → (m == n) ≡ true
eqb-same m n e = grind (arith, e)

-- arguments that are right
pub tested_right : (es : List Entry) (tys : List Ty) (args : List ℕ) (items : List Sexp) (x none : Result Term Refusal) → length args ≡ length tys → None ≡ first_wrong tys (terms_at es args) items
    → cond (length (terms_at es args) == length tys) (unless_wrong (first_wrong tys (terms_at es args) items) x) none ≡ x
tested_right es tys args items x none l e =
    let same : (length (terms_at es args) == length tys) ≡ true = eqb-same (length (terms_at es args)) (length tys) (length-map args (number_term es) ∙ l) in
    ap (λ (b : Bool). cond b (unless_wrong (first_wrong tys (terms_at es args) items) x) none) same
    ∙ ap (λ (o : Option Place). unless_wrong o x) (sym e)

pub op_takes : (f : SymId) (ty : Ty) (ks : List Bool) → all_things ks ≡ true → takes (op_of f ty) ks ≡ true
op_takes f Ty.Bool ks e = e
op_takes f (Ty.Of s) ks e = e

pub op_makes : (f : SymId) (ty : Ty) → is_bool ty ≡ makes_truth (op_of f ty)
op_makes f Ty.Bool = refl
op_makes f (Ty.Of s) = refl

pub taken_by : (ts : List Term) (f : Function) (s : Stands) (ks : List Bool) → StandsWell ts f.args f.result s → ks ≡ map is_bool f.args → IsTaken f s ks
taken_by ts f (Stands.Declared s) ks h e = op_takes s f.result ks (ap all_things e ∙ h)
taken_by ts f (Stands.Defined n) ks h e = tt

pub declared_takes : (f : Function) (s : Stands) (symbol : SymId) (op : Op) (ks : List Bool) → IsTaken f s ks → s ≡ Stands.Declared symbol → op ≡ op_of symbol f.result → takes op ks ≡ true
declared_takes f s symbol op ks h e o = ap (λ (p : Op). takes p ks) o ∙ subst (λ (t : Stands). IsTaken f t ks) e h

pub declared_makes : (f : Function) (symbol : SymId) (op : Op) → op ≡ op_of symbol f.result → is_bool f.result ≡ makes_truth op
declared_makes f symbol op o = op_makes symbol f.result ∙ ap makes_truth (sym o)

-- a definition in force stands for the term of its body
pub stood_defined : (c : Context) (es : List Entry) (f : Function) (n : ℕ) (ts : List Term) → StandsWell (terms_of es) f.args f.result f.stands → f.stands ≡ Stands.Defined n → stood_at c es f ts ≡ definition_at c (number_term es n) ts
stood_defined c es f n ts h e =
    let w = subst (λ (s : Stands). StandsWell (terms_of es) f.args f.result s) e h in
    ap (λ (s : Stands). stands_at c (stands_in (terms_of es) s) f.result ts) e
    ∙ ap (λ (ty : Ty). stands_at c (stands_in (terms_of es) (Stands.Defined n)) ty ts) (sym w.1)

pub stood_declared : (c : Context) (es : List Entry) (f : Function) (symbol : SymId) (ts : List Term) → f.stands ≡ Stands.Declared symbol → stood_at c es f ts ≡ stands_at c (stands_in (terms_of es) (Stands.Declared symbol)) f.result ts
stood_declared c es f symbol ts e = ap (λ (s : Stands). stands_at c (stands_in (terms_of es) s) f.result ts) e

-- arguments of Core

pub choice_takes : (ty : Ty) → takes (cond (is_bool ty) Op.Ite Op.Choice) (true ∷ is_bool ty ∷ is_bool ty ∷ []) ≡ true
choice_takes Ty.Bool = refl
choice_takes (Ty.Of s) = refl

pub choice_makes : (ty : Ty) → is_bool ty ≡ makes_truth (cond (is_bool ty) Op.Ite Op.Choice)
choice_makes Ty.Bool = refl
choice_makes (Ty.Of s) = refl

pub equality_takes : (ty : Ty) → takes (cond (is_bool ty) Op.Iff Op.Equal) (is_bool ty ∷ is_bool ty ∷ []) ≡ true
equality_takes Ty.Bool = refl
equality_takes (Ty.Of s) = refl

pub equality_makes : (ty : Ty) → true ≡ makes_truth (cond (is_bool ty) Op.Iff Op.Equal)
equality_makes Ty.Bool = refl
equality_makes (Ty.Of s) = refl

pub bools_of : (es : List Entry) (args : List ℕ) → all_bool (terms_at es args) ≡ map (λ (a : ℕ). Ty.Bool) args
bools_of es [] = refl
bools_of es (a ∷ args) = ap (λ (l : List Ty). Ty.Bool ∷ l) (bools_of es args)

pub and_taken : (args : List ℕ) → takes Op.And (map is_bool (map (λ (a : ℕ). Ty.Bool) args)) ≡ true
and_taken [] = refl
and_taken (a ∷ args) = and_taken args

pub or_taken : (args : List ℕ) → takes Op.Or (map is_bool (map (λ (a : ℕ). Ty.Bool) args)) ≡ true
or_taken [] = refl
or_taken (a ∷ args) = or_taken args

pub type_among_past : (es : List Entry) (args : List ℕ) (i : ℕ) → length args ≤ i → Ty.Bool ≡ type_among (terms_at es args) i
type_among_past es [] i e = refl
type_among_past es (a ∷ args) zero e = absurd (omega (arith, e))
type_among_past es (a ∷ args) (suc i) e = type_among_past es args i (omega (arith, e))

pub type_among_at : (es : List Entry) (args : List ℕ) (i n d : ℕ) (r : Ty) → i < length args → n ≡ get_or args i d → r ≡ type_at (terms_of es) n → r ≡ type_among (terms_at es args) i
type_among_at es [] i n d r lt e t = absurd (omega (arith, lt))
type_among_at es (a ∷ args) zero n d r lt e t = t ∙ ap (type_at (terms_of es)) e
type_among_at es (a ∷ args) (suc i) n d r lt e t = type_among_at es args i n d r (omega (arith, lt)) e t
