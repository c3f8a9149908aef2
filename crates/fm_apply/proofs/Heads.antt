-- Which operator of Core a name is.
use Rattle.std.proofs.Common.{Bool, List, [], ap, false, refl, subst, sym, true, ℕ, ◌∙◌, ◌≡◌}
use Rattle.std.specs.Prelude.{Result, codes, cond}
use Rattle.std.specs.Str.{bytes_eq}
use Rattle.fm_base.specs.declared.refusal.Fail.{Fail}
use Rattle.fm_base.specs.declared.refusal.Place.{Place}
use Rattle.fm_base.specs.declared.refusal.Refusal.{Refusal}
use Rattle.fm_base.specs.declared.signature.Ty.{Ty}
use Rattle.fm_sexp.specs.declared.items.Sexp.{Sexp}
use Rattle.fm_script.specs.Shown.{Name}
use Rattle.fm_arena.specs.Meanings.{Term}
use Rattle.fm_arena.specs.declared.node.Entry.{Entry}
use Rattle.fm_arena.specs.declared.node.Op.{Op}
use Rattle.fm_apply.specs.Applied.{Context, all_bool, applied_at, core_at, core_constant, distinct_at, equal_at, implied_at, later_core_at, made_at, several_at, type_among, xor_at}
use Rattle.fm_apply.specs.Scoped.{IsTerm, terms_at}

chosen : (b : Bool) (x y : Result Term Refusal) → b ≡ true → cond b x y ≡ x
chosen true x y e = refl
chosen false x y e = cc

passed : (b : Bool) (x y : Result Term Refusal) → b ≡ false → cond b x y ≡ y
passed true x y e = cc
passed false x y e = refl

pub is_implication : (c : Context) (at : Place) (n : Name) (xs : List Sexp) (ts : List Term) (new : List Entry) (r : Result ℕ Fail) → bytes_eq n.bytes (codes "=>") ≡ true → IsTerm new r (several_at at xs Ty.Bool (implied_at c) ts) → IsTerm new r (later_core_at c at n xs ts)
unfolding later_core_at
is_implication c at n xs ts new r e h = subst (λ (y : Result Term Refusal). IsTerm new r y) (sym (chosen (bytes_eq n.bytes (codes "=>")) _ _ e)) h

pub is_exclusive : (c : Context) (at : Place) (n : Name) (xs : List Sexp) (ts : List Term) (new : List Entry) (r : Result ℕ Fail) → bytes_eq n.bytes (codes "=>") ≡ false → bytes_eq n.bytes (codes "xor") ≡ true → IsTerm new r (several_at at xs Ty.Bool (xor_at c) ts) → IsTerm new r (later_core_at c at n xs ts)
unfolding later_core_at
is_exclusive c at n xs ts new r d e h = subst (λ (y : Result Term Refusal). IsTerm new r y) (sym (passed (bytes_eq n.bytes (codes "=>")) _ _ d ∙ chosen (bytes_eq n.bytes (codes "xor")) _ _ e)) h

pub is_equality : (c : Context) (at : Place) (n : Name) (xs : List Sexp) (ts : List Term) (new : List Entry) (r : Result ℕ Fail) → bytes_eq n.bytes (codes "=>") ≡ false → bytes_eq n.bytes (codes "xor") ≡ false → bytes_eq n.bytes (codes "=") ≡ true → IsTerm new r (several_at at xs (type_among ts 0) (equal_at c) ts) → IsTerm new r (later_core_at c at n xs ts)
unfolding later_core_at
is_equality c at n xs ts new r d g e h = subst (λ (y : Result Term Refusal). IsTerm new r y) (sym (passed (bytes_eq n.bytes (codes "=>")) _ _ d ∙ passed (bytes_eq n.bytes (codes "xor")) _ _ g ∙ chosen (bytes_eq n.bytes (codes "=")) _ _ e)) h

pub is_distinct : (c : Context) (at : Place) (n : Name) (xs : List Sexp) (ts : List Term) (new : List Entry) (r : Result ℕ Fail) → bytes_eq n.bytes (codes "=>") ≡ false → bytes_eq n.bytes (codes "xor") ≡ false → bytes_eq n.bytes (codes "=") ≡ false → bytes_eq n.bytes (codes "distinct") ≡ true → IsTerm new r (several_at at xs (type_among ts 0) (distinct_at c) ts) → IsTerm new r (later_core_at c at n xs ts)
unfolding later_core_at
is_distinct c at n xs ts new r d g k e h = subst (λ (y : Result Term Refusal). IsTerm new r y) (sym (passed (bytes_eq n.bytes (codes "=>")) _ _ d ∙ passed (bytes_eq n.bytes (codes "xor")) _ _ g ∙ passed (bytes_eq n.bytes (codes "=")) _ _ k ∙ chosen (bytes_eq n.bytes (codes "distinct")) _ _ e)) h

-- the operators that take any number of formulas, and the truth values

pub is_and : (c : Context) (at : Place) (n : Name) (xs : List Sexp) (ts : List Term) (tys : List Ty) (new : List Entry) (r : Result ℕ Fail) → bytes_eq n.bytes (codes "not") ≡ false → bytes_eq n.bytes (codes "and") ≡ true → tys ≡ all_bool ts
    → IsTerm new r (applied_at c at xs ts tys Op.And Ty.Bool) → IsTerm new r (core_at c at n xs ts)
is_and c at n xs ts tys new r d e t h =
    subst (λ (y : Result Term Refusal). IsTerm new r y)
    (sym (passed (bytes_eq n.bytes (codes "not")) _ _ d ∙ chosen (bytes_eq n.bytes (codes "and")) _ _ e ∙ ap (λ (l : List Ty). applied_at c at xs ts l Op.And Ty.Bool) (sym t))) h

pub is_or : (c : Context) (at : Place) (n : Name) (xs : List Sexp) (ts : List Term) (tys : List Ty) (new : List Entry) (r : Result ℕ Fail) → bytes_eq n.bytes (codes "not") ≡ false → bytes_eq n.bytes (codes "and") ≡ false → bytes_eq n.bytes (codes "or") ≡ true → tys ≡ all_bool ts
    → IsTerm new r (applied_at c at xs ts tys Op.Or Ty.Bool) → IsTerm new r (core_at c at n xs ts)
is_or c at n xs ts tys new r d g e t h =
    subst (λ (y : Result Term Refusal). IsTerm new r y)
    (sym (passed (bytes_eq n.bytes (codes "not")) _ _ d ∙ passed (bytes_eq n.bytes (codes "and")) _ _ g ∙ chosen (bytes_eq n.bytes (codes "or")) _ _ e ∙ ap (λ (l : List Ty). applied_at c at xs ts l Op.Or Ty.Bool) (sym t))) h

pub is_false : (c : Context) (es : List Entry) (n : Name) (parts : List ℕ) (new : List Entry) (r : Result ℕ Fail) → bytes_eq n.bytes (codes "true") ≡ false → bytes_eq n.bytes (codes "false") ≡ true → parts ≡ []
    → IsTerm new r (made_at c (Op.Truth false) Ty.Bool (terms_at es parts)) → IsTerm new r (core_constant c n)
is_false c es n parts new r d e p h =
    subst (λ (y : Result Term Refusal). IsTerm new r y)
    (sym (passed (bytes_eq n.bytes (codes "true")) _ _ d ∙ chosen (bytes_eq n.bytes (codes "false")) _ _ e ∙ ap (λ (l : List ℕ). made_at c (Op.Truth false) Ty.Bool (terms_at es l)) (sym p))) h
