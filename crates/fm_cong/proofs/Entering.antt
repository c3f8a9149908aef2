-- What a table has once a term is entered.
use Rattle.std.proofs.Common.{◌≡◌, ℕ, true, cond, List, [], ◌∷◌, ◌++◌, map, Option, Some, None, inl, inr, refl, sym, subst, ap, ◌∙◌, append-nil, append_assoc, arith, suc}
use Rattle.std.specs.Prelude.{slice_get}
use Rattle.std.specs.List.{All, AllZip, Contains}
use Rattle.std.proofs.lemmas.Bool.{cases_Bool}
use Rattle.std.proofs.lemmas.List.Elements.{All-push, All-weaker, Contains-append_left, Contains-push}
use Rattle.std.proofs.lemmas.Option.{get_or_from_slice_get, slice_get_within}
use Rattle.fm_bank.specs.Closure.{Shape, object}
use Rattle.fm_bank.specs.Terms.{Term, is_same}
use Rattle.fm_bank.proofs.Keys.{is_same-refl, same_term}
use Rattle.fm_cong.specs.Tables.{AreCongruent, HasGrown, IsEntered, IsEntering, IsStored, IsAgain, find_in, new_entry, signature}

pub found_more : (es more : List (Term × ℕ)) (key : Term) (u : ℕ) → find_in es key ≡ Some u → find_in (es ++ more) key ≡ Some u
found_more [] more key u h = absurd (none_some u h)
  where
    none_some : (u : ℕ) → None ≡ Some u → ⊥
    none_some u h = cc
found_more (e ∷ es) more key u h =
    elim (cases_Bool (is_same key e.0)) [
      | inl t ↦ ap (λ b. cond b (Some e.1) (find_in (es ++ more) key)) t ∙ (ap (λ b. cond b (Some e.1) (find_in es key)) (sym t) ∙ h)
      | inr f ↦ ap (λ b. cond b (Some e.1) (find_in (es ++ more) key)) f ∙ found_more es more key u (ap (λ b. cond b (Some e.1) (find_in es key)) (sym f) ∙ h)
    ]

pub found_new : (es : List (Term × ℕ)) (key : Term) (u : ℕ) → find_in es key ≡ None → find_in (es ++ (key, u) ∷ []) key ≡ Some u
found_new [] key u h = ap (λ b. cond b (Some u) None) (is_same-refl key)
found_new (e ∷ es) key u h =
    elim (cases_Bool (is_same key e.0)) [
      | inl t ↦ absurd (none_some e.1 (sym h ∙ ap (λ b. cond b (Some e.1) (find_in es key)) t))
      | inr f ↦ ap (λ b. cond b (Some e.1) (find_in (es ++ (key, u) ∷ []) key)) f ∙ found_new es key u (ap (λ b. cond b (Some e.1) (find_in es key)) (sym f) ∙ h)
    ]
  where
    none_some : (u : ℕ) → None ≡ Some u → ⊥
    none_some u h = cc

-- what is found was stored under this key
pub found_at : (P : Term × ℕ → Type 0) (es : List (Term × ℕ)) (key : Term) (u : ℕ) → All P es → find_in es key ≡ Some u → P (key, u)
found_at P es key u all h = walk es all h
  where
    none_some : (u : ℕ) → None ≡ Some u → ⊥
    none_some u h = cc

    here : (e : Term × ℕ) → is_same key e.0 ≡ true → Some e.1 ≡ Some u → P e → P (key, u)
    here e t h p = let k : e.0 ≡ key = sym (same_term key e.0 t) in let v : e.1 ≡ u = cc h in subst P (λ i. (k i, v i)) p

    walk : (es : List (Term × ℕ)) → All P es → find_in es key ≡ Some u → P (key, u)
    walk [] all h = absurd (none_some u h)
    walk (e ∷ es) all h =
        elim (cases_Bool (is_same key e.0)) [
          | inl t ↦ here e t (ap (λ b. cond b (Some e.1) (find_in es key)) (sym t) ∙ h) (all 0 e (omega arith))
          | inr f ↦ walk es (λ k d lt. all (suc k) d (omega (arith, lt))) (ap (λ b. cond b (Some e.1) (find_in es key)) (sym f) ∙ h)
        ]

own_args : (class : ℕ → ℕ) (root : (x : ℕ) → class (class x) ≡ class x) (xs : List ℕ) → AllZip (λ a c. class (object a) ≡ class c) xs (map (λ a. class (object a)) xs)
own_args class root [] = tt
own_args class root (x ∷ xs) = (sym (root (object x)), own_args class root xs)

their_args : (class : ℕ → ℕ) (root : (x : ℕ) → class (class x) ≡ class x) (xs ys : List ℕ) → AllZip (λ a c. class (object a) ≡ class c) xs (map (λ a. class (object a)) ys) → AllZip (λ s t. class (object s) ≡ class (object t)) xs ys
their_args class root [] [] h = tt
their_args class root [] (y ∷ ys) h = h
their_args class root (x ∷ xs) [] h = h
their_args class root (x ∷ xs) (y ∷ ys) h = (h.0 ∙ root (object y), their_args class root xs ys h.1)

pub grown_none : {X : Type 0} → (xs : List X) → HasGrown xs xs
grown_none xs = ([], sym (append-nil xs))

pub grown_more : {X : Type 0} → (a b c : List X) → HasGrown a b → HasGrown b c → HasGrown a c
grown_more a b c h k = (h.0 ++ k.0, k.1 ∙ ap (λ ys. ys ++ k.0) h.1 ∙ append_assoc a h.0 k.0)

pub found_grown : (es fs : List (Term × ℕ)) (key : Term) (u : ℕ) → HasGrown es fs → find_in es key ≡ Some u → find_in fs key ≡ Some u
found_grown es fs key u g h = ap (λ xs. find_in xs key) g.1 ∙ found_more es g.0 key u h

pub contains_grown : {X : Type 0} → (xs ys : List X) (x : X) → HasGrown xs ys → Contains xs x → Contains ys x
contains_grown xs ys x g h = subst (λ zs. Contains zs x) (sym g.1) (Contains-append_left xs g.0 x h)

pub entered_grown : (class : ℕ → ℕ) (es fs : List (Term × ℕ)) (v w : List (ℕ × ℕ)) (s : Shape) → HasGrown es fs → HasGrown v w → IsEntered class (find_in es) v s → IsEntered class (find_in fs) w s
entered_grown class es fs v w s g h e = (e.0, found_grown es fs (signature class s) e.0 g e.1, elim e.2 [ inl same ↦ inl same | inr there ↦ inr (contains_grown v w (e.0, object s.number) h there) ])

pub again_grown : (shapes : List Shape) (class : ℕ → ℕ) (es fs : List (Term × ℕ)) (v w : List (ℕ × ℕ)) (is : List ℕ) → HasGrown es fs → HasGrown v w → All (IsAgain shapes class es v) is → All (IsAgain shapes class fs w) is
again_grown shapes class es fs v w is g h all = All-weaker (IsAgain shapes class es v) (IsAgain shapes class fs w) (λ i a s e. entered_grown class es fs v w s g h (a s e)) is all

module _ (class : ℕ → ℕ) (es fs : List (Term × ℕ)) (waiting : List (ℕ × ℕ)) (s : Shape) (r : Option ℕ) (key : Term) (node : ℕ) (key_is : key ≡ signature class s) (node_is : node ≡ object s.number) (found_key : r ≡ find_in es key) (put_key : fs ≡ es ++ new_entry (find_in es key) key node) where
  found : r ≡ find_in es (signature class s)
  found = found_key ∙ ap (find_in es) key_is

  put : fs ≡ es ++ new_entry (find_in es (signature class s)) (signature class s) (object s.number)
  put = put_key ∙ (λ i. es ++ new_entry (find_in es (key_is i)) (key_is i) (node_is i))

  pub entered_new : r ≡ None → IsEntered class (find_in fs) waiting s
  entered_new e =
      let none : find_in es (signature class s) ≡ None = sym found ∙ e in
      let new : fs ≡ es ++ (signature class s, object s.number) ∷ [] = put ∙ ap (λ o. es ++ new_entry o (signature class s) (object s.number)) none in
      (object s.number, ap (λ xs. find_in xs (signature class s)) new ∙ found_new es (signature class s) (object s.number) none, inl refl)

  pub entered_found : (u : ℕ) → r ≡ Some u → IsEntered class (find_in fs) (waiting ++ (u, object s.number) ∷ []) s
  entered_found u e =
      let some : find_in es (signature class s) ≡ Some u = sym found ∙ e in
      (u, ap (λ xs. find_in xs (signature class s)) put ∙ found_more es (new_entry (find_in es (signature class s)) (signature class s) (object s.number)) (signature class s) u some, inr (Contains-push waiting (u, object s.number)))

  pub sound_new : (shapes : List Shape) → Contains shapes s → r ≡ None → IsEntering shapes class es waiting → IsEntering shapes class fs waiting
  sound_new shapes there e h =
      let none : find_in es (signature class s) ≡ None = sym found ∙ e in
      let new : fs ≡ es ++ (signature class s, object s.number) ∷ [] = put ∙ ap (λ o. es ++ new_entry o (signature class s) (object s.number)) none in
      let one : IsStored shapes class (signature class s, object s.number) = record { shape = s; there = there; node = refl; symbols = refl; args = own_args class h.roots s.args } in
      record { roots = h.roots; stored = subst (All (IsStored shapes class)) (sym new) (All-push (IsStored shapes class) es (signature class s, object s.number) h.stored one); waits = h.waits }

  pub sound_found : (shapes : List Shape) → Contains shapes s → (u : ℕ) → r ≡ Some u → IsEntering shapes class es waiting → IsEntering shapes class fs (waiting ++ (u, object s.number) ∷ [])
  sound_found shapes there u e h =
      let some : find_in es (signature class s) ≡ Some u = sym found ∙ e in
      let same : fs ≡ es = put ∙ ap (λ o. es ++ new_entry o (signature class s) (object s.number)) some ∙ append-nil es in
      let stored : IsStored shapes class (signature class s, u) = found_at (IsStored shapes class) es (signature class s) u h.stored some in
      let one : AreCongruent shapes class (u, object s.number) = record { left = stored.shape; right = s; left_in = stored.there; right_in = there; left_is = stored.node; right_is = refl; symbols = stored.symbols; args = their_args class h.roots stored.shape.args s.args stored.args } in
      record { roots = h.roots; stored = subst (All (IsStored shapes class)) (sym same) h.stored; waits = All-push (AreCongruent shapes class) waiting (u, object s.number) h.waits one }

pub at_place : {X : Type 0} → (xs : List X) (i : ℕ) (x : X) → slice_get xs i ≡ Some x → Contains xs x
at_place xs i x e = (i, slice_get_within xs i x e, get_or_from_slice_get xs i x x e)

pub no_place : {X : Type 0} → (xs : List X) (i : ℕ) (x : X) → slice_get xs i ≡ None → slice_get xs i ≡ Some x → ⊥
no_place xs i x a b = cc

pub one_place : {X : Type 0} → (xs : List X) (i : ℕ) (x y : X) → slice_get xs i ≡ Some x → slice_get xs i ≡ Some y → x ≡ y
one_place xs i x y a b = cc
