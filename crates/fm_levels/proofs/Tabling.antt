-- Names in tables and in sets.
use Rattle.std.proofs.Common.{Bool, List, [], ap, arith, false, length, map, refl, subst, sym, true, ℕ, ◌++◌, ◌+◌, ◌∙◌, ◌∷◌, ◌≡◌}
use Rattle.std.specs.Prelude.{None, Option, Some, cond, if◌then◌else◌, is_some, nat_eq, ◌&&◌, ◌||◌}
use Rattle.std.proofs.lemmas.Iterator.Adapters.{position_from-zero}
use Rattle.std.proofs.lemmas.Slice.Eq.{bytes_eq-Decides}
use Rattle.std.specs.Borrow.{Bor}
use Rattle.std.specs.List.{AllByRecursion, IsDistinct, list_any, position, position_from}
use Rattle.std.specs.Map.{keys_of, lookup}
use Rattle.std.specs.Str.{bytes_eq}
use Rattle.indexmap.specs.IndexMap.{insert_entry}
use Rattle.fm_levels.specs.Tables.{AreApart, AreDistinct, has, is_among_names, looked_up, named_values, newest_among, or_else, texts}

eq_flip : (m n : ℕ) → nat_eq m n ≡ nat_eq n m
eq_flip m n = grind arith

pub bytes_flip : (as' bs : List ℕ) → bytes_eq as' bs ≡ bytes_eq bs as'
bytes_flip [] [] = refl
bytes_flip [] (b ∷ bs) = refl
bytes_flip (a ∷ as') [] = refl
bytes_flip (a ∷ as') (b ∷ bs) = ap (λ (x : Bool). x && bytes_eq as' bs) (eq_flip a b) ∙ ap (λ (y : Bool). nat_eq b a && y) (bytes_flip as' bs)

-- a test that a key has this name
abbrev pub Tests : (Bor (List ℕ) → Bool) → List ℕ → Type 0
Tests t name = (k : Bor (List ℕ)) → t k ≡ bytes_eq k.now name

pub tests_flip : (name : List ℕ) → Tests (λ k. bytes_eq name k.now) name
tests_flip name = λ k. bytes_flip name k.now

pub lookup_named : {V : Type 0} (t : Bor (List ℕ) → Bool) (name : List ℕ) (es : List (Bor (List ℕ) × V)) → Tests t name → lookup t es ≡ looked_up name (named_values es)
lookup_named t name [] h = refl
lookup_named {V} t name (e ∷ es) h =
    ap (λ (b : Bool). cond b (Some e.1) (lookup t es)) (h e.0) ∙ ap (λ (o : Option V). cond (bytes_eq e.0.now name) (Some e.1) o) (lookup_named t name es h)

pub any_named : (t : Bor (List ℕ) → Bool) (name : List ℕ) (ks : List (Bor (List ℕ))) → Tests t name → list_any t ks ≡ is_among_names name (texts ks)
any_named t name [] h = refl
any_named t name (k ∷ ks) h = ap (λ (b : Bool). b || list_any t ks) (h k) ∙ ap (λ (b : Bool). bytes_eq k.now name || b) (any_named t name ks h)

-- names that are apart

all_texts : (name : List ℕ) (ks : List (Bor (List ℕ))) → AllByRecursion (λ (y : Bor (List ℕ)). bytes_eq name y.now ≡ false) ks → AllByRecursion (λ (y : List ℕ). bytes_eq name y ≡ false) (texts ks)
all_texts name [] h = tt
all_texts name (k ∷ ks) h = (h.0, all_texts name ks h.1)

pub distinct_texts : (ks : List (Bor (List ℕ))) → IsDistinct (λ (x y : Bor (List ℕ)). bytes_eq x.now y.now) ks → AreDistinct (texts ks)
unfolding IsDistinct
distinct_texts [] h = tt
distinct_texts (k ∷ ks) h = (all_texts k.now ks h.0, distinct_texts ks h.1)

keys_texts : {V : Type 0} (es : List (Bor (List ℕ) × V)) → texts (keys_of es) ≡ map (λ (e : List ℕ × V). e.0) (named_values es)
keys_texts [] = refl
keys_texts (e ∷ es) = ap (λ (l : List (List ℕ)). e.0.now ∷ l) (keys_texts es)

pub apart_values : {V : Type 0} (es : List (Bor (List ℕ) × V)) → IsDistinct (λ (x y : Bor (List ℕ)). bytes_eq x.now y.now) (keys_of es) → AreApart (named_values es)
apart_values es h = subst (λ (l : List (List ℕ)). AreDistinct l) (keys_texts es) (distinct_texts (keys_of es) h)

-- a new name in a table

pub is_none : {A : Type 0} (o : Option A) → is_some o ≡ false → o ≡ None
is_none None h = refl
is_none (Some a) h = cc

pub chosen_none : {A : Type 0} (b : Bool) (a : A) (o : Option A) → cond b (Some a) o ≡ None → (b ≡ false) × (o ≡ None)
chosen_none true a o h = cc
chosen_none false a o h = (refl, h)

insert_passed : {V : Type 0} (b : Bool) (e : Bor (List ℕ) × V) (es rest : List (Bor (List ℕ) × V)) (v : V) → b ≡ false → (if b then (e.0, v) ∷ es else e ∷ rest) ≡ e ∷ rest
insert_passed true e es rest v h = cc
insert_passed false e es rest v h = refl

pub insert_new : {V : Type 0} (es : List (Bor (List ℕ) × V)) (k : Bor (List ℕ)) (v : V) → looked_up k.now (named_values es) ≡ None
    → named_values (insert_entry (λ (x y : Bor (List ℕ)). bytes_eq x.now y.now) es k v) ≡ named_values es ++ (k.now, v) ∷ []
insert_new [] k v h = refl
insert_new {V} (e ∷ es) k v h =
    let parts = chosen_none (bytes_eq e.0.now k.now) e.1 (looked_up k.now (named_values es)) h in
    let eq : Bor (List ℕ) → Bor (List ℕ) → Bool = λ x y. bytes_eq x.now y.now in
    ap (λ (l : List (Bor (List ℕ) × V)). named_values l) (insert_passed (bytes_eq k.now e.0.now) e es (insert_entry eq es k v) v (bytes_flip k.now e.0.now ∙ parts.0))
    ∙ ap (λ (l : List (List ℕ × V)). (e.0.now, e.1) ∷ l) (insert_new es k v parts.1)

pub has_none : {V : Type 0} (name : List ℕ) (es : List (List ℕ × V)) → has name es ≡ false → looked_up name es ≡ None
has_none name es h = is_none (looked_up name es) h

-- the place of a name

pub or_else_none : {A : Type 0} (o : Option A) → or_else o None ≡ o
or_else_none None = refl
or_else_none (Some a) = refl

pub both_none : {A : Type 0} (o p : Option A) → or_else o p ≡ None → (o ≡ None) × (p ≡ None)
both_none None p h = (refl, h)
both_none (Some a) p h = cc

pub none_among : (i : ℕ) (m name : List ℕ) (ns : List (List ℕ)) → bytes_eq m name ≡ true → AllByRecursion (λ (y : List ℕ). bytes_eq m y ≡ false) ns → newest_among i name ns ≡ None
none_among i m name [] e h = refl
none_among i m name (n ∷ ns) e h =
    let same : m ≡ name = (bytes_eq-Decides m name).0 e in
    let off : bytes_eq n name ≡ false = ap (λ (x : List ℕ). bytes_eq n x) (sym same) ∙ bytes_flip n m ∙ h.0 in
    ap (λ (b : Bool). or_else (newest_among (i + 1) name ns) (cond b (Some i) None)) off ∙ or_else_none (newest_among (i + 1) name ns) ∙ none_among (i + 1) m name ns e h.1

place_step : (b : Bool) (i : ℕ) (o p : Option ℕ) → o ≡ p → (b ≡ true → p ≡ None) → cond b (Some i) o ≡ or_else p (cond b (Some i) None)
place_step true i o p e h = ap (λ (q : Option ℕ). or_else q (Some i)) (sym (h refl))
place_step false i o p e h = e ∙ sym (or_else_none p)

pub place_named : (t : Bor (List ℕ) → Bool) (name : List ℕ) (i : ℕ) (ks : List (Bor (List ℕ))) → Tests t name → AreDistinct (texts ks) → position_from t i ks ≡ newest_among i name (texts ks)
unfolding IsDistinct
place_named t name i [] h d = refl
place_named t name i (k ∷ ks) h d =
    ap (λ (b : Bool). cond b (Some i) (position_from t (i + 1) ks)) (h k)
    ∙ place_step (bytes_eq k.now name) i (position_from t (i + 1) ks) (newest_among (i + 1) name (texts ks)) (place_named t name (i + 1) ks h d.1) (λ e. none_among (i + 1) k.now name (texts ks) e d.0)

pub place_is : (t : Bor (List ℕ) → Bool) (name : List ℕ) (ks : List (Bor (List ℕ))) (r : Option ℕ) → Tests t name → AreDistinct (texts ks) → r ≡ position t ks → r ≡ newest_among 0 name (texts ks)
place_is t name ks r h d e = e ∙ position_from-zero t ks ∙ place_named t name 0 ks h d
