-- A trail over atoms below a number has at most so many entries.
use Rattle.std.proofs.Common.{◌≡◌, ◌≢◌, ℕ, zero, suc, ◌+◌, ◌<◌, ◌≤◌, Bool, true, false, cond, List, [], ◌∷◌, length, map, Some, inl, inr, refl, sym, subst, arith}
use Rattle.std.specs.Prelude.{◌==◌, slice_get}
use Rattle.std.proofs.lemmas.Bool.{eqb-true, eqb-false}
use Rattle.std.proofs.lemmas.List.{length-map}
use Rattle.fm_base.specs.Resolution.{AreDistinct, Has}
use Rattle.fm_trail.specs.declared.entry.Entry.{Entry}
use Rattle.fm_trail.specs.Trail.{HasOneEntry}

abbrev remove : ℕ → List ℕ → List ℕ
remove x [] = []
remove x (y ∷ ys) = cond (y == x) ys (y ∷ remove x ys)

remove_step : (x y : ℕ) (ys : List ℕ) (b : Bool) → length ys ≤ length (remove x ys) + 1 → length (y ∷ ys) ≤ length (cond b ys (y ∷ remove x ys)) + 1
remove_step x y ys true le = omega arith
remove_step x y ys false le = omega arith

remove_length : (x : ℕ) (xs : List ℕ) → length xs ≤ length (remove x xs) + 1
remove_length x [] = omega arith
remove_length x (y ∷ ys) = remove_step x y ys (y == x) (remove_length x ys)

kept_step : (x y z : ℕ) (ys : List ℕ) (b : Bool) → (Has (remove x ys) z → Has ys z) → Has (cond b ys (y ∷ remove x ys)) z → Has (y ∷ ys) z
kept_step x y z ys true rest h = inr h
kept_step x y z ys false rest h = elim h [ inl here ↦ inl here | inr more ↦ inr (rest more) ]

remove_has : (x z : ℕ) (xs : List ℕ) → Has (remove x xs) z → Has xs z
remove_has x z [] h = absurd h
remove_has x z (y ∷ ys) h = kept_step x y z ys (y == x) (remove_has x z ys) h

distinct_step : (x y : ℕ) (ys : List ℕ) (b : Bool) → (Has ys y → ⊥) → AreDistinct ys → AreDistinct (remove x ys) → AreDistinct (cond b ys (y ∷ remove x ys))
distinct_step x y ys true none d r = d
distinct_step x y ys false none d r = (λ h. none (remove_has x y ys h), r)

remove_distinct : (x : ℕ) (xs : List ℕ) → AreDistinct xs → AreDistinct (remove x xs)
remove_distinct x [] d = tt
remove_distinct x (y ∷ ys) d = distinct_step x y ys (y == x) d.0 d.1 (remove_distinct x ys d.1)

gone_step : (x y : ℕ) (ys : List ℕ) (b : Bool) → (y == x) ≡ b → (Has ys y → ⊥) → (Has (remove x ys) x → ⊥) → Has (cond b ys (y ∷ remove x ys)) x → ⊥
gone_step x y ys true is none rest h = none (subst (Has ys) (sym (eqb-true y x is)) h)
gone_step x y ys false is none rest h = elim h [ inl here ↦ eqb-false y x is here | inr more ↦ rest more ]

remove_gone : (x : ℕ) (xs : List ℕ) → AreDistinct xs → Has (remove x xs) x → ⊥
remove_gone x [] d h = h
remove_gone x (y ∷ ys) d h = gone_step x y ys (y == x) refl d.0 (remove_gone x ys d.1) h

-- so many different numbers below n (pigeon holes)
pub distinct_below : (n : ℕ) (xs : List ℕ) → AreDistinct xs → ((x : ℕ) → Has xs x → x < n) → length xs ≤ n
distinct_below zero [] d lt = omega arith
distinct_below zero (x ∷ xs) d lt = absurd (let bad = lt x (inl refl) in omega arith)
distinct_below (suc n) xs d lt =
    let rest = distinct_below n (remove n xs) (remove_distinct n xs d) (λ x h. let less = lt x (remove_has n x xs h) in let ne : x ≢ n = λ same. remove_gone n xs d (subst (Has (remove n xs)) same h) in omega arith) in
    omega (arith, rest, remove_length n xs)

abbrev atoms : List Entry → List ℕ
atoms es = map (λ (e : Entry). e.lit.atom.0) es

pub record AtomAt (es : List Entry) (a : ℕ) : Type 0 where
  pub place : ℕ
  pub entry : Entry
  pub at : slice_get es place ≡ Some entry
  pub is : entry.lit.atom.0 ≡ a

atom_at : (es : List Entry) (a : ℕ) → Has (atoms es) a → AtomAt es a
atom_at [] a h = absurd h
atom_at (e ∷ es) a h = elim h [ inl here ↦ record { place = 0; entry = e; at = refl; is = here } | inr more ↦ (let r = atom_at es a more in record { place = suc r.place; entry = r.entry; at = r.at; is = r.is }) ]

once_rest : (e : Entry) (es : List Entry) → HasOneEntry (e ∷ es) → HasOneEntry es
once_rest e es once i j f g at at' same = let q = once (suc i) (suc j) f g at at' same in omega arith

atoms_distinct : (es : List Entry) → HasOneEntry es → AreDistinct (atoms es)
atoms_distinct [] once = tt
atoms_distinct (e ∷ es) once = (λ h. (let r = atom_at es e.lit.atom.0 h in let q = once 0 (suc r.place) e r.entry refl r.at (sym r.is) in omega arith), atoms_distinct es (once_rest e es once))

pub entries_most : (n : ℕ) (es : List Entry) → HasOneEntry es → ((i : ℕ) (e : Entry) → slice_get es i ≡ Some e → e.lit.atom.0 < n) → length es ≤ n
entries_most n es once lt = omega (arith, distinct_below n (atoms es) (atoms_distinct es once) (λ a h. let r = atom_at es a h in subst (λ (x : ℕ). x < n) r.is (lt r.place r.entry r.at)), length-map es (λ (e : Entry). e.lit.atom.0))
