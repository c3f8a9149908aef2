-- A clause that has one literal alone, by number and by name.
use Rattle.std.proofs.Common.{◌≡◌, ℕ, zero, suc, inl, inr, Bool, true, false, not, ◌||◌, List, [], ◌∷◌, Some, refl, sym, ap, subst, ◌∙◌}
use Rattle.std.specs.Prelude.{slice_get}
use Rattle.std.specs.List.{list_all, list_any}
use Rattle.std.proofs.lemmas.Bool.{and_from, and_parts, both_ways, false≢true, or_cases}
use Rattle.fm_base.specs.Interpretations.{is_nil}
use Rattle.fm_base.specs.declared.ids.Lit.{Lit}
use Rattle.fm_bank.specs.declared.atom.Atom.{Atom}
use Rattle.fm_bank.specs.declared.literal.Literal.{Literal}
use Rattle.fm_cert.specs.Lines.{Clause, Has, SameSet}
use Rattle.fm_resolve.specs.Marks.{is_same}
use Rattle.fm_resolve.specs.Names.{AllNumbered, AreNumbered, IsNumbered, all_names, name, names}
use Rattle.fm_resolve.specs.Stores.{HasAlone, is_alone}
use Rattle.fm_resolve.proofs.MarkLaws.{same_from, same_lit}
use Rattle.fm_resolve.proofs.NameLaws.{clause_named, one_name, turned}
use Rattle.fm_resolve.proofs.NamedLaws.{all_at, numbered}

-- a literal alone, by number and by name
all_same : (l : Lit) (ls : List Lit) (k : Lit) → list_all (λ x. is_same x l) ls ≡ true → Has ls k → k ≡ l
all_same l [] k e h = absurd h
all_same l (x ∷ ls) k e h =
    let p = and_parts (is_same x l) (list_all (λ y. is_same y l) ls) e in
    elim h [
      | inl here ↦ sym here ∙ same_lit x l p.0
      | inr rest ↦ all_same l ls k p.1 rest
    ]

same_all : (l : Lit) (ls : List Lit) → ((k : Lit) → Has ls k → k ≡ l) → list_all (λ x. is_same x l) ls ≡ true
same_all l [] h = refl
same_all l (x ∷ ls) h = and_from (is_same x l) (list_all (λ y. is_same y l) ls) (same_from x l (h x (inl refl))) (same_all l ls (λ k m. h k (inr m)))

-- the place of a clause by number, where there is one by name
unnamed : (atoms : List Atom) (cs : List (List Lit)) (i : ℕ) (c : Clause) → slice_get (all_names atoms cs) i ≡ Some c → (ls : List Lit) × (slice_get cs i ≡ Some ls) × (names atoms ls ≡ c)
unnamed atoms [] i c e = cc e
unnamed atoms (ls ∷ cs) zero c e = (ls, refl, cc e)
unnamed atoms (ls ∷ cs) (suc i) c e = unnamed atoms cs i c e

clause_numbers : (atoms : List Atom) (cs : List (List Lit)) (i : ℕ) (ls : List Lit) → AllNumbered atoms cs → slice_get cs i ≡ Some ls → AreNumbered atoms ls
clause_numbers atoms [] i ls h e = cc e
clause_numbers atoms (x ∷ cs) zero ls h e = let same : x ≡ ls = cc e in subst (AreNumbered atoms) same h.0
clause_numbers atoms (x ∷ cs) (suc i) ls h e = clause_numbers atoms cs i ls h.1 e

any_at : {X : Type 0} (p : X → Bool) (xs : List X) → list_any p xs ≡ true → (i : ℕ) × (x : X) × (slice_get xs i ≡ Some x) × (p x ≡ true)
any_at p [] e = absurd (false≢true e)
any_at p (x ∷ xs) e =
    elim (or_cases (p x) (list_any p xs) e) [
      | inl here ↦ (0, x, refl, here)
      | inr rest ↦ let w = any_at p xs rest in (suc w.0, w.1, w.2, w.3)
    ]

neither : (a b : Bool) → (a || b) ≡ false → (a ≡ false) × (b ≡ false)
neither true b e = absurd (false≢true (sym e))
neither false b e = (refl, e)

none_at : {X : Type 0} (p : X → Bool) (xs : List X) (i : ℕ) (x : X) → list_any p xs ≡ false → slice_get xs i ≡ Some x → p x ≡ false
none_at p [] i x e at = cc at
none_at {X} p (y ∷ xs) zero x e at = let same : y ≡ x = cc at in subst (λ (z : X). p z ≡ false) same (neither (p y) (list_any p xs) e).0
none_at p (y ∷ xs) (suc i) x e at = none_at p xs i x (neither (p y) (list_any p xs) e).1 at

module _ (atoms : List Atom) where
  alone_named : (l : Lit) (lit : Literal) (ls : List Lit) → name atoms l ≡ lit → is_alone l ls ≡ true → SameSet (names atoms ls) (lit ∷ [])
  alone_named l lit [] e a = absurd (false≢true a)
  alone_named l lit (x ∷ ls) e a =
      let all = (and_parts (not (is_nil (x ∷ ls))) (list_all (λ y. is_same y l) (x ∷ ls)) a).1 in
      λ c. (
        (λ h.
            let k = numbered (name atoms) (IsNumbered atoms) (one_name atoms) (turned atoms) (x ∷ ls) c h in
            inl (sym e ∙ (ap (name atoms) (sym (all_same l (x ∷ ls) k.0 all k.1)) ∙ k.2))),
        (λ h. elim h [
          | inl is ↦ inl (ap (name atoms) (all_same l (x ∷ ls) x all (inl refl)) ∙ (e ∙ is))
          | inr more ↦ absurd more
        ]),
      )

  named_alone : (l : Lit) (lit : Literal) (ls : List Lit) → name atoms l ≡ lit → IsNumbered atoms l → AreNumbered atoms ls → SameSet (names atoms ls) (lit ∷ []) → is_alone l ls ≡ true
  named_alone l lit [] e nl n same = absurd ((same lit).1 (inl refl))
  named_alone l lit (x ∷ ls) e nl n same =
      and_from (not (is_nil (x ∷ ls))) (list_all (λ y. is_same y l) (x ∷ ls)) refl (same_all l (x ∷ ls) (λ k h. one_name atoms k l (all_at (IsNumbered atoms) (x ∷ ls) k n h) nl (by_name k h)))
    where
      by_name : (k : Lit) → Has (x ∷ ls) k → name atoms k ≡ name atoms l
      by_name k h = elim ((same (name atoms k)).0 (named_there (x ∷ ls) k h)) [
        | inl is ↦ sym is ∙ sym e
        | inr more ↦ absurd more
      ]
        where
          named_there : (ks : List Lit) (k : Lit) → Has ks k → Has (names atoms ks) (name atoms k)
          named_there [] k h = h
          named_there (y ∷ ks) k h = elim h [ inl is ↦ inl (ap (name atoms) is) | inr more ↦ inr (named_there ks k more) ]

  pub alone_some : (cs : List (List Lit)) (l : Lit) (lit : Literal) → name atoms l ≡ lit → list_any (is_alone l) cs ≡ true → HasAlone (all_names atoms cs) lit
  alone_some cs l lit e any =
      let w = any_at (is_alone l) cs any in
      (w.0, names atoms w.1, clause_named atoms cs w.0 w.1 w.2, alone_named l lit w.1 e w.3)

  pub alone_none : (cs : List (List Lit)) (l : Lit) (lit : Literal) → name atoms l ≡ lit → IsNumbered atoms l → AllNumbered atoms cs → list_any (is_alone l) cs ≡ false → HasAlone (all_names atoms cs) lit → ⊥
  alone_none cs l lit e nl n none (i, c, at, same) =
      let u = unnamed atoms cs i c at in
      let alone = named_alone l lit u.0 e nl (clause_numbers atoms cs i u.0 n u.1) (subst (λ (d : Clause). SameSet d (lit ∷ [])) (sym u.2) same) in
      both_ways (is_alone l u.0) (none_at (is_alone l) cs i u.0 none u.1) alone

  pub nowhere : (cs : List (List Lit)) (lit : Literal) → AllNumbered atoms cs → ((k : Lit) → IsNumbered atoms k → name atoms k ≡ lit → ⊥) → HasAlone (all_names atoms cs) lit → ⊥
  nowhere cs lit n none (i, c, at, same) =
      let u = unnamed atoms cs i c at in
      let there : Has (names atoms u.0) lit = subst (λ (d : Clause). Has d lit) (sym u.2) ((same lit).1 (inl refl)) in
      let k = numbered (name atoms) (IsNumbered atoms) (one_name atoms) (turned atoms) u.0 lit there in
      none k.0 (all_at (IsNumbered atoms) u.0 k.0 (clause_numbers atoms cs i u.0 n u.1) k.1) k.2
