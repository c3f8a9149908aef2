-- A step of a resolution, by names: each literal in question has its number.
use Rattle.std.proofs.Common.{◌≡◌, ℕ, inl, inr, List, Some, None, sym, subst, ◌∙◌}
use Rattle.std.specs.Prelude.{slice_get}
use Rattle.fm_base.specs.declared.ids.Lit.{Lit}
use Rattle.fm_bank.specs.declared.atom.Atom.{Atom}
use Rattle.fm_bank.specs.declared.literal.Literal.{Literal}
use Rattle.fm_cert.specs.Lines.{Clause, Has as HasName, Resolves as ResolvesNames, SameSet as SameNames, opposite as opposite_name}
use Rattle.fm_resolve.specs.Chains.{Has, Resolves, SameSet, opposite}
use Rattle.fm_resolve.specs.Names.{AreNumbered, IsNumbered, all_names, name, names}
use Rattle.fm_resolve.proofs.NameLaws.{clause_named, clause_none, numbered_turned, one_name, turned}
use Rattle.fm_resolve.proofs.NamedLaws.{all_at, all_from, numbered, numbered_at, resolves_named, same_named}

module _ (atoms : List Atom) where
  pub stop_name : (a : List Lit) (lit : Literal) → AreNumbered atoms a → ((k : Lit) → IsNumbered atoms k → name atoms k ≡ lit → ⊥) → HasName (names atoms a) lit → ⊥
  stop_name a lit n none h =
      let k = numbered (name atoms) (IsNumbered atoms) (one_name atoms) (turned atoms) a lit h in
      none k.0 (all_at (IsNumbered atoms) a k.0 n k.1) k.2

  pub step_yes : (a : List Lit) (l : Lit) (lit : Literal) (b r : List Lit) → AreNumbered atoms a → IsNumbered atoms l → AreNumbered atoms b → name atoms l ≡ lit → Resolves a l b r → ResolvesNames (names atoms a) lit (names atoms b) (names atoms r)
  step_yes a l lit b r na nl nb e h =
      subst (λ (c : Literal). ResolvesNames (names atoms a) c (names atoms b) (names atoms r)) e (resolves_named (name atoms) (IsNumbered atoms) (one_name atoms) (turned atoms) a l b r na nl nb (numbered_turned atoms l nl) h)

  pub step_numbered : (a : List Lit) (l : Lit) (b r : List Lit) → AreNumbered atoms a → AreNumbered atoms b → Resolves a l b r → AreNumbered atoms r
  step_numbered a l b r na nb h =
      all_from (IsNumbered atoms) r (λ (k : Lit) at. elim ((h.exactly k).0 at) [
        | inl left ↦ all_at (IsNumbered atoms) a k na left.0
        | inr right ↦ all_at (IsNumbered atoms) b k nb right.0
      ])

  pub step_no : (a : List Lit) (l : Lit) (lit : Literal) (b : List Lit) → AreNumbered atoms a → IsNumbered atoms l → AreNumbered atoms b → name atoms l ≡ lit → (Has a l → Has b (opposite l) → ⊥) → HasName (names atoms a) lit → HasName (names atoms b) (opposite_name lit) → ⊥
  step_no a l lit b na nl nb e refuses h g =
      refuses (numbered_at (name atoms) (IsNumbered atoms) (one_name atoms) (turned atoms) a l na nl (subst (HasName (names atoms a)) (sym e) h)) (numbered_at (name atoms) (IsNumbered atoms) (one_name atoms) (turned atoms) b (opposite l) nb (numbered_turned atoms l nl) (subst (λ (c : Literal). HasName (names atoms b) (opposite_name c)) (sym e) g))

  pub one_clause : (cs : List (List Lit)) (i : ℕ) (b : List Lit) (other : Clause) → slice_get cs i ≡ Some b → slice_get (all_names atoms cs) i ≡ Some other → names atoms b ≡ other
  one_clause cs i b other e f = cc (sym (clause_named atoms cs i b e) ∙ f)

  pub no_clause : (cs : List (List Lit)) (i : ℕ) (other : Clause) → slice_get cs i ≡ None → slice_get (all_names atoms cs) i ≡ Some other → ⊥
  no_clause cs i other e f = absurd (cc (sym (clause_none atoms cs i e) ∙ f))

  pub same_names : (a b : List Lit) → SameSet a b → SameNames (names atoms a) (names atoms b)
  same_names a b s = same_named (name atoms) (IsNumbered atoms) (one_name atoms) (turned atoms) a b s
