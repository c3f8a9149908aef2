-- Whether a clause is empty.
use Rattle.std.proofs.Common.{◌≡◌, ℕ, zero, suc, ◌+◌, ◌<◌, List, [], ◌∷◌, ◌++◌, length, take, get_or, Some, sym, ap, subst, ◌∙◌, arith}
use Rattle.std.specs.Prelude.{slice_get}
use Rattle.std.proofs.lemmas.List.{take_more}

-- no clause is empty
abbrev pub NoneEmpty : {X : Type 0} → List (List X) → Type 0
NoneEmpty [] = Unit {0}
NoneEmpty (c ∷ cs) = (c ≡ [] → ⊥) × NoneEmpty cs

pub none_empty : {X : Type 0} (cs : List (List X)) (i : ℕ) → NoneEmpty cs → slice_get cs i ≡ Some [] → ⊥
none_empty [] i h e = cc
none_empty {X} (c ∷ cs) zero h e = let same : c ≡ [] = cc e in h.0 same
none_empty (c ∷ cs) (suc i) h e = none_empty cs i h.1 e

none_push : {X : Type 0} (cs : List (List X)) (c : List X) → NoneEmpty cs → (c ≡ [] → ⊥) → NoneEmpty (cs ++ c ∷ [])
none_push [] c h n = (n, tt)
none_push (d ∷ cs) c h n = (h.0, none_push cs c h.1 n)

pub none_more : {X : Type 0} (cs : List (List X)) (i : ℕ) (d : List X) → i < length cs → NoneEmpty (take i cs) → (get_or cs i d ≡ [] → ⊥) → NoneEmpty (take (i + 1) cs)
none_more cs i d lt h n = subst NoneEmpty (sym (take_more cs i d lt)) (none_push (take i cs) (get_or cs i d) h n)

pub element_some : {X : Type 0} (cs : List (List X)) (i : ℕ) (c : List X) → i < length cs → c ≡ get_or cs i c → c ≡ [] → slice_get cs i ≡ Some []
element_some [] i c lt e n = absurd (omega arith)
element_some (d ∷ cs) zero c lt e n = ap Some (sym e ∙ n)
element_some (d ∷ cs) (suc i) c lt e n = element_some cs i c (omega (arith, lt)) e n
