-- Clauses of two lists, and "or" as an implication.
use Rattle.std.proofs.Common.{◌≡◌, Bool, true, false, ◌&&◌, ◌||◌, List, [], ◌∷◌, ◌++◌, ap, refl}
use Rattle.fm_base.specs.Interpretations.{Reading}
use Rattle.fm_bank.specs.Clauses.{Satisfies}
use Rattle.fm_bank.specs.declared.clause.Clause.{Clause}

pub satisfies_parts : (m : Reading) (cs ds : List Clause) → Satisfies m (cs ++ ds) → Satisfies m cs × Satisfies m ds
satisfies_parts m [] ds h = (tt, h)
satisfies_parts m (c ∷ cs) ds h = let rest = satisfies_parts m cs ds h.1 in ((h.0, rest.0), rest.1)

pub satisfies_both : (m : Reading) (cs ds : List Clause) → Satisfies m cs → Satisfies m ds → Satisfies m (cs ++ ds)
satisfies_both m [] ds h t = t
satisfies_both m (c ∷ cs) ds h t = (h.0, satisfies_both m cs ds h.1 t)

-- "or" as an implication
pub or_weaken : (s a b : Bool) → (a ≡ true → b ≡ true) → (s || a) ≡ true → (s || b) ≡ true
or_weaken true a b f h = refl
or_weaken false a b f h = f h

pub or_and : (s a b : Bool) → (s || a) ≡ true → (s || b) ≡ true → (s || (a && b)) ≡ true
or_and true a b h t = refl
or_and false true b h t = t
or_and false false b h t = h

pub and_true : (a : Bool) → a ≡ true → (a && true) ≡ true
and_true a h = ap (λ (b : Bool). b && true) h
