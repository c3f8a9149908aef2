-- The value of a term stays while terms are added, and what is said of terms that are there says the same afterwards.
use Rattle.std.proofs.Common.{◌≡◌, ℕ, zero, suc, ◌+◌, ◌<◌, inl, inr, Bool, true, false, not, ◌||◌, cond, List, [], ◌∷◌, ◌++◌, length, map, Option, Some, None, refl, sym, subst, ap, ◌∙◌, arith}
use Rattle.std.specs.Prelude.{◌==◌, nat_le, slice_get, slice_index}
use Rattle.std.proofs.lemmas.Bool.{and_parts, cases_Bool, false≢true}
use Rattle.std.proofs.lemmas.List.{length-append}
use Rattle.fm_base.specs.Interpretations.{Reading}
use Rattle.fm_base.specs.declared.ids.SortId.{SortId}
use Rattle.fm_base.specs.declared.signature.Sig.{Sig}
use Rattle.fm_base.specs.declared.signature.Ty.{Ty}
use Rattle.fm_base.specs.declared.formula.Patom.{Patom}
use Rattle.fm_base.specs.declared.formula.Pterm.{Pterm}
use Rattle.fm_base.specs.declared.formula.Pterm.TheOpen.{Pterm-F}
use Rattle.fm_base.specs.declared.formula.Pterm.TheViews.{roll-Pterm}
use Rattle.fm_base.specs.declared.formula.Pterm.TheFolds.{fold-roll-Pterm, ind-Pterm}
use Rattle.fm_bank.specs.Ground.{atom_true, clause_true, lit_true}
use Rattle.fm_bank.specs.Instances.{Numbered, all_numbers, equality, equality_of, find_applied, ground_atom, ground_literals, literal_before, number_of, number_step, numbers_of, predicate_of, types_of}
use Rattle.fm_bank.specs.Interning.{IsFront}
use Rattle.fm_bank.specs.Terms.{Term, are_of_types, is_type, type_of, value_of, value_under, values_after}
use Rattle.fm_bank.specs.declared.atom.Atom.{Atom}
use Rattle.fm_bank.specs.declared.clause.Plit.{Plit}
use Rattle.fm_bank.specs.declared.literal.Literal.{Literal}
use Rattle.fm_bank.proofs.InstanceTruth.{find_gives}
use Rattle.fm_bank.proofs.Meanings.{index-front, typed_within, values_front}
use Rattle.fm_cert.specs.Lines.{Clause}

values_joined : (m : Reading) (vals : List ℕ) (ts us : List Term) → values_after m vals (ts ++ us) ≡ values_after m (values_after m vals ts) us
values_joined m vals [] us = refl
values_joined m vals (t ∷ ts) us = values_joined m (vals ++ value_under m vals t ∷ []) ts us

values_long : (m : Reading) (vals : List ℕ) (ts : List Term) → length (values_after m vals ts) ≡ length vals + length ts
values_long m vals [] = omega arith
values_long m vals (t ∷ ts) =
    let e = values_long m (vals ++ value_under m vals t ∷ []) ts in
    let l = length-append vals (value_under m vals t ∷ []) in
    omega (arith, e, l)

pub value_kept : (m : Reading) (terms more : List Term) (n : ℕ) → IsFront terms more → n < length terms → value_of m more n ≡ value_of m terms n
value_kept m terms more n f lt =
    let vals = values_after m [] terms in
    let long : length vals ≡ length terms = values_long m [] terms ∙ omega arith in
    let joined : values_after m [] more ≡ values_after m vals f.0 = ap (values_after m []) (sym f.1) ∙ values_joined m [] terms f.0 in
    ap (λ (vs : List ℕ). slice_index vs n) joined ∙ index-front vals (values_after m vals f.0) n (values_front m vals f.0) (omega (arith, long))

-- the terms of an atom are there
abbrev pub IsBelow : ℕ → Atom → Type 0
IsBelow k (Atom.Equal a b) = (a.0 < k) × (b.0 < k)
IsBelow k (Atom.Pred t) = t.0 < k
IsBelow k (Atom.Card s n) = Unit {0}
IsBelow k (Atom.Bound n) = Unit {0}

abbrev pub AreBelow : ℕ → Clause → Type 0
AreBelow k [] = Unit {0}
AreBelow k (l ∷ ls) = IsBelow k l.atom × AreBelow k ls

atom_kept : (sig : Sig) (m : Reading) (terms more : List Term) (a : Atom) → IsFront terms more → IsBelow (length terms) a → atom_true sig m (value_of m more) a ≡ atom_true sig m (value_of m terms) a
atom_kept sig m terms more (Atom.Equal a b) f below = λ i. value_kept m terms more a.0 f below.0 i == value_kept m terms more b.0 f below.1 i
atom_kept sig m terms more (Atom.Pred t) f below = λ i. value_kept m terms more t.0 f below i == 1
atom_kept sig m terms more (Atom.Card s n) f below = refl
atom_kept sig m terms more (Atom.Bound n) f below = refl

literal_kept : (sig : Sig) (m : Reading) (terms more : List Term) (positive : Bool) (a : Atom) → IsFront terms more → IsBelow (length terms) a → lit_true sig m (value_of m more) positive a ≡ lit_true sig m (value_of m terms) positive a
literal_kept sig m terms more true a f below = atom_kept sig m terms more a f below
literal_kept sig m terms more false a f below = ap not (atom_kept sig m terms more a f below)

pub clause_kept : (sig : Sig) (m : Reading) (terms more : List Term) (c : Clause) → IsFront terms more → AreBelow (length terms) c → clause_true sig m (value_of m more) c ≡ clause_true sig m (value_of m terms) c
clause_kept sig m terms more [] f below = refl
clause_kept sig m terms more (l ∷ ls) f below = λ i. literal_kept sig m terms more l.positive l.atom f below.0 i || clause_kept sig m terms more ls f below.1 i

pub equality_below : (k a b : ℕ) → a < k → b < k → IsBelow k (equality a b)
equality_below k a b la lb =
    elim (cases_Bool (nat_le a b)) [
      | inl t ↦ subst (λ (c : Bool). IsBelow k (cond c (Atom.Equal (record { 0 = a }) (record { 0 = b })) (Atom.Equal (record { 0 = b }) (record { 0 = a })))) (sym t) (la, lb)
      | inr t ↦ subst (λ (c : Bool). IsBelow k (cond c (Atom.Equal (record { 0 = a }) (record { 0 = b })) (Atom.Equal (record { 0 = b }) (record { 0 = a })))) (sym t) (lb, la)
    ]

-- the number of a term of an instance is that of a term that is there
within_terms : {X : Type 0} (xs : List X) (n : ℕ) (x : X) → slice_get xs n ≡ Some x → n < length xs
within_terms [] n x e = cc
within_terms (y ∷ ys) zero x e = omega arith
within_terms (y ∷ ys) (suc n) x e = let h : n < length ys = within_terms ys n x e in omega arith

found_below : (terms : List Term) (f : ℕ) (o : Option (List ℕ)) (n : ℕ) → find_applied terms f o ≡ Some n → n < length terms
found_below terms f None n e = cc
found_below terms f (Some ns) n e = within_terms terms n (record { symbol = f; args = ns }) (find_gives terms (record { symbol = f; args = ns }) n e)

variable_below : (sig : Sig) (terms : List Term) (env : List ℕ) (vars : List SortId) (v n : ℕ) → are_of_types sig terms env (types_of vars) ≡ true → slice_get env v ≡ Some n → n < length terms
variable_below sig terms [] vars v n e is = cc
variable_below sig terms (x ∷ env) [] v n e is = absurd (false≢true e)
variable_below sig terms (x ∷ env) (s ∷ vars) zero n e is =
    let p = and_parts (is_type (type_of sig terms x) (Ty.Of s)) (are_of_types sig terms env (types_of vars)) e in
    let same : x ≡ n = cc is in
    subst (λ (k : ℕ). k < length terms) same (typed_within sig terms x (Ty.Of s) p.0)
variable_below sig terms (x ∷ env) (s ∷ vars) (suc v) n e is =
    let p = and_parts (is_type (type_of sig terms x) (Ty.Of s)) (are_of_types sig terms env (types_of vars)) e in
    variable_below sig terms env vars v n p.1 is

module _ (sig : Sig) (terms : List Term) (env : List ℕ) (vars : List SortId) (typed : are_of_types sig terms env (types_of vars) ≡ true) where
  abbrev Below : Pterm → Type 0
  Below t = (n : ℕ) → number_of t terms env ≡ Some n → n < length terms

  abbrev Belows : Type 0
  Belows = (t : Pterm) × Below t

  below_layer : (x : Pterm-F Pterm) → Below (roll-Pterm x)
  below_layer (Pterm-F.Var v) n e = variable_below sig terms env vars v n typed (sym (ap (λ (k : Numbered). k terms env) (fold-roll-Pterm Numbered number_step (Pterm-F.Var v))) ∙ e)
  below_layer (Pterm-F.App f ts) n e = found_below terms f.0 (all_numbers (map number_of ts) terms env) n (sym (ap (λ (k : Numbered). k terms env) (fold-roll-Pterm Numbered number_step (Pterm-F.App f ts))) ∙ e)

  below : (t : Pterm) → Below t
  below = ind-Pterm Below (λ x y is. below_layer x)

  equality_there : (o r : Option ℕ) (a : Atom) → ((n : ℕ) → o ≡ Some n → n < length terms) → ((n : ℕ) → r ≡ Some n → n < length terms) → equality_of o r ≡ Some a → IsBelow (length terms) a
  equality_there None r a ho hr e = cc
  equality_there (Some x) None a ho hr e = cc
  equality_there (Some x) (Some y) a ho hr e =
      let same : equality x y ≡ a = cc e in
      subst (IsBelow (length terms)) same (equality_below (length terms) x y (ho x refl) (hr y refl))

  predicate_there : (o : Option ℕ) (a : Atom) → ((n : ℕ) → o ≡ Some n → n < length terms) → predicate_of o ≡ Some a → IsBelow (length terms) a
  predicate_there None a ho e = cc
  predicate_there (Some n) a ho e = let same : Atom.Pred (record { 0 = n }) ≡ a = cc e in subst (IsBelow (length terms)) same (ho n refl)

  atom_there : (p : Patom) (a : Atom) → ground_atom terms env p ≡ Some a → IsBelow (length terms) a
  atom_there (Patom.Pred f ts) a e = predicate_there (find_applied terms f.0 (numbers_of ts terms env)) a (λ n is. found_below terms f.0 (numbers_of ts terms env) n is) e
  atom_there (Patom.Equal x y) a e = equality_there (number_of x terms env) (number_of y terms env) a (below x) (below y) e

  with_parts : (positive : Bool) (o : Option Atom) (r : Option (List Literal)) (ls : List Literal) → literal_before positive o r ≡ Some ls → (a : Atom) × (rest : List Literal) × (o ≡ Some a) × (r ≡ Some rest) × (ls ≡ record { positive = positive; atom = a } ∷ rest)
  with_parts positive None r ls e = cc
  with_parts positive (Some a) None ls e = cc
  with_parts positive (Some a) (Some rest) ls e = (a, rest, refl, refl, sym (cc e))

  pub literals_below : (lits : List Plit) (ls : List Literal) → ground_literals terms env lits ≡ Some ls → AreBelow (length terms) ls
  literals_below [] ls e = let same : [] ≡ ls = cc e in subst (λ (k : List Literal). AreBelow (length terms) k) same tt
  literals_below (l ∷ lits) ls e =
      let p = with_parts l.positive (ground_atom terms env l.atom) (ground_literals terms env lits) ls e in
      subst (λ (k : List Literal). AreBelow (length terms) k) (sym p.4) (atom_there l.atom p.0 p.2, literals_below lits p.1 p.3)
