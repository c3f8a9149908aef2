-- Resolution speaks of sets: lists that are one set give one another's results.
use Rattle.std.proofs.Common.{◌≡◌, ℕ, zero, suc, inl, inr, true, false, ◌||◌, List, [], ◌∷◌, Some, refl, sym, subst, ◌∙◌, arith}
use Rattle.std.specs.Prelude.{slice_get}
use Rattle.std.specs.List.{AllByRecursion}
use Rattle.std.proofs.lemmas.Bool.{or_cases, or_right, false≢true}
use Rattle.fm_base.specs.declared.ids.Lit.{Lit}
use Rattle.fm_resolve.specs.declared.marks.Marks.{Marks}
use Rattle.fm_resolve.specs.Chains.{Has, SameSet}
use Rattle.fm_resolve.specs.Marks.{Covers, HasMark, IsClean, SameMarks, is_in, is_member, is_never, is_on, mark_of, members}
use Rattle.fm_resolve.specs.declared.marks.Mark.{Mark}
use Rattle.fm_resolve.proofs.MarkLaws.{has_member, in_members, marks_kept, member_has, members_in}

pub set_refl : (a : List Lit) → SameSet a a
set_refl a = λ l. ((λ h. h), (λ h. h))

pub set_sym : (a b : List Lit) → SameSet a b → SameSet b a
set_sym a b s = λ l. ((s l).1, (s l).0)

pub set_trans : (a b c : List Lit) → SameSet a b → SameSet b c → SameSet a c
set_trans a b c s t = λ l. ((λ h. (t l).0 ((s l).0 h)), (λ h. (s l).1 ((t l).1 h)))

-- the beginning and the end
never_off : (m : Mark) → is_never m ≡ true → is_on m ≡ false
never_off Mark.Never e = refl
never_off Mark.On e = sym e
never_off Mark.Off e = refl

pub clean_covers : (m : Marks) → IsClean m → Covers m
clean_covers m c l e = absurd (false≢true (sym e ∙ c l))

pub started : (old new : Marks) (start : List Lit) → IsClean old → Covers new → ((k : Lit) → is_in new k ≡ (is_in old k || is_member start k)) → SameSet (members new) start
started old new start clean covers now = λ k. (
  (λ (h : Has (members new) k).
      elim (or_cases (is_in old k) (is_member start k) (sym (now k) ∙ members_in new k h)) [
        | inl t ↦ absurd (false≢true (sym (never_off (mark_of old k) (clean k)) ∙ t))
        | inr t ↦ member_has start k t
      ]),
  (λ (h : Has start k). in_members new k covers (now k ∙ or_right (is_in old k) (is_member start k) (has_member start k h))),
)

pub clauses_kept : (old new : Marks) (cs : List (List Lit)) → SameMarks old new → AllByRecursion (AllByRecursion (HasMark old)) cs → AllByRecursion (AllByRecursion (HasMark new)) cs
clauses_kept old new [] same h = tt
clauses_kept old new (c ∷ cs) same h = (marks_kept old new c same h.0, clauses_kept old new cs same h.1)

pub pivots_kept : (old new : Marks) (steps : List (Lit × ℕ)) → SameMarks old new → AllByRecursion (λ (step : Lit × ℕ). HasMark old step.0) steps → AllByRecursion (λ (step : Lit × ℕ). HasMark new step.0) steps
pivots_kept old new [] same h = tt
pivots_kept old new (s ∷ ss) same h = ((omega (arith, same.positive, h.0.0), omega (arith, same.negative, h.0.1)), pivots_kept old new ss same h.1)

pub clause_marks : (m : Marks) (cs : List (List Lit)) (i : ℕ) (c : List Lit) → AllByRecursion (AllByRecursion (HasMark m)) cs → slice_get cs i ≡ Some c → AllByRecursion (HasMark m) c
clause_marks m [] i c h e = cc
clause_marks m (x ∷ cs) zero c h e = let same : x ≡ c = cc e in subst (AllByRecursion (HasMark m)) same h.0
clause_marks m (x ∷ cs) (suc i) c h e = clause_marks m cs i c h.1 e
