-- What a false clause is good for, and how the search goes on after learning.
use Rattle.std.proofs.Common.{◌≡◌, ℕ, true, List, [], ◌∷◌, ◌++◌, length, Some, inl, inr, refl, sym, subst, ◌∙◌, arith}
use Rattle.std.specs.Prelude.{slice_get}
use Rattle.fm_base.specs.declared.ids.Lit.{Lit}
use Rattle.fm_base.specs.Resolution.{SameSet}
use Rattle.fm_trail.specs.declared.entry.Entry.{Entry}
use Rattle.fm_trail.specs.Trail.{are_false}
use Rattle.fm_trail.proofs.Going.{level_on_most}
use Rattle.fm_sat.specs.Laws.{GoesOn, TellsWhich}
use Rattle.fm_sat.specs.Learning.{IsAsserting, IsExplained, IsHighest, IsTopLevel}
use Rattle.fm_sat.proofs.Explaining.{explains_add, explains_back, explains_imply, open_learnt, reason_learnt}

pub asserting_goes_on : (cs : List (List Lit)) (es : List Entry) (n : ℕ) (start c : List Lit) (l : Lit) (level : ℕ) → IsExplained cs es → slice_get cs n ≡ Some start → SameSet start c → IsAsserting es c l level → GoesOn cs es n l level
asserting_goes_on cs es n start c l level t stored same a = record {
  opened = omega (arith, a.lower, level_on_most 0 es l t.levels);
  free = open_learnt es l level t.levels t.once a.lower;
  explained = explains_imply cs _ n l (explains_back cs es level t.levels t.explained) (reason_learnt cs es n start c l level t.levels t.once stored same a);
}

get_last : {X : Type 0} (xs : List X) (x : X) → slice_get (xs ++ x ∷ []) (length xs) ≡ Some x
get_last [] x = refl
get_last (y ∷ xs) x = get_last xs x

pub learning_goes_on' : (cs : List (List Lit)) (es : List Entry) (c : List Lit) (l : Lit) (level : ℕ) → IsExplained cs es → IsAsserting es c l level → GoesOn (cs ++ c ∷ []) es (length cs) l level
learning_goes_on' cs es c l level t a = asserting_goes_on (cs ++ c ∷ []) es (length cs) c c l level (record { levels = t.levels; once = t.once; explained = explains_add cs c es t.explained }) (get_last cs c) (λ k. (λ h. h, λ h. h)) a

pub false_use : (cs : List (List Lit)) (es : List Entry) (n level : ℕ) (c : List Lit) → slice_get cs n ≡ Some c → are_false es c ≡ true → IsTopLevel cs es n level → TellsWhich cs es n level
false_use cs es n level c stored falses top =
    let same : top.0 ≡ c = (let s : Some top.0 ≡ Some c = sym top.1 ∙ stored in cc) in
    let h = subst (λ (x : List Lit). IsHighest es x level) same top.2 in
    record {
      refuted = λ zero'. record { clause = c; stored = stored; falsified = falses; zero_level = λ k has. omega (arith, h.bound k has) };
      conflict = λ some. record { clause = c; stored = stored; falsified = falses; above = elim h.met [ inl zero' ↦ absurd (omega arith) | inr w ↦ (w.0, w.1, omega (arith, w.2)) ] };
    }
