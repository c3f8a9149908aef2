-- A state of rounds moves on as the rounds of a content do.
use Rattle.std.proofs.Common.{◌≡◌, ℕ, zero, suc, ◌<◌, Bool, false, ◌||◌, List, [], ◌∷◌, ◌++◌, length, sym, subst, ap, ◌∙◌, arith, ◌-◌}
use Rattle.std.specs.List.{filter, flat_map, range_with_len}
use Rattle.std.proofs.lemmas.List.{append-nil, length-append}
use Rattle.fm_bank.specs.Subterms.{is_found as has}
use Rattle.fm_rounds.specs.Rounds.{Content, grown, is_new, reached_by, round}
use Rattle.fm_build.specs.Marks.{AreBelow, MarksMore, is_marked, new_by}
use Rattle.fm_build.specs.Reached.{AreInstancesBelow, BeginsFrom, Classifies, HasChosen, IsKept, IsRoundBy, MovesOn, pairs_of, reached_in}
use Rattle.fm_build.specs.declared.instance.Instance.{Instance}
use Rattle.fm_build.specs.declared.rounds.Reached.{Reached}
use Rattle.fm_build.proofs.Linking.{new_is}
use Rattle.fm_build.proofs.Marked.{all_reached, below_has, has_more}
use Rattle.fm_build.proofs.Stopping.{stopped}

grown_by : (c : Content) (class : List ℕ) (s new : Reached) (reps over : List ℕ) → Classifies class c → s.reps.items ≡ reps → AreBelow reps (length class) → ((n : ℕ) → n < length class → is_marked s.marks.items n ≡ has over n) → HasChosen class s new → IsRoundBy class (grown c reps over) new
grown_by c class s new reps over k e below marked h =
    let count : length class ≡ length c.terms = k.count in
    let low : (n : ℕ) → n < length c.terms → n < length class = λ n lt. omega (arith, lt, count) in
    let high : (n : ℕ) → n < length class → n < length c.terms = λ n lt. omega (arith, lt, count) in
    let fresh : filter (is_new c reps over) (range_with_len 0 (length c.terms)) ≡ new_by class s.marks.items reps (length c.terms) = new_is c class s.marks.items reps over k.same (λ n lt. marked n (low n lt)) (λ n i. high n (below_has reps (length class) n below i)) in
    record {
      marks = λ n lt. ap (λ m. is_marked m n) h.marks ∙ marked n lt;
      reps = h.reps ∙ ap (λ r. r ++ new_by class s.marks.items r (length class)) e ∙ ap (λ n. reps ++ new_by class s.marks.items reps n) count ∙ ap (λ l. reps ++ l) (sym fresh);
    }

pub begins : (class start : List ℕ) (none : List Bool) (s new : Reached) → s.reps.items ≡ [] → ((n : ℕ) → is_marked none n ≡ false) → length none ≡ length class → MarksMore none start s.marks.items → HasChosen class s new → BeginsFrom class start new
unfolding round
begins class start none s new e empty room more h = λ c k same.
    grown_by c class s new [] c.start k e tt (λ n lt. more.marks n (omega (arith, lt, room)) ∙ ap (λ b. b || has start n) (empty n) ∙ ap (λ l. has l n) (sym same)) h

pub moves_on : (class : List ℕ) (added : List Instance) (old s new : Reached) → IsKept class old → AreInstancesBelow (length class) added → MarksMore old.marks.items (flat_map (reached_in old.chosen.items) (pairs_of added)) s.marks.items → s.reps.items ≡ old.reps.items → HasChosen class s new → MovesOn class (pairs_of added) old new
unfolding round
moves_on class added old s new kept below more same h = λ c i k e now.
    let r = round c i in
    let flat : flat_map (reached_in old.chosen.items) (pairs_of added) ≡ flat_map (reached_by r.reps) c.added = all_reached old.chosen.items (length class) old.reps.items added kept.chosen below ∙ ap (λ l. flat_map (reached_by l) (pairs_of added)) now.reps ∙ ap (flat_map (reached_by r.reps)) (sym e) in
    grown_by c class s new r.reps (r.terms ++ flat_map (reached_by r.reps) c.added) k (same ∙ now.reps) (subst (λ l. AreBelow l (length class)) now.reps kept.below)
    (λ n lt. more.marks n (omega (arith, lt, kept.marks)) ∙ ap (λ b. b || has (flat_map (reached_in old.chosen.items) (pairs_of added)) n) (now.marks n lt) ∙ ap (λ l. has r.terms n || has l n) flat ∙ sym (has_more r.terms (flat_map (reached_by r.reps) c.added) n)) h

nothing_more : (xs ys : List ℕ) → length (xs ++ ys) ≡ length xs → xs ++ ys ≡ xs
nothing_more xs [] e = append-nil xs
nothing_more xs (y ∷ ys) e = absurd (omega (arith, e, length-append xs (y ∷ ys)))

no_more : (c : Content) (i : ℕ) → length (round c (suc i)).reps ≡ length (round c i).reps → (round c (suc i)).reps ≡ (round c i).reps
unfolding round
no_more c i e = nothing_more (round c i).reps (filter (is_new c (round c i).reps ((round c i).terms ++ flat_map (reached_by (round c i).reps) c.added)) (range_with_len 0 (length c.terms))) e

-- a round without a new representative is the last
pub early : (c : Content) (class : List ℕ) (old new : Reached) (i k : ℕ) → i < k → IsRoundBy class (round c i) old → IsRoundBy class (round c (suc i)) new → length new.reps.items ≡ length old.reps.items → IsRoundBy class (round c k) new
early c class old new i zero lt a b e = absurd (omega (arith, lt))
early c class old new i (suc k) lt a b e =
    let same : (round c (suc i)).reps ≡ (round c i).reps = no_more c i (sym (ap length b.reps) ∙ e ∙ ap length a.reps) in
    let s = stopped c i (k - i) k same (omega (arith, lt)) in
    record {
      marks = λ n less. b.marks n less ∙ sym (s.2 n);
      reps = b.reps ∙ same ∙ sym s.1 ∙ sym s.0;
    }
