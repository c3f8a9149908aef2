-- What each move of a search by beginnings keeps.
use Rattle.std.proofs.Common.{set, ◌≡◌, ℕ, zero, suc, ◌+◌, ◌-◌, ◌*◌, ◌<◌, ◌≤◌, Bool, true, false, not, List, [], ◌∷◌, ◌++◌, length, take, get_or, Option, Some, refl, sym, subst, ap, ◌∙◌, arith, inl, inr}
use Rattle.std.specs.List.{find}
use Rattle.std.proofs.lemmas.Bool.{cases_eq}
use Rattle.std.proofs.lemmas.List.{length-take-le, take_all, take_more_set, take-set-le}
use Rattle.std.proofs.Math.Nat.{mul-le-mul_right}
use Rattle.fm_base.specs.Interpretations.{Reading}
use Rattle.fm_bank.specs.Clauses.{lits_true}
use Rattle.fm_bank.specs.declared.clause.Plit.{Plit}
use Rattle.fm_inst.specs.Depths.{IsWithin, level_true}
use Rattle.fm_inst.specs.Prefixes.{AreSome, MovesOn, beyond, rest}
use Rattle.fm_inst.proofs.Beginnings.{enter, fewer, hit, skip}
use Rattle.fm_inst.proofs.Levels.{level_decides, levels_fail}

abbrev pub fails : Reading → List Plit → List ℕ → Bool
fails m lits xs = not (lits_true m xs lits)

abbrev pub Quiet : Reading → List Plit → ℕ → List ℕ → Type 0
Quiet m lits d env = (j : ℕ) → j < d → level_true m lits j (take j env) ≡ false

some_at : (ns : List ℕ) (i : ℕ) → AreSome ns → i < length ns → 1 ≤ get_or ns i 0
some_at [] i h lt = absurd (omega arith)
some_at (n ∷ ns) zero (one, h) lt = one
some_at (n ∷ ns) (suc i) (one, h) lt = some_at ns i h (omega arith)

take_twice : (j k : ℕ) (xs : List ℕ) → j ≤ k → take j (take k xs) ≡ take j xs
take_twice zero k xs le = refl
take_twice (suc j) zero xs le = absurd (omega arith)
take_twice (suc j) (suc k) [] le = refl
take_twice (suc j) (suc k) (x ∷ xs) le = ap (λ ys. x ∷ ys) (take_twice j k xs (omega arith))

take_shorter : (j k : ℕ) (xs ys : List ℕ) → j ≤ k → take k xs ≡ take k ys → take j xs ≡ take j ys
take_shorter j k xs ys le e = sym (take_twice j k xs le) ∙ ap (take j) e ∙ take_twice j k ys le

module _ (m : Reading) (lits : List Plit) (ns env : List ℕ) (d : ℕ) (within : d ≤ length ns) (room : length env ≡ length ns) where
  begin_len : length (take d env) ≡ d
  begin_len = length-take-le d env (omega (arith, within, room))

  pub passed : level_true m lits d (take d env) ≡ true → find (fails m lits) (rest ns (take d env)) ≡ find (fails m lits) (beyond ns (take d env))
  passed e = skip (fails m lits) ns (take d env) (λ ys. ap not (level_decides m lits d (take d env) ys begin_len e))

  pub moved_same : (next : ℕ) (new : List ℕ) (o : Option (List ℕ)) → level_true m lits d (take d env) ≡ true → MovesOn ns d env next new → find (fails m lits) (rest ns (take d env)) ≡ o → find (fails m lits) (rest ns (take next new)) ≡ o
  moved_same next new o e moves same = ap (find (fails m lits)) moves.left ∙ sym (passed e) ∙ same

  pub moved_quiet : (next : ℕ) (new : List ℕ) → MovesOn ns d env next new → Quiet m lits d env → Quiet m lits next new
  moved_quiet next new moves quiet j lt =
      ap (level_true m lits j) (take_shorter j (next - 1) new env (omega (arith, moves.some)) moves.same) ∙ quiet j (omega (arith, moves.within))

  pub moved_less : (next : ℕ) (new : List ℕ) → AreSome ns → MovesOn ns d env next new → length (rest ns (take next new)) * (length ns + 2) + (length ns - next) < length (rest ns (take d env)) * (length ns + 2) + (length ns - d)
  moved_less next new some moves =
      let less = fewer ns (take d env) some (omega (arith, begin_len, within)) in
      let same : length (rest ns (take next new)) ≡ length (beyond ns (take d env)) = ap length moves.left in
      let times = mul-le-mul_right {m = length (rest ns (take next new)) + 1} {n = length (rest ns (take d env))} (length ns + 2) (omega (arith, less, same)) in
      omega (arith, times)

  pub found : d ≡ length ns → IsWithin lits (length ns) → Quiet m lits d env → level_true m lits d (take d env) ≡ false → find (fails m lits) (rest ns (take d env)) ≡ Some env
  found end deep quiet e =
      let whole : take d env ≡ env = take_all d env (omega (arith, end, room)) in
      let false_there = levels_fail m lits env (subst (IsWithin lits) (sym room) deep) (λ j le. elim (cases_eq j d) [
        | inl same ↦ ap (λ i. level_true m lits i (take i env)) same ∙ e
        | inr other ↦ quiet j (omega (arith, end, room))
      ]) in
      ap (λ l. find (fails m lits) (rest ns l)) whole ∙ hit (fails m lits) ns env room (ap not false_there)

  module _ (lt : d < length ns) where
    begun : take (d + 1) (set env d 0) ≡ take d env ++ 0 ∷ []
    begun = take_more_set env d 0 (omega (arith, room))

    pub entered : AreSome ns → rest ns (take (d + 1) (set env d 0)) ≡ rest ns (take d env)
    entered some = ap (rest ns) begun ∙ enter ns (take d env) (omega (arith, begin_len)) (some_at ns (length (take d env)) some (omega (arith, begin_len)))

    pub entered_quiet : Quiet m lits d env → level_true m lits d (take d env) ≡ false → Quiet m lits (d + 1) (set env d 0)
    entered_quiet quiet e j less =
        ap (level_true m lits j) (take-set-le j env d 0 (omega arith)) ∙ elim (cases_eq j d) [
          | inl same ↦ ap (λ i. level_true m lits i (take i env)) same ∙ e
          | inr other ↦ quiet j (omega arith)
        ]

    pub entered_less : AreSome ns → length (rest ns (take (d + 1) (set env d 0))) * (length ns + 2) + (length ns - (d + 1)) < length (rest ns (take d env)) * (length ns + 2) + (length ns - d)
    entered_less some =
        subst (λ l. length l * (length ns + 2) + (length ns - (d + 1)) < length (rest ns (take d env)) * (length ns + 2) + (length ns - d)) (sym (entered some)) (omega arith)
