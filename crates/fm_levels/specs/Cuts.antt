-- Levels as the code keeps them: the entries of the first level, and those of all others in one list, cut at marks.
use Rattle.std.specs.Prelude.{◌≡◌, ℕ, ◌-◌, ◌≤◌, List, [], ◌∷◌, length, take, drop}

-- from `start` on cut into levels: each mark says how many entries stood before its level was opened
abbrev pub cut_from : {A : Type 0} → List A → ℕ → List ℕ → List (List A)
cut_from es start [] = drop start es ∷ []
cut_from es start (m ∷ ms) = take (m - start) (drop start es) ∷ cut_from es m ms

abbrev pub opened : {A : Type 0} → List A → List ℕ → List (List A)
opened es [] = []
opened es (m ∷ ms) = cut_from es m ms

abbrev pub levels_in : {A : Type 0} → List A → List A → List ℕ → List (List A)
levels_in first upper marks = first ∷ opened upper marks

-- the marks ascend, and no mark is past the end
abbrev pub Ascend : ℕ → List ℕ → ℕ → Type 0
Ascend start [] end = start ≤ end
Ascend start (m ∷ ms) end = (start ≤ m) × Ascend m ms end

-- nothing stands before the first mark
abbrev pub AreCut : {A : Type 0} → List A → List ℕ → Type 0
AreCut es [] = es ≡ []
AreCut es (m ∷ ms) = (m ≡ 0) × Ascend m ms (length es)

-- the last mark, where there is one
abbrev pub last_of : List ℕ → ℕ
last_of [] = 0
last_of (m ∷ []) = m
last_of (m ∷ n ∷ ms) = last_of (n ∷ ms)
