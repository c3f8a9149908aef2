-- The assertion stack (SMT-LIB 2.6) for one kind of entry: a list of levels, each a list of entries in order. The first
-- level is never closed.
use Rattle.std.specs.Prelude.{ℕ, Bool, true, cond, List, [], ◌∷◌, ◌++◌, length, take}
use Rattle.fm_levels.specs.Tables.{has}

-- what stands in all levels, in order
abbrev pub joined : {A : Type 0} → List (List A) → List A
joined [] = []
joined (l ∷ ls) = l ++ joined ls

-- one more entry in the first level
abbrev pub in_first : {A : Type 0} → List (List A) → A → List (List A)
in_first [] x = []
in_first (l ∷ ls) x = (l ++ x ∷ []) ∷ ls

-- one more entry in the newest level
abbrev pub in_newest : {A : Type 0} → List (List A) → A → List (List A)
in_newest [] x = []
in_newest (l ∷ []) x = (l ++ x ∷ []) ∷ []
in_newest (l ∷ k ∷ ls) x = l ∷ in_newest (k ∷ ls) x

abbrev pub put : {A : Type 0} → Bool → List (List A) → A → List (List A)
put first ls x = cond first (in_first ls x) (in_newest ls x)

-- one more named entry, unless its name is there
abbrev pub put_new : {V : Type 0} → Bool → List (List (List ℕ × V)) → List ℕ × V → List (List (List ℕ × V))
put_new first ls e = cond (has e.0 (joined ls)) ls (put first ls e)

-- the first or the newest level cut back to so many entries
abbrev pub cut_newest : {A : Type 0} → List (List A) → ℕ → List (List A)
cut_newest [] n = []
cut_newest (l ∷ []) n = take n l ∷ []
cut_newest (l ∷ k ∷ ls) n = l ∷ cut_newest (k ∷ ls) n

abbrev pub cut_first : {A : Type 0} → List (List A) → ℕ → List (List A)
cut_first [] n = []
cut_first (l ∷ ls) n = take n l ∷ ls

abbrev pub cut_level : {A : Type 0} → Bool → List (List A) → ℕ → List (List A)
cut_level first ls n = cond first (cut_first ls n) (cut_newest ls n)

-- how many entries the first or the newest level has
abbrev pub count_newest : {A : Type 0} → List (List A) → ℕ
count_newest [] = 0
count_newest (l ∷ []) = length l
count_newest (l ∷ k ∷ ls) = count_newest (k ∷ ls)

abbrev pub count_first : {A : Type 0} → List (List A) → ℕ
count_first [] = 0
count_first (l ∷ ls) = length l

abbrev pub count_level : {A : Type 0} → Bool → List (List A) → ℕ
count_level first ls = cond first (count_first ls) (count_newest ls)

-- the first level, or the newest where it is the only one
abbrev pub stands_below : {A : Type 0} → Bool → List (List A) → Bool
stands_below first [] = true
stands_below first (l ∷ []) = true
stands_below first (l ∷ k ∷ ls) = first
