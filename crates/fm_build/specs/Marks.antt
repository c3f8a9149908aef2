-- Representatives by marks: a class for each term, and whether it is reached.
use Rattle.std.specs.Prelude.{◌≡◌, ℕ, ◌<◌, ◌==◌, Bool, false, ◌&&◌, ◌||◌, not, List, [], ◌∷◌, length, get_or}
use Rattle.std.specs.List.{filter, list_any, range_with_len}
use Rattle.fm_bank.specs.Subterms.{is_found as has}

abbrev pub class_at : List ℕ → ℕ → ℕ
class_at class n = get_or class n 0

abbrev pub has_class : List ℕ → List ℕ → ℕ → Bool
has_class class ns k = list_any (λ m. class_at class m == k) ns

abbrev pub is_marked : List Bool → ℕ → Bool
is_marked marks n = get_or marks n false

-- a reached term of the class
abbrev pub has_marked : List ℕ → List Bool → List ℕ → ℕ → Bool
has_marked class marks ns k = list_any (λ m. is_marked marks m && (class_at class m == k)) ns

abbrev pub is_new_by : List ℕ → List Bool → List ℕ → ℕ → Bool
is_new_by class marks reps n = is_marked marks n && (not (has_class class reps (class_at class n)) && not (has_marked class marks (range_with_len 0 n) (class_at class n)))

abbrev pub new_by : List ℕ → List Bool → List ℕ → ℕ → List ℕ
new_by class marks reps n = filter (is_new_by class marks reps) (range_with_len 0 n)

-- the classes that have a representative
abbrev pub AreTaken : List ℕ → List Bool → List ℕ → Type 0
AreTaken class taken reps = (k : ℕ) → k < length taken → get_or taken k false ≡ has_class class reps k

abbrev pub AreBelow : List ℕ → ℕ → Type 0
AreBelow [] n = Unit {0}
AreBelow (k ∷ ks) n = (k < n) × AreBelow ks n

-- these are marked too
pub record MarksMore (old : List Bool) (terms : List ℕ) (new : List Bool) : Type 0 where
  pub room : length new ≡ length old
  pub marks : (n : ℕ) → n < length old → is_marked new n ≡ (is_marked old n || has terms n)

-- the marked ones are these
pub record AreMarked (marks : List Bool) (count : ℕ) (over : List ℕ) : Type 0 where
  pub room : length marks ≡ count
  pub each : (n : ℕ) → n < count → is_marked marks n ≡ has over n
