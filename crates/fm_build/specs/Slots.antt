-- Where the representative of a class stands, by class: the number of its sort, and its place among those of the sort.
use Rattle.std.specs.Prelude.{◌≡◌, ℕ, ◌<◌, ◌+◌, ◌==◌, cond, List, [], ◌∷◌, length, slice_index_or, Option, Some, None}
use Rattle.fm_base.specs.declared.ids.TermId.{TermId}
use Rattle.fm_build.specs.Elements.{place_in}
use Rattle.fm_build.specs.Marks.{AreBelow, class_at}

abbrev pub slot_at : List (Option (ℕ × ℕ)) → ℕ → Option (ℕ × ℕ)
slot_at slots k = slice_index_or slots k None

-- the first of two
abbrev pub or_slot : Option (ℕ × ℕ) → Option (ℕ × ℕ) → Option (ℕ × ℕ)
or_slot None other = other
or_slot (Some slot) other = Some slot

-- this one, if it is the class's
abbrev pub slot_of : ℕ → ℕ → (ℕ × ℕ) → Option (ℕ × ℕ)
slot_of class k slot = cond (class == k) (Some slot) None

-- the first of the class among representatives of a sort from some place on, and among those of the sorts from one on
abbrev pub slot_from : List ℕ → ℕ → ℕ → ℕ → List TermId → Option (ℕ × ℕ)
slot_from class k sort place [] = None
slot_from class k sort place (r ∷ reps) = or_slot (slot_of (class_at class r.0) k (sort, place)) (slot_from class k sort (place + 1) reps)

abbrev pub slots_from : List ℕ → ℕ → ℕ → List (List TermId) → Option (ℕ × ℕ)
slots_from class k sort [] = None
slots_from class k sort (reps ∷ others) = or_slot (slot_from class k sort 0 reps) (slots_from class k (sort + 1) others)

-- the slot of each class names its first representative
pub record AreSlots (class : List ℕ) (reps : List (List TermId)) (slots : List (Option (ℕ × ℕ))) : Type 0 where
  pub below : AreBelow class (length class)
  pub each : (k : ℕ) → k < length class → slot_at slots k ≡ slots_from class k 0 reps

-- what the slot of a term's class says of representatives of a sort
abbrev pub IsPlacedBy : List ℕ → ℕ → Option (ℕ × ℕ) → ℕ → List TermId → Type 0
IsPlacedBy class n None sort reps = length reps ≡ place_in class n (Some reps)
IsPlacedBy class n (Some slot) sort reps = slot.0 ≡ sort → slot.1 ≡ place_in class n (Some reps)
