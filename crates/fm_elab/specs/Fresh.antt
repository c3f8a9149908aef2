-- Names that were given in a command are new.
use Rattle.std.specs.Prelude.{◌≡◌, ℕ, false, List, [], ◌∷◌, ◌++◌, Option}
use Rattle.fm_apply.specs.Applied.{Function, Named, function_by, is_own}
use Rattle.fm_elab.specs.Stacks.{is_named}

-- each name is new where the earlier ones are in force, and isn't the one that the command defines
abbrev pub AreFresh : Option (List ℕ) → List Function → List Named → Type 0
AreFresh own fs [] = Unit {0}
AreFresh own fs (n ∷ ns) = (is_own own n.name ≡ false) × (is_named n.name fs ≡ false) × AreFresh own (fs ++ function_by n ∷ []) ns

-- each function has a new name where the earlier ones are in force
abbrev pub AreNew : List Function → List Function → Type 0
AreNew fs [] = Unit {0}
AreNew fs (g ∷ gs) = (is_named g.name fs ≡ false) × AreNew (fs ++ g ∷ []) gs
