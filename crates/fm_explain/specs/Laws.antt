-- That the bank knows an e-graph is kept by each step of a search.
use Rattle.std.specs.Prelude.{◌≡◌, ℕ, ◌<◌, ◌++◌, ◌∷◌, [], Bool, length, slice_get, take, Some}
use Rattle.fm_base.specs.declared.ids.AtomId.{AtomId}
use Rattle.fm_bank.specs.Interning.{Held as Bank, IsFront}
use Rattle.fm_cong.specs.Held.{Held, ReadsLiteral, Registers, all_entered, nothing}
use Rattle.fm_explain.specs.Explanations.{IsKnownBy}

-- a graph without terms
abbrev pub NothingIsKnown : Type 0
NothingIsKnown = (bank : Bank) → IsKnownBy nothing bank

-- a term of the bank is registered
abbrev pub RegisteringKeeps : Type 0
RegisteringKeeps = (g h : Held) (bank : Bank) (n : ℕ) → IsKnownBy g bank → Registers g h bank.terms n → IsKnownBy h bank

-- a literal on an atom of the bank is read
abbrev pub ReadingKeeps : Type 0
ReadingKeeps = (g h : Held) (bank : Bank) (atom : AtomId) (positive : Bool) → IsKnownBy g bank → atom.0 < length bank.atoms → ReadsLiteral g h bank.atoms atom positive → IsKnownBy h bank

-- late terms are entered
abbrev pub SettlingKeeps : Type 0
SettlingKeeps = (g h : Held) (bank : Bank) → IsKnownBy g bank → h ≡ all_entered g h.links → IsKnownBy h bank

-- the bank gets more terms and atoms
abbrev pub GrowingKeeps : Type 0
GrowingKeeps = (g : Held) (old new : Bank) → IsKnownBy g old → IsFront old.terms new.terms → IsFront old.atoms new.atoms → IsKnownBy g new

-- a level is opened, or closed
abbrev pub OpeningKeeps : Type 0
OpeningKeeps = (g h : Held) (bank : Bank) → IsKnownBy g bank → h.shapes ≡ g.shapes → h.facts ≡ g.facts → h.levels ≡ g.levels ++ g.facts ∷ [] → IsKnownBy h bank

abbrev pub GoingBackKeeps : Type 0
GoingBackKeeps = (g h : Held) (bank : Bank) (level : ℕ) → IsKnownBy g bank → h.shapes ≡ g.shapes → slice_get g.levels level ≡ Some h.facts → h.levels ≡ take level g.levels → IsKnownBy h bank
