-- What the literals read decide of an atom, first whether it is true.
use Rattle.std.specs.Prelude.{◌≡◌, Bool, true, false, if◌then◌else◌, Option, Some, None}
use Rattle.fm_bank.specs.Tests.{Tests}
use Rattle.fm_bank.specs.declared.atom.Atom.{Atom}
use Rattle.fm_cong.specs.Held.{Held as Graph}
use Rattle.fm_cong.specs.Tests.{AreTestsOf}
use Rattle.fm_steps.specs.Content.{decides}

abbrev pub decided : Tests → Atom → Option Bool
decided t a = if decides t a true then Some true else (if decides t a false then Some false else None)

-- by all tests of a graph
abbrev pub IsDecided : Graph → Atom → Option Bool → Type 0
IsDecided g a value = (t : Tests) → AreTestsOf g t → value ≡ decided t a
