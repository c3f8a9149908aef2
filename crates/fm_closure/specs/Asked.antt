-- A closure that has been made, as a test of two objects: whether they follow equal.
use Rattle.std.specs.Prelude.{ℕ, Bool}
use Rattle.fm_closure.specs.Classes.{by_class}
use Rattle.fm_closure.specs.declared.closed.Closed.{Closed}

abbrev pub test_of : Closed → ℕ → ℕ → Bool
test_of made = by_class made.objects.keys made.classes
