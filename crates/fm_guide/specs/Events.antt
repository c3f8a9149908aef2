-- Counts over the events of a search.
use Rattle.std.specs.Prelude.{ℕ, ◌+◌, List, [], ◌∷◌}
use Rattle.fm_guide.specs.declared.event.Event.{Event}

abbrev pub instances_in : Event → ℕ
instances_in (Event.Instance clause terms) = 1
instances_in e = 0

abbrev pub decisions_in : Event → ℕ
decisions_in (Event.Decide lit) = 1
decisions_in e = 0

-- how many instances were added, and how many literals were decided
abbrev pub count_instances : List Event → ℕ
count_instances [] = 0
count_instances (e ∷ es) = instances_in e + count_instances es

abbrev pub count_decisions : List Event → ℕ
count_decisions [] = 0
count_decisions (e ∷ es) = decisions_in e + count_decisions es
