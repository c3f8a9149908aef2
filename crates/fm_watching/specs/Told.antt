-- What watches have seen, once events were told to all of them; and once one event was told to some alone. What a watch has seen
-- is a list, where it is known.
use Rattle.std.specs.Prelude.{◌≡◌, ◌⊎◌, List, [], ◌∷◌, ◌++◌, map, Option}
use Rattle.std.specs.Option.{option_map}
use Rattle.fm_guide.specs.Watches.{with_event}
use Rattle.fm_guide.specs.declared.event.Event.{Event}

-- by each watch
abbrev pub Seen : Type 0
Seen = List (Option (List Event))

abbrev pub with_events : List Event → Option (List Event) → Option (List Event)
with_events es seen = option_map (λ xs. xs ++ es) seen

-- the events were told to all
abbrev pub AreTold : List Event → Seen → Seen → Type 0
AreTold es old new = new ≡ map (with_events es) old

abbrev pub IsTold : Event → Seen → Seen → Type 0
IsTold e old new = new ≡ map (with_event e) old

-- the event was told to some
abbrev pub MayBeTold : Event → Seen → Seen → Type 0
MayBeTold e [] [] = Unit {0}
MayBeTold e [] (t ∷ new) = ⊥
MayBeTold e (s ∷ old) [] = ⊥
MayBeTold e (s ∷ old) (t ∷ new) = ((t ≡ s) ⊎ (t ≡ with_event e s)) × MayBeTold e old new
