-- What a watch has seen, and what a watch that expects events still waits for.
use Rattle.std.specs.Prelude.{◌≡◌, ◌≢◌, ◌⊎◌, ◌↔◌, List, [], ◌∷◌, ◌++◌, Option, Some, None}
use Rattle.std.specs.Option.{option_map}
use Rattle.fm_guide.specs.declared.event.Event.{Event}

-- the events seen, where they are told, once there is one more
abbrev pub with_event : Event → Option (List Event) → Option (List Event)
with_event e seen = option_map (λ es. es ++ e ∷ []) seen

-- What is still waited for, or None once an event was another than was waited for: this is what one event makes of it.
-- Where nothing more is waited for, any event will do.
abbrev pub IsAfter : Event → Option (List Event) → Option (List Event) → Type 0
IsAfter e None new = new ≡ None
IsAfter e (Some []) new = new ≡ Some []
IsAfter e (Some (f ∷ fs)) new = ((f ≡ e) × (new ≡ Some fs)) ⊎ ((f ≢ e) × (new ≡ None))

-- and this is what events in order make of it
abbrev pub AreAfter : List Event → Option (List Event) → Option (List Event) → Type 0
AreAfter [] old new = new ≡ old
AreAfter (e ∷ es) old new = (mid : Option (List Event)) × IsAfter e old mid × AreAfter es mid new

-- the first list, with something behind it, is the second
abbrev pub IsFront : List Event → List Event → Type 0
IsFront first es = (rest : List Event) × (es ≡ first ++ rest)

-- nothing is waited for any more exactly where the events begin with those expected
abbrev pub ExpectedIsAFront : Type 0
ExpectedIsAFront = (first es : List Event) (left : Option (List Event)) → AreAfter es (Some first) left → (left ≡ Some []) ↔ IsFront first es
