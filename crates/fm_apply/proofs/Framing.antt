-- The names and the places of a frame inside another one.
use Rattle.std.proofs.Common.{◌≡◌, ◌++◌, List, [], ℕ}
use Rattle.std.specs.Borrow.{Bor}
use Rattle.fm_apply.specs.Scoped.{Numbered, names_in, names_step, places_in, places_step, zipped}
use Rattle.fm_apply.specs.declared.scope.Frame
use Rattle.fm_apply.specs.declared.scope.Frame.{Frame}
use Rattle.fm_apply.specs.declared.scope.Frame.TheOpen.{Frame-F}
use Rattle.fm_apply.specs.declared.scope.Frame.TheFolds.{fold-roll-Frame}

pub names_inside : (outer : Bor Frame) (names : List (List ℕ)) (is : List ℕ) (places : ℕ) → names_in (Frame.Inner outer names is places) ≡ names_in outer.now ++ zipped names is
unfolding Frame.roll-Frame denote.Hole.Carrier.roll
names_inside outer names is places = fold-roll-Frame Numbered names_step (Frame-F.Inner outer names is places)

pub places_inside : (outer : Bor Frame) (names : List (List ℕ)) (is : List ℕ) (places : ℕ) → places_in (Frame.Inner outer names is places) ≡ places
unfolding Frame.roll-Frame denote.Hole.Carrier.roll
places_inside outer names is places = fold-roll-Frame ℕ places_step (Frame-F.Inner outer names is places)

pub names_top : names_in Frame.Top ≡ []
unfolding Frame.roll-Frame denote.Hole.Carrier.roll
names_top = fold-roll-Frame Numbered names_step Frame-F.Top
