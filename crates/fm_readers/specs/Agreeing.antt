-- What a graph answers is what the machine's definitions say of the literals that were read.
use Rattle.std.specs.Prelude.{◌≡◌, ◌↔◌, ℕ, true, false, List, Option, Some, None}
use Rattle.fm_base.specs.declared.ids.SortId.{SortId}
use Rattle.fm_base.specs.declared.ids.TermId.{TermId}
use Rattle.fm_bank.specs.Interning.{Held}
use Rattle.fm_bank.specs.Terms.{numbers}
use Rattle.fm_bank.specs.Tests.{Tests}
use Rattle.fm_cong.specs.Clashes.{HasNoClash, IsClash}
use Rattle.fm_cong.specs.Held.{Held as Graph}
use Rattle.fm_cong.specs.Tests.{AreTestsOf}
use Rattle.fm_cong.specs.Types.{AreOldest}
use Rattle.fm_cong.specs.declared.clash.Clash.{Clash}
use Rattle.fm_region.specs.Picks.{IsPickOf}
use Rattle.fm_region.specs.declared.picking.Pick.{Pick as SortPick}
use Rattle.fm_steps.specs.Content.{AreTestsBy, classes_of, ground_literals_of, has_clash}
use Rattle.fm_steps.specs.Picks.{IsPickAt}
use Rattle.fm_steps.specs.State.{Pick}
use Rattle.fm_trail.specs.declared.entry.Entry.{Entry}
use Rattle.fm_readers.specs.Graphs.{HasRead, HasTerms, IsGraphOf}
use Rattle.fm_explain.specs.Explanations.{IsKnownBy}

-- the tests of a graph are those by the literals that it has read
abbrev pub TestsAgree : Type 0
TestsAgree = (held : Held) (es : List Entry) (g : Graph) (t : Tests) → IsGraphOf held es g → AreTestsOf g t ↔ AreTestsBy held (ground_literals_of held.atoms es) t

-- the oldest terms of its classes are those by the tests
abbrev pub ClassesAgree : Type 0
ClassesAgree =
    (held : Held) (es : List Entry) (g : Graph) (t : Tests) (sort : SortId) (list : List TermId) → IsGraphOf held es g → AreTestsOf g t → AreOldest g sort list
    → numbers list ≡ classes_of held t sort

-- a test of a sort by the numbers of its terms
abbrev pub pair_in : Option (TermId × TermId) → Option (ℕ × ℕ)
pair_in None = None
pair_in (Some p) = Some (p.0.0, p.1.0)

abbrev pub pick_in : Option SortPick → Option Pick
pick_in None = None
pick_in (Some p) = Some (record { terms = numbers p.terms.items; pair = pair_in p.pair })

-- it is one that the sort may have, by the tests
abbrev pub PicksAgree : Type 0
PicksAgree =
    (held : Held) (es : List Entry) (g : Graph) (t : Tests) (sort : SortId) (k : ℕ) (pick : Option SortPick) → IsGraphOf held es g → AreTestsOf g t → IsPickOf g sort k pick
    → IsPickAt t (classes_of held t sort) (Some k) (pick_in pick)

-- a graph has a clash exactly where the literals have
abbrev pub ClashesAgree : Type 0
ClashesAgree = (held : Held) (es : List Entry) (g : Graph) (t : Tests) → IsGraphOf held es g → AreTestsOf g t
    → ((c : Clash) → IsClash g c → has_clash (ground_literals_of held.atoms es) t ≡ true) × (HasNoClash g → has_clash (ground_literals_of held.atoms es) t ≡ false)

-- the bank knows what the graph has read
abbrev pub BanksKnow : Type 0
BanksKnow = (held : Held) (n : ℕ) (es : List Entry) (g : Graph) → HasTerms held n g → HasRead held.atoms es g → IsKnownBy g held
