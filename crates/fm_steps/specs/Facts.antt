-- What holds in every state of a run.
use Rattle.std.specs.Prelude.{◌≡◌, ◌<◌, ◌≤◌, ℕ, true, false, Bool, List, length, slice_get, Option, Some, None}
use Rattle.std.specs.List.{flat_map}
use Rattle.fm_base.specs.Resolution.{AreDistinct, Has}
use Rattle.fm_base.specs.declared.ids.Lit.{Lit}
use Rattle.fm_bank.specs.declared.atom.Atom.{Atom}
use Rattle.fm_guide.specs.Events.{count_decisions, count_instances}
use Rattle.fm_guide.specs.declared.event.Event.{Event}
use Rattle.fm_sat.specs.Learning.{IsExplained}
use Rattle.fm_trail.specs.declared.entry.Entry.{Entry}
use Rattle.fm_trail.specs.Trail.{AreOver, AreWithin}
use Rattle.fm_steps.specs.Content.{is_size}
use Rattle.fm_steps.specs.Lemmas.{are_known}
use Rattle.fm_steps.specs.Picks.{pick_literals}
use Rattle.fm_steps.specs.Sizes.{is_refuted}
use Rattle.fm_steps.specs.State.{Clause, Problem, State}

-- each entry has its level, no atom stands twice on the trail, and the reason of each implied entry is in the clause list,
-- with all other literals false by earlier entries
abbrev pub TrailIsExplained : State → Type 0
TrailIsExplained s = IsExplained s.clauses s.trail.entries

-- no head passes the end
abbrev pub HeadsAreWithin : State → Type 0
HeadsAreWithin s = AreWithin s.trail.heads (length s.trail.entries)

-- no instance stands twice, and they are counted
abbrev pub InstancesAreCounted : State → Type 0
InstancesAreCounted s = AreDistinct s.added × (s.instances ≡ length s.added)

-- every atom of a clause is known, and every atom on the trail
abbrev pub AreClausesOver : ℕ → List Clause → Type 0
AreClausesOver n cs = (i : ℕ) (c : Clause) (l : Lit) → slice_get cs i ≡ Some c → Has c l → l.atom.0 < n

pub record AtomsAreKnown (s : State) : Type 0 where
  pub trail : AreOver (length s.held.atoms) s.trail.entries
  pub clauses : AreClausesOver (length s.held.atoms) s.clauses

-- the equalities of the present cliques are known
abbrev pub PicksAreKnown : State → Type 0
PicksAreKnown s = are_known s (flat_map pick_literals s.picks) ≡ true

-- with m sorts: every bound from m up to the present one is false at level 0, and in the free phase the present one too
pub record SmallerAreRefuted (m : ℕ) (s : State) : Type 0 where
  pub smaller : (j : ℕ) → m ≤ j → j < s.bound → is_refuted s (Atom.Bound j) ≡ true
  pub present : s.free ≡ true → is_refuted s (Atom.Bound s.bound) ≡ true

-- whether the atom of this number is a size atom
abbrev pub is_size_in : Option Atom → Bool
is_size_in None = false
is_size_in (Some a) = is_size a

abbrev pub size_at : List Atom → ℕ → Bool
size_at atoms n = is_size_in (slice_get atoms n)

-- a negative size literal, and a clause that has one where it has a size literal at all; the test tells size atoms by number
pub record HasGuard (is_size : ℕ → Bool) (c : Clause) : Type 0 where
  pub guard : Lit
  pub has : Has c guard
  pub size : is_size guard.atom.0 ≡ true
  pub negative : guard.positive ≡ false

abbrev pub IsGuarded : (ℕ → Bool) → Clause → Type 0
IsGuarded is_size c = (k : Lit) → Has c k → is_size k.atom.0 ≡ true → HasGuard is_size c

abbrev pub AreGuarded : (ℕ → Bool) → List Clause → Type 0
AreGuarded is_size cs = (i : ℕ) (c : Clause) → slice_get cs i ≡ Some c → IsGuarded is_size c

abbrev pub ClausesAreGuarded : State → Type 0
ClausesAreGuarded s = AreGuarded (size_at s.held.atoms) s.clauses

-- a positive size literal stands above level 0, and not in the free phase
abbrev pub AreAssumed : (ℕ → Bool) → List Entry → Bool → Type 0
AreAssumed is_size es free = (i : ℕ) (e : Entry) → slice_get es i ≡ Some e → is_size e.lit.atom.0 ≡ true → e.lit.positive ≡ true → (0 < e.level) × (free ≡ false)

abbrev pub SizesAreAssumed : State → Type 0
SizesAreAssumed s = AreAssumed (size_at s.held.atoms) s.trail.entries s.free

-- All that each event keeps whose row is met, offered or not.
pub record IsLawful (p : Problem) (s : State) : Type 0 where
  pub trail : TrailIsExplained s
  pub heads : HeadsAreWithin s
  pub instances : InstancesAreCounted s
  pub atoms : AtomsAreKnown s
  pub bounds : SmallerAreRefuted p.sig.sorts s
  pub guards : ClausesAreGuarded s

-- the spent counts are those of the events
pub record AreCounted (events : List Event) (s : State) : Type 0 where
  pub instances : s.instances ≡ count_instances events
  pub decisions : s.decisions ≡ count_decisions events
