-- The atoms of clauses and of the trail stay known.
use Rattle.std.proofs.Common.{◌≡◌, ℕ, ◌<◌, true, List, [], ◌∷◌, length, inl, refl, arith}
use Rattle.fm_base.specs.declared.ids.Lit.{Lit}
use Rattle.fm_bank.specs.Interning.{lit_in, with_atoms}
use Rattle.fm_bank.specs.declared.literal.Literal.{Literal}
use Rattle.fm_steps.specs.Facts.{AtomsAreKnown, TrailIsExplained}
use Rattle.fm_steps.specs.Lemmas.{is_known}
use Rattle.fm_steps.specs.Rows.{UnitRow}
use Rattle.fm_steps.specs.State.{State, know, know_all, put, put_decision, with_literals}
use Rattle.fm_steps.proofs.Closing.{each_known}
use Rattle.fm_steps.proofs.Known.{adds, knows, row_known}
use Rattle.fm_steps.proofs.Numbers.{grows, known_number, number_within}
use Rattle.fm_steps.proofs.Trails.{over_push}
use Rattle.fm_steps.specs.Rows.{Offer}
use Rattle.fm_trail.specs.Trail.{decision, implied}

pub lemma_known : (s : State) (ls : List Literal) → AtomsAreKnown s → AtomsAreKnown (with_literals ls s)
lemma_known s ls h = record { trail = (knows s ls h).0; clauses = adds s.held.atoms s.clauses ls h.clauses }

pub all_known : (s : State) (ls : List Literal) → AtomsAreKnown s → AtomsAreKnown (know_all ls s)
all_known s ls h = record { trail = (knows s ls h).0; clauses = (knows s ls h).1 }

pub put_known : (s : State) (l : Lit) (n : ℕ) → l.atom.0 < length s.held.atoms → AtomsAreKnown s → AtomsAreKnown (put l n s)
put_known s l n lt h = record { trail = over_push (length s.held.atoms) s.trail.entries (implied s.trail.entries l n) h.trail lt; clauses = h.clauses }

pub decision_known : (s : State) (l : Lit) → l.atom.0 < length s.held.atoms → AtomsAreKnown s → AtomsAreKnown (put_decision l s)
decision_known s l lt h = record { trail = over_push (length s.held.atoms) s.trail.entries (decision s.trail.entries l) h.trail lt; clauses = h.clauses }

pub implied_known : (s : State) (ls : List Literal) (l : Literal) (n : ℕ) → AtomsAreKnown s → is_known s l.atom ≡ true → AtomsAreKnown (put (lit_in s.held.atoms l) n (with_literals ls s))
implied_known s ls l n h k =
    put_known (with_literals ls s) (lit_in s.held.atoms l) n (let a = known_number s.held.atoms l.atom k in let b = grows ls s.held.atoms in omega (arith, a, b)) (lemma_known s ls h)

pub decided_known : (s : State) (l : Literal) → AtomsAreKnown s → AtomsAreKnown (put_decision (lit_in (know l.atom s).held.atoms l) (know l.atom s))
decided_known s l h = decision_known (know_all (l ∷ []) s) (lit_in (with_atoms s.held.atoms (l ∷ [])) l) (number_within (l ∷ []) s.held.atoms l (inl refl)) (all_known s (l ∷ []) h)

pub unit_known : (s t : State) (n : ℕ) → AtomsAreKnown s → TrailIsExplained s → UnitRow s n t → AtomsAreKnown t
unit_known s t n h explained row =
    row_known (record { sig = s.held.sig; user = 0; clauses = [] }) (record { instances = 0; decisions = 0 }) s (each_known s).0 (Offer.Unit' n) t h explained row
