-- A literal that joins no nodes.
use Rattle.std.proofs.Common.{◌≡◌, ℕ, List, [], ◌∷◌, ◌++◌, Option, None, refl, sym, subst, ap, ◌∙◌, append-nil}
use Rattle.std.specs.List.{All, cons_option}
use Rattle.fm_bank.specs.Closure.{Shape}
use Rattle.fm_cells.specs.Rings.{own_or}
use Rattle.fm_cong.specs.Facts.{joined_by, pairs_of}
use Rattle.fm_cong.specs.Graphs.{Cells}
use Rattle.fm_cong.specs.Levels.{IsAfter, IsSteady}
use Rattle.fm_cong.specs.Tables.{HasGrown}
use Rattle.fm_cong.specs.declared.fact.Fact.{Fact}
use Rattle.fm_cong.specs.declared.state.State.{State}
use Rattle.fm_cong.proofs.Reading.{pairs_grown, with_facts, working_read}

pub steady_noted : (shapes : List Shape) (c : Cells) (new : List Fact) (fact : Fact) → new ≡ c.facts ++ fact ∷ [] → joined_by fact ≡ None → IsSteady shapes c → IsSteady shapes (with_facts c new)
steady_noted shapes c new fact grown none h =
    let same : pairs_of new ≡ pairs_of c.facts = pairs_grown shapes c.facts new fact grown ∙ (ap (λ (o : Option (ℕ × ℕ)). pairs_of c.facts ++ cons_option o []) none ∙ append-nil (pairs_of c.facts)) in
    record {
      working = working_read shapes c.facts new fact grown c [] refl h.working;
      holds = subst (All (λ (p : ℕ × ℕ). own_or c.class p.0 ≡ own_or c.class p.1)) (sym same) h.holds;
    }

-- all else is as it was
pub after_noted : (s t : State) → IsAfter s s → HasGrown s.facts.items t.facts.items → IsAfter s (record { classes = s.classes; links = s.links; table = s.table; waiting = s.waiting; facts = t.facts; entered = s.entered })
after_noted s t h g = record { class = h.class; next = h.next; size = h.size; links = h.links; table = h.table; facts = g }
