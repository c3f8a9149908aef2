use Rattle.std.proofs.Common.{◌+◌, List, ℕ, sym, subst, ap, ◌∙◌}
use Rattle.fm_build.specs.Entries.{AreEntries}
use Rattle.fm_build.proofs.Listing.{entries_next, entries_same}
use Rattle.fm_build.proofs.entries.entries_of.Goals as goal
use Rattle.fm_build.proofs.entries.entries_of.Goals.{then-has_entry+in_ok-put_term, else-has_entry}

pub loop-term-preserved : goal.loop-term-preserved
loop-term-preserved c =
    let terms = c.args.bank.now.terms in
    let marks = c.args.marks.now in
    let elements = c.args.elements.now in
    let f = c.args.symbol.0 in
    let n = c.loop-term.term in
    let old = c.loop-term.entries.items in
    let inv = c.loop-term.invariant in
    elim c.if-has_entry.branch [
      | then-has_entry+in_ok-put_term w ↦ subst (λ (l : List (List ℕ × ℕ)). AreEntries terms marks elements f (n + 1) l) (sym (ap (λ v. v.items) w.entries-is)) (entries_next terms marks elements f n old w.put_term.new.entries.items inv (sym c.has_entry.ensures ∙ w.if-has_entry.true) w.in_ok-put_term.ensures)
      | else-has_entry w ↦ subst (λ (l : List (List ℕ × ℕ)). AreEntries terms marks elements f (n + 1) l) (sym (ap (λ v. v.items) w.entries-is)) (entries_same terms marks elements f n old inv (sym c.has_entry.ensures ∙ w.if-has_entry.false))
    ]
