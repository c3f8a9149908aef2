use Rattle.std.proofs.Common.{◌≡◌, ◌+◌, List, length, Some, None, slice_get, arith, ap, subst, sym, ◌∙◌}
use Rattle.fm_trail.specs.Trail.{AreWithin, head_of}
use Rattle.fm_trail.specs.declared.entry.Entry.{Entry}
use Rattle.fm_trail.proofs.Levels.{within_more, none_past}
use Rattle.std.proofs.lemmas.Option.{slice_get_within}
use Rattle.fm_trail.proofs.trail.Trail.take.Goals as goal

pub invariant_of-self : goal.invariant_of-self
invariant_of-self c =
    let es = c.self.inside.entries.items in
    let there = subst (λ (xs : List Entry). slice_get xs c.get-head.result ≡ Some c.in-Some.entry) c.as_slice.ensures.value (sym c.entry_at.ensures ∙ c.in-Some.is) in
    let lt = slice_get_within es c.get-head.result c.in-Some.entry there in
    record {
      levels = c.self.invariant.levels;
      opened_at = c.self.invariant.opened_at;
      placed = c.self.invariant.placed;
      within = subst (λ h. AreWithin h (length es)) (sym c.set.ensures) (within_more c.self.inside.heads c.args.reader (c.get-head.result + 1) (length es) (omega arith) c.self.invariant.within);
    }

pub returns-in-None-clause-none : goal.returns-in-None-clause-none
returns-in-None-clause-none c =
    let es = c.self.inside.entries.items in
    let none = subst (λ (xs : List Entry). slice_get xs c.get-head.result ≡ None) c.as_slice.ensures.value (sym c.entry_at.ensures ∙ c.in-None.is) in
    let past = none_past es c.get-head.result none in
    let within = c.self.invariant.within c.args.reader in
    let q : es ≡ c.args.self.now.entries = ap (λ v. v.entries) c.self.view_is in
    let h : c.self.inside.heads ≡ c.args.self.now.heads = ap (λ v. v.heads) c.self.view_is in
    let n : head_of c.self.inside.heads c.args.reader ≡ length es = omega (arith, c.get-head.ensures) in
    sym (ap (λ k. head_of k c.args.reader) h) ∙ (n ∙ ap length q)
