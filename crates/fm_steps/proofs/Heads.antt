-- Each event whose row is met leaves no head past the end of the trail, and no instance twice.
use Rattle.std.proofs.Common.{ℕ, ◌+◌, List, [], ◌∷◌, ◌++◌, length, sym, subst, arith}
use Rattle.std.proofs.lemmas.List.{length_push}
use Rattle.fm_base.specs.declared.ids.Lit.{Lit}
use Rattle.fm_sat.specs.Learning.{Steps}
use Rattle.fm_trail.specs.declared.entry.Entry.{Entry}
use Rattle.fm_trail.specs.declared.heads.Heads.{Heads}
use Rattle.fm_trail.specs.Trail.{AreWithin, head_of, heads_back, up_to}
use Rattle.fm_trail.proofs.Levels.{within_back, within_more}
use Rattle.fm_steps.specs.Facts.{HeadsAreWithin, InstancesAreCounted}
use Rattle.fm_steps.specs.Picks.{Known}
use Rattle.fm_steps.specs.Rows.{Offer, Row, after_learning}
use Rattle.fm_steps.specs.Runs.{Move}
use Rattle.fm_steps.specs.State.{Budget, Clause, Problem, State}
use Rattle.fm_steps.proofs.Lists.{distinct_push}

within_push : (h : Heads) (es : List Entry) (e : Entry) → AreWithin h (length es) → AreWithin h (length (es ++ e ∷ []))
within_push h es e w r = let n = length_push es e in let le = w r in omega (arith, n, le)

learnt_heads : (n : ℕ) (lits : Clause) (l : Lit) (level : ℕ) (steps : Steps) (s : State) → HeadsAreWithin (after_learning n steps lits l level s)
learnt_heads n lits l level [] s = within_push (heads_back (length (up_to level s.trail.entries)) s.trail.heads) (up_to level s.trail.entries) _ (within_back s.trail.heads (length (up_to level s.trail.entries)))
learnt_heads n lits l level (step ∷ steps) s = within_push (heads_back (length (up_to level s.trail.entries)) s.trail.heads) (up_to level s.trail.entries) _ (within_back s.trail.heads (length (up_to level s.trail.entries)))

row_heads : (p : Problem) (b : Budget) (s : State) (k : Known) (o : Offer) (t : State) → HeadsAreWithin s → Row p b s k o t → HeadsAreWithin t
row_heads p b s k (Offer.Learn n) t h r = subst HeadsAreWithin (sym r.after) (learnt_heads n r.lits r.lit r.level r.steps s)
row_heads p b s k (Offer.Unit' n) t h r = subst HeadsAreWithin (sym r.after) (within_push s.trail.heads s.trail.entries _ h)
row_heads p b s k (Offer.Take e) t h r = let lt = r.left in subst HeadsAreWithin (sym r.after) (within_more s.trail.heads e (head_of s.trail.heads e + 1) (length s.trail.entries) (omega (arith, lt)) h)
row_heads p b s k (Offer.Lemma e d) t h r = subst HeadsAreWithin (sym r.after) h
row_heads p b s k (Offer.Imply e d) t h r = subst HeadsAreWithin (sym r.after) (within_push s.trail.heads s.trail.entries _ h)
row_heads p b s k Offer.Turn t h r = subst HeadsAreWithin (sym r.after) (within_back s.trail.heads (length (up_to 0 s.trail.entries)))
row_heads p b s k (Offer.Decide l) t h r = subst HeadsAreWithin (sym r.after) (within_push s.trail.heads s.trail.entries _ h)
row_heads p b s k (Offer.Split a c) t h r = subst HeadsAreWithin (sym r.after) h
row_heads p b s k (Offer.Instance i terms) t h r = subst HeadsAreWithin (sym r.after) h
row_heads p b s k Offer.Raise t h r = subst HeadsAreWithin (sym r.after) (within_back s.trail.heads (length (up_to 0 s.trail.entries)))
row_heads p b s k (Offer.Answer w) t h r = subst HeadsAreWithin (sym r.1) h

pub move_heads : (p : Problem) (b : Budget) (s : State) (k : Known) (o : Offer) (t : State) → HeadsAreWithin s → Move p b s k o t → HeadsAreWithin t
move_heads p b s k o t h m = subst HeadsAreWithin (sym m.settles.after) (row_heads p b s k o m.mid h m.row)

learnt_instances : (n : ℕ) (lits : Clause) (l : Lit) (level : ℕ) (steps : Steps) (s : State) → InstancesAreCounted s → InstancesAreCounted (after_learning n steps lits l level s)
learnt_instances n lits l level [] s h = h
learnt_instances n lits l level (step ∷ steps) s h = h

row_instances : (p : Problem) (b : Budget) (s : State) (k : Known) (o : Offer) (t : State) → InstancesAreCounted s → Row p b s k o t → InstancesAreCounted t
row_instances p b s k (Offer.Learn n) t h r = subst InstancesAreCounted (sym r.after) (learnt_instances n r.lits r.lit r.level r.steps s h)
row_instances p b s k (Offer.Unit' n) t h r = subst InstancesAreCounted (sym r.after) h
row_instances p b s k (Offer.Take e) t h r = subst InstancesAreCounted (sym r.after) h
row_instances p b s k (Offer.Lemma e d) t h r = subst InstancesAreCounted (sym r.after) h
row_instances p b s k (Offer.Imply e d) t h r = subst InstancesAreCounted (sym r.after) h
row_instances p b s k Offer.Turn t h r = subst InstancesAreCounted (sym r.after) h
row_instances p b s k (Offer.Decide l) t h r = subst InstancesAreCounted (sym r.after) h
row_instances p b s k (Offer.Split a c) t h r = subst InstancesAreCounted (sym r.after) h
row_instances p b s k (Offer.Instance i terms) t h r = subst InstancesAreCounted (sym r.after) (distinct_push s.added (i, terms) h.0 r.new, (let n = length_push s.added (i, terms) in omega (arith, n, h.1)))
row_instances p b s k Offer.Raise t h r = subst InstancesAreCounted (sym r.after) h
row_instances p b s k (Offer.Answer w) t h r = subst InstancesAreCounted (sym r.1) h

pub move_instances : (p : Problem) (b : Budget) (s : State) (k : Known) (o : Offer) (t : State) → InstancesAreCounted s → Move p b s k o t → InstancesAreCounted t
move_instances p b s k o t h m = subst InstancesAreCounted (sym m.settles.after) (row_instances p b s k o m.mid h m.row)
