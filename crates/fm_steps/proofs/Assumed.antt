-- Positive size literals stand above level 0, and not in the free phase: each event keeps it whose row is met and which
-- decides freely.
use Rattle.std.proofs.Common.{◌≡◌, ◌≢◌, ℕ, ◌+◌, ◌<◌, Bool, true, false, not, List, [], ◌∷◌, ◌++◌, length, map, slice_get, Some, inl, inr, refl, sym, ap, subst, ◌∙◌, arith}
use Rattle.std.specs.List.{flat_map}
use Rattle.std.proofs.lemmas.Bool.{false≢true}
use Rattle.fm_base.specs.Resolution.{SameSet}
use Rattle.fm_base.specs.declared.ids.Lit.{Lit}
use Rattle.fm_bank.specs.Instances.{equality}
use Rattle.fm_bank.specs.Interning.{lit_in, with_atom, with_atoms}
use Rattle.fm_bank.specs.declared.atom.Atom.{Atom}
use Rattle.fm_bank.specs.declared.literal.Literal.{Literal}
use Rattle.fm_sat.specs.Learning.{IsAsserting, IsReason, LearntBy, Steps}
use Rattle.fm_sat.proofs.Explaining.{reason_learnt, unit_reason}
use Rattle.fm_trail.specs.declared.entry.Entry.{Entry}
use Rattle.fm_trail.specs.Trail.{AreLevelled, AreOver, decision, implied, up_to}
use Rattle.fm_trail.proofs.Going.{level_most}
use Rattle.fm_trail.proofs.Places.{get_push}
use Rattle.fm_steps.specs.Content.{is_size}
use Rattle.fm_steps.specs.Facts.{AreAssumed, AreGuarded, AtomsAreKnown, ClausesAreGuarded, SizesAreAssumed, TrailIsExplained, size_at}
use Rattle.fm_steps.specs.Picks.{Known, Settles, pick_literals}
use Rattle.fm_steps.specs.Rows.{Offer, Row, after_learning, instance_literals}
use Rattle.fm_steps.specs.Runs.{Move}
use Rattle.fm_steps.specs.Sizes.{lit}
use Rattle.fm_steps.specs.State.{Budget, Clause, Problem, State}
use Rattle.fm_steps.proofs.Explained.{by_numbers, lemma_reason}
use Rattle.fm_steps.proofs.Guarded.{row_guarded}
use Rattle.fm_steps.proofs.Known.{row_known}
use Rattle.fm_steps.proofs.Lists.{get_last}
use Rattle.fm_steps.proofs.Numbers.{number_size, size_same}
use Rattle.fm_steps.proofs.Trails.{back_entry, denied, explained_back}

-- in the free phase no size literal is decided positively, as the menu says
abbrev pub DecidesFreely : State → Offer → Type 0
DecidesFreely s (Offer.Decide l) = s.free ≡ true → is_size l.atom ≡ true → l.positive ≡ true → ⊥
DecidesFreely s o = Unit {0}

push : (p : ℕ → Bool) (es : List Entry) (free : Bool) (e : Entry) → AreAssumed p es free → (p e.lit.atom.0 ≡ true → e.lit.positive ≡ true → (0 < e.level) × (free ≡ false)) → AreAssumed p (es ++ e ∷ []) free
push p es free e h new i f at size pos =
    elim (get_push es e i f at) [
      | inl old ↦ h i f old size pos
      | inr here ↦ subst (λ (x : Entry). p x.lit.atom.0 ≡ true → x.lit.positive ≡ true → (0 < x.level) × (free ≡ false)) here.1 new size pos
    ]

-- an implied size literal has a guard in its reason, so a decision stands
pub assumed_implied : (p : ℕ → Bool) (cs : List Clause) (es : List Entry) (free : Bool) (l : Lit) (n : ℕ) → AreLevelled 0 es → AreAssumed p es free → AreGuarded p cs → IsReason cs es l n → AreAssumed p (es ++ implied es l n ∷ []) free
assumed_implied p cs es free l n levels h all r =
    push p es free (implied es l n) h (λ size pos.
    let g = all n r.clause r.stored l r.has size in
    let ne : g.guard ≢ l = λ e. absurd (false≢true (sym g.negative ∙ (ap (λ (x : Lit). x.positive) e ∙ pos))) in
    let d = denied es g.guard (r.others g.guard g.has ne) in
    let sign : d.entry.lit.positive ≡ true = d.sign ∙ ap not g.negative in
    let q = h d.place d.entry d.at (ap p d.atom ∙ g.size) sign in
    let above = q.0 in
    let most = level_most 0 es d.place d.entry levels d.at in
    (omega (arith, above, most), q.1))

pub back : (p : ℕ → Bool) (es : List Entry) (free : Bool) (level : ℕ) → AreLevelled 0 es → AreAssumed p es free → AreAssumed p (up_to level es) free
back p es free level levels h i e at size pos = h i e (back_entry es level i e levels at).0 size pos

-- back to level 0 nothing positive is left
back_to_zero : (p : ℕ → Bool) (es : List Entry) (free now : Bool) → AreLevelled 0 es → AreAssumed p es free → AreAssumed p (up_to 0 es) now
back_to_zero p es free now levels h i e at size pos =
    let b = back_entry es 0 i e levels at in
    let above = (h i e b.0 size pos).0 in
    let low = b.1 in
    absurd (omega (arith, above, low))

pub grown : (atoms : List Atom) (ls : List Literal) (es : List Entry) (free : Bool) → AreOver (length atoms) es → AreAssumed (size_at atoms) es free → AreAssumed (size_at (with_atoms atoms ls)) es free
grown atoms ls es free over h i e at size pos = h i e at (sym (size_same ls atoms e.lit.atom.0 (over i e at)) ∙ size) pos

bounded : (free : Bool) → (free ≡ true → ⊥) → free ≡ false
bounded true h = absurd (h refl)
bounded false h = refl

learnt : (n : ℕ) (lits : Clause) (l : Lit) (level : ℕ) (steps : Steps) (s : State) → TrailIsExplained s → SizesAreAssumed s → LearntBy s.clauses s.trail.entries n steps lits → IsAsserting s.trail.entries lits l level → ClausesAreGuarded (after_learning n steps lits l level s) → SizesAreAssumed (after_learning n steps lits l level s)
learnt n lits l level [] s x h k a g =
    let es = s.trail.entries in
    let r = reason_learnt s.clauses es n k.0 lits l level x.levels x.once k.1 k.2 a in
    assumed_implied (size_at s.held.atoms) s.clauses (up_to level es) s.free l n (explained_back s.clauses es level x).levels (back (size_at s.held.atoms) es s.free level x.levels h) g r
learnt n lits l level (step ∷ steps) s x h k a g =
    let es = s.trail.entries in
    let same : SameSet lits lits = λ m. (λ q. q, λ q. q) in
    let r = reason_learnt (s.clauses ++ lits ∷ []) es (length s.clauses) lits lits l level x.levels x.once (get_last s.clauses lits) same a in
    assumed_implied (size_at s.held.atoms) (s.clauses ++ lits ∷ []) (up_to level es) s.free l (length s.clauses) (explained_back s.clauses es level x).levels (back (size_at s.held.atoms) es s.free level x.levels h) g r

row_assumed : (p : Problem) (b : Budget) (s : State) (k : Known) (o : Offer) (t : State) → DecidesFreely s o → AtomsAreKnown s → TrailIsExplained s → ClausesAreGuarded s → SizesAreAssumed s → Row p b s k o t → SizesAreAssumed t
row_assumed p b s k (Offer.Learn n) t d a x g h r =
    let u : State = after_learning n r.steps r.lits r.lit r.level s in
    subst SizesAreAssumed (sym r.after) (learnt n r.lits r.lit r.level r.steps s x h r.learnt r.asserting (subst ClausesAreGuarded r.after (row_guarded p b s k (Offer.Learn n) t a g r)))
row_assumed p b s k (Offer.Unit' n) t d a x g h r =
    let u = unit_reason s.clauses s.trail.entries n r.lit r.unit in
    subst SizesAreAssumed (sym r.after) (assumed_implied (size_at s.held.atoms) s.clauses s.trail.entries s.free r.lit n x.levels h g u.0)
row_assumed p b s k (Offer.Take e) t d a x g h r = subst SizesAreAssumed (sym r.after) h
row_assumed p b s k (Offer.Lemma e u) t d a x g h r = subst SizesAreAssumed (sym r.after) (grown s.held.atoms r.lits s.trail.entries s.free a.trail h)
row_assumed p b s k (Offer.Imply e u) t d a x g h r =
    let now = with_atoms s.held.atoms r.lits in
    let c : Clause = map (lit_in now) r.lits in
    let cs : List Clause = s.clauses ++ c ∷ [] in
    let guards : AreGuarded (size_at now) cs = subst ClausesAreGuarded r.after (row_guarded p b s k (Offer.Imply e u) t a g r) in
    let stored : slice_get cs (length s.clauses) ≡ Some (map (lit_in s.held.atoms) r.lits) = get_last s.clauses c ∙ ap (λ (y : Clause). Some y) (sym (by_numbers s r.lits r.known)) in
    subst SizesAreAssumed (sym r.after) (assumed_implied (size_at now) cs s.trail.entries s.free (lit_in s.held.atoms r.lit) (length s.clauses) x.levels (grown s.held.atoms r.lits s.trail.entries s.free a.trail h) guards (lemma_reason s cs (length s.clauses) r.lits r.lit r.unit stored))
row_assumed p b s k Offer.Turn t d a x g h r = subst SizesAreAssumed (sym r.after) (back_to_zero (size_at s.held.atoms) s.trail.entries s.free true x.levels h)
row_assumed p b s k (Offer.Decide l) t d a x g h r =
    let now = with_atom s.held.atoms l.atom in
    subst SizesAreAssumed (sym r.after) (push (size_at now) s.trail.entries s.free (decision s.trail.entries (lit_in now l)) (grown s.held.atoms (l ∷ []) s.trail.entries s.free a.trail h) (λ size pos. (omega arith, bounded s.free (λ f. d f (sym (number_size (l ∷ []) s.held.atoms l (inl refl)) ∙ size) pos))))
row_assumed p b s k (Offer.Split c e) t d a x g h r = subst SizesAreAssumed (sym r.after) (grown s.held.atoms (lit true (equality c e) ∷ []) s.trail.entries s.free a.trail h)
row_assumed p b s k (Offer.Instance i terms) t d a x g h r = subst SizesAreAssumed (sym r.after) (grown s.held.atoms (instance_literals s.held r.clause terms) s.trail.entries s.free a.trail h)
row_assumed p b s k Offer.Raise t d a x g h r =
    let next : List Literal = lit true (Atom.Bound (s.bound + 1)) ∷ [] in
    subst SizesAreAssumed (sym r.after) (back_to_zero (size_at (with_atoms s.held.atoms next)) s.trail.entries s.free false x.levels (grown s.held.atoms next s.trail.entries s.free a.trail h))
row_assumed p b s k (Offer.Answer w) t d a x g h r = subst SizesAreAssumed (sym r.1) h

pub settled_assumed : (mid t : State) → AtomsAreKnown mid → SizesAreAssumed mid → Settles mid t → SizesAreAssumed t
settled_assumed mid t a h m = subst SizesAreAssumed (sym m.after) (grown mid.held.atoms (flat_map pick_literals m.picks) mid.trail.entries mid.free a.trail h)

pub move_assumed : (p : Problem) (b : Budget) (s : State) (k : Known) (o : Offer) (t : State) → DecidesFreely s o → AtomsAreKnown s → TrailIsExplained s → ClausesAreGuarded s → SizesAreAssumed s → Move p b s k o t → SizesAreAssumed t
move_assumed p b s k o t d a x g h m = settled_assumed m.mid t (row_known p b s k o m.mid a x m.row) (row_assumed p b s k o m.mid d a x g h m.row) m.settles
