-- Each event whose row is met leaves known atoms alone on the trail and in the clauses; and what the picks name is known.
use Rattle.std.proofs.Common.{ℕ, ◌+◌, ◌<◌, ◌≤◌, true, List, [], ◌∷◌, ◌++◌, length, map, inl, inr, refl, sym, subst, arith}
use Rattle.std.specs.List.{flat_map}
use Rattle.fm_base.specs.Resolution.{Has}
use Rattle.fm_base.specs.declared.ids.Lit.{Lit}
use Rattle.fm_base.proofs.Resolution.{mapped_has}
use Rattle.fm_bank.specs.Instances.{equality}
use Rattle.fm_bank.specs.Interning.{lit_in, with_atom, with_atoms}
use Rattle.fm_bank.specs.declared.atom.Atom.{Atom}
use Rattle.fm_bank.specs.declared.literal.Literal.{Literal}
use Rattle.fm_sat.specs.Learning.{IsAsserting, Steps}
use Rattle.fm_sat.proofs.Endings.{false_member}
use Rattle.fm_sat.proofs.Explaining.{unit_reason}
use Rattle.fm_trail.specs.Trail.{AreOver, decision, implied, up_to}
use Rattle.fm_trail.proofs.Places.{get_push}
use Rattle.fm_steps.specs.Facts.{AreClausesOver, AtomsAreKnown, PicksAreKnown, TrailIsExplained}
use Rattle.fm_steps.specs.Picks.{Known, Settles, pick_literals}
use Rattle.fm_steps.specs.Rows.{Offer, Row, after_learning, instance_literals}
use Rattle.fm_steps.specs.Runs.{Move}
use Rattle.fm_steps.specs.Sizes.{lit}
use Rattle.fm_steps.specs.State.{Budget, Clause, Problem, State}
use Rattle.fm_steps.proofs.Numbers.{all_known, grows, known_number, known_one, number_within}
use Rattle.fm_steps.proofs.Trails.{over_back, over_false, over_more, over_push}

pub clauses_more : (n m : ℕ) (cs : List Clause) → n ≤ m → AreClausesOver n cs → AreClausesOver m cs
clauses_more n m cs le h i c l there has = let lt = h i c l there has in omega (arith, lt, le)

clauses_push : (n : ℕ) (cs : List Clause) (new : Clause) → AreClausesOver n cs → ((l : Lit) → Has new l → l.atom.0 < n) → AreClausesOver n (cs ++ new ∷ [])
clauses_push n cs new h fresh i c l there has =
    elim (get_push cs new i c there) [
      | inl old ↦ h i c l old has
      | inr e ↦ fresh l (subst (λ (d : Clause). Has d l) (sym e.1) has)
    ]

-- a clause of literals is added, whose atoms become known
pub adds : (atoms : List Atom) (cs : List Clause) (ls : List Literal) → AreClausesOver (length atoms) cs → AreClausesOver (length (with_atoms atoms ls)) (cs ++ map (lit_in (with_atoms atoms ls)) ls ∷ [])
adds atoms cs ls h =
    let now = with_atoms atoms ls in
    clauses_push (length now) cs (map (lit_in now) ls) (clauses_more (length atoms) (length now) cs (grows ls atoms) h) (λ l has. let r = mapped_has (lit_in now) ls l has in subst (λ (x : Lit). x.atom.0 < length now) r.is (number_within ls atoms r.lit r.has))

-- more atoms are known, and nothing else has changed
pub knows : (s : State) (ls : List Literal) → AtomsAreKnown s → AreOver (length (with_atoms s.held.atoms ls)) s.trail.entries × AreClausesOver (length (with_atoms s.held.atoms ls)) s.clauses
knows s ls h = (over_more (length s.held.atoms) _ s.trail.entries (grows ls s.held.atoms) h.trail, clauses_more (length s.held.atoms) _ s.clauses (grows ls s.held.atoms) h.clauses)

learnt : (n : ℕ) (lits : Clause) (l : Lit) (level : ℕ) (steps : Steps) (s : State) → AtomsAreKnown s → TrailIsExplained s → IsAsserting s.trail.entries lits l level → AtomsAreKnown (after_learning n steps lits l level s)
learnt n lits l level [] s h x a =
    let es = s.trail.entries in
    record {
      trail = over_push (length s.held.atoms) (up_to level es) (implied (up_to level es) l n) (over_back (length s.held.atoms) es level x.levels h.trail) (over_false (length s.held.atoms) es l h.trail (false_member es lits l a.falsified a.alone.has));
      clauses = h.clauses;
    }
learnt n lits l level (step ∷ steps) s h x a =
    let es = s.trail.entries in
    record {
      trail = over_push (length s.held.atoms) (up_to level es) (implied (up_to level es) l (length s.clauses)) (over_back (length s.held.atoms) es level x.levels h.trail) (over_false (length s.held.atoms) es l h.trail (false_member es lits l a.falsified a.alone.has));
      clauses = clauses_push (length s.held.atoms) s.clauses lits h.clauses (λ k has. over_false (length s.held.atoms) es k h.trail (false_member es lits k a.falsified has));
    }

pub row_known : (p : Problem) (b : Budget) (s : State) (k : Known) (o : Offer) (t : State) → AtomsAreKnown s → TrailIsExplained s → Row p b s k o t → AtomsAreKnown t
row_known p b s k (Offer.Learn n) t h x r = subst AtomsAreKnown (sym r.after) (learnt n r.lits r.lit r.level r.steps s h x r.asserting)
row_known p b s k (Offer.Unit' n) t h x r =
    let u = (unit_reason s.clauses s.trail.entries n r.lit r.unit).0 in
    subst AtomsAreKnown (sym r.after) (record {
      trail = over_push (length s.held.atoms) s.trail.entries (implied s.trail.entries r.lit n) h.trail (h.clauses n u.clause r.lit u.stored u.has);
      clauses = h.clauses;
    })
row_known p b s k (Offer.Take e) t h x r = subst AtomsAreKnown (sym r.after) (record { trail = h.trail; clauses = h.clauses })
row_known p b s k (Offer.Lemma e d) t h x r = subst AtomsAreKnown (sym r.after) (record { trail = (knows s r.lits h).0; clauses = adds s.held.atoms s.clauses r.lits h.clauses })
row_known p b s k (Offer.Imply e d) t h x r =
    let n = length s.held.atoms in
    let here = known_number s.held.atoms r.lit.atom (known_one s.held.atoms r.lits r.lit r.unit.has r.known) in
    let l : Lit = lit_in s.held.atoms r.lit in
    subst AtomsAreKnown (sym r.after) (record {
      trail = over_more n _ (s.trail.entries ++ implied s.trail.entries l (length s.clauses) ∷ []) (grows r.lits s.held.atoms) (over_push n s.trail.entries (implied s.trail.entries l (length s.clauses)) h.trail here);
      clauses = adds s.held.atoms s.clauses r.lits h.clauses;
    })
row_known p b s k Offer.Turn t h x r = subst AtomsAreKnown (sym r.after) (record { trail = over_back (length s.held.atoms) s.trail.entries 0 x.levels h.trail; clauses = h.clauses })
row_known p b s k (Offer.Decide l) t h x r =
    let now = with_atom s.held.atoms l.atom in
    let more = knows s (l ∷ []) h in
    subst AtomsAreKnown (sym r.after) (record {
      trail = over_push (length now) s.trail.entries (decision s.trail.entries (lit_in now l)) more.0 (number_within (l ∷ []) s.held.atoms l (inl refl));
      clauses = more.1;
    })
row_known p b s k (Offer.Split a c) t h x r = let more = knows s (lit true (equality a c) ∷ []) h in subst AtomsAreKnown (sym r.after) (record { trail = more.0; clauses = more.1 })
row_known p b s k (Offer.Instance i terms) t h x r =
    let ls = instance_literals s.held r.clause terms in
    subst AtomsAreKnown (sym r.after) (record { trail = (knows s ls h).0; clauses = adds s.held.atoms s.clauses ls h.clauses })
row_known p b s k Offer.Raise t h x r =
    let ls : List Literal = lit true (Atom.Bound (s.bound + 1)) ∷ [] in
    subst AtomsAreKnown (sym r.after) (record {
      trail = over_more (length s.held.atoms) _ (up_to 0 s.trail.entries) (grows ls s.held.atoms) (over_back (length s.held.atoms) s.trail.entries 0 x.levels h.trail);
      clauses = (knows s ls h).1;
    })
row_known p b s k (Offer.Answer w) t h x r = subst AtomsAreKnown (sym r.1) h

pub settled_known : (mid t : State) → AtomsAreKnown mid → Settles mid t → AtomsAreKnown t
settled_known mid t h m =
    let more = knows mid (flat_map pick_literals m.picks) h in
    subst AtomsAreKnown (sym m.after) (record { trail = more.0; clauses = more.1 })

pub settled_picks : (mid t : State) → Settles mid t → PicksAreKnown t
settled_picks mid t m = subst PicksAreKnown (sym m.after) (all_known (flat_map pick_literals m.picks) mid.held.atoms)

pub move_known : (p : Problem) (b : Budget) (s : State) (k : Known) (o : Offer) (t : State) → AtomsAreKnown s → TrailIsExplained s → Move p b s k o t → AtomsAreKnown t
move_known p b s k o t h x m = settled_known m.mid t (row_known p b s k o m.mid h x m.row) m.settles
