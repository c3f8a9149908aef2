-- The start has what each event keeps.
use Rattle.std.proofs.Common.{◌≡◌, ℕ, zero, suc, ◌==◌, Bool, true, false, cond, List, [], ◌∷◌, ◌++◌, length, map, slice_get, Some, inl, refl, sym, ap, subst, ◌∙◌, arith}
use Rattle.std.specs.List.{flat_map, range_with_len}
use Rattle.std.proofs.lemmas.Bool.{false≢true}
use Rattle.fm_base.specs.Resolution.{AreDistinct}
use Rattle.fm_bank.specs.declared.atom.Atom.{Atom}
use Rattle.fm_bank.specs.declared.clause.Clause.{Clause as FirstOrderClause}
use Rattle.fm_bank.specs.declared.literal.Literal.{Literal}
use Rattle.fm_base.specs.declared.ids.Reader.{Reader}
use Rattle.fm_sat.specs.Learning.{IsExplained}
use Rattle.fm_trail.specs.Trail.{heads_at}
use Rattle.fm_steps.specs.Facts.{AtomsAreKnown, ClausesAreGuarded, HeadsAreWithin, InstancesAreCounted, IsLawful, SizesAreAssumed, SmallerAreRefuted, TrailIsExplained}
use Rattle.fm_steps.specs.Picks.{pick_literals}
use Rattle.fm_steps.specs.Rows.{instance_literals}
use Rattle.fm_steps.specs.Runs.{IsStart}
use Rattle.fm_steps.specs.Sizes.{card, lit}
use Rattle.fm_steps.specs.Start.{empty_state, first_state, first_terms, with_elements, with_first_sum, with_ground_clauses}
use Rattle.fm_steps.specs.State.{Problem, State, Trail, know_all, with_literals}
use Rattle.fm_steps.proofs.Guarded.{AreGuards, adds_guarded, instance_ground, no_size, old_guarded}
use Rattle.fm_steps.proofs.Known.{adds, knows}
use Rattle.fm_steps.proofs.Lists.{Has-end}

-- what changes at the start are atoms and clauses alone
pub record Rest : Type 0 where
  pub trail : Trail
  pub added : List (ℕ × List ℕ)
  pub instances : ℕ
  pub decisions : ℕ
  pub free : Bool
  pub bound : ℕ

abbrev pub rest_of : State → Rest
rest_of s = record { trail = s.trail; added = s.added; instances = s.instances; decisions = s.decisions; free = s.free; bound = s.bound }

pub record IsClean (s : State) : Type 0 where
  pub atoms : AtomsAreKnown s
  pub guards : ClausesAreGuarded s

clean_with : (s : State) (ls : List Literal) → AreGuards ls → IsClean s → IsClean (with_literals ls s)
clean_with s ls g h = record {
  atoms = record { trail = (knows s ls h.atoms).0; clauses = adds s.held.atoms s.clauses ls h.atoms.clauses };
  guards = adds_guarded s.held.atoms s.clauses ls h.atoms.clauses h.guards g;
}

clean_knows : (s : State) (ls : List Literal) → IsClean s → IsClean (know_all ls s)
clean_knows s ls h = record {
  atoms = record { trail = (knows s ls h.atoms).0; clauses = (knows s ls h.atoms).1 };
  guards = old_guarded s.held.atoms ls s.clauses h.atoms.clauses h.guards;
}

clean_by : (b : Bool) (s : State) (ls : List Literal) → AreGuards ls → IsClean s → IsClean (cond b (with_literals ls s) s)
clean_by true s ls g h = clean_with s ls g h
clean_by false s ls g h = h

rest_by : (b : Bool) (s : State) (ls : List Literal) → rest_of (cond b (with_literals ls s) s) ≡ rest_of s
rest_by true s ls = refl
rest_by false s ls = refl

ground_clean : (cs : List FirstOrderClause) (s : State) → IsClean s → IsClean (with_ground_clauses cs s)
ground_clean [] s h = h
ground_clean (c ∷ cs) s h = ground_clean cs _ (clean_by (length c.vars == 0) s (instance_literals s.held c []) (no_size _ (instance_ground s.held.terms c.lits [])) h)

ground_rest : (cs : List FirstOrderClause) (s : State) → rest_of (with_ground_clauses cs s) ≡ rest_of s
ground_rest [] s = refl
ground_rest (c ∷ cs) s = ground_rest cs _ ∙ rest_by (length c.vars == 0) s (instance_literals s.held c [])

elements_clean : (us : List ℕ) (s : State) → IsClean s → IsClean (with_elements us s)
elements_clean [] s h = h
elements_clean (u ∷ us) s h = elements_clean us _ (clean_with s (lit false (card u 0) ∷ []) (λ k has size. record { guard = lit false (card u 0); has = inl refl; size = refl; negative = refl }) h)

elements_rest : (us : List ℕ) (s : State) → rest_of (with_elements us s) ≡ rest_of s
elements_rest [] s = refl
elements_rest (u ∷ us) s = elements_rest us _

sum_clean : (m : ℕ) (s : State) → IsClean s → IsClean (with_first_sum m s)
sum_clean zero s h = h
sum_clean (suc m) s h =
    let ls : List Literal = map (λ u. lit true (card u 0)) (range_with_len 0 (suc m)) in
    clean_with s (ls ++ lit false (Atom.Bound m) ∷ []) (λ k has size. record { guard = lit false (Atom.Bound m); has = Has-end ls (lit false (Atom.Bound m)); size = refl; negative = refl }) h

sum_rest : (m : ℕ) (s : State) → rest_of (with_first_sum m s) ≡ rest_of s
sum_rest zero s = refl
sum_rest (suc m) s = refl

empty_clean : (p : Problem) → IsClean (empty_state p)
empty_clean p = record {
  atoms = record { trail = λ i e at. absurd (cc at); clauses = λ i c l there has. absurd (cc there) };
  guards = λ i c there. absurd (cc there);
}

pub first_clean : (p : Problem) → IsClean (first_state p)
first_clean p =
    let s1 : State = with_ground_clauses p.clauses (empty_state p) in
    let s2 : State = with_elements (range_with_len 0 p.sig.sorts) s1 in
    let s3 : State = with_first_sum p.sig.sorts s2 in
    clean_knows s3 (lit true (Atom.Bound p.sig.sorts) ∷ []) (sum_clean p.sig.sorts s2 (elements_clean (range_with_len 0 p.sig.sorts) s1 (ground_clean p.clauses (empty_state p) (empty_clean p))))

pub first_rest : (p : Problem) → rest_of (first_state p) ≡ rest_of (empty_state p)
first_rest p =
    let s1 : State = with_ground_clauses p.clauses (empty_state p) in
    let s2 : State = with_elements (range_with_len 0 p.sig.sorts) s1 in
    sum_rest p.sig.sorts s2 ∙ (elements_rest (range_with_len 0 p.sig.sorts) s1 ∙ ground_rest p.clauses (empty_state p))

-- the start by what it is made of
record IsBegun (p : Problem) (s : State) : Type 0 where
  clean : IsClean s
  rest : rest_of s ≡ rest_of (empty_state p)

begun : (p : Problem) (s : State) → IsStart p s → IsBegun p s
begun p s st =
    let c = clean_knows (first_state p) (flat_map pick_literals st.picks) (first_clean p) in
    record {
      clean = subst IsClean (sym st.after) (record { atoms = record { trail = c.atoms.trail; clauses = c.atoms.clauses }; guards = c.guards });
      rest = ap rest_of st.after ∙ first_rest p;
    }

abbrev no_trail : Trail
no_trail = record { entries = []; heads = heads_at 0 }

explained : (s : State) → s.trail ≡ no_trail → TrailIsExplained s
explained s e = subst (λ (t : Trail). IsExplained s.clauses t.entries) (sym e) (record { levels = tt; once = λ i j x y at at' same. absurd (cc at); explained = λ i x c at why. absurd (cc at) })

within : (s : State) → s.trail ≡ no_trail → HeadsAreWithin s
within s e Reader.Congruence = let h = ap (λ (t : Trail). t.heads.congruence) e in omega (arith, h)
within s e Reader.Regions = let h = ap (λ (t : Trail). t.heads.regions) e in omega (arith, h)
within s e Reader.Sum = let h = ap (λ (t : Trail). t.heads.sum) e in omega (arith, h)
within s e Reader.Instances = let h = ap (λ (t : Trail). t.heads.instances) e in omega (arith, h)

counted : (s : State) → s.added ≡ [] → s.instances ≡ 0 → InstancesAreCounted s
counted s e f = (subst AreDistinct (sym e) tt, f ∙ sym (ap (λ (xs : List (ℕ × List ℕ)). length xs) e))

smaller : (m : ℕ) (s : State) → s.free ≡ false → s.bound ≡ m → SmallerAreRefuted m s
smaller m s f e = record { smaller = λ j low high. absurd (omega (arith, low, high, e)); present = λ t. absurd (false≢true (sym f ∙ t)) }

pub start_lawful : (p : Problem) (s : State) → IsStart p s → IsLawful p s
start_lawful p s st =
    let h = begun p s st in
    let trail : s.trail ≡ no_trail = ap (λ (x : Rest). x.trail) h.rest in
    let added : s.added ≡ [] = ap (λ (x : Rest). x.added) h.rest in
    let count : s.instances ≡ 0 = ap (λ (x : Rest). x.instances) h.rest in
    let free : s.free ≡ false = ap (λ (x : Rest). x.free) h.rest in
    let bound : s.bound ≡ p.sig.sorts = ap (λ (x : Rest). x.bound) h.rest in
    record {
      trail = explained s trail;
      heads = within s trail;
      instances = counted s added count;
      atoms = h.clean.atoms;
      bounds = smaller p.sig.sorts s free bound;
      guards = h.clean.guards;
    }

pub start_assumed : (p : Problem) (s : State) → IsStart p s → SizesAreAssumed s
start_assumed p s st i e at size pos =
    let trail : s.trail ≡ no_trail = ap (λ (x : Rest). x.trail) (begun p s st).rest in
    let none : slice_get [] i ≡ Some e = subst (λ (t : Trail). slice_get t.entries i ≡ Some e) trail at in
    absurd (cc none)

pub start_counted : (p : Problem) (s : State) → IsStart p s → (s.instances ≡ 0) × (s.decisions ≡ 0)
start_counted p s st = let h = (begun p s st).rest in (ap (λ (x : Rest). x.instances) h, ap (λ (x : Rest). x.decisions) h)

pub start_trail : (p : Problem) (s : State) → IsStart p s → s.trail.entries ≡ []
start_trail p s st = ap (λ (t : Trail). t.entries) (ap (λ (x : Rest). x.trail) (begun p s st).rest)

pub start_bound : (p : Problem) (s : State) → IsStart p s → s.bound ≡ p.sig.sorts
start_bound p s st = ap (λ (x : Rest). x.bound) (begun p s st).rest

sig_by : (b : Bool) (s : State) (ls : List Literal) → (cond b (with_literals ls s) s).held.sig ≡ s.held.sig
sig_by true s ls = refl
sig_by false s ls = refl

ground_sig : (cs : List FirstOrderClause) (s : State) → (with_ground_clauses cs s).held.sig ≡ s.held.sig
ground_sig [] s = refl
ground_sig (c ∷ cs) s = ground_sig cs _ ∙ sig_by (length c.vars == 0) s (instance_literals s.held c [])

elements_sig : (us : List ℕ) (s : State) → (with_elements us s).held.sig ≡ s.held.sig
elements_sig [] s = refl
elements_sig (u ∷ us) s = elements_sig us _

sum_sig : (m : ℕ) (s : State) → (with_first_sum m s).held.sig ≡ s.held.sig
sum_sig zero s = refl
sum_sig (suc m) s = refl

pub start_sig : (p : Problem) (s : State) → IsStart p s → s.held.sig ≡ p.sig
start_sig p s st =
    let s1 : State = with_ground_clauses p.clauses (empty_state p) in
    let s2 : State = with_elements (range_with_len 0 p.sig.sorts) s1 in
    ap (λ (u : State). u.held.sig) st.after ∙ (sum_sig p.sig.sorts s2 ∙ (elements_sig (range_with_len 0 p.sig.sorts) s1 ∙ ground_sig p.clauses (empty_state p)))

pub start_added : (p : Problem) (s : State) → IsStart p s → s.added ≡ []
start_added p s st = ap (λ (x : Rest). x.added) (begun p s st).rest

-- the terms are those that are registered at the start
terms_by : (b : Bool) (s : State) (ls : List Literal) → (cond b (with_literals ls s) s).held.terms ≡ s.held.terms
terms_by true s ls = refl
terms_by false s ls = refl

ground_terms : (cs : List FirstOrderClause) (s : State) → (with_ground_clauses cs s).held.terms ≡ s.held.terms
ground_terms [] s = refl
ground_terms (c ∷ cs) s = ground_terms cs _ ∙ terms_by (length c.vars == 0) s (instance_literals s.held c [])

elements_terms : (us : List ℕ) (s : State) → (with_elements us s).held.terms ≡ s.held.terms
elements_terms [] s = refl
elements_terms (u ∷ us) s = elements_terms us _

sum_terms : (m : ℕ) (s : State) → (with_first_sum m s).held.terms ≡ s.held.terms
sum_terms zero s = refl
sum_terms (suc m) s = refl

pub start_terms : (p : Problem) (s : State) → IsStart p s → s.held.terms ≡ first_terms p
start_terms p s st =
    let s1 : State = with_ground_clauses p.clauses (empty_state p) in
    let s2 : State = with_elements (range_with_len 0 p.sig.sorts) s1 in
    ap (λ (u : State). u.held.terms) st.after ∙ (sum_terms p.sig.sorts s2 ∙ (elements_terms (range_with_len 0 p.sig.sorts) s1 ∙ ground_terms p.clauses (empty_state p)))

pub start_free : (p : Problem) (s : State) → IsStart p s → s.free ≡ false
start_free p s st = ap (λ (x : Rest). x.free) (begun p s st).rest
