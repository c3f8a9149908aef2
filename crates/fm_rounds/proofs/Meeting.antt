-- With the fresh constants each sort has a term at the start: the ground terms of the clauses have their numbers among those
-- at the start.
use Rattle.std.proofs.Common.{◌≡◌, ℕ, zero, suc, ◌+◌, ◌-◌, ◌<◌, ◌⊎◌, Bool, true, false, not, cond, List, [], ◌∷◌, ◌++◌, drop, length, map, Option, Some, None, refl, sym, ap, subst, ◌∙◌, arith, inl, inr}
use Rattle.std.specs.Prelude.{slice_get}
use Rattle.std.specs.List.{flat_map, list_any, range_with_len}
use Rattle.std.proofs.lemmas.Bool.{cases_Bool, eq-eqb}
use Rattle.fm_base.specs.Resolution.{Has}
use Rattle.fm_base.specs.declared.ids.SymId.{SymId}
use Rattle.fm_base.specs.declared.signature.Rank.{Rank}
use Rattle.fm_base.specs.declared.signature.Ty.{Ty}
use Rattle.fm_base.specs.declared.formula.Patom.{Patom}
use Rattle.fm_base.specs.declared.formula.Pterm
use Rattle.fm_base.specs.declared.formula.Pterm.{Pterm}
use Rattle.fm_base.specs.declared.formula.Pterm.TheOpen.{Pterm-F}
use Rattle.fm_base.specs.declared.formula.Pterm.TheFolds.{fold-roll-Pterm}
use Rattle.fm_base.proofs.NormalTerms.{Each, every, term_induction}
use Rattle.fm_bank.specs.GroundTerms.{application_ground_grown, ground_applied, ground_atom_grown, ground_grown, ground_literals_grown, number_more, terms_ground_grown}
use Rattle.fm_bank.specs.Instances.{all_there, find_applied, with_number}
use Rattle.fm_bank.specs.Interning.{IsFront, term_number, with_term}
use Rattle.fm_bank.specs.Terms.{Term, find, is_same, is_type, result_type, type_in, type_of}
use Rattle.fm_bank.specs.declared.clause.Clause.{Clause}
use Rattle.fm_bank.specs.declared.clause.ClauseSet.{ClauseSet}
use Rattle.fm_bank.specs.declared.clause.Plit.{Plit}
use Rattle.fm_bank.proofs.GroundGrowing.{all_ground_fronts, applied_front, ground_fronts, ground_literals_fronts, ground_of_app, ground_of_var}
use Rattle.fm_bank.proofs.Growing.{front-refl, front-trans}
use Rattle.fm_bank.proofs.InstanceTruth.{find_gives}
use Rattle.fm_bank.proofs.Keys.{is_same-refl}
use Rattle.fm_bank.proofs.Sorts.{found_again}
use Rattle.fm_rounds.specs.Fresh.{HasFreshConstants, HasStartTerms, bare_sorts, constant_of}
use Rattle.fm_rounds.specs.InstanceTerms.{Subterms, as_list, atom_terms, clause_terms, clauses_ground_grown, fresh_symbols, fresh_terms, ground_terms, is_bare, is_term_of, numbers_in, subterms, subterms_step}
use Rattle.fm_rounds.specs.Soundness.{StartsAreInhabited}
use Rattle.fm_rounds.proofs.Members.{any_in, filter_in, flat_in, in_any, in_either, in_left, in_right, range_in}
use Rattle.fm_rounds.proofs.Subterms.{in_one}

subterms_of_app : (f : SymId) (ts : List Pterm) (terms : List Term) (env : List ℕ) → subterms (Pterm.App f ts) terms env ≡ subterms_step (Pterm-F.App f (map subterms ts)) terms env
unfolding Pterm.roll-Pterm denote.Hole.Carrier.roll
subterms_of_app f ts terms env = ap (λ (k : Subterms). k terms env) (fold-roll-Pterm Subterms subterms_step (Pterm-F.App f ts))

-- a term is there under one of these numbers
abbrev IsNumbered : List Term → List ℕ → Term → Type 0
IsNumbered terms ns u = (n : ℕ) × Has ns n × (slice_get terms n ≡ Some u)

numbered_left : (terms : List Term) (xs ys : List ℕ) (u : Term) → IsNumbered terms xs u → IsNumbered terms (xs ++ ys) u
numbered_left terms xs ys u h = (h.0, in_left h.0 xs ys h.1, h.2)

numbered_right : (terms : List Term) (xs ys : List ℕ) (u : Term) → IsNumbered terms ys u → IsNumbered terms (xs ++ ys) u
numbered_right terms xs ys u h = (h.0, in_right h.0 xs ys h.1, h.2)

-- what is put in was there before, or has its number among these
abbrev Meets : List Term → List Term → List Term → List ℕ → Type 0
Meets before new terms ns = (u : Term) → Has new u → Has before u ⊎ IsNumbered terms ns u

meets_on : (before mid new terms : List Term) (xs ys : List ℕ) → Meets before mid terms xs → Meets mid new terms ys → Meets before new terms (xs ++ ys)
meets_on before mid new terms xs ys h g u q =
    elim (g u q) [
      | inl old ↦ elim (h u old) [ inl a ↦ inl a | inr b ↦ inr (numbered_left terms xs ys u b) ]
      | inr b ↦ inr (numbered_right terms xs ys u b)
    ]

-- a ground term's number is the one that it gets, and its subterms are met
record IsMet (t : Pterm) (before terms : List Term) : Type 0 where
  number : (n : ℕ) → (ground_grown t before).1 ≡ Some n → (subterms t terms []).0 ≡ Some n
  meets : Meets before (ground_grown t before).0 terms (subterms t terms []).1

abbrev AreMet : Pterm → Type 0
AreMet t = (before terms : List Term) → IsFront (ground_grown t before).0 terms → IsMet t before terms

abbrev below : List Pterm → List Term → List ℕ
below ts terms = flat_map (λ (k : Subterms). (k terms []).1) (map subterms ts)

record AllMet (ts : List Pterm) (before terms : List Term) : Type 0 where
  numbers : (ns : List ℕ) → (terms_ground_grown ts before).1 ≡ Some ns → numbers_in (map subterms ts) terms [] ≡ Some ns
  meets : Meets before (terms_ground_grown ts before).0 terms (below ts terms)

more_parts : (o : Option ℕ) (os : Option (List ℕ)) (ns : List ℕ) → number_more o os ≡ Some ns → (n : ℕ) × (rest : List ℕ) × (o ≡ Some n) × (os ≡ Some rest) × (ns ≡ n ∷ rest)
more_parts None os ns e = cc
more_parts (Some n) None ns e = cc
more_parts (Some n) (Some rest) ns e = (n, rest, refl, refl, sym (cc e))

there_cons : (o : Option ℕ) (os : List (Option ℕ)) (n : ℕ) (ns : List ℕ) → o ≡ Some n → all_there os ≡ Some ns → all_there (o ∷ os) ≡ Some (n ∷ ns)
there_cons o os n ns a b = subst (λ (x : Option ℕ). all_there (x ∷ os) ≡ Some (n ∷ ns)) (sym a) (ap (with_number n) b)

all_met : (ts : List Pterm) → Each AreMet ts → (before terms : List Term) → IsFront (terms_ground_grown ts before).0 terms → AllMet ts before terms
all_met [] each before terms front = record { numbers = λ ns e. e; meets = λ u q. inl q }
all_met (t ∷ ts) each before terms front =
    let one = ground_grown t before in
    let rest = terms_ground_grown ts one.0 in
    let here = each.0 before terms (front-trans one.0 rest.0 terms (all_ground_fronts ts one.0) front) in
    let more = all_met ts each.1 one.0 terms front in
    record {
      numbers = λ ns e.
          let p = more_parts one.1 rest.1 ns e in
          there_cons (subterms t terms []).0 (map (λ (k : Subterms). (k terms []).0) (map subterms ts)) p.0 p.1 (here.number p.0 p.2) (more.numbers p.1 p.3) ∙ ap Some (sym p.4);
      meets = meets_on before one.0 rest.0 terms (subterms t terms []).1 (below ts terms) here.meets more.meets;
    }

-- a symbol applied to ground terms
with_cases : (terms : List Term) (t u : Term) (b : Bool) → Has (cond b terms (terms ++ t ∷ [])) u → Has terms u ⊎ (t ≡ u)
with_cases terms t u true h = inl h
with_cases terms t u false h = elim (in_either u terms (t ∷ []) h) [ inl a ↦ inl a | inr q ↦ elim q [ inl e ↦ inr e | inr none ↦ absurd none ] ]

record IsAppliedMet (f : SymId) (ts : List Pterm) (before mid : List Term) (o : Option (List ℕ)) (terms : List Term) : Type 0 where
  number : (n : ℕ) → (ground_applied f.0 mid o).1 ≡ Some n → (subterms_step (Pterm-F.App f (map subterms ts)) terms []).0 ≡ Some n
  meets : Meets before (ground_applied f.0 mid o).0 terms (subterms_step (Pterm-F.App f (map subterms ts)) terms []).1

applied_met : (f : SymId) (ts : List Pterm) (before mid : List Term) (o : Option (List ℕ)) (terms : List Term) → IsFront (ground_applied f.0 mid o).0 terms
    → ((ns : List ℕ) → o ≡ Some ns → numbers_in (map subterms ts) terms [] ≡ Some ns) → Meets before mid terms (below ts terms) → IsAppliedMet f ts before mid o terms
applied_met f ts before mid None terms front numbers meets = record {
  number = λ n e. absurd (cc e);
  meets = λ u q. elim (meets u q) [ inl a ↦ inl a | inr b ↦ inr (numbered_left terms (below ts terms) (as_list (find_applied terms f.0 (numbers_in (map subterms ts) terms []))) u b) ];
}
applied_met f ts before mid (Some ns) terms front numbers meets =
    let t : Term = record { symbol = f.0; args = ns } in
    let found : find_applied terms f.0 (numbers_in (map subterms ts) terms []) ≡ Some (term_number mid t) = ap (find_applied terms f.0) (numbers ns refl) ∙ found_again mid terms t front in
    let last = as_list (find_applied terms f.0 (numbers_in (map subterms ts) terms [])) in
    let there : slice_get terms (term_number mid t) ≡ Some t = find_gives terms t (term_number mid t) (found_again mid terms t front) in
    record {
      number = λ n e. found ∙ e;
      meets = λ u q. elim (with_cases mid t u (list_any (is_same t) mid) q) [
        | inl old ↦ elim (meets u old) [ inl a ↦ inl a | inr b ↦ inr (numbered_left terms (below ts terms) last u b) ]
        | inr same ↦ inr (numbered_right terms (below ts terms) last u (term_number mid t, in_one _ (term_number mid t) found, there ∙ ap Some same))
      ];
    }

application_met : (f : SymId) (ts : List Pterm) → Each AreMet ts → (before terms : List Term) → IsFront (application_ground_grown f.0 ts before).0 terms → IsAppliedMet f ts before (terms_ground_grown ts before).0 (terms_ground_grown ts before).1 terms
application_met f ts each before terms front =
    let args = terms_ground_grown ts before in
    let all = all_met ts each before terms (front-trans args.0 (ground_applied f.0 args.0 args.1).0 terms (applied_front f.0 args.0 args.1) front) in
    applied_met f ts before args.0 args.1 terms front all.numbers all.meets

met_var : (v : ℕ) → AreMet (Pterm.Var v)
met_var v before terms front = record {
  number = λ n e. absurd (cc (sym (ap (λ (g : List Term × Option ℕ). g.1) (ground_of_var v before)) ∙ e));
  meets = λ u q. inl (subst (λ (g : List Term × Option ℕ). Has g.0 u) (ground_of_var v before) q);
}

met_app : (f : SymId) (ts : List Pterm) → Each AreMet ts → AreMet (Pterm.App f ts)
met_app f ts each before terms front =
    let same = ground_of_app f ts before in
    let r = application_met f ts each before terms (subst (λ (g : List Term × Option ℕ). IsFront g.0 terms) same front) in
    record {
      number = λ n e. ap (λ (k : Option ℕ × List ℕ). k.0) (subterms_of_app f ts terms []) ∙ r.number n (sym (ap (λ (g : List Term × Option ℕ). g.1) same) ∙ e);
      meets = subst (λ (k : Option ℕ × List ℕ). Meets before (ground_grown (Pterm.App f ts) before).0 terms k.1) (sym (subterms_of_app f ts terms []))
          (λ u q. r.meets u (subst (λ (g : List Term × Option ℕ). Has g.0 u) same q));
    }

met : (t : Pterm) → AreMet t
met = term_induction AreMet met_var met_app

atom_met : (a : Patom) (before terms : List Term) → IsFront (ground_atom_grown a before) terms → Meets before (ground_atom_grown a before) terms (atom_terms terms [] a)
atom_met (Patom.Pred p ts) before terms front = (application_met p ts (every AreMet met ts) before terms front).meets
atom_met (Patom.Equal a b) before terms front =
    let mid = (ground_grown a before).0 in
    meets_on before mid (ground_grown b mid).0 terms (subterms a terms []).1 (subterms b terms []).1 (met a before terms (front-trans mid (ground_grown b mid).0 terms (ground_fronts b mid) front)).meets (met b mid terms front).meets

literals_met : (ls : List Plit) (before terms : List Term) → IsFront (ground_literals_grown ls before) terms → Meets before (ground_literals_grown ls before) terms (clause_terms terms [] ls)
literals_met [] before terms front = λ u q. inl q
literals_met (l ∷ ls) before terms front =
    let mid = ground_atom_grown l.atom before in
    meets_on before mid (ground_literals_grown ls mid) terms (atom_terms terms [] l.atom) (clause_terms terms [] ls) (atom_met l.atom before terms (front-trans mid (ground_literals_grown ls mid) terms (ground_literals_fronts ls mid) front)) (literals_met ls mid terms front)

clauses_fronts : (cs : List Clause) (terms : List Term) → IsFront terms (clauses_ground_grown cs terms)
clauses_fronts [] terms = front-refl terms
clauses_fronts (c ∷ cs) terms = front-trans terms (ground_literals_grown c.lits terms) _ (ground_literals_fronts c.lits terms) (clauses_fronts cs (ground_literals_grown c.lits terms))

clauses_met : (cs : List Clause) (before terms : List Term) → IsFront (clauses_ground_grown cs before) terms → Meets before (clauses_ground_grown cs before) terms (ground_terms cs terms)
clauses_met [] before terms front = λ u q. inl q
clauses_met (c ∷ cs) before terms front =
    let mid = ground_literals_grown c.lits before in
    meets_on before mid (clauses_ground_grown cs mid) terms (clause_terms terms [] c.lits) (ground_terms cs terms) (literals_met c.lits before terms (front-trans mid (clauses_ground_grown cs mid) terms (clauses_fronts cs mid) front)) (clauses_met cs mid terms front)

-- a term that is there is found
found_there : (terms : List Term) (t : Term) → Has terms t → (n : ℕ) × (find terms t ≡ Some n) × (slice_get terms n ≡ Some t)
found_there terms t h =
    let front : IsFront (with_term terms t) terms = subst (λ (b : Bool). IsFront (cond b terms (terms ++ t ∷ [])) terms) (sym (there terms h)) (front-refl terms) in
    let found = found_again terms terms t front in
    (term_number terms t, found, find_gives terms t (term_number terms t) found)
  where
    there : (ts : List Term) → Has ts t → list_any (is_same t) ts ≡ true
    there ts q = in_any (is_same t) ts t q (is_same-refl t)

-- the place of a sort among the bare ones, and its constant
place_of : {X : Type 0} (xs : List X) (x : X) → Has xs x → (i : ℕ) × (slice_get xs i ≡ Some x) × (i < length xs)
place_of [] x h = absurd h
place_of (y ∷ ys) x (inl e) = (0, ap Some e, omega arith)
place_of (y ∷ ys) x (inr h) = let r = place_of ys x h in let lt = r.2 in (suc r.0, r.1, omega (arith, lt))

mapped_at : {X Y : Type 0} (f : X → Y) (xs : List X) (i : ℕ) (x : X) → slice_get xs i ≡ Some x → slice_get (map f xs) i ≡ Some (f x)
mapped_at f [] i x e = absurd (cc e)
mapped_at f (y ∷ ys) zero x e = let same : y ≡ x = cc e in ap (λ z. Some (f z)) same
mapped_at f (y ∷ ys) (suc i) x e = mapped_at f ys i x e

dropped_at : {X : Type 0} (xs : List X) (k i : ℕ) (x : X) → slice_get (drop k xs) i ≡ Some x → slice_get xs (k + i) ≡ Some x
dropped_at xs zero i x e = let z : i ≡ 0 + i = omega arith in subst (λ n. slice_get xs n ≡ Some x) z e
dropped_at [] (suc k) i x e = absurd (cc e)
dropped_at (y ∷ ys) (suc k) i x e = let z : suc (k + i) ≡ suc k + i = omega arith in subst (λ n. slice_get (y ∷ ys) n ≡ Some x) z (dropped_at ys k i x e)

in_dropped : (a k n i : ℕ) → k + i < n → Has (drop k (range_with_len a n)) (a + (k + i))
in_dropped a zero n i lt = range_in (a + (0 + i)) a n (omega arith) (omega (arith, lt))
in_dropped a (suc k) zero i lt = absurd (omega (arith, lt))
in_dropped a (suc k) (suc n) i lt = let z : a + 1 + (k + i) ≡ a + (suc k + i) = omega arith in subst (Has (drop k (range_with_len (a + 1) n))) z (in_dropped (a + 1) k n i (omega (arith, lt)))

get_below : {X : Type 0} (xs : List X) (i : ℕ) (x : X) → slice_get xs i ≡ Some x → i < length xs
get_below [] i x e = absurd (cc e)
get_below (y ∷ ys) zero x e = omega arith
get_below (y ∷ ys) (suc i) x e = let lt = get_below ys i x e in omega (arith, lt)

module _ (set : ClauseSet) (terms : List Term) (fresh : HasFreshConstants set) (start : HasStartTerms set terms) where
  -- a sort with a ground term
  by_ground : (s : ℕ) → list_any (is_term_of set.sig s) (clauses_ground_grown set.clauses []) ≡ true → (n : ℕ) × Has (ground_terms set.clauses terms) n × (is_type (type_of set.sig terms n) (Ty.Of (record { 0 = s })) ≡ true)
  by_ground s e =
      let w = any_in (is_term_of set.sig s) (clauses_ground_grown set.clauses []) e in
      elim (clauses_met set.clauses [] terms start.ground w.0 w.1) [
        | inl none ↦ absurd none
        | inr h ↦ (h.0, h.1, subst (λ (o : Option Term). is_type (type_in set.sig o) (Ty.Of (record { 0 = s })) ≡ true) (sym h.2) w.2)
      ]

  -- and one without
  by_constant : (s : ℕ) → Has (bare_sorts set) s → (n : ℕ) × Has (fresh_terms set terms) n × (is_type (type_of set.sig terms n) (Ty.Of (record { 0 = s })) ≡ true)
  by_constant s h =
      let all = length set.sig.ranks in
      let first = all - length (bare_sorts set) in
      let w = place_of (bare_sorts set) s h in
      let rank : slice_get set.sig.ranks (first + w.0) ≡ Some (constant_of s) = dropped_at set.sig.ranks first w.0 (constant_of s) (ap (λ (rs : List Rank). slice_get rs w.0) fresh ∙ mapped_at constant_of (bare_sorts set) w.0 s w.1) in
      let low = get_below set.sig.ranks (first + w.0) (constant_of s) rank in
      let f = first + w.0 in
      let z : 0 + f ≡ f = omega arith in
      let symbol : Has (fresh_symbols set) f = subst (Has (fresh_symbols set)) z (in_dropped 0 first all w.0 low) in
      let t : Term = record { symbol = f; args = [] } in
      let n = found_there terms t (start.constants f symbol) in (
        n.0,
        flat_in (λ g. as_list (find terms (record { symbol = g; args = [] }))) n.0 (fresh_symbols set) f symbol (in_one (find terms t) n.0 n.1),
        subst (λ (o : Option Term). is_type (type_in set.sig o) (Ty.Of (record { 0 = s })) ≡ true) (sym n.2) (subst (λ (o : Option Rank). is_type (result_type o) (Ty.Of (record { 0 = s })) ≡ true) (sym rank) (eq-eqb s s refl)),
      )

  pub start_inhabited : (s : ℕ) → s < set.sig.sorts → (n : ℕ) × Has (ground_terms set.clauses terms ++ fresh_terms set terms) n × (is_type (type_of set.sig terms n) (Ty.Of (record { 0 = s })) ≡ true)
  start_inhabited s lt =
      elim (cases_Bool (list_any (is_term_of set.sig s) (clauses_ground_grown set.clauses []))) [
        | inl t ↦ (let r = by_ground s t in (r.0, in_left r.0 (ground_terms set.clauses terms) (fresh_terms set terms) r.1, r.2))
        | inr f ↦ (let r = by_constant s (filter_in (is_bare set) s (range_with_len 0 set.sig.sorts) (range_in s 0 set.sig.sorts (omega arith) (omega (arith, lt))) (ap not f)) in
            (r.0, in_right r.0 (ground_terms set.clauses terms) (fresh_terms set terms) r.1, r.2))
      ]

pub starts_are_inhabited : StartsAreInhabited
starts_are_inhabited set terms fresh start s lt = start_inhabited set terms fresh start s lt
