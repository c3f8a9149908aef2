-- The lemmas of the start stay in the clause list.
use Rattle.std.proofs.Common.{◌≡◌, ℕ, zero, suc, true, List, [], ◌∷◌, map, inl, inr, refl, sym, ap, subst, ◌∙◌, arith}
use Rattle.std.specs.List.{flat_map, range_with_len}
use Rattle.fm_base.specs.Resolution.{Has}
use Rattle.fm_base.specs.declared.ids.Lit.{Lit}
use Rattle.fm_bank.specs.Interning.{IsFront, atom_number, find_atom, is_same_atom, lit_in, with_atoms}
use Rattle.fm_bank.specs.declared.atom.Atom.{Atom}
use Rattle.fm_bank.specs.declared.literal.Literal.{Literal}
use Rattle.fm_bank.proofs.Growing.{atoms_fronts, front-refl, front-trans}
use Rattle.fm_bank.proofs.Places.{place_kept}
use Rattle.fm_rounds.proofs.Members.{in_left, range_in}
use Rattle.fm_sat.specs.Learning.{Steps}
use Rattle.fm_steps.specs.Bounds.{StandsIn, StartStays, not_empty, not_fewer}
use Rattle.fm_steps.specs.Lemmas.{is_known, is_some_number}
use Rattle.fm_steps.specs.Picks.{Known, Settles, pick_literals}
use Rattle.fm_steps.specs.Rows.{Offer, Row, after_learning, instance_literals}
use Rattle.fm_steps.specs.Runs.{IsStart, Move}
use Rattle.fm_steps.specs.Sizes.{lit}
use Rattle.fm_steps.specs.Start.{empty_state, first_state, with_elements, with_first_sum, with_ground_clauses}
use Rattle.fm_steps.specs.State.{Budget, Clause, Problem, State, know_all, with_literals}
use Rattle.fm_steps.proofs.Due.{all_in, in_all}
use Rattle.fm_steps.proofs.Lists.{Has-end}
use Rattle.fm_steps.proofs.Numbers.{all_known, find_kept, find_some, known_any}
use Rattle.fm_steps.proofs.Runs.{row_grows}
use Rattle.fm_steps.proofs.Written.{map_same}

-- clauses and atoms of s are in front of those of t
pub record IsBehind (s t : State) : Type 0 where
  pub atoms : IsFront s.held.atoms t.held.atoms
  pub clauses : IsFront s.clauses t.clauses

pub behind_same : (s t : State) → t.held.atoms ≡ s.held.atoms → t.clauses ≡ s.clauses → IsBehind s t
behind_same s t e f = record {
  atoms = subst (IsFront s.held.atoms) (sym e) (front-refl s.held.atoms);
  clauses = subst (IsFront s.clauses) (sym f) (front-refl s.clauses);
}

pub behind_trans : (s t u : State) → IsBehind s t → IsBehind t u → IsBehind s u
behind_trans s t u a b = record { atoms = front-trans s.held.atoms t.held.atoms u.held.atoms a.atoms b.atoms; clauses = front-trans s.clauses t.clauses u.clauses a.clauses b.clauses }

pub known_kept : (s t : State) (a : Atom) → IsFront s.held.atoms t.held.atoms → is_known s a ≡ true → is_known t a ≡ true
known_kept s t a f k =
    let w = find_some s.held.atoms a k in
    subst (λ (as' : List Atom). is_some_number (find_atom as' a) ≡ true) f.1 (ap is_some_number (find_kept s.held.atoms f.0 a w.0 w.1))

pub number_kept : (s t : State) (a : Atom) → IsFront s.held.atoms t.held.atoms → is_known s a ≡ true → atom_number t.held.atoms a ≡ atom_number s.held.atoms a
number_kept s t a f k = ap (λ (as' : List Atom). atom_number as' a) (sym f.1) ∙ place_kept (is_same_atom a) s.held.atoms f.0 (known_any s.held.atoms a k)

-- what stands in s stands in t
pub stands_on : (s t : State) (ls : List Literal) → IsBehind s t → StandsIn s ls → StandsIn t ls
stands_on s t ls f h =
    let same : map (lit_in t.held.atoms) ls ≡ map (lit_in s.held.atoms) ls = map_same (lit_in t.held.atoms) (lit_in s.held.atoms) ls (λ l q. ap (λ n. record { atom = record { 0 = n }; positive = l.positive }) (number_kept s t l.atom f.atoms (all_in (λ (k : Literal). is_known s k.atom) ls l h.known q))) in
    record {
      known = in_all (λ (l : Literal). is_known t l.atom) ls (λ l q. known_kept s t l.atom f.atoms (all_in (λ (k : Literal). is_known s k.atom) ls l h.known q));
      has = subst (λ (c : Clause). Has t.clauses c) (sym same) (subst (λ (cs : List Clause). Has cs (map (lit_in s.held.atoms) ls)) f.clauses.1 (in_left _ s.clauses f.clauses.0 h.has));
    }

stays_on : (p : Problem) (s t : State) → IsBehind s t → StartStays p s → StartStays p t
stays_on p s t f h = record { elements = λ u lt. stands_on s t (not_empty u) f (h.elements u lt); sum = λ m e. stands_on s t (not_fewer m) f (h.sum m e) }

-- what is added stands
pub added_stands : (s : State) (ls : List Literal) → StandsIn (with_literals ls s) ls
added_stands s ls = record { known = all_known ls s.held.atoms; has = Has-end s.clauses (map (lit_in (with_atoms s.held.atoms ls)) ls) }

with_behind : (s : State) (ls : List Literal) → IsBehind s (with_literals ls s)
with_behind s ls = record { atoms = atoms_fronts ls s.held.atoms; clauses = (map (lit_in (with_atoms s.held.atoms ls)) ls ∷ [], refl) }

-- the start
elements_behind : (us : List ℕ) (s : State) → IsBehind s (with_elements us s)
elements_behind [] s = behind_same s s refl refl
elements_behind (u ∷ us) s = behind_trans s (with_literals (not_empty u) s) (with_elements (u ∷ us) s) (with_behind s (not_empty u)) (elements_behind us (with_literals (not_empty u) s))

element_stands : (us : List ℕ) (s : State) (u : ℕ) → Has us u → StandsIn (with_elements us s) (not_empty u)
element_stands [] s u h = absurd h
element_stands (v ∷ us) s u (inl e) = subst (λ w. StandsIn (with_elements (v ∷ us) s) (not_empty w)) e (stands_on (with_literals (not_empty v) s) (with_elements (v ∷ us) s) (not_empty v) (elements_behind us (with_literals (not_empty v) s)) (added_stands s (not_empty v)))
element_stands (v ∷ us) s u (inr h) = element_stands us (with_literals (not_empty v) s) u h

sum_behind : (m : ℕ) (s : State) → IsBehind s (with_first_sum m s)
sum_behind zero s = behind_same s s refl refl
sum_behind (suc m) s = with_behind s (not_fewer m)

sum_stands : (n m : ℕ) (s : State) → n ≡ suc m → StandsIn (with_first_sum n s) (not_fewer m)
sum_stands zero m s e = absurd (omega (arith, e))
sum_stands (suc n) m s e = let same : n ≡ m = omega (arith, e) in subst (λ k. StandsIn (with_first_sum (suc n) s) (not_fewer k)) same (added_stands s (not_fewer n))

knows_behind : (s : State) (ls : List Literal) → IsBehind s (know_all ls s)
knows_behind s ls = record { atoms = atoms_fronts ls s.held.atoms; clauses = front-refl s.clauses }

pub settled_behind : (mid t : State) → Settles mid t → IsBehind mid t
settled_behind mid t m = subst (IsBehind mid) (sym m.after) (record { atoms = atoms_fronts (flat_map pick_literals m.picks) mid.held.atoms; clauses = front-refl mid.clauses })

pub start_stays : (p : Problem) (s : State) → IsStart p s → StartStays p s
start_stays p s st =
    let m = p.sig.sorts in
    let s1 = with_ground_clauses p.clauses (empty_state p) in
    let s2 = with_elements (range_with_len 0 m) s1 in
    let s3 = with_first_sum m s2 in
    let last : List Literal = lit true (Atom.Bound m) ∷ [] in
    let f : IsBehind s3 s = behind_trans s3 (first_state p) s (knows_behind s3 last) (settled_behind (first_state p) s st) in
    record {
      elements = λ u lt. stands_on s3 s (not_empty u) f (stands_on s2 s3 (not_empty u) (sum_behind m s2) (element_stands (range_with_len 0 m) s1 u (range_in u 0 m (omega arith) (omega (arith, lt)))));
      sum = λ k e. stands_on s3 s (not_fewer k) f (sum_stands m k s2 e);
    }

-- events add clauses and atoms alone
learnt_clauses : (n : ℕ) (lits : Clause) (l : Lit) (level : ℕ) (steps : Steps) (s : State) → IsFront s.clauses (after_learning n steps lits l level s).clauses
learnt_clauses n lits l level [] s = front-refl s.clauses
learnt_clauses n lits l level (step ∷ steps) s = (lits ∷ [], refl)

abbrev InFront : State → State → Type 0
InFront s t = IsFront s.clauses t.clauses

row_clauses : (p : Problem) (b : Budget) (s : State) (k : Known) (o : Offer) (t : State) → Row p b s k o t → InFront s t
row_clauses p b s k (Offer.Learn n) t r = subst (InFront s) (sym r.after) (learnt_clauses n r.lits r.lit r.level r.steps s)
row_clauses p b s k (Offer.Unit' n) t r = subst (InFront s) (sym r.after) (front-refl s.clauses)
row_clauses p b s k (Offer.Take e) t r = subst (InFront s) (sym r.after) (front-refl s.clauses)
row_clauses p b s k (Offer.Lemma e d) t r = subst (InFront s) (sym r.after) (map (lit_in (with_atoms s.held.atoms r.lits)) r.lits ∷ [], refl)
row_clauses p b s k (Offer.Imply e d) t r = subst (InFront s) (sym r.after) (map (lit_in (with_atoms s.held.atoms r.lits)) r.lits ∷ [], refl)
row_clauses p b s k Offer.Turn t r = subst (InFront s) (sym r.after) (front-refl s.clauses)
row_clauses p b s k (Offer.Decide l) t r = subst (InFront s) (sym r.after) (front-refl s.clauses)
row_clauses p b s k (Offer.Split a c) t r = subst (InFront s) (sym r.after) (front-refl s.clauses)
row_clauses p b s k (Offer.Instance i env) t r = let ls = instance_literals s.held r.clause env in subst (InFront s) (sym r.after) (map (lit_in (with_atoms s.held.atoms ls)) ls ∷ [], refl)
row_clauses p b s k Offer.Raise t r = subst (InFront s) (sym r.after) (front-refl s.clauses)
row_clauses p b s k (Offer.Answer w) t r = subst (InFront s) (sym r.1) (front-refl s.clauses)

pub move_behind : (p : Problem) (b : Budget) (s : State) (k : Known) (o : Offer) (t : State) → Move p b s k o t → IsBehind s t
move_behind p b s k o t m = behind_trans s m.mid t (record { atoms = row_grows p b s k o m.mid m.row; clauses = row_clauses p b s k o m.mid m.row }) (settled_behind m.mid t m.settles)

pub move_stays : (p : Problem) (b : Budget) (s : State) (k : Known) (o : Offer) (t : State) → StartStays p s → Move p b s k o t → StartStays p t
move_stays p b s k o t h m = stays_on p s t (move_behind p b s k o t m) h
