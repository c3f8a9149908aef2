-- The added instances over representatives are true in the candidate, where the test makes a literal of each true.
use Rattle.std.proofs.Common.{◌≡◌, ℕ, zero, suc, ◌+◌, ◌<◌, Bool, true, List, [], ◌∷◌, length, map, get_or, Option, Some, None, refl, sym, ap, subst, ◌∙◌, arith, inl, inr, append-nil}
use Rattle.std.specs.Prelude.{nat_le, nat_lt, slice_get, slice_index}
use Rattle.std.specs.Option.{option_map}
use Rattle.std.specs.List.{flat_map, list_all, range_with_len}
use Rattle.std.proofs.lemmas.Bool.{and_parts, cond_both, ltb-true}
use Rattle.std.proofs.lemmas.Option.{slice_get-map}
use Rattle.fm_base.specs.Models.{IsElements}
use Rattle.fm_base.specs.Resolution.{Has}
use Rattle.fm_base.specs.declared.ids.SortId.{SortId}
use Rattle.fm_base.specs.declared.signature.Ty.{Ty}
use Rattle.fm_base.specs.declared.formula.Patom.{Patom}
use Rattle.fm_base.proofs.Resolution.{has_mapped}
use Rattle.fm_bank.specs.Clauses.{lits_true}
use Rattle.fm_bank.specs.Instances.{application_number, equality, equality_of, ground_atom, ground_literals, literal_before, number_of, predicate_of}
use Rattle.fm_bank.specs.Interning.{are_of_one_sort, is_atom}
use Rattle.fm_bank.specs.Sorted.{are_sorted_literals, is_sorted_clause}
use Rattle.fm_bank.specs.Terms.{Term, is_type, type_of}
use Rattle.fm_bank.specs.declared.atom.Atom.{Atom}
use Rattle.fm_bank.specs.declared.clause.Clause.{Clause}
use Rattle.fm_bank.specs.declared.clause.Plit.{Plit}
use Rattle.fm_bank.specs.declared.literal.Literal.{Literal}
use Rattle.fm_rounds.specs.Failing.{named_of, rep_in}
use Rattle.fm_rounds.specs.Grounds.{AreReached, IsGrounded, IsReached, IsReachedTerm}
use Rattle.fm_rounds.specs.InstanceTerms.{as_list, clause_terms}
use Rattle.fm_rounds.specs.Rounds.{Content, candidate_reading, content_of, element_of, literals_at, reached, representatives, reps_of}
use Rattle.fm_rounds.specs.Soundness.{AddedAreTrue, AllHaveTerms, HasTerms}
use Rattle.fm_rounds.proofs.Candidates.{get_in, instance_truth, rep_element}
use Rattle.fm_rounds.proofs.Members.{in_filter}
use Rattle.fm_rounds.proofs.Reaching.{all_in, reached_is}
use Rattle.fm_rounds.proofs.Settling.{instance_reached}
use Rattle.fm_rounds.proofs.Subterms.{instance_terms_hold}

index_has : (xs : List ℕ) (n : ℕ) → n < length xs → Has xs (slice_index xs n)
index_has [] n lt = absurd (omega (arith, lt))
index_has (x ∷ xs) zero lt = inl refl
index_has (x ∷ xs) (suc n) lt = inr (index_has xs n (omega (arith, lt)))

index_or : (xs : List ℕ) (n : ℕ) → slice_index xs n ≡ get_or xs n 0
index_or [] n = refl
index_or (x ∷ xs) zero = refl
index_or (x ∷ xs) (suc n) = index_or xs n

range_at : (a n i : ℕ) → i < n → slice_get (range_with_len a n) i ≡ Some (a + i)
range_at a zero i lt = absurd (omega (arith, lt))
range_at a (suc n) zero lt = ap Some (omega arith)
range_at a (suc n) (suc i) lt = range_at (a + 1) n i (omega (arith, lt)) ∙ ap Some (omega arith)

pub reps_at : (c : Content) (s : ℕ) → s < c.sig.sorts → slice_get (representatives c) s ≡ Some (reps_of c s)
reps_at c s lt = slice_get-map (reps_of c) (range_with_len 0 c.sig.sorts) s ∙ ap (option_map (reps_of c)) (range_at 0 c.sig.sorts s lt ∙ ap Some (let z : 0 + s ≡ s = omega arith in z))

-- the instance of elements is over representatives, whose elements they are
record AreNamed (c : Content) (vars : List SortId) (xs : List ℕ) : Type 0 where
  reps : (k : ℕ) → Has (named_of (representatives c) vars xs) k → Has (reached c).reps k
  elements : map (element_of c) (named_of (representatives c) vars xs) ≡ xs

named_are : (c : Content) (g : IsGrounded c) (vars : List SortId) (xs : List ℕ) → list_all (λ (s : SortId). nat_lt s.0 c.sig.sorts) vars ≡ true → IsElements (candidate_reading c) vars xs → AreNamed c vars xs
named_are c g [] [] sorts h = record { reps = λ k q. absurd q; elements = refl }
named_are c g [] (x ∷ xs) sorts h = absurd h
named_are c g (s ∷ ss) [] sorts h = absurd h
named_are c g (s ∷ ss) (x ∷ xs) sorts h =
    let p = and_parts (nat_lt s.0 c.sig.sorts) (list_all (λ (r : SortId). nat_lt r.0 c.sig.sorts) ss) sorts in
    let at = reps_at c s.0 (ltb-true s.0 c.sig.sorts p.0) in
    let is : rep_in (slice_get (representatives c) s.0) x ≡ slice_index (reps_of c s.0) x = ap (λ (o : Option (List ℕ)). rep_in o x) at in
    let rep : Has (reached c).reps (slice_index (reps_of c s.0) x) = (in_filter {X = ℕ} (λ n. is_type (type_of c.sig c.terms n) (Ty.Of (record { 0 = s.0 }))) (slice_index (reps_of c s.0) x) (reached c).reps (index_has (reps_of c s.0) x h.0)).0 in
    let element : element_of c (slice_index (reps_of c s.0) x) ≡ x = ap (element_of c) (index_or (reps_of c s.0) x) ∙ rep_element c g s.0 x h.0 in
    let here : element_of c (rep_in (slice_get (representatives c) s.0) x) ≡ x = ap (element_of c) is ∙ element in
    let more = named_are c g ss xs p.1 h.1 in
    record {
      reps = λ k q. by_place more.reps (subst (Has (reached c).reps) (sym is) rep) k q;
      elements = λ i. here i ∷ more.elements i;
    }
  where
    by_place : ((k : ℕ) → Has (named_of (representatives c) ss xs) k → Has (reached c).reps k) → Has (reached c).reps (rep_in (slice_get (representatives c) s.0) x) → (k : ℕ) → Has (named_of (representatives c) (s ∷ ss) (x ∷ xs)) k → Has (reached c).reps k
    by_place more here k (inl e) = subst (Has (reached c).reps) e here
    by_place more here k (inr q) = more k q

-- what an instance's literals are about
abbrev pub IsGround : Atom → Type 0
IsGround (Atom.Equal a b) = Unit {0}
IsGround (Atom.Pred t) = Unit {0}
IsGround (Atom.Card s k) = ⊥
IsGround (Atom.Bound n) = ⊥

sides_ground : (m n : ℕ) → IsGround (equality m n)
sides_ground m n = cond_both (nat_le m n) _ _ IsGround (λ q. tt) (λ q. tt)

atom_ground : (terms : List Term) (env : List ℕ) (a : Patom) (b : Atom) → ground_atom terms env a ≡ Some b → IsGround b
atom_ground terms env (Patom.Pred p ts) b e = by_number (application_number p.0 ts terms env) e
  where
    by_number : (o : Option ℕ) → predicate_of o ≡ Some b → IsGround b
    by_number None f = absurd (cc f)
    by_number (Some n) f = let same : Atom.Pred (record { 0 = n }) ≡ b = cc f in subst IsGround same tt
atom_ground terms env (Patom.Equal s t) b e = by_numbers (number_of s terms env) (number_of t terms env) e
  where
    by_numbers : (o q : Option ℕ) → equality_of o q ≡ Some b → IsGround b
    by_numbers None q f = absurd (cc f)
    by_numbers (Some m) None f = absurd (cc f)
    by_numbers (Some m) (Some n) f = let same : equality m n ≡ b = cc f in subst IsGround same (sides_ground m n)

before_parts : (positive : Bool) (o : Option Atom) (r : Option (List Literal)) (ls : List Literal) → literal_before positive o r ≡ Some ls → (a : Atom) × (ms : List Literal) × (o ≡ Some a) × (r ≡ Some ms) × (ls ≡ record { positive = positive; atom = a } ∷ ms)
before_parts positive None r ls e = absurd (cc e)
before_parts positive (Some a) None ls e = absurd (cc e)
before_parts positive (Some a) (Some ms) ls e = (a, ms, refl, refl, sym (cc e))

pub literals_ground : (terms : List Term) (env : List ℕ) (lits : List Plit) (ls : List Literal) → ground_literals terms env lits ≡ Some ls → (l : Literal) → Has ls l → IsGround l.atom
literals_ground terms env [] ls e l h = let none : [] ≡ ls = cc e in absurd (subst (λ (xs : List Literal). Has xs l) (sym none) h)
literals_ground terms env (x ∷ lits) ls e l h =
    let p = before_parts x.positive (ground_atom terms env x.atom) (ground_literals terms env lits) ls e in
    elim (subst (λ (xs : List Literal). Has xs l) p.4 h) [
      | inl s ↦ subst (λ (k : Literal). IsGround k.atom) s (atom_ground terms env x.atom p.0 p.2)
      | inr q ↦ literals_ground terms env lits p.1 p.3 l q
    ]

one_reached : (c : Content) (over : List ℕ) (a : Atom) → ((n : ℕ) → Has over n → IsReachedTerm c n) → HasTerms over a → IsGround a → is_atom c.sig c.terms a ≡ true → IsReached c a
one_reached c over (Atom.Equal a b) reached has ground fit = (reached a.0 has.0, reached b.0 has.1, (and_parts _ (are_of_one_sort (type_of c.sig c.terms a.0) (type_of c.sig c.terms b.0)) fit).1)
one_reached c over (Atom.Pred t) reached has ground fit = (reached t.0 has, fit)
one_reached c over (Atom.Card s k) reached has ground fit = absurd ground
one_reached c over (Atom.Bound n) reached has ground fit = absurd ground

are_reached : (c : Content) (over : List ℕ) (ls : List Literal) → ((n : ℕ) → Has over n → IsReachedTerm c n) → AllHaveTerms over ls → ((l : Literal) → Has ls l → IsGround l.atom) → list_all (λ (l : Literal). is_atom c.sig c.terms l.atom) ls ≡ true → AreReached c ls
are_reached c over [] reached has ground fit = tt
are_reached c over (l ∷ ls) reached has ground fit =
    let p = and_parts (is_atom c.sig c.terms l.atom) (list_all (λ (k : Literal). is_atom c.sig c.terms k.atom) ls) fit in
    (one_reached c over l.atom reached has.0 (ground l (inl refl)) p.0, are_reached c over ls reached has.1 (λ k q. ground k (inr q)) p.1)

lits_there : (clauses : List Clause) (i : ℕ) (clause : Clause) → slice_get clauses i ≡ Some clause → literals_at clauses i ≡ clause.lits
lits_there clauses i clause e = ap (λ (o : Option Clause). flat_map (λ (k : Clause). k.lits) (as_list o)) e ∙ append-nil clause.lits

pub added_are_true : AddedAreTrue
added_are_true set terms same added searched truths i clause xs has there elements named =
    let c = content_of set terms same added in
    let g = searched.grounded in
    let sorted = all_in (is_sorted_clause set.sig) set.clauses clause searched.sorted (get_in set.clauses i.0 clause there) in
    let p = and_parts (list_all (λ (s : SortId). nat_lt s.0 set.sig.sorts) clause.vars) (are_sorted_literals set.sig clause.vars clause.lits) sorted in
    let names = named_are c g clause.vars xs p.0 elements in
    let reps : (k : ℕ) → Has i.1 k → Has (reached c).reps k = subst (λ (ns : List ℕ). (k : ℕ) → Has ns k → Has (reached c).reps k) named names.reps in
    let is : map (element_of c) i.1 ≡ xs = ap (map (element_of c)) (sym named) ∙ names.elements in
    let t = truths i clause has there in
    let content : ℕ × List ℕ → List ℕ × List ℕ = λ j. (j.1, clause_terms terms j.1 (literals_at set.clauses j.0)) in
    let lits : literals_at set.clauses i.0 ≡ clause.lits = lits_there set.clauses i.0 clause there in
    let over = clause_terms terms i.1 clause.lits in
    let met : (n : ℕ) → Has over n → IsReachedTerm c n = λ n q. instance_reached c g (content i) n (has_mapped content added i has) reps (subst (λ (ps : List Plit). Has (clause_terms terms i.1 ps) n) (sym lits) q) in
    let atoms = are_reached c over t.literals met ((instance_terms_hold terms i.1 clause.lits).atoms t.literals t.grounded) (literals_ground terms i.1 clause.lits t.literals t.grounded) t.atoms in
    subst (λ ys. lits_true (candidate_reading c) ys clause.lits ≡ true) is (instance_truth c g searched.named i.1 clause.lits t.literals (λ n q. (reached_is c g).among n (reps n q)) t.grounded atoms ∙ t.some)
