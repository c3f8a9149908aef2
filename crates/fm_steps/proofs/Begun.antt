-- The lines of the start make what it has, and its terms and atoms are well held.
use Rattle.std.proofs.Common.{◌≡◌, ℕ, zero, suc, ◌+◌, ◌<◌, ◌==◌, Bool, true, false, cond, nat_lt, List, [], ◌∷◌, ◌++◌, length, map, Some, None, inl, inr, refl, sym, ap, subst, ◌∙◌, append-nil, append_assoc, arith}
use Rattle.std.specs.Prelude.{Option, slice_get, slice_index}
use Rattle.std.specs.List.{flat_map, list_all, range_with_len}
use Rattle.std.proofs.lemmas.Bool.{and_from, and_parts, eqb-true, lt-ltb}
use Rattle.fm_base.specs.Resolution.{Has}
use Rattle.fm_base.specs.declared.formula.Patom.{Patom}
use Rattle.fm_base.specs.declared.formula.Pterm
use Rattle.fm_base.specs.declared.formula.Pterm.{Pterm}
use Rattle.fm_base.specs.declared.formula.Pterm.TheOpen.{Pterm-F}
use Rattle.fm_base.specs.declared.formula.Pterm.TheFolds.{fold-roll-Pterm}
use Rattle.fm_base.specs.declared.ids.SortId.{SortId}
use Rattle.fm_base.specs.declared.ids.SymId.{SymId}
use Rattle.fm_base.specs.declared.signature.Rank.{Rank}
use Rattle.fm_base.specs.declared.signature.Sig.{Sig}
use Rattle.fm_base.specs.declared.signature.Ty.{Ty}
use Rattle.fm_base.proofs.NormalTerms.{Each, every, term_induction}
use Rattle.fm_bank.specs.GroundTerms.{ground_literals_grown}
use Rattle.fm_bank.specs.Instances.{Numbered, all_there, equality, equality_of, find_applied, ground_atom, ground_literals, is_substitution, literal_before, number_of, number_step, numbers_of, predicate_of, with_number}
use Rattle.fm_bank.specs.Interning.{Grown, IsFront, all_grown, applied, atom_grown, first_places, grown, grown_step, is_atom, literals_grown, nothing_over, predicate, with_term}
use Rattle.fm_bank.specs.Sorted.{are_sorted_literals, is_sorted_clause}
use Rattle.fm_bank.specs.Terms.{Term, are_of_types, are_terms, find, is_application}
use Rattle.fm_bank.specs.declared.atom.Atom.{Atom}
use Rattle.fm_bank.specs.declared.clause.Clause.{Clause as FirstOrderClause}
use Rattle.fm_bank.specs.declared.clause.Plit.{Plit}
use Rattle.fm_bank.specs.declared.literal.Literal.{Literal}
use Rattle.fm_bank.proofs.GroundGrowing.{ground_agree, ground_literals_fronts, ground_literals_good}
use Rattle.fm_bank.proofs.Growing.{front-refl, front-trans, front-with_term}
use Rattle.fm_bank.proofs.Instancing.{literals_put}
use Rattle.fm_bank.proofs.Sorts.{found_already, good_with_term}
use Rattle.fm_bank.proofs.Steps.{grown_app}
use Rattle.fm_cert.specs.Lines.{AreGoodLines, Made, MakesClause, nothing, sum_clause}
use Rattle.fm_cert.specs.Lines.{total_above as total_of}
use Rattle.fm_cert.specs.declared.block.Line.{Line}
use Rattle.fm_rounds.specs.InstanceTerms.{clauses_ground_grown, fresh_symbols}
use Rattle.fm_rounds.proofs.Members.{in_range}
use Rattle.fm_steps.specs.Facts.{AtomsAreKnown}
use Rattle.fm_steps.specs.Lines.{AreLinesOf, Certified, IsSorted, SettlingWritesNothing, StartIsWritten, StartsHeld, element_lines, ground_lines, is_constant, lines_from, made_of, searched, start_lines, sum_lines}
use Rattle.fm_steps.specs.Picks.{pick_literals}
use Rattle.fm_steps.specs.Rows.{instance_literals}
use Rattle.fm_steps.specs.Sizes.{card, lit, sort}
use Rattle.fm_steps.specs.Start.{constants_grown, empty_state, first_state, first_terms, with_elements, with_first_sum, with_ground_clauses}
use Rattle.fm_steps.specs.State.{Problem, State, with_literals}
use Rattle.fm_steps.proofs.Due.{all_in, in_all, same_if}
use Rattle.fm_steps.proofs.Held.{IsOver, over_more, settled_held}
use Rattle.fm_steps.proofs.Known.{adds, knows}
use Rattle.fm_steps.proofs.Lists.{Has-get}
use Rattle.fm_steps.proofs.Written.{good_append, made_known, made_with, more_made, one_line, placed_same}

-- What is found already, growth leaves as it is.
number_var : (v : ℕ) (terms : List Term) (env : List ℕ) → number_of (Pterm.Var v) terms env ≡ slice_get env v
unfolding Pterm.roll-Pterm denote.Hole.Carrier.roll
number_var v terms env = ap (λ (g : Numbered). g terms env) (fold-roll-Pterm Numbered number_step (Pterm-F.Var v))

number_app : (f : SymId) (ts : List Pterm) (terms : List Term) (env : List ℕ) → number_of (Pterm.App f ts) terms env ≡ find_applied terms f.0 (numbers_of ts terms env)
unfolding Pterm.roll-Pterm denote.Hole.Carrier.roll
number_app f ts terms env = ap (λ (g : Numbered). g terms env) (fold-roll-Pterm Numbered number_step (Pterm-F.App f ts))

grown_var : (v : ℕ) (env : List ℕ) (terms : List Term) → grown (Pterm.Var v) env terms ≡ (terms, slice_index env v)
unfolding Pterm.roll-Pterm denote.Hole.Carrier.roll
grown_var v env terms = ap (λ (g : Grown). g env terms) (fold-roll-Pterm Grown grown_step (Pterm-F.Var v))

index_is : (xs : List ℕ) (n x : ℕ) → slice_get xs n ≡ Some x → slice_index xs n ≡ x
index_is [] n x e = absurd (cc e)
index_is (y ∷ ys) zero x e = cc e
index_is (y ∷ ys) (suc n) x e = index_is ys n x e

found_parts : (terms : List Term) (f : ℕ) (o : Option (List ℕ)) (n : ℕ) → find_applied terms f o ≡ Some n → (ns : List ℕ) × (o ≡ Some ns) × (find terms (record { symbol = f; args = ns }) ≡ Some n)
found_parts terms f None n e = absurd (cc e)
found_parts terms f (Some ns) n e = (ns, refl, e)

number_parts : (n : ℕ) (o : Option (List ℕ)) (ns : List ℕ) → with_number n o ≡ Some ns → (rest : List ℕ) × (o ≡ Some rest) × (ns ≡ n ∷ rest)
number_parts n None ns e = absurd (cc e)
number_parts n (Some rest) ns e = (rest, refl, sym (cc e))

there_parts : (o : Option ℕ) (os : List (Option ℕ)) (ns : List ℕ) → all_there (o ∷ os) ≡ Some ns → (n : ℕ) × (rest : List ℕ) × (o ≡ Some n) × (all_there os ≡ Some rest) × (ns ≡ n ∷ rest)
there_parts None os ns e = absurd (cc e)
there_parts (Some n) os ns e = let p = number_parts n (all_there os) ns e in (n, p.0, refl, p.1, p.2)

pair_is : {X Y : Type 0} (p : X × Y) (x : X) (y : Y) → p ≡ (x, y) → (p.0 ≡ x) × (p.1 ≡ y)
pair_is p x y e = (ap (λ q. q.0) e, ap (λ q. q.1) e)

module _ (terms : List Term) (env : List ℕ) where
  abbrev Stays : Pterm → Type 0
  Stays t = (n : ℕ) → number_of t terms env ≡ Some n → grown t env terms ≡ (terms, n)

  all_stay : (ts : List Pterm) → Each Stays ts → (ns : List ℕ) → numbers_of ts terms env ≡ Some ns → all_grown (map grown ts) env terms ≡ (terms, ns)
  all_stay [] each ns e = let same : [] ≡ ns = cc e in ap (λ (ms : List ℕ). (terms, ms)) same
  all_stay (t ∷ ts) each ns e =
      let p = there_parts (number_of t terms env) (map (λ (u : Numbered). u terms env) (map number_of ts)) ns e in
      let one = each.0 p.0 p.2 in
      let rest = all_stay ts each.1 p.1 p.3 in
      ap (λ (g : List Term × ℕ). ((all_grown (map grown ts) env g.0).0, g.1 ∷ (all_grown (map grown ts) env g.0).1)) one ∙ (ap (λ (g : List Term × List ℕ). (g.0, p.0 ∷ g.1)) rest ∙ ap (λ (ms : List ℕ). (terms, ms)) (sym p.4))

  applied_stays : (f : ℕ) (ns : List ℕ) (n : ℕ) → find terms (record { symbol = f; args = ns }) ≡ Some n → applied f (terms, ns) ≡ (terms, n)
  applied_stays f ns n e = let q = found_already terms (record { symbol = f; args = ns }) n e in λ i. (q.1 i, sym q.0 i)

  application_stays : (f : ℕ) (ts : List Pterm) (n : ℕ) → ((ns : List ℕ) → numbers_of ts terms env ≡ Some ns → all_grown (map grown ts) env terms ≡ (terms, ns)) → find_applied terms f (numbers_of ts terms env) ≡ Some n → applied f (all_grown (map grown ts) env terms) ≡ (terms, n)
  application_stays f ts n all e =
      let p = found_parts terms f (numbers_of ts terms env) n e in
      ap (applied f) (all p.0 p.1) ∙ applied_stays f p.0 n p.2

  var_stays : (v : ℕ) → Stays (Pterm.Var v)
  var_stays v n e = grown_var v env terms ∙ ap (λ k. (terms, k)) (index_is env v n (sym (number_var v terms env) ∙ e))

  app_stays : (f : SymId) (ts : List Pterm) → Each Stays ts → Stays (Pterm.App f ts)
  app_stays f ts each n e = grown_app f ts env terms ∙ application_stays f.0 ts n (all_stay ts each) (sym (number_app f ts terms env) ∙ e)

  term_stays : (t : Pterm) → Stays t
  term_stays = term_induction Stays var_stays app_stays

  predicate_parts : (o : Option ℕ) (a : Atom) → predicate_of o ≡ Some a → (n : ℕ) × (o ≡ Some n) × (Atom.Pred (record { 0 = n }) ≡ a)
  predicate_parts None a e = absurd (cc e)
  predicate_parts (Some n) a e = (n, refl, cc e)

  equality_parts : (o q : Option ℕ) (a : Atom) → equality_of o q ≡ Some a → (m : ℕ) × (n : ℕ) × (o ≡ Some m) × (q ≡ Some n) × (equality m n ≡ a)
  equality_parts None q a e = absurd (cc e)
  equality_parts (Some m) None a e = absurd (cc e)
  equality_parts (Some m) (Some n) a e = (m, n, refl, refl, cc e)

  atom_stays : (x : Patom) (a : Atom) → ground_atom terms env x ≡ Some a → atom_grown x env terms ≡ (terms, a)
  atom_stays (Patom.Pred p ts) a e =
      let q = predicate_parts (find_applied terms p.0 (numbers_of ts terms env)) a e in
      ap predicate (application_stays p.0 ts q.0 (all_stay ts (every Stays term_stays ts)) q.1) ∙ ap (λ (b : Atom). (terms, b)) q.2
  atom_stays (Patom.Equal x y) a e =
      let q = equality_parts (number_of x terms env) (number_of y terms env) a e in
      let left = term_stays x q.0 q.2 in
      let right = term_stays y q.1 q.3 in
      ap (λ (g : List Term × ℕ). ((grown y env g.0).0, equality g.1 (grown y env g.0).1)) left ∙ (ap (λ (g : List Term × ℕ). (g.0, equality q.0 g.1)) right ∙ ap (λ (b : Atom). (terms, b)) q.4)

  before_parts : (positive : Bool) (o : Option Atom) (q : Option (List Literal)) (ks : List Literal) → literal_before positive o q ≡ Some ks → (a : Atom) × (js : List Literal) × (o ≡ Some a) × (q ≡ Some js) × (record { positive = positive; atom = a } ∷ js ≡ ks)
  before_parts positive None q ks e = absurd (cc e)
  before_parts positive (Some a) None ks e = absurd (cc e)
  before_parts positive (Some a) (Some js) ks e = (a, js, refl, refl, cc e)

  pub literals_stay : (ls : List Plit) (ks : List Literal) → ground_literals terms env ls ≡ Some ks → literals_grown ls env terms ≡ (terms, ks)
  literals_stay [] ks e = let same : [] ≡ ks = cc e in ap (λ (js : List Literal). (terms, js)) same
  literals_stay (l ∷ ls) ks e =
      let p = before_parts l.positive (ground_atom terms env l.atom) (ground_literals terms env ls) ks e in
      ap (λ (g : List Term × Atom). ((literals_grown ls env g.0).0, record { positive = l.positive; atom = g.1 } ∷ (literals_grown ls env g.0).1)) (atom_stays l.atom p.0 p.2)
      ∙ (ap (λ (g : List Term × List Literal). (g.0, record { positive = l.positive; atom = p.0 } ∷ g.1)) (literals_stay ls p.1 p.3) ∙ ap (λ (js : List Literal). (terms, js)) p.4)

-- the terms with which the start begins
ground_good : (sig : Sig) (cs : List FirstOrderClause) (terms : List Term) → list_all (is_sorted_clause sig) cs ≡ true → are_terms sig terms ≡ true → are_terms sig (clauses_ground_grown cs terms) ≡ true
ground_good sig [] terms e good = good
ground_good sig (k ∷ cs) terms e good =
    let p = and_parts (is_sorted_clause sig k) (list_all (is_sorted_clause sig) cs) e in
    let lits = (and_parts _ (are_sorted_literals sig k.vars k.lits) p.0).1 in
    ground_good sig cs (ground_literals_grown k.lits terms) p.1 (ground_literals_good sig k.vars k.lits terms good lits)

no_args : (sig : Sig) (terms more : List Term) (us : List Ty) → are_of_types sig terms [] us ≡ true → are_of_types sig more [] us ≡ true
no_args sig terms more [] e = e
no_args sig terms more (u ∷ us) e = e

constant_there : (sig : Sig) (terms more : List Term) (o : Option Rank) → is_application sig terms o [] ≡ true → is_application sig more o [] ≡ true
constant_there sig terms more None e = e
constant_there sig terms more (Some rank) e = no_args sig terms more rank.args e

constants_good : (p : Problem) (fs : List ℕ) (terms : List Term) → list_all (is_constant p) fs ≡ true → are_terms p.sig terms ≡ true → are_terms p.sig (constants_grown fs terms) ≡ true
constants_good p [] terms e good = good
constants_good p (f ∷ fs) terms e good =
    let q = and_parts (is_constant p f) (list_all (is_constant p) fs) e in
    let t : Term = record { symbol = f; args = [] } in
    constants_good p fs (with_term terms t) q.1 (good_with_term p.sig terms t good (constant_there p.sig [] terms (slice_get p.sig.ranks f) q.0))

pub constants_front : (fs : List ℕ) (terms : List Term) → IsFront terms (constants_grown fs terms)
constants_front [] terms = front-refl terms
constants_front (f ∷ fs) terms = let t : Term = record { symbol = f; args = [] } in front-trans terms (with_term terms t) _ (front-with_term terms t) (constants_front fs (with_term terms t))

ground_front : (cs : List FirstOrderClause) (terms : List Term) → IsFront terms (clauses_ground_grown cs terms)
ground_front [] terms = front-refl terms
ground_front (k ∷ cs) terms = front-trans terms (ground_literals_grown k.lits terms) _ (ground_literals_fronts k.lits terms) (ground_front cs (ground_literals_grown k.lits terms))

-- each clause has its ground terms there
among_ground : (sig : Sig) (cs : List FirstOrderClause) (k : FirstOrderClause) (terms : List Term) → Has cs k → list_all (is_sorted_clause sig) cs ≡ true → are_terms sig terms ≡ true → (mid : List Term) × (are_terms sig mid ≡ true) × IsFront (ground_literals_grown k.lits mid) (clauses_ground_grown cs terms)
among_ground sig [] k terms h e good = absurd h
among_ground sig (d ∷ cs) k terms (inl s) e good = (terms, good, subst (λ (x : FirstOrderClause). IsFront (ground_literals_grown x.lits terms) (clauses_ground_grown cs (ground_literals_grown d.lits terms))) s (ground_front cs (ground_literals_grown d.lits terms)))
among_ground sig (d ∷ cs) k terms (inr h) e good =
    let p = and_parts (is_sorted_clause sig d) (list_all (is_sorted_clause sig) cs) e in
    let lits = (and_parts _ (are_sorted_literals sig d.vars d.lits) p.0).1 in
    among_ground sig cs k (ground_literals_grown d.lits terms) h p.1 (ground_literals_good sig d.vars d.lits terms good lits)

no_vars : (vars : List SortId) → length vars ≡ 0 → vars ≡ []
no_vars [] e = refl
no_vars (v ∷ vars) e = absurd (omega (arith, e))

pub record IsGround (sig : Sig) (terms : List Term) (k : FirstOrderClause) : Type 0 where
  pub literals : List Literal
  pub found : ground_literals terms [] k.lits ≡ Some literals
  pub stays : literals_grown k.lits [] terms ≡ (terms, literals)
  pub typed : is_substitution sig terms k.vars [] ≡ true
  pub fit : list_all (λ (l : Literal). is_atom sig terms l.atom) literals ≡ true

module _ (p : Problem) (sorted : IsSorted p) where
  pub terms_good : are_terms p.sig (first_terms p) ≡ true
  terms_good = constants_good p (fresh_symbols p) (clauses_ground_grown p.clauses []) sorted.constants (ground_good p.sig p.clauses [] sorted.clauses refl)

  ground_there : (k : FirstOrderClause) → Has p.clauses k → length k.vars ≡ 0 → IsGround p.sig (first_terms p) k
  ground_there k h none =
      let all = first_terms p in
      let vars = no_vars k.vars none in
      let is = all_in (is_sorted_clause p.sig) p.clauses k sorted.clauses h in
      let lits = (and_parts _ (are_sorted_literals p.sig k.vars k.lits) is).1 in
      let w = among_ground p.sig p.clauses k [] h sorted.clauses refl in
      let mid = w.0 in
      let typed : (ts : List Term) → is_substitution p.sig ts k.vars [] ≡ true = λ ts. subst (λ (vs : List SortId). is_substitution p.sig ts vs [] ≡ true) (sym vars) refl in
      let put = literals_put p.sig k.vars [] k.lits mid w.1 (typed mid) lits in
      let agree : ground_literals_grown k.lits mid ≡ (literals_grown k.lits [] mid).0 = ground_agree p.sig k (record (nothing_over p.sig) { terms = mid }) is vars in
      let front : IsFront (literals_grown k.lits [] mid).0 all = subst (λ (ts : List Term). IsFront ts all) agree (front-trans (ground_literals_grown k.lits mid) (clauses_ground_grown p.clauses []) all w.2 (constants_front (fresh_symbols p) (clauses_ground_grown p.clauses []))) in
      let ks = (literals_grown k.lits [] mid).1 in
      let found = put.stay all front in
      let stays = literals_stay all [] k.lits ks found in
      let again = literals_put p.sig k.vars [] k.lits all terms_good (typed all) lits in
      record {
        literals = ks;
        found = found;
        stays = stays;
        typed = typed all;
        fit = subst (λ (g : List Term × List Literal). list_all (λ (l : Literal). is_atom p.sig g.0 l.atom) g.1 ≡ true) stays again.fit;
      }

zero_sums : (a n : ℕ) → total_of (map (λ u. 0) (range_with_len a n)) ≡ n
zero_sums a zero = refl
zero_sums a (suc n) = let e = zero_sums (a + 1) n in omega (arith, e)

zero_clause : (a n m : ℕ) → map (λ u. lit true (card u 0)) (range_with_len a n) ++ lit false (Atom.Bound m) ∷ [] ≡ sum_clause a (map (λ u. 0) (range_with_len a n)) m
zero_clause a zero m = refl
zero_clause a (suc n) m = ap (λ (ls : List Literal). lit true (card a 0) ∷ ls) (zero_clause (a + 1) n m)

zero_long : (a n : ℕ) → length {A = ℕ} (map (λ (u : ℕ). 0) (range_with_len a n)) ≡ n
zero_long a zero = refl
zero_long a (suc n) = ap suc (zero_long (a + 1) n)

module _ (c : Certified) (user : ℕ) (sorted : IsSorted (searched c user)) where
  abbrev p : Problem
  p = searched c user

  -- a state on the way, and its lines
  record IsBuilt (lines : List Line) (s : State) : Type 0 where
    atoms : AtomsAreKnown s
    over : IsOver p s
    terms : s.held.terms ≡ first_terms p
    written : AreLinesOf c s lines

  add : (lines : List Line) (s : State) (line : Line) (ls : List Literal) → IsBuilt lines s → MakesClause c (made_of s) line ls → list_all (λ (l : Literal). is_atom c.symbols s.held.terms l.atom) ls ≡ true → IsBuilt (lines ++ line ∷ []) (with_literals ls s)
  add lines s line ls h makes fit =
      let fits : list_all (λ (l : Literal). is_atom s.held.sig s.held.terms l.atom) ls ≡ true = subst (λ (sig : Sig). list_all (λ (l : Literal). is_atom sig s.held.terms l.atom) ls ≡ true) (sym h.over.sig) fit in
      let g = over_more p s ls h.over fits in
      record {
        atoms = record { trail = (knows s ls h.atoms).0; clauses = adds s.held.atoms s.clauses ls h.atoms.clauses };
        over = record { sig = g.sig; held = g.held };
        terms = h.terms;
        written = good_append c nothing lines (made_of s) (line ∷ []) (made_of (with_literals ls s)) h.written (one_line c (made_of s) line ls (made_of (with_literals ls s)) makes (made_with s ls h.atoms));
      }

  none_more : (lines : List Line) (s : State) → IsBuilt lines s → IsBuilt (lines ++ []) s
  none_more lines s h = subst (λ (ls : List Line). IsBuilt ls s) (sym (append-nil lines)) h

  empty_built : IsBuilt (lines_from 0 (first_terms p)) (empty_state p)
  empty_built =
      let good = terms_good p sorted in
      record {
        atoms = record { trail = λ i e at. absurd (cc at); clauses = λ i k l there has. absurd (cc there) };
        over = record { sig = refl; held = record { terms_good = good; atoms_good = refl } };
        terms = refl;
        written = more_made c [] (first_terms p) [] (first_terms p, refl) good;
      }

  abbrev AreThere : ℕ → List FirstOrderClause → Type 0
  AreThere n cs = (i : ℕ) (k : FirstOrderClause) → slice_get cs i ≡ Some k → slice_get c.clauses (n + i) ≡ Some k

  -- an instance without variables
  instance_built : (lines : List Line) (s : State) (n : ℕ) (k : FirstOrderClause) → slice_get c.clauses n ≡ Some k → length k.vars ≡ 0 → IsBuilt lines s → IsBuilt (lines ++ Line.Instance n [] ∷ []) (with_literals (instance_literals s.held k []) s)
  instance_built lines s n k at none h =
      let g = subst (λ (ts : List Term). IsGround c.symbols ts k) (sym h.terms) (ground_there p sorted k (Has-get c.clauses n k at) none) in
      let placed : instance_literals s.held k [] ≡ first_places [] g.literals = ap (λ (q : List Term × List Literal). first_places [] q.1) g.stays in
      let makes : MakesClause c (made_of s) (Line.Instance n []) (first_places [] g.literals) = (k, g.literals, at, (g.typed, g.found), placed_same g.literals) in
      let fit = in_all (λ (l : Literal). is_atom c.symbols s.held.terms l.atom) (first_places [] g.literals) (λ l q. all_in (λ (x : Literal). is_atom c.symbols s.held.terms x.atom) g.literals l g.fit ((placed_same g.literals l).0 q)) in
      subst (λ (ls : List Literal). IsBuilt (lines ++ Line.Instance n [] ∷ []) (with_literals ls s)) (sym placed) (add lines s (Line.Instance n []) (first_places [] g.literals) h makes fit)

  one_built : (b : Bool) (lines : List Line) (s : State) (n : ℕ) (k : FirstOrderClause) → (length k.vars == 0) ≡ b → slice_get c.clauses n ≡ Some k → IsBuilt lines s → IsBuilt (lines ++ cond b (Line.Instance n [] ∷ []) []) (cond b (with_literals (instance_literals s.held k []) s) s)
  one_built true lines s n k e at h = instance_built lines s n k at (eqb-true (length k.vars) 0 e) h
  one_built false lines s n k e at h = none_more lines s h

  ground_built : (cs : List FirstOrderClause) (n : ℕ) (lines : List Line) (s : State) → AreThere n cs → IsBuilt lines s → IsBuilt (lines ++ ground_lines n cs) (with_ground_clauses cs s)
  ground_built [] n lines s there h = none_more lines s h
  ground_built (k ∷ cs) n lines s there h =
      let b = length k.vars == 0 in
      let first : List Line = cond b (Line.Instance n [] ∷ []) [] in
      let here : slice_get c.clauses n ≡ Some k = (let z : n + 0 ≡ n = omega arith in subst (λ i. slice_get c.clauses i ≡ Some k) z (there 0 k refl)) in
      let more : AreThere (n + 1) cs = λ i d at. let z : n + suc i ≡ n + 1 + i = omega arith in subst (λ j. slice_get c.clauses j ≡ Some d) z (there (suc i) d at) in
      let next = one_built b lines s n k refl here h in
      subst (λ (ls : List Line). IsBuilt ls (with_ground_clauses (k ∷ cs) s)) (append_assoc lines first (ground_lines (n + 1) cs)) (ground_built cs (n + 1) (lines ++ first) (cond b (with_literals (instance_literals s.held k []) s) s) more next)

  elements_built : (us : List ℕ) (lines : List Line) (s : State) → ((u : ℕ) → Has us u → u < c.symbols.sorts) → IsBuilt lines s → IsBuilt (lines ++ element_lines us) (with_elements us s)
  elements_built [] lines s low h = none_more lines s h
  elements_built (u ∷ us) lines s low h =
      let lt = low u (inl refl) in
      let ls : List Literal = lit false (card u 0) ∷ [] in
      let makes : MakesClause c (made_of s) (Line.OrderZero (sort u)) ls = (lt, same_if ls ls refl) in
      let next = add lines s (Line.OrderZero (sort u)) ls h makes (and_from (nat_lt u c.symbols.sorts) true (lt-ltb u c.symbols.sorts lt) refl) in
      subst (λ (ks : List Line). IsBuilt ks (with_elements (u ∷ us) s)) (append_assoc lines (Line.OrderZero (sort u) ∷ []) (element_lines us)) (elements_built us (lines ++ Line.OrderZero (sort u) ∷ []) (with_literals ls s) (λ v q. low v (inr q)) next)

  sum_fit : (terms : List Term) (us : List ℕ) (m : ℕ) → ((u : ℕ) → Has us u → u < c.symbols.sorts) → list_all (λ (l : Literal). is_atom c.symbols terms l.atom) (map (λ u. lit true (card u 0)) us ++ lit false (Atom.Bound m) ∷ []) ≡ true
  sum_fit terms [] m low = refl
  sum_fit terms (u ∷ us) m low = and_from (nat_lt u c.symbols.sorts) _ (lt-ltb u c.symbols.sorts (low u (inl refl))) (sum_fit terms us m (λ v q. low v (inr q)))

  sum_built : (n : ℕ) (lines : List Line) (s : State) → n ≡ c.symbols.sorts → IsBuilt lines s → IsBuilt (lines ++ sum_lines n) (with_first_sum n s)
  sum_built zero lines s e h = none_more lines s h
  sum_built (suc m) lines s e h =
      let us = range_with_len 0 (suc m) in
      let ks : List ℕ = map (λ u. 0) us in
      let ls : List Literal = map (λ u. lit true (card u 0)) us ++ lit false (Atom.Bound m) ∷ [] in
      let total = zero_sums 0 (suc m) in
      let makes : MakesClause c (made_of s) (Line.Sum m ks) ls = (zero_long 0 (suc m) ∙ e, omega (arith, total), same_if ls (sum_clause 0 ks m) (zero_clause 0 (suc m) m)) in
      add lines s (Line.Sum m ks) ls h makes (sum_fit s.held.terms us m (λ u q. let lt = (in_range u 0 (suc m) q).1 in omega (arith, lt, e)))

  abbrev last_known : List Literal
  last_known = lit true (Atom.Bound c.symbols.sorts) ∷ []

  first_built : IsBuilt (start_lines p) (first_state p)
  first_built =
      let m = c.symbols.sorts in
      let one = ground_built c.clauses 0 (lines_from 0 (first_terms p)) (empty_state p) (λ i k at. let z : 0 + i ≡ i = omega arith in subst (λ j. slice_get c.clauses j ≡ Some k) (sym z) at) empty_built in
      let s1 = with_ground_clauses c.clauses (empty_state p) in
      let two = elements_built (range_with_len 0 m) (lines_from 0 (first_terms p) ++ ground_lines 0 c.clauses) s1 (λ u q. let lt = (in_range u 0 m q).1 in omega (arith, lt)) one in
      let s2 = with_elements (range_with_len 0 m) s1 in
      let h = sum_built m ((lines_from 0 (first_terms p) ++ ground_lines 0 c.clauses) ++ element_lines (range_with_len 0 m)) s2 refl two in
      let s3 = with_first_sum m s2 in
      let g = over_more p s3 last_known h.over refl in
      record {
        atoms = record { trail = (knows s3 last_known h.atoms).0; clauses = (knows s3 last_known h.atoms).1 };
        over = record { sig = g.sig; held = g.held };
        terms = h.terms;
        written = subst (λ (x : Made). AreGoodLines c nothing (start_lines p) x) (sym (made_known s3 last_known h.atoms)) h.written;
      }

pub settling_writes_nothing : SettlingWritesNothing
settling_writes_nothing mid t a m = ap made_of m.after ∙ made_known mid (flat_map pick_literals m.picks) a

pub start_is_written : StartIsWritten
start_is_written c user s sorted st =
    let h = first_built c user sorted in
    subst (λ (x : Made). AreGoodLines c nothing (start_lines (searched c user)) x) (sym (settling_writes_nothing (first_state (searched c user)) s h.atoms st)) h.written

-- a problem as what a certificate is of
abbrev certified : Problem → Certified
certified p = record { sig = p.sig; assertions = []; symbols = p.sig; clauses = p.clauses }

pub starts_held : StartsHeld
starts_held p s sorted st = settled_held p (first_state p) s (first_built (certified p) p.user sorted).over st
