-- The lines of an event whose row is met make what the state behind it has.
use Rattle.std.proofs.Common.{◌≡◌, ℕ, zero, suc, ◌+◌, ◌<◌, ◌&&◌, Bool, true, false, cond, not, nat_lt, List, [], ◌∷◌, ◌++◌, drop, get_or, length, map, Some, inl, inr, refl, sym, ap, subst, ◌∙◌, append-nil, append_assoc, arith}
use Rattle.std.specs.Prelude.{Option, slice_get, slice_index}
use mathlib.Core.Bool.{beq}
use Rattle.std.specs.Option.{option_map}
use Rattle.std.specs.List.{list_all, list_any, range_with_len}
use Rattle.std.proofs.lemmas.Bool.{and_from, and_parts, ltb-true, not-true}
use Rattle.std.proofs.lemmas.List.{map-append}
use Rattle.std.proofs.lemmas.Option.{slice_get-map}
use Rattle.std.proofs.Math.Seq.{drop-append_seam}
use Rattle.fm_base.specs.Models.{IsElements}
use Rattle.fm_base.specs.Resolution.{Has, SameSet, opposite}
use Rattle.fm_base.specs.declared.ids.Lit.{Lit}
use Rattle.fm_base.specs.declared.ids.Reader.{Reader}
use Rattle.fm_base.specs.declared.ids.SortId.{SortId}
use Rattle.fm_base.specs.declared.signature.Sig.{Sig}
use Rattle.fm_base.specs.declared.signature.Ty.{Ty}
use Rattle.fm_base.proofs.Resolution.{AreNames, chain_named}
use Rattle.fm_bank.specs.Instances.{equality, ground_literals, is_substitution, types_of}
use Rattle.fm_bank.specs.Interning.{IsFront, are_atoms_after, first_places, is_same_atom, is_same_literal, lit_in, literals_grown, with_atoms, with_literal}
use Rattle.fm_bank.specs.Sorted.{are_sorted_literals, is_sorted_clause}
use Rattle.fm_bank.specs.Terms.{Term, application, are_of_types, are_terms, are_terms_after, is_same, is_term, is_type, numbers, type_of}
use Rattle.fm_bank.specs.declared.atom.Atom.{Atom}
use Rattle.fm_bank.specs.declared.clause.Clause.{Clause as FirstOrderClause}
use Rattle.fm_bank.specs.declared.literal.Literal.{Literal}
use Rattle.fm_bank.proofs.Atoms.{same_atom}
use Rattle.fm_bank.proofs.Growing.{atoms_fronts, front-refl, literals_fronts}
use Rattle.fm_bank.proofs.Instancing.{literals_put}
use Rattle.fm_bank.proofs.Once.{one_atom}
use Rattle.fm_bank.proofs.Sorts.{types_kept}
use Rattle.fm_cert.specs.Lines.{AreGoodLines, Made, Makes, MakesClause, with_clause as with_made}
use Rattle.fm_cert.specs.Lines.{opposite as other}
use Rattle.fm_cert.specs.declared.block.Line.{Line}
use Rattle.fm_rounds.specs.Failing.{named_of, rep_in}
use Rattle.fm_rounds.specs.Rounds.{Content, candidate_reading, reached, representatives, reps_of}
use Rattle.fm_rounds.proofs.Members.{any_in, in_filter, in_left}
use Rattle.fm_sat.specs.Learning.{LearntBy, Steps}
use Rattle.fm_sat.proofs.Chains.{chain_of}
use Rattle.fm_steps.specs.Facts.{AreClausesOver, AtomsAreKnown, IsLawful}
use Rattle.fm_steps.specs.Lemmas.{Due, IsDue, are_known}
use Rattle.fm_steps.specs.Lines.{Certified, IsSorted, IsWellHeld, RowsAreWritten, are_written, clause_in, due_line, learnt_lines, lines_from, literal_in, made_of, named_step, row_lines, searched, term_line}
use Rattle.fm_steps.specs.Picks.{Known}
use Rattle.fm_steps.specs.Rows.{Offer, Row, after_learning, content_at, instance_literals, with_instance}
use Rattle.fm_steps.specs.Runs.{term_id}
use Rattle.fm_steps.specs.Sizes.{lit}
use Rattle.fm_steps.specs.State.{Budget, Clause, State, know_all, with_literals}
use Rattle.fm_steps.proofs.Due.{all_in, line_of, numbers_ids, same_if}
use Rattle.fm_steps.proofs.Guarded.{places_from}
use Rattle.fm_steps.proofs.Lists.{Has-end, Has-get}
use Rattle.fm_steps.proofs.Numbers.{all_there, get_place}

-- lists
pub got : {X : Type 0} (xs : List X) (n : ℕ) (x d : X) → slice_get xs n ≡ Some x → get_or xs n d ≡ x
got [] n x d e = absurd (cc e)
got (y ∷ ys) zero x d e = cc e
got (y ∷ ys) (suc n) x d e = got ys n x d e

get_there : {X : Type 0} (xs : List X) (n : ℕ) (d : X) → n < length xs → slice_get xs n ≡ Some (get_or xs n d)
get_there [] n d lt = absurd (omega (arith, lt))
get_there (y ∷ ys) zero d lt = refl
get_there (y ∷ ys) (suc n) d lt = get_there ys n d (omega (arith, lt))

get_front : {X : Type 0} (xs ys : List X) (n : ℕ) (d : X) → n < length xs → get_or (xs ++ ys) n d ≡ get_or xs n d
get_front [] ys n d lt = absurd (omega (arith, lt))
get_front (x ∷ xs) ys zero d lt = refl
get_front (x ∷ xs) ys (suc n) d lt = get_front xs ys n d (omega (arith, lt))

pub has_place : {X : Type 0} (xs : List X) (x : X) → Has xs x → (i : ℕ) × (slice_get xs i ≡ Some x)
has_place [] x h = absurd h
has_place (y ∷ ys) x (inl e) = (0, ap Some e)
has_place (y ∷ ys) x (inr h) = let r = has_place ys x h in (suc r.0, r.1)

pub map_same : {X Y : Type 0} (f g : X → Y) (xs : List X) → ((x : X) → Has xs x → f x ≡ g x) → map f xs ≡ map g xs
map_same f g [] h = refl
map_same f g (x ∷ xs) h = λ i. h x (inl refl) i ∷ map_same f g xs (λ y q. h y (inr q)) i

map_back : {X Y : Type 0} (f : Y → X) (g : X → Y) (xs : List X) → ((x : X) → Has xs x → f (g x) ≡ x) → map f (map g xs) ≡ xs
map_back f g [] h = refl
map_back f g (x ∷ xs) h = λ i. h x (inl refl) i ∷ map_back f g xs (λ y q. h y (inr q)) i

-- what stays as atoms become known
literal_stays : (ls : List Literal) (atoms : List Atom) (l : Lit) → l.atom.0 < length atoms → literal_in (with_atoms atoms ls) l ≡ literal_in atoms l
literal_stays ls atoms l lt =
    let f = atoms_fronts ls atoms in
    ap (λ (a : Atom). record { positive = l.positive; atom = a }) (ap (λ (as' : List Atom). get_or as' l.atom.0 (Atom.Bound 0)) (sym f.1) ∙ get_front atoms f.0 l.atom.0 (Atom.Bound 0) lt)

pub clauses_stay : (ls : List Literal) (atoms : List Atom) (cs : List Clause) → AreClausesOver (length atoms) cs → map (clause_in (with_atoms atoms ls)) cs ≡ map (clause_in atoms) cs
clauses_stay ls atoms cs h =
    map_same (clause_in (with_atoms atoms ls)) (clause_in atoms) cs (λ c q. let at = has_place cs c q in
    map_same (literal_in (with_atoms atoms ls)) (literal_in atoms) c (λ l has. literal_stays ls atoms l (h at.0 c l at.1 has)))

literal_back : (ls : List Literal) (atoms : List Atom) (l : Literal) → Has ls l → literal_in (with_atoms atoms ls) (lit_in (with_atoms atoms ls) l) ≡ l
literal_back ls atoms l h =
    let now = with_atoms atoms ls in
    ap (λ (a : Atom). record { positive = l.positive; atom = a }) (got now _ l.atom (Atom.Bound 0) (get_place now l.atom (all_there ls atoms l h)))

-- a clause by its atoms is the one that was added
pub added_clause : (ls : List Literal) (atoms : List Atom) (cs : List Clause) → AreClausesOver (length atoms) cs → map (clause_in (with_atoms atoms ls)) (cs ++ map (lit_in (with_atoms atoms ls)) ls ∷ []) ≡ map (clause_in atoms) cs ++ ls ∷ []
added_clause ls atoms cs h =
    let now = with_atoms atoms ls in
    let last : clause_in now (map (lit_in now) ls) ≡ ls = map_back (literal_in now) (lit_in now) ls (λ l q. literal_back ls atoms l q) in
    map-append (clause_in now) cs (map (lit_in now) ls ∷ []) ∙ (λ i. clauses_stay ls atoms cs h i ++ last i ∷ [])

abbrev made : List Term → List (List Literal) → Made
made terms clauses = record { terms = terms; clauses = clauses }

pub made_known : (s : State) (ls : List Literal) → AtomsAreKnown s → made_of (know_all ls s) ≡ made_of s
made_known s ls a = ap (λ (cs : List (List Literal)). made s.held.terms cs) (clauses_stay ls s.held.atoms s.clauses a.clauses)

pub made_with : (s : State) (ls : List Literal) → AtomsAreKnown s → made_of (with_literals ls s) ≡ with_made (made_of s) ls
made_with s ls a = ap (λ (cs : List (List Literal)). made s.held.terms cs) (added_clause ls s.held.atoms s.clauses a.clauses)

-- lines
module _ (c : Certified) where
  pub good_append : (a : Made) (xs : List Line) (b : Made) (ys : List Line) (d : Made) → AreGoodLines c a xs b → AreGoodLines c b ys d → AreGoodLines c a (xs ++ ys) d
  good_append a [] b ys d h g = subst (λ (m : Made). AreGoodLines c m ys d) h g
  good_append a (x ∷ xs) b ys d h g = (h.0, h.1, good_append h.0 xs b ys d h.2 g)

  makes_by : (a : Made) (line : Line) (clause : List Literal) → MakesClause c a line clause → Makes c a line (with_made a clause)
  makes_by a (Line.Term f args) clause h = absurd h
  makes_by a (Line.Instance i subst') clause h = (clause, h, refl)
  makes_by a (Line.Equality lits support) clause h = (clause, h, refl)
  makes_by a (Line.Cardinality s k ts) clause h = (clause, h, refl)
  makes_by a (Line.Sum n ks) clause h = (clause, h, refl)
  makes_by a (Line.OrderCard s k) clause h = (clause, h, refl)
  makes_by a (Line.OrderBound n) clause h = (clause, h, refl)
  makes_by a (Line.OrderZero s) clause h = (clause, h, refl)
  makes_by a (Line.Resolution first steps) clause h = (clause, h, refl)

  pub one_line : (a : Made) (line : Line) (clause : List Literal) (b : Made) → MakesClause c a line clause → b ≡ with_made a clause → AreGoodLines c a (line ∷ []) b
  one_line a line clause b h e = (with_made a clause, makes_by a line clause h, e)

  -- a line for each new term
  pub terms_made : (terms rest : List Term) (clauses : List (List Literal)) → are_terms_after c.symbols terms rest ≡ true → AreGoodLines c (made terms clauses) (map term_line rest) (made (terms ++ rest) clauses)
  terms_made terms [] clauses e = ap (λ (ts : List Term). made ts clauses) (append-nil terms)
  terms_made terms (t ∷ ts) clauses e =
      let p = and_parts (is_term c.symbols terms t) (not (list_any (is_same t) terms) && are_terms_after c.symbols (terms ++ t ∷ []) ts) e in
      let q = and_parts (not (list_any (is_same t) terms)) (are_terms_after c.symbols (terms ++ t ∷ []) ts) p.1 in
      let same : t ≡ application (record { 0 = t.symbol }) (map term_id t.args) = ap (λ (ns : List ℕ). record { symbol = t.symbol; args = ns }) (sym (numbers_ids t.args)) in
      let here : Makes c (made terms clauses) (term_line t) (made (terms ++ t ∷ []) clauses) = (
        subst (λ (u : Term). (is_term c.symbols terms u ≡ true) × (list_any (is_same u) terms ≡ false)) same (p.0, not-true (list_any (is_same t) terms) q.0),
        ap (λ (u : Term). made (terms ++ u ∷ []) clauses) same,
      ) in
      let more = terms_made (terms ++ t ∷ []) ts clauses q.1 in
      (made (terms ++ t ∷ []) clauses, here, subst (λ (all : List Term). AreGoodLines c (made (terms ++ t ∷ []) clauses) (map term_line ts) (made all clauses)) (append_assoc terms (t ∷ []) ts) more)

  -- the terms behind others are good after them
  pub terms_back : (before xs ys : List Term) → are_terms_after c.symbols before (xs ++ ys) ≡ true → are_terms_after c.symbols (before ++ xs) ys ≡ true
  terms_back before [] ys e = subst (λ (ts : List Term). are_terms_after c.symbols ts ys ≡ true) (sym (append-nil before)) e
  terms_back before (x ∷ xs) ys e =
      let p = (and_parts (is_term c.symbols before x) (not (list_any (is_same x) before) && are_terms_after c.symbols (before ++ x ∷ []) (xs ++ ys)) e).1 in
      let q = (and_parts (not (list_any (is_same x) before)) (are_terms_after c.symbols (before ++ x ∷ []) (xs ++ ys)) p).1 in
      subst (λ (ts : List Term). are_terms_after c.symbols ts ys ≡ true) (append_assoc before (x ∷ []) xs) (terms_back (before ++ x ∷ []) xs ys q)

  pub more_made : (terms more : List Term) (clauses : List (List Literal)) → IsFront terms more → are_terms c.symbols more ≡ true → AreGoodLines c (made terms clauses) (lines_from (length terms) more) (made more clauses)
  more_made terms more clauses f e =
      let rest = f.0 in
      let back = terms_back [] terms rest (subst (λ (ts : List Term). are_terms c.symbols ts ≡ true) (sym f.1) e) in
      let lines : lines_from (length terms) more ≡ map term_line rest = ap (λ (ts : List Term). map term_line (drop (length terms) ts)) (sym f.1) ∙ ap (map term_line) (drop-append_seam terms rest) in
      subst (λ (ls : List Line). AreGoodLines c (made terms clauses) ls (made more clauses)) (sym lines) (subst (λ (ts : List Term). AreGoodLines c (made terms clauses) (map term_line rest) (made ts clauses)) f.1 (terms_made terms rest clauses back))

-- a literal without repeats
into_kept : (b : Bool) (kept : List Literal) (l k : Literal) → Has kept k → Has (cond b kept (kept ++ l ∷ [])) k
into_kept true kept l k h = h
into_kept false kept l k h = in_left k kept (l ∷ []) h

stays_kept : (ls kept : List Literal) (k : Literal) → Has kept k → Has (first_places kept ls) k
stays_kept [] kept k h = h
stays_kept (l ∷ ls) kept k h = stays_kept ls (with_literal kept l) k (into_kept (list_any (is_same_literal l) kept) kept l k h)

same_sign : (a b : Bool) → beq a b ≡ true → a ≡ b
same_sign true true e = refl
same_sign true false e = absurd (cc e)
same_sign false true e = absurd (cc e)
same_sign false false e = refl

pub same_literal : (k l : Literal) → is_same_literal k l ≡ true → k ≡ l
same_literal k l e =
    let p = and_parts (beq k.positive l.positive) (is_same_atom k.atom l.atom) e in
    let sign = same_sign k.positive l.positive p.0 in
    let atom = same_atom k.atom l.atom p.1 in
    λ i. record { positive = sign i; atom = atom i }

is_kept : (b : Bool) (kept : List Literal) (l : Literal) → list_any (is_same_literal l) kept ≡ b → Has (cond b kept (kept ++ l ∷ [])) l
is_kept true kept l e =
    let w = any_in (is_same_literal l) kept e in
    subst (Has kept) (sym (same_literal l w.0 w.2)) w.1
is_kept false kept l e = Has-end kept l

all_placed : (ls kept : List Literal) (k : Literal) → Has ls k → Has (first_places kept ls) k
all_placed [] kept k h = absurd h
all_placed (l ∷ ls) kept k (inl e) = stays_kept ls (with_literal kept l) k (subst (Has (with_literal kept l)) e (is_kept (list_any (is_same_literal l) kept) kept l refl))
all_placed (l ∷ ls) kept k (inr h) = all_placed ls (with_literal kept l) k h

pub placed_same : (ls : List Literal) → SameSet (first_places [] ls) ls
placed_same ls k = (λ h. elim (places_from [] ls k h) [ inl q ↦ absurd q | inr q ↦ q ], λ h. all_placed ls [] k h)

-- representatives are of the sorts for which they stand
index_has : (xs : List ℕ) (n : ℕ) → n < length xs → Has xs (slice_index xs n)
index_has [] n lt = absurd (omega (arith, lt))
index_has (x ∷ xs) zero lt = inl refl
index_has (x ∷ xs) (suc n) lt = inr (index_has xs n (omega (arith, lt)))

range_at : (a n i : ℕ) → i < n → slice_get (range_with_len a n) i ≡ Some (a + i)
range_at a zero i lt = absurd (omega (arith, lt))
range_at a (suc n) zero lt = ap Some (omega arith)
range_at a (suc n) (suc i) lt = range_at (a + 1) n i (omega (arith, lt)) ∙ ap Some (omega arith)

pub named_typed : (k : Content) (vars : List SortId) (xs : List ℕ) → list_all (λ (s : SortId). nat_lt s.0 k.sig.sorts) vars ≡ true → IsElements (candidate_reading k) vars xs → are_of_types k.sig k.terms (named_of (representatives k) vars xs) (types_of vars) ≡ true
named_typed k [] [] sorts h = refl
named_typed k [] (x ∷ xs) sorts h = absurd h
named_typed k (s ∷ ss) [] sorts h = absurd h
named_typed k (s ∷ ss) (x ∷ xs) sorts h =
    let p = and_parts (nat_lt s.0 k.sig.sorts) (list_all (λ (r : SortId). nat_lt r.0 k.sig.sorts) ss) sorts in
    let at : slice_get (representatives k) s.0 ≡ Some (reps_of k s.0) = slice_get-map (reps_of k) (range_with_len 0 k.sig.sorts) s.0 ∙ ap (option_map (reps_of k)) (range_at 0 k.sig.sorts s.0 (ltb-true s.0 k.sig.sorts p.0) ∙ ap Some (let z : 0 + s.0 ≡ s.0 = omega arith in z)) in
    let one : is_type (type_of k.sig k.terms (slice_index (reps_of k s.0) x)) (Ty.Of s) ≡ true = (in_filter {X = ℕ} (λ n. is_type (type_of k.sig k.terms n) (Ty.Of (record { 0 = s.0 }))) (slice_index (reps_of k s.0) x) (reached k).reps (index_has (reps_of k s.0) x h.0)).1 in
    and_from _ _ (subst (λ (o : Option (List ℕ)). is_type (type_of k.sig k.terms (rep_in o x)) (Ty.Of s) ≡ true) (sym at) one) (named_typed k ss xs p.1 h.1)

-- numbered literals under their atoms
names : (sig : Sig) (terms : List Term) (atoms : List Atom) → are_atoms_after sig terms [] atoms ≡ true → AreNames (literal_in atoms) opposite other (λ (l : Lit). l.atom.0 < length atoms)
names sig terms atoms good = record {
  signs = λ l. refl;
  apart = λ k l bk bl e.
      let same : get_or atoms k.atom.0 (Atom.Bound 0) ≡ get_or atoms l.atom.0 (Atom.Bound 0) = ap (λ (x : Literal). x.atom) e in
      let number : k.atom.0 ≡ l.atom.0 = one_atom sig terms atoms good k.atom.0 l.atom.0 (get_or atoms l.atom.0 (Atom.Bound 0)) (get_there atoms k.atom.0 (Atom.Bound 0) bk ∙ ap Some same) (get_there atoms l.atom.0 (Atom.Bound 0) bl) in
      let sign : k.positive ≡ l.positive = ap (λ (x : Literal). x.positive) e in
      λ i. record { atom = record { 0 = number i }; positive = sign i };
  closed = λ l b. b;
}

module _ (c : Certified) (user : ℕ) (s : State) (sorted : IsSorted (searched c user)) (lawful : IsLawful (searched c user) s) (w : IsWellHeld (searched c user) s) (fit : are_written s ≡ true) where
  abbrev over : Lit → Type 0
  over l = l.atom.0 < length s.held.atoms

  stored : (n : ℕ) (k : Clause) → slice_get s.clauses n ≡ Some k → slice_get (map (clause_in s.held.atoms) s.clauses) n ≡ Some (clause_in s.held.atoms k)
  stored n k e = slice_get-map (clause_in s.held.atoms) s.clauses n ∙ ap (option_map (clause_in s.held.atoms)) e

  learnt_line : (n : ℕ) (steps : Steps) (lits : Clause) (l : Lit) (level : ℕ) (t : State) → LearntBy s.clauses s.trail.entries n steps lits → t ≡ after_learning n steps lits l level s → AreGoodLines c (made_of s) (learnt_lines s.held.atoms n steps) (made_of t)
  learnt_line n [] lits l level t h e = ap made_of e
  learnt_line n (st ∷ sts) lits l level t h e =
      let atoms = s.held.atoms in
      let chain = chain_named (literal_in atoms) opposite other over (names s.held.sig s.held.terms atoms w.held.atoms_good) (λ i. i) s.clauses (map (clause_in atoms) s.clauses)
      (λ i k at. (λ l has. lawful.atoms.clauses i k l at has, (clause_in atoms k, stored i k at, same_if (clause_in atoms k) (clause_in atoms k) refl)))
      h.0 (st ∷ sts) lits (λ l has. lawful.atoms.clauses n h.0 l h.1 has) (chain_of 1 s.clauses s.trail.entries h.0 (st ∷ sts) lits h.2) in
      let good : MakesClause c (made_of s) (Line.Resolution n (map (named_step atoms) (st ∷ sts))) (clause_in atoms lits) = (λ none. absurd (cc none), (clause_in atoms h.0, stored n h.0 h.1, chain)) in
      let after : made_of t ≡ with_made (made_of s) (clause_in atoms lits) = ap made_of e ∙ ap (λ (cs : List (List Literal)). made s.held.terms cs) (map-append (clause_in atoms) s.clauses (lits ∷ [])) in
      one_line c (made_of s) (Line.Resolution n (map (named_step atoms) (st ∷ sts))) (clause_in atoms lits) (made_of t) good after

  lemma_line : (k : Known) (r : Reader) (d : Due) (ls : List Literal) (t : State) → are_known s ls ≡ true → (h : IsDue s k r d ls) → made_of t ≡ made_of (with_literals ls s) → AreGoodLines c (made_of s) (due_line s k r d ls h ∷ []) (made_of t)
  lemma_line k r d ls t known h e = one_line c (made_of s) (due_line s k r d ls h) ls (made_of t) (line_of c user s w fit k r d ls known h) (e ∙ made_with s ls lawful.atoms)

  -- the instance of a well sorted clause
  instance_line : (i : ℕ) (clause : FirstOrderClause) (subst' : List ℕ) (t : State) → slice_get c.clauses i ≡ Some clause → is_substitution c.symbols s.held.terms clause.vars subst' ≡ true → t ≡ with_instance i clause subst' s
      → AreGoodLines c (made_of s) (lines_from (length s.held.terms) t.held.terms ++ Line.Instance i (map term_id subst') ∷ []) (made_of t)
  instance_line i clause env t there typed e =
      let terms = s.held.terms in
      let g = literals_grown clause.lits env terms in
      let cs = map (clause_in s.held.atoms) s.clauses in
      let ls = instance_literals s.held clause env in
      let here : are_terms c.symbols terms ≡ true = subst (λ (sig : Sig). are_terms sig terms ≡ true) w.sig w.held.terms_good in
      let is = all_in (is_sorted_clause c.symbols) c.clauses clause sorted.clauses (Has-get c.clauses i clause there) in
      let lits = (and_parts _ (are_sorted_literals c.symbols clause.vars clause.lits) is).1 in
      let put = literals_put c.symbols clause.vars env clause.lits terms here typed lits in
      let front = literals_fronts clause.lits env terms in
      let more = more_made c terms g.0 cs front put.good in
      let kept : is_substitution c.symbols g.0 clause.vars (numbers (map term_id env)) ≡ true = subst (λ ns. is_substitution c.symbols g.0 clause.vars ns ≡ true) (sym (numbers_ids env)) (types_kept c.symbols terms g.0 env (types_of clause.vars) front typed) in
      let ground : ground_literals g.0 (numbers (map term_id env)) clause.lits ≡ Some g.1 = ap (λ ns. ground_literals g.0 ns clause.lits) (numbers_ids env) ∙ put.stay g.0 (front-refl g.0) in
      let good : MakesClause c (made g.0 cs) (Line.Instance i (map term_id env)) ls = (clause, g.1, there, (kept, ground), placed_same g.1) in
      let after : made_of (with_instance i clause env s) ≡ with_made (made g.0 cs) ls = ap (λ (ds : List (List Literal)). made g.0 ds) (added_clause ls s.held.atoms s.clauses lawful.atoms.clauses) in
      subst (λ (u : State). AreGoodLines c (made_of s) (lines_from (length s.held.terms) u.held.terms ++ Line.Instance i (map term_id env) ∷ []) (made_of u)) (sym e)
      (good_append c (made_of s) (lines_from (length terms) g.0) (made g.0 cs) (Line.Instance i (map term_id env) ∷ []) (made_of (with_instance i clause env s)) more (one_line c (made g.0 cs) (Line.Instance i (map term_id env)) ls (made_of (with_instance i clause env s)) good after))

  pub row_written : (b : Budget) (k : Known) (o : Offer) (t : State) → (r : Row (searched c user) b s k o t) → AreGoodLines c (made_of s) (row_lines (searched c user) b s k o t r) (made_of t)
  row_written b k (Offer.Learn n) t r = learnt_line n r.steps r.lits r.lit r.level t r.learnt r.after
  row_written b k (Offer.Unit' n) t r = ap made_of r.after
  row_written b k (Offer.Take e) t r = ap made_of r.after
  row_written b k (Offer.Lemma e d) t r = lemma_line k e d r.lits t r.known r.due (ap made_of r.after)
  row_written b k (Offer.Imply e d) t r = lemma_line k e d r.lits t r.known r.due (ap made_of r.after)
  row_written b k Offer.Turn t r = ap made_of r.after
  row_written b k (Offer.Decide l) t r = ap made_of r.after ∙ made_known s (l ∷ []) lawful.atoms
  row_written b k (Offer.Split a d) t r = ap made_of r.after ∙ made_known s (lit true (equality a d) ∷ []) lawful.atoms
  row_written b k (Offer.Instance i env) t r =
      let is = all_in (is_sorted_clause c.symbols) c.clauses r.clause sorted.clauses (Has-get c.clauses i r.clause r.there) in
      let vars = (and_parts (list_all (λ (v : SortId). nat_lt v.0 c.symbols.sorts) r.clause.vars) (are_sorted_literals c.symbols r.clause.vars r.clause.lits) is).0 in
      let typed : is_substitution c.symbols s.held.terms r.clause.vars env ≡ true = subst (λ ns. is_substitution c.symbols s.held.terms r.clause.vars ns ≡ true) r.named (named_typed (content_at (searched c user) s k) r.clause.vars r.elements vars r.within) in
      instance_line i r.clause env t r.there typed r.after
  row_written b k Offer.Raise t r = ap made_of r.after ∙ made_known s (lit true (Atom.Bound (s.bound + 1)) ∷ []) lawful.atoms
  row_written b k (Offer.Answer a) t r = ap made_of r.1

pub rows_are_written : RowsAreWritten
rows_are_written c user b s k o t sorted lawful w fit r = row_written c user s sorted lawful w fit b k o t r
