-- The terms of an instance are terms, have their arguments among them, but for the substitution's own, and have the terms of
-- its literals among them.
use Rattle.std.proofs.Common.{◌≡◌, ℕ, zero, suc, Bool, true, false, cond, List, [], ◌∷◌, ◌++◌, ◌⊎◌, map, Option, Some, None, refl, sym, subst, ap, ◌∙◌, inl, inr}
use Rattle.std.specs.Prelude.{nat_le, slice_get}
use Rattle.std.specs.List.{flat_map}
use Rattle.fm_base.specs.Resolution.{Has}
use Rattle.fm_base.specs.declared.ids.SymId.{SymId}
use Rattle.fm_base.specs.declared.formula.Patom.{Patom}
use Rattle.fm_base.specs.declared.formula.Pterm.{Pterm}
use Rattle.fm_base.specs.declared.formula.Pterm.TheOpen.{Pterm-F}
use Rattle.fm_base.specs.declared.formula.Pterm.TheViews.{roll-Pterm}
use Rattle.fm_base.specs.declared.formula.Pterm.TheFolds.{fold-roll-Pterm, ind-Pterm, map-Pterm}
use Rattle.fm_bank.specs.Instances.{Numbered, all_there, application_number, equality, equality_of, find_applied, ground_atom, ground_literals, literal_before, number_of, number_step, predicate_of, with_number}
use Rattle.fm_bank.specs.Terms.{Term, find}
use Rattle.fm_bank.specs.declared.atom.Atom.{Atom}
use Rattle.fm_bank.specs.declared.clause.Clause.{Clause}
use Rattle.fm_bank.specs.declared.clause.Plit.{Plit}
use Rattle.fm_bank.specs.declared.literal.Literal.{Literal}
use Rattle.fm_bank.proofs.InstanceTruth.{find_gives}
use Rattle.fm_rounds.specs.Grounds.{ArgumentsIn, AreTermsOf}
use Rattle.fm_rounds.specs.InstanceTerms.{Subterms, as_list, atom_terms, clause_terms, fresh_symbols, fresh_terms, ground_terms, numbers_in, subterms, subterms_step}
use Rattle.fm_rounds.specs.Soundness.{AllHaveTerms, HasTerms, InstanceTermsHold, StartTermsHold}
use Rattle.fm_rounds.proofs.Members.{in_either, in_left, in_right}

found_parts : (terms : List Term) (f : ℕ) (o : Option (List ℕ)) (n : ℕ) → find_applied terms f o ≡ Some n → (ns : List ℕ) × (o ≡ Some ns) × (slice_get terms n ≡ Some (record { symbol = f; args = ns }))
found_parts terms f None n e = cc
found_parts terms f (Some ns) n e = (ns, refl, find_gives terms (record { symbol = f; args = ns }) n e)

number_parts : (n : ℕ) (o : Option (List ℕ)) (ns : List ℕ) → with_number n o ≡ Some ns → (rest : List ℕ) × (o ≡ Some rest) × (ns ≡ n ∷ rest)
number_parts n None ns e = cc
number_parts n (Some rest) ns e = (rest, refl, sym (cc e))

there_parts : (o : Option ℕ) (os : List (Option ℕ)) (ns : List ℕ) → all_there (o ∷ os) ≡ Some ns → (n : ℕ) × (rest : List ℕ) × (o ≡ Some n) × (all_there os ≡ Some rest) × (ns ≡ n ∷ rest)
there_parts None os ns e = cc
there_parts (Some n) os ns e = let p = number_parts n (all_there os) ns e in (n, p.0, refl, p.1, p.2)

one_in : (o : Option ℕ) (n : ℕ) → Has (as_list o) n → o ≡ Some n
one_in None n h = absurd h
one_in (Some m) n (inl e) = ap Some e
one_in (Some m) n (inr h) = absurd h

pub in_one : (o : Option ℕ) (n : ℕ) → o ≡ Some n → Has (as_list o) n
in_one None n e = cc
in_one (Some m) n e = inl (cc e)

place_in : (ns : List ℕ) (v n : ℕ) → slice_get ns v ≡ Some n → Has ns n
place_in [] v n e = cc
place_in (m ∷ ns) zero n e = inl (cc e)
place_in (m ∷ ns) (suc v) n e = inr (place_in ns v n e)

args_append : (terms : List Term) (xs ys others : List ℕ) → ArgumentsIn terms xs others → ArgumentsIn terms ys others → ArgumentsIn terms (xs ++ ys) others
args_append terms xs ys others hx hy n k t i e a = elim (in_either n xs ys i) [
  | inl left ↦ elim (hx n k t left e a) [ inl s ↦ inl s | inr r ↦ elim r [ inl j ↦ inr (inl (in_left k xs ys j)) | inr j ↦ inr (inr j) ] ]
  | inr right ↦ elim (hy n k t right e a) [ inl s ↦ inl s | inr r ↦ elim r [ inl j ↦ inr (inl (in_right k xs ys j)) | inr j ↦ inr (inr j) ] ]
]

terms_append : (terms : List Term) (xs ys : List ℕ) → AreTermsOf terms xs → AreTermsOf terms ys → AreTermsOf terms (xs ++ ys)
terms_append terms xs ys hx hy n i = elim (in_either n xs ys i) [ inl left ↦ hx n left | inr right ↦ hy n right ]

terms_left : (xs ys : List ℕ) (a : Atom) → HasTerms xs a → HasTerms (xs ++ ys) a
terms_left xs ys (Atom.Equal a b) (ha, hb) = (in_left a.0 xs ys ha, in_left b.0 xs ys hb)
terms_left xs ys (Atom.Pred t) h = in_left t.0 xs ys h
terms_left xs ys (Atom.Card s k) h = tt
terms_left xs ys (Atom.Bound n) h = tt

terms_right : (xs ys : List ℕ) (a : Atom) → HasTerms ys a → HasTerms (xs ++ ys) a
terms_right xs ys (Atom.Equal a b) (ha, hb) = (in_right a.0 xs ys ha, in_right b.0 xs ys hb)
terms_right xs ys (Atom.Pred t) h = in_right t.0 xs ys h
terms_right xs ys (Atom.Card s k) h = tt
terms_right xs ys (Atom.Bound n) h = tt

all_right : (xs ys : List ℕ) (ls : List Literal) → AllHaveTerms ys ls → AllHaveTerms (xs ++ ys) ls
all_right xs ys [] h = tt
all_right xs ys (l ∷ ls) (one, h) = (terms_right xs ys l.atom one, all_right xs ys ls h)

module _ (terms : List Term) (env : List ℕ) where
  abbrev run : Subterms → Option ℕ × List ℕ
  run t = t terms env

  abbrev IsFine : Option ℕ × List ℕ → Type 0
  IsFine r = ((n : ℕ) → r.0 ≡ Some n → Has r.1 n) × ArgumentsIn terms r.1 env

  abbrev AllFine : List Subterms → Type 0
  AllFine [] = Unit {0}
  AllFine (t ∷ ts) = IsFine (run t) × AllFine ts

  abbrev below : List Subterms → List ℕ
  below ts = flat_map (λ (t : Subterms). (t terms env).1) ts

  numbers_below : (ts : List Subterms) (ns : List ℕ) (k : ℕ) → AllFine ts → all_there (map (λ (t : Subterms). (t terms env).0) ts) ≡ Some ns → Has ns k → Has (below ts) k
  numbers_below [] ns k h e i = let same : [] ≡ ns = cc e in subst (λ l. Has l k) (sym same) i
  numbers_below (t ∷ ts) ns k (one, h) e i =
      let p = there_parts (run t).0 (map (λ (t : Subterms). (t terms env).0) ts) ns e in
      elim (subst (λ l. Has l k) p.4 i) [
        | inl s ↦ in_left k (run t).1 (below ts) (one.0 k (p.2 ∙ ap Some s))
        | inr j ↦ in_right k (run t).1 (below ts) (numbers_below ts p.1 k h p.3 j)
      ]

  below_closed : (ts : List Subterms) → AllFine ts → ArgumentsIn terms (below ts) env
  below_closed [] h = λ n k t i e a. absurd i
  below_closed (t ∷ ts) (one, h) = args_append terms (run t).1 (below ts) env one.1 (below_closed ts h)

  itself_closed : (f : ℕ) (ts : List Subterms) → AllFine ts → (n k : ℕ) (t : Term) → find_applied terms f (numbers_in ts terms env) ≡ Some n → slice_get terms n ≡ Some t → Has t.args k → Has (below ts) k
  itself_closed f ts h n k t is e a =
      let p = found_parts terms f (numbers_in ts terms env) n is in
      let same : t ≡ record { symbol = f; args = p.0 } = cc (sym e ∙ p.2) in
      numbers_below ts p.0 k h p.1 (subst (λ (u : Term). Has u.args k) same a)

  applied_closed : (f : SymId) (ts : List Subterms) → AllFine ts → (n k : ℕ) (t : Term) → Has (below ts) n ⊎ Has (as_list (find_applied terms f.0 (numbers_in ts terms env))) n → slice_get terms n ≡ Some t → Has t.args k → Has env n ⊎ (Has (below ts ++ as_list (find_applied terms f.0 (numbers_in ts terms env))) k ⊎ Has env k)
  applied_closed f ts h n k t (inl i) e a = elim (below_closed ts h n k t i e a) [ inl s ↦ inl s | inr r ↦ elim r [ inl j ↦ inr (inl (in_left k (below ts) (as_list (find_applied terms f.0 (numbers_in ts terms env))) j)) | inr j ↦ inr (inr j) ] ]
  applied_closed f ts h n k t (inr i) e a = inr (inl (in_left k (below ts) (as_list (find_applied terms f.0 (numbers_in ts terms env))) (itself_closed f.0 ts h n k t (one_in (find_applied terms f.0 (numbers_in ts terms env)) n i) e a)))

  pub app_fine : (f : SymId) (ts : List Subterms) → AllFine ts → IsFine (subterms_step (Pterm-F.App f ts) terms env)
  app_fine f ts h =
      let o = find_applied terms f.0 (numbers_in ts terms env) in
      ((λ n e. in_right n (below ts) (as_list o) (in_one o n e)), (λ n k t i e a. applied_closed f ts h n k t (in_either n (below ts) (as_list o) i) e a))

  var_fine : (v : ℕ) → IsFine (subterms_step (Pterm-F.Var v) terms env)
  var_fine v = ((λ n e. in_one (slice_get env v) n e), (λ n k t i e a. inl (place_in env v n (one_in (slice_get env v) n i))))

  abbrev Fine : Pterm → Type 0
  Fine t = IsFine (subterms t terms env)

  abbrev Fines : Type 0
  Fines = (t : Pterm) × Fine t

  abbrev plain : List Fines → List Pterm
  plain ys = map (λ (e : Fines). e.0) ys

  all_fine : (ys : List Fines) → AllFine (map subterms (plain ys))
  all_fine [] = tt
  all_fine (y ∷ ys) = (y.1, all_fine ys)

  fine_layer : (y : Pterm-F Fines) (x : Pterm-F Pterm) → map-Pterm Fines Pterm (λ e. e.0) y ≡ x → Fine (roll-Pterm x)
  fine_layer (Pterm-F.Var v) x is = subst (λ (z : Pterm-F Pterm). Fine (roll-Pterm z)) is (subst IsFine (sym (ap (λ (k : Subterms). k terms env) (fold-roll-Pterm Subterms subterms_step (Pterm-F.Var v)))) (var_fine v))
  fine_layer (Pterm-F.App f ys) x is = subst (λ (z : Pterm-F Pterm). Fine (roll-Pterm z)) is (subst IsFine (sym (ap (λ (k : Subterms). k terms env) (fold-roll-Pterm Subterms subterms_step (Pterm-F.App f (plain ys))))) (app_fine f (map subterms (plain ys)) (all_fine ys)))

  fine : (t : Pterm) → Fine t
  fine = ind-Pterm Fine (λ x y is. fine_layer y x is)

  list_fine : (ts : List Pterm) → AllFine (map subterms ts)
  list_fine [] = tt
  list_fine (t ∷ ts) = (fine t, list_fine ts)

  atom_closed : (a : Patom) → ArgumentsIn terms (atom_terms terms env a) env
  atom_closed (Patom.Pred p ts) = (app_fine p (map subterms ts) (list_fine ts)).1
  atom_closed (Patom.Equal a b) = args_append terms (subterms a terms env).1 (subterms b terms env).1 env (fine a).1 (fine b).1

  pub clause_closed : (lits : List Plit) → ArgumentsIn terms (clause_terms terms env lits) env
  clause_closed [] = λ n k t i e a. absurd i
  clause_closed (l ∷ ls) = args_append terms (atom_terms terms env l.atom) (clause_terms terms env ls) env (atom_closed l.atom) (clause_closed ls)

  -- the number of a term is the bank's
  abbrev IsNumber : Pterm → Type 0
  IsNumber t = (subterms t terms env).0 ≡ number_of t terms env

  abbrev Numbereds : Type 0
  Numbereds = (t : Pterm) × IsNumber t

  abbrev alone : List Numbereds → List Pterm
  alone ys = map (λ (e : Numbereds). e.0) ys

  numbers_alike : (ys : List Numbereds) → map (λ (t : Subterms). (t terms env).0) (map subterms (alone ys)) ≡ map (λ (k : Numbered). k terms env) (map number_of (alone ys))
  numbers_alike [] = refl
  numbers_alike (y ∷ ys) =
      let here : (subterms y.0 terms env).0 ≡ number_of y.0 terms env = y.1 in
      let rest = numbers_alike ys in
      λ i. here i ∷ rest i

  number_layer : (y : Pterm-F Numbereds) (x : Pterm-F Pterm) → map-Pterm Numbereds Pterm (λ e. e.0) y ≡ x → IsNumber (roll-Pterm x)
  number_layer (Pterm-F.Var v) x is = subst (λ (z : Pterm-F Pterm). IsNumber (roll-Pterm z)) is (ap (λ (k : Subterms). (k terms env).0) (fold-roll-Pterm Subterms subterms_step (Pterm-F.Var v)) ∙ sym (ap (λ (k : Numbered). k terms env) (fold-roll-Pterm Numbered number_step (Pterm-F.Var v))))
  number_layer (Pterm-F.App f ys) x is = subst (λ (z : Pterm-F Pterm). IsNumber (roll-Pterm z)) is (ap (λ (k : Subterms). (k terms env).0) (fold-roll-Pterm Subterms subterms_step (Pterm-F.App f (alone ys))) ∙ ap (λ os. find_applied terms f.0 (all_there os)) (numbers_alike ys) ∙ sym (ap (λ (k : Numbered). k terms env) (fold-roll-Pterm Numbered number_step (Pterm-F.App f (alone ys)))))

  is_number : (t : Pterm) → IsNumber t
  is_number = ind-Pterm IsNumber (λ x y is. number_layer y x is)

  list_numbers : (ts : List Pterm) → map (λ (t : Subterms). (t terms env).0) (map subterms ts) ≡ map (λ (k : Numbered). k terms env) (map number_of ts)
  list_numbers [] = refl
  list_numbers (t ∷ ts) = let here = is_number t in let rest = list_numbers ts in λ i. here i ∷ rest i

  predicate_in : (p : SymId) (ts : List Pterm) (o : Option ℕ) (a : Atom) → application_number p.0 ts terms env ≡ o → predicate_of o ≡ Some a → HasTerms (atom_terms terms env (Patom.Pred p ts)) a
  predicate_in p ts None a is e = cc e
  predicate_in p ts (Some n) a is e =
      let there : find_applied terms p.0 (numbers_in (map subterms ts) terms env) ≡ Some n = ap (λ os. find_applied terms p.0 (all_there os)) (list_numbers ts) ∙ is in
      let same : Atom.Pred (record { 0 = n }) ≡ a = cc e in
      subst (HasTerms (atom_terms terms env (Patom.Pred p ts))) same ((app_fine p (map subterms ts) (list_fine ts)).0 n there)

  sides_in : (xs : List ℕ) (m n : ℕ) (b : Bool) → Has xs m → Has xs n → HasTerms xs (cond b (Atom.Equal (record { 0 = m }) (record { 0 = n })) (Atom.Equal (record { 0 = n }) (record { 0 = m })))
  sides_in xs m n true hm hn = (hm, hn)
  sides_in xs m n false hm hn = (hn, hm)

  equality_in : (s t : Pterm) (o q : Option ℕ) (a : Atom) → number_of s terms env ≡ o → number_of t terms env ≡ q → equality_of o q ≡ Some a → HasTerms (atom_terms terms env (Patom.Equal s t)) a
  equality_in s t None q a is it e = cc e
  equality_in s t (Some m) None a is it e = cc e
  equality_in s t (Some m) (Some n) a is it e =
      let left = (subterms s terms env).1 in
      let right = (subterms t terms env).1 in
      let same : equality m n ≡ a = cc e in
      subst (HasTerms (left ++ right)) same (sides_in (left ++ right) m n (nat_le m n) (in_left m left right ((fine s).0 m (is_number s ∙ is))) (in_right n left right ((fine t).0 n (is_number t ∙ it))))

  atom_in : (a : Patom) (b : Atom) → ground_atom terms env a ≡ Some b → HasTerms (atom_terms terms env a) b
  atom_in (Patom.Pred p ts) b e = predicate_in p ts (application_number p.0 ts terms env) b refl e
  atom_in (Patom.Equal s t) b e = equality_in s t (number_of s terms env) (number_of t terms env) b refl refl e

  parts_in : (l : Plit) (lits : List Plit) (ls : List Literal) (o : Option Atom) (r : Option (List Literal)) → ((ms : List Literal) → ground_literals terms env lits ≡ Some ms → AllHaveTerms (clause_terms terms env lits) ms)
      → ground_atom terms env l.atom ≡ o → ground_literals terms env lits ≡ r → literal_before l.positive o r ≡ Some ls → AllHaveTerms (clause_terms terms env (l ∷ lits)) ls
  parts_in l lits ls None r ih is more e = cc e
  parts_in l lits ls (Some a) None ih is more e = cc e
  parts_in l lits ls (Some a) (Some ms) ih is more e =
      let first = atom_terms terms env l.atom in
      let rest = clause_terms terms env lits in
      let here : Literal = record { positive = l.positive; atom = a } in
      let same : here ∷ ms ≡ ls = cc e in
      subst (AllHaveTerms (first ++ rest)) same (terms_left first rest a (atom_in l.atom a is), all_right first rest ms (ih ms more))

  pub literals_in : (lits : List Plit) (ls : List Literal) → ground_literals terms env lits ≡ Some ls → AllHaveTerms (clause_terms terms env lits) ls
  literals_in [] ls e = let same : [] ≡ ls = cc e in subst (AllHaveTerms []) same tt
  literals_in (l ∷ lits) ls e = parts_in l lits ls (ground_atom terms env l.atom) (ground_literals terms env lits) (λ ms more. literals_in lits ms more) refl refl e

  -- each number is a term's, where those of the substitution are
  module _ (known : AreTermsOf terms env) where
    abbrev AllThere : List Subterms → Type 0
    AllThere [] = Unit {0}
    AllThere (t ∷ ts) = AreTermsOf terms (run t).1 × AllThere ts

    below_there : (ts : List Subterms) → AllThere ts → AreTermsOf terms (below ts)
    below_there [] h = λ n i. absurd i
    below_there (t ∷ ts) (one, h) = terms_append terms (run t).1 (below ts) one (below_there ts h)

    app_there : (f : SymId) (ts : List Subterms) → AllThere ts → AreTermsOf terms (subterms_step (Pterm-F.App f ts) terms env).1
    app_there f ts h =
        let o = find_applied terms f.0 (numbers_in ts terms env) in
        terms_append terms (below ts) (as_list o) (below_there ts h) (λ n i. let p = found_parts terms f.0 (numbers_in ts terms env) n (one_in o n i) in (record { symbol = f.0; args = p.0 }, p.2))

    var_there : (v : ℕ) → AreTermsOf terms (subterms_step (Pterm-F.Var v) terms env).1
    var_there v n i = known n (place_in env v n (one_in (slice_get env v) n i))

    abbrev IsThere : Pterm → Type 0
    IsThere t = AreTermsOf terms (subterms t terms env).1

    abbrev Theres : Type 0
    Theres = (t : Pterm) × IsThere t

    abbrev bare : List Theres → List Pterm
    bare ys = map (λ (e : Theres). e.0) ys

    all_there_in : (ys : List Theres) → AllThere (map subterms (bare ys))
    all_there_in [] = tt
    all_there_in (y ∷ ys) = (y.1, all_there_in ys)

    there_layer : (y : Pterm-F Theres) (x : Pterm-F Pterm) → map-Pterm Theres Pterm (λ e. e.0) y ≡ x → IsThere (roll-Pterm x)
    there_layer (Pterm-F.Var v) x is = subst (λ (z : Pterm-F Pterm). IsThere (roll-Pterm z)) is (subst (λ (r : Option ℕ × List ℕ). AreTermsOf terms r.1) (sym (ap (λ (k : Subterms). k terms env) (fold-roll-Pterm Subterms subterms_step (Pterm-F.Var v)))) (var_there v))
    there_layer (Pterm-F.App f ys) x is = subst (λ (z : Pterm-F Pterm). IsThere (roll-Pterm z)) is (subst (λ (r : Option ℕ × List ℕ). AreTermsOf terms r.1) (sym (ap (λ (k : Subterms). k terms env) (fold-roll-Pterm Subterms subterms_step (Pterm-F.App f (bare ys))))) (app_there f (map subterms (bare ys)) (all_there_in ys)))

    is_there : (t : Pterm) → IsThere t
    is_there = ind-Pterm IsThere (λ x y is. there_layer y x is)

    list_there : (ts : List Pterm) → AllThere (map subterms ts)
    list_there [] = tt
    list_there (t ∷ ts) = (is_there t, list_there ts)

    atom_there : (a : Patom) → AreTermsOf terms (atom_terms terms env a)
    atom_there (Patom.Pred p ts) = app_there p (map subterms ts) (list_there ts)
    atom_there (Patom.Equal a b) = terms_append terms (subterms a terms env).1 (subterms b terms env).1 (is_there a) (is_there b)

    pub clause_there : (lits : List Plit) → AreTermsOf terms (clause_terms terms env lits)
    clause_there [] = λ n i. absurd i
    clause_there (l ∷ ls) = terms_append terms (atom_terms terms env l.atom) (clause_terms terms env ls) (atom_there l.atom) (clause_there ls)

pub instance_terms_hold : InstanceTermsHold
instance_terms_hold terms subst lits = record { there = λ known. clause_there terms subst known lits; closed = clause_closed terms subst lits; atoms = literals_in terms subst lits }

-- the terms at the start
none_there : (terms : List Term) → AreTermsOf terms []
none_there terms n i = absurd i

grounds_there : (terms : List Term) (clauses : List Clause) → AreTermsOf terms (ground_terms clauses terms)
grounds_there terms [] = none_there terms
grounds_there terms (k ∷ ks) = terms_append terms (clause_terms terms [] k.lits) (ground_terms ks terms) (clause_there terms [] (none_there terms) k.lits) (grounds_there terms ks)

grounds_closed : (terms : List Term) (clauses : List Clause) → ArgumentsIn terms (ground_terms clauses terms) []
grounds_closed terms [] = λ n k t i e a. absurd i
grounds_closed terms (k ∷ ks) = args_append terms (clause_terms terms [] k.lits) (ground_terms ks terms) [] (clause_closed terms [] k.lits) (grounds_closed terms ks)

abbrev constants : List Term → List ℕ → List ℕ
constants terms fs = flat_map (λ f. as_list (find terms (record { symbol = f; args = [] }))) fs

constant_is : (terms : List Term) (f n : ℕ) → Has (as_list (find terms (record { symbol = f; args = [] }))) n → slice_get terms n ≡ Some (record { symbol = f; args = [] })
constant_is terms f n i = find_gives terms (record { symbol = f; args = [] }) n (one_in (find terms (record { symbol = f; args = [] })) n i)

constants_there : (terms : List Term) (fs : List ℕ) → AreTermsOf terms (constants terms fs)
constants_there terms [] = none_there terms
constants_there terms (f ∷ fs) = terms_append terms (as_list (find terms (record { symbol = f; args = [] }))) (constants terms fs) (λ n i. (record { symbol = f; args = [] }, constant_is terms f n i)) (constants_there terms fs)

constants_closed : (terms : List Term) (fs : List ℕ) → ArgumentsIn terms (constants terms fs) []
constants_closed terms [] = λ n k t i e a. absurd i
constants_closed terms (f ∷ fs) = args_append terms (as_list (find terms (record { symbol = f; args = [] }))) (constants terms fs) []
    (λ n k t i e a.
    let same : t ≡ record { symbol = f; args = [] } = cc (sym e ∙ constant_is terms f n i) in
    absurd (subst (λ (u : Term). Has u.args k) same a))
    (constants_closed terms fs)

pub start_terms_hold : StartTermsHold
start_terms_hold set terms = record {
  there = terms_append terms (ground_terms set.clauses terms) (fresh_terms set terms) (grounds_there terms set.clauses) (constants_there terms (fresh_symbols set));
  closed = args_append terms (ground_terms set.clauses terms) (fresh_terms set terms) [] (grounds_closed terms set.clauses) (constants_closed terms (fresh_symbols set));
}
