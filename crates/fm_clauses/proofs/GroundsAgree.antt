-- The sorts of the ground terms of clauses, by the clauses and by the terms that are put in for them.
use Rattle.std.proofs.Common.{◌≡◌, ℕ, Bool, true, false, ◌&&◌, ◌||◌, List, [], ◌∷◌, ◌++◌, map, Option, Some, None, ap, refl, sym, ◌∙◌}
use Rattle.std.specs.Prelude.{if◌then◌else◌, is_some, slice_get}
use Rattle.std.specs.List.{list_any}
use Rattle.std.proofs.lemmas.Bool.{and_parts, false≢true}
use Rattle.std.proofs.lemmas.List.Folds.{list_any-append}
use Rattle.fm_base.specs.Truth.{is_bool}
use Rattle.fm_base.specs.declared.ids.SymId.{SymId}
use Rattle.fm_base.specs.declared.ids.SortId.{SortId}
use Rattle.fm_base.specs.declared.signature.Rank.{Rank}
use Rattle.fm_base.specs.declared.signature.Sig.{Sig}
use Rattle.fm_base.specs.declared.signature.Ty.{Ty}
use Rattle.fm_base.specs.declared.formula.Patom.{Patom}
use Rattle.fm_base.specs.declared.formula.Pterm
use Rattle.fm_base.specs.declared.formula.Pterm.{Pterm}
use Rattle.fm_base.specs.declared.formula.Pterm.TheOpen.{Pterm-F}
use Rattle.fm_base.specs.declared.formula.Pterm.TheFolds.{fold-roll-Pterm}
use Rattle.fm_base.proofs.NormalTerms.{Each, every, term_induction}
use Rattle.fm_bank.specs.GroundTerms.{ground_applied, ground_atom_grown, ground_grown, ground_literals_grown, number_more, terms_ground_grown}
use Rattle.fm_bank.specs.Interning.{with_term}
use Rattle.fm_bank.specs.Sorted.{are_sorted_literals, is_sorted_atom, is_sorted_clause, sort_of}
use Rattle.fm_bank.specs.Terms.{Term, is_same, is_type, result_type}
use Rattle.fm_bank.specs.declared.clause.Clause.{Clause}
use Rattle.fm_bank.specs.declared.clause.Plit.{Plit}
use Rattle.fm_bank.proofs.GroundGrowing.{ground_of_app, ground_of_var}
use Rattle.fm_bank.proofs.Keys.{same_term}
use Rattle.fm_nnf.proofs.Sorting.{bool_is, predicate_parts}
use Rattle.fm_clauses.specs.Assertions.{Grounds, all_ground, all_grounds, atom_has_ground, clause_has_ground, grounds, grounds_step, has_ground, is_result, is_type as is_type_of, some_of_sort}
use Rattle.fm_clauses.specs.GroundLaw.{GroundTermsAgree, clauses_ground_grown, has_term_of, is_term_of}
use Rattle.fm_clauses.specs.SortLaw.{are_sorted_clauses}

pub grounds_of_var : (sig : Sig) (v : ℕ) → grounds sig (Pterm.Var v) ≡ grounds_step sig (Pterm-F.Var v)
unfolding Pterm.roll-Pterm denote.Hole.Carrier.roll
grounds_of_var sig v = fold-roll-Pterm Grounds (grounds_step sig) (Pterm-F.Var v)

pub grounds_of_app : (sig : Sig) (f : SymId) (ts : List Pterm) → grounds sig (Pterm.App f ts) ≡ grounds_step sig (Pterm-F.App f (all_grounds sig ts))
unfolding Pterm.roll-Pterm denote.Hole.Carrier.roll
grounds_of_app sig f ts = fold-roll-Pterm Grounds (grounds_step sig) (Pterm-F.App f ts)

-- "or" and "and" of truth values

or_assoc : (a b c : Bool) → ((a || b) || c) ≡ (a || (b || c))
or_assoc true b c = refl
or_assoc false b c = refl

or_none : (a : Bool) → (a || false) ≡ a
or_none true = refl
or_none false = refl

or_once : (a b : Bool) → (a || b) ≡ ((a || b) || a)
or_once true b = refl
or_once false true = refl
or_once false false = refl

or_swap : (a b c : Bool) → ((a || b) || c) ≡ (a || (c || b))
or_swap true b c = refl
or_swap false true true = refl
or_swap false true false = refl
or_swap false false true = refl
or_swap false false false = refl

some_both : (o : Option ℕ) (ns : Option (List ℕ)) → is_some (number_more o ns) ≡ (is_some o && is_some ns)
some_both None ns = refl
some_both (Some n) None = refl
some_both (Some n) (Some ns) = refl

module _ (sig : Sig) (s : ℕ) where
  abbrev test : Term → Bool
  test = is_term_of sig s

  abbrev has : List Term → Bool
  has = has_term_of sig s

  -- a term that is there changes nothing
  already_step : (t x : Term) (xs : List Term) (b : Bool) → is_same t x ≡ b → (b || list_any (is_same t) xs) ≡ true → (list_any (is_same t) xs ≡ true → has xs ≡ (has xs || test t)) → has (x ∷ xs) ≡ (has (x ∷ xs) || test t)
  already_step t x xs true e h go = or_once (test x) (has xs) ∙ ap (λ (y : Term). (test x || has xs) || test y) (sym (same_term t x e))
  already_step t x xs false e h go = ap (λ (b : Bool). test x || b) (go h) ∙ sym (or_assoc (test x) (has xs) (test t))

  already : (t : Term) (terms : List Term) → list_any (is_same t) terms ≡ true → has terms ≡ (has terms || test t)
  already t [] h = absurd (false≢true h)
  already t (x ∷ xs) h = already_step t x xs (is_same t x) refl h (already t xs)

  with_chosen : (t : Term) (terms : List Term) (b : Bool) → list_any (is_same t) terms ≡ b → has (if b then terms else terms ++ t ∷ []) ≡ (has terms || test t)
  with_chosen t terms true e = already t terms e
  with_chosen t terms false e = list_any-append test terms (t ∷ []) ∙ ap (λ (b : Bool). has terms || b) (or_none (test t))

  with_has : (terms : List Term) (t : Term) → has (with_term terms t) ≡ (has terms || test t)
  with_has terms t = with_chosen t terms (list_any (is_same t) terms) refl

  -- the type of a term, by the rank of its symbol
  type_same : (u : Ty) → is_type (Some u) (Ty.Of (record { 0 = s })) ≡ is_type_of u s
  type_same Ty.Bool = refl
  type_same (Ty.Of v) = refl

  result_same : (o : Option Rank) → is_type (result_type o) (Ty.Of (record { 0 = s })) ≡ is_result o s
  result_same None = refl
  result_same (Some rank) = type_same rank.result

  -- a term puts in ground terms of the sort where it has some, and has a number where it is ground
  record Grown (t : Pterm) (terms : List Term) : Type 0 where
    there : has (ground_grown t terms).0 ≡ (has terms || (grounds sig t).of_sort s)
    number : is_some (ground_grown t terms).1 ≡ (grounds sig t).ground

  record AllGrown (ts : List Pterm) (terms : List Term) : Type 0 where
    there : has (terms_ground_grown ts terms).0 ≡ (has terms || some_of_sort (all_grounds sig ts) s)
    number : is_some (terms_ground_grown ts terms).1 ≡ all_ground (all_grounds sig ts)

  abbrev P : Pterm → Type 0
  P t = (terms : List Term) → Grown t terms

  all_grown : (ts : List Pterm) → Each P ts → (terms : List Term) → AllGrown ts terms
  all_grown [] each terms = record { there = sym (or_none (has terms)); number = refl }
  all_grown (t ∷ ts) each terms =
      let one = each.0 terms in
      let mid = (ground_grown t terms).0 in
      let rest = all_grown ts each.1 mid in
      let a = one.number in
      let b = rest.number in
      record {
        there = rest.there ∙ ap (λ (x : Bool). x || some_of_sort (all_grounds sig ts) s) one.there ∙ or_assoc (has terms) ((grounds sig t).of_sort s) (some_of_sort (all_grounds sig ts) s);
        number = some_both (ground_grown t terms).1 (terms_ground_grown ts mid).1 ∙ (λ i. a i && b i);
      }

  -- a symbol applied to terms
  applied_there : (f : ℕ) (before terms : List Term) (o : Option (List ℕ)) (ground some : Bool) → is_some o ≡ ground → has terms ≡ (has before || some)
      → has (ground_applied f terms o).0 ≡ (has before || ((ground && is_result (slice_get sig.ranks f) s) || some))
  applied_there f before terms None ground some e h = h ∙ ap (λ (b : Bool). has before || ((b && is_result (slice_get sig.ranks f) s) || some)) e
  applied_there f before terms (Some args) ground some e h =
      with_has terms (record { symbol = f; args = args }) ∙ (λ i. h i || result_same (slice_get sig.ranks f) i) ∙ or_swap (has before) some (is_result (slice_get sig.ranks f) s)
      ∙ ap (λ (b : Bool). has before || ((b && is_result (slice_get sig.ranks f) s) || some)) e

  applied_number : (f : ℕ) (terms : List Term) (o : Option (List ℕ)) → is_some (ground_applied f terms o).1 ≡ is_some o
  applied_number f terms None = refl
  applied_number f terms (Some args) = refl

  grown_var : (v : ℕ) → P (Pterm.Var v)
  grown_var v terms =
      let e = ground_of_var v terms in
      let g = grounds_of_var sig v in
      record {
        there = ap (λ (x : List Term × Option ℕ). has x.0) e ∙ sym (or_none (has terms)) ∙ ap (λ (x : Grounds). has terms || x.of_sort s) (sym g);
        number = ap (λ (x : List Term × Option ℕ). is_some x.1) e ∙ ap (λ (x : Grounds). x.ground) (sym g);
      }

  grown_app : (f : SymId) (ts : List Pterm) → Each P ts → P (Pterm.App f ts)
  grown_app f ts each terms =
      let e = ground_of_app f ts terms in
      let g = grounds_of_app sig f ts in
      let args = terms_ground_grown ts terms in
      let all = all_grown ts each terms in
      record {
        there = ap (λ (x : List Term × Option ℕ). has x.0) e ∙ applied_there f.0 terms args.0 args.1 (all_ground (all_grounds sig ts)) (some_of_sort (all_grounds sig ts) s) all.number all.there ∙ ap (λ (x : Grounds). has terms || x.of_sort s) (sym g);
        number = ap (λ (x : List Term × Option ℕ). is_some x.1) e ∙ applied_number f.0 args.0 args.1 ∙ all.number ∙ ap (λ (x : Grounds). x.ground) (sym g);
      }

  term_grown : (t : Pterm) → P t
  term_grown = term_induction P grown_var grown_app

  -- a predicate's term is of no sort
  no_result : (o : Option Rank) (rank : Rank) → o ≡ Some rank → is_bool rank.result ≡ true → is_result o s ≡ false
  no_result o rank e b = ap (λ (p : Option Rank). is_result p s) e ∙ ap (λ (u : Ty). is_type_of u s) (bool_is rank.result b)

  and_none : (a : Bool) → (a && false) ≡ false
  and_none true = refl
  and_none false = refl

  atom_grown : (scope : List SortId) (a : Patom) (terms : List Term) → is_sorted_atom sig scope a ≡ true → has (ground_atom_grown a terms) ≡ (has terms || atom_has_ground sig s a)
  atom_grown scope (Patom.Pred p ts) terms e =
      let q = predicate_parts (map sort_of ts) (slice_get sig.ranks p.0) sig scope e in
      let args = terms_ground_grown ts terms in
      let all = all_grown ts (every P term_grown ts) terms in
      let ground = all_ground (all_grounds sig ts) in
      let some = some_of_sort (all_grounds sig ts) s in
      applied_there p.0 terms args.0 args.1 ground some all.number all.there
      ∙ ap (λ (b : Bool). has terms || ((ground && b) || some)) (no_result (slice_get sig.ranks p.0) q.0 q.1 q.2) ∙ ap (λ (b : Bool). has terms || (b || some)) (and_none ground)
  atom_grown scope (Patom.Equal a b) terms e =
      let one = term_grown a terms in
      let two = term_grown b (ground_grown a terms).0 in
      two.there ∙ ap (λ (x : Bool). x || (grounds sig b).of_sort s) one.there ∙ or_assoc (has terms) ((grounds sig a).of_sort s) ((grounds sig b).of_sort s)

  literals_grown : (scope : List SortId) (ls : List Plit) (terms : List Term) → are_sorted_literals sig scope ls ≡ true → has (ground_literals_grown ls terms) ≡ (has terms || list_any (λ (l : Plit). atom_has_ground sig s l.atom) ls)
  literals_grown scope [] terms e = sym (or_none (has terms))
  literals_grown scope (l ∷ ls) terms e =
      let p = and_parts (is_sorted_atom sig scope l.atom) (are_sorted_literals sig scope ls) e in
      let rest = list_any (λ (k : Plit). atom_has_ground sig s k.atom) ls in
      literals_grown scope ls (ground_atom_grown l.atom terms) p.1 ∙ ap (λ (b : Bool). b || rest) (atom_grown scope l.atom terms p.0) ∙ or_assoc (has terms) (atom_has_ground sig s l.atom) rest

  clauses_grown : (cs : List Clause) (terms : List Term) → are_sorted_clauses sig cs ≡ true → has (clauses_ground_grown cs terms) ≡ (has terms || has_ground sig cs s)
  clauses_grown [] terms e = sym (or_none (has terms))
  clauses_grown (c ∷ cs) terms e =
      let p = and_parts (is_sorted_clause sig c) (are_sorted_clauses sig cs) e in
      let q = and_parts _ (are_sorted_literals sig c.vars c.lits) p.0 in
      clauses_grown cs (ground_literals_grown c.lits terms) p.1 ∙ ap (λ (b : Bool). b || has_ground sig cs s) (literals_grown c.vars c.lits terms q.1) ∙ or_assoc (has terms) (clause_has_ground sig s c) (has_ground sig cs s)

pub ground_terms_agree : GroundTermsAgree
ground_terms_agree sig clauses s e = sym (clauses_grown sig s clauses [] e)
