-- The clauses of a table are well sorted over its signature, whose ranks name its sorts.
use Rattle.std.proofs.Common.{◌≡◌, ℕ, zero, suc, ◌+◌, ◌≤◌, Bool, true, false, ◌&&◌, not, cond, List, [], ◌∷◌, ◌++◌, length, Some, refl, sym, subst, arith, length-append}
use Rattle.std.specs.Prelude.{nat_lt, slice_get}
use Rattle.std.specs.List.{list_all}
use Rattle.std.proofs.lemmas.Bool.{and_parts, and_from, lt-ltb}
use Rattle.std.proofs.lemmas.List.{append-nil}
use Rattle.fm_base.specs.Interpretations.{is_sort_of, names_its_sorts}
use Rattle.fm_base.specs.Truth.{is_bool, is_closed}
use Rattle.fm_base.specs.declared.ids.SortId.{SortId}
use Rattle.fm_base.specs.declared.signature.Rank.{Rank}
use Rattle.fm_base.specs.declared.signature.Sig.{Sig}
use Rattle.fm_base.specs.declared.signature.Ty.{Ty}
use Rattle.fm_base.specs.declared.formula.Formula.{Formula}
use Rattle.fm_nnf.specs.LiftLaw.{AreReady, with_ranks}
use Rattle.fm_nnf.specs.Lifting.{lifted}
use Rattle.fm_nnf.specs.NormalForm.{normal}
use Rattle.fm_nnf.specs.Plain.{is_plain}
use Rattle.fm_nnf.proofs.Joined.{grow_both, grow_extends, ready_more}
use Rattle.fm_nnf.proofs.Lifts.{lifting_ready}
use Rattle.fm_clauses.specs.Assertions.{assertion_made, assertions_made, clause_table, constant_of, form_made, forms_made, fresh_constants, has_ground}
use Rattle.fm_clauses.specs.SortLaw.{TablesAreSorted, TablesNameSorts, TablesTakeNoTruths, are_sorted_clauses, takes_no_truth}
use Rattle.fm_clauses.specs.Table.{Made, clauses_of_normal, node}
use Rattle.fm_clauses.proofs.LiftedRanks.{formula_lifts}
use Rattle.fm_clauses.proofs.ModelLaws.{closed_from}
use Rattle.fm_clauses.proofs.SortedClauses.{MadeSorted, clauses_stay, made_along, made_both, node_sorted, nothing_sorted}
use Rattle.fm_clauses.proofs.SortedForms.{AreProper, form_is_sorted, is_declared, is_proper}
use Rattle.fm_clauses.proofs.SortedTerms.{all_append, same_signature, types_of}
use Rattle.fm_clauses.proofs.Tables.{AllClosed}

-- a formula without term `ite`
form_sorted : (now : Sig) (f : Formula) → is_closed f now ≡ true → is_plain f ≡ true → MadeSorted now (form_made f (length now.ranks))
form_sorted now f closed plain =
    let next = length now.ranks in
    let n = normal f next in
    let big = with_ranks now n.1 in
    let x = form_is_sorted now f closed plain in
    let run = (node n.0).run [] [] in
    let k : MadeSorted big (run (next + length n.1)) = made_along big run (length big.ranks) (next + length n.1) (length-append now.ranks n.1) ((node_sorted n.0 big [] refl x.sorted).0 big [] (same_signature big) refl) in
    made_both now ([], n.1) (clauses_of_normal n.0 (next + length n.1)) (record { sorted = refl; proper = x.proper }) k

forms_sorted : (now : Sig) (fs : List Formula) → AreReady now fs → MadeSorted now (forms_made fs (length now.ranks))
forms_sorted now [] ready = nothing_sorted now
forms_sorted now (f ∷ fs) ready =
    let next = length now.ranks in
    let one = form_made f next in
    let mid = with_ranks now one.1 in
    let rest = forms_sorted mid fs (ready_more now mid fs (grow_extends now one.1) ready.2) in
    made_both now one (forms_made fs (next + length one.1)) (form_sorted now f ready.0 ready.1) (made_along mid (forms_made fs) (length mid.ranks) (next + length one.1) (length-append now.ranks one.1) rest)

-- ranks of declared sorts name them, and take no truth values

abbrev is_named : ℕ → Rank → Bool
is_named sorts r = list_all (is_sort_of sorts) r.args && is_sort_of sorts r.result

named_args : (sorts : ℕ) (ts : List Ty) → list_all (is_declared sorts) ts ≡ true → list_all (is_sort_of sorts) ts ≡ true
named_args sorts [] e = refl
named_args sorts (Ty.Bool ∷ ts) e = cc
named_args sorts (Ty.Of s ∷ ts) e = let p = and_parts (nat_lt s.0 sorts) (list_all (is_declared sorts) ts) e in and_from (nat_lt s.0 sorts) (list_all (is_sort_of sorts) ts) p.0 (named_args sorts ts p.1)

proper_named : (sorts : ℕ) (r : Rank) → is_proper sorts r ≡ true → is_named sorts r ≡ true
proper_named sorts r e = let p = and_parts (list_all (is_declared sorts) r.args) (is_sort_of sorts r.result) e in and_from (list_all (is_sort_of sorts) r.args) (is_sort_of sorts r.result) (named_args sorts r.args p.0) p.1

no_truth_args : (sorts : ℕ) (ts : List Ty) → list_all (is_declared sorts) ts ≡ true → list_all (λ (t : Ty). not (is_bool t)) ts ≡ true
no_truth_args sorts [] e = refl
no_truth_args sorts (Ty.Bool ∷ ts) e = cc
no_truth_args sorts (Ty.Of s ∷ ts) e = no_truth_args sorts ts (and_parts (nat_lt s.0 sorts) (list_all (is_declared sorts) ts) e).1

proper_no_truth : (sorts : ℕ) (r : Rank) → is_proper sorts r ≡ true → takes_no_truth r ≡ true
proper_no_truth sorts r e = no_truth_args sorts r.args (and_parts (list_all (is_declared sorts) r.args) (is_sort_of sorts r.result) e).0

all_weaker : {X : Type 0} (f g : X → Bool) → ((x : X) → f x ≡ true → g x ≡ true) → (xs : List X) → list_all f xs ≡ true → list_all g xs ≡ true
all_weaker f g h [] e = refl
all_weaker f g h (x ∷ xs) e = let p = and_parts (f x) (list_all f xs) e in and_from (g x) (list_all g xs) (h x p.0) (all_weaker f g h xs p.1)

all_at : {X : Type 0} (f : X → Bool) (xs : List X) (i : ℕ) (x : X) → list_all f xs ≡ true → slice_get xs i ≡ Some x → f x ≡ true
all_at f [] i x e h = cc
all_at f (y ∷ xs) zero x e h = let same : y ≡ x = cc in subst (λ z. f z ≡ true) same (and_parts (f y) (list_all f xs) e).0
all_at f (y ∷ xs) (suc i) x e h = all_at f xs i x (and_parts (f y) (list_all f xs) e).1 h

fresh_proper : (sorts n : ℕ) (has : ℕ → Bool) → n ≤ sorts → AreProper sorts (fresh_constants n has)
unfolding fresh_constants
fresh_proper sorts zero has le = refl
fresh_proper sorts (suc n) has le = all_append (is_proper sorts) (fresh_constants n has) (cond (has n) [] (constant_of n ∷ [])) (fresh_proper sorts n has (omega (arith, le))) (last (has n))
  where
    last : (b : Bool) → AreProper sorts (cond b [] (constant_of n ∷ []))
    last true = refl
    last false = and_from (nat_lt n sorts) true (lt-ltb n sorts (omega (arith, le))) refl

-- a table whose symbols' ranks are good, where those of declared sorts are, and those of the symbols for term `ite`s
module _ (sig : Sig) (good : Rank → Bool) (proper : (r : Rank) → is_proper sig.sorts r ≡ true → good r ≡ true) (of_choices : (f : Formula) → is_closed f sig ≡ true → (next : ℕ) → list_all good (lifted sig f next).ranks ≡ true) where
  record TableMade (now : Sig) (made : Made) : Type 0 where
    sorted : are_sorted_clauses (with_ranks now made.1) made.0 ≡ true
    ranks : list_all good made.1 ≡ true

  table_both : (now : Sig) (one two : Made) → TableMade now one → TableMade (with_ranks now one.1) two → TableMade now (one.0 ++ two.0, one.1 ++ two.1)
  table_both now one two x y =
      let mid = with_ranks now one.1 in
      let all = grow_both now one.1 two.1 in
      let here = clauses_stay mid (with_ranks mid two.1) (grow_extends mid two.1) one.0 x.sorted in
      record {
        sorted = all_append _ one.0 two.0 (subst (λ (s : Sig). are_sorted_clauses s one.0 ≡ true) all here) (subst (λ (s : Sig). are_sorted_clauses s two.0 ≡ true) all y.sorted);
        ranks = all_append good one.1 two.1 x.ranks y.ranks;
      }

  -- an assertion over the signature, where other symbols may stand behind its own
  assertion_sorted : (more : List Rank) (f : Formula) → is_closed f sig ≡ true → let now = with_ranks sig more in TableMade now (assertion_made sig f (length now.ranks))
  assertion_sorted more f closed =
      let now = with_ranks sig more in
      let next = length now.ranks in
      let l = lifted sig f next in
      let mid = with_ranks now l.ranks in
      let all = l.made ∷ l.definitions in
      let forms : MadeSorted mid (forms_made all (next + length l.ranks)) = made_along mid (forms_made all) (length mid.ranks) (next + length l.ranks) (length-append now.ranks l.ranks) (forms_sorted mid all (lifting_ready sig more f closed)) in
      table_both now ([], l.ranks) (forms_made all (next + length l.ranks)) (record { sorted = refl; ranks = of_choices f closed next }) (record { sorted = forms.sorted; ranks = all_weaker (is_proper sig.sorts) good proper _ forms.proper })

  assertions_sorted : (more : List Rank) (fs : List Formula) → AllClosed sig fs → let now = with_ranks sig more in TableMade now (assertions_made sig fs (length now.ranks))
  assertions_sorted more [] closed = record { sorted = refl; ranks = refl }
  assertions_sorted more (f ∷ fs) closed =
      let now = with_ranks sig more in
      let next = length now.ranks in
      let one = assertion_made sig f next in
      let mid = with_ranks now one.1 in
      let rest = assertions_sorted (more ++ one.1) fs closed.1 in
      let back : TableMade mid (assertions_made sig fs (length mid.ranks)) = subst (λ (s : Sig). TableMade s (assertions_made sig fs (length s.ranks))) (sym (grow_both sig more one.1)) rest in
      table_both now one (assertions_made sig fs (next + length one.1)) (assertion_sorted more f closed.0) (subst (λ (n : ℕ). TableMade mid (assertions_made sig fs n)) (length-append now.ranks one.1) back)

  table_made : (fs : List Formula) → AllClosed sig fs → TableMade sig (assertions_made sig fs (length sig.ranks))
  table_made fs closed =
      let none : with_ranks sig [] ≡ sig = λ i. record { sorts = sig.sorts; ranks = append-nil sig.ranks i } in
      subst (λ (s : Sig). TableMade s (assertions_made sig fs (length s.ranks))) none (assertions_sorted [] fs closed)

  table_ranks : (fs : List Formula) → AllClosed sig fs → list_all good sig.ranks ≡ true → list_all good (clause_table sig fs).sig.ranks ≡ true
  table_ranks fs closed all =
      let made = assertions_made sig fs (length sig.ranks) in
      let symbols = with_ranks sig made.1 in
      let has = has_ground symbols made.0 in
      let fresh = fresh_constants sig.sorts has in
      all_append good symbols.ranks fresh (all_append good sig.ranks made.1 all (table_made fs closed).ranks) (all_weaker (is_proper sig.sorts) good proper fresh (fresh_proper sig.sorts sig.sorts has (omega arith)))

  table_clauses : (fs : List Formula) → AllClosed sig fs → are_sorted_clauses (clause_table sig fs).sig (clause_table sig fs).clauses ≡ true
  table_clauses fs closed =
      let made = assertions_made sig fs (length sig.ranks) in
      let symbols = with_ranks sig made.1 in
      let fresh = fresh_constants sig.sorts (has_ground symbols made.0) in
      clauses_stay symbols (with_ranks symbols fresh) (grow_extends symbols fresh) made.0 (table_made fs closed).sorted

-- no rank takes truth values, whatever the signature

no_truths : (vars : List SortId) → list_all (λ (t : Ty). not (is_bool t)) (types_of vars) ≡ true
no_truths [] = refl
no_truths (v ∷ vars) = no_truths vars

choices_take_none : (sig : Sig) (f : Formula) → is_closed f sig ≡ true → (next : ℕ) → list_all takes_no_truth (lifted sig f next).ranks ≡ true
choices_take_none sig f closed = formula_lifts sig takes_no_truth (λ s. Unit {0}) (λ scope v s range e. tt) (λ g rank s e r. tt) (λ vars s range known. no_truths vars) f [] refl closed

pub tables_are_sorted : TablesAreSorted
tables_are_sorted sig fs closed = table_clauses sig takes_no_truth (proper_no_truth sig.sorts) (choices_take_none sig) fs (closed_from sig fs closed)

pub tables_take_no_truths : TablesTakeNoTruths
tables_take_no_truths sig fs closed none = table_ranks sig takes_no_truth (proper_no_truth sig.sorts) (choices_take_none sig) fs (closed_from sig fs closed) none

-- the ranks name sorts, where those of the signature do

range_at : (sorts : ℕ) (scope : List SortId) (v : ℕ) (s : SortId) → list_all (λ (u : SortId). nat_lt u.0 sorts) scope ≡ true → slice_get scope v ≡ Some s → nat_lt s.0 sorts ≡ true
range_at sorts scope v s range e = all_at (λ (u : SortId). nat_lt u.0 sorts) scope v s range e

named_types : (sorts : ℕ) (vars : List SortId) → list_all (λ (s : SortId). nat_lt s.0 sorts) vars ≡ true → list_all (is_sort_of sorts) (types_of vars) ≡ true
named_types sorts [] e = refl
named_types sorts (v ∷ vars) e = let p = and_parts (nat_lt v.0 sorts) (list_all (λ (s : SortId). nat_lt s.0 sorts) vars) e in and_from (nat_lt v.0 sorts) (list_all (is_sort_of sorts) (types_of vars)) p.0 (named_types sorts vars p.1)

choices_named : (sig : Sig) → names_its_sorts sig ≡ true → (f : Formula) → is_closed f sig ≡ true → (next : ℕ) → list_all (is_named sig.sorts) (lifted sig f next).ranks ≡ true
choices_named sig names f closed =
    formula_lifts sig (is_named sig.sorts) (λ s. nat_lt s.0 sig.sorts ≡ true) (range_at sig.sorts)
    (λ g rank s e r.
    let p = and_parts (list_all (is_sort_of sig.sorts) rank.args) (is_sort_of sig.sorts rank.result) (all_at (is_named sig.sorts) sig.ranks g rank names e) in
    subst (λ (t : Ty). is_sort_of sig.sorts t ≡ true) r p.1)
    (λ vars s range known. and_from (list_all (is_sort_of sig.sorts) (types_of vars)) (nat_lt s.0 sig.sorts) (named_types sig.sorts vars range) known) f [] refl closed

pub tables_name_sorts : TablesNameSorts
tables_name_sorts sig fs closed names = table_ranks sig (is_named sig.sorts) (proper_named sig.sorts) (choices_named sig names) fs (closed_from sig fs closed) names
