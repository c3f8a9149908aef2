-- The constants that are put behind a signature for the sorts without ground term are the fresh constants of what comes out.
use Rattle.std.proofs.Common.{◌≡◌, ℕ, zero, suc, ◌+◌, ◌-◌, ◌||◌, Bool, true, not, cond, List, [], ◌∷◌, ◌++◌, drop, length, map, Option, Some, refl, sym, ap, ◌∙◌, arith, inl, inr}
use Rattle.std.specs.Prelude.{slice_get}
use Rattle.std.specs.List.{filter, list_all, list_any, range_with_len}
use Rattle.std.proofs.lemmas.Bool.{and_parts}
use Rattle.std.proofs.lemmas.List.{length-append, length-map}
use Rattle.std.proofs.Math.Seq.{drop-append_seam}
use Rattle.fm_base.specs.Resolution.{Has}
use Rattle.fm_base.specs.declared.signature.Rank.{Rank}
use Rattle.fm_base.specs.declared.signature.Sig.{Sig}
use Rattle.fm_base.specs.declared.signature.Ty.{Ty}
use Rattle.fm_bank.specs.GroundTerms.{ground_literals_grown}
use Rattle.fm_bank.specs.Sorted.{are_sorted_literals, is_sorted_clause}
use Rattle.fm_bank.specs.Terms.{Term, are_terms, is_type, result_type}
use Rattle.fm_bank.specs.declared.clause.Clause.{Clause}
use Rattle.fm_bank.specs.declared.clause.ClauseSet.{ClauseSet}
use Rattle.fm_bank.proofs.GroundGrowing.{ground_literals_good}
use Rattle.fm_rounds.specs.Fresh.{FreshConstantsFit, bare_sorts, constant_of, with_fresh}
use Rattle.fm_rounds.specs.InstanceTerms.{clauses_ground_grown, is_bare, is_term_of}
use Rattle.fm_rounds.proofs.Elements.{parts_of}

clauses_good : (sig : Sig) (cs : List Clause) (terms : List Term) → list_all (is_sorted_clause sig) cs ≡ true → are_terms sig terms ≡ true → are_terms sig (clauses_ground_grown cs terms) ≡ true
clauses_good sig [] terms e good = good
clauses_good sig (c ∷ cs) terms e good =
    let p = and_parts (is_sorted_clause sig c) (list_all (is_sorted_clause sig) cs) e in
    let lits = (and_parts _ (are_sorted_literals sig c.vars c.lits) p.0).1 in
    clauses_good sig cs (ground_literals_grown c.lits terms) p.1 (ground_literals_good sig c.vars c.lits terms good lits)

place_of : {X : Type 0} (xs : List X) (x : X) → Has xs x → (i : ℕ) × (slice_get xs i ≡ Some x)
place_of [] x h = absurd h
place_of (y ∷ ys) x (inl e) = (0, ap Some e)
place_of (y ∷ ys) x (inr h) = let r = place_of ys x h in (suc r.0, r.1)

get_more : {X : Type 0} (xs ys : List X) (i : ℕ) (x : X) → slice_get xs i ≡ Some x → slice_get (xs ++ ys) i ≡ Some x
get_more [] ys i x e = absurd (cc e)
get_more (z ∷ xs) ys zero x e = e
get_more (z ∷ xs) ys (suc i) x e = get_more xs ys i x e

any_alike : {X : Type 0} (p q : X → Bool) (xs : List X) → ((x : X) → Has xs x → p x ≡ q x) → list_any p xs ≡ list_any q xs
any_alike p q [] h = refl
any_alike p q (x ∷ xs) h = let one = h x (inl refl) in let more = any_alike p q xs (λ y i. h y (inr i)) in λ i. one i || more i

filter_alike : {X : Type 0} (p q : X → Bool) (xs : List X) → ((x : X) → p x ≡ q x) → filter p xs ≡ filter q xs
filter_alike p q [] h = refl
filter_alike p q (x ∷ xs) h = let one = h x in let more = filter_alike p q xs h in λ i. cond (one i) (x ∷ more i) (more i)

module _ (set : ClauseSet) (sorted : list_all (is_sorted_clause set.sig) set.clauses ≡ true) where
  abbrev after : ClauseSet
  after = with_fresh set

  abbrev terms : List Term
  terms = clauses_ground_grown set.clauses []

  type_same : (s : ℕ) (t : Term) → Has terms t → is_term_of after.sig s t ≡ is_term_of set.sig s t
  type_same s t h =
      let at = place_of terms t h in
      let parts = parts_of set.sig terms at.0 t (clauses_good set.sig set.clauses [] sorted refl) at.1 in
      let more = get_more set.sig.ranks (map constant_of (bare_sorts set)) t.symbol parts.rank parts.is in
      ap (λ (o : Option Rank). is_type (result_type o) (Ty.Of (record { 0 = s }))) (more ∙ sym parts.is)

  bare_same : (s : ℕ) → is_bare after s ≡ is_bare set s
  bare_same s = ap not (any_alike (is_term_of after.sig s) (is_term_of set.sig s) terms (λ t h. type_same s t h))

  sorts_same : bare_sorts after ≡ bare_sorts set
  sorts_same = filter_alike (is_bare after) (is_bare set) (range_with_len 0 set.sig.sorts) bare_same

  pub constants_fit : drop (length after.sig.ranks - length (bare_sorts after)) after.sig.ranks ≡ map constant_of (bare_sorts after)
  constants_fit =
      let new = map constant_of (bare_sorts set) in
      let long = length-append set.sig.ranks new in
      let many = length-map (bare_sorts set) constant_of in
      let count = ap (λ (xs : List ℕ). length xs) sorts_same in
      let first : length after.sig.ranks - length (bare_sorts after) ≡ length set.sig.ranks = omega (arith, long, many, count) in
      ap (λ n. drop n (set.sig.ranks ++ new)) first ∙ (drop-append_seam set.sig.ranks new ∙ ap (map constant_of) (sym sorts_same))

pub fresh_constants_fit : FreshConstantsFit
fresh_constants_fit set sorted = constants_fit set sorted
