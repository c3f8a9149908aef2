-- What follows equal from literals on atoms of a bank has one type.
use Rattle.std.proofs.Common.{◌≡◌, ℕ, zero, suc, ◌+◌, ◌-◌, ◌<◌, ◌&&◌, Bool, true, false, not, cond, List, [], ◌∷◌, ◌++◌, length, Option, Some, None, refl, sym, subst, ap, ◌∙◌, arith, inl, inr, get_or}
use Rattle.std.specs.Prelude.{◌==◌, nat_le, nat_lt, slice_get}
use Rattle.std.specs.List.{All, cons_option, list_any}
use Rattle.std.proofs.lemmas.Bool.{and_parts, eq-eqb, eqb-true, false_from_ne_true, ltb-true}
use Rattle.std.proofs.lemmas.List.Elements.{All-cons, All-head, All-nil, All-tail}
use Rattle.fm_base.specs.declared.signature.Sig.{Sig}
use Rattle.fm_base.specs.declared.signature.Ty.{Ty}
use Rattle.fm_base.specs.Resolution.{Has}
use Rattle.fm_bank.specs.Closure.{Follows, IsClosed, Shape, are_congruent, are_related, no, object, yes}
use Rattle.fm_bank.specs.Interning.{are_atoms_after, are_of_one_sort, is_atom, is_same_atom}
use Rattle.fm_bank.specs.Terms.{Term, is_type, result_type, type_in, type_of}
use Rattle.fm_bank.specs.declared.atom.Atom.{Atom}
use Rattle.fm_cong.specs.Facts.{pairs_of, sides}
use Rattle.fm_cong.specs.declared.fact.Fact.{Fact}
use Rattle.fm_build.specs.Parts.{term_of}

pub all_has : {X : Type 0} (P : X → Type 0) (xs : List X) (x : X) → All P xs → Has xs x → P x
all_has P [] x all h = absurd h
all_has P (y ∷ xs) x all (inl e) = subst P e (All-head P y xs all)
all_has P (y ∷ xs) x all (inr h) = all_has P xs x (All-tail P y xs all) h

abbrev same_type : Option Ty → Option Ty → Bool
same_type None None = true
same_type None (Some u) = false
same_type (Some t) None = false
same_type (Some t) (Some u) = is_type (Some t) u

one_type : (o p : Option Ty) → same_type o p ≡ true → o ≡ p
one_type None None e = refl
one_type None (Some u) e = cc e
one_type (Some t) None e = cc e
one_type (Some Ty.Bool) (Some Ty.Bool) e = refl
one_type (Some Ty.Bool) (Some (Ty.Of u)) e = cc e
one_type (Some (Ty.Of s)) (Some Ty.Bool) e = cc e
one_type (Some (Ty.Of s)) (Some (Ty.Of u)) e = let same = eqb-true s.0 u.0 e in λ i. Some (Ty.Of (record { 0 = same i }))

type_self : (o : Option Ty) → same_type o o ≡ true
type_self None = refl
type_self (Some Ty.Bool) = refl
type_self (Some (Ty.Of s)) = eq-eqb s.0 s.0 refl

types_same : (o p : Option Ty) → o ≡ p → same_type o p ≡ true
types_same o p e = subst (λ (q : Option Ty). same_type o q ≡ true) e (type_self o)

sort_same : (o p : Option Ty) → are_of_one_sort o p ≡ true → o ≡ p
sort_same None p e = cc e
sort_same (Some Ty.Bool) p e = cc e
sort_same (Some (Ty.Of s)) None e = cc e
sort_same (Some (Ty.Of s)) (Some Ty.Bool) e = cc e
sort_same (Some (Ty.Of s)) (Some (Ty.Of u)) e = let same = eqb-true u.0 s.0 e in λ i. Some (Ty.Of (record { 0 = sym same i }))

bool_same : (o : Option Ty) → is_type o Ty.Bool ≡ true → o ≡ Some Ty.Bool
bool_same None e = cc e
bool_same (Some Ty.Bool) e = refl
bool_same (Some (Ty.Of s)) e = cc e

atom_good : (sig : Sig) (terms : List Term) (before atoms : List Atom) (k : ℕ) (a : Atom) → are_atoms_after sig terms before atoms ≡ true → slice_get atoms k ≡ Some a → is_atom sig terms a ≡ true
atom_good sig terms before [] k a good e = cc e
atom_good sig terms before (b ∷ atoms) zero a good e =
    let same : b ≡ a = cc e in
    subst (λ (c : Atom). is_atom sig terms c ≡ true) same (and_parts (is_atom sig terms b) (not (list_any (is_same_atom b) before) && are_atoms_after sig terms (before ++ b ∷ []) atoms) good).0
atom_good sig terms before (b ∷ atoms) (suc k) a good e =
    let rest = (and_parts (is_atom sig terms b) (not (list_any (is_same_atom b) before) && are_atoms_after sig terms (before ++ b ∷ []) atoms) good).1 in
    atom_good sig terms (before ++ b ∷ []) atoms k a (and_parts (not (list_any (is_same_atom b) before)) (are_atoms_after sig terms (before ++ b ∷ []) atoms) rest).1 e

module _ (sig : Sig) (terms : List Term) where
  -- the type of an object: yes and no are truth values
  abbrev kind : ℕ → Option Ty
  kind x = cond (nat_lt x 2) (Some Ty.Bool) (type_of sig terms (x - 2))

  kind_term : (n : ℕ) → kind (object n) ≡ type_of sig terms n
  kind_term n =
      let back : n + 2 - 2 ≡ n = omega arith in
      ap (λ b. cond b (Some Ty.Bool) (type_of sig terms (n + 2 - 2))) (false_from_ne_true (nat_lt (n + 2) 2) (λ t. let l = ltb-true (n + 2) 2 t in omega (arith, l))) ∙ ap (type_of sig terms) back

  abbrev of_one_kind : ℕ → ℕ → Bool
  of_one_kind x y = same_type (kind x) (kind y)

  abbrev AreOfOne : ℕ × ℕ → Type 0
  AreOfOne p = of_one_kind p.0 p.1 ≡ true

  terms_of_one : (a b : ℕ) → type_of sig terms a ≡ type_of sig terms b → of_one_kind (object a) (object b) ≡ true
  terms_of_one a b e = types_same (kind (object a)) (kind (object b)) (kind_term a ∙ e ∙ sym (kind_term b))

  truth_of_one : (a x : ℕ) → is_type (type_of sig terms a) Ty.Bool ≡ true → kind x ≡ Some Ty.Bool → of_one_kind (object a) x ≡ true
  truth_of_one a x e k = types_same (kind (object a)) (kind x) (kind_term a ∙ bool_same (type_of sig terms a) e ∙ sym k)

  sides_of_one : (a : Atom) (positive : Bool) (xs : List (ℕ × ℕ)) → is_atom sig terms a ≡ true → All AreOfOne xs → All AreOfOne (cons_option (sides a positive) xs)
  sides_of_one (Atom.Equal a b) true xs h all = All-cons AreOfOne (object a.0, object b.0) xs (terms_of_one a.0 b.0 (sort_same (type_of sig terms a.0) (type_of sig terms b.0) (and_parts (nat_le a.0 b.0) (are_of_one_sort (type_of sig terms a.0) (type_of sig terms b.0)) h).1)) all
  sides_of_one (Atom.Equal a b) false xs h all = all
  sides_of_one (Atom.Pred t) true xs h all = All-cons AreOfOne (object t.0, yes) xs (truth_of_one t.0 yes h refl) all
  sides_of_one (Atom.Pred t) false xs h all = All-cons AreOfOne (object t.0, no) xs (truth_of_one t.0 no h refl) all
  sides_of_one (Atom.Card s k) positive xs h all = all
  sides_of_one (Atom.Bound n) positive xs h all = all

  module _ (atoms : List Atom) (good : are_atoms_after sig terms [] atoms ≡ true) where
    abbrev IsThere : Fact → Type 0
    IsThere f = slice_get atoms f.lit.atom.0 ≡ Some f.atom

    facts_of_one : (facts : List Fact) → All IsThere facts → All AreOfOne (pairs_of facts)
    facts_of_one [] h = All-nil AreOfOne
    facts_of_one (f ∷ facts) h =
        let here : slice_get atoms f.lit.atom.0 ≡ Some f.atom = All-head IsThere f facts h in
        sides_of_one f.atom f.lit.positive (pairs_of facts) (atom_good sig terms [] atoms f.lit.atom.0 f.atom good here) (facts_of_one facts (All-tail IsThere f facts h))

    module _ (facts : List Fact) (shapes : List Shape) (known : All (λ (s : Shape). slice_get terms s.number ≡ Some (term_of s)) shapes) (there : All IsThere facts) where
      shape_kind : (k : ℕ) (d : Shape) → k < length shapes → kind (object (get_or shapes k d).number) ≡ result_type (slice_get sig.ranks (get_or shapes k d).symbol)
      shape_kind k d lt = kind_term (get_or shapes k d).number ∙ ap (type_in sig) (known k d lt)

      congruent_of_one : (a b : Shape) → kind (object a.number) ≡ result_type (slice_get sig.ranks a.symbol) → kind (object b.number) ≡ result_type (slice_get sig.ranks b.symbol) → are_congruent of_one_kind a b ≡ true → of_one_kind (object a.number) (object b.number) ≡ true
      congruent_of_one a b ha hb e =
          let same = eqb-true a.symbol b.symbol (and_parts (a.symbol == b.symbol) (are_related of_one_kind a.args b.args) e).0 in
          types_same (kind (object a.number)) (kind (object b.number)) (ha ∙ ap (λ f. result_type (slice_get sig.ranks f)) same ∙ sym hb)

      closed : IsClosed shapes (pairs_of facts) of_one_kind
      closed = record {
        reflexive = λ x. type_self (kind x);
        symmetric = λ x y h. types_same (kind y) (kind x) (sym (one_type (kind x) (kind y) h));
        transitive = λ x y z h k. types_same (kind x) (kind z) (one_type (kind x) (kind y) h ∙ one_type (kind y) (kind z) k);
        facts_hold = facts_of_one facts there;
        congruent = λ k d lt j e lj same. congruent_of_one (get_or shapes k d) (get_or shapes j e) (shape_kind k d lt) (shape_kind j e lj) same;
      }

      -- equal terms have one type
      pub types_follow : (a b : ℕ) → Follows shapes (pairs_of facts) (object a) (object b) → type_of sig terms a ≡ type_of sig terms b
      types_follow a b f = sym (kind_term a) ∙ one_type (kind (object a)) (kind (object b)) (f of_one_kind closed) ∙ kind_term b
