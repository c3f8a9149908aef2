-- The greatest false bounds of the sorts, one after the other.
use Rattle.std.proofs.Common.{◌≡◌, ℕ, suc, ◌+◌, ◌-◌, ◌<◌, List, [], ◌∷◌, ◌++◌, Some, None, refl, sym, ap, ◌∙◌, arith, ◌&&◌, Bool, true, false, cond, nat_lt}
use Rattle.std.specs.Prelude.{Option}
use Rattle.std.specs.Option.{option_map}
use Rattle.std.proofs.lemmas.List.{append_assoc, append-nil}
use Rattle.fm_base.specs.declared.ids.Reader.{Reader}
use Rattle.fm_bank.specs.declared.atom.Atom.{Atom}
use Rattle.fm_steps.specs.Lemmas.{Due, bounds_from, sum_literals, total_above, with_bound}
use Rattle.fm_steps.specs.Menu.{offer_for, sum_offers_at}
use Rattle.fm_steps.specs.Rows.{Offer}
use Rattle.fm_steps.specs.Sizes.{greatest_false, holds}
use Rattle.fm_steps.specs.State.{State}

-- these, and then those from there on
abbrev pub before : List ℕ → Option (List ℕ) → Option (List ℕ)
before ks o = option_map (λ l. ks ++ l) o

before_one : (ks : List ℕ) (k : ℕ) (o : Option (List ℕ)) → before ks (with_bound (Some k) o) ≡ before (ks ++ k ∷ []) o
before_one ks k None = refl
before_one ks k (Some l) = ap Some (sym (append_assoc ks (k ∷ []) l))

left_of : (n i : ℕ) → i < n → n - i ≡ suc (n - (i + 1))
left_of n i lt = omega (arith, lt)

pub bound_on : (s : State) (n i k : ℕ) (ks : List ℕ) → i < n → Some k ≡ greatest_false s i → before ks (bounds_from s i (n - i)) ≡ bounds_from s 0 n → before (ks ++ k ∷ []) (bounds_from s (i + 1) (n - (i + 1))) ≡ bounds_from s 0 n
bound_on s n i k ks lt is h =
    let rest = bounds_from s (i + 1) (n - (i + 1)) in
    sym (before_one ks k rest) ∙ ap (λ (o : Option ℕ). before ks (with_bound o rest)) is ∙ ap (λ m. before ks (bounds_from s i m)) (sym (left_of n i lt)) ∙ h

none_step : (ks : List ℕ) (o : Option ℕ) (rest : Option (List ℕ)) → None ≡ o → before ks (with_bound o rest) ≡ None
none_step ks None rest e = refl
none_step ks (Some k) rest e = absurd cc

pub bound_none : (s : State) (n i : ℕ) (ks : List ℕ) → i < n → None ≡ greatest_false s i → before ks (bounds_from s i (n - i)) ≡ bounds_from s 0 n → None ≡ bounds_from s 0 n
bound_none s n i ks lt is h =
    let rest = bounds_from s (i + 1) (n - (i + 1)) in
    sym (none_step ks (greatest_false s i) rest is) ∙ ap (λ m. before ks (bounds_from s i m)) (sym (left_of n i lt)) ∙ h

pub bound_end : (s : State) (n i : ℕ) (ks : List ℕ) → n - i ≡ 0 → before ks (bounds_from s i (n - i)) ≡ bounds_from s 0 n → Some ks ≡ bounds_from s 0 n
bound_end s n i ks z h = ap Some (sym (append-nil ks)) ∙ ap (λ m. before ks (bounds_from s i m)) (sym z) ∙ h

none_by : (b : Bool) (offers : List Offer) → cond (b && false) offers [] ≡ []
none_by true offers = refl
none_by false offers = refl

-- where the bound isn't true nothing is due of the sum
pub no_sum : (s : State) (o : Option (List ℕ)) → holds s true (Atom.Bound s.bound) ≡ false → sum_offers_at s o ≡ []
no_sum s None h = refl
no_sum s (Some ks) h =
    let offers = offer_for s Reader.Sum Due.SumBound (sum_literals s 0 ks) in
    ap (λ (b : Bool). cond (nat_lt s.bound (total_above ks) && b) offers []) h ∙ none_by (nat_lt s.bound (total_above ks)) offers
