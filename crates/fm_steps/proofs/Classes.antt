-- A sort has no more representatives than classes.
use Rattle.std.proofs.Common.{◌≡◌, ℕ, zero, suc, ◌≤◌, ◌<◌, ◌&&◌, Bool, true, false, not, List, [], ◌∷◌, length, inl, inr, refl, sym, ap, subst, ◌∙◌, arith}
use Rattle.std.specs.Prelude.{Option}
use Rattle.std.specs.List.{list_all, range_with_len}
use Rattle.std.proofs.lemmas.Bool.{and_from, cases_Bool, true≢false}
use Rattle.fm_base.specs.Resolution.{Has}
use Rattle.fm_base.specs.declared.signature.Sig.{Sig}
use Rattle.fm_base.specs.declared.signature.Ty.{Ty}
use Rattle.fm_bank.specs.Closure.{object}
use Rattle.fm_bank.specs.Terms.{is_type, type_of}
use Rattle.fm_bank.proofs.Meanings.{typed_within}
use Rattle.fm_rounds.specs.Rounds.{Content, reached, reps_of}
use Rattle.fm_rounds.proofs.Candidates.{Apart, reps_apart}
use Rattle.fm_rounds.proofs.Members.{filter_in, in_filter, in_range, range_in}
use Rattle.fm_steps.specs.Content.{classes_of, is_oldest, is_term_of_sort}
use Rattle.fm_steps.specs.Grounded.{IsTypedCongruence}
use Rattle.fm_steps.specs.Rows.{content_at}
use Rattle.fm_steps.specs.Picks.{Known}
use Rattle.fm_steps.specs.Sizes.{sort}
use Rattle.fm_steps.specs.State.{Problem, State}
use Rattle.fm_steps.proofs.Pigeons.{Spread, no_longer}

not_all_step : (b c : Bool) → (b && c) ≡ false → b ≡ true → c ≡ false
not_all_step true c e t = e
not_all_step false c e t = absurd (true≢false (sym t))

pub not_all : {X : Type 0} (p : X → Bool) (xs : List X) → list_all p xs ≡ false → (x : X) × Has xs x × (p x ≡ false)
not_all p [] e = absurd (true≢false e)
not_all p (x ∷ xs) e =
    elim (cases_Bool (p x)) [
      | inl t ↦ (let r = not_all p xs (not_all_step (p x) (list_all p xs) e t) in (r.0, inr r.1, r.2))
      | inr f ↦ (x, inl refl, f)
    ]

not_back : (b : Bool) → not b ≡ false → b ≡ true
not_back true e = refl
not_back false e = absurd (true≢false e)

module _ (p : Problem) (s : State) (k : Known) (sig : s.held.sig ≡ p.sig) (t : IsTypedCongruence s k.congruence.same) (u : ℕ) where
  abbrev same : ℕ → ℕ → Bool
  same = k.congruence.same

  -- the oldest of a class
  record IsOldestFor (r : ℕ) : Type 0 where
    number : ℕ
    has : Has (classes_of s.held k.congruence (sort u)) number
    is : same (object number) (object r) ≡ true

  oldest : (n r : ℕ) → r < n → is_term_of_sort s.held u r ≡ true → IsOldestFor r
  oldest zero r lt typed = absurd (omega (arith, lt))
  oldest (suc n) r lt typed =
      elim (cases_Bool (is_oldest k.congruence r)) [
        | inl e ↦ (let low = typed_within s.held.sig s.held.terms r (Ty.Of (record { 0 = u })) typed in
            record {
              number = r;
              has = filter_in (λ m. is_term_of_sort s.held u m && is_oldest k.congruence m) r (range_with_len 0 (length s.held.terms)) (range_in r 0 (length s.held.terms) (omega arith) (omega (arith, low))) (and_from (is_term_of_sort s.held u r) (is_oldest k.congruence r) typed e);
              is = t.reflexive (object r);
            })
        | inr f ↦ (
            let w = not_all (λ m. not (same (object m) (object r))) (range_with_len 0 r) f in
            let joined = not_back (same (object w.0) (object r)) w.2 in
            let low = (in_range w.0 0 r w.1).1 in
            let kind : is_term_of_sort s.held u w.0 ≡ true = ap (λ (o : Option Ty). is_type o (Ty.Of (record { 0 = u }))) (t.typed w.0 r joined) ∙ typed in
            let o = oldest n w.0 (omega (arith, low, lt)) kind in
            record { number = o.number; has = o.has; is = t.transitive (object o.number) (object w.0) (object r) o.is joined })
      ]

  abbrev goes : ℕ → ℕ → Bool
  goes r m = same (object m) (object r)

  spread : (rs : List ℕ) → Apart (content_at p s k) rs → Spread goes rs
  spread [] h = tt
  spread (r ∷ rs) h = (
    (λ z m q e f. true≢false (sym (t.transitive (object r) (object m) (object z) (t.symmetric (object m) (object r) e) f) ∙ h.0 z q)),
    spread rs h.1,
  )

  pub no_more : length (reps_of (content_at p s k) u) ≤ length (classes_of s.held k.congruence (sort u))
  no_more =
      let c : Content = content_at p s k in
      no_longer goes (reps_of c u) (classes_of s.held k.congruence (sort u)) (spread (reps_of c u) (reps_apart c u))
      (λ r q.
      let typed = (in_filter {X = ℕ} (λ n. is_type (type_of p.sig s.held.terms n) (Ty.Of (record { 0 = u }))) r (reached c).reps q).1 in
      let o = oldest (suc r) r (omega arith) (subst (λ (g : Sig). is_type (type_of g s.held.terms r) (Ty.Of (record { 0 = u })) ≡ true) (sym sig) typed) in
      (o.number, o.has, o.is))
