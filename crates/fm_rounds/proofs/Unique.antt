-- A table has one form: exceptions that ascend, none with the default, are determined by what they give.
use Rattle.std.proofs.Common.{◌≡◌, ℕ, true, false, ◌&&◌, List, [], ◌∷◌, ap, refl, sym, subst, ◌∙◌, inl, inr}
use Rattle.std.specs.Str.{bytes_eq}
use Rattle.std.specs.Cmp.Lexicographic.{bytes_decides}
use Rattle.std.specs.Ordering.{is_lt, ordering_reverse}
use Rattle.std.specs.declared.cmp.Ordering.{Ordering}
use Rattle.std.proofs.lemmas.Bool.{and_parts, cases_Bool, cond-false, cond-true}
use Rattle.std.proofs.lemmas.Cmp.{nat_list_cmp_total}
use Rattle.fm_base.specs.Interpretations.{ascends, ascends_after, entry_in}
use Rattle.fm_rounds.specs.Soundness.{NoneIs, TablesHaveOneForm}
use Rattle.fm_rounds.proofs.Searches.{Exception, less_from_test, order, other_than, same_as}

tail_ascends : (xs : List ℕ) (es : List Exception) → ascends_after xs es ≡ true → ascends es ≡ true
tail_ascends xs [] h = refl
tail_ascends xs (e ∷ es) h = (and_parts (is_lt (order xs e.0)) (ascends_after e.0 es) h).1

lower : (xs ys : List ℕ) (es : List Exception) → order xs ys ≡ Ordering.Less → ascends_after ys es ≡ true → ascends_after xs es ≡ true
lower xs ys [] o h = refl
lower xs ys (e ∷ es) o h =
    let p = and_parts (is_lt (order ys e.0)) (ascends_after e.0 es) h in
    ap (λ b. is_lt b && ascends_after e.0 es) (nat_list_cmp_total.trans xs ys e.0 o (less_from_test (order ys e.0) p.0)) ∙ p.1

-- a tuple below all exceptions has the default
below_all : (d : ℕ) (xs : List ℕ) (es : List Exception) → ascends_after xs es ≡ true → entry_in d es xs ≡ d
below_all d xs [] h = refl
below_all d xs (e ∷ es) h =
    let p = and_parts (is_lt (order xs e.0)) (ascends_after e.0 es) h in
    let less = less_from_test (order xs e.0) p.0 in
    let other : bytes_eq e.0 xs ≡ false = other_than e.0 xs Ordering.Greater (nat_list_cmp_total.antisymm e.0 xs ∙ ap ordering_reverse less) refl in
    cond-false (bytes_eq e.0 xs) e.1 (entry_in d es xs) other ∙ below_all d xs es (lower xs e.0 es less p.1)

here_is : (d : ℕ) (e : Exception) (es : List Exception) → entry_in d (e ∷ es) e.0 ≡ e.1
here_is d e es = cond-true (bytes_eq e.0 e.0) e.1 (entry_in d es e.0) ((bytes_decides e.0 e.0).1 refl)

abbrev Agree : ℕ → List Exception → List Exception → Type 0
Agree d es fs = (xs : List ℕ) → entry_in d es xs ≡ entry_in d fs xs

tails_agree : (d : ℕ) (e f : Exception) (es fs : List Exception) → e.0 ≡ f.0 → ascends_after e.0 es ≡ true → ascends_after f.0 fs ≡ true → Agree d (e ∷ es) (f ∷ fs) → Agree d es fs
tails_agree d e f es fs same he hf h xs = elim (cases_Bool (bytes_eq e.0 xs)) [
  | inl t ↦
      let at : e.0 ≡ xs = (bytes_decides e.0 xs).0 t in
      subst (λ ys. entry_in d es ys ≡ entry_in d fs ys) at (below_all d e.0 es he ∙ sym (ap (entry_in d fs) same ∙ below_all d f.0 fs hf))
  | inr n ↦ sym (cond-false (bytes_eq e.0 xs) e.1 (entry_in d es xs) n) ∙ h xs ∙ cond-false (bytes_eq f.0 xs) f.1 (entry_in d fs xs) (ap (λ ys. bytes_eq ys xs) (sym same) ∙ n)
]

ordered : (d : ℕ) (e f : Exception) (es fs : List Exception) (o : Ordering) → order e.0 f.0 ≡ o → ascends_after e.0 es ≡ true → ascends_after f.0 fs ≡ true → (e.1 ≡ d → ⊥) → (f.1 ≡ d → ⊥) → Agree d (e ∷ es) (f ∷ fs) → e.0 ≡ f.0
ordered d e f es fs Ordering.Equal o he hf ne nf h = (bytes_decides e.0 f.0).0 (same_as e.0 f.0 o)
ordered d e f es fs Ordering.Less o he hf ne nf h =
    let after : ascends_after e.0 (f ∷ fs) ≡ true = ap (λ b. is_lt b && ascends_after f.0 fs) o ∙ hf in
    absurd (ne (sym (here_is d e es) ∙ h e.0 ∙ below_all d e.0 (f ∷ fs) after))
ordered d e f es fs Ordering.Greater o he hf ne nf h =
    let back : order f.0 e.0 ≡ Ordering.Less = nat_list_cmp_total.antisymm f.0 e.0 ∙ ap ordering_reverse o in
    let after : ascends_after f.0 (e ∷ es) ≡ true = ap (λ b. is_lt b && ascends_after e.0 es) back ∙ he in
    absurd (nf (sym (here_is d f fs) ∙ sym (h f.0) ∙ below_all d f.0 (e ∷ es) after))

rest_is : (d : ℕ) (e : Exception) (es : List Exception) → NoneIs d (e ∷ es) → NoneIs d es
rest_is d e es h x i = h x (inr i)

one_form : (d : ℕ) (es fs : List Exception) → ascends es ≡ true → ascends fs ≡ true → NoneIs d es → NoneIs d fs → Agree d es fs → es ≡ fs
one_form d [] [] ae af ne nf h = refl
one_form d [] (f ∷ fs) ae af ne nf h = absurd (nf f (inl refl) (sym (here_is d f fs) ∙ sym (h f.0)))
one_form d (e ∷ es) [] ae af ne nf h = absurd (ne e (inl refl) (sym (here_is d e es) ∙ h e.0))
one_form d (e ∷ es) (f ∷ fs) ae af ne nf h =
    let keys = ordered d e f es fs (order e.0 f.0) refl ae af (ne e (inl refl)) (nf f (inl refl)) h in
    let values : e.1 ≡ f.1 = sym (here_is d e es) ∙ h e.0 ∙ ap (entry_in d (f ∷ fs)) keys ∙ here_is d f fs in
    let rest = one_form d es fs (tail_ascends e.0 es ae) (tail_ascends f.0 fs af) (rest_is d e es ne) (rest_is d f fs nf) (tails_agree d e f es fs keys ae af h) in
    λ i. (keys i, values i) ∷ rest i

pub tables_have_one_form : TablesHaveOneForm
tables_have_one_form d es fs he hf h = one_form d es fs he.order hf.order he.others hf.others h
