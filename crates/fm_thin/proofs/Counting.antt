-- A loop that counts clauses up to the first `false`.
use Rattle.std.proofs.Common.{◌≡◌, ℕ, ◌+◌, ◌<◌, ◌≤◌, true, false, List, length, drop, get_or, Option, Some, None, ap, refl, sym, ◌∙◌, arith}
use Rattle.std.specs.Option.{option_map}
use Rattle.std.proofs.lemmas.Bool.{false≢true}
use Rattle.std.proofs.lemmas.List.{drop_more, drop_all}
use Rattle.fm_base.specs.declared.formula.Formula.{Formula}
use Rattle.fm_base.specs.declared.signature.Sig.{Sig}
use Rattle.fm_thin.specs.Thin.{clauses_in, falsity_behind, falsity_in, is_never, kind_of}
use Rattle.fm_thin.specs.declared.thin.Kind.{Kind}

abbrev pub shifted : ℕ → Option ℕ → Option ℕ
shifted n None = None
shifted n (Some k) = Some (n + k)

-- so many clauses stand before the rest
abbrev pub Counts : Sig → List Formula → ℕ → ℕ → Type 0
Counts sig fs i n = falsity_in sig fs ≡ shifted n (falsity_in sig (drop i fs))

none_shifted : (o : Option ℕ) → shifted 0 o ≡ o
none_shifted None = refl
none_shifted (Some k) = let e : 0 + k ≡ k = omega arith in ap (λ (i : ℕ). Some i) e

pub counts_none : (sig : Sig) (fs : List Formula) → Counts sig fs 0 0
counts_none sig fs = sym (none_shifted (falsity_in sig fs))

here : (sig : Sig) (fs : List Formula) (i n : ℕ) (x : Formula) (k : Kind) → i < length fs → kind_of (get_or fs i x) sig ≡ k → Counts sig fs i n → falsity_in sig fs ≡ shifted n (falsity_behind k (falsity_in sig (drop (i + 1) fs)))
here sig fs i n x k lt e h =
    h ∙ (ap (λ (ys : List Formula). shifted n (falsity_in sig ys)) (drop_more fs i x lt) ∙ ap (λ (j : Kind). shifted n (falsity_behind j (falsity_in sig (drop (i + 1) fs)))) e)

twice : (n m : ℕ) (o : Option ℕ) → shifted n (option_map (λ i. m + i) o) ≡ shifted (n + m) o
twice n m None = refl
twice n m (Some i) = let e : n + (m + i) ≡ n + m + i = omega arith in ap (λ (k : ℕ). Some k) e

one_behind : (k : Kind) (n : ℕ) (o : Option ℕ) → is_never k ≡ false → shifted n (falsity_behind k o) ≡ shifted (n + clauses_in k) o
one_behind Kind.Always n o e = twice n 0 o
one_behind Kind.Never n o e = absurd (false≢true (sym e))
one_behind Kind.Equation n o e = twice n 1 o
one_behind Kind.Other n o e = twice n 0 o

pub counts_next : (sig : Sig) (fs : List Formula) (i n : ℕ) (x : Formula) (k : Kind) → i < length fs → kind_of (get_or fs i x) sig ≡ k → is_never k ≡ false → Counts sig fs i n → Counts sig fs (i + 1) (n + clauses_in k)
counts_next sig fs i n x k lt e not_never h = here sig fs i n x k lt e h ∙ one_behind k n (falsity_in sig (drop (i + 1) fs)) not_never

found : (k : Kind) (n : ℕ) (o : Option ℕ) → is_never k ≡ true → shifted n (falsity_behind k o) ≡ Some n
found Kind.Never n o e = let none : n + 0 ≡ n = omega arith in ap (λ (i : ℕ). Some i) none
found Kind.Always n o e = absurd (false≢true e)
found Kind.Equation n o e = absurd (false≢true e)
found Kind.Other n o e = absurd (false≢true e)

pub counts_found : (sig : Sig) (fs : List Formula) (i n : ℕ) (x : Formula) (k : Kind) → i < length fs → kind_of (get_or fs i x) sig ≡ k → is_never k ≡ true → Counts sig fs i n → Some n ≡ falsity_in sig fs
counts_found sig fs i n x k lt e never h = sym (here sig fs i n x k lt e h ∙ found k n (falsity_in sig (drop (i + 1) fs)) never)

pub counts_all : (sig : Sig) (fs : List Formula) (i n : ℕ) → length fs ≤ i → Counts sig fs i n → None ≡ falsity_in sig fs
counts_all sig fs i n le h = sym (h ∙ ap (λ (ys : List Formula). shifted n (falsity_in sig ys)) (drop_all i fs le))

pub few_more : (k : Kind) (n i : ℕ) → n ≤ i → n + clauses_in k ≤ i + 1
few_more Kind.Always n i le = omega (arith, le)
few_more Kind.Never n i le = omega (arith, le)
few_more Kind.Equation n i le = omega (arith, le)
few_more Kind.Other n i le = omega (arith, le)
