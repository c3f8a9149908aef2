-- How many pass a test; and the atoms over the registered terms, among which every known atom is.
use Rattle.std.proofs.Common.{◌≡◌, ℕ, ◌+◌, ◌<◌, ◌≤◌, Bool, true, false, cond, nat_le, List, [], ◌∷◌, ◌++◌, length, map, Some, None, inl, inr, refl, sym, ap, subst, ◌∙◌, arith}
use Rattle.std.specs.Prelude.{Option}
use Rattle.std.specs.List.{count_by, filter, flat_map, range_with_len}
use Rattle.std.proofs.lemmas.Bool.{and_parts, cases_lt, eq-eqb, false≢true, le-leb, lt-leb, ltb-true}
use Rattle.std.proofs.lemmas.List.{length-append}
use Rattle.std.proofs.lemmas.List.FromFn.{length-map-range_with_len}
use Rattle.std.proofs.lemmas.List.Sums.{length-filter}
use Rattle.fm_base.specs.Resolution.{Has}
use Rattle.fm_base.specs.declared.ids.TermId.{TermId}
use Rattle.fm_base.specs.declared.signature.Sig.{Sig}
use Rattle.fm_base.specs.declared.signature.Ty.{Ty}
use Rattle.fm_base.proofs.Resolution.{has_mapped}
use Rattle.fm_bank.specs.Instances.{equality}
use Rattle.fm_bank.specs.Interning.{are_of_one_sort, is_atom}
use Rattle.fm_bank.specs.Terms.{is_type, type_of}
use Rattle.fm_bank.specs.declared.atom.Atom.{Atom}
use Rattle.fm_bank.proofs.Meanings.{typed_within}
use Rattle.fm_rounds.proofs.Members.{flat_in, in_left, in_right, range_in}
use Rattle.fm_steps.specs.Bounds.{SizesAreInRow}
use Rattle.fm_steps.specs.Lines.{IsWellHeld}
use Rattle.fm_steps.specs.Progress.{atoms_up_to, equalities, predicates, size_atoms}
use Rattle.fm_steps.specs.Sizes.{card}
use Rattle.fm_steps.specs.State.{Problem, State}
use Rattle.fm_steps.proofs.Due.{atom_step}
use Rattle.fm_steps.proofs.InRow.{has_known}

-- a test that passes fewer
less_step : {X : Type 0} (a b : Bool) (x : X) (ps qs : List X) → (a ≡ true → b ≡ true) → length ps ≤ length qs → length (cond a (x ∷ ps) ps) ≤ length (cond b (x ∷ qs) qs)
less_step true true x ps qs f h = omega (arith, h)
less_step true false x ps qs f h = absurd (false≢true (f refl))
less_step false true x ps qs f h = omega (arith, h)
less_step false false x ps qs f h = h

less_filter : {X : Type 0} (p q : X → Bool) (xs : List X) → ((x : X) → p x ≡ true → q x ≡ true) → length (filter p xs) ≤ length (filter q xs)
less_filter p q [] f = omega arith
less_filter p q (x ∷ xs) f = less_step (p x) (q x) x (filter p xs) (filter q xs) (f x) (less_filter p q xs f)

pub counts_less : {X : Type 0} (p q : X → Bool) (xs : List X) → ((x : X) → p x ≡ true → q x ≡ true) → count_by p xs ≤ count_by q xs
counts_less p q xs f =
    let a = length-filter p xs in
    let b = length-filter q xs in
    let h = less_filter p q xs f in
    omega (arith, a, b, h)

here_step : {X : Type 0} (a b : Bool) (x : X) (ps qs : List X) → a ≡ false → b ≡ true → length ps ≤ length qs → length (cond a (x ∷ ps) ps) < length (cond b (x ∷ qs) qs)
here_step true b x ps qs e g h = absurd (false≢true (sym e))
here_step false false x ps qs e g h = absurd (false≢true g)
here_step false true x ps qs e g h = omega (arith, h)

there_step : {X : Type 0} (a b : Bool) (x : X) (ps qs : List X) → (a ≡ true → b ≡ true) → length ps < length qs → length (cond a (x ∷ ps) ps) < length (cond b (x ∷ qs) qs)
there_step true true x ps qs f h = omega (arith, h)
there_step true false x ps qs f h = absurd (false≢true (f refl))
there_step false true x ps qs f h = omega (arith, h)
there_step false false x ps qs f h = h

fewer_filter : {X : Type 0} (p q : X → Bool) (xs : List X) (x : X) → ((y : X) → p y ≡ true → q y ≡ true) → Has xs x → p x ≡ false → q x ≡ true → length (filter p xs) < length (filter q xs)
fewer_filter p q [] x f h e g = absurd h
fewer_filter p q (y ∷ ys) x f (inl same) e g = here_step (p y) (q y) y (filter p ys) (filter q ys) (ap p same ∙ e) (ap q same ∙ g) (less_filter p q ys f)
fewer_filter p q (y ∷ ys) x f (inr h) e g = there_step (p y) (q y) y (filter p ys) (filter q ys) (f y) (fewer_filter p q ys x f h e g)

pub counts_fewer : {X : Type 0} (p q : X → Bool) (xs : List X) (x : X) → ((y : X) → p y ≡ true → q y ≡ true) → Has xs x → p x ≡ false → q x ≡ true → count_by p xs < count_by q xs
counts_fewer p q xs x f h e g =
    let a = length-filter p xs in
    let b = length-filter q xs in
    let m = fewer_filter p q xs x f h e g in
    omega (arith, a, b, m)

-- equalities of the terms below n
either_way : (b c : Bool) (x y : Atom) → b ≡ false → c ≡ true → cond b x y ≡ cond c y x
either_way true c x y e g = absurd (false≢true (sym e))
either_way false true x y e g = refl
either_way false false x y e g = absurd (false≢true g)

swapped : (a b : ℕ) → b < a → equality a b ≡ equality b a
swapped a b lt = either_way (nat_le a b) (nat_le b a) _ _ (lt-leb a b lt) (le-leb b a (omega (arith, lt)))

ordered_in : (a b n : ℕ) → a ≤ b → b < n → Has (equalities n) (equality a b)
ordered_in a b n le lt =
    flat_in (λ d. map (λ c. equality c d) (range_with_len 0 (d + 1))) (equality a b) (range_with_len 0 n) b (range_in b 0 n (omega arith) (omega (arith, lt)))
    (has_mapped (λ c. equality c b) (range_with_len 0 (b + 1)) a (range_in a 0 (b + 1) (omega arith) (omega (arith, le))))

pub equality_in : (a b n : ℕ) → a < n → b < n → Has (equalities n) (equality a b)
equality_in a b n la lb =
    elim (cases_lt b a) [
      | inl lt ↦ subst (Has (equalities n)) (sym (swapped a b lt)) (ordered_in b a n (omega (arith, lt)) la)
      | inr ge ↦ ordered_in a b n (omega (arith, ge)) lb
    ]

-- each known atom is one of those over the terms, with sizes up to the bound
equal_is : (c : Bool) (a b : TermId) → c ≡ true → cond c (Atom.Equal a b) (Atom.Equal b a) ≡ Atom.Equal a b
equal_is true a b e = refl
equal_is false a b e = absurd (false≢true e)

one_sort : (o u : Option Ty) → are_of_one_sort o u ≡ true → (t : Ty) × (is_type o t ≡ true) × (is_type u t ≡ true)
one_sort None u e = absurd (false≢true e)
one_sort (Some Ty.Bool) u e = absurd (false≢true e)
one_sort (Some (Ty.Of s)) u e = (Ty.Of s, eq-eqb s.0 s.0 refl, e)

module _ (p : Problem) (s : State) (w : IsWellHeld p s) (row : SizesAreInRow p s) where
  abbrev terms : ℕ
  terms = length s.held.terms

  over : (a : Atom) → Has s.held.atoms a → is_atom s.held.sig s.held.terms a ≡ true
  over a h = atom_step s.held.sig s.held.terms [] s.held.atoms a w.held.atoms_good h

  size_in : (a : Atom) → Has (size_atoms s.held.sig.sorts s.bound) a → Has (atoms_up_to s s.bound) a
  size_in a h = in_right a (equalities terms) (predicates terms ++ size_atoms s.held.sig.sorts s.bound) (in_right a (predicates terms) (size_atoms s.held.sig.sorts s.bound) h)

  pub known_in : (a : Atom) → Has s.held.atoms a → Has (atoms_up_to s s.bound) a
  known_in (Atom.Equal a b) h =
      let parts = and_parts (nat_le a.0 b.0) (are_of_one_sort (type_of s.held.sig s.held.terms a.0) (type_of s.held.sig s.held.terms b.0)) (over (Atom.Equal a b) h) in
      let sort = one_sort (type_of s.held.sig s.held.terms a.0) (type_of s.held.sig s.held.terms b.0) parts.1 in
      let la = typed_within s.held.sig s.held.terms a.0 sort.0 sort.1 in
      let lb = typed_within s.held.sig s.held.terms b.0 sort.0 sort.2 in
      let is : equality a.0 b.0 ≡ Atom.Equal a b = equal_is (nat_le a.0 b.0) a b parts.0 in
      subst (Has (atoms_up_to s s.bound)) is (in_left (equality a.0 b.0) (equalities terms) (predicates terms ++ size_atoms s.held.sig.sorts s.bound) (equality_in a.0 b.0 terms la lb))
  known_in (Atom.Pred t) h =
      let lt = typed_within s.held.sig s.held.terms t.0 Ty.Bool (over (Atom.Pred t) h) in
      let f : ℕ → Atom = λ n. Atom.Pred (record { 0 = n }) in
      in_right (Atom.Pred t) (equalities terms) (predicates terms ++ size_atoms s.held.sig.sorts s.bound) (in_left (Atom.Pred t) (predicates terms) (size_atoms s.held.sig.sorts s.bound) (has_mapped f (range_with_len 0 terms) t.0 (range_in t.0 0 terms (omega arith) (omega (arith, lt)))))
  known_in (Atom.Card u k) h =
      let m = s.held.sig.sorts in
      let lt = ltb-true u.0 m (over (Atom.Card u k) h) in
      let same : m ≡ p.sig.sorts = ap (λ (g : Sig). g.sorts) w.sig in
      let r = row.cards u.0 (omega (arith, lt, same)) in
      let le = (r.known k).0 (has_known s.held.atoms (card u.0 k) h) in
      let low = r.low in
      size_in (Atom.Card u k) (in_left (Atom.Card u k) (flat_map (λ v. map (card v) (range_with_len 0 (s.bound + 1))) (range_with_len 0 m)) (map Atom.Bound (range_with_len 0 (s.bound + 1)))
      (flat_in (λ v. map (card v) (range_with_len 0 (s.bound + 1))) (Atom.Card u k) (range_with_len 0 m) u.0 (range_in u.0 0 m (omega arith) (omega (arith, lt)))
      (has_mapped (card u.0) (range_with_len 0 (s.bound + 1)) k (range_in k 0 (s.bound + 1) (omega arith) (omega (arith, le, low))))))
  known_in (Atom.Bound n) h =
      let le = ((row.bounds n).0 (has_known s.held.atoms (Atom.Bound n) h)).1 in
      size_in (Atom.Bound n) (in_right (Atom.Bound n) (flat_map (λ v. map (card v) (range_with_len 0 (s.bound + 1))) (range_with_len 0 s.held.sig.sorts)) (map Atom.Bound (range_with_len 0 (s.bound + 1)))
      (has_mapped Atom.Bound (range_with_len 0 (s.bound + 1)) n (range_in n 0 (s.bound + 1) (omega arith) (omega (arith, le)))))

-- with one size more there are no fewer
cards_long : (us : List ℕ) (k : ℕ) → length (flat_map (λ u. map (card u) (range_with_len 0 (k + 1))) us) ≤ length (flat_map (λ u. map (card u) (range_with_len 0 (k + 1 + 1))) us)
cards_long [] k = omega arith
cards_long (u ∷ us) k =
    let a = length-append (map (card u) (range_with_len 0 (k + 1))) (flat_map (λ v. map (card v) (range_with_len 0 (k + 1))) us) in
    let b = length-append (map (card u) (range_with_len 0 (k + 1 + 1))) (flat_map (λ v. map (card v) (range_with_len 0 (k + 1 + 1))) us) in
    let c = length-map-range_with_len (card u) 0 (k + 1) in
    let d = length-map-range_with_len (card u) 0 (k + 1 + 1) in
    let h = cards_long us k in
    omega (arith, a, b, c, d, h)

sizes_long : (m k : ℕ) → length (size_atoms m k) ≤ length (size_atoms m (k + 1))
sizes_long m k =
    let us = range_with_len 0 m in
    let a = length-append (flat_map (λ u. map (card u) (range_with_len 0 (k + 1))) us) (map Atom.Bound (range_with_len 0 (k + 1))) in
    let b = length-append (flat_map (λ u. map (card u) (range_with_len 0 (k + 1 + 1))) us) (map Atom.Bound (range_with_len 0 (k + 1 + 1))) in
    let c = length-map-range_with_len Atom.Bound 0 (k + 1) in
    let d = length-map-range_with_len Atom.Bound 0 (k + 1 + 1) in
    let h = cards_long us k in
    omega (arith, a, b, c, d, h)

pub atoms_long : (s : State) (k : ℕ) → length (atoms_up_to s k) ≤ length (atoms_up_to s (k + 1))
atoms_long s k =
    let es = equalities (length s.held.terms) in
    let ps = predicates (length s.held.terms) in
    let m = s.held.sig.sorts in
    let a = length-append es (ps ++ size_atoms m k) in
    let b = length-append es (ps ++ size_atoms m (k + 1)) in
    let c = length-append ps (size_atoms m k) in
    let d = length-append ps (size_atoms m (k + 1)) in
    let h = sizes_long m k in
    omega (arith, a, b, c, d, h)
