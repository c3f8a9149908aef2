-- The values kept are those of the literals read, and reading and taking back keep this.
use Rattle.std.proofs.Common.{◌≡◌, ℕ, zero, suc, ◌+◌, ◌-◌, ◌<◌, ◌≤◌, ◌⊎◌, Bool, true, false, cond, List, [], ◌∷◌, ◌++◌, length, map, max, Option, Some, None, inl, inr, refl, sym, subst, ap, ◌∙◌, arith, get_or, append_assoc, length-set}
use Rattle.std.specs.Prelude.{◌==◌, slice_set}
use Rattle.std.specs.List.{range_with_len}
use Rattle.std.specs.Prelude.{if◌then◌else◌}
use Rattle.std.proofs.lemmas.List.FromFn.{fill_by_all, get_or-map-range_with_len, length-map-range_with_len}
use Rattle.fm_bank.specs.declared.atom.Atom.{Atom}
use Rattle.std.proofs.lemmas.Bool.{cases_Bool, cases_eq, cases_lt, eq-eqb, eqb-true}
use Rattle.std.proofs.lemmas.List.{get_or-set_other, get_or-set_same}
use Rattle.std.proofs.Math.Nat.{le-max_left, le-max_right}
use Rattle.fm_bank.specs.declared.literal.Literal.{Literal}
use Rattle.fm_sum.specs.declared.bound.Entry.{Entry}
use Rattle.fm_sum.specs.Sums.{AreValues, Held, IsBoundOf, IsLeast, IsReadFalse, IsWithin, WasBefore, asked, before_of, least_by, least_of, passing, raised, read_of, restored}

pub at_least_one : (ls : List Literal) (s : ℕ) → 1 ≤ least_of ls s
at_least_one [] s = omega arith
at_least_one (l ∷ ls) s = omega (arith, at_least_one ls s, le-max_right (least_by (asked l) s) (least_of ls s))

pub least_push : (ls : List Literal) (l : Literal) (s : ℕ) → least_of (ls ++ l ∷ []) s ≡ max (least_of ls s) (least_by (asked l) s)
least_push [] l s = omega arith
least_push (k ∷ ls) l s = ap (max (least_by (asked k) s)) (least_push ls l s) ∙ omega arith

pub by_other : (p : ℕ × ℕ) (s : ℕ) → (p.0 ≡ s → ⊥) → least_by (Some p) s ≡ 1
by_other p s ne = elim (cases_Bool (p.0 == s)) [ inl same ↦ absurd (ne (eqb-true p.0 s same)) | inr other ↦ ap (λ b. cond b p.1 1) other ]

pub by_same : (p : ℕ × ℕ) (s : ℕ) → p.0 ≡ s → least_by (Some p) s ≡ p.1
by_same p s e = ap (λ b. cond b p.1 1) (eq-eqb p.0 s e)

module _ (values : List ℕ) (ls : List Literal) where
  -- a value once a literal is taken back
  pub back : (o : Option (ℕ × ℕ)) (before : ℕ) → IsWithin (length values) o → WasBefore ls o before → (s : ℕ) → get_or values s 0 ≡ max (least_of ls s) (least_by o s) → get_or (restored values o before) s 0 ≡ least_of ls s
  back None before w was s e = e ∙ (let one = at_least_one ls s in omega (arith, one))
  back (Some p) before w was s e =
      elim (cases_eq p.0 s) [
        | inl same ↦ ap (λ (m : ℕ). get_or (slice_set values p.0 before) m 0) (sym same) ∙ (get_or-set_same values p.0 before 0 w ∙ (was ∙ ap (least_of ls) same))
        | inr other ↦ get_or-set_other values p.0 s before 0 (λ f. other (sym f)) ∙ (e ∙ (let one = at_least_one ls s in let by = by_other p s other in omega (arith, one, by)))
      ]

  -- and once one is read
  pub up : (o : Option (ℕ × ℕ)) → IsWithin (length values) o → (s : ℕ) → get_or values s 0 ≡ least_of ls s → get_or (raised values o) s 0 ≡ max (least_of ls s) (least_by o s)
  up None w s e = e ∙ (let one = at_least_one ls s in omega (arith, one))
  up (Some p) w s e =
      let now = max (get_or values p.0 0) p.1 in
      elim (cases_eq p.0 s) [
        | inl same ↦ ap (λ (m : ℕ). get_or (slice_set values p.0 now) m 0) (sym same) ∙ (get_or-set_same values p.0 now 0 w ∙ (ap (λ (n : ℕ). max n p.1) (ap (λ (m : ℕ). get_or values m 0) same ∙ e) ∙ ap (max (least_of ls s)) (sym (by_same p s same))))
        | inr other ↦ get_or-set_other values p.0 s now 0 (λ f. other (sym f)) ∙ (e ∙ (let one = at_least_one ls s in let by = by_other p s other in omega (arith, one, by)))
      ]

  pub was_before : (o : Option (ℕ × ℕ)) → IsWithin (length values) o → ((s : ℕ) → s < length values → get_or values s 0 ≡ least_of ls s) → WasBefore ls o (before_of values o)
  was_before None w e = tt
  was_before (Some p) w e = e p.0 w

pub same_length_up : (values : List ℕ) (o : Option (ℕ × ℕ)) → length (raised values o) ≡ length values
same_length_up values None = refl
same_length_up values (Some p) = length-set values p.0 (max (get_or values p.0 0) p.1)

pub same_length_back : (values : List ℕ) (o : Option (ℕ × ℕ)) (before : ℕ) → length (restored values o before) ≡ length values
same_length_back values None before = refl
same_length_back values (Some p) before = length-set values p.0 before

pub nil_not : (front : List Entry) (e : Entry) (rest : List Entry) → [] ≡ front ++ e ∷ rest → ⊥
nil_not [] e rest h = cc h
nil_not (f ∷ front) e rest h = cc h

cons_head : (x y : Entry) (xs ys : List Entry) → x ∷ xs ≡ y ∷ ys → x ≡ y
cons_head x y xs ys h = cc h

cons_tail : (x y : Entry) (xs ys : List Entry) → x ∷ xs ≡ y ∷ ys → xs ≡ ys
cons_tail x y xs ys h = cc h

-- an entry of a list that is longer by one is that one, or was there
pub pushed : (es : List Entry) (e : Entry) (front : List Entry) (x : Entry) (rest : List Entry) → es ++ e ∷ [] ≡ front ++ x ∷ rest → ((es ≡ front) × (e ≡ x)) ⊎ ((r : List Entry) × (es ≡ front ++ x ∷ r))
pushed [] e [] x rest h = inl (refl, cons_head e x [] rest h)
pushed [] e (f ∷ fs) x rest h = absurd (nil_not fs x rest (cons_tail e f [] (fs ++ x ∷ rest) h))
pushed (y ∷ es) e [] x rest h = inr (es, ap (λ z. z ∷ es) (cons_head y x (es ++ e ∷ []) rest h))
pushed (y ∷ es) e (f ∷ fs) x rest h =
    let head = cons_head y f (es ++ e ∷ []) (fs ++ x ∷ rest) h in
    elim (pushed es e fs x rest (cons_tail y f (es ++ e ∷ []) (fs ++ x ∷ rest) h)) [
      | inl last ↦ inl (ap (λ z. z ∷ es) head ∙ ap (λ zs. f ∷ zs) last.0, last.1)
      | inr old ↦ inr (old.0, ap (λ z. z ∷ es) head ∙ ap (λ zs. f ∷ zs) old.1)
    ]

pub read_push : (es : List Entry) (e : Entry) → read_of (es ++ e ∷ []) ≡ read_of es ++ e.lit ∷ []
read_push [] e = refl
read_push (x ∷ es) e = ap (λ ls. x.lit ∷ ls) (read_push es e)

-- taking back the newest literal
pub values_back : (values : List ℕ) (es : List Entry) (e : Entry) → AreValues values (es ++ e ∷ []) → AreValues (restored values (asked e.lit) e.before) es
values_back values es e v =
    let o = asked e.lit in
    let same = same_length_back values o e.before in
    let w = v.within es e [] refl in
    let longer : (front : List Entry) (x : Entry) (rest : List Entry) → es ≡ front ++ x ∷ rest → es ++ e ∷ [] ≡ front ++ x ∷ (rest ++ e ∷ []) = λ front x rest h. ap (λ (zs : List Entry). zs ++ e ∷ []) h ∙ append_assoc front (x ∷ rest) (e ∷ []) in
    record {
      now = λ s lt. back values (read_of es) o e.before w (v.before es e [] refl) s (v.now s (omega (arith, lt, same)) ∙ (ap (λ (ls : List Literal). least_of ls s) (read_push es e) ∙ least_push (read_of es) e.lit s));
      within = λ front x rest h. subst (λ (n : ℕ). IsWithin n (asked x.lit)) (sym same) (v.within front x (rest ++ e ∷ []) (longer front x rest h));
      before = λ front x rest h. v.before front x (rest ++ e ∷ []) (longer front x rest h);
    }

-- reading one more
pub values_up : (values : List ℕ) (es : List Entry) (e : Entry) → AreValues values es → IsWithin (length values) (asked e.lit) → e.before ≡ before_of values (asked e.lit) → AreValues (raised values (asked e.lit)) (es ++ e ∷ [])
values_up values es e v w b =
    let o = asked e.lit in
    let same = same_length_up values o in
    record {
      now = λ s lt. up values (read_of es) o w s (v.now s (omega (arith, lt, same))) ∙ sym (ap (λ (ls : List Literal). least_of ls s) (read_push es e) ∙ least_push (read_of es) e.lit s);
      within = λ front x rest h. subst (λ (n : ℕ). IsWithin n (asked x.lit)) (sym same) (elim (pushed es e front x rest h) [
        | inl last ↦ subst (λ (z : Entry). IsWithin (length values) (asked z.lit)) last.1 w
        | inr old ↦ v.within front x old.0 old.1
      ]);
      before = λ front x rest h. elim (pushed es e front x rest h) [
        | inl last ↦ subst (λ (z : Entry). WasBefore (read_of front) (asked z.lit) z.before) last.1 (subst (λ (zs : List Entry). WasBefore (read_of zs) o e.before) last.0 (subst (WasBefore (read_of es) o) (sym b) (was_before values (read_of es) o w v.now)))
        | inr old ↦ v.before front x old.0 old.1
      ];
    }

pub no_values : (n : ℕ) → AreValues (map (least_of []) (range_with_len 0 n)) []
no_values n = record {
  now = λ s lt. get_or-map-range_with_len (least_of []) 0 n s s 0 (let e = length-map-range_with_len (least_of []) 0 n in omega (arith, lt, e)) (omega arith);
  within = λ front e rest h. absurd (nil_not front e rest h);
  before = λ front e rest h. absurd (nil_not front e rest h);
}

pub all_values : (values : List ℕ) (es : List Entry) → AreValues values es → values ≡ map (least_of (read_of es)) (range_with_len 0 (length values))
all_values values es v = fill_by_all (least_of (read_of es)) values (length values) 0 refl v.now

pub within_bound : (sorts : ℕ) (positive : Bool) (a : Atom) → IsBoundOf sorts a → IsWithin sorts (if positive then None else passing a)
within_bound sorts true a h = tt
within_bound sorts false (Atom.Card s k) h = h
within_bound sorts false (Atom.Bound n) h = tt
within_bound sorts false (Atom.Equal a b) h = absurd h
within_bound sorts false (Atom.Pred t) h = absurd h

pub held : (a b : ℕ) (r s : List Literal) (m n : List (List Literal)) → a ≡ b → r ≡ s → m ≡ n → ◌≡◌ {A = Held} (record { sorts = a; read = r; levels = m }) (record { sorts = b; read = s; levels = n })
held a b r s m n e f g = λ i. record { sorts = e i; read = f i; levels = g i }

below : (ls : List Literal) (s k : ℕ) (l : Literal) (i : ℕ) → i < length ls → get_or ls i l ≡ l → asked l ≡ Some (s, k + 1) → k + 1 ≤ least_of ls s
below [] s k l i lt e a = absurd (omega (arith, lt))
below (x ∷ ls) s k l zero lt e a =
    let by = ap (λ (o : Option (ℕ × ℕ)). least_by o s) (ap asked e ∙ a) ∙ by_same (s, k + 1) s refl in
    let le = le-max_left (least_by (asked x) s) (least_of ls s) in
    omega (arith, by, le)
below (x ∷ ls) s k l (suc i) lt e a =
    let rest = below ls s k l i (omega (arith, lt)) e a in
    let le = le-max_right (least_by (asked x) s) (least_of ls s) in
    omega (arith, rest, le)

abbrev Met : List Literal → ℕ → ℕ → Type 0
Met ls s m = (k : ℕ) × (m ≤ k) × IsReadFalse ls s k

later : (l : Literal) (ls : List Literal) (s m : ℕ) → Met ls s m → Met (l ∷ ls) s m
later l ls s m h = (h.0, h.1, (h.2.0, (suc h.2.1.0, (let lt = h.2.1.1 in omega (arith, lt)), h.2.1.2), h.2.2))

met_by : (l : Literal) (ls : List Literal) (s m : ℕ) → 1 ≤ m → (o : Option (ℕ × ℕ)) → asked l ≡ o → m < least_by o s → Met (l ∷ ls) s m
met_by l ls s m one None e lt = absurd (omega (arith, one, lt))
met_by l ls s m one (Some p) e lt =
    elim (cases_eq p.0 s) [
      | inl same ↦
          let by = by_same p s same in
          let top : p.1 ≡ (p.1 - 1) + 1 = omega (arith, one, lt, by) in
          (p.1 - 1, omega (arith, lt, by), (l, (zero, omega arith, refl), e ∙ ap Some (λ i. (same i, top i))))
      | inr other ↦ let by = by_other p s other in absurd (omega (arith, one, lt, by))
    ]

met : (ls : List Literal) (s m : ℕ) → 1 ≤ m → m < least_of ls s → Met ls s m
met [] s m one lt = absurd (omega (arith, one, lt))
met (l ∷ ls) s m one lt =
    elim (cases_lt m (least_of ls s)) [
      | inl rest ↦ later l ls s m (met ls s m one rest)
      | inr here ↦ met_by l ls s m one (asked l) refl (omega (arith, here, lt))
    ]

-- the value in the words of the reading
pub is_least : (ls : List Literal) (s : ℕ) → IsLeast ls s (least_of ls s)
is_least ls s = record {
  positive = at_least_one ls s;
  above = λ k le h. let lt = below ls s k h.0 h.1.0 h.1.1 h.1.2 h.2 in omega (arith, le, lt);
  least = λ m one lt. met ls s m one lt;
}

pub ones_more : (a n : ℕ) → map (least_of []) (range_with_len a n) ++ 1 ∷ [] ≡ map (least_of []) (range_with_len a (suc n))
ones_more a zero = refl
ones_more a (suc n) = ap (λ ns. 1 ∷ ns) (ones_more (a + 1) n)
