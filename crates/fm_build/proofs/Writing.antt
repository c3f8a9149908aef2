-- The table that the entries make is the candidate's.
use Rattle.std.proofs.Common.{◌≡◌, ℕ, zero, suc, ◌<◌, Bool, true, false, ◌&&◌, not, cond, List, [], ◌∷◌, ◌⊎◌, length, map, Option, Some, None, refl, sym, subst, ap, ◌∙◌, arith, inl, inr, nat_lt}
use Rattle.std.specs.Prelude.{◌==◌, slice_get, slice_index}
use Rattle.std.specs.Str.{bytes_eq}
use Rattle.std.specs.Cmp.Lexicographic.{bytes_decides}
use Rattle.std.specs.List.{find, list_all, range_with_len}
use Rattle.std.proofs.lemmas.Bool.{and_from, and_parts, cases_Bool, cases_eq, cond-false, cond-true, eq-eqb, eqb-true, false≢true, lt-ltb, ne_eqb}
use Rattle.std.proofs.lemmas.Option.{slice_get_within}
use Rattle.fm_base.specs.Interpretations.{Reading, entry_in, is_tuple, values_of}
use Rattle.fm_base.specs.Resolution.{Has}
use Rattle.fm_base.specs.declared.signature.Rank.{Rank}
use Rattle.fm_base.specs.declared.signature.Sig.{Sig}
use Rattle.fm_base.specs.declared.signature.Ty.{Ty}
use Rattle.fm_bank.specs.Subterms.{is_found as has}
use Rattle.fm_bank.specs.Terms.{Term, are_of_types, is_type, type_of}
use Rattle.fm_rounds.specs.Grounds.{IsGrounded, is_declared}
use Rattle.fm_rounds.specs.Rounds.{Content, candidate_reading, element_in, element_of, element_of_first, is_application_at, reached, value_at}
use Rattle.fm_rounds.specs.Tuples.{graph, table_of, tuples}
use Rattle.fm_rounds.proofs.Elements.{application_parts, element_within, parts_of, type_is, value_there}
use Rattle.fm_rounds.proofs.LeastTuple.{Below}
use Rattle.fm_rounds.proofs.Members.{has_in, in_filter, in_flat, in_has, in_range}
use Rattle.fm_rounds.proofs.Reaching.{reached_is}
use Rattle.fm_rounds.proofs.Searches.{Exception}
use Rattle.fm_rounds.proofs.Tabling.{entries_ascend, table_reads, tuples_rise}
use Rattle.fm_rounds.proofs.Unique.{tables_have_one_form}
use Rattle.fm_build.specs.Entries.{AreEntries, HasKey, has_symbol, tuple_at}
use Rattle.fm_build.specs.Marks.{is_marked}
use Rattle.fm_build.specs.Written.{first_value, written}

-- what a list of entries gives a tuple
abbrev Found : List Exception → List ℕ → Type 0
Found es ys = (e : Exception) × Has es e × (e.0 ≡ ys) × (entry_in 0 es ys ≡ e.1)

abbrev Missing : List Exception → List ℕ → Type 0
Missing es ys = (HasKey es ys → ⊥) × (entry_in 0 es ys ≡ 0)

other_key : (e : Exception) (es : List Exception) (ys : List ℕ) → bytes_eq e.0 ys ≡ false → (HasKey es ys → ⊥) → HasKey (e ∷ es) ys → ⊥
other_key e es ys b h (v, inl s) = let same : e.0 ≡ ys = ap (λ (p : Exception). p.0) s in false≢true (sym b ∙ (bytes_decides e.0 ys).1 same)
other_key e es ys b h (v, inr i) = h (v, i)

entry_cases : (es : List Exception) (ys : List ℕ) → Found es ys ⊎ Missing es ys
entry_cases [] ys = inr (λ k. k.1, refl)
entry_cases (e ∷ es) ys = elim (cases_Bool (bytes_eq e.0 ys)) [
  | inl t ↦ inl (e, inl refl, (bytes_decides e.0 ys).0 t, cond-true (bytes_eq e.0 ys) e.1 (entry_in 0 es ys) t)
  | inr n ↦
      let skip = cond-false (bytes_eq e.0 ys) e.1 (entry_in 0 es ys) n in
      elim (entry_cases es ys) [
        | inl (d, i, s, v) ↦ inl (d, inr i, s, skip ∙ v)
        | inr (none, z) ↦ inr (other_key e es ys n none, skip ∙ z)
      ]
]

in_map : {X Y : Type 0} (f : X → Y) (y : Y) (xs : List X) → Has (map f xs) y → (x : X) × Has xs x × (f x ≡ y)
in_map f y [] h = absurd h
in_map f y (x ∷ xs) (inl s) = (x, inl refl, s)
in_map f y (x ∷ xs) (inr i) = let r = in_map f y xs i in (r.0, inr r.1, r.2)

tuples_below : (ns xs : List ℕ) → Has (tuples ns) xs → Below ns xs
tuples_below [] xs (inl s) = subst (λ ys. Below [] ys) s tt
tuples_below [] xs (inr none) = absurd none
tuples_below (n ∷ ns) xs h =
    let p = in_flat (λ x. map (λ ys. x ∷ ys) (tuples ns)) xs (range_with_len 0 n) h in
    let q = in_map (λ ys. p.0 ∷ ys) xs (tuples ns) p.2 in
    let lt = in_range p.0 0 n p.1 in
    subst (λ ys. Below (n ∷ ns) ys) q.2 (omega (arith, lt.1), tuples_below ns q.0 q.1)

below_tuple : (m : Reading) (ts : List Ty) (xs : List ℕ) → Below (map (values_of m) ts) xs → is_tuple m ts xs ≡ true
below_tuple m [] [] h = refl
below_tuple m [] (x ∷ xs) h = absurd h
below_tuple m (t ∷ ts) [] h = absurd h
below_tuple m (t ∷ ts) (x ∷ xs) (lt, h) = and_from (nat_lt x (values_of m t)) (is_tuple m ts xs) (lt-ltb x (values_of m t) lt) (below_tuple m ts xs h)

no_types : (sig : Sig) (terms : List Term) (ns : List ℕ) → are_of_types sig terms ns [] ≡ true → ns ≡ []
no_types sig terms [] e = refl
no_types sig terms (n ∷ ns) e = absurd (false≢true e)

module _ (c : Content) (g : IsGrounded c) (marks : List Bool) (elements : List ℕ) (marked : (n : ℕ) → n < length c.terms → is_marked marks n ≡ has (reached c).terms n)
    (valued : (n : ℕ) → Has (reached c).terms n → slice_index elements n ≡ element_of c n) (f : ℕ) (rank : Rank) (ranked : slice_get c.sig.ranks f ≡ Some rank) (es : List Exception)
    (listed : AreEntries c.terms marks elements f (length c.terms) es) where
  abbrev m : Reading
  m = candidate_reading c

  abbrev over : List ℕ
  over = (reached c).terms

  all_valued : (ns : List ℕ) → ((k : ℕ) → Has ns k → Has over k) → map (λ n. slice_index elements n) ns ≡ map (element_of c) ns
  all_valued [] h = refl
  all_valued (n ∷ ns) h = let one = valued n (h n (inl refl)) in let rest = all_valued ns (λ k i. h k (inr i)) in λ i. one i ∷ rest i

  tuple_is : (n : ℕ) (t : Term) → Has over n → slice_get c.terms n ≡ Some t → tuple_at elements t ≡ map (element_of c) t.args
  tuple_is n t h e = all_valued t.args (λ k i. (reached_is c g).closed n k t h e i)

  element_low : (u : Ty) (n : ℕ) → is_declared u ≡ true → Has over n → is_type (type_of c.sig c.terms n) u ≡ true → nat_lt (element_of c n) (values_of m u) ≡ true
  element_low Ty.Bool n d h e = absurd (false≢true d)
  element_low (Ty.Of s) n d h e =
      let typed = type_is (type_of c.sig c.terms n) (Ty.Of s) e in
      ap (λ o. nat_lt (element_in c o n) (values_of m (Ty.Of s))) typed ∙ lt-ltb (element_in c (Some (Ty.Of s)) n) (values_of m (Ty.Of s)) (element_within c g s.0 n h typed)

  typed_tuple : (us : List Ty) (ns : List ℕ) → list_all is_declared us ≡ true → ((k : ℕ) → Has ns k → Has over k) → are_of_types c.sig c.terms ns us ≡ true → is_tuple m us (map (element_of c) ns) ≡ true
  typed_tuple [] [] d h e = refl
  typed_tuple [] (n ∷ ns) d h e = absurd (false≢true e)
  typed_tuple (u ∷ us) [] d h e = absurd (false≢true e)
  typed_tuple (u ∷ us) (n ∷ ns) d h e =
      let pd = and_parts (is_declared u) (list_all is_declared us) d in
      let pe = and_parts (is_type (type_of c.sig c.terms n) u) (are_of_types c.sig c.terms ns us) e in
      and_from (nat_lt (element_of c n) (values_of m u)) (is_tuple m us (map (element_of c) ns)) (element_low u n pd.0 (h n (inl refl)) pe.0) (typed_tuple us ns pd.1 (λ k i. h k (inr i)) pe.1)

  record Origin (e : Exception) : Type 0 where
    value : e.1 ≡ value_at c f e.0
    some : e.1 ≡ 0 → ⊥
    tuple : is_tuple m rank.args e.0 ≡ true
    none : rank.args ≡ [] → e.0 ≡ []

  symbol_of : (o : Option Term) (t : Term) (b : Bool) → o ≡ Some t → (has_symbol f o && b) ≡ true → (t.symbol ≡ f) × (b ≡ true)
  symbol_of o t b e h =
      let p = and_parts (t.symbol == f) b (ap (λ (q : Option Term). has_symbol f q && b) (sym e) ∙ h) in
      (eqb-true t.symbol f p.0, p.1)

  not_zero : (x : ℕ) → not (x == 0) ≡ true → x ≡ 0 → ⊥
  not_zero zero h e = false≢true h
  not_zero (suc x) h e = cc e

  origin : (e : Exception) → Has es e → Origin e
  origin e i =
      let o = listed.come e i in
      let n = o.n in
      let t = o.t in
      let s = symbol_of (slice_get c.terms n) t (is_marked marks n && not (slice_index elements n == 0)) o.stands o.listed in
      let p = and_parts (is_marked marks n) (not (slice_index elements n == 0)) s.1 in
      let there : Has over n = has_in over n (sym (marked n o.before) ∙ p.0) in
      let tuple : e.0 ≡ map (element_of c) t.args = o.tuple ∙ tuple_is n t there o.stands in
      let value : e.1 ≡ element_of c n = o.element ∙ valued n there in
      let parts = parts_of c.sig c.terms n t g.terms o.stands in
      let ranks : parts.rank ≡ rank = cc (sym parts.is ∙ ap (slice_get c.sig.ranks) s.0 ∙ ranked) in
      let typed : are_of_types c.sig c.terms t.args rank.args ≡ true = subst (λ (r : Rank). are_of_types c.sig c.terms t.args r.args ≡ true) ranks parts.typed in
      record {
        value = value ∙ sym (value_there c g n t there o.stands) ∙ ap (λ k. value_at c k (map (element_of c) t.args)) s.0 ∙ ap (value_at c f) (sym tuple);
        some = λ z. not_zero (slice_index elements n) p.1 (sym o.element ∙ z);
        tuple = ap (is_tuple m rank.args) tuple ∙ typed_tuple rank.args t.args (g.declared f rank ranked) (λ k j. (reached_is c g).closed n k t there o.stands j) typed;
        none = λ empty. tuple ∙ ap (map (element_of c)) (no_types c.sig c.terms t.args (ap (are_of_types c.sig c.terms t.args) (sym empty) ∙ typed));
      }

  find_first : (p : ℕ → Bool) (xs : List ℕ) (o : Option ℕ) → find p xs ≡ o → (n : ℕ) → o ≡ Some n → Has xs n × (p n ≡ true)
  find_first p [] o e n s = cc (e ∙ s)
  find_first p (x ∷ xs) o e n s = elim (cases_Bool (p x)) [
    | inl t ↦ let same : x ≡ n = cc (sym (ap (λ b. cond b (Some x) (find p xs)) t) ∙ e ∙ s) in (inl same, ap p (sym same) ∙ t)
    | inr f' ↦ let r = find_first p xs (find p xs) refl n (sym (ap (λ b. cond b (Some x) (find p xs)) f') ∙ e ∙ s) in (inr r.0, r.1)
  ]

  -- a tuple without an entry has the value 0
  zero_at : (ys : List ℕ) → (HasKey es ys → ⊥) → (o : Option ℕ) → find (λ n. is_application_at c f ys (slice_get c.terms n)) over ≡ o → element_of_first c o ≡ 0
  zero_at ys none None e = refl
  zero_at ys none (Some n) e =
      let q : ℕ → Bool = λ n. is_application_at c f ys (slice_get c.terms n) in
      let r = find_first q over (Some n) e n refl in
      let a = application_parts c g f ys (slice_get c.terms n) r.1 in
      let lt : n < length c.terms = slice_get_within c.terms n a.0 a.1 in
      elim (cases_eq (element_of c n) 0) [
        | inl z ↦ z
        | inr other ↦
            let differs : not (slice_index elements n == 0) ≡ true = ap not (ne_eqb (slice_index elements n) 0 (λ z. other (sym (valued n r.0) ∙ z))) in
            let rest = and_from (is_marked marks n) (not (slice_index elements n == 0)) (marked n lt ∙ in_has over n r.0) differs in
            let symbol : has_symbol f (slice_get c.terms n) ≡ true = ap (has_symbol f) a.1 ∙ eq-eqb a.0.symbol f a.2 in
            let good = and_from (has_symbol f (slice_get c.terms n)) (is_marked marks n && not (slice_index elements n == 0)) symbol rest in
            absurd (none (subst (λ k. HasKey es k) (tuple_is n a.0 r.0 a.1 ∙ a.3) (listed.all n a.0 lt a.1 good)))
      ]

  pub entry_value : (ys : List ℕ) → entry_in 0 es ys ≡ value_at c f ys
  entry_value ys = elim (entry_cases es ys) [
    | inl (e, i, s, v) ↦ v ∙ (origin e i).value ∙ ap (value_at c f) s
    | inr (none, z) ↦ z ∙ sym (zero_at ys none (find (λ n. is_application_at c f ys (slice_get c.terms n)) over) refl)
  ]

  first_is : (ls : List Exception) → ((e : Exception) → Has ls e → e.0 ≡ []) → entry_in 0 ls [] ≡ first_value ls
  first_is [] h = refl
  first_is (e ∷ ls) h = cond-true (bytes_eq e.0 []) e.1 (entry_in 0 ls []) ((bytes_decides e.0 []).1 (h e (inl refl)))

  module _ (t : Ty) (ts : List Ty) (args : rank.args ≡ t ∷ ts) where
    abbrev fs : List Exception
    fs = (table_of m f (t ∷ ts)).except

    is_there : (e : Exception) → Has fs e → (is_tuple m (t ∷ ts) e.0 ≡ true) × (e.1 ≡ 0 → ⊥)
    is_there e i =
        let p = in_filter (λ (d : Exception). not (d.1 == 0)) e (graph m f (t ∷ ts)) i in
        let q = in_map (λ xs. (xs, m.at f xs)) e (tuples (map (values_of m) (t ∷ ts))) p.0 in
        let low = below_tuple m (t ∷ ts) q.0 (tuples_below (map (values_of m) (t ∷ ts)) q.0 q.1) in
        (ap (λ (d : Exception). is_tuple m (t ∷ ts) d.0) (sym q.2) ∙ low, not_zero e.1 p.1)

    both : (ys : List ℕ) (b : Bool) → is_tuple m (t ∷ ts) ys ≡ b → entry_in 0 es ys ≡ entry_in 0 fs ys
    both ys true b = entry_value ys ∙ sym (table_reads m f (t ∷ ts) ys b)
    both ys false b = mine ∙ sym other
      where
        mine : entry_in 0 es ys ≡ 0
        mine = elim (entry_cases es ys) [
          | inl (e, i, s, v) ↦ absurd (false≢true (sym b ∙ ap (is_tuple m (t ∷ ts)) (sym s) ∙ ap (λ us. is_tuple m us e.0) (sym args) ∙ (origin e i).tuple))
          | inr (none, z) ↦ z
        ]

        other : entry_in 0 fs ys ≡ 0
        other = elim (entry_cases fs ys) [
          | inl (e, i, s, v) ↦ absurd (false≢true (sym b ∙ ap (is_tuple m (t ∷ ts)) (sym s) ∙ (is_there e i).0))
          | inr (none, z) ↦ z
        ]

    pub same_entries : es ≡ fs
    same_entries = tables_have_one_form 0 es fs (record { order = listed.order; others = λ e i z. (origin e i).some z })
        (record { order = entries_ascend (m.at f) (tuples (map (values_of m) (t ∷ ts))) (tuples_rise (map (values_of m) (t ∷ ts))); others = λ e i z. (is_there e i).1 z }) (λ ys. both ys (is_tuple m (t ∷ ts) ys) refl)

  by_args : (us : List Ty) → rank.args ≡ us → written us es ≡ table_of m f us
  by_args [] e = let first = sym (first_is es (λ d i. (origin d i).none e)) ∙ entry_value [] in λ i. record { default = first i; except = [] }
  by_args (t ∷ ts) e = let same = same_entries t ts e in λ i. record { default = 0; except = same i }

  pub table_is : written rank.args es ≡ table_of m f rank.args
  table_is = by_args rank.args refl
