-- Two rings become one where their first members change what is next.
use Rattle.std.proofs.Common.{◌≡◌, ℕ, ◌<◌, ◌≤◌, true, false, cond, ◌||◌, List, [], ◌∷◌, ◌++◌, length, inl, inr, refl, sym, subst, ap, ◌∙◌, arith, eqb, length-append, length-set, get_or-set_same, get_or-set_other}
use Rattle.std.specs.Prelude.{◌==◌, min, slice_set}
use Rattle.std.specs.List.{AllByRecursion, IsDistinct}
use Rattle.std.proofs.lemmas.Bool.{cases_lt, eq-eqb, eqb-true, false≢true, false_from_ne_true, ne_eqb, or_cases, or_left, or_right}
use Rattle.std.proofs.lemmas.Bool.Decides.{eqb_tells}
use Rattle.fm_cells.specs.Forest.{merged}
use Rattle.fm_cells.specs.Members.{is_on}
use Rattle.fm_cells.specs.Rings.{AreRings, HasRing, IsChain, IsLeast, alone, both, changed, own_or, rank, relabelled, root_or, swapped}
use Rattle.fm_cells.specs.declared.rings.Root.{Root}
use Rattle.fm_cells.proofs.Members.{on_cases, on_left, on_right}
use Rattle.fm_cells.proofs.Turning.{merged_cases}

swapped_first : (next : ℕ → ℕ) (a b : ℕ) → swapped next a b a ≡ next b
swapped_first next a b = ap (λ t. cond t (next b) (cond (a == b) (next a) (next a))) (eq-eqb a a refl)

swapped_second : (next : ℕ → ℕ) (a b : ℕ) → (a ≡ b → ⊥) → swapped next a b b ≡ next a
swapped_second next a b ne = ap (λ t. cond t (next b) (cond (b == b) (next a) (next b))) (ne_eqb b a (λ e. ne (sym e))) ∙ ap (λ t. cond t (next a) (next b)) (eq-eqb b b refl)

swapped_other : (next : ℕ → ℕ) (a b x : ℕ) → (x ≡ a → ⊥) → (x ≡ b → ⊥) → swapped next a b x ≡ next x
swapped_other next a b x p q = ap (λ t. cond t (next b) (cond (x == b) (next a) (next x))) (ne_eqb x a p) ∙ ap (λ t. cond t (next a) (next x)) (ne_eqb x b q)

off_rest : (c : ℕ) (cs : List ℕ) (x : ℕ) → is_on (c ∷ cs) x ≡ false → (x ≡ c → ⊥) × (is_on cs x ≡ false)
off_rest c cs x h = (
  λ e. false≢true (sym h ∙ or_left (x == c) (is_on cs x) (eq-eqb x c e)),
  false_from_ne_true (is_on cs x) (λ t. false≢true (sym h ∙ or_right (x == c) (is_on cs x) t)),
)

kept_chain : (next : ℕ → ℕ) (a b x : ℕ) (cs : List ℕ) (y : ℕ) → IsChain next x cs y → is_on cs a ≡ false → is_on cs b ≡ false → IsChain (swapped next a b) x cs y
kept_chain next a b x [] y h p q = h
kept_chain next a b x (c ∷ cs) y h p q =
    let pa = off_rest c cs a p in
    let qb = off_rest c cs b q in
    (h.0, subst (λ (z : ℕ). IsChain (swapped next a b) z cs y) (sym (swapped_other next a b c (λ e. pa.0 (sym e)) (λ e. qb.0 (sym e)))) (kept_chain next a b (next c) cs y h.1 pa.1 qb.1))

chain_append : (next : ℕ → ℕ) (x : ℕ) (cs : List ℕ) (y : ℕ) (ds : List ℕ) (z : ℕ) → IsChain next x cs y → IsChain next y ds z → IsChain next x (cs ++ ds) z
chain_append next x [] y ds z h k = subst (λ (w : ℕ). IsChain next w ds z) (sym h) k
chain_append next x (c ∷ cs) y ds z h k = (h.0, chain_append next (next c) cs y ds z h.1 k)

by_recursion : (x : ℕ) (xs : List ℕ) → is_on xs x ≡ false → AllByRecursion (λ y. eqb x y ≡ false) xs
by_recursion x [] h = tt
by_recursion x (y ∷ ys) h = let r = off_rest y ys x h in (ne_eqb x y r.0, by_recursion x ys r.1)

off_from : (x : ℕ) (xs : List ℕ) → AllByRecursion (λ y. eqb x y ≡ false) xs → is_on xs x ≡ false
off_from x [] h = refl
off_from x (y ∷ ys) h = ap (λ b. b || is_on ys x) h.0 ∙ off_from x ys h.1

pub distinct_none : IsDistinct eqb []
unfolding IsDistinct
distinct_none = tt

pub distinct_cons : (x : ℕ) (xs : List ℕ) → is_on xs x ≡ false → IsDistinct eqb xs → IsDistinct eqb (x ∷ xs)
unfolding IsDistinct
distinct_cons x xs h k = (by_recursion x xs h, k)

pub distinct_one : (x : ℕ) → IsDistinct eqb (x ∷ [])
unfolding IsDistinct
distinct_one x = (tt, tt)

distinct_parts : (x : ℕ) (xs : List ℕ) → IsDistinct eqb (x ∷ xs) → (is_on xs x ≡ false) × IsDistinct eqb xs
unfolding IsDistinct
distinct_parts x xs h = (off_from x xs h.0, h.1)

off_both : (xs ys : List ℕ) (x : ℕ) → is_on xs x ≡ false → is_on ys x ≡ false → is_on (xs ++ ys) x ≡ false
off_both xs ys x p q = false_from_ne_true (is_on (xs ++ ys) x) (λ h. elim (on_cases xs ys x h) [ inl a ↦ false≢true (sym p ∙ a) | inr b ↦ false≢true (sym q ∙ b) ])

distinct_append : (xs ys : List ℕ) → IsDistinct eqb xs → IsDistinct eqb ys → ((x : ℕ) → is_on xs x ≡ true → is_on ys x ≡ false) → IsDistinct eqb (xs ++ ys)
distinct_append [] ys p q h = q
distinct_append (x ∷ xs) ys p q h =
    let parts = distinct_parts x xs p in
    distinct_cons x (xs ++ ys) (off_both xs ys x parts.0 (h x (or_left (x == x) (is_on xs x) (eq-eqb x x refl)))) (distinct_append xs ys parts.1 q (λ y k. h y (or_right (y == x) (is_on xs y) k)))

changed_at : {X : Type 0} → (f : ℕ → X) (a : ℕ) (v : X) → changed f a v a ≡ v
changed_at f a v = ap (λ t. cond t v (f a)) (eq-eqb a a refl)

changed_other : {X : Type 0} → (f : ℕ → X) (a : ℕ) (v : X) (x : ℕ) → (x ≡ a → ⊥) → changed f a v x ≡ f x
changed_other f a v x ne = ap (λ t. cond t v (f x)) (ne_eqb x a ne)

-- the class of number a becomes part of that of number b
module _ (next class : ℕ → ℕ) (roots : ℕ → Root) (rings : AreRings next class roots) (a b : ℕ) (root_a : class a ≡ a) (root_b : class b ≡ b) (ne : a ≡ b → ⊥) where
  abbrev ring_a : HasRing next class roots a
  ring_a = rings.rings a root_a

  abbrev ring_b : HasRing next class roots b
  ring_b = rings.rings b root_b

  -- a member of one class is in no other ring
  off_ring : (r : ℕ) (h : HasRing next class roots r) (x : ℕ) → (class x ≡ r → ⊥) → is_on (r ∷ h.others) x ≡ false
  off_ring r h x no_member = false_from_ne_true (is_on (r ∷ h.others) x) (λ on. no_member ((h.members x).0 on))

  abbrev spliced : List ℕ
  spliced = ring_a.others ++ (a ∷ ring_b.others)

  to_b : (x : ℕ) → class x ≡ a → merged class a b x ≡ b
  to_b x e = elim (merged_cases class a b x) [ inl m ↦ m.1 ∙ root_b | inr m ↦ absurd (m.0 (e ∙ sym root_a)) ]

  as_before : (x : ℕ) → (class x ≡ a → ⊥) → merged class a b x ≡ class x
  as_before x n = elim (merged_cases class a b x) [ inl m ↦ absurd (n (m.0 ∙ root_a)) | inr m ↦ m.1 ]

  a_not_in_b : is_on (b ∷ ring_b.others) a ≡ false
  a_not_in_b = off_ring b ring_b a (λ e. ne (sym root_a ∙ e))

  b_not_in_a : is_on (a ∷ ring_a.others) b ≡ false
  b_not_in_a = off_ring a ring_a b (λ e. ne (sym e ∙ root_b))

  a_once : is_on ring_a.others a ≡ false
  a_once = (distinct_parts a ring_a.others ring_a.distinct).0

  b_once : is_on ring_b.others b ≡ false
  b_once = (distinct_parts b ring_b.others ring_b.distinct).0

  joined_chain : IsChain (swapped next a b) b (b ∷ spliced) b
  joined_chain =
      let from_a = kept_chain next a b (next a) ring_a.others a ring_a.ring.1 a_once (off_rest a ring_a.others b b_not_in_a).1 in
      let from_b = kept_chain next a b (next b) ring_b.others b ring_b.ring.1 (off_rest b ring_b.others a a_not_in_b).1 b_once in
      let second : IsChain (swapped next a b) a (a ∷ ring_b.others) b = (refl, subst (λ (z : ℕ). IsChain (swapped next a b) z ring_b.others b) (sym (swapped_first next a b)) from_b) in
      (refl, subst (λ (z : ℕ). IsChain (swapped next a b) z spliced b) (sym (swapped_second next a b ne)) (chain_append (swapped next a b) (next a) ring_a.others a (a ∷ ring_b.others) b from_a second))

  joined_distinct : IsDistinct eqb (b ∷ spliced)
  joined_distinct =
      let a_rest = off_rest b ring_b.others a a_not_in_b in
      let b_rest = off_rest a ring_a.others b b_not_in_a in
      let tail : is_on (a ∷ ring_b.others) b ≡ false = false_from_ne_true (is_on (a ∷ ring_b.others) b) (λ h. elim (or_cases (b == a) (is_on ring_b.others b) h) [ inl e ↦ b_rest.0 (eqb-true b a e) | inr o ↦ false≢true (sym b_once ∙ o) ]) in
      let apart : (x : ℕ) → is_on ring_a.others x ≡ true → is_on (a ∷ ring_b.others) x ≡ false = λ x on.
      false_from_ne_true (is_on (a ∷ ring_b.others) x) (λ h. elim (or_cases (x == a) (is_on ring_b.others x) h) [
        | inl e ↦ false≢true (sym a_once ∙ (ap (is_on ring_a.others) (sym (eqb-true x a e)) ∙ on))
        | inr o ↦
            let in_a = (ring_a.members x).0 (or_right (x == a) (is_on ring_a.others x) on) in
            let in_b = (ring_b.members x).0 (or_right (x == b) (is_on ring_b.others x) o) in
            ne (sym in_a ∙ in_b)
      ]) in
      distinct_cons b spliced (off_both ring_a.others (a ∷ ring_b.others) b b_rest.1 tail) (distinct_append ring_a.others (a ∷ ring_b.others) (distinct_parts a ring_a.others ring_a.distinct).1 (distinct_cons a ring_b.others a_rest.1 (distinct_parts b ring_b.others ring_b.distinct).1) apart)

  b_stays : merged class a b b ≡ b
  b_stays = as_before b (λ e. ne (sym e ∙ root_b)) ∙ root_b

  joined_into : (y : ℕ) → is_on (b ∷ spliced) y ≡ true → merged class a b y ≡ b
  joined_into y on =
      elim (or_cases (y == b) (is_on spliced y) on) [
        | inl e ↦ ap (merged class a b) (eqb-true y b e) ∙ b_stays
        | inr o ↦ elim (on_cases ring_a.others (a ∷ ring_b.others) y o) [
          | inl p ↦ to_b y ((ring_a.members y).0 (or_right (y == a) (is_on ring_a.others y) p))
          | inr p ↦ elim (or_cases (y == a) (is_on ring_b.others y) p) [
            | inl e ↦ to_b y (ap class (eqb-true y a e) ∙ root_a)
            | inr q ↦ let c = (ring_b.members y).0 (or_right (y == b) (is_on ring_b.others y) q) in as_before y (λ e. ne (sym e ∙ c)) ∙ c
          ]
        ]
      ]

  joined_from : (y : ℕ) → merged class a b y ≡ b → is_on (b ∷ spliced) y ≡ true
  joined_from y h =
      elim (merged_cases class a b y) [
        | inl m ↦ elim (or_cases (y == a) (is_on ring_a.others y) ((ring_a.members y).1 (m.0 ∙ root_a))) [
          | inl e ↦ or_right (y == b) (is_on spliced y) (on_right ring_a.others (a ∷ ring_b.others) y (or_left (y == a) (is_on ring_b.others y) e))
          | inr o ↦ or_right (y == b) (is_on spliced y) (on_left ring_a.others (a ∷ ring_b.others) y o)
        ]
        | inr m ↦ elim (or_cases (y == b) (is_on ring_b.others y) ((ring_b.members y).1 (sym m.1 ∙ h))) [
          | inl e ↦ or_left (y == b) (is_on spliced y) e
          | inr o ↦ or_right (y == b) (is_on spliced y) (on_right ring_a.others (a ∷ ring_b.others) y (or_right (y == a) (is_on ring_b.others y) o))
        ]
      ]

  joined_first : (x : ℕ) → merged class a b x ≡ b → min (roots a).least (roots b).least ≤ rank x
  joined_first x h =
      elim (merged_cases class a b x) [
        | inl m ↦ let l = ring_a.least_is.first x (m.0 ∙ root_a) in omega (arith, l)
        | inr m ↦ let l = ring_b.least_is.first x (sym m.1 ∙ h) in omega (arith, l)
      ]

  joined_least : IsLeast (merged class a b) b (min (roots a).least (roots b).least)
  joined_least =
      let l = ring_a.least_is in
      let r = ring_b.least_is in
      elim (cases_lt (roots a).least (roots b).least) [
        | inl lt ↦ record { member = l.member; here = to_b l.member l.here; is = omega (arith, l.is, lt); first = joined_first }
        | inr ge ↦ record { member = r.member; here = as_before r.member (λ e. ne (sym e ∙ r.here)) ∙ r.here; is = omega (arith, r.is, ge); first = joined_first }
      ]

  joined_ring : HasRing (swapped next a b) (merged class a b) (changed roots b (both (roots a) (roots b))) b
  joined_ring =
      record {
        others = spliced;
        ring = joined_chain;
        distinct = joined_distinct;
        members = λ y. (joined_into y, joined_from y);
        size_is = omega (arith, length-append ring_a.others (a ∷ ring_b.others), ring_a.size_is, ring_b.size_is, ap (λ (z : Root). z.size) (changed_at roots b (both (roots a) (roots b))));
        least_is = subst (λ (z : Root). IsLeast (merged class a b) b z.least) (sym (changed_at roots b (both (roots a) (roots b)))) joined_least;
      }

  other_ring : (r : ℕ) → class r ≡ r → (r ≡ a → ⊥) → (r ≡ b → ⊥) → HasRing (swapped next a b) (merged class a b) (changed roots b (both (roots a) (roots b))) r
  other_ring r root p q =
      let h = rings.rings r root in
      record {
        others = h.others;
        ring = kept_chain next a b r (r ∷ h.others) r h.ring (off_ring r h a (λ e. p (sym e ∙ root_a))) (off_ring r h b (λ e. q (sym e ∙ root_b)));
        distinct = h.distinct;
        members = λ y. (
          (λ on. let c = (h.members y).0 on in as_before y (λ e. p (sym c ∙ e)) ∙ c),
          (λ m. elim (merged_cases class a b y) [ inl k ↦ absurd (q (sym m ∙ (k.1 ∙ root_b))) | inr k ↦ (h.members y).1 (sym k.1 ∙ m) ]),
        );
        size_is = h.size_is ∙ sym (ap (λ (z : Root). z.size) (changed_other roots b (both (roots a) (roots b)) r q));
        least_is = subst (λ (z : Root). IsLeast (merged class a b) r z.least) (sym (changed_other roots b (both (roots a) (roots b)) r q)) (record {
          member = h.least_is.member;
          here = as_before h.least_is.member (λ e. p (sym h.least_is.here ∙ e)) ∙ h.least_is.here;
          is = h.least_is.is;
          first = λ x m. elim (merged_cases class a b x) [ inl k ↦ absurd (q (sym m ∙ (k.1 ∙ root_b))) | inr k ↦ h.least_is.first x (sym k.1 ∙ m) ];
        });
      }

  pub rings_joined : AreRings (swapped next a b) (merged class a b) (changed roots b (both (roots a) (roots b)))
  rings_joined =
      record {
        root = λ x. elim (merged_cases class a b x) [
          | inl m ↦ ap (merged class a b) (m.1 ∙ root_b) ∙ (b_stays ∙ sym (m.1 ∙ root_b))
          | inr m ↦ ap (merged class a b) m.1 ∙ (as_before (class x) (λ e. m.0 (sym (rings.root x) ∙ (e ∙ sym root_a))) ∙ (rings.root x ∙ sym m.1))
        ];
        rings = λ r root. elim (eqb_tells r b) [
          | inl same ↦ subst (λ (z : ℕ). HasRing (swapped next a b) (merged class a b) (changed roots b (both (roots a) (roots b))) z) (sym same.1) joined_ring
          | inr other ↦ elim (merged_cases class a b r) [
            | inl m ↦ absurd (other.1 (sym root ∙ (m.1 ∙ root_b)))
            | inr m ↦ other_ring r (sym m.1 ∙ root) (λ e. m.0 (ap class e)) other.1
          ]
        ];
      }

-- what two writes make of the ring's list
pub swapped_by_writes : (next : List ℕ) (a b after_a after_b : ℕ) → a < length next → b < length next → (a ≡ b → ⊥) → own_or next a ≡ after_a → own_or next b ≡ after_b → (x : ℕ) → own_or (slice_set (slice_set next a after_b) b after_a) x ≡ swapped (own_or next) a b x
swapped_by_writes next a b after_a after_b la lb ne ea eb x =
    let first = slice_set next a after_b in
    let long = length-set next a after_b in
    elim (eqb_tells x b) [
      | inl same ↦
          ap (own_or (slice_set first b after_a)) same.1 ∙ (get_or-set_same first b after_a b (omega (arith, lb, long)) ∙ (sym ea ∙ (sym (swapped_second (own_or next) a b ne) ∙ ap (swapped (own_or next) a b) (sym same.1))))
      | inr other ↦ get_or-set_other first b x after_a x other.1 ∙ elim (eqb_tells x a) [
        | inl same ↦
            ap (own_or first) same.1 ∙ (get_or-set_same next a after_b a la ∙ (sym eb ∙ (sym (swapped_first (own_or next) a b) ∙ ap (swapped (own_or next) a b) (sym same.1))))
        | inr apart ↦ get_or-set_other next a x after_b x apart.1 ∙ sym (swapped_other (own_or next) a b x apart.1 other.1)
      ]
    ]

pub changed_by_write : (cells : List Root) (b : ℕ) (v : Root) → b < length cells → (x : ℕ) → root_or (slice_set cells b v) x ≡ changed (root_or cells) b v x
changed_by_write cells b v lb x =
    elim (eqb_tells x b) [
      | inl same ↦ ap (root_or (slice_set cells b v)) same.1 ∙ (get_or-set_same cells b v (alone b) lb ∙ (sym (changed_at (root_or cells) b v) ∙ ap (changed (root_or cells) b v) (sym same.1)))
      | inr other ↦ get_or-set_other cells b x v (alone x) other.1 ∙ sym (changed_other (root_or cells) b v x other.1)
    ]

pub merged_by_labels : (class : ℕ → ℕ) (a b x : ℕ) → class a ≡ a → class b ≡ b → relabelled a b (class x) ≡ merged class a b x
merged_by_labels class a b x ea eb = let p : a ≡ class a = sym ea in let q : b ≡ class b = sym eb in λ i. cond (class x == p i) (q i) (class x)
