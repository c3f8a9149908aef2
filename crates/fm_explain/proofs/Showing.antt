-- The facts of the links meant show that the two nodes follow equal.
use Rattle.std.proofs.Common.{◌≡◌, ℕ, zero, suc, ◌+◌, ◌<◌, ◌≤◌, ◌⊎◌, Bool, true, List, [], ◌∷◌, length, Option, Some, inl, inr, refl, sym, subst, ap, ◌∙◌, arith}
use Rattle.std.specs.Prelude.{◌==◌, slice_get}
use Rattle.std.specs.List.{All, AllZip, Contains}
use Rattle.std.proofs.lemmas.Bool.{and_from, cases_lt, eq-eqb}
use Rattle.std.proofs.lemmas.Bool.Decides.{eqb_tells}
use Rattle.std.proofs.lemmas.List.Elements.{All-contains}
use Rattle.fm_base.specs.declared.ids.Lit.{Lit}
use Rattle.fm_bank.specs.Closure.{Follows, IsClosed, Shape, are_congruent, are_related, object}
use Rattle.fm_bank.specs.Terms.{Term}
use Rattle.fm_cells.specs.Forest.{AreInOneTree, HasEnd, IsUp}
use Rattle.fm_cong.specs.Paths.{AreJoinedBefore, IsJoinedBy, IsOnPath, joined_by}
use Rattle.fm_explain.specs.Meant.{AreCongruences, AreCongruentTerms, IsLitMeant, IsMeant}
use Rattle.fm_cells.specs.declared.edge.Cause.{Cause}
use Rattle.fm_cells.specs.declared.edge.Edge.{Edge}
use Rattle.fm_cong.specs.declared.fact.Fact.{Fact}
use Rattle.fm_cells.proofs.Ways.{up_same}
use Rattle.fm_explain.proofs.Climbing.{climb_first, climb_up, path_back}
use Rattle.fm_explain.proofs.Arguments.{args_is}

-- an equivalence
pub record IsEquivalence (R : ℕ → ℕ → Bool) : Type 0 where
  pub reflexive : (x : ℕ) → R x x ≡ true
  pub symmetric : (x y : ℕ) → R x y ≡ true → R y x ≡ true
  pub transitive : (x y z : ℕ) → R x y ≡ true → R y z ≡ true → R x z ≡ true

-- it relates the two nodes of each link on the path
abbrev pub Relates : (ℕ → Option Edge) → (ℕ → ℕ → Bool) → ℕ → ℕ → Type 0
Relates link R u v = (f : ℕ) (k : Edge) → IsOnPath link u v f → link f ≡ Some k → R f k.to ≡ true

deep_by : (link : ℕ → Option Edge) (u v : ℕ) (xs ys : List ℕ) (top : ℕ) → IsUp link u xs top → IsUp link v ys top → length ys ≤ length xs → (as' bs : List ℕ) (end : ℕ) → IsUp link u as' end → IsUp link v bs end → length bs ≤ length as'
deep_by link u v xs ys top a b le as' bs end p q =
    let s = ap length (up_same link u as' xs end top p a).0 in
    let t = ap length (up_same link v bs ys end top q b).0 in
    omega (arith, s, t, le)

module _ (link : ℕ → Option Edge) (R : ℕ → ℕ → Bool) (eq : IsEquivalence R) where
  -- what the relation of nearer nodes gives
  abbrev Nearer : ℕ → Type 0
  Nearer n = (u v : ℕ) (xs ys : List ℕ) (top : ℕ) → IsUp link u xs top → IsUp link v ys top → length xs + length ys < n → Relates link R u v → R u v ≡ true

  over_left : (n : ℕ) → Nearer n → (u v : ℕ) (xs ys : List ℕ) (top : ℕ) → IsUp link u xs top → IsUp link v ys top → length xs + length ys ≤ n → Relates link R u v → (u ≡ v → ⊥) → length ys ≤ length xs → R u v ≡ true
  over_left n near u v [] [] top a b le h ne ge = absurd (ne (a.0 ∙ sym b.0))
  over_left n near u v [] (y ∷ ys) top a b le h ne ge = absurd (omega (arith, ge))
  over_left n near u v (x ∷ xs) ys top a b le h ne ge =
      let l = a.1.0 in
      let tree : AreInOneTree link u v = (x ∷ xs, (ys, (top, a, b))) in
      let deep = deep_by link u v (x ∷ xs) ys top a b ge in
      let one = h u l (climb_first link u v l a.1.1 tree ne deep) a.1.1 in
      let rest = near l.to v xs ys top a.1.2 b (omega (arith, le)) (λ f k p s. h f k (climb_up link u v l a.1.1 tree ne deep f p) s) in
      eq.transitive u l.to v one rest

  turned_relates : (u v : ℕ) → Relates link R u v → Relates link R v u
  turned_relates u v h f k p s = h f k (path_back link v u f p) s

  across : (n : ℕ) → Nearer n
  across zero u v xs ys top a b lt h = absurd (omega (arith, lt))
  across (suc n) u v xs ys top a b lt h =
      elim (eqb_tells u v) [
        | inl same ↦ subst (λ (z : ℕ). R u z ≡ true) same.1 (eq.reflexive u)
        | inr other ↦ elim (cases_lt (length xs) (length ys)) [
          | inl less ↦ eq.symmetric v u (over_left n (across n) v u ys xs top b a (omega (arith, lt)) (turned_relates u v h) (λ e. other.1 (sym e)) (omega (arith, less)))
          | inr more ↦ over_left n (across n) u v xs ys top a b (omega (arith, lt)) h other.1 more
        ]
      ]

  pub related_across : (u v : ℕ) → AreInOneTree link u v → Relates link R u v → R u v ≡ true
  related_across u v t h = across (suc (length t.0 + length t.1.0)) u v t.0 t.1.0 t.1.1.0 t.1.1.1 t.1.1.2 (omega arith) h

-- related one by one
related_lists : (R : ℕ → ℕ → Bool) (link : ℕ → Option Edge) (time : ℕ) (ss ts : List ℕ) → AllZip (λ s t. AreJoinedBefore link time (object s) (object t)) ss ts → ((i s t : ℕ) → slice_get ss i ≡ Some s → slice_get ts i ≡ Some t → AreJoinedBefore link time (object s) (object t) → R (object s) (object t) ≡ true) → are_related R ss ts ≡ true
related_lists R link time [] [] z h = refl
related_lists R link time [] (t ∷ ts) z h = absurd z
related_lists R link time (s ∷ ss) [] z h = absurd z
related_lists R link time (s ∷ ss) (t ∷ ts) z h = and_from (R (object s) (object t)) (are_related R ss ts) (h 0 s t refl refl z.0) (related_lists R link time ss ts z.1 (λ i x y a b w. h (suc i) x y a b w))

-- a link by a fact joins what a literal that was read joins
abbrev pub AreFactLinks : List Fact → (ℕ → Option Edge) → Type 0
AreFactLinks facts link = (e : ℕ) (l : Edge) (lit : Lit) → link e ≡ Some l → l.cause ≡ Cause.Fact lit → IsJoinedBy facts lit e l.to

-- what the literals and the support of an explanation have
pub record IsShownBy (terms : List Term) (link : ℕ → Option Edge) (facts : List Fact) (a b : ℕ) (shapes : List Shape) (pairs : List (ℕ × ℕ)) : Type 0 where
  pub literals : (lit : Lit) → IsLitMeant terms link a b lit → (f : Fact) → Contains facts f → f.lit ≡ lit → (p : ℕ × ℕ) → joined_by f ≡ Some p → Contains pairs p
  pub support : (e : ℕ) (l : Edge) → IsMeant terms link a b e → link e ≡ Some l → (m : ℕ) (t : Term) → slice_get terms m ≡ Some t → (e ≡ object m) ⊎ (l.to ≡ object m) → Contains shapes (record { number = m; symbol = t.symbol; args = t.args })

module _ (terms : List Term) (link : ℕ → Option Edge) (ended : (z : ℕ) → HasEnd link z) (facts : List Fact) (fact_links : AreFactLinks facts link) (congruences : AreCongruences terms link) (a b : ℕ) (shapes : List Shape) (pairs : List (ℕ × ℕ)) (x : IsShownBy terms link facts a b shapes pairs) (R : ℕ → ℕ → Bool) (closed : IsClosed shapes pairs R) where
  as_equivalence : IsEquivalence R
  as_equivalence = record { reflexive = closed.reflexive; symmetric = closed.symmetric; transitive = closed.transitive }

  by_literal : (e : ℕ) (l : Edge) (lit : Lit) → IsMeant terms link a b e → link e ≡ Some l → l.cause ≡ Cause.Fact lit → IsJoinedBy facts lit e l.to → R e l.to ≡ true
  by_literal e l lit m s c j =
      let has = x.literals lit (record { e = e; edge = l; meant = m; link_is = s; cause_is = c }) j.fact j.read j.lit_is in
      elim j.sides_are [
        | inl p ↦ All-contains (λ (p : ℕ × ℕ). R p.0 p.1 ≡ true) pairs (e, l.to) closed.facts_hold (has (e, l.to) p)
        | inr p ↦ closed.symmetric l.to e (All-contains (λ (p : ℕ × ℕ). R p.0 p.1 ≡ true) pairs (l.to, e) closed.facts_hold (has (l.to, e) p))
      ]

  -- the links of smaller time relate their nodes
  abbrev Earlier : ℕ → Type 0
  Earlier n = (e : ℕ) (l : Edge) → IsMeant terms link a b e → link e ≡ Some l → l.time < n → R e l.to ≡ true

  by_congruence : (n : ℕ) → Earlier n → (e : ℕ) (l : Edge) → IsMeant terms link a b e → link e ≡ Some l → l.cause ≡ Cause.Congruence → l.time ≤ n → AreCongruentTerms terms link l.time e l.to → R e l.to ≡ true
  by_congruence n earlier e l m s c le j =
      let left : Shape = record { number = j.m; symbol = j.left.symbol; args = j.left.args } in
      let right : Shape = record { number = j.n; symbol = j.right.symbol; args = j.right.args } in
      let left_in : Contains shapes left = x.support e l m s j.m j.left j.left_is (inl j.u_is) in
      let right_in : Contains shapes right = x.support e l m s j.n j.right j.right_is (inr j.v_is) in
      let one : (i y z : ℕ) → slice_get j.left.args i ≡ Some y → slice_get j.right.args i ≡ Some z → AreJoinedBefore link l.time (object y) (object z) → R (object y) (object z) ≡ true =
      λ i y z p q w.
      related_across link R as_equivalence (object y) (object z) w.tree
      (λ f k on h. earlier f k
      (λ S ex. ex.args e (m S ex) l s c i y z (ap (λ (zs : List ℕ). slice_get zs i) (args_is terms j.m e j.left j.u_is j.left_is) ∙ p) (ap (λ (zs : List ℕ). slice_get zs i) (args_is terms j.n l.to j.right j.v_is j.right_is) ∙ q) f on)
      h (let t = w.earlier f k on h in omega (arith, t, le))) in
      let args = related_lists R link l.time j.left.args j.right.args j.args one in
      let same : are_congruent R left right ≡ true = and_from (j.left.symbol == j.right.symbol) (are_related R j.left.args j.right.args) (eq-eqb j.left.symbol j.right.symbol j.symbols) args in
      let row = All-contains (λ (u : Shape). All (λ (v : Shape). are_congruent R u v ≡ true → R (object u.number) (object v.number) ≡ true) shapes) shapes left closed.congruent left_in in
      let cell = All-contains (λ (v : Shape). are_congruent R left v ≡ true → R (object j.m) (object v.number) ≡ true) shapes right row right_in in
      (λ i. R (j.u_is i) (j.v_is i)) ∙ cell same

  by_cause : (n : ℕ) → Earlier n → (e : ℕ) (l : Edge) (c : Cause) → l.cause ≡ c → IsMeant terms link a b e → link e ≡ Some l → l.time ≤ n → R e l.to ≡ true
  by_cause n earlier e l (Cause.Fact lit) c m s le = by_literal e l lit m s c (fact_links e l lit s c)
  by_cause n earlier e l Cause.Congruence c m s le = by_congruence n earlier e l m s c le (congruences e l s c)

  joins : (n : ℕ) → Earlier n
  joins zero e l m s lt = absurd (omega (arith, lt))
  joins (suc n) e l m s lt = by_cause n (joins n) e l l.cause refl m s (omega (arith, lt))

  shown : AreInOneTree link a b → R a b ≡ true
  shown t = related_across link R as_equivalence a b t (λ f k on h. joins (suc k.time) f k (λ S ex. ex.start f on) h (omega arith))

-- the literals meant show, over the support, that the two nodes follow equal
pub follows_by : (terms : List Term) (link : ℕ → Option Edge) → ((z : ℕ) → HasEnd link z) → (facts : List Fact) → AreFactLinks facts link → AreCongruences terms link → (a b : ℕ) (shapes : List Shape) (pairs : List (ℕ × ℕ)) → IsShownBy terms link facts a b shapes pairs → AreInOneTree link a b → Follows shapes pairs a b
follows_by terms link ended facts fact_links congruences a b shapes pairs x t R closed = shown terms link ended facts fact_links congruences a b shapes pairs x R closed t
