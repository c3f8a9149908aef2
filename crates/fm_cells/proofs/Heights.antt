-- A way up meets no node twice, so it isn't longer than there are links.
use Rattle.std.proofs.Common.{◌≡◌, ℕ, zero, suc, ◌+◌, ◌<◌, ◌≤◌, true, false, ◌||◌, List, [], ◌∷◌, length, Option, Some, None, inl, inr, refl, sym, subst, ap, ◌∙◌, arith, eqb}
use Rattle.std.specs.List.{IsDistinct, AllByRecursion, list_any}
use Rattle.std.proofs.lemmas.Bool.{cases_lt, or_cases, false≢true, false_from_ne_true}
use Rattle.std.proofs.lemmas.Bool.Decides.{eqb_tells}
use Rattle.std.proofs.lemmas.List.{get_or_past}
use Rattle.std.proofs.lemmas.Map.Steps.{length-le_from_distinct_below}
use Rattle.fm_cells.specs.Forest.{HasEnd, IsUp, height, height_of, link_of}
use Rattle.fm_cells.specs.declared.edge.Edge.{Edge}
use Rattle.fm_cells.proofs.Ways.{none_some, some_same, up_same}

-- the way up from a node on a way up
pub record IsOnWay (link : ℕ → Option Edge) (e top most : ℕ) : Type 0 where
  pub nodes : List ℕ
  pub rest : ℕ
  pub most_is : length nodes + rest ≡ most
  pub way : IsUp link e nodes top

pub on_way : (link : ℕ → Option Edge) (z : ℕ) (zs : List ℕ) (top e : ℕ) → IsUp link z zs top → list_any (eqb e) zs ≡ true → IsOnWay link e top (length zs)
on_way link z [] top e u h = absurd (false≢true h)
on_way link z (y ∷ zs) top e u h =
    elim (eqb_tells e y) [
      | inl same ↦ record { nodes = y ∷ zs; rest = 0; most_is = omega arith; way = subst (λ (v : ℕ). IsUp link v (y ∷ zs) top) (u.0 ∙ sym same.1) u }
      | inr other ↦
          let later : list_any (eqb e) zs ≡ true = elim (or_cases (eqb e y) (list_any (eqb e) zs) h) [ inl a ↦ absurd (false≢true (sym other.0 ∙ a)) | inr b ↦ b ] in
          let r = on_way link u.1.0.to zs top e u.1.2 later in
          record { nodes = r.nodes; rest = suc r.rest; most_is = omega (arith, r.most_is); way = r.way }
    ]

-- the first node of a way up isn't on it again
pub not_again : (link : ℕ → Option Edge) (z y : ℕ) (zs : List ℕ) (top : ℕ) → IsUp link z (y ∷ zs) top → list_any (eqb z) zs ≡ false
not_again link z y zs top u =
    false_from_ne_true (list_any (eqb z) zs) (λ h.
    let r = on_way link u.1.0.to zs top z u.1.2 h in
    let s = ap length (up_same link z r.nodes (y ∷ zs) top top r.way u).0 in
    omega (arith, s, r.most_is))

none_equal : (x : ℕ) (xs : List ℕ) → list_any (eqb x) xs ≡ false → AllByRecursion (λ y. eqb x y ≡ false) xs
none_equal x [] h = tt
none_equal x (y ∷ xs) h =
    let e : eqb x y ≡ false = false_from_ne_true (eqb x y) (λ t. false≢true (sym h ∙ ap (λ b. b || list_any (eqb x) xs) t)) in
    let r : list_any (eqb x) xs ≡ false = sym (ap (λ b. b || list_any (eqb x) xs) e) ∙ h in
    (e, none_equal x xs r)

pub up_distinct : (link : ℕ → Option Edge) (z : ℕ) (zs : List ℕ) (top : ℕ) → IsUp link z zs top → IsDistinct eqb zs
unfolding IsDistinct
up_distinct link z [] top u = tt
up_distinct link z (y ∷ zs) top u = (subst (λ (v : ℕ). AllByRecursion (λ w. eqb v w ≡ false) zs) u.0 (none_equal z zs (not_again link z y zs top u)), up_distinct link u.1.0.to zs top u.1.2)

pub linked_below : (links : List (Option Edge)) (x : ℕ) (l : Edge) → link_of links x ≡ Some l → x < length links
linked_below links x l h =
    elim (cases_lt x (length links)) [
      | inl below ↦ below
      | inr past ↦ absurd (none_some (link_of links x) l (get_or_past links x None past) h)
    ]

pub linked_on_way : (link : ℕ → Option Edge) (n : ℕ) → ((x : ℕ) (l : Edge) → link x ≡ Some l → x < n) → (z : ℕ) (zs : List ℕ) (top e : ℕ) → IsUp link z zs top → list_any (eqb e) zs ≡ true → e < n
linked_on_way link n below z [] top e u h = absurd (false≢true h)
linked_on_way link n below z (y ∷ zs) top e u h =
    elim (eqb_tells e y) [
      | inl same ↦ below e u.1.0 (ap link (same.1 ∙ sym u.0) ∙ u.1.1)
      | inr other ↦
          let later : list_any (eqb e) zs ≡ true = elim (or_cases (eqb e y) (list_any (eqb e) zs) h) [ inl a ↦ absurd (false≢true (sym other.0 ∙ a)) | inr b ↦ b ] in
          linked_on_way link n below u.1.0.to zs top e u.1.2 later
    ]

-- no way up has more links than there are
pub up_short : (links : List (Option Edge)) (z : ℕ) (zs : List ℕ) (top : ℕ) → IsUp (link_of links) z zs top → length zs ≤ length links
up_short links z zs top u = length-le_from_distinct_below zs (length links) (up_distinct (link_of links) z zs top u) (λ e h. linked_on_way (link_of links) (length links) (linked_below links) z zs top e u h)

height_up : (link : ℕ → Option Edge) (most z : ℕ) (zs : List ℕ) (top : ℕ) → IsUp link z zs top → length zs ≤ most → height most link (link z) ≡ length zs
height_up link zero z [] top u le = refl
height_up link zero z (y ∷ zs) top u le = absurd (omega (arith, le))
height_up link (suc most) z [] top u le = ap (height (suc most) link) u.1
height_up link (suc most) z (y ∷ zs) top u le = ap (height (suc most) link) u.1.1 ∙ ap suc (height_up link most u.1.0.to zs top u.1.2 (omega (arith, le)))

-- the height is the length of the way up
pub height_is : (links : List (Option Edge)) (z : ℕ) (zs : List ℕ) (top : ℕ) → IsUp (link_of links) z zs top → height_of links z ≡ length zs
height_is links z zs top u = height_up (link_of links) (length links) z zs top u (up_short links z zs top u)

height_small : (most : ℕ) (link : ℕ → Option Edge) (o : Option Edge) → height most link o ≤ most
height_small zero link o = omega arith
height_small (suc most) link None = omega arith
height_small (suc most) link (Some l) = let h = height_small most link (link l.to) in omega (arith, h)

height_none : (most : ℕ) (link : ℕ → Option Edge) → height most link None ≡ 0
height_none zero link = refl
height_none (suc most) link = refl

pub height_fits : (links : List (Option Edge)) (x : ℕ) → height_of links x ≤ length links
height_fits links x = height_small (length links) (link_of links) (link_of links x)

pub height_end : (links : List (Option Edge)) (x : ℕ) → link_of links x ≡ None → height_of links x ≡ 0
height_end links x e = ap (height (length links) (link_of links)) e ∙ height_none (length links) (link_of links)

longer : (links : List (Option Edge)) (x : ℕ) (xs : List ℕ) (top : ℕ) (l : Edge) → IsUp (link_of links) x xs top → link_of links x ≡ Some l → height_of links x ≡ suc (height_of links l.to)
longer links x [] top l u e = absurd (none_some (link_of links x) l u.1 e)
longer links x (y ∷ ys) top l u e =
    let same : u.1.0 ≡ l = some_same (link_of links x) u.1.0 l u.1.1 e in
    height_is links x (y ∷ ys) top u ∙ (ap suc (sym (height_is links l.to ys top (subst (λ (k : Edge). IsUp (link_of links) k.to ys top) same u.1.2))))

pub height_next : (links : List (Option Edge)) → ((z : ℕ) → HasEnd (link_of links) z) → (x : ℕ) (l : Edge) → link_of links x ≡ Some l → height_of links x ≡ suc (height_of links l.to)
height_next links ended x l e = longer links x (ended x).nodes (ended x).end l (ended x).way e
