-- Paths between arguments, one by one, and the links that a search for an explanation has met.
use Rattle.std.proofs.Common.{◌≡◌, ℕ, zero, suc, ◌+◌, ◌<◌, ◌≤◌, ◌⊎◌, ◌↔◌, Bool, true, not, ◌||◌, length-append, List, [], ◌∷◌, ◌++◌, length, take, Option, Some, inl, inr, sym, subst, ap, ◌∙◌, arith, get_or, eqb}
use Rattle.std.specs.Prelude.{◌==◌, slice_get, nat_lt}
use Rattle.std.specs.List.{All, AllZip, IsDistinct, filter_map, cons_option}
use mathlib.Core.Bool.{beq}
use Rattle.std.proofs.lemmas.Bool.{cases_Bool, eq-eqb, eqb-true, false≢true, lt-ltb, ltb-true, or_cases, or_right}
use Rattle.std.proofs.lemmas.Bool.Decides.{eqb_tells}
use Rattle.std.proofs.lemmas.List.{get_or-map, length-map, take_more}
use Rattle.std.proofs.lemmas.List.Elements.{AllZip-get_or, filter_map-append, length_all_zip}
use Rattle.std.proofs.lemmas.Option.{get_or_from_slice_get, slice_get-get_or, slice_get_within}
use Rattle.std.proofs.lemmas.Map.Steps.{length-le_from_distinct_below}
use Rattle.fm_base.specs.declared.ids.TermId.{TermId}
use Rattle.fm_bank.specs.Closure.{object}
use Rattle.fm_bank.specs.Terms.{Term, numbers}
use Rattle.fm_cells.specs.Forest.{AreInOneTree, link_of}
use Rattle.fm_cong.specs.Paths.{AreJoinedBefore, IsOnPath}
use Rattle.fm_cells.specs.Members.{is_on}
use Rattle.fm_explain.specs.Meant.{AreCongruentTerms, HasArguments, IsExplaining, IsMeant, IsOnArguments, args_at, args_of}
use Rattle.fm_cells.specs.declared.edge.Cause.{Cause}
use Rattle.fm_cells.specs.declared.edge.Edge.{Edge}
use Rattle.fm_cells.proofs.Ways.{some_same}
use Rattle.fm_cells.proofs.Heights.{linked_below, linked_on_way}

pub number_at : (ts : List TermId) (i : ℕ) (d : TermId) → i < length ts → slice_get (numbers ts) i ≡ Some (get_or ts i d).0
number_at ts i d lt = slice_get-get_or (numbers ts) i 0 (omega (arith, length-map ts (λ (t : TermId). t.0), lt)) ∙ ap Some (get_or-map (λ (t : TermId). t.0) ts i d 0 lt)

some_one : (o : Option ℕ) (x y : ℕ) → o ≡ Some x → o ≡ Some y → x ≡ y
some_one o x y a b = cc

module _ (link : ℕ → Option Edge) (xs ys old keys new : List ℕ) (i s t : ℕ) (left : slice_get xs i ≡ Some s) (right : slice_get ys i ≡ Some t) where
  pub arguments_more : ((e : ℕ) → (is_on keys e ≡ true) ↔ ((is_on old e ≡ true) ⊎ IsOnArguments link xs ys i e)) → ((e : ℕ) → (is_on new e ≡ true) ↔ ((is_on keys e ≡ true) ⊎ IsOnPath link (object s) (object t) e)) → (e : ℕ) → (is_on new e ≡ true) ↔ ((is_on old e ≡ true) ⊎ IsOnArguments link xs ys (i + 1) e)
  arguments_more before step e = (
    λ on. elim ((step e).0 on) [
      | inl a ↦ elim ((before e).0 a) [
        | inl o ↦ inl o
        | inr w ↦ inr (record { i = w.i; s = w.s; t = w.t; below = omega (arith, w.below); left = w.left; right = w.right; on = w.on })
      ]
      | inr p ↦ inr (record { i = i; s = s; t = t; below = omega arith; left = left; right = right; on = p })
    ],
    λ m. elim m [
      | inl o ↦ (step e).1 (inl ((before e).1 (inl o)))
      | inr w ↦ elim (eqb_tells w.i i) [
        | inl same ↦
            let a : w.s ≡ s = some_one (slice_get xs i) w.s s (ap (slice_get xs) (sym same.1) ∙ w.left) left in
            let b : w.t ≡ t = some_one (slice_get ys i) w.t t (ap (slice_get ys) (sym same.1) ∙ w.right) right in
            (step e).1 (inr (subst (λ (z : ℕ). IsOnPath link (object s) (object z) e) b (subst (λ (z : ℕ). IsOnPath link (object z) (object w.t) e) a w.on)))
        | inr other ↦ (step e).1 (inl ((before e).1 (inr (record { i = w.i; s = w.s; t = w.t; below = omega (arith, w.below, other.1); left = w.left; right = w.right; on = w.on }))))
      ]
    ],
  )

pub arguments_none : (link : ℕ → Option Edge) (xs ys old : List ℕ) (e : ℕ) → (is_on old e ≡ true) ↔ ((is_on old e ≡ true) ⊎ IsOnArguments link xs ys 0 e)
arguments_none link xs ys old e = (λ a. inl a, λ m. elim m [ inl a ↦ a | inr w ↦ absurd (omega (arith, w.below)) ])

-- the arguments of the term at a node
pub args_is : (terms : List Term) (m e : ℕ) (t : Term) → e ≡ object m → slice_get terms m ≡ Some t → args_at terms e ≡ t.args
args_is terms m e t at h =
    let two : e ≡ suc (suc m) = at ∙ (let o : object m ≡ suc (suc m) = omega arith in o) in
    ap (args_at terms) two ∙ ap args_of h

pub all_at : {X : Type 0} → (P : X → Type 0) → (xs : List X) (i : ℕ) (x : X) → All P xs → slice_get xs i ≡ Some x → P x
all_at P xs i x all h = subst P (get_or_from_slice_get xs i x x h) (all i x (slice_get_within xs i x h))

-- what is joined by paths is in one tree
pub zip_trees : (link : ℕ → Option Edge) (time : ℕ) (ss ts : List ℕ) → AllZip (λ s t. AreJoinedBefore link time (object s) (object t)) ss ts → AllZip (λ s t. AreInOneTree link (object s) (object t)) ss ts
zip_trees link time [] [] h = tt
zip_trees link time [] (t ∷ ts) h = h
zip_trees link time (s ∷ ss) [] h = h
zip_trees link time (s ∷ ss) (t ∷ ts) h = (h.0.tree, zip_trees link time ss ts h.1)

-- the arguments of the two terms of a link by congruence are in one tree, one by one
pub both_trees : (terms : List Term) (link : ℕ → Option Edge) (node to time : ℕ) (xs ys : List ℕ) (j : AreCongruentTerms terms link time node to) → args_at terms node ≡ xs → args_at terms to ≡ ys → AllZip (λ s t. AreInOneTree link (object s) (object t)) xs ys
both_trees terms link node to time xs ys j left right =
    let left_is : j.left.args ≡ xs = sym (args_is terms j.m node j.left j.u_is j.left_is) ∙ left in
    let right_is : j.right.args ≡ ys = sym (args_is terms j.n to j.right j.v_is j.right_is) ∙ right in
    subst (λ (zs : List ℕ). AllZip (λ s t. AreInOneTree link (object s) (object t)) xs zs) right_is (subst (λ (zs : List ℕ). AllZip (λ s t. AreInOneTree link (object s) (object t)) zs j.right.args) left_is (zip_trees link time j.left.args j.right.args j.args))

-- what is met once the arguments of a link are
module _ (terms : List Term) (link : ℕ → Option Edge) (node : ℕ) (edge : Edge) (at : link node ≡ Some edge) (xs ys old new : List ℕ) (left : args_at terms node ≡ xs) (right : args_at terms edge.to ≡ ys) (has : (e : ℕ) → (is_on new e ≡ true) ↔ ((is_on old e ≡ true) ⊎ IsOnArguments link xs ys (length xs) e)) where
  pub expanded : HasArguments terms link (is_on new) node
  expanded l h cause i s t a b f on =
      let same : l ≡ edge = some_same (link node) l edge h at in
      let a' : slice_get xs i ≡ Some s = ap (λ (zs : List ℕ). slice_get zs i) (sym left) ∙ a in
      let b' : slice_get ys i ≡ Some t = ap (λ (zs : List ℕ). slice_get zs i) (sym right) ∙ (ap (λ (k : Edge). slice_get (args_at terms k.to) i) (sym same) ∙ b) in
      (has f).1 (inr (record { i = i; s = s; t = t; below = slice_get_within xs i s a'; left = a'; right = b'; on = on }))

  pub expanded_only : edge.cause ≡ Cause.Congruence → (S : ℕ → Bool) → HasArguments terms link S node → ((e : ℕ) → is_on old e ≡ true → S e ≡ true) → (e : ℕ) → is_on new e ≡ true → S e ≡ true
  expanded_only cause S args before e on =
      elim ((has e).0 on) [
        | inl o ↦ before e o
        | inr w ↦ args edge at cause w.i w.s w.t (ap (λ (zs : List ℕ). slice_get zs w.i) left ∙ w.left) (ap (λ (zs : List ℕ). slice_get zs w.i) right ∙ w.right) e w.on
      ]

-- a link on a path is one of the list
pub on_path_below : (links : List (Option Edge)) (u v e : ℕ) → IsOnPath (link_of links) u v e → e < length links
on_path_below links u v e p =
    elim (cases_Bool (is_on p.left e)) [
      | inl a ↦ linked_on_way (link_of links) (length links) (linked_below links) u p.left p.top e p.up_left a
      | inr a ↦ elim (cases_Bool (is_on p.right e)) [
        | inl b ↦ linked_on_way (link_of links) (length links) (linked_below links) v p.right p.top e p.up_right b
        | inr b ↦ absurd (false≢true (sym (λ i. not (beq (a i) (b i))) ∙ p.once))
      ]
    ]

-- a node of the list stands somewhere
pub record HasPlace (keys : List ℕ) (e : ℕ) : Type 0 where
  pub place : ℕ
  pub there : slice_get keys place ≡ Some e

pub placed : (keys : List ℕ) (e : ℕ) → is_on keys e ≡ true → HasPlace keys e
placed [] e h = absurd (false≢true h)
placed (k ∷ keys) e h =
    elim (or_cases (e == k) (is_on keys e) h) [
      | inl a ↦ record { place = 0; there = ap Some (sym (eqb-true e k a)) }
      | inr b ↦ let r = placed keys e b in record { place = suc r.place; there = r.there }
    ]

pub there_on : (keys : List ℕ) (j e : ℕ) → slice_get keys j ≡ Some e → is_on keys e ≡ true
there_on [] j e h = absurd cc
there_on (k ∷ keys) zero e h = let s : k ≡ e = cc in ap (λ b. b || is_on keys e) (eq-eqb e k (sym s))
there_on (k ∷ keys) (suc j) e h = or_right (e == k) (is_on keys e) (there_on keys j e h)

pub place_before : (keys more : List ℕ) (j e : ℕ) → j < length keys → slice_get (keys ++ more) j ≡ Some e → slice_get keys j ≡ Some e
place_before [] more j e lt h = absurd (omega (arith, lt))
place_before (k ∷ keys) more zero e lt h = h
place_before (k ∷ keys) more (suc j) e lt h = place_before keys more j e (omega (arith, lt)) h

pub arguments_kept : (terms : List Term) (link : ℕ → Option Edge) (old new : List ℕ) (node : ℕ) → ((e : ℕ) → is_on old e ≡ true → is_on new e ≡ true) → HasArguments terms link (is_on old) node → HasArguments terms link (is_on new) node
arguments_kept terms link old new node kept h l at cause i s t a b f on = kept f (h l at cause i s t a b f on)

pub few : (keys : List ℕ) (n : ℕ) → IsDistinct eqb keys → ((e : ℕ) → is_on keys e ≡ true → e < n) → length keys ≤ n
few keys n distinct below = length-le_from_distinct_below keys n distinct below

module _ (terms : List Term) (links : List (Option Edge)) (a b : ℕ) where
  pub record IsSearching (keys : List ℕ) (next : ℕ) : Type 0 where
    pub start : (e : ℕ) → IsOnPath (link_of links) a b e → is_on keys e ≡ true
    pub sound : (S : ℕ → Bool) → IsExplaining terms (link_of links) a b S → (e : ℕ) → is_on keys e ≡ true → S e ≡ true
    pub done : (j node : ℕ) → j < next → slice_get keys j ≡ Some node → HasArguments terms (link_of links) (is_on keys) node
    pub linked : (e : ℕ) → is_on keys e ≡ true → e < length links
    pub within : next ≤ length keys

  pub searching_start : (keys : List ℕ) → ((e : ℕ) → (is_on keys e ≡ true) ↔ ((is_on [] e ≡ true) ⊎ IsOnPath (link_of links) a b e)) → IsSearching keys 0
  searching_start keys has =
      record {
        start = λ e p. (has e).1 (inr p);
        sound = λ S h e on. elim ((has e).0 on) [ inl z ↦ absurd (false≢true z) | inr p ↦ h.start e p ];
        done = λ j node lt at. absurd (omega (arith, lt));
        linked = λ e on. elim ((has e).0 on) [ inl z ↦ absurd (false≢true z) | inr p ↦ on_path_below links a b e p ];
        within = omega arith;
      }

  pub searching_step : (keys new : List ℕ) (next node : ℕ) → IsSearching keys next → slice_get keys next ≡ Some node → ((e : ℕ) → is_on keys e ≡ true → is_on new e ≡ true) → HasArguments terms (link_of links) (is_on new) node → ((S : ℕ → Bool) → HasArguments terms (link_of links) S node → ((e : ℕ) → is_on keys e ≡ true → S e ≡ true) → (e : ℕ) → is_on new e ≡ true → S e ≡ true) → (more : List ℕ) × (new ≡ keys ++ more) → IsSearching new (next + 1)
  searching_step keys new next node s at kept has only grown =
      let lt : next < length keys = slice_get_within keys next node at in
      let there : (j k : ℕ) → j < length keys → slice_get new j ≡ Some k → slice_get keys j ≡ Some k = λ j k l h. place_before keys grown.0 j k l (ap (λ zs. slice_get zs j) (sym grown.1) ∙ h) in
      let long : length new ≡ length keys + length grown.0 = ap length grown.1 ∙ length-append keys grown.0 in
      record {
        start = λ e p. kept e (s.start e p);
        sound = λ S h e on. only S (h.args node (s.sound S h node (there_on keys next node at))) (s.sound S h) e on;
        done = λ j k l h. elim (eqb_tells j next) [
          | inl same ↦
              let one : node ≡ k = some_one (slice_get keys next) node k at (ap (slice_get keys) (sym same.1) ∙ there j k (omega (arith, same.1, lt)) h) in
              subst (λ (z : ℕ). HasArguments terms (link_of links) (is_on new) z) one has
          | inr other ↦
              arguments_kept terms (link_of links) keys new k kept (s.done j k (omega (arith, l, other.1)) (there j k (omega (arith, l, lt)) h))
        ];
        linked = λ e on. ltb-true e (length links) (only (λ e. nat_lt e (length links)) (λ l q cause i x y p r f g. lt-ltb f (length links) (on_path_below links (object x) (object y) f g)) (λ e o. lt-ltb e (length links) (s.linked e o)) e on);
        within = omega (arith, lt, long);
      }

  -- once the arguments of all are met, what is met is what is meant
  pub searching_end : (keys : List ℕ) (next : ℕ) → IsSearching keys next → length keys ≤ next → (e : ℕ) → (is_on keys e ≡ true) ↔ IsMeant terms (link_of links) a b e
  searching_end keys next s le e = (
    λ on S h. s.sound S h e on,
    λ m. m (is_on keys) (record {
      start = s.start;
      args = λ k on. let p = placed keys k on in s.done p.place k (omega (arith, slice_get_within keys p.place k p.there, le)) p.there;
    }),
  )

pub filter_map_next : {X Y : Type 0} → (f : X → Option Y) → (xs : List X) (i : ℕ) (d : X) → i < length xs → filter_map f (take (i + 1) xs) ≡ filter_map f (take i xs) ++ cons_option (f (get_or xs i d)) []
filter_map_next f xs i d lt = ap (filter_map f) (take_more xs i d lt) ∙ filter_map-append f (take i xs) (get_or xs i d ∷ [])

pub same_length : (R : ℕ → ℕ → Type 0) (xs ys : List TermId) → AllZip R (numbers xs) (numbers ys) → length xs ≡ length ys
same_length R xs ys h = sym (length-map xs (λ (t : TermId). t.0)) ∙ (length_all_zip R (numbers xs) (numbers ys) h ∙ length-map ys (λ (t : TermId). t.0))

pub nodes_zipped : (R : ℕ → ℕ → Type 0) (xs ys : List TermId) (i : ℕ) (d : TermId) → i < length xs → AllZip R (numbers xs) (numbers ys) → R (get_or xs i d).0 (get_or ys i d).0
nodes_zipped R xs ys i d lt h =
    let same = same_length R xs ys h in
    let a : get_or (numbers xs) i 0 ≡ (get_or xs i d).0 = get_or-map (λ (t : TermId). t.0) xs i d 0 lt in
    let b : get_or (numbers ys) i 0 ≡ (get_or ys i d).0 = get_or-map (λ (t : TermId). t.0) ys i d 0 (omega (arith, same, lt)) in
    subst (λ (z : ℕ). R (get_or xs i d).0 z) b (subst (λ (z : ℕ). R z (get_or (numbers ys) i 0)) a (AllZip-get_or R (numbers xs) (numbers ys) i 0 0 h (omega (arith, length-map xs (λ (t : TermId). t.0), lt))))

-- a list of terms is as long as that of their numbers
pub long_by_numbers : (link : ℕ → Option Edge) (xs : List TermId) (ys old new : List ℕ) → ((e : ℕ) → (is_on new e ≡ true) ↔ ((is_on old e ≡ true) ⊎ IsOnArguments link (numbers xs) ys (length xs) e)) → (e : ℕ) → (is_on new e ≡ true) ↔ ((is_on old e ≡ true) ⊎ IsOnArguments link (numbers xs) ys (length (numbers xs)) e)
long_by_numbers link xs ys old new h e = subst (λ (n : ℕ). (is_on new e ≡ true) ↔ ((is_on old e ≡ true) ⊎ IsOnArguments link (numbers xs) ys n e)) (sym (length-map xs (λ (t : TermId). t.0))) (h e)
