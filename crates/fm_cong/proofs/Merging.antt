-- What a merge makes of the cells.
use Rattle.std.proofs.Common.{◌≡◌, ℕ, zero, suc, ◌+◌, ◌<◌, ◌≤◌, ◌⊎◌, cond, List, [], ◌∷◌, length, map, take, Option, Some, inl, inr, refl, sym, subst, ap, ◌∙◌, arith, get_or, length-set}
use Rattle.std.specs.Prelude.{slice_get}
use Rattle.std.specs.List.{All, AllZip, Contains}
use Rattle.std.proofs.lemmas.Bool.Decides.{eqb_tells}
use Rattle.std.proofs.lemmas.List.Elements.{All-contains, All-weaker}
use Rattle.fm_bank.specs.Closure.{Follows, Shape, object}
use Rattle.fm_bank.specs.Terms.{Term}
use Rattle.fm_cells.specs.Forest.{AreInOneTree, AreTrees, AreWithin, HasOneMore, link_of, merged}
use Rattle.fm_cells.specs.Logs.{HasLogged, restored}
use Rattle.fm_cells.specs.Rings.{AreRings, own_or, relabelled, root_or}
use Rattle.fm_cells.specs.declared.edge.Cause.{Cause}
use Rattle.fm_cells.specs.declared.edge.Edge.{Edge}
use Rattle.fm_cells.proofs.Splicing.{merged_by_labels}
use Rattle.fm_cells.proofs.Turning.{one_class}
use Rattle.fm_cong.specs.Graphs.{Cells, IsCoarser, IsWorking, pairs_of, roots}
use Rattle.fm_cong.specs.Paths.{IsForest, IsJustified}
use Rattle.fm_cong.specs.Tables.{AreCongruent, AreUses, HasGrown, IsAgain, IsEntering, IsKnown, IsStored, IsTable, find_in, moved, uses_at}
use Rattle.fm_cong.proofs.Entering.{contains_grown, found_grown}
use Rattle.fm_cong.proofs.Forests.{forest_merged}
use Rattle.fm_cong.proofs.Tabled.{table_step}

pub restored_length : {X : Type 0} → (log : List (ℕ × X)) (cells : List X) → length (restored log cells) ≡ length cells
restored_length [] cells = refl
restored_length (e ∷ log) cells = length-set (restored log cells) e.0 e.1 ∙ restored_length log cells

pub logged_length : {X : Type 0} → (a b : List (ℕ × X)) (x y : List X) → HasLogged a x b y → length y ≡ length x
logged_length a b x y h = sym (restored_length h.tail y) ∙ ap length h.back

pub follows_same : (shapes : List Shape) (pairs : List (ℕ × ℕ)) (x y : ℕ) → x ≡ y → Follows shapes pairs x y
follows_same shapes pairs x y e = λ R r. ap (R x) (sym e) ∙ r.reflexive x

pub follows_back : (shapes : List Shape) (pairs : List (ℕ × ℕ)) (x y : ℕ) → Follows shapes pairs x y → Follows shapes pairs y x
follows_back shapes pairs x y h = λ R r. r.symmetric x y (h R r)

pub follows_chain : (shapes : List Shape) (pairs : List (ℕ × ℕ)) (x y z : ℕ) → Follows shapes pairs x y → Follows shapes pairs y z → Follows shapes pairs x z
follows_chain shapes pairs x y z h k = λ R r. r.transitive x y z (h R r) (k R r)

zip_weaker : (P Q : ℕ → ℕ → Type 0) → ((x y : ℕ) → P x y → Q x y) → (xs ys : List ℕ) → AllZip P xs ys → AllZip Q xs ys
zip_weaker P Q f [] [] h = tt
zip_weaker P Q f [] (y ∷ ys) h = h
zip_weaker P Q f (x ∷ xs) [] h = h
zip_weaker P Q f (x ∷ xs) (y ∷ ys) h = (f x y h.0, zip_weaker P Q f xs ys h.1)

pub relabel_cases : (from to c : ℕ) → ((c ≡ from) × (relabelled from to c ≡ to)) ⊎ ((c ≡ from → ⊥) × (relabelled from to c ≡ c))
relabel_cases from to c = elim (eqb_tells c from) [ inl s ↦ inl (s.1, ap (λ b. cond b to c) s.0) | inr o ↦ inr (o.1, ap (λ b. cond b to c) o.0) ]

-- an argument of the class, or no change of the classes of the arguments
arg_of : (class new : ℕ → ℕ) (from : ℕ) → ((x : ℕ) → (class x ≡ from → ⊥) → new x ≡ class x) → (xs : List ℕ) → ((t : ℕ) × Contains xs t × (class (object t) ≡ from)) ⊎ (map (λ a. new (object a)) xs ≡ map (λ a. class (object a)) xs)
arg_of class new from stay [] = inr refl
arg_of class new from stay (x ∷ xs) =
    elim (eqb_tells (class (object x)) from) [
      | inl s ↦ inl (x, (0, omega arith, refl), s.1)
      | inr o ↦ elim (arg_of class new from stay xs) [
        | inl h ↦ inl (h.0, (suc h.1.0, omega (arith, h.1.1), h.1.2), h.2)
        | inr e ↦ let one : new (object x) ≡ class (object x) = stay (object x) o.1 in inr (λ i. one i ∷ e i)
      ]
    ]

zero_plus : (n : ℕ) → 0 + n ≡ n
zero_plus n = omega arith

-- the classes of two nodes become one
module _ (shapes : List Shape) (c : Cells) (waiting : List (ℕ × ℕ)) (w : IsWorking shapes c waiting) (node to from onto : ℕ) (from_is : own_or c.class node ≡ from) (onto_is : own_or c.class to ≡ onto) (differ : own_or c.class node ≡ own_or c.class to → ⊥) where
  pub classes_differ : from ≡ onto → ⊥
  classes_differ e = differ (from_is ∙ e ∙ sym onto_is)

  pub first_root : own_or c.class from ≡ from
  first_root = ap (own_or c.class) (sym from_is) ∙ w.rings.root node ∙ from_is

  pub second_root : own_or c.class onto ≡ onto
  second_root = ap (own_or c.class) (sym onto_is) ∙ w.rings.root to ∙ onto_is

  pub first_below : node < length c.class → from < length c.class
  first_below lt = subst (λ (z : ℕ). z < length c.class) from_is (w.below node lt)

  pub second_below : to < length c.class → onto < length c.class
  second_below lt = subst (λ (z : ℕ). z < length c.class) onto_is (w.below to lt)

  pub no_tree : AreInOneTree (link_of c.links) node to → ⊥
  no_tree t = differ (one_class (link_of c.links) (own_or c.class) w.forest.trees node to t)

  onto_stays : relabelled from onto onto ≡ onto
  onto_stays = elim (relabel_cases from onto onto) [ inl m ↦ absurd (classes_differ (sym m.0)) | inr m ↦ m.1 ]

  roots_moved : (x : ℕ) → moved from onto c.class (moved from onto c.class x) ≡ moved from onto c.class x
  roots_moved x =
      elim (relabel_cases from onto (own_or c.class x)) [
        | inl m ↦ ap (moved from onto c.class) m.1 ∙ (ap (relabelled from onto) second_root ∙ (onto_stays ∙ sym m.1))
        | inr m ↦ ap (moved from onto c.class) m.1 ∙ ap (relabelled from onto) (w.rings.root x)
      ]

  stored_moved : (e : Term × ℕ) → IsStored shapes (own_or c.class) e → IsStored shapes (moved from onto c.class) e
  stored_moved e s = record { shape = s.shape; there = s.there; node = s.node; symbols = s.symbols; args = zip_weaker (λ a d. own_or c.class (object a) ≡ own_or c.class d) (λ a d. moved from onto c.class (object a) ≡ moved from onto c.class d) (λ a d e. ap (relabelled from onto) e) s.shape.args e.0.args s.args }

  congruent_moved : (p : ℕ × ℕ) → AreCongruent shapes (own_or c.class) p → AreCongruent shapes (moved from onto c.class) p
  congruent_moved p s = record { left = s.left; right = s.right; left_in = s.left_in; right_in = s.right_in; left_is = s.left_is; right_is = s.right_is; symbols = s.symbols; args = zip_weaker (λ a d. own_or c.class (object a) ≡ own_or c.class (object d)) (λ a d. moved from onto c.class (object a) ≡ moved from onto c.class (object d)) (λ a d e. ap (relabelled from onto) e) s.left.args s.right.args s.args }

  pub entering_moved : IsEntering shapes (moved from onto c.class) c.entries waiting
  entering_moved =
      record {
        roots = roots_moved;
        stored = All-weaker (IsStored shapes (own_or c.class)) (IsStored shapes (moved from onto c.class)) stored_moved c.entries w.entering.stored;
        waits = All-weaker (AreCongruent shapes (own_or c.class)) (AreCongruent shapes (moved from onto c.class)) congruent_moved waiting w.entering.waits;
      }

  sound_moved : Follows shapes (pairs_of c.facts) node to → (x : ℕ) → Follows shapes (pairs_of c.facts) x (moved from onto c.class x)
  sound_moved h x =
      let ps = pairs_of c.facts in
      elim (relabel_cases from onto (own_or c.class x)) [
        | inl m ↦
            let up = follows_chain shapes ps x (own_or c.class x) from (w.sound x) (follows_same shapes ps (own_or c.class x) from m.0) in
            let down = follows_chain shapes ps from (own_or c.class node) node (follows_same shapes ps from (own_or c.class node) (sym from_is)) (follows_back shapes ps node (own_or c.class node) (w.sound node)) in
            let over = follows_chain shapes ps to (own_or c.class to) (moved from onto c.class x) (w.sound to) (follows_same shapes ps (own_or c.class to) (moved from onto c.class x) (onto_is ∙ sym m.1)) in
            follows_chain shapes ps x from (moved from onto c.class x) up (follows_chain shapes ps from node (moved from onto c.class x) down (follows_chain shapes ps node to (moved from onto c.class x) h over))
        | inr m ↦ follows_chain shapes ps x (own_or c.class x) (moved from onto c.class x) (w.sound x) (follows_same shapes ps (own_or c.class x) (moved from onto c.class x) (sym m.1))
      ]

  below_moved : node < length c.class → to < length c.class → (x : ℕ) → x < length c.class → moved from onto c.class x < length c.class
  below_moved ln lt x lx = elim (relabel_cases from onto (own_or c.class x)) [ inl m ↦ let b = second_below lt in omega (arith, m.1, b) | inr m ↦ let b = w.below x lx in omega (arith, m.1, b) ]

  table_moved : (uses : List (List ℕ)) (entries' : List (Term × ℕ)) (waiting' : List (ℕ × ℕ)) → AreUses shapes uses → HasGrown c.entries entries' → HasGrown waiting waiting' → ((x : ℕ) → own_or c.class x ≡ from → All (IsAgain shapes (moved from onto c.class) entries' waiting') (uses_at uses x)) → IsTable (take c.entered shapes) (moved from onto c.class) (find_in entries') waiting'
  table_moved uses entries' waiting' are ge gw again =
      let stay : (x : ℕ) → (own_or c.class x ≡ from → ⊥) → moved from onto c.class x ≡ own_or c.class x = λ x ne. elim (relabel_cases from onto (own_or c.class x)) [ inl m ↦ absurd (ne m.0) | inr m ↦ m.1 ] in
      table_step (take c.entered shapes) (own_or c.class) (moved from onto c.class) (find_in c.entries) (find_in entries') waiting waiting' (record {
        coarser = λ x y e. ap (relabelled from onto) e;
        kept = λ key u e. found_grown c.entries entries' key u ge e;
        waits = λ u v h. inr (contains_grown waiting waiting' (u, v) gw h);
        entered = λ k d lt.
            let s = get_or (take c.entered shapes) k d in
            elim (arg_of (own_or c.class) (moved from onto c.class) from stay s.args) [
              | inl h ↦
                  let there : slice_get shapes k ≡ Some s = in_front shapes c.entered k d lt in
                  inr (All-contains (IsAgain shapes (moved from onto c.class) entries' waiting') (uses_at uses (object h.0)) k (again (object h.0) h.2) (are k s h.0 there h.1) s there)
              | inr e ↦ inl (λ i. record { symbol = s.symbol; args = e i })
            ];
      }) w.table
    where
      in_front : {X : Type 0} → (xs : List X) (n k : ℕ) (d : X) → k < length (take n xs) → slice_get xs k ≡ Some (get_or (take n xs) k d)
      in_front [] zero k d lt = absurd (omega (arith, lt))
      in_front [] (suc n) k d lt = absurd (omega (arith, lt))
      in_front (x ∷ xs) zero k d lt = absurd (omega (arith, lt))
      in_front (x ∷ xs) (suc n) zero d lt = refl
      in_front (x ∷ xs) (suc n) (suc k) d lt = in_front xs n k d (omega (arith, lt))

  forest_moved : (links' : List (Option Edge)) (cause : Cause) (time' : ℕ) → AreTrees (link_of links') (merged (own_or c.class) node to) → HasOneMore (link_of c.links) (link_of links') node (record { to = to; cause = cause; time = c.time }) → IsJustified shapes c.facts (link_of c.links) cause c.time node to → c.time < time' → IsForest shapes c.facts (link_of links') (moved from onto c.class) time'
  forest_moved links' cause time' trees more j later =
      let f = forest_merged shapes c.facts (link_of c.links) (link_of links') (own_or c.class) c.time node (record { to = to; cause = cause; time = c.time }) w.forest trees more refl j in
      let same : merged (own_or c.class) node to ≡ moved from onto c.class = λ i z. relabelled (from_is i) (onto_is i) (own_or c.class z) in
      record {
        trees = subst (AreTrees (link_of links')) same f.trees;
        justified = f.justified;
        past = λ e l h. let lt = f.past e l h in omega (arith, lt, later);
      }

  -- all that a merge leaves
  pub working_merged : (uses : List (List ℕ)) (d : Cells) (waiting' : List (ℕ × ℕ)) (cause : Cause) → node < length c.class → to < length c.class → AreUses shapes uses → Follows shapes (pairs_of c.facts) node to → IsJustified shapes c.facts (link_of c.links) cause c.time node to
      → length d.class ≡ length c.class → length d.next ≡ length c.next → length d.size ≡ length c.size → length d.links ≡ length c.links → ((x : ℕ) → own_or d.class x ≡ merged (own_or c.class) from onto x) → AreRings (own_or d.next) (own_or d.class) (root_or d.size)
      → AreTrees (link_of d.links) (merged (own_or c.class) node to) → HasOneMore (link_of c.links) (link_of d.links) node (record { to = to; cause = cause; time = c.time }) → AreWithin d.links → c.time < d.time
      → HasGrown c.entries d.entries → HasGrown waiting waiting' → ((x : ℕ) → own_or c.class x ≡ from → All (IsAgain shapes (moved from onto c.class) d.entries waiting') (uses_at uses x)) → IsEntering shapes (moved from onto c.class) d.entries waiting' → d.facts ≡ c.facts → d.entered ≡ c.entered → IsWorking shapes d waiting'
  working_merged uses d waiting' cause ln lt are follows j lc lne ls ll classes rings trees more within later ge gw again entering fs en =
      let same : moved from onto c.class ≡ own_or d.class = λ i x. sym (classes x ∙ sym (merged_by_labels (own_or c.class) from onto x first_root second_root)) i in
      record {
        nexts = lne ∙ w.nexts ∙ sym lc;
        sizes = ls ∙ w.sizes ∙ sym lc;
        linked = ll ∙ w.linked ∙ sym lc;
        known = subst (λ (n : ℕ). All (IsKnown n) shapes) (sym lc) w.known;
        below = λ x lx. let b = below_moved ln lt x (omega (arith, lx, lc)) in subst (λ (z : ℕ). z < length d.class) (λ i. same i x) (omega (arith, b, lc));
        rings = rings;
        sound = λ x. subst (λ (ps : List (ℕ × ℕ)). Follows shapes ps x (own_or d.class x)) (ap pairs_of (sym fs)) (subst (λ (f : ℕ → ℕ). Follows shapes (pairs_of c.facts) x (f x)) same (sound_moved follows x));
        forest = subst (λ fs. IsForest shapes fs (link_of d.links) (own_or d.class) d.time) (sym fs) (subst (λ (f : ℕ → ℕ). IsForest shapes c.facts (link_of d.links) f d.time) same (forest_moved d.links cause d.time trees more j later));
        within = within;
        entering = subst (λ (f : ℕ → ℕ). IsEntering shapes f d.entries waiting') same entering;
        table = subst (λ (n : ℕ). IsTable (take n shapes) (own_or d.class) (find_in d.entries) waiting') (sym en) (subst (λ (f : ℕ → ℕ). IsTable (take c.entered shapes) f (find_in d.entries) waiting') same (table_moved uses d.entries waiting' are ge gw again));
      }

  pub coarser_merged : (class : List ℕ) → ((x : ℕ) → own_or class x ≡ merged (own_or c.class) from onto x) → IsCoarser c.class class
  coarser_merged class classes x y e =
      let a = merged_by_labels (own_or c.class) from onto x first_root second_root in
      let b = merged_by_labels (own_or c.class) from onto y first_root second_root in
      classes x ∙ (sym a ∙ (ap (relabelled from onto) e ∙ (b ∙ sym (classes y))))

  pub joined_merged : (class : List ℕ) → ((x : ℕ) → own_or class x ≡ merged (own_or c.class) from onto x) → own_or class node ≡ own_or class to
  joined_merged class classes =
      let a = merged_by_labels (own_or c.class) from onto node first_root second_root in
      let b = merged_by_labels (own_or c.class) from onto to first_root second_root in
      let x : relabelled from onto (own_or c.class node) ≡ onto = elim (relabel_cases from onto (own_or c.class node)) [ inl m ↦ m.1 | inr m ↦ absurd (m.0 from_is) ] in
      let y : relabelled from onto (own_or c.class to) ≡ onto = ap (relabelled from onto) onto_is ∙ onto_stays in
      classes node ∙ (sym a ∙ (x ∙ (sym y ∙ (b ∙ sym (classes to)))))

  old_root : (class : List ℕ) → ((x : ℕ) → own_or class x ≡ merged (own_or c.class) from onto x) → (x : ℕ) → own_or class x ≡ x → own_or c.class x ≡ x
  old_root class classes x e =
      let a = merged_by_labels (own_or c.class) from onto x first_root second_root in
      elim (relabel_cases from onto (own_or c.class x)) [
        | inl m ↦ let here : onto ≡ x = sym m.1 ∙ (a ∙ (sym (classes x) ∙ e)) in ap (own_or c.class) (sym here) ∙ (second_root ∙ here)
        | inr m ↦ sym m.1 ∙ (a ∙ (sym (classes x) ∙ e))
      ]

  no_root : (class : List ℕ) → ((x : ℕ) → own_or class x ≡ merged (own_or c.class) from onto x) → own_or class from ≡ from → ⊥
  no_root class classes e =
      let a = merged_by_labels (own_or c.class) from onto from first_root second_root in
      elim (relabel_cases from onto (own_or c.class from)) [
        | inl m ↦ classes_differ (sym e ∙ (classes from ∙ (sym a ∙ m.1)))
        | inr m ↦ m.0 first_root
      ]

  roots_upto : (class : List ℕ) → ((x : ℕ) → own_or class x ≡ merged (own_or c.class) from onto x) → (n : ℕ) → (roots (own_or class) n ≤ roots (own_or c.class) n) × (from < n → roots (own_or class) n < roots (own_or c.class) n)
  roots_upto class classes zero = (omega arith, λ lt. absurd (omega (arith, lt)))
  roots_upto class classes (suc n) =
      let r = roots_upto class classes n in
      elim (eqb_tells (own_or class n) n) [
        | inl s ↦ elim (eqb_tells (own_or c.class n) n) [
          | inl t ↦
              let p : roots (own_or class) (suc n) ≡ 1 + roots (own_or class) n = ap (λ b. cond b 1 0 + roots (own_or class) n) s.0 in
              let q : roots (own_or c.class) (suc n) ≡ 1 + roots (own_or c.class) n = ap (λ b. cond b 1 0 + roots (own_or c.class) n) t.0 in
              let ne : from ≡ n → ⊥ = λ e. no_root class classes (ap (own_or class) e ∙ (s.1 ∙ sym e)) in
              (omega (arith, p, q, r.0), λ lt. elim (eqb_tells from n) [ inl e ↦ absurd (ne e.1) | inr o ↦ let l : from < n = below_other from n lt o.1 in let k = r.1 l in omega (arith, p, q, k) ])
          | inr t ↦ absurd (t.1 (old_root class classes n s.1))
        ]
        | inr s ↦
            let p : roots (own_or class) (suc n) ≡ roots (own_or class) n = ap (λ b. cond b 1 0 + roots (own_or class) n) s.0 ∙ zero_plus (roots (own_or class) n) in
            elim (eqb_tells (own_or c.class n) n) [
              | inl t ↦
                  let q : roots (own_or c.class) (suc n) ≡ 1 + roots (own_or c.class) n = ap (λ b. cond b 1 0 + roots (own_or c.class) n) t.0 in
                  (omega (arith, p, q, r.0), λ lt. omega (arith, p, q, r.0))
              | inr t ↦
                  let q : roots (own_or c.class) (suc n) ≡ roots (own_or c.class) n = ap (λ b. cond b 1 0 + roots (own_or c.class) n) t.0 ∙ zero_plus (roots (own_or c.class) n) in
                  (omega (arith, p, q, r.0), λ lt. elim (eqb_tells from n) [ inl e ↦ absurd (t.1 (ap (own_or c.class) (sym e.1) ∙ (first_root ∙ e.1))) | inr o ↦ let l : from < n = below_other from n lt o.1 in let k = r.1 l in omega (arith, p, q, k) ])
            ]
      ]
    where
      below_other : (x n : ℕ) → x < suc n → (x ≡ n → ⊥) → x < n
      below_other x n lt ne = omega (arith, lt, ne)

  pub fewer_roots : (class : List ℕ) → ((x : ℕ) → own_or class x ≡ merged (own_or c.class) from onto x) → length class ≡ length c.class → node < length c.class → roots (own_or class) (length class) < roots (own_or c.class) (length c.class)
  fewer_roots class classes long lt = subst (λ (n : ℕ). roots (own_or class) n < roots (own_or c.class) (length c.class)) (sym long) ((roots_upto class classes (length c.class)).1 (first_below lt))
