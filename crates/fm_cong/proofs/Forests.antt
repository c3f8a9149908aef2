-- The forest through merges: what a merge keeps of it, and what its trees and paths say.
use Rattle.std.proofs.Common.{◌≡◌, ℕ, ◌+◌, ◌<◌, ◌↔◌, List, [], ◌∷◌, Option, Some, inl, inr, refl, sym, subst, ap, arith}
use Rattle.std.specs.List.{AllZip, Contains}
use Rattle.fm_bank.specs.Closure.{Follows, Shape, object}
use Rattle.fm_cells.specs.Forest.{AreInOneTree, AreTrees, HasEdge, HasOneMore, IsHere, merged, turned}
use Rattle.fm_cong.specs.Paths.{AreCongruentBefore, AreCongruentByPaths, AreJoinedBefore, HaveOneClass, IsForest, IsJustified, IsWalk}
use Rattle.fm_cells.specs.declared.edge.Cause.{Cause}
use Rattle.fm_cells.specs.declared.edge.Edge.{Edge}
use Rattle.fm_cong.specs.declared.fact.Fact.{Fact}
use Rattle.fm_cells.proofs.Turning.{one_class, one_tree}
use Rattle.fm_cong.proofs.Walks.{all_justified, tree_walk, walk_joined}

edge_past : (link : ℕ → Option Edge) (now : ℕ) → ((e : ℕ) (l : Edge) → link e ≡ Some l → l.time < now) → (e : ℕ) (l : Edge) → HasEdge link e l → l.time < now
edge_past link now past e l h = elim h [ inl a ↦ past e l a | inr b ↦ past l.to (turned e l) b ]

here_time : (x e : ℕ) (edge l : Edge) → IsHere x edge e l → l.time ≡ edge.time
here_time x e edge l h = elim h [ inl a ↦ ap (λ (k : Edge). k.time) (sym a.1) | inr b ↦ ap (λ (k : Edge). k.time) (sym b.1) ]

-- one justified link more, made now, leaves a forest
pub forest_merged : (shapes : List Shape) (facts : List Fact) (old new : ℕ → Option Edge) (class : ℕ → ℕ) (now x : ℕ) (edge : Edge) → IsForest shapes facts old class now → AreTrees new (merged class x edge.to) → HasOneMore old new x edge → edge.time ≡ now → IsJustified shapes facts old edge.cause edge.time x edge.to → IsForest shapes facts new (merged class x edge.to) (now + 1)
forest_merged shapes facts old new class now x edge f trees more time j =
    record {
      trees = trees;
      justified = all_justified shapes facts old new x edge more f.justified j;
      past = λ e l h. elim (more.only e l h) [
        | inl a ↦ let lt = edge_past old now f.past e l a in omega (arith, lt)
        | inr b ↦ let t = here_time x e edge l b in omega (arith, t, time)
      ];
    }

module _ (shapes : List Shape) (facts : List Fact) (link : ℕ → Option Edge) (class : ℕ → ℕ) (now : ℕ) (f : IsForest shapes facts link class now) where
  zip_walks : (xs ys : List ℕ) → HaveOneClass class xs ys → AllZip (λ s t. (cs : List ℕ) × IsWalk link now (object s) cs (object t)) xs ys
  zip_walks [] [] h = tt
  zip_walks [] (y ∷ ys) h = h
  zip_walks (x ∷ xs) [] h = h
  zip_walks (x ∷ xs) (y ∷ ys) h = (tree_walk link now f.past (object x) (object y) (one_tree link class f.trees (object x) (object y) h.0), zip_walks xs ys h.1)

  -- two terms of one symbol with arguments of the same classes may be joined now
  pub congruence_justified : (left right : Shape) → Contains shapes left → Contains shapes right → left.symbol ≡ right.symbol → HaveOneClass class left.args right.args → IsJustified shapes facts link Cause.Congruence now (object left.number) (object right.number)
  congruence_justified left right a b s h =
      record { left = left; right = right; left_in = a; right_in = b; u_is = refl; v_is = refl; symbols = s; args = zip_walks left.args right.args h }

  zip_joined : (time : ℕ) (xs ys : List ℕ) → AllZip (λ s t. (cs : List ℕ) × IsWalk link time (object s) cs (object t)) xs ys → AllZip (λ s t. AreJoinedBefore link time (object s) (object t)) xs ys
  zip_joined time [] [] h = tt
  zip_joined time [] (y ∷ ys) h = h
  zip_joined time (x ∷ xs) [] h = h
  zip_joined time (x ∷ xs) (y ∷ ys) h = (walk_joined link time f.trees.ended (object x) h.0.0 (object y) h.0.1, zip_joined time xs ys h.1)

  -- for each two arguments at one place the path between them has only links of smaller time
  pub by_paths : (e : ℕ) (l : Edge) → link e ≡ Some l → l.cause ≡ Cause.Congruence → AreCongruentByPaths shapes link l.time e l.to
  by_paths e l h c =
      let j : AreCongruentBefore shapes link l.time e l.to = subst (λ (k : Cause). IsJustified shapes facts link k l.time e l.to) c (f.justified e l h) in
      record { left = j.left; right = j.right; left_in = j.left_in; right_in = j.right_in; u_is = j.u_is; v_is = j.v_is; symbols = j.symbols; args = zip_joined l.time j.left.args j.right.args j.args }

  -- where the classes are those of the closure, two nodes are in one tree exactly where it joins them
  pub trees_follow : (over : List Shape) (pairs : List (ℕ × ℕ)) → ((x y : ℕ) → (class x ≡ class y) ↔ Follows over pairs x y) → (x y : ℕ) → AreInOneTree link x y ↔ Follows over pairs x y
  trees_follow over pairs exact x y = (λ t. (exact x y).0 (one_class link class f.trees x y t), λ g. one_tree link class f.trees x y ((exact x y).1 g))
