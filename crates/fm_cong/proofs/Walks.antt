-- Walks along links, and that the path between their ends has no later links.
use Rattle.std.proofs.Common.{◌≡◌, ℕ, ◌<◌, ◌⊎◌, Bool, true, false, not, ◌||◌, List, [], ◌∷◌, ◌++◌, Option, Some, inl, inr, refl, sym, subst, ap, ◌∙◌}
use Rattle.std.specs.List.{AllZip}
use mathlib.Core.Bool.{beq}
use Rattle.std.proofs.lemmas.Bool.{false≢true}
use Rattle.std.proofs.lemmas.Bool.Decides.{eqb_tells}
use Rattle.fm_bank.specs.Closure.{Shape, object}
use Rattle.fm_cells.specs.Forest.{AreInOneTree, HasEdge, HasEnd, HasOneMore, IsUp, turned}
use Rattle.fm_cong.specs.Paths.{AreJoinedBefore, AreJustified, IsJustified, IsOnPath, IsStep, IsWalk, is_on_one}
use Rattle.fm_cells.specs.Members.{is_on}
use Rattle.fm_cells.specs.declared.edge.Cause.{Cause}
use Rattle.fm_cells.specs.declared.edge.Edge.{Edge}
use Rattle.fm_cong.specs.declared.fact.Fact.{Fact}
use Rattle.fm_cells.proofs.Ways.{none_some, some_same, up_same}
use Rattle.fm_cells.proofs.Pending.{edge_turned}

beq_same : (b : Bool) → not (beq b b) ≡ false
beq_same true = refl
beq_same false = refl

pub is_on_next : (y e : ℕ) (xs : List ℕ) → (e ≡ y → ⊥) → is_on (y ∷ xs) e ≡ is_on xs e
is_on_next y e xs ne = elim (eqb_tells e y) [ inl same ↦ absurd (ne same.1) | inr other ↦ ap (λ b. b || is_on xs e) other.0 ]

-- a way up without its first node
pub record HasAbove (link : ℕ → Option Edge) (u : ℕ) (way : List ℕ) (to top : ℕ) : Type 0 where
  pub nodes : List ℕ
  pub way_is : way ≡ u ∷ nodes
  pub onward : IsUp link to nodes top

pub above_link : (link : ℕ → Option Edge) (u : ℕ) (way : List ℕ) (top : ℕ) (l : Edge) → IsUp link u way top → link u ≡ Some l → HasAbove link u way l.to top
above_link link u [] top l w e = absurd (none_some (link u) l w.1 e)
above_link link u (y ∷ ys) top l w e =
    let same : w.1.0 ≡ l = some_same (link u) w.1.0 l w.1.1 e in
    record { nodes = ys; way_is = ap (λ (v : ℕ). v ∷ ys) (sym w.0); onward = subst (λ (k : Edge). IsUp link k.to ys top) same w.1.2 }

module _ (link : ℕ → Option Edge) (time : ℕ) where
  same_time : (e : ℕ) (k l : Edge) → link e ≡ Some k → link e ≡ Some l → k.time < time → l.time < time
  same_time e k l a b lt = let same : k ≡ l = some_same (link e) k l a b in subst (λ (m : Edge). m.time < time) same lt

  -- a path from the other node of a link has no other links than that one and those of the path
  path_over : (u v e : ℕ) (k l : Edge) → HasEdge link u k → k.time < time → IsOnPath link u v e → link e ≡ Some l → (l.time < time) ⊎ IsOnPath link k.to v e
  path_over u v e k l edge lt p s =
      elim edge [
        | inl h ↦
            let a = above_link link u p.left p.top k p.up_left h in
            elim (eqb_tells e u) [
              | inl same ↦ inl (same_time e k l (ap link same.1 ∙ h) s lt)
              | inr other ↦
                  let on : is_on p.left e ≡ is_on a.nodes e = ap (λ xs. is_on xs e) a.way_is ∙ is_on_next u e a.nodes other.1 in
                  let once : is_on_one a.nodes p.right e ≡ true = ap (λ b. not (beq b (is_on p.right e))) (sym on) ∙ p.once in
                  inr (record { left = a.nodes; right = p.right; top = p.top; up_left = a.onward; up_right = p.up_right; once = once })
            ]
        | inr h ↦
            elim (eqb_tells e k.to) [
              | inl same ↦ inl (same_time e (turned u k) l (ap link same.1 ∙ h) s lt)
              | inr other ↦
                  let once : is_on_one (k.to ∷ p.left) p.right e ≡ true = ap (λ b. not (beq b (is_on p.right e))) (is_on_next k.to e p.left other.1) ∙ p.once in
                  inr (record { left = k.to ∷ p.left; right = p.right; top = p.top; up_left = (refl, (turned u k, h, p.up_left)); up_right = p.up_right; once = once })
            ]
      ]

  -- the links on the path between the ends of a walk are no later than those of the walk
  pub walk_path : (u : ℕ) (cs : List ℕ) (v e : ℕ) (l : Edge) → IsWalk link time u cs v → IsOnPath link u v e → link e ≡ Some l → l.time < time
  walk_path u [] v e l w p s =
      let same : p.left ≡ p.right = (up_same link v p.left p.right p.top p.top (subst (λ (z : ℕ). IsUp link z p.left p.top) w p.up_left) p.up_right).0 in
      let never : is_on_one p.left p.right e ≡ false = ap (λ xs. is_on_one xs p.right e) same ∙ beq_same (is_on p.right e) in
      absurd (false≢true (sym never ∙ p.once))
  walk_path u (c ∷ cs) v e l w p s =
      elim (path_over u v e w.0.0 l w.0.1 w.0.3 p s) [
        | inl lt ↦ lt
        | inr q ↦ walk_path c cs v e l w.1 (subst (λ (z : ℕ). IsOnPath link z v e) w.0.2 q) s
      ]

  -- the ends of a walk are in one tree
  pub walk_tree : ((z : ℕ) → HasEnd link z) → (u : ℕ) (cs : List ℕ) (v : ℕ) → IsWalk link time u cs v → AreInOneTree link u v
  walk_tree ended u [] v w =
      let h = ended v in
      (h.nodes, (h.nodes, (h.end, subst (λ (z : ℕ). IsUp link z h.nodes h.end) (sym w) h.way, h.way)))
  walk_tree ended u (c ∷ cs) v w = step_tree u v w.0.0 w.0.1 (subst (λ (z : ℕ). AreInOneTree link z v) (sym w.0.2) (walk_tree ended c cs v w.1))
    where
      step_tree : (u v : ℕ) (k : Edge) → HasEdge link u k → AreInOneTree link k.to v → AreInOneTree link u v
      step_tree u v k edge t =
          elim edge [
            | inl h ↦ (u ∷ t.0, (t.1.0, (t.1.1.0, (refl, (k, h, t.1.1.1)), t.1.1.2)))
            | inr h ↦
                let a = above_link link k.to t.0 t.1.1.0 (turned u k) t.1.1.1 h in
                (a.nodes, (t.1.0, (t.1.1.0, a.onward, t.1.1.2)))
          ]

  pub walk_joined : ((z : ℕ) → HasEnd link z) → (u : ℕ) (cs : List ℕ) (v : ℕ) → IsWalk link time u cs v → AreJoinedBefore link time u v
  walk_joined ended u cs v w = record { tree = walk_tree ended u cs v w; earlier = λ e l p s. walk_path u cs v e l w p s }

  pub walk_append : (u : ℕ) (cs : List ℕ) (v : ℕ) (ds : List ℕ) (z : ℕ) → IsWalk link time u cs v → IsWalk link time v ds z → IsWalk link time u (cs ++ ds) z
  walk_append u [] v ds z w x = subst (λ (y : ℕ). IsWalk link time y ds z) (sym w) x
  walk_append u (c ∷ cs) v ds z w x = (w.0, walk_append c cs v ds z w.1 x)

  step_back : (u c : ℕ) → IsStep link time u c → IsStep link time c u
  step_back u c s = subst (λ (z : ℕ). IsStep link time z u) s.2 (turned u s.0, edge_turned link u s.0 s.1, refl, s.3)

  pub walk_back : (u : ℕ) (cs : List ℕ) (v : ℕ) → IsWalk link time u cs v → (ds : List ℕ) × IsWalk link time v ds u
  walk_back u [] v w = ([], sym w)
  walk_back u (c ∷ cs) v w =
      let back = walk_back c cs v w.1 in
      (back.0 ++ u ∷ [], walk_append v back.0 c (u ∷ []) u back.1 (step_back u c w.0, refl))

  -- a way up is a walk, where all links are of smaller time
  pub walk_up : ((e : ℕ) (l : Edge) → link e ≡ Some l → l.time < time) → (u : ℕ) (xs : List ℕ) (top : ℕ) → IsUp link u xs top → (cs : List ℕ) × IsWalk link time u cs top
  walk_up all u [] top w = ([], w.0)
  walk_up all u (y ∷ ys) top w =
      let rest = walk_up all w.1.0.to ys top w.1.2 in
      (w.1.0.to ∷ rest.0, ((w.1.0, inl w.1.1, refl, all u w.1.0 w.1.1), rest.1))

  -- two nodes of one tree are joined by a walk
  pub tree_walk : ((e : ℕ) (l : Edge) → link e ≡ Some l → l.time < time) → (u v : ℕ) → AreInOneTree link u v → (cs : List ℕ) × IsWalk link time u cs v
  tree_walk all u v t =
      let up = walk_up all u t.0 t.1.1.0 t.1.1.1 in
      let other = walk_up all v t.1.0 t.1.1.0 t.1.1.2 in
      let down = walk_back v other.0 t.1.1.0 other.1 in
      (up.0 ++ down.0, walk_append u up.0 t.1.1.0 down.0 v up.1 down.1)

-- one link more keeps every walk
module _ (old new : ℕ → Option Edge) (x : ℕ) (edge : Edge) (more : HasOneMore old new x edge) where
  pub edge_more : (e : ℕ) (l : Edge) → HasEdge old e l → HasEdge new e l
  edge_more e l h = elim h [ inl a ↦ more.kept e l a | inr b ↦ edge_turned new l.to (turned e l) (more.kept l.to (turned e l) b) ]

  pub walk_more : (time : ℕ) (u : ℕ) (cs : List ℕ) (v : ℕ) → IsWalk old time u cs v → IsWalk new time u cs v
  walk_more time u [] v w = w
  walk_more time u (c ∷ cs) v w = ((w.0.0, edge_more u w.0.0 w.0.1, w.0.2, w.0.3), walk_more time c cs v w.1)

  zip_more : (time : ℕ) (ss ts : List ℕ) → AllZip (λ s t. (cs : List ℕ) × IsWalk old time (object s) cs (object t)) ss ts → AllZip (λ s t. (cs : List ℕ) × IsWalk new time (object s) cs (object t)) ss ts
  zip_more time [] [] h = tt
  zip_more time [] (t ∷ ts) h = h
  zip_more time (s ∷ ss) [] h = h
  zip_more time (s ∷ ss) (t ∷ ts) h = ((h.0.0, walk_more time (object s) h.0.0 (object t) h.0.1), zip_more time ss ts h.1)

  pub justified_more : (shapes : List Shape) (facts : List Fact) (cause : Cause) (time u v : ℕ) → IsJustified shapes facts old cause time u v → IsJustified shapes facts new cause time u v
  justified_more shapes facts (Cause.Fact lit) time u v j = j
  justified_more shapes facts Cause.Congruence time u v j = record { left = j.left; right = j.right; left_in = j.left_in; right_in = j.right_in; u_is = j.u_is; v_is = j.v_is; symbols = j.symbols; args = zip_more time j.left.args j.right.args j.args }

zip_back : (link : ℕ → Option Edge) (time : ℕ) (ss ts : List ℕ) → AllZip (λ s t. (cs : List ℕ) × IsWalk link time (object s) cs (object t)) ss ts → AllZip (λ s t. (cs : List ℕ) × IsWalk link time (object s) cs (object t)) ts ss
zip_back link time [] [] h = tt
zip_back link time [] (t ∷ ts) h = h
zip_back link time (s ∷ ss) [] h = h
zip_back link time (s ∷ ss) (t ∷ ts) h = (walk_back link time (object s) h.0.0 (object t) h.0.1, zip_back link time ss ts h.1)

-- what joins two nodes joins them the other way round
pub justified_back : (shapes : List Shape) (facts : List Fact) (link : ℕ → Option Edge) (cause : Cause) (time u v : ℕ) → IsJustified shapes facts link cause time u v → IsJustified shapes facts link cause time v u
justified_back shapes facts link (Cause.Fact lit) time u v j = record { fact = j.fact; read = j.read; lit_is = j.lit_is; sides_are = elim j.sides_are [ inl a ↦ inr a | inr b ↦ inl b ] }
justified_back shapes facts link Cause.Congruence time u v j = record { left = j.right; right = j.left; left_in = j.right_in; right_in = j.left_in; u_is = j.v_is; v_is = j.u_is; symbols = sym j.symbols; args = zip_back link time j.left.args j.right.args j.args }

-- with one justified link more all links are justified
pub all_justified : (shapes : List Shape) (facts : List Fact) (old new : ℕ → Option Edge) (x : ℕ) (edge : Edge) → HasOneMore old new x edge → AreJustified shapes facts old → IsJustified shapes facts old edge.cause edge.time x edge.to → AreJustified shapes facts new
all_justified shapes facts old new x edge more all one e l s =
    elim (more.only e l s) [
      | inl h ↦ elim h [
        | inl a ↦ justified_more old new x edge more shapes facts l.cause l.time e l.to (all e l a)
        | inr b ↦ justified_back shapes facts new l.cause l.time l.to e (justified_more old new x edge more shapes facts l.cause l.time l.to e (all l.to (turned e l) b))
      ]
      | inr h ↦ elim h [
        | inl a ↦ justified_more old new x edge more shapes facts l.cause l.time e l.to (placed x e edge l a.0 a.1 one)
        | inr b ↦ justified_back shapes facts new l.cause l.time l.to e (justified_more old new x edge more shapes facts l.cause l.time l.to e (placed x l.to edge (turned e l) b.0 b.1 one))
      ]
    ]
  where
    placed : (x y : ℕ) (k l : Edge) → x ≡ y → k ≡ l → IsJustified shapes facts old k.cause k.time x k.to → IsJustified shapes facts old l.cause l.time y l.to
    placed x y k l a b j = subst (λ (m : Edge). IsJustified shapes facts old m.cause m.time y m.to) b (subst (λ (z : ℕ). IsJustified shapes facts old k.cause k.time z k.to) a j)
