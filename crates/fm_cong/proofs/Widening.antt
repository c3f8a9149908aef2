-- A node more keeps what holds now and at each mark.
use Rattle.std.proofs.Common.{◌≡◌, ℕ, ◌<◌, List, [], ◌∷◌, ◌++◌, length, take, drop, None, refl, sym, subst, ap, ◌∙◌, arith}
use Rattle.std.specs.List.{All}
use Rattle.std.proofs.lemmas.List.Elements.{All-drop}
use Rattle.std.proofs.lemmas.List.{length_push}
use Rattle.fm_bank.specs.Closure.{Shape}
use Rattle.fm_cells.specs.Forest.{trimmed}
use Rattle.fm_cells.specs.Logs.{AreOfCells, restored}
use Rattle.fm_cells.specs.Rings.{alone, own_or, root_or}
use Rattle.fm_cells.specs.Unions.{AreSameCells, AreSameLogs, HasNode}
use Rattle.fm_cells.specs.declared.rings.Classes.{Classes}
use Rattle.fm_cells.proofs.Trimming.{trimmed_push}
use Rattle.fm_cells.proofs.Pushing.{own_push, root_push}
use Rattle.fm_cong.specs.Graphs.{Cells, cells_of, pairs_of}
use Rattle.fm_cong.specs.Levels.{IsInside, IsSteady, KeepsAll, cells_at}
use Rattle.fm_cong.specs.declared.mark.Mark.{Mark}
use Rattle.fm_cong.specs.declared.state.State.{State}
use Rattle.fm_cong.proofs.Growing.{restored_push, with_node, working_node}
use Rattle.fm_cong.proofs.Merging.{restored_length}

pub steady_node : (shapes : List Shape) (c : Cells) → IsSteady shapes c → IsSteady shapes (with_node c)
steady_node shapes c h =
    record {
      working = working_node shapes c [] h.working;
      holds = subst (λ (f : ℕ → ℕ). All (λ (p : ℕ × ℕ). f p.0 ≡ f p.1) (pairs_of c.facts)) (sym (own_push c.class (length c.class) refl)) h.holds;
    }

-- what is taken back leaves a cell that was pushed since
pushed_back : {X : Type 0} → (log log' : List (ℕ × X)) (cells cells' : List X) (v w : X) (m : ℕ) → log' ≡ log → cells' ≡ cells ++ v ∷ [] → v ≡ w → AreOfCells cells log → restored (drop m log') cells' ≡ restored (drop m log) cells ++ w ∷ []
pushed_back {X} log log' cells cells' v w m p q e places =
    (λ i. restored (drop m (p i)) (q i)) ∙ (restored_push (drop m log) cells v (All-drop (λ (e : ℕ × X). e.0 < length cells) m log places) ∙ ap (λ x. restored (drop m log) cells ++ x ∷ []) e)

module _ (s t : State) (logs : AreSameLogs s.classes t.classes) (links_log : t.links.log.items ≡ s.links.log.items) (entries : t.table.entries ≡ s.table.entries) (facts : t.facts.items ≡ s.facts.items) (entered : t.entered ≡ s.entered) (waiting : t.waiting.items ≡ s.waiting.items) where
  inside_same : (m : Mark) → IsInside s m → IsInside t m
  inside_same m h =
      record {
        class = omega (arith, h.class, ap length logs.class);
        next = omega (arith, h.next, ap length logs.next);
        size = omega (arith, h.size, ap length logs.size);
        links = omega (arith, h.links, ap length links_log);
        table = omega (arith, h.table, ap length entries);
        facts = omega (arith, h.facts, ap length facts);
      }

  module _ (same : AreSameCells s.classes t.classes) (links : t.links.cells.items ≡ s.links.cells.items) where
    same_now : cells_of t ≡ cells_of s
    same_now = let time = ap length links_log in λ i. record { class = same.class i; next = same.next i; size = same.size i; links = links i; entries = entries i; facts = facts i; entered = entered i; time = time i }

    same_at : (m : Mark) → cells_at t m ≡ cells_at s m
    same_at m = λ i. record {
      class = restored (drop m.class (logs.class i)) (same.class i);
      next = restored (drop m.next (logs.next i)) (same.next i);
      size = restored (drop m.size (logs.size i)) (same.size i);
      links = restored (drop m.links (links_log i)) (links i);
      entries = take m.table (entries i);
      facts = take m.facts (facts i);
      entered = m.entered;
      time = m.links;
    }

    pub keeps_same : KeepsAll s t
    keeps_same = record {
      steady = λ shapes h. subst (IsSteady shapes) (sym same_now) h;
      marks = λ shapes m k. record { inside = inside_same m k.inside; steady = subst (IsSteady shapes) (sym (same_at m)) k.steady };
      inside = inside_same;
      classes = λ m h. ap (λ (c : Cells). own_or c.class) (same_at m);
      quiet = waiting;
      facts = facts;
      entered = entered;
      nodes = omega (arith, ap length same.class);
      links = ap trimmed links;
      now = ap own_or same.class;
    }

  module _ (node : HasNode s.classes t.classes) (links : t.links.cells.items ≡ s.links.cells.items ++ None ∷ []) where
    node_now : cells_of t ≡ with_node (cells_of s)
    node_now = let time = ap length links_log in λ i. record { class = node.class i; next = node.next i; size = node.size i; links = links i; entries = entries i; facts = facts i; entered = entered i; time = time i }

    node_at : (m : Mark) → cells_at t m ≡ with_node (cells_at s m)
    node_at m =
        let c = s.classes in
        let n = length c.class.cells.items in
        let long : n ≡ length (restored (drop m.class c.class.log.items) c.class.cells.items) = sym (restored_length (drop m.class c.class.log.items) c.class.cells.items) in
        let class = pushed_back c.class.log.items t.classes.class.log.items c.class.cells.items t.classes.class.cells.items n (length (cells_at s m).class) m.class logs.class node.class long c.class.places in
        let next = pushed_back c.next.log.items t.classes.next.log.items c.next.cells.items t.classes.next.cells.items n (length (cells_at s m).class) m.next logs.next node.next long c.next.places in
        let size = pushed_back c.size.log.items t.classes.size.log.items c.size.cells.items t.classes.size.cells.items (alone n) (alone (length (cells_at s m).class)) m.size logs.size node.size (ap alone long) c.size.places in
        let link = pushed_back s.links.log.items t.links.log.items s.links.cells.items t.links.cells.items None None m.links links_log links refl s.links.places in
        λ i. record { class = class i; next = next i; size = size i; links = link i; entries = take m.table (entries i); facts = take m.facts (facts i); entered = m.entered; time = m.links }

    pub keeps_node : KeepsAll s t
    keeps_node = record {
      steady = λ shapes h. subst (IsSteady shapes) (sym node_now) (steady_node shapes (cells_of s) h);
      marks = λ shapes m k. record { inside = inside_same m k.inside; steady = subst (IsSteady shapes) (sym (node_at m)) (steady_node shapes (cells_at s m) k.steady) };
      inside = inside_same;
      classes = λ m h. ap (λ (c : Cells). own_or c.class) (node_at m) ∙ own_push (cells_at s m).class (length (cells_at s m).class) refl;
      quiet = waiting;
      facts = facts;
      entered = entered;
      nodes = omega (arith, ap length node.class, length_push s.classes.class.cells.items (length s.classes.class.cells.items));
      links = ap trimmed links ∙ trimmed_push s.links.cells.items;
      now = ap own_or node.class ∙ own_push s.classes.class.cells.items (length s.classes.class.cells.items) refl;
    }

pub keeps_none : (s : State) → KeepsAll s s
keeps_none s = record { steady = λ shapes h. h; marks = λ shapes m k. k; inside = λ m h. h; classes = λ m h. refl; quiet = refl; facts = refl; entered = refl; nodes = omega arith; links = refl; now = refl }

pub keeps_more : (a b c : State) → KeepsAll a b → KeepsAll b c → KeepsAll a c
keeps_more a b c p q = record {
  steady = λ shapes h. q.steady shapes (p.steady shapes h);
  marks = λ shapes m k. q.marks shapes m (p.marks shapes m k);
  inside = λ m h. q.inside m (p.inside m h);
  classes = λ m h. q.classes m (p.inside m h) ∙ p.classes m h;
  quiet = q.quiet ∙ p.quiet;
  facts = q.facts ∙ p.facts;
  entered = q.entered ∙ p.entered;
  nodes = omega (arith, p.nodes, q.nodes);
  links = q.links ∙ p.links;
  now = q.now ∙ p.now;
}

-- what is said of classes once room was made
pub node_from : (a b c : Classes) → AreSameCells a b → HasNode b c → HasNode a c
node_from a b c e h = record {
  class = h.class ∙ (λ i. e.class i ++ length (e.class i) ∷ []);
  next = h.next ∙ (λ i. e.next i ++ length (e.class i) ∷ []);
  size = h.size ∙ (λ i. e.size i ++ alone (length (e.class i)) ∷ []);
}

pub logs_from : (a b c : Classes) → AreSameLogs a b → AreSameLogs b c → AreSameLogs a c
logs_from a b c p q = record { class = q.class ∙ p.class; next = q.next ∙ p.next; size = q.size ∙ p.size }
