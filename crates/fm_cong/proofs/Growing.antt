-- A node more: its cells say what was said of it before.
use Rattle.std.proofs.Common.{◌≡◌, ℕ, zero, suc, ◌<◌, List, [], ◌∷◌, ◌++◌, length, Option, Some, None, inl, inr, refl, sym, subst, ap, ◌∙◌, arith}
use Rattle.std.specs.Prelude.{slice_set}
use Rattle.std.specs.List.{All}
use Rattle.std.proofs.lemmas.Bool.{cases_lt}
use Rattle.std.proofs.lemmas.List.{get_or_past, length_push}
use Rattle.std.proofs.lemmas.List.Elements.{All-head, All-tail, All-weaker}
use Rattle.fm_bank.specs.Closure.{Follows, Shape}
use Rattle.fm_cells.specs.Forest.{link_of}
use Rattle.fm_cells.specs.Logs.{restored}
use Rattle.fm_cells.specs.Rings.{AreRings, alone, own_or, root_or}
use Rattle.fm_cells.specs.declared.edge.Edge.{Edge}
use Rattle.fm_cells.specs.declared.rings.Root.{Root}
use Rattle.fm_cong.specs.Graphs.{Cells, IsWorking, pairs_of}
use Rattle.fm_cong.specs.Paths.{IsForest}
use Rattle.fm_cong.specs.Tables.{IsEntering, IsKnown, IsTable, find_in}
use Rattle.fm_cells.proofs.Pushing.{link_push, own_push, root_push}
use Rattle.fm_cong.proofs.Merging.{restored_length}
use Rattle.std.proofs.Common.{take}

set_push : {X : Type 0} → (xs : List X) (v : X) (k : ℕ) (a : X) → k < length xs → slice_set (xs ++ v ∷ []) k a ≡ slice_set xs k a ++ v ∷ []
set_push [] v k a lt = absurd (omega (arith, lt))
set_push (x ∷ xs) v zero a lt = refl
set_push (x ∷ xs) v (suc k) a lt = ap (λ ys. x ∷ ys) (set_push xs v k a (omega (arith, lt)))

-- what is taken back leaves the cells that came later
pub restored_push : {X : Type 0} → (log : List (ℕ × X)) (cells : List X) (v : X) → All (λ (e : ℕ × X). e.0 < length cells) log → restored log (cells ++ v ∷ []) ≡ restored log cells ++ v ∷ []
restored_push [] cells v all = refl
restored_push {X} (e ∷ log) cells v all =
    let P : ℕ × X → Type 0 = λ e. e.0 < length cells in
    let head = All-head P e log all in
    ap (λ xs. slice_set xs e.0 e.1) (restored_push log cells v (All-tail P e log all)) ∙ set_push (restored log cells) v e.0 e.1 (omega (arith, head, restored_length log cells))

abbrev pub with_node : Cells → Cells
with_node c = record { class = c.class ++ length c.class ∷ []; next = c.next ++ length c.class ∷ []; size = c.size ++ alone (length c.class) ∷ []; links = c.links ++ None ∷ []; entries = c.entries; facts = c.facts; entered = c.entered; time = c.time }

pub working_node : (shapes : List Shape) (c : Cells) (waiting : List (ℕ × ℕ)) → IsWorking shapes c waiting → IsWorking shapes (with_node c) waiting
working_node shapes c waiting w =
    let n = length c.class in
    let class = sym (own_push c.class n refl) in
    let next = sym (own_push c.next n (sym w.nexts)) in
    let size = sym (root_push c.size n (sym w.sizes)) in
    let link = sym (link_push c.links) in
    let lc = length_push c.class n in
    let ln = length_push c.next n in
    let ls = length_push c.size (alone n) in
    let ll = length_push c.links None in
    let long : (s : Shape) → IsKnown (length c.class) s → IsKnown (length (c.class ++ length c.class ∷ [])) s = λ s k. record { node = omega (arith, k.node, lc); args = λ j d lt. let b = k.args j d lt in omega (arith, b, lc) } in
    record {
      nexts = omega (arith, lc, ln, w.nexts);
      sizes = omega (arith, lc, ls, w.sizes);
      linked = omega (arith, lc, ll, w.linked);
      known = All-weaker (IsKnown (length c.class)) (IsKnown (length (c.class ++ length c.class ∷ []))) long shapes w.known;
      below = λ x lt. subst (λ (f : ℕ → ℕ). f x < length (c.class ++ length c.class ∷ [])) class (elim (cases_lt x (length c.class)) [
        | inl l ↦ let b = w.below x l in omega (arith, b, lc)
        | inr past ↦ let own : own_or c.class x ≡ x = get_or_past c.class x x past in omega (arith, own, lt)
      ]);
      rings = subst (λ (f : ℕ → ℕ). AreRings f (own_or (c.class ++ length c.class ∷ [])) (root_or (c.size ++ alone n ∷ []))) next (subst (λ (f : ℕ → ℕ). AreRings (own_or c.next) f (root_or (c.size ++ alone n ∷ []))) class (subst (λ (f : ℕ → Root). AreRings (own_or c.next) (own_or c.class) f) size w.rings));
      sound = λ x. subst (λ (f : ℕ → ℕ). Follows shapes (pairs_of c.facts) x (f x)) class (w.sound x);
      forest = subst (λ (g : ℕ → Option Edge). IsForest shapes c.facts g (own_or (c.class ++ length c.class ∷ [])) c.time) link (subst (λ (f : ℕ → ℕ). IsForest shapes c.facts (link_of c.links) f c.time) class w.forest);
      within = λ e l h. let b = w.within e l (subst (λ (g : ℕ → Option Edge). g e ≡ Some l) (sym link) h) in omega (arith, b, ll);
      entering = subst (λ (f : ℕ → ℕ). IsEntering shapes f c.entries waiting) class w.entering;
      table = subst (λ (f : ℕ → ℕ). IsTable (take c.entered shapes) f (find_in c.entries) waiting) class w.table;
    }
