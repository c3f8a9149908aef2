-- Marks and levels of an e-graph, and the nodes of its registered terms.
use Rattle.std.proofs.Common.{◌≡◌, ℕ, zero, suc, ◌<◌, ◌≤◌, true, List, [], ◌∷◌, ◌++◌, length, take, Option, Some, None, inl, inr, refl, sym, subst, ap, ◌∙◌, arith, get_or}
use Rattle.std.specs.Prelude.{◌==◌, slice_get}
use Rattle.std.specs.List.{All}
use Rattle.std.proofs.lemmas.Bool.{eqb-true, false≢true, or_cases}
use Rattle.std.proofs.lemmas.List.Elements.{All-head, All-push, All-tail, All-take, All-weaker}
use Rattle.fm_bank.specs.Closure.{Shape, object}
use Rattle.fm_bank.specs.declared.atom.Atom.{Atom}
use Rattle.fm_cong.specs.Facts.{IsAtomBelow}
use Rattle.fm_cong.specs.Faithful.{AreMarks}
use Rattle.fm_cong.specs.Graphs.{cells_of}
use Rattle.fm_cong.specs.Held.{JoinsRegistered, is_registered}
use Rattle.fm_cong.specs.Levels.{IsBefore, IsKept, IsMarkOf, IsSteady, KeepsMarks, KeepsMarksBefore, levels_of}
use Rattle.fm_cong.specs.Tables.{IsKnown}
use Rattle.fm_cong.specs.declared.fact.Fact.{Fact}
use Rattle.fm_cong.specs.declared.mark.Mark.{Mark}
use Rattle.fm_cong.specs.declared.state.State.{State}
use Rattle.fm_cong.proofs.Marking.{at_now, before_now, inside_now, take_append, take_split, take_whole}
use Rattle.fm_cong.proofs.Stacking.{all_before, all_both, ordered_push, ordered_take}

pub marks_pushed : (shapes : List Shape) (s : State) (marks : List Mark) (m : Mark) → IsMarkOf s m → IsSteady shapes (cells_of s) → s.entered ≤ length shapes → AreMarks shapes s marks → AreMarks shapes s (marks ++ m ∷ [])
marks_pushed shapes s marks m e steady low h =
    let here : IsKept shapes s m = record { inside = inside_now s m e; steady = subst (IsSteady shapes) (sym (at_now s m e)) steady } in
    record {
      kept = All-push (IsKept shapes s) marks m h.kept here;
      low = All-push (λ (n : Mark). n.entered ≤ length shapes) marks m h.low (omega (arith, low, e.entered));
      ordered = ordered_push marks m h.ordered (All-weaker (IsKept shapes s) (λ (n : Mark). IsBefore n m) (λ n k. before_now s m n e k.inside) marks h.kept);
    }

pub marks_kept : (shapes : List Shape) (s t : State) (marks : List Mark) → KeepsMarks s t → AreMarks shapes s marks → AreMarks shapes t marks
marks_kept shapes s t marks keeps h = record { kept = All-weaker (IsKept shapes s) (IsKept shapes t) (keeps shapes) marks h.kept; low = h.low; ordered = h.ordered }

pub marks_cut : (shapes : List Shape) (s t : State) (marks : List Mark) (n : ℕ) (m : Mark) → n < length marks → ((d : Mark) → m ≡ get_or marks n d) → KeepsMarksBefore m s t → AreMarks shapes s marks → AreMarks shapes t (take n marks)
marks_cut shapes s t marks n m lt at keeps h =
    let before = all_before marks n m h.ordered lt at in
    record {
      kept = all_both (λ e. IsBefore e m) (IsKept shapes s) (IsKept shapes t) (keeps shapes) (take n marks) before (All-take (IsKept shapes s) n marks h.kept);
      low = All-take (λ (e : Mark). e.entered ≤ length shapes) n marks h.low;
      ordered = ordered_take marks n h.ordered;
    }

-- levels

pub levels_pushed : (facts : List Fact) (marks : List Mark) (m : Mark) → m.facts ≡ length facts → levels_of facts (marks ++ m ∷ []) ≡ levels_of facts marks ++ facts ∷ []
levels_pushed facts [] m e = ap (λ (fs : List Fact). fs ∷ []) (take_whole m.facts facts e)
levels_pushed facts (n ∷ marks) m e = ap (λ (ls : List (List Fact)). take n.facts facts ∷ ls) (levels_pushed facts marks m e)

pub levels_grown : (shapes : List Shape) (s : State) (more : List Fact) (marks : List Mark) → All (IsKept shapes s) marks → levels_of (s.facts.items ++ more) marks ≡ levels_of s.facts.items marks
levels_grown shapes s more [] h = refl
levels_grown shapes s more (m ∷ marks) h =
    let first = take_append m.facts s.facts.items more (All-head (IsKept shapes s) m marks h).inside.facts in
    let rest = levels_grown shapes s more marks (All-tail (IsKept shapes s) m marks h) in
    λ i. first i ∷ rest i

levels_less : (facts : List Fact) (k : ℕ) (marks : List Mark) → All (λ (m : Mark). m.facts ≤ k) marks → levels_of (take k facts) marks ≡ levels_of facts marks
levels_less facts k [] h = refl
levels_less facts k (m ∷ marks) h =
    let P : Mark → Type 0 = λ m. m.facts ≤ k in
    let first = take_split m.facts k facts (All-head P m marks h) in
    let rest = levels_less facts k marks (All-tail P m marks h) in
    λ i. first i ∷ rest i

take_levels : (facts : List Fact) (marks : List Mark) (n : ℕ) → levels_of facts (take n marks) ≡ take n (levels_of facts marks)
take_levels facts marks zero = refl
take_levels facts [] (suc n) = refl
take_levels facts (m ∷ marks) (suc n) = ap (λ (ls : List (List Fact)). take m.facts facts ∷ ls) (take_levels facts marks n)

pub levels_cut : (facts : List Fact) (marks : List Mark) (n : ℕ) (m : Mark) → All (λ e. IsBefore e m) (take n marks) → levels_of (take m.facts facts) (take n marks) ≡ take n (levels_of facts marks)
levels_cut facts marks n m before = levels_less facts m.facts (take n marks) (All-weaker (λ e. IsBefore e m) (λ (e : Mark). e.facts ≤ m.facts) (λ e b. b.facts) (take n marks) before) ∙ take_levels facts marks n

pub level_at : (facts : List Fact) (marks : List Mark) (n : ℕ) (m : Mark) → slice_get marks n ≡ Some m → slice_get (levels_of facts marks) n ≡ Some (take m.facts facts)
level_at facts [] n m h = absurd (no_some m h)
  where
    no_some : (m : Mark) → None ≡ Some m → ⊥
    no_some m h = cc
level_at facts (x ∷ marks) zero m h = ap (λ (o : Option Mark). map_facts o) h
  where
    map_facts : Option Mark → Option (List Fact)
    map_facts None = None
    map_facts (Some m) = Some (take m.facts facts)
level_at facts (x ∷ marks) (suc n) m h = level_at facts marks n m h

pub levels_length : (facts : List Fact) (marks : List Mark) → length (levels_of facts marks) ≡ length marks
levels_length facts [] = refl
levels_length facts (m ∷ marks) = ap suc (levels_length facts marks)

-- the node of a registered term
pub registered_node : (shapes : List Shape) (count n : ℕ) → All (IsKnown count) shapes → is_registered shapes n ≡ true → object n < count
registered_node [] count n known h = absurd (false≢true h)
registered_node (s ∷ shapes) count n known h =
    elim (or_cases (n == s.number) (is_registered shapes n) h) [
      | inl here ↦ subst (λ (k : ℕ). object k < count) (sym (eqb-true n s.number here)) (All-head (IsKnown count) s shapes known).node
      | inr there ↦ registered_node shapes count n (All-tail (IsKnown count) s shapes known) there
    ]

pub atom_below : (shapes : List Shape) (count : ℕ) (a : Atom) → All (IsKnown count) shapes → JoinsRegistered shapes a → IsAtomBelow count a
atom_below shapes count (Atom.Equal a b) known h = (registered_node shapes count a.0 known h.0, registered_node shapes count b.0 known h.1)
atom_below shapes count (Atom.Pred t) known h = registered_node shapes count t.0 known h
atom_below shapes count (Atom.Card s k) known h = absurd h
atom_below shapes count (Atom.Bound n) known h = absurd h
