-- What a merge of two trees keeps from write to write, over the list of links.
use Rattle.std.proofs.Common.{◌≡◌, ℕ, ◌<◌, List, length, get_or, Option, Some, None, inl, inr, sym, subst, ap, ◌∙◌, arith, length-set, get_or-set_same, get_or-set_other}
use Rattle.std.specs.Prelude.{slice_set}
use Rattle.std.proofs.lemmas.Bool.Decides.{eqb_tells}
use Rattle.fm_cells.specs.Forest.{AreInOneTree, AreTrees, AreWithin, HasEnd, HasOneMore, HasOnePending, IsTurning, IsUp, height_of, link_of, merged, relinked, turned}
use Rattle.fm_cells.specs.declared.edge.Edge.{Edge}
use Rattle.fm_cells.proofs.Ways.{relinked_at, relinked_other}
use Rattle.fm_cells.proofs.Turning.{by_ends, one_tree, relinked_cases, turn_end, turn_next, turn_start, turn_step}
use Rattle.fm_cells.proofs.Pending.{pending_end, pending_start, pending_step}
use Rattle.fm_cells.proofs.Heights.{height_is}

written_at : (links : List (Option Edge)) (x : ℕ) (new : Edge) → x < length links → (z : ℕ) → link_of (slice_set links x (Some new)) z ≡ relinked (link_of links) x (Some new) z
written_at links x new lt z =
    elim (eqb_tells z x) [
      | inl same ↦ ap (λ (i : ℕ). get_or (slice_set links x (Some new)) i None) same.1 ∙ get_or-set_same links x (Some new) None lt ∙ sym (relinked_at (link_of links) x (Some new) z same.1)
      | inr other ↦ get_or-set_other links x z (Some new) None other.1 ∙ sym (relinked_other (link_of links) x (Some new) z other.0)
    ]

-- a write to the list is another link of one node
pub link_written : (links : List (Option Edge)) (x : ℕ) (new : Edge) → x < length links → relinked (link_of links) x (Some new) ≡ link_of (slice_set links x (Some new))
link_written links x new lt = λ i z. sym (written_at links x new lt z) i

within_written : (links : List (Option Edge)) (x : ℕ) (new : Edge) → x < length links → new.to < length links → AreWithin links → AreWithin (slice_set links x (Some new))
within_written links x new lt to h e l s =
    let long = length-set links x (Some new) in
    elim (relinked_cases (link_of links) x new e (Some l) (sym (written_at links x new lt e) ∙ s)) [
      | inl same ↦ let k : l ≡ new = cc same.1 in let t : l.to ≡ new.to = ap (λ (m : Edge). m.to) k in omega (arith, t, to, long)
      | inr other ↦ omega (arith, h e l other.1, long)
    ]

-- what a merge keeps from write to write
pub record IsHanging (old : List (Option Edge)) (class : ℕ → ℕ) (node : ℕ) (edge : Edge) (links : List (Option Edge)) (at : ℕ) (new : Edge) : Type 0 where
  pub turning : IsTurning (link_of links) class at new
  pub pending : HasOnePending (link_of old) (link_of links) node edge at new
  pub within : AreWithin links
  pub at_in : at < length links
  pub to_in : new.to < length links

pub hanging_start : (links : List (Option Edge)) (class : ℕ → ℕ) (node : ℕ) (edge : Edge) → node < length links → edge.to < length links → AreWithin links → AreTrees (link_of links) class → (class node ≡ class edge.to → ⊥) → IsHanging links (merged class node edge.to) node edge links node edge
hanging_start links class node edge lt to within trees differ =
    record {
      turning = turn_start (link_of links) class node edge trees differ;
      pending = pending_start (link_of links) node edge;
      within = within;
      at_in = lt;
      to_in = to;
    }

module _ (old : List (Option Edge)) (class : ℕ → ℕ) (node : ℕ) (edge : Edge) (links : List (Option Edge)) (at : ℕ) (new : Edge) (h : IsHanging old class node edge links at new) where
  pub hanging_step : (above : Edge) → link_of links at ≡ Some above → IsHanging old class node edge (slice_set links at (Some new)) above.to (turned at above)
  hanging_step above e =
      let same = link_written links at new h.at_in in
      let long = length-set links at (Some new) in
      record {
        turning = subst (λ (link : ℕ → Option Edge). IsTurning link class above.to (turned at above)) same (turn_step (link_of links) class at new h.turning above e);
        pending = subst (λ (link : ℕ → Option Edge). HasOnePending (link_of old) link node edge above.to (turned at above)) same (pending_step (link_of old) (link_of links) node edge at new h.pending above e);
        within = within_written links at new h.at_in h.to_in h.within;
        at_in = omega (arith, h.within at above e, long);
        to_in = omega (arith, h.at_in, long);
      }

  pub hanging_lower : (above : Edge) → link_of links at ≡ Some above → height_of (slice_set links at (Some new)) above.to < height_of links at
  hanging_lower above e =
      let next = turn_next (link_of links) class at new h.turning above e in
      let a = height_is links at h.turning.rest h.turning.top h.turning.onward in
      let way = subst (λ (link : ℕ → Option Edge). IsUp link above.to next.nodes h.turning.top) (link_written links at new h.at_in) next.way in
      let b = height_is (slice_set links at (Some new)) above.to next.nodes h.turning.top way in
      omega (arith, a, b, next.longer)

  pub hanging_trees : link_of links at ≡ None → AreTrees (link_of (slice_set links at (Some new))) class
  hanging_trees e = subst (λ (link : ℕ → Option Edge). AreTrees link class) (link_written links at new h.at_in) (turn_end (link_of links) class at new h.turning e)

  pub hanging_more : link_of links at ≡ None → HasOneMore (link_of old) (link_of (slice_set links at (Some new))) node edge
  hanging_more e = subst (λ (link : ℕ → Option Edge). HasOneMore (link_of old) link node edge) (link_written links at new h.at_in) (pending_end (link_of old) (link_of links) node edge at new h.pending e)

  pub hanging_within : AreWithin (slice_set links at (Some new))
  hanging_within = within_written links at new h.at_in h.to_in h.within

-- the same for all classes that the forest may have
abbrev pub IsHangingForAll : List (Option Edge) → ℕ → Edge → List (Option Edge) → ℕ → Edge → Type 0
IsHangingForAll old node edge links at new = (class : ℕ → ℕ) → AreTrees (link_of old) class → IsHanging old (merged class node edge.to) node edge links at new

pub all_start : (links : List (Option Edge)) (node : ℕ) (edge : Edge) → node < length links → edge.to < length links → AreWithin links → (AreInOneTree (link_of links) node edge.to → ⊥) → IsHangingForAll links node edge links node edge
all_start links node edge lt to within apart class trees = hanging_start links class node edge lt to within trees (λ e. apart (one_tree (link_of links) class trees node edge.to e))

-- and for those of the ends of its trees
pub by_end : (old : List (Option Edge)) (ended : (x : ℕ) → HasEnd (link_of old) x) (node : ℕ) (edge : Edge) (links : List (Option Edge)) (at : ℕ) (new : Edge) → IsHangingForAll old node edge links at new → IsHanging old (merged (λ x. (ended x).end) node edge.to) node edge links at new
by_end old ended node edge links at new h = h (λ x. (ended x).end) (by_ends (link_of old) ended)
