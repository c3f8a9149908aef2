-- The tests that a graph gives are chosen as the machine chooses, and the graphs stay tied as atoms become known.
use Rattle.std.proofs.Common.{◌≡◌, ℕ, suc, ◌+◌, true, List, [], ◌∷◌, length, map, Option, Some, None, refl, sym, ap, subst, ◌∙◌, arith}
use Rattle.std.specs.Prelude.{slice_get}
use Rattle.std.specs.List.{flat_map, list_all}
use Rattle.std.proofs.lemmas.List.{append-nil}
use Rattle.fm_base.specs.declared.ids.Reader.{Reader}
use Rattle.fm_bank.specs.Interning.{is_atom, with_atoms}
use Rattle.fm_bank.specs.Tests.{Tests}
use Rattle.fm_bank.specs.declared.literal.Literal.{Literal}
use Rattle.fm_bank.proofs.Growing.{atoms_fronts}
use Rattle.fm_bank.specs.Terms.{numbers}
use Rattle.fm_base.specs.declared.ids.TermId.{TermId}
use Rattle.fm_cong.specs.Held.{Held as Graph}
use Rattle.fm_cong.specs.Tests.{AreTestsOf}
use Rattle.fm_region.specs.declared.picking.Pick.{Pick as SortPick}
use Rattle.fm_readers.specs.Graphs.{IsGraphOf, IsMore}
use Rattle.fm_readers.proofs.Agreeing.{tests_agree}
use Rattle.fm_readers.proofs.Classing.{picks_agree}
use Rattle.fm_readers.proofs.Graphs.{graphs_stay}
use Rattle.fm_state.specs.Stands.{pair_in, pick_in}
use Rattle.fm_steps.specs.Content.{classes_of}
use Rattle.fm_steps.specs.Facts.{AtomsAreKnown}
use Rattle.fm_steps.specs.Picks.{ArePicks, IsPick, IsPickAt, Settles, pick_literals}
use Rattle.fm_steps.specs.Sizes.{least_true, sort}
use Rattle.fm_steps.specs.State.{Pick, State, know_all, read_by}
use Rattle.fm_steps.proofs.Closing.{each_known}
use Rattle.fm_steps.proofs.Held.{picks_fit}
use Rattle.fm_steps.proofs.Tested.{picks_sorts}
use Rattle.fm_trail.specs.Trail.{AreOver, head_of}
use Rattle.fm_trail.proofs.Places.{get_front}
use Rattle.fm_machine.specs.Settling.{ArePicksBy, IsPickBy}
use Rattle.fm_machine.specs.Ties.{AreTied}
use Rattle.fm_readers.specs.Agreeing.{pair_in as read_pair, pick_in as picked_in}

pair_same : (o : Option (TermId × TermId)) → read_pair o ≡ pair_in o
pair_same None = refl
pair_same (Some p) = refl

pick_same : (p : Option SortPick) → picked_in p ≡ pick_in p
pick_same None = refl
pick_same (Some p) = ap (λ (o : Option (ℕ × ℕ)). Some (record { terms = numbers p.terms.items; pair = o })) (pair_same p.pair)

module _ (s : State) (h : Graph) (tied : IsGraphOf s.held (read_by Reader.Regions s) h) (t : Tests) (tests : AreTestsOf h t) where
  pick_by : (u : ℕ) (o : Option ℕ) (p : Option SortPick) → IsPickBy h (sort u) o p → IsPickAt t (classes_of s.held t (sort u)) o (pick_in p)
  pick_by u None p e = ap pick_in e
  pick_by u (Some k) p of = subst (IsPickAt t (classes_of s.held t (sort u)) (Some k)) (pick_same p) (picks_agree s.held (read_by Reader.Regions s) h t (sort u) k p tied tests of)

  picks_list : (v : ℕ) (ps : List (Option SortPick)) → v + length ps ≡ s.held.sig.sorts → ((i : ℕ) (p : Option SortPick) → slice_get ps i ≡ Some p → IsPick s t (v + i) (pick_in p)) → ArePicks s t v (map pick_in ps)
  picks_list v [] e each = (let z : v + 0 ≡ v = omega arith in sym z ∙ e)
  picks_list v (p ∷ ps) e each = (
    (let z : v + 0 ≡ v = omega arith in subst (λ n. IsPick s t n (pick_in p)) z (each 0 p refl)),
    picks_list (v + 1) ps (let z : v + 1 + length ps ≡ v + suc (length ps) = omega arith in z ∙ e)
        (λ i q at. (let z : v + suc i ≡ v + 1 + i = omega arith in subst (λ n. IsPick s t n (pick_in q)) z (each (suc i) q at))),
  )

  pub picks_are : (ps : List (Option SortPick)) → ArePicksBy s h ps → ArePicks s t 0 (map pick_in ps)
  picks_are ps a = picks_list 0 ps (let z : 0 + length ps ≡ length ps = omega arith in z ∙ a.count)
      (λ i p at. (let z : i ≡ 0 + i = omega arith in subst (λ n. IsPick s t n (pick_in p)) z (pick_by i (least_true s i) p (a.each i p at))))

-- by the tests of a state
pub are_picks : (s : State) (g h : Graph) (ps : List (Option SortPick)) → AreTied s g h → ArePicksBy s h ps → ArePicks s (each_known s).0.regions 0 (map pick_in ps)
are_picks s g h ps tied a =
    let k = each_known s in
    picks_are s h tied.regions k.0.regions ((tests_agree s.held (read_by Reader.Regions s) h k.0.regions tied.regions).1 k.1.regions) ps a

pub literals_fit : (s : State) (g h : Graph) (ps : List (Option SortPick)) → AreTied s g h → ArePicksBy s h ps → list_all (λ (l : Literal). is_atom s.held.sig s.held.terms l.atom) (flat_map pick_literals (map pick_in ps)) ≡ true
literals_fit s g h ps tied a = picks_fit s.held (map pick_in ps) (picks_sorts s (each_known s).0.regions (map pick_in ps) (are_picks s g h ps tied a))

pub settles : (s t : State) (g h : Graph) (ps : List (Option SortPick)) → AreTied s g h → ArePicksBy s h ps → t ≡ record (know_all (flat_map pick_literals (map pick_in ps)) s) { picks = map pick_in ps } → Settles s t
settles s t g h ps tied a after = record {
  known = (each_known s).0;
  is_known = (each_known s).1;
  picks = map pick_in ps;
  are_picks = are_picks s g h ps tied a;
  after = after;
}

-- Atoms become known, and nothing else changes for the graphs.
pub over_read : (s : State) (r : Reader) → AtomsAreKnown s → AreOver (length s.held.atoms) (read_by r s)
over_read s r known i e at = known.trail i e (get_front s.trail.entries (head_of s.trail.heads r) i e at).1

more : (s : State) (ls : List Literal) → IsMore s.held (record s.held { atoms = with_atoms s.held.atoms ls })
more s ls = record { sig = refl; terms = ([], append-nil s.held.terms); atoms = atoms_fronts ls s.held.atoms }

graph_knows : (s : State) (r : Reader) (g : Graph) (ls : List Literal) → AtomsAreKnown s → IsGraphOf s.held (read_by r s) g → IsGraphOf (record s.held { atoms = with_atoms s.held.atoms ls }) (read_by r s) g
graph_knows s r g ls known tied = (let p = graphs_stay s.held (record s.held { atoms = with_atoms s.held.atoms ls }) (read_by r s) g (more s ls) (over_read s r known) tied in record { terms = p.0; read = p.1 })

pub stay_tied : (s t : State) (g h : Graph) (ls : List Literal) (ps : List (Option Pick)) → AtomsAreKnown s → AreTied s g h → t ≡ record (know_all ls s) { picks = ps } → AreTied t g h
stay_tied s t g h ls ps known tied after =
    subst (λ (x : State). AreTied x g h) (sym after) (record {
      congruence = graph_knows s Reader.Congruence g ls known tied.congruence;
      regions = graph_knows s Reader.Regions h ls known tied.regions;
    })
