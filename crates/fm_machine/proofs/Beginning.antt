-- At the start the readers have read nothing.
use Rattle.std.proofs.Common.{◌≡◌, List, [], take, refl, sym, ap, subst, ◌∙◌}
use Rattle.fm_base.specs.declared.ids.Reader.{Reader}
use Rattle.fm_bank.specs.Interning.{Held}
use Rattle.fm_cong.specs.Held.{Held as Graph}
use Rattle.fm_readers.specs.Graphs.{IsGraphOf}
use Rattle.fm_steps.specs.Facts.{AtomsAreKnown}
use Rattle.fm_steps.specs.Start.{first_state}
use Rattle.fm_steps.specs.State.{Problem, State, read_by}
use Rattle.fm_steps.proofs.Starts.{Rest, first_clean, first_rest}
use Rattle.fm_trail.specs.Trail.{head_of, heads_at}
use Rattle.fm_trail.specs.declared.entry.Entry.{Entry}
use Rattle.fm_machine.specs.Ties.{AreTied}

none_read : (r : Reader) → ◌≡◌ {A = List Entry} (take (head_of (heads_at 0) r) []) []
none_read Reader.Congruence = refl
none_read Reader.Regions = refl
none_read Reader.Sum = refl
none_read Reader.Instances = refl

reads_nothing : (p : Problem) (r : Reader) → read_by r (first_state p) ≡ []
reads_nothing p r = ap (λ (x : Rest). take (head_of x.trail.heads r) x.trail.entries) (first_rest p) ∙ none_read r

pub starts_known : (p : Problem) (s : State) → s ≡ first_state p → AtomsAreKnown s
starts_known p s e = subst AtomsAreKnown (sym e) (first_clean p).atoms

graph_there : (p : Problem) (r : Reader) (bank : Held) (g : Graph) → bank ≡ (first_state p).held → IsGraphOf bank [] g → IsGraphOf (first_state p).held (read_by r (first_state p)) g
graph_there p r bank g e h = subst (λ (es : List Entry). IsGraphOf (first_state p).held es g) (sym (reads_nothing p r)) (subst (λ (b : Held). IsGraphOf b [] g) e h)

pub starts_tied : (p : Problem) (s : State) (bank other : Held) (g h : Graph) → s ≡ first_state p → bank ≡ s.held → IsGraphOf bank [] g → other ≡ s.held → IsGraphOf other [] h → AreTied s g h
starts_tied p s bank other g h e b gs o hs =
    let held = ap (λ (x : State). x.held) e in
    subst (λ (x : State). AreTied x g h) (sym e) (record {
      congruence = graph_there p Reader.Congruence bank g (b ∙ held) gs;
      regions = graph_there p Reader.Regions other h (o ∙ held) hs;
    })
