-- The bank knows the terms and the facts of a graph.
use Rattle.std.proofs.Common.{◌≡◌, ℕ, List, Option, Some, None, refl, sym, ap, subst, ◌∙◌}
use Rattle.std.specs.Prelude.{slice_get}
use Rattle.std.specs.List.{range_with_len}
use Rattle.fm_base.specs.Resolution.{Has}
use Rattle.fm_base.proofs.Resolution.{mapped_has}
use Rattle.fm_base.specs.declared.ids.Lit.{Lit}
use Rattle.fm_bank.specs.Closure.{Shape, shape_at, shapes_of}
use Rattle.fm_bank.specs.Terms.{Term}
use Rattle.fm_bank.specs.declared.atom.Atom.{Atom}
use Rattle.fm_cong.specs.declared.fact.Fact.{Fact}
use Rattle.fm_explain.specs.Explanations.{AreAtomsOf, term_of}
use Rattle.fm_rounds.proofs.Members.{in_flat}
use Rattle.fm_steps.proofs.Lists.{all_from, only_one}
use Rattle.fm_trail.specs.Trail.{levels_of}
use Rattle.fm_trail.specs.declared.entry.Entry.{Entry}
use Rattle.fm_readers.specs.Agreeing.{BanksKnow}
use Rattle.fm_readers.specs.Graphs.{facts_read}
use Rattle.fm_readers.proofs.Reasons.{entry_of}

shape_known : (terms : List Term) (n : ℕ) (o : Option Term) (s : Shape) → slice_get terms n ≡ o → Has (shape_at n o) s → slice_get terms s.number ≡ Some (term_of s)
shape_known terms n None s e h = absurd h
shape_known terms n (Some t) s e h = (let same = only_one (record { number = n; symbol = t.symbol; args = t.args }) s h in subst (λ (x : Shape). slice_get terms x.number ≡ Some (term_of x)) same e)

shapes_known : (terms : List Term) (ns : List ℕ) (s : Shape) → Has (shapes_of terms ns) s → slice_get terms s.number ≡ Some (term_of s)
shapes_known terms ns s h = (let w = in_flat (λ n. shape_at n (slice_get terms n)) s ns h in shape_known terms w.0 (slice_get terms w.0) s refl w.2)

facts_known : (atoms : List Atom) (es : List Entry) → AreAtomsOf atoms (facts_read atoms es)
facts_known atoms es =
    all_from (λ (f : Fact). slice_get atoms f.lit.atom.0 ≡ Some f.atom) (facts_read atoms es)
    (λ f h. let w = entry_of atoms es f h in ap (λ (l : Lit). slice_get atoms l.atom.0) w.lit ∙ w.atom)

pub banks_know : BanksKnow
banks_know held n es g terms read = record {
  terms = all_from (λ (s : Shape). slice_get held.terms s.number ≡ Some (term_of s)) g.shapes (λ s h. shapes_known held.terms (range_with_len 0 n) s (subst (λ (ss : List Shape). Has ss s) terms.shapes h));
  atoms = subst (AreAtomsOf held.atoms) (sym read.facts) (facts_known held.atoms es);
  levels = all_from (AreAtomsOf held.atoms) g.levels (λ fs h.
      let w = mapped_has (facts_read held.atoms) (levels_of es) fs (subst (λ (ls : List (List Fact)). Has ls fs) read.levels h) in
      subst (AreAtomsOf held.atoms) w.is (facts_known held.atoms w.lit));
}
