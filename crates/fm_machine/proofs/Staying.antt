-- What the readers have read stays where a clause is added, atoms become known, or a literal is put on.
use Rattle.std.proofs.Common.{◌≡◌, ℕ, zero, suc, ◌≤◌, List, [], ◌∷◌, ◌++◌, length, take, refl, sym, ap, subst, ◌∙◌, arith, append_assoc}
use Rattle.std.proofs.lemmas.List.{append-nil}
use Rattle.fm_base.specs.declared.ids.Reader.{Reader}
use Rattle.fm_bank.specs.Interning.{Held, IsFront, with_atoms}
use Rattle.fm_bank.specs.declared.atom.Atom.{Atom}
use Rattle.fm_bank.specs.declared.literal.Literal.{Literal}
use Rattle.fm_bank.proofs.Growing.{atoms_fronts}
use Rattle.fm_cong.specs.Held.{Held as Graph}
use Rattle.fm_readers.specs.Graphs.{HasTerms, IsGraphOf, IsMore}
use Rattle.fm_readers.proofs.Graphs.{graphs_stay}
use Rattle.fm_steps.specs.Facts.{AtomsAreKnown, HeadsAreWithin}
use Rattle.fm_steps.specs.State.{State, Trail, read_by}
use Rattle.fm_trail.specs.Trail.{head_of}
use Rattle.fm_trail.specs.declared.entry.Entry.{Entry}
use Rattle.fm_machine.specs.Ties.{AreTied}
use Rattle.fm_machine.proofs.Chosen.{over_read}

-- the same terms, more atoms, and the same has been read
pub record KeepsReading (s t : State) : Type 0 where
  pub sig : t.held.sig ≡ s.held.sig
  pub terms : t.held.terms ≡ s.held.terms
  pub atoms : IsFront s.held.atoms t.held.atoms
  pub read : (r : Reader) → read_by r t ≡ read_by r s

graph_stays : (s t : State) (r : Reader) (g : Graph) → AtomsAreKnown s → KeepsReading s t → IsGraphOf s.held (read_by r s) g → IsGraphOf t.held (read_by r t) g
graph_stays s t r g known keeps tied =
    let more : IsMore s.held t.held = record { sig = keeps.sig; terms = ([], append-nil s.held.terms ∙ sym keeps.terms); atoms = keeps.atoms } in
    let p = graphs_stay s.held t.held (read_by r s) g more (over_read s r known) tied in
    subst (λ (es : List Entry). IsGraphOf t.held es g) (sym (keeps.read r)) (record { terms = subst (λ n. HasTerms t.held n g) (ap length (sym keeps.terms)) p.0; read = p.1 })

pub stays_tied : (s t : State) (g h : Graph) → AtomsAreKnown s → KeepsReading s t → AreTied s g h → AreTied t g h
stays_tied s t g h known keeps tied = record {
  congruence = graph_stays s t Reader.Congruence g known keeps tied.congruence;
  regions = graph_stays s t Reader.Regions h known keeps tied.regions;
}

pub take_front : (n : ℕ) (es more : List Entry) → n ≤ length es → take n (es ++ more) ≡ take n es
take_front zero es more le = refl
take_front (suc n) [] more le = absurd (omega (arith, le))
take_front (suc n) (e ∷ es) more le = ap (λ (xs : List Entry). e ∷ xs) (take_front n es more (omega (arith, le)))

-- a literal is put on
pub keeps_put : (s t : State) (e : Entry) → HeadsAreWithin s → t.held ≡ s.held → t.trail ≡ record { entries = s.trail.entries ++ e ∷ []; heads = s.trail.heads } → KeepsReading s t
keeps_put s t e heads held trail = record {
  sig = ap (λ (h : Held). h.sig) held;
  terms = ap (λ (h : Held). h.terms) held;
  atoms = ([], append-nil s.held.atoms ∙ ap (λ (h : Held). h.atoms) (sym held));
  read = λ r. ap (λ (tr : Trail). take (head_of tr.heads r) tr.entries) trail ∙ take_front (head_of s.trail.heads r) s.trail.entries (e ∷ []) (heads r);
}

-- atoms become known, whatever else is added
pub keeps_known : (s t : State) (ls : List Literal) → t.held ≡ record s.held { atoms = with_atoms s.held.atoms ls } → t.trail ≡ s.trail → KeepsReading s t
keeps_known s t ls held trail = record {
  sig = ap (λ (h : Held). h.sig) held;
  terms = ap (λ (h : Held). h.terms) held;
  atoms = subst (IsFront s.held.atoms) (ap (λ (h : Held). h.atoms) (sym held)) (atoms_fronts ls s.held.atoms);
  read = λ r. ap (λ (tr : Trail). take (head_of tr.heads r) tr.entries) trail;
}

pub keeps_both : (s m t : State) → KeepsReading s m → KeepsReading m t → KeepsReading s t
keeps_both s m t a b = record {
  sig = b.sig ∙ a.sig;
  terms = b.terms ∙ a.terms;
  atoms = (a.atoms.0 ++ b.atoms.0, (sym (append_assoc s.held.atoms a.atoms.0 b.atoms.0) ∙ ap (λ (xs : List Atom). xs ++ b.atoms.0) a.atoms.1 ∙ b.atoms.1));
  read = λ r. b.read r ∙ a.read r;
}
