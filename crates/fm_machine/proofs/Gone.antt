-- The graphs go back with a state that has gone back to a level.
use Rattle.std.proofs.Common.{◌≡◌, ℕ, ◌+◌, ◌<◌, true, false, List, [], ◌∷◌, length, refl, sym, ap, subst, ◌∙◌, arith}
use Rattle.std.proofs.lemmas.List.{append-nil}
use Rattle.fm_base.specs.declared.ids.Lit.{Lit}
use Rattle.fm_base.specs.declared.ids.Reader.{Reader}
use Rattle.fm_bank.specs.Interning.{Held, IsFront}
use Rattle.fm_bank.specs.declared.atom.Atom.{Atom}
use Rattle.fm_bank.proofs.Growing.{atoms_fronts}
use Rattle.fm_cong.specs.Held.{Held as Graph}
use Rattle.fm_readers.specs.Graphs.{GoesBack, HasRead, HasTerms, IsGraphOf, IsMore}
use Rattle.fm_readers.proofs.Graphs.{graphs_stay, how_many}
use Rattle.fm_sat.specs.Learning.{Steps}
use Rattle.fm_steps.specs.Facts.{AtomsAreKnown, HeadsAreWithin, TrailIsExplained}
use Rattle.fm_steps.specs.Offered.{raised}
use Rattle.fm_steps.specs.Rows.{LearnRow, Offer, TurnRow, after_learning}
use Rattle.fm_steps.specs.Sizes.{lit}
use Rattle.fm_steps.specs.State.{Clause, State, back_to, put, read_by, with_clause}
use Rattle.fm_steps.proofs.Closing.{each_known}
use Rattle.fm_steps.proofs.Known.{row_known}
use Rattle.fm_steps.proofs.Readers.{read_back}
use Rattle.fm_steps.proofs.Trails.{over_back}
use Rattle.fm_trail.specs.Trail.{head_of, implied, level_of, level_on, up_to}
use Rattle.fm_trail.specs.declared.entry.Entry.{Entry}
use Rattle.fm_trail.proofs.Going.{level_cut, level_on_most, level_push}
use Rattle.fm_trail.proofs.Levels.{levelled_front, within_back}
use Rattle.fm_machine.specs.Ties.{AreTied}
use Rattle.fm_machine.proofs.Chosen.{over_read}
use Rattle.fm_machine.proofs.Knowns.{all_known}
use Rattle.fm_machine.proofs.Staying.{take_front}

-- the same terms, more atoms, and what was read has gone back
pub record HasGone (level : ℕ) (s t : State) : Type 0 where
  pub sig : t.held.sig ≡ s.held.sig
  pub terms : t.held.terms ≡ s.held.terms
  pub atoms : IsFront s.held.atoms t.held.atoms
  pub read : (r : Reader) → read_by r t ≡ up_to level (read_by r s)

terms_same : (a b : Held) (n : ℕ) (g : Graph) → b.sig ≡ a.sig → b.terms ≡ a.terms → HasTerms a n g → HasTerms b n g
terms_same a b n g sig terms h =
    let is : record b { atoms = [] } ≡ record a { atoms = [] } = λ i. record { sig = sig i; terms = terms i; atoms = [] } in
    let bare : HasTerms (record a { atoms = [] }) n g = record { shapes = h.shapes; types = h.types; settled = h.settled } in
    let back = subst (λ (x : Held). HasTerms x n g) (sym is) bare in
    record { shapes = back.shapes; types = back.types; settled = back.settled }

module _ (level : ℕ) (s t : State) (known : AtomsAreKnown s) (explained : TrailIsExplained s) (gone : HasGone level s t) where
  gone_one : (r : Reader) (g g' : Graph) → IsGraphOf s.held (read_by r s) g → HasTerms t.held (length t.held.terms) g' → GoesBack t.held level g g' → IsGraphOf t.held (read_by r t) g'
  gone_one r g g' tied terms back =
      let more : IsMore s.held t.held = record { sig = gone.sig; terms = ([], append-nil s.held.terms ∙ sym gone.terms); atoms = gone.atoms } in
      let p = graphs_stay s.held t.held (read_by r s) g more (over_read s r known) tied in
      let levelled = levelled_front 0 s.trail.entries (head_of s.trail.heads r) explained.levels in
      record { terms = terms; read = subst (λ (es : List Entry). HasRead t.held.atoms es g') (sym (gone.read r)) (back (read_by r s) levelled p.1) }

  pub gone_tied : (g g' h h' : Graph) → AreTied s g h → HasTerms t.held (length t.held.terms) g' → GoesBack t.held level g g' → HasTerms t.held (length t.held.terms) h' → GoesBack t.held level h h' → AreTied t g' h'
  gone_tied g g' h h' tied gt gb ht hb = record {
    congruence = gone_one Reader.Congruence g g' tied.congruence gt gb;
    regions = gone_one Reader.Regions h h' tied.regions ht hb;
  }

-- both graphs have all terms of the state that has gone back
pub gone_terms : (level : ℕ) (s t : State) (g : Graph) → HasGone level s t → HasTerms s.held (length s.held.terms) g → HasTerms t.held (length t.held.terms) g
gone_terms level s t g gone h = subst (λ n. HasTerms t.held n g) (ap length (sym gone.terms)) (terms_same s.held t.held (length s.held.terms) g gone.sig gone.terms h)

-- levels open
pub levels_are : (s : State) (r : Reader) (g : Graph) (n : ℕ) → IsGraphOf s.held (read_by r s) g → n ≡ level_of (read_by r s) → n ≡ length g.levels
levels_are s r g n tied e = e ∙ sym (how_many s.held.atoms (read_by r s) g tied.read)

-- Turn, and Raise.
pub turn_gone : (s t : State) → TrailIsExplained s → t ≡ record (back_to 0 s) { free = true } → HasGone 0 s t
turn_gone s t explained e = record {
  sig = ap (λ (x : State). x.held.sig) e;
  terms = ap (λ (x : State). x.held.terms) e;
  atoms = ([], append-nil s.held.atoms ∙ sym (ap (λ (x : State). x.held.atoms) e));
  read = λ r. ap (read_by r) e ∙ read_back s r 0 explained;
}

pub raise_gone : (s t : State) → TrailIsExplained s → t ≡ raised s → HasGone 0 s t
raise_gone s t explained e = record {
  sig = ap (λ (x : State). x.held.sig) e;
  terms = ap (λ (x : State). x.held.terms) e;
  atoms = subst (IsFront s.held.atoms) (sym (ap (λ (x : State). x.held.atoms) e)) (atoms_fronts (lit true (Atom.Bound (s.bound + 1)) ∷ []) s.held.atoms);
  read = λ r. ap (read_by r) e ∙ read_back s r 0 explained;
}

pub turn_known : (s t : State) → AtomsAreKnown s → TrailIsExplained s → TurnRow s t → AtomsAreKnown t
turn_known s t known explained row =
    row_known (record { sig = s.held.sig; user = 0; clauses = [] }) (record { instances = 0; decisions = 0 }) s (each_known s).0 Offer.Turn t known explained row

pub raise_known : (s t : State) → AtomsAreKnown s → TrailIsExplained s → t ≡ raised s → AtomsAreKnown t
raise_known s t known explained e =
    let back : State = record (back_to 0 s) { bound = s.bound + 1; free = false } in
    let h : AtomsAreKnown back = record { trail = over_back (length s.held.atoms) s.trail.entries 0 explained.levels known.trail; clauses = known.clauses } in
    subst AtomsAreKnown (sym e) (all_known back (lit true (Atom.Bound (s.bound + 1)) ∷ []) h)

-- Learn.
put_read : (s : State) (r : Reader) (l : Lit) (n : ℕ) → HeadsAreWithin s → read_by r (put l n s) ≡ read_by r s
put_read s r l n within = take_front (head_of s.trail.heads r) s.trail.entries (implied s.trail.entries l n ∷ []) (within r)

back_within : (s : State) (level : ℕ) → HeadsAreWithin (back_to level s)
back_within s level = within_back s.trail.heads (length (up_to level s.trail.entries))

learnt_read : (s : State) (r : Reader) (n level : ℕ) (steps : Steps) (lits : Clause) (l : Lit) → TrailIsExplained s → read_by r (after_learning n steps lits l level s) ≡ up_to level (read_by r s)
learnt_read s r n level [] lits l explained = put_read (back_to level s) r l n (back_within s level) ∙ read_back s r level explained
learnt_read s r n level (st ∷ sts) lits l explained = put_read (with_clause lits (back_to level s)) r l (length s.clauses) (back_within s level) ∙ read_back s r level explained

learnt_held : (s : State) (n level : ℕ) (steps : Steps) (lits : Clause) (l : Lit) → (after_learning n steps lits l level s).held ≡ s.held
learnt_held s n level [] lits l = refl
learnt_held s n level (st ∷ sts) lits l = refl

learnt_level : (s : State) (n level : ℕ) (steps : Steps) (lits : Clause) (l : Lit) → TrailIsExplained s → level < level_on s.trail.entries l → level_of (after_learning n steps lits l level s).trail.entries ≡ level
learnt_level s n level steps lits l explained lower =
    let es = s.trail.entries in
    let most = level_on_most 0 es l explained.levels in
    let cut = level_cut 0 level es explained.levels (omega arith) (omega (arith, lower, most)) in
    by_steps steps (omega (arith, cut))
  where
    by_steps : (steps : Steps) → level_of (up_to level s.trail.entries) ≡ level → level_of (after_learning n steps lits l level s).trail.entries ≡ level
    by_steps [] e = (let p = level_push (up_to level s.trail.entries) (implied (up_to level s.trail.entries) l n) in omega (arith, p, e))
    by_steps (st ∷ sts) e = (let p = level_push (up_to level s.trail.entries) (implied (up_to level s.trail.entries) l (length s.clauses)) in omega (arith, p, e))

pub learn_gone : (s t : State) (n level : ℕ) → TrailIsExplained s → (r : LearnRow s n t) → level ≡ level_of t.trail.entries → HasGone level s t
learn_gone s t n level explained r e =
    let here = learnt_level s n r.level r.steps r.lits r.lit explained r.asserting.lower in
    let same : r.level ≡ level = sym here ∙ sym (ap (λ (x : State). level_of x.trail.entries) r.after) ∙ sym e in
    let held = ap (λ (x : State). x.held) r.after ∙ learnt_held s n r.level r.steps r.lits r.lit in
    record {
      sig = ap (λ (h : Held). h.sig) held;
      terms = ap (λ (h : Held). h.terms) held;
      atoms = ([], append-nil s.held.atoms ∙ sym (ap (λ (h : Held). h.atoms) held));
      read = λ q. ap (read_by q) r.after ∙ learnt_read s q n r.level r.steps r.lits r.lit explained ∙ ap (λ (m : ℕ). up_to m (read_by q s)) same;
    }

pub learn_known : (s t : State) (n : ℕ) → AtomsAreKnown s → TrailIsExplained s → LearnRow s n t → AtomsAreKnown t
learn_known s t n known explained row =
    row_known (record { sig = s.held.sig; user = 0; clauses = [] }) (record { instances = 0; decisions = 0 }) s (each_known s).0 (Offer.Learn n) t known explained row
