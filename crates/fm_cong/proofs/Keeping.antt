-- What a call has to show of an e-graph between two calls.
use Rattle.std.proofs.Common.{◌≡◌, ℕ, Bool, ◌+◌, ◌<◌, ◌≤◌, List, [], ◌∷◌, ◌++◌, length, Some, sym, subst, ap, ◌∙◌, arith}
use Rattle.std.specs.Prelude.{slice_get}
use Rattle.std.proofs.lemmas.List.Elements.{All-push, All-weaker}
use Rattle.fm_bank.specs.Closure.{Shape}
use Rattle.fm_bank.specs.declared.atom.Atom.{Atom}
use Rattle.fm_base.specs.declared.ids.AtomId.{AtomId}
use Rattle.fm_cells.specs.Forest.{trimmed}
use Rattle.fm_cong.specs.Facts.{AreAtomsBelow, IsAtomBelow}
use Rattle.fm_cong.specs.Faithful.{IsFaithful, IsSound, held_in}
use Rattle.fm_cong.specs.Graphs.{cells_of}
use Rattle.fm_cong.specs.Held.{Held, IsReadable, IsRegistered, with_fact}
use Rattle.fm_cong.specs.Levels.{IsComplete, IsSteady, KeepsMarks, levels_of}
use Rattle.fm_cong.specs.States.{count_of}
use Rattle.fm_cong.specs.Tables.{AreUses}
use Rattle.fm_cong.specs.declared.egraph.Egraph.TheInside.{Inside}
use Rattle.fm_cong.specs.declared.fact.Fact.{Fact}
use Rattle.fm_cong.specs.declared.state.State.{State}
use Rattle.fm_cong.proofs.Holding.{atom_below, levels_grown, marks_kept, registered_node}

pub atoms_same : (m n : ℕ) (facts more : List Fact) → n ≡ m → more ≡ facts → AreAtomsBelow m facts → AreAtomsBelow n more
atoms_same m n facts more e p h = subst (λ k. AreAtomsBelow k more) (sym e) (subst (AreAtomsBelow m) (sym p) h)

pub atoms_read : (m n : ℕ) (facts more : List Fact) (fact : Fact) → n ≡ m → more ≡ facts ++ fact ∷ [] → IsAtomBelow m fact.atom → AreAtomsBelow m facts → AreAtomsBelow n more
atoms_read m n facts more fact e p here h = subst (λ k. AreAtomsBelow k more) (sym e) (subst (AreAtomsBelow m) (sym p) (All-push (λ (f : Fact). IsAtomBelow m f.atom) facts fact h here))

atom_more : (m n : ℕ) (a : Atom) → m ≤ n → IsAtomBelow m a → IsAtomBelow n a
atom_more m n (Atom.Equal a b) le h = (omega (arith, le, h.0), omega (arith, le, h.1))
atom_more m n (Atom.Pred t) le h = omega (arith, le, h)
atom_more m n (Atom.Card s k) le h = tt
atom_more m n (Atom.Bound k) le h = tt

pub atoms_more : (m n : ℕ) (facts more : List Fact) → m ≤ n → more ≡ facts → AreAtomsBelow m facts → AreAtomsBelow n more
atoms_more m n facts more le p h = subst (AreAtomsBelow n) (sym p) (All-weaker (λ (f : Fact). IsAtomBelow m f.atom) (λ (f : Fact). IsAtomBelow n f.atom) (λ f k. atom_more m n f.atom le k) facts h)

module _ (g : Inside) (f : IsFaithful g) where
  -- a state in its place that keeps each mark
  pub faithful_with : (t : State) (shapes : List Shape) → shapes ≡ g.members.items → IsSteady shapes (cells_of t) → t.waiting.items ≡ [] → t.entered ≤ length g.members.items → KeepsMarks g.state t → count_of t ≡ count_of g.state → AreAtomsBelow (count_of t) t.facts.items → IsSound g.members.items g.uses.items g.flags.items t g.marks.items
  faithful_with t shapes e steady quiet entered keeps nodes atoms =
      record {
        steady = subst (λ (ss : List Shape). IsSteady ss (cells_of t)) e steady;
        quiet = quiet;
        entered = entered;
        uses = f.uses;
        flags = f.flags;
        objects = omega (arith, f.objects, nodes);
        atoms = atoms;
        marks = marks_kept g.members.items g.state t g.marks.items keeps f.marks;
      }

  pub uses_lent : (shapes : List Shape) (uses : List (List ℕ)) → shapes ≡ g.members.items → uses ≡ g.uses.items → AreUses shapes uses
  uses_lent shapes uses p q = subst (λ (ss : List Shape). AreUses ss uses) (sym p) (subst (AreUses g.members.items) (sym q) f.uses)

  module _ (h : Held) (view : held_in g ≡ h) where
    pub registered_in : (n : ℕ) → IsRegistered h.shapes n → IsRegistered g.members.items n
    registered_in n r = subst (λ (k : Held). IsRegistered k.shapes n) (sym view) r

    pub node_in : (n : ℕ) → IsRegistered h.shapes n → n + 2 < count_of g.state
    node_in n r = registered_node g.members.items (count_of g.state) n f.steady.working.known (registered_in n r)

    pub atom_in : (atoms : List Atom) (atom : AtomId) (a : Atom) → slice_get atoms atom.0 ≡ Some a → IsReadable h.shapes atoms atom → IsAtomBelow (count_of g.state) a
    atom_in atoms atom a there r = atom_below g.members.items (count_of g.state) a f.steady.working.known (subst (λ (k : Held). IsReadable k.shapes atoms atom) (sym view) r a there)

    pub complete_in : h.entered ≡ length h.shapes → IsComplete g.members.items (cells_of g.state)
    complete_in e = record { steady = f.steady; all = subst (λ (k : Held). k.entered ≡ length k.shapes) (sym view) e }

    abbrev held_with : State → Held
    held_with t = record { shapes = g.members.items; types = g.types.items; facts = t.facts.items; levels = levels_of t.facts.items g.marks.items; entered = t.entered; links = trimmed t.links.cells.items }

    -- a literal more is read
    pub read_held : (t : State) (atom : AtomId) (positive : Bool) (a : Atom) (fact : Fact) → t.facts.items ≡ g.state.facts.items ++ fact ∷ [] → t.entered ≡ g.state.entered → fact.lit ≡ record { atom = atom; positive = positive } → fact.atom ≡ a → held_with t ≡ with_fact h (record { lit = record { atom = atom; positive = positive }; atom = a }) (trimmed t.links.cells.items)
    read_held t atom positive a fact facts entered lit is_a =
        let new : Fact = record { lit = record { atom = atom; positive = positive }; atom = a } in
        let read : t.facts.items ≡ g.state.facts.items ++ new ∷ [] = facts ∙ (λ i. g.state.facts.items ++ (record { lit = lit i; atom = is_a i }) ∷ []) in
        let levels : levels_of t.facts.items g.marks.items ≡ levels_of g.state.facts.items g.marks.items = ap (λ (fs : List Fact). levels_of fs g.marks.items) read ∙ levels_grown g.members.items g.state (new ∷ []) g.marks.items f.marks.kept in
        let made : held_with t ≡ with_fact (held_in g) new (trimmed t.links.cells.items) = λ i. record { shapes = g.members.items; types = g.types.items; facts = read i; levels = levels i; entered = entered i; links = trimmed t.links.cells.items } in
        made ∙ ap (λ (k : Held). with_fact k new (trimmed t.links.cells.items)) view
