-- Resolutions over the first atoms, and under the atoms' own names.
use Rattle.std.proofs.Common.{◌≡◌, ℕ, ◌<◌, true, List, [], ◌∷◌, get_or, length, map, inl, inr, refl, ap, subst, ◌∙◌, slice_get, Some}
use Rattle.std.proofs.lemmas.Option.{slice_get-get_or, slice_get-map}
use Rattle.std.specs.Option.{option_map}
use Rattle.fm_base.specs.Resolution.{Chain, Resolves, SameSet, opposite}
use Rattle.fm_base.specs.declared.ids.Lit.{Lit}
use Rattle.fm_base.proofs.Resolution.{AllOf, AreNames, chain_named}
use Rattle.fm_bank.specs.Interning.{are_atoms_after}
use Rattle.fm_bank.specs.Terms.{Term}
use Rattle.fm_bank.specs.declared.atom.Atom.{Atom}
use Rattle.fm_bank.specs.declared.literal.Literal.{Literal}
use Rattle.fm_bank.proofs.Once.{one_atom}
use Rattle.fm_base.specs.declared.signature.Sig.{Sig}
use Rattle.fm_cert.specs.Lines.{opposite as other}
use Rattle.fm_sat.specs.Learning.{Steps}
use Rattle.fm_sat.proofs.Chains.{chain_of}
use Rattle.fm_steps.specs.Facts.{AreClausesOver}
use Rattle.fm_steps.specs.Lines.{clause_in, literal_in, named_step}
use Rattle.fm_steps.specs.State.{Clause}
use Rattle.fm_lines.specs.Laws.{LearnRowsAreKnown, LearntStepsAreKnown}
use Rattle.fm_lines.specs.Naming.{AreStepsOver}

abbrev pub IsOver : ℕ → Lit → Type 0
IsOver n l = l.atom.0 < n

resolvent_over : (n : ℕ) (a : Clause) (l : Lit) (b r : Clause) → AllOf (IsOver n) a → AllOf (IsOver n) b → Resolves opposite a l b r → AllOf (IsOver n) r
resolvent_over n a l b r ofa ofb res k has = elim ((res.exactly k).0 has) [ inl old ↦ ofa k old.0 | inr new ↦ ofb k new.0 ]

-- each literal that is resolved stands in a clause
pub steps_over : (n : ℕ) (cs : List Clause) → AreClausesOver n cs → (now : Clause) (steps : Steps) (end : Clause) → AllOf (IsOver n) now → Chain opposite cs now steps end → AreStepsOver n steps
steps_over n cs h now [] end of' chain step has = absurd has
steps_over n cs h now (s ∷ ss) end of' (b, next, stored, res, rest) step (inl e) = subst (λ (x : Lit × ℕ). x.0.atom.0 < n) e (of' s.0 res.stands)
steps_over n cs h now (s ∷ ss) end of' (b, next, stored, res, rest) step (inr more) = steps_over n cs h next ss end (resolvent_over n now s.0 b next of' (λ l has. h s.1 b l stored has) res) rest step more

pub learnt_known : LearntStepsAreKnown
learnt_known s n steps lits known from =
    steps_over (length s.held.atoms) s.clauses known.clauses from.0 steps lits (λ l has. known.clauses n from.0 l from.1 has)
    (chain_of 1 s.clauses s.trail.entries from.0 steps lits from.2)

pub rows_known : LearnRowsAreKnown
rows_known s n t known r = learnt_known s n r.steps r.lits known r.learnt

-- numbered literals under their atoms
names : (sig : Sig) (terms : List Term) (atoms : List Atom) → are_atoms_after sig terms [] atoms ≡ true → AreNames (literal_in atoms) opposite other (IsOver (length atoms))
names sig terms atoms good = record {
  signs = λ l. refl;
  apart = λ k l bk bl e.
      let none = Atom.Bound 0 in
      let same : get_or atoms k.atom.0 none ≡ get_or atoms l.atom.0 none = ap (λ (x : Literal). x.atom) e in
      let number : k.atom.0 ≡ l.atom.0 = one_atom sig terms atoms good k.atom.0 l.atom.0 (get_or atoms l.atom.0 none) (slice_get-get_or atoms k.atom.0 none bk ∙ ap Some same) (slice_get-get_or atoms l.atom.0 none bl) in
      let sign : k.positive ≡ l.positive = ap (λ (x : Literal). x.positive) e in
      λ i. record { atom = record { 0 = number i }; positive = sign i };
  closed = λ l b. b;
}

pub stored_named : (atoms : List Atom) (cs : List Clause) (n : ℕ) (k : Clause) → slice_get cs n ≡ Some k → slice_get (map (clause_in atoms) cs) n ≡ Some (clause_in atoms k)
stored_named atoms cs n k e = slice_get-map (clause_in atoms) cs n ∙ ap (option_map (clause_in atoms)) e

pub same_itself : {X : Type 0} (xs : List X) → SameSet xs xs
same_itself xs k = (λ h. h, λ h. h)

pub chain_in : (sig : Sig) (terms : List Term) (atoms : List Atom) → are_atoms_after sig terms [] atoms ≡ true → (cs : List Clause) → AreClausesOver (length atoms) cs → (n : ℕ) (start : Clause) → slice_get cs n ≡ Some start → (steps : Steps) (end : Clause)
    → Chain opposite cs start steps end → Chain other (map (clause_in atoms) cs) (clause_in atoms start) (map (named_step atoms) steps) (clause_in atoms end)
chain_in sig terms atoms good cs known n start at steps end chain =
    chain_named (literal_in atoms) opposite other (IsOver (length atoms)) (names sig terms atoms good) (λ i. i) cs (map (clause_in atoms) cs)
    (λ i k there. (λ l has. known i k l there has, (clause_in atoms k, stored_named atoms cs i k there, same_itself (clause_in atoms k)))) start steps end (λ l has. known n start l at has) chain
