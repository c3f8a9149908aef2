-- The terms on the paths of an explanation are terms of the bank.
use Rattle.std.proofs.Common.{◌≡◌, ℕ, zero, suc, ◌+◌, ◌<◌, Bool, true, false, List, [], ◌∷◌, ◌++◌, length, map, Option, Some, None, inl, inr, refl, sym, subst, arith}
use Rattle.std.specs.Prelude.{◌==◌, nat_le, slice_get}
use Rattle.std.specs.List.{All, Contains}
use Rattle.std.proofs.lemmas.Bool.{and_parts, eqb-true, false≢true, or_cases}
use Rattle.std.proofs.lemmas.List.Elements.{All-contains}
use Rattle.std.proofs.lemmas.Option.{slice_get_within}
use Rattle.fm_base.specs.Resolution.{Has}
use Rattle.fm_base.proofs.Resolution.{mapped_has}
use Rattle.fm_base.specs.declared.ids.TermId.{TermId}
use Rattle.fm_base.specs.declared.signature.Sig.{Sig}
use Rattle.fm_base.specs.declared.signature.Ty.{Ty}
use Rattle.fm_bank.specs.Closure.{Shape, no, object, yes}
use Rattle.fm_bank.specs.Interning.{Held, IsHeld, are_of_one_sort}
use Rattle.fm_bank.specs.Terms.{Term, are_terms, numbers, type_of}
use Rattle.fm_bank.specs.declared.atom.Atom.{Atom}
use Rattle.fm_bank.proofs.Meanings.{typed_within}
use Rattle.fm_cells.specs.Forest.{link_of}
use Rattle.fm_cells.specs.Members.{is_on}
use Rattle.fm_cells.specs.declared.edge.Cause.{Cause}
use Rattle.fm_cells.specs.declared.edge.Edge.{Edge}
use Rattle.fm_cong.specs.Explained.{IsExplained}
use Rattle.fm_cong.specs.Facts.{sides}
use Rattle.fm_cong.specs.Held.{Held as Graph}
use Rattle.fm_cong.specs.Held.{link_held}
use Rattle.fm_cong.specs.declared.fact.Fact.{Fact}
use Rattle.fm_explain.specs.Explanations.{IsExplanation, IsKnownBy, term_of, truth_node}
use Rattle.fm_explain.specs.Meant.{IsNodeMeant, args_at, args_of, argument_nodes, nodes_of}
use Rattle.fm_explain.specs.declared.explaining.Explanation.{Explanation}
use Rattle.fm_rounds.proofs.Elements.{parts_of}
use Rattle.fm_rounds.proofs.Members.{any_in, in_either}
use Rattle.fm_steps.proofs.Due.{atom_step}
use Rattle.fm_steps.proofs.Lists.{Has-contains, Has-get, all_from}
use Rattle.fm_readers.specs.Shown.{IsAtom}
use Rattle.fm_readers.proofs.Graphs.{of_sorts}

-- the terms of an atom
pub equality_below : (held : Held) (a b : TermId) → IsAtom held (Atom.Equal a b) → (a.0 < length held.terms) × (b.0 < length held.terms)
equality_below held a b e =
    let one = of_sorts (type_of held.sig held.terms a.0) (type_of held.sig held.terms b.0) (and_parts (nat_le a.0 b.0) (are_of_one_sort (type_of held.sig held.terms a.0) (type_of held.sig held.terms b.0)) e).1 in
    (typed_within held.sig held.terms a.0 (Ty.Of one.0) one.1, typed_within held.sig held.terms b.0 (Ty.Of one.0) one.2)

pub predicate_below : (held : Held) (t : TermId) → IsAtom held (Atom.Pred t) → t.0 < length held.terms
predicate_below held t e = typed_within held.sig held.terms t.0 Ty.Bool e

-- arguments stand before their term
before_by : (sig : Sig) (terms : List Term) (n : ℕ) (o : Option Term) (k : ℕ) → are_terms sig terms ≡ true → slice_get terms n ≡ o → Has (args_of o) k → k < n × (n < length terms)
before_by sig terms n None k good e h = absurd h
before_by sig terms n (Some t) k good e h = ((parts_of sig terms n t good e).before k h, slice_get_within terms n t e)

pub args_before : (sig : Sig) (terms : List Term) (n k : ℕ) → are_terms sig terms ≡ true → Has (args_of (slice_get terms n)) k → k < n × (n < length terms)
args_before sig terms n k good h = before_by sig terms n (slice_get terms n) k good refl h

-- a node of a term of the list, or yes or no
abbrev pub IsNode : List Term → ℕ → Type 0
IsNode terms x = x < length terms + 2

pub truth_is_node : (terms : List Term) (truth : Bool) → IsNode terms (truth_node truth)
truth_is_node terms true = omega arith
truth_is_node terms false = omega arith

args_below : (sig : Sig) (terms : List Term) (e k : ℕ) → are_terms sig terms ≡ true → Has (args_at terms e) k → k < length terms
args_below sig terms zero k good h = absurd h
args_below sig terms (suc zero) k good h = absurd h
args_below sig terms (suc (suc n)) k good h = (let p = args_before sig terms n k good h in let lt = p.0 in let le = p.1 in omega (arith, lt, le))

joined_nodes : (held : Held) (a : Atom) (positive : Bool) (p : ℕ × ℕ) → IsAtom held a → sides a positive ≡ Some p → IsNode held.terms p.0 × IsNode held.terms p.1
joined_nodes held (Atom.Equal a b) true p is e =
    let low = equality_below held a b is in
    let la = low.0 in
    let lb = low.1 in
    let same : (object a.0, object b.0) ≡ p = cc e in
    subst (λ (q : ℕ × ℕ). IsNode held.terms q.0 × IsNode held.terms q.1) same (omega (arith, la), omega (arith, lb))
joined_nodes held (Atom.Equal a b) false p is e = cc e
joined_nodes held (Atom.Pred t) true p is e =
    let low = predicate_below held t is in
    let same : (object t.0, yes) ≡ p = cc e in
    subst (λ (q : ℕ × ℕ). IsNode held.terms q.0 × IsNode held.terms q.1) same (omega (arith, low), omega arith)
joined_nodes held (Atom.Pred t) false p is e =
    let low = predicate_below held t is in
    let same : (object t.0, no) ≡ p = cc e in
    subst (λ (q : ℕ × ℕ). IsNode held.terms q.0 × IsNode held.terms q.1) same (omega (arith, low), omega arith)
joined_nodes held (Atom.Card s k) positive p is e = cc e
joined_nodes held (Atom.Bound n) positive p is e = cc e

module _ (held : Held) (good : IsHeld held.sig held.terms held.atoms) where
  pub atom_at : (n : ℕ) (a : Atom) → slice_get held.atoms n ≡ Some a → IsAtom held a
  atom_at n a at = atom_step held.sig held.terms [] held.atoms a good.atoms_good (Has-get held.atoms n a at)

  module _ (g : Graph) (known : IsKnownBy g held) where
    pub fact_atom : (f : Fact) → Contains g.facts f → IsAtom held f.atom
    fact_atom f c = atom_at f.lit.atom.0 f.atom (All-contains (λ (f : Fact). slice_get held.atoms f.lit.atom.0 ≡ Some f.atom) g.facts f known.atoms c)

    shape_node : (s : Shape) (x : ℕ) → Contains g.shapes s → x ≡ object s.number → IsNode held.terms x
    shape_node s x c e =
        let at = All-contains (λ (s : Shape). slice_get held.terms s.number ≡ Some (term_of s)) g.shapes s known.terms c in
        let lt = slice_get_within held.terms s.number (term_of s) at in
        omega (arith, lt, e)

    module _ (links : List (Option Edge)) (explained : IsExplained g links) where
      ends_by : (e : ℕ) (l : Edge) (c : Cause) → link_of links e ≡ Some l → l.cause ≡ c → IsNode held.terms e × IsNode held.terms l.to
      ends_by e l (Cause.Fact lit) at is =
          let j = explained.literals e l lit at is in
          let atom = fact_atom j.fact j.read in
          elim j.sides_are [
            | inl s ↦ joined_nodes held j.fact.atom j.fact.lit.positive (e, l.to) atom s
            | inr s ↦ (let p = joined_nodes held j.fact.atom j.fact.lit.positive (l.to, e) atom s in (p.1, p.0))
          ]
      ends_by e l Cause.Congruence at is =
          let j = explained.congruences e l at is in
          (shape_node j.left e j.left_in j.u_is, shape_node j.right l.to j.right_in j.v_is)

      argument_node : (ks : List ℕ) (x : ℕ) → ((k : ℕ) → Has ks k → k < length held.terms) → Has (map (λ s. object s) ks) x → IsNode held.terms x
      argument_node ks x low h =
          let w = mapped_has (λ s. object s) ks x h in
          let lt = low w.lit w.has in
          let is = w.is in
          omega (arith, lt, is)

      arguments_by : (c : Cause) (e to x : ℕ) → is_on (argument_nodes c (args_at held.terms e) (args_at held.terms to)) x ≡ true → IsNode held.terms x
      arguments_by (Cause.Fact lit) e to x h = absurd (false≢true h)
      arguments_by Cause.Congruence e to x h =
          let left = args_at held.terms e in
          let right = args_at held.terms to in
          let nodes = map (λ s. object s) left ++ map (λ s. object s) right in
          let w = any_in (λ y. x == y) nodes h in
          let there : Has nodes x = subst (Has nodes) (sym (eqb-true x w.0 w.2)) w.1 in
          elim (in_either x (map (λ s. object s) left) (map (λ s. object s) right) there) [
            | inl q ↦ argument_node left x (λ k i. args_below held.sig held.terms e k good.terms_good i) q
            | inr q ↦ argument_node right x (λ k i. args_below held.sig held.terms to k good.terms_good i) q
          ]

      link_node : (e : ℕ) (o : Option Edge) (x : ℕ) → link_of links e ≡ o → is_on (nodes_of held.terms e o) x ≡ true → IsNode held.terms x
      link_node e None x at h = absurd (false≢true h)
      link_node e (Some l) x at h =
          let ends = ends_by e l l.cause at refl in
          let rest = argument_nodes l.cause (args_at held.terms e) (args_at held.terms l.to) in
          elim (or_cases (x == e) (is_on (l.to ∷ rest) x) h) [
            | inl s ↦ subst (IsNode held.terms) (sym (eqb-true x e s)) ends.0
            | inr r ↦ elim (or_cases (x == l.to) (is_on rest x) r) [
              | inl s ↦ subst (IsNode held.terms) (sym (eqb-true x l.to s)) ends.1
              | inr q ↦ arguments_by l.cause e l.to x q
            ]
          ]

      -- so each node meant is one, where the two ends are
      module _ (a b : ℕ) (left : IsNode held.terms a) (right : IsNode held.terms b) where
        node_meant : (x : ℕ) → IsNodeMeant held.terms (link_of links) a b x → IsNode held.terms x
        node_meant x (inl e) = subst (IsNode held.terms) (sym e) left
        node_meant x (inr (inl e)) = subst (IsNode held.terms) (sym e) right
        node_meant x (inr (inr m)) = link_node m.e (link_of links m.e) x refl m.on

        pub support_below : (x : Explanation) → IsExplanation held (link_held g) a b x → All (λ n. n < length held.terms) (numbers x.support.items)
        support_below x is = all_from (λ n. n < length held.terms) (numbers x.support.items) (λ n h.
            let meant = (is.terms n).0 (Has-contains (numbers x.support.items) n h) in
            let low = node_meant (object n) (subst (λ (link : ℕ → Option Edge). IsNodeMeant held.terms link a b (object n)) (sym explained.same) meant) in
            omega (arith, low))
