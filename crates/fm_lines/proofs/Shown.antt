-- The last lines: what a chain of resolutions gives stands among the clauses.
use Rattle.std.proofs.Common.{◌≡◌, ℕ, suc, Bool, true, false, not, ◌&&◌, List, [], ◌∷◌, ◌++◌, length, map, inl, refl, sym, ap, subst, ◌∙◌, slice_get, Some, None, append-nil}
use Rattle.std.specs.Prelude.{◌==◌}
use Rattle.std.proofs.lemmas.Bool.{and_parts, eqb-true}
use Rattle.fm_base.specs.Resolution.{Has, SameSet}
use Rattle.fm_base.specs.declared.ids.AtomId.{AtomId}
use Rattle.fm_base.proofs.Resolution.{has_mapped, mapped_has}
use Rattle.fm_bank.specs.Interning.{Held, IsHeld, find_atom}
use Rattle.fm_bank.specs.declared.atom.Atom.{Atom}
use Rattle.fm_bank.specs.declared.literal.Literal.{Literal}
use Rattle.fm_cert.specs.Claims.{ShowsLeast}
use Rattle.fm_cert.specs.Lines.{AreGoodLines, MakesClause, above, nothing, with_clause as with_made}
use Rattle.fm_cert.specs.declared.block.Line.{Line}
use Rattle.fm_rounds.proofs.Members.{any_in}
use Rattle.fm_sat.specs.Learning.{IsChainFrom, IsDerivation, Steps}
use Rattle.fm_steps.specs.Facts.{AreClausesOver}
use Rattle.fm_steps.specs.Lines.{Certified, clause_in, learnt_lines, literal_in, named_step}
use Rattle.fm_steps.specs.Sizes.{is_refuted_by, is_refuting}
use Rattle.fm_steps.specs.State.{Clause}
use Rattle.fm_steps.proofs.Bounded.{found_at}
use Rattle.fm_steps.proofs.Lists.{get_last}
use Rattle.fm_steps.proofs.Written.{good_append, got, has_place, one_line}
use Rattle.fm_trail.specs.Trail.{HasOneEntry, place_of}
use Rattle.fm_trail.specs.declared.entry.Entry.{Entry}
use Rattle.fm_trail.proofs.Literals.{place_at}
use Rattle.fm_trail.proofs.Places.{place_none}
use Rattle.fm_lines.specs.Ending.{AreLinesThatShow, GoesOnTo, HasEmpty, IsRefutingAt, made_by}
use Rattle.fm_lines.specs.Naming.{AreStepsOver}
use Rattle.fm_lines.proofs.Resolved.{chain_in, same_itself, steps_over, stored_named}

-- a clause that is this one as a set stands among them
abbrev HasSame : List Literal → List (List Literal) → Type 0
HasSame wanted clauses = (i : ℕ) × (clause : List Literal) × (slice_get clauses i ≡ Some clause) × SameSet clause wanted

same_named : (atoms : List Atom) (a b : Clause) → SameSet a b → SameSet (clause_in atoms a) (clause_in atoms b)
same_named atoms a b same m = (
  λ h. let w = mapped_has (literal_in atoms) a m h in subst (Has (clause_in atoms b)) w.is (has_mapped (literal_in atoms) b w.lit ((same w.lit).0 w.has)),
  λ h. let w = mapped_has (literal_in atoms) b m h in subst (Has (clause_in atoms a)) w.is (has_mapped (literal_in atoms) a w.lit ((same w.lit).1 w.has)),
)

module _ (held : Held) (cs : List Clause) (good : IsHeld held.sig held.terms held.atoms) (known : AreClausesOver (length held.atoms) cs) where
  pub chain_over : (n : ℕ) (steps : Steps) (end : Clause) → IsChainFrom cs n steps end → AreStepsOver (length held.atoms) steps
  chain_over n steps end from = steps_over (length held.atoms) cs known from.0 steps end (λ l has. known n from.0 l from.1 has) from.2

  chain_shown : (n : ℕ) (steps : Steps) (end : Clause) (c : Certified) (old : List Line) → IsChainFrom cs n steps end → AreGoodLines c nothing old (made_by held cs)
      → AreLinesThatShow c held.terms (old ++ learnt_lines held.atoms n steps) (HasSame (clause_in held.atoms end))
  chain_shown n [] end c old from lines = record {
    made = made_by held cs;
    good = subst (λ (ls : List Line). AreGoodLines c nothing ls (made_by held cs)) (sym (append-nil old)) lines;
    same_terms = refl;
    shown = (n, clause_in held.atoms from.0, stored_named held.atoms cs n from.0 from.1, same_named held.atoms from.0 end from.2);
  }
  chain_shown n (st ∷ sts) end c old from lines =
      let atoms = held.atoms in
      let before = made_by held cs in
      let clause = clause_in atoms end in
      let line = Line.Resolution n (map (named_step atoms) (st ∷ sts)) in
      let makes : MakesClause c before line clause = (λ none. absurd (cc none), (clause_in atoms from.0, stored_named atoms cs n from.0 from.1, chain_in held.sig held.terms atoms good.atoms_good cs known n from.0 from.1 (st ∷ sts) end from.2)) in
      record {
        made = with_made before clause;
        good = good_append c nothing old before (line ∷ []) (with_made before clause) lines (one_line c before line clause (with_made before clause) makes refl);
        same_terms = refl;
        shown = (length (map (clause_in atoms) cs), clause, get_last (map (clause_in atoms) cs) clause, same_itself clause);
      }

  empty_set : {X : Type 0} (xs : List X) → SameSet xs [] → xs ≡ []
  empty_set [] same = refl
  empty_set (x ∷ xs) same = absurd ((same x).0 (inl refl))

  pub refutation_shown : (n : ℕ) (steps : Steps) (old new : List Line) → IsChainFrom cs n steps [] → new ≡ old ++ learnt_lines held.atoms n steps → GoesOnTo held cs old new HasEmpty
  refutation_shown n steps old new from e c lines =
      let w = chain_shown n steps [] c old from lines in
      subst (λ (ls : List Line). AreLinesThatShow c held.terms ls HasEmpty) (sym e)
      (record { made = w.made; good = w.good; same_terms = w.same_terms; shown = (w.shown.0, w.shown.2 ∙ ap Some (empty_set w.shown.1 w.shown.3)) })

  pub least_shown : (es : List Entry) (bound place n : ℕ) (steps : Steps) (old new : List Line) → IsRefutingAt held.atoms es bound place → IsDerivation cs es place n steps → new ≡ old ++ learnt_lines held.atoms n steps
      → GoesOnTo held cs old new (λ ds. ShowsLeast ds (suc bound))
  least_shown es bound place n steps old new at d e c lines =
      let it : at.entry ≡ d.entry = cc (at.at, d.at) in
      let w = chain_shown n steps (d.entry.lit ∷ []) c old d.chain lines in
      let atom = got held.atoms at.entry.lit.atom.0 (Atom.Bound bound) (Atom.Bound 0) (found_at held.atoms (Atom.Bound bound) at.entry.lit.atom.0 at.atom) in
      let sign = at.negative in
      let named : literal_in held.atoms at.entry.lit ≡ above bound = λ i. record { positive = sign i; atom = atom i } in
      let named' : clause_in held.atoms (d.entry.lit ∷ []) ≡ above bound ∷ [] = ap (λ (x : Entry). clause_in held.atoms (x.lit ∷ [])) (sym it) ∙ ap (λ (l : Literal). l ∷ []) named in
      subst (λ (ls : List Line). AreLinesThatShow c held.terms ls (λ ds. ShowsLeast ds (suc bound))) (sym e)
      (record { made = w.made; good = w.good; same_terms = w.same_terms; shown = (w.shown.0, w.shown.1, w.shown.2, subst (λ (k : List Literal). SameSet w.shown.1 k) named' w.shown.3) })

  pub derivation_over : (es : List Entry) (place n : ℕ) (steps : Steps) → IsDerivation cs es place n steps → AreStepsOver (length held.atoms) steps
  derivation_over es place n steps d = chain_over n steps (d.entry.lit ∷ []) d.chain

-- the entry that makes an atom false at level 0 is the atom's one entry
pub refuting_at : (atoms : List Atom) (es : List Entry) (bound place : ℕ) (a : AtomId) → HasOneEntry es → find_atom atoms (Atom.Bound bound) ≡ Some a.0 → place_of es a ≡ Some place → is_refuted_by es (find_atom atoms (Atom.Bound bound)) ≡ true
    → IsRefutingAt atoms es bound place
refuting_at atoms es bound place a once found there refuted =
    let n = a.0 in
    let w = any_in (is_refuting n) es (subst (λ o. is_refuted_by es o ≡ true) found refuted) in
    let at = has_place es w.0 w.1 in
    let p = and_parts (w.0.lit.atom.0 == n && not w.0.lit.positive) (w.0.level == 0) w.2 in
    let q = and_parts (w.0.lit.atom.0 == n) (not w.0.lit.positive) p.0 in
    let atom = eqb-true w.0.lit.atom.0 n q.0 in
    let place_is : Some at.0 ≡ Some place = sym (place_at es a at.0 w.0 once at.1 atom) ∙ there in
    let same : at.0 ≡ place = cc place_is in
    record {
      entry = w.0;
      at = subst (λ i. slice_get es i ≡ Some w.0) same at.1;
      zero_level = eqb-true w.0.level 0 p.1;
      negative = is_false w.0.lit.positive q.1;
      atom = found ∙ ap Some (sym atom);
    }
  where
    is_false : (b : Bool) → not b ≡ true → b ≡ false
    is_false true e = absurd (cc e)
    is_false false e = refl

-- and it is there
pub refuting_there : (atoms : List Atom) (es : List Entry) (bound : ℕ) (a : AtomId) → find_atom atoms (Atom.Bound bound) ≡ Some a.0 → place_of es a ≡ None → is_refuted_by es (find_atom atoms (Atom.Bound bound)) ≡ true → ⊥
refuting_there atoms es bound a found none refuted =
    let n = a.0 in
    let w = any_in (is_refuting n) es (subst (λ o. is_refuted_by es o ≡ true) found refuted) in
    let at = has_place es w.0 w.1 in
    let p = and_parts (w.0.lit.atom.0 == n && not w.0.lit.positive) (w.0.level == 0) w.2 in
    let q = and_parts (w.0.lit.atom.0 == n) (not w.0.lit.positive) p.0 in
    place_none es a none at.0 w.0 at.1 (eqb-true w.0.lit.atom.0 n q.0)
