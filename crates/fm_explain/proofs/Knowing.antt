-- That a bank knows an e-graph is kept by each step of a search.
use Rattle.std.proofs.Common.{◌≡◌, ℕ, Bool, true, false, cond, ◌<◌, List, [], ◌∷◌, ◌++◌, length, zero, suc, refl, arith, Option, Some, None, Result, Ok, Err, OnOk, OnErr, sym, subst, ap}
use Rattle.std.specs.Prelude.{slice_get}
use Rattle.std.specs.List.{All}
use Rattle.std.proofs.lemmas.List.Elements.{All-append, All-cons, All-nil, All-take, All-weaker}
use Rattle.std.proofs.lemmas.Option.{get_or_from_slice_get, slice_get_within}
use Rattle.fm_bank.specs.Closure.{Shape, shape_at}
use Rattle.fm_base.specs.declared.ids.AtomId.{AtomId}
use Rattle.fm_bank.specs.Interning.{Held as Bank, IsFront}
use Rattle.fm_bank.specs.Terms.{Term}
use Rattle.fm_bank.specs.declared.atom.Atom.{Atom}
use Rattle.fm_cong.specs.Held.{Held, ReadsLiteral, Registers, is_registered}
use Rattle.fm_cong.specs.declared.fact.Fact.{Fact}
use Rattle.fm_explain.specs.Explanations.{AreAtomsOf, AreTermsOf, IsKnownBy, term_of}
use Rattle.fm_explain.specs.Laws.{GoingBackKeeps, GrowingKeeps, NothingIsKnown, OpeningKeeps, ReadingKeeps, RegisteringKeeps, SettlingKeeps}

pub nothing_known : NothingIsKnown
nothing_known bank = record { terms = All-nil (λ (s : Shape). slice_get bank.terms s.number ≡ Some (term_of s)); atoms = All-nil (λ (f : Fact). slice_get bank.atoms f.lit.atom.0 ≡ Some f.atom); levels = All-nil (AreAtomsOf bank.atoms) }

shape_known : (terms : List Term) (n : ℕ) (o : Option Term) → slice_get terms n ≡ o → AreTermsOf terms (shape_at n o)
shape_known terms n None h = All-nil (λ (s : Shape). slice_get terms s.number ≡ Some (term_of s))
shape_known terms n (Some t) h =
    let P : Shape → Type 0 = λ s. slice_get terms s.number ≡ Some (term_of s) in
    All-cons P (record { number = n; symbol = t.symbol; args = t.args }) [] h (All-nil P)

registered_by : (b : Bool) (terms : List Term) (shapes : List Shape) (n : ℕ) → AreTermsOf terms shapes → AreTermsOf terms (cond b shapes (shapes ++ shape_at n (slice_get terms n)))
registered_by true terms shapes n h = h
registered_by false terms shapes n h = All-append (λ (s : Shape). slice_get terms s.number ≡ Some (term_of s)) shapes (shape_at n (slice_get terms n)) h (shape_known terms n (slice_get terms n) refl)

pub registering_keeps : RegisteringKeeps
registering_keeps g h bank n k r =
    record {
      terms = subst (AreTermsOf bank.terms) (sym r.shapes) (registered_by (is_registered g.shapes n) bank.terms g.shapes n k.terms);
      atoms = subst (AreAtomsOf bank.atoms) (sym r.facts) k.atoms;
      levels = subst (λ (ls : List (List Fact)). All (AreAtomsOf bank.atoms) ls) (sym r.levels) k.levels;
    }

atom_at : (atoms : List Atom) (n : ℕ) → n < length atoms → (a : Atom) × (slice_get atoms n ≡ Some a)
atom_at [] n lt = absurd (omega (arith, lt))
atom_at (a ∷ as') zero lt = (a, refl)
atom_at (a ∷ as') (suc n) lt = atom_at as' n (omega (arith, lt))

pub reading_keeps : ReadingKeeps
reading_keeps g h bank atom positive k lt r =
    let a = atom_at bank.atoms atom.0 lt in
    let f : Fact = record { lit = record { atom = atom; positive = positive }; atom = a.0 } in
    let P : Fact → Type 0 = λ f. slice_get bank.atoms f.lit.atom.0 ≡ Some f.atom in
    let new = r a.0 a.1 in
    record {
      terms = subst (AreTermsOf bank.terms) (sym (ap (λ (x : Held). x.shapes) new)) k.terms;
      atoms = subst (AreAtomsOf bank.atoms) (sym (ap (λ (x : Held). x.facts) new)) (All-append P g.facts (f ∷ []) k.atoms (All-cons P f [] a.1 (All-nil P)));
      levels = subst (λ (ls : List (List Fact)). All (AreAtomsOf bank.atoms) ls) (sym (ap (λ (x : Held). x.levels) new)) k.levels;
    }

front_at : {X : Type 0} → (xs ys : List X) (n : ℕ) (x : X) → IsFront xs ys → slice_get xs n ≡ Some x → slice_get ys n ≡ Some x
front_at {X = X} xs ys n x f h = subst (λ (zs : List X). slice_get zs n ≡ Some x) f.1 (at xs f.0 n h)
  where
    at : (xs more : List X) (n : ℕ) → slice_get xs n ≡ Some x → slice_get (xs ++ more) n ≡ Some x
    at [] more n h = absurd cc
    at (y ∷ ys) more zero h = h
    at (y ∷ ys) more (suc n) h = at ys more n h

pub growing_keeps : GrowingKeeps
growing_keeps g old new k terms atoms =
    let same : (facts : List Fact) → AreAtomsOf old.atoms facts → AreAtomsOf new.atoms facts = λ facts h. All-weaker (λ (f : Fact). slice_get old.atoms f.lit.atom.0 ≡ Some f.atom) (λ (f : Fact). slice_get new.atoms f.lit.atom.0 ≡ Some f.atom) (λ f h. front_at old.atoms new.atoms f.lit.atom.0 f.atom atoms h) facts h in
    record {
      terms = All-weaker (λ (s : Shape). slice_get old.terms s.number ≡ Some (term_of s)) (λ (s : Shape). slice_get new.terms s.number ≡ Some (term_of s)) (λ s h. front_at old.terms new.terms s.number (term_of s) terms h) g.shapes k.terms;
      atoms = same g.facts k.atoms;
      levels = All-weaker (AreAtomsOf old.atoms) (AreAtomsOf new.atoms) same g.levels k.levels;
    }

pub settling_keeps : SettlingKeeps
settling_keeps g h bank k e = record {
  terms = subst (AreTermsOf bank.terms) (sym (ap (λ (x : Held). x.shapes) e)) k.terms;
  atoms = subst (AreAtomsOf bank.atoms) (sym (ap (λ (x : Held). x.facts) e)) k.atoms;
  levels = subst (λ (ls : List (List Fact)). All (AreAtomsOf bank.atoms) ls) (sym (ap (λ (x : Held). x.levels) e)) k.levels;
}

pub opening_keeps : OpeningKeeps
opening_keeps g h bank k shapes facts levels =
    let P : List Fact → Type 0 = AreAtomsOf bank.atoms in
    record {
      terms = subst (AreTermsOf bank.terms) (sym shapes) k.terms;
      atoms = subst P (sym facts) k.atoms;
      levels = subst (λ (ls : List (List Fact)). All P ls) (sym levels) (All-append P g.levels (g.facts ∷ []) k.levels (All-cons P g.facts [] k.atoms (All-nil P)));
    }

pub going_back_keeps : GoingBackKeeps
going_back_keeps g h bank level k shapes facts levels =
    let P : List Fact → Type 0 = AreAtomsOf bank.atoms in
    record {
      terms = subst (AreTermsOf bank.terms) (sym shapes) k.terms;
      atoms = subst P (get_or_from_slice_get g.levels level h.facts h.facts facts) (k.levels level h.facts (slice_get_within g.levels level h.facts facts));
      levels = subst (λ (ls : List (List Fact)). All P ls) (sym levels) (All-take P level g.levels k.levels);
    }

-- after a call that registers a term, or reads a literal, whatever its answer
pub known_registering : {U E : Type 0} (r : Result U E) (g h : Held) (bank : Bank) (n : ℕ) → IsKnownBy g bank → OnOk r (Registers g h bank.terms n) → OnErr r (h ≡ g) → IsKnownBy h bank
known_registering (Ok u) g h bank n k ok err = registering_keeps g h bank n k ok
known_registering (Err e) g h bank n k ok err = subst (λ (x : Held). IsKnownBy x bank) (sym err) k

pub known_reading : {U E : Type 0} (r : Result U E) (g h : Held) (bank : Bank) (atom : AtomId) (positive : Bool) → IsKnownBy g bank → atom.0 < length bank.atoms → OnOk r (ReadsLiteral g h bank.atoms atom positive) → OnErr r (h ≡ g) → IsKnownBy h bank
known_reading (Ok u) g h bank atom positive k lt ok err = reading_keeps g h bank atom positive k lt ok
known_reading (Err e) g h bank atom positive k lt ok err = subst (λ (x : Held). IsKnownBy x bank) (sym err) k
