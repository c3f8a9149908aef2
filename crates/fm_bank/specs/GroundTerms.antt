-- Growth by the ground terms of a clause that may have variables: its ground subterms and ground predicate terms, the
-- arguments before their term, from left to right.
use Rattle.std.specs.Prelude.{◌≡◌, ℕ, true, List, [], ◌∷◌, map, Option, Some, None}
use Rattle.fm_base.specs.declared.signature.Sig.{Sig}
use Rattle.fm_base.specs.declared.formula.Patom.{Patom}
use Rattle.fm_base.specs.declared.formula.Pterm.{Pterm}
use Rattle.fm_base.specs.declared.formula.Pterm.TheOpen.{Pterm-F}
use Rattle.fm_base.specs.declared.formula.Pterm.TheFolds.{fold-Pterm}
use Rattle.fm_bank.specs.Instances.{with_number}
use Rattle.fm_bank.specs.Interning.{Held, after_instance, term_number, with_term}
use Rattle.fm_bank.specs.Sorted.{is_sorted_clause}
use Rattle.fm_bank.specs.Terms.{Term}
use Rattle.fm_bank.specs.declared.clause.Clause.{Clause}
use Rattle.fm_bank.specs.declared.clause.Plit.{Plit}

-- the terms afterwards, and the number of this one where it is ground
abbrev pub GroundGrown : Type 0
GroundGrown = List Term → List Term × Option ℕ

abbrev pub number_more : Option ℕ → Option (List ℕ) → Option (List ℕ)
number_more None ns = None
number_more (Some n) ns = with_number n ns

-- one term after the other, and the numbers where all are ground
abbrev pub all_ground : List GroundGrown → List Term → List Term × Option (List ℕ)
all_ground [] terms = (terms, Some [])
all_ground (t ∷ ts) terms =
    let one = t terms in
    let rest = all_ground ts one.0 in
    (rest.0, number_more one.1 rest.1)

-- a symbol applied to terms is ground where all of them are
abbrev pub ground_applied : ℕ → List Term → Option (List ℕ) → List Term × Option ℕ
ground_applied f terms None = (terms, None)
ground_applied f terms (Some args) =
    let t : Term = record { symbol = f; args = args } in
    (with_term terms t, Some (term_number terms t))

-- a variable isn't ground and brings nothing
abbrev pub ground_step : Pterm-F GroundGrown → GroundGrown
ground_step (Pterm-F.Var v) terms = (terms, None)
ground_step (Pterm-F.App f ts) terms =
    let args = all_ground ts terms in
    ground_applied f.0 args.0 args.1

abbrev pub ground_grown : Pterm → GroundGrown
ground_grown = fold-Pterm GroundGrown ground_step

-- the same for a list of terms, and for a symbol applied to them
abbrev pub terms_ground_grown : List Pterm → List Term → List Term × Option (List ℕ)
terms_ground_grown ts terms = all_ground (map ground_grown ts) terms

abbrev pub application_ground_grown : ℕ → List Pterm → GroundGrown
application_ground_grown f ts terms =
    let args = terms_ground_grown ts terms in
    ground_applied f args.0 args.1

-- the ground terms of a list, or of an application, have been put in, and these are their numbers where all are ground
abbrev pub PutsTerms : List Pterm → List Term → List Term → Option (List ℕ) → Type 0
PutsTerms ts old new found = terms_ground_grown ts old ≡ (new, found)

abbrev pub PutsApplied : ℕ → List Pterm → List Term → List Term → Option ℕ → Type 0
PutsApplied f ts old new found = application_ground_grown f ts old ≡ (new, found)

-- the terms after an atom and after literals
abbrev pub ground_atom_grown : Patom → List Term → List Term
ground_atom_grown (Patom.Pred p ts) terms = (application_ground_grown p.0 ts terms).0
ground_atom_grown (Patom.Equal a b) terms = (ground_grown b (ground_grown a terms).0).0

abbrev pub ground_literals_grown : List Plit → List Term → List Term
ground_literals_grown [] terms = terms
ground_literals_grown (l ∷ ls) terms = ground_literals_grown ls (ground_atom_grown l.atom terms)

-- what is held after the ground terms of a clause; the atoms stay
abbrev pub after_ground_terms : Held → List Plit → Held
after_ground_terms b lits = record { sig = b.sig; terms = ground_literals_grown lits b.terms; atoms = b.atoms }

-- a clause without variables gets the terms of its one instance
abbrev pub GroundClausesAgree : Type 0
GroundClausesAgree =
    (sig : Sig) (clause : Clause) (b : Held) → is_sorted_clause sig clause ≡ true → clause.vars ≡ []
    → (after_ground_terms b clause.lits).terms ≡ (after_instance b clause.lits []).terms
