-- The terms of an instance as they are gathered in a bank: those of its terms, one after the other.
use Rattle.std.specs.Prelude.{ℕ, List, map, Option}
use Rattle.std.specs.List.{flat_map}
use Rattle.fm_base.specs.declared.ids.SymId.{SymId}
use Rattle.fm_base.specs.declared.ids.TermId.{TermId}
use Rattle.fm_base.specs.declared.formula.Patom.{Patom}
use Rattle.fm_base.specs.declared.formula.Pterm.{Pterm}
use Rattle.fm_base.specs.declared.formula.Pterm.TheOpen.{Pterm-F}
use Rattle.fm_bank.specs.Instances.{all_there, find_applied}
use Rattle.fm_bank.specs.Interning.{Held}
use Rattle.fm_bank.specs.Terms.{number_found, numbers}
use Rattle.fm_bank.specs.declared.clause.Plit.{Plit}
use Rattle.fm_rounds.specs.InstanceTerms.{Subterms, atom_terms, clause_terms, subterms, subterms_step}

-- a term's number, where it is there, and the numbers of its subterms and its own
abbrev pub gathered : Pterm → Held → List TermId → Option ℕ × List ℕ
gathered t b subst = subterms t b.terms (numbers subst)

-- the same for a symbol applied to terms
abbrev pub applied : SymId → List Pterm → Held → List TermId → Option ℕ × List ℕ
applied f ts b subst = subterms_step (Pterm-F.App f (map subterms ts)) b.terms (numbers subst)

-- the number of each of these terms
abbrev pub all_numbered : List Pterm → Held → List TermId → List (Option ℕ)
all_numbered ts b subst = map (λ (t : Subterms). (t b.terms (numbers subst)).0) (map subterms ts)

-- the numbers of all their subterms and their own
abbrev pub all_gathered : List Pterm → Held → List TermId → List ℕ
all_gathered ts b subst = flat_map (λ (t : Subterms). (t b.terms (numbers subst)).1) (map subterms ts)

-- those of the terms of an atom, and of literals
abbrev pub atom_gathered : Patom → Held → List TermId → List ℕ
atom_gathered a b subst = atom_terms b.terms (numbers subst) a

abbrev pub literals_gathered : List Plit → Held → List TermId → List ℕ
literals_gathered lits b subst = clause_terms b.terms (numbers subst) lits

abbrev pub all_found : List (Option TermId) → List (Option ℕ)
all_found ns = map number_found ns

-- the number of a symbol applied to these, where they and it are there
abbrev pub found_applied : Held → SymId → List (Option TermId) → Option ℕ
found_applied b f ns = find_applied b.terms f.0 (all_there (all_found ns))
