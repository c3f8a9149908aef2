-- The start as it is made: the terms first, then the clauses without variables.
use Rattle.std.specs.Prelude.{◌≡◌, ℕ, ◌-◌, Bool, true, not, List, [], ◌∷◌, length}
use Rattle.std.specs.List.{filter, list_any, range_with_len}
use Rattle.fm_base.specs.declared.signature.Sig.{Sig}
use Rattle.fm_bank.specs.Interning.{Held, literals_grown}
use Rattle.fm_bank.specs.Sorted.{is_sorted_clause}
use Rattle.fm_bank.specs.Terms.{Term, is_term}
use Rattle.fm_bank.specs.declared.clause.Clause.{Clause}
use Rattle.fm_rounds.specs.InstanceTerms.{is_term_of}

abbrev pub with_terms : Held → List Term → Held
with_terms held ts = record held { terms = ts }

-- none of the terms is of the sort, and how many such sorts there are
abbrev pub is_bare_in : Sig → List Term → ℕ → Bool
is_bare_in sig terms s = not (list_any (is_term_of sig s) terms)

abbrev pub bare_count_in : Sig → List Term → ℕ
bare_count_in sig terms = length (filter (is_bare_in sig terms) (range_with_len 0 sig.sorts))

-- the numbers from the first on, below the last
abbrev pub between : ℕ → ℕ → List ℕ
between first all = range_with_len first (all - first)

abbrev pub is_constant_in : Sig → ℕ → Bool
is_constant_in sig f = is_term sig [] (record { symbol = f; args = [] })

-- sorted clauses, each without variables with its terms registered
pub record IsRegistered (sig : Sig) (terms : List Term) (c : Clause) : Type 0 where
  pub sorted : is_sorted_clause sig c ≡ true
  pub there : length c.vars ≡ 0 → (literals_grown c.lits [] terms).0 ≡ terms

abbrev pub AreRegistered : Sig → List Term → List Clause → Type 0
AreRegistered sig terms [] = Unit {0}
AreRegistered sig terms (c ∷ cs) = IsRegistered sig terms c × AreRegistered sig terms cs
