-- What a line makes, from what its function answers.
use Rattle.std.proofs.Common.{◌≡◌, ℕ, ◌+◌, Bool, true, false, List, [], ◌∷◌, ◌++◌, length, sym, ap, subst, ◌∙◌}
use Rattle.std.specs.Prelude.{Result, Ok, Err, IfOk, Some, slice_get}
use Rattle.std.specs.List.{list_all}
use Rattle.fm_base.specs.declared.ids.SortId.{SortId}
use Rattle.fm_base.specs.declared.ids.TermId.{TermId}
use Rattle.fm_base.specs.declared.signature.Sig.{Sig}
use Rattle.fm_base.specs.declared.signature.Ty.{Ty}
use Rattle.fm_bank.specs.Instances.{is_substitution}
use Rattle.fm_bank.specs.Interning.{Held}
use Rattle.fm_bank.specs.Terms.{is_type, numbers, Term, type_of}
use Rattle.fm_bank.specs.declared.clause.Clause.{Clause as FirstOrderClause}
use Rattle.fm_cert.specs.Lines.{Clause, Makes, Problem, more_than, some_equal}
use Rattle.fm_cert.specs.declared.block.Line.{Line}
use Rattle.fm_blocks.specs.Faults.{IsBadLine}
use Rattle.fm_blocks.specs.States.{HasInstance, IsOver, made_by}
use Rattle.fm_resolve.specs.Stores.{clauses_in}
use Rattle.fm_blocks.specs.declared.state.State.{State}
use Rattle.fm_resolve.proofs.StepLaws.{set_refl}

abbrev are_sorted : Sig → List Term → SortId → List TermId → Bool
are_sorted sig terms s ts = list_all (λ (n : ℕ). is_type (type_of sig terms n) (Ty.Of s)) (numbers ts)

pub cardinality_good : {E : Type 0} (r : Result Bool E) (old new : State) (table : List FirstOrderClause) (line : Line) (s : SortId) (k : ℕ) (ts : List TermId) → line ≡ Line.Cardinality s k ts → new.bank ≡ old.bank
    → IfOk r (λ b. b ≡ true → length ts ≡ k + 1) → IfOk r (λ b. b ≡ true → are_sorted old.bank.sig old.bank.terms s ts ≡ true) → IfOk r (λ b. b ≡ true → clauses_in new.store ≡ clauses_in old.store ++ (more_than s.0 k ∷ some_equal (numbers ts)) ∷ [])
    → IfOk r (λ b. b ≡ true → (p : Problem) → IsOver p old table → Makes p (made_by old) line (made_by new))
cardinality_good (Ok b) old new table line s k ts is bank count sorted clause = λ e p over.
    let c : Clause = more_than s.0 k ∷ some_equal (numbers ts) in
    let fits : are_sorted p.symbols old.bank.terms s ts ≡ true = subst (λ (sig : Sig). are_sorted sig old.bank.terms s ts ≡ true) over.symbols (sorted e) in
    subst (λ (l : Line). Makes p (made_by old) l (made_by new)) (sym is) (c, (count e, fits, set_refl c), λ i. record { terms = ap (λ (h : Held). h.terms) bank i; clauses = clause e i })
cardinality_good (Err x) old new table line s k ts is bank count sorted clause = tt

pub cardinality_bad : {E : Type 0} (r : Result Bool E) (old : State) (table : List FirstOrderClause) (line : Line) (s : SortId) (k : ℕ) (ts : List TermId) → line ≡ Line.Cardinality s k ts
    → IfOk r (λ b. b ≡ false → length ts ≡ k + 1 → are_sorted old.bank.sig old.bank.terms s ts ≡ true → ⊥)
    → IfOk r (λ b. b ≡ false → (p : Problem) → IsOver p old table → IsBadLine p (made_by old) line)
cardinality_bad (Ok b) old table line s k ts is bad = λ e p over after makes.
    let m : Makes p (made_by old) (Line.Cardinality s k ts) after = subst (λ (l : Line). Makes p (made_by old) l after) is makes in
    bad e m.1.0 (subst (λ (sig : Sig). are_sorted sig old.bank.terms s ts ≡ true) (sym over.symbols) m.1.1)
cardinality_bad (Err x) old table line s k ts is bad = tt

pub instance_bad : {E : Type 0} (r : Result Bool E) (old : State) (table : List FirstOrderClause) (line : Line) (i : ℕ) (ts : List TermId) → line ≡ Line.Instance i ts
    → IfOk r (λ b. b ≡ false → (lits : Clause) → HasInstance table old.bank i (numbers ts) lits → ⊥)
    → IfOk r (λ b. b ≡ false → (p : Problem) → IsOver p old table → IsBadLine p (made_by old) line)
instance_bad (Ok b) old table line i ts is bad = λ e p over after makes.
    let m : Makes p (made_by old) (Line.Instance i ts) after = subst (λ (l : Line). Makes p (made_by old) l after) is makes in
    let h = m.1 in
    let there : slice_get table i ≡ Some h.0 = ap (λ (cs : List FirstOrderClause). slice_get cs i) over.table ∙ h.2 in
    let fits : is_substitution old.bank.sig old.bank.terms h.0.vars (numbers ts) ≡ true = subst (λ (sig : Sig). is_substitution sig old.bank.terms h.0.vars (numbers ts) ≡ true) (sym over.symbols) h.3.0 in
    bad e h.1 (h.0, there, fits, h.3.1)
instance_bad (Err x) old table line i ts is bad = tt
