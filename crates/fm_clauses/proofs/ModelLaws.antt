-- Models and expansions.
use Rattle.std.proofs.Common.{◌≡◌, zero, suc, true, List, [], ◌∷◌, refl, arith}
use Rattle.std.specs.List.{All}
use Rattle.fm_base.specs.Interpretations.{Reading}
use Rattle.fm_base.specs.Truth.{truth, is_closed}
use Rattle.fm_base.specs.declared.signature.Sig.{Sig}
use Rattle.fm_base.specs.declared.formula.Formula.{Formula}
use Rattle.fm_nnf.specs.LiftLaw.{AllHold}
use Rattle.fm_clauses.specs.TableLaw.{ModelsAreExpansions, ModelsExpand, TablesHaveShape}
use Rattle.fm_clauses.proofs.Tables.{AllClosed, table_expands, table_holds}

rest : {X : Type 0} (P : X → Type 0) (x : X) (xs : List X) → All P (x ∷ xs) → All P xs
rest P x xs h = λ k d lt. h (suc k) d (omega arith)

holds_from : (m : Reading) (fs : List Formula) → All (λ f. truth f m [] ≡ true) fs → AllHold m fs
holds_from m [] h = tt
holds_from m (f ∷ fs) h = (h zero f (omega arith), holds_from m fs (rest (λ (g : Formula). truth g m [] ≡ true) f fs h))

cons_to : {X : Type 0} (P : X → Type 0) (x : X) (xs : List X) → P x → All P xs → All P (x ∷ xs)
cons_to P x xs h t zero d lt = h
cons_to P x xs h t (suc k) d lt = t k d (omega arith)

holds_to : (m : Reading) (fs : List Formula) → AllHold m fs → All (λ f. truth f m [] ≡ true) fs
holds_to m [] h = λ k d lt. absurd (omega arith)
holds_to m (f ∷ fs) h = cons_to (λ (g : Formula). truth g m [] ≡ true) f fs h.0 (holds_to m fs h.1)

pub closed_from : (sig : Sig) (fs : List Formula) → All (λ f. is_closed f sig ≡ true) fs → AllClosed sig fs
closed_from sig [] h = tt
closed_from sig (f ∷ fs) h = (h zero f (omega arith), closed_from sig fs (rest (λ (g : Formula). is_closed g sig ≡ true) f fs h))

pub models : ModelsAreExpansions
models sig assertions m closed is =
    let all = closed_from sig assertions closed in
    ((λ model. table_expands sig assertions m all is (holds_from m assertions model.satisfies)), λ e. record { interprets = is; satisfies = holds_to m assertions (table_holds sig assertions m all e) })

pub expand : ModelsExpand
expand sig assertions m closed model = (models sig assertions m closed model.interprets).0 model

pub shape : TablesHaveShape
shape sig assertions = record { sorts = refl; symbols = refl; user = refl; clauses = refl }
