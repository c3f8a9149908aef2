-- Occurrences and renumbering at each constructor of a term.
use Rattle.std.proofs.Common.{◌≡◌, ℕ, ◌==◌, ◌||◌, Bool, List, [], ◌∷◌, map, ap, refl, ◌∙◌}
use Rattle.std.specs.List.{list_any}
use Rattle.fm_base.specs.declared.ids.SymId.{SymId}
use Rattle.fm_base.specs.declared.formula.Pterm
use Rattle.fm_base.specs.declared.formula.Pterm.{Pterm}
use Rattle.fm_base.specs.declared.formula.Pterm.TheOpen.{Pterm-F}
use Rattle.fm_base.specs.declared.formula.Pterm.TheViews.{roll-Pterm}
use Rattle.fm_base.specs.declared.formula.Pterm.TheFolds.{fold-roll-Pterm}
use Rattle.fm_clauses.specs.Narrow.{Renamed, all_renamed, any_of, occurs_in_term, occurs_step, renamed, renamed_step}
use Rattle.fm_nnf.specs.Places.{Occurs}

pub occurs_of_var : (v k : ℕ) → occurs_in_term (Pterm.Var v) k ≡ (v == k)
unfolding Pterm.roll-Pterm denote.Hole.Carrier.roll
occurs_of_var v k = ap (λ (t : Occurs). t k) (fold-roll-Pterm Occurs occurs_step (Pterm-F.Var v))

pub occurs_of_app : (f : SymId) (ts : List Pterm) (k : ℕ) → occurs_in_term (Pterm.App f ts) k ≡ list_any (λ (t : Occurs). t k) (map occurs_in_term ts)
unfolding Pterm.roll-Pterm denote.Hole.Carrier.roll
occurs_of_app f ts k = ap (λ (t : Occurs). t k) (fold-roll-Pterm Occurs occurs_step (Pterm-F.App f ts))

pub renamed_of_var : (v : ℕ) (g : ℕ → ℕ) → renamed (Pterm.Var v) g ≡ Pterm.Var (g v)
unfolding Pterm.roll-Pterm denote.Hole.Carrier.roll
renamed_of_var v g = ap (λ (t : Renamed). t g) (fold-roll-Pterm Renamed renamed_step (Pterm-F.Var v))

pub renamed_of_app : (f : SymId) (ts : List Pterm) (g : ℕ → ℕ) → renamed (Pterm.App f ts) g ≡ Pterm.App f (map (λ (t : Renamed). t g) (map renamed ts))
unfolding Pterm.roll-Pterm denote.Hole.Carrier.roll
renamed_of_app f ts g = ap (λ (t : Renamed). t g) (fold-roll-Pterm Renamed renamed_step (Pterm-F.App f ts))

each_at : (ts : List Pterm) (g : ℕ → ℕ) → map (λ (t : Renamed). t g) (map renamed ts) ≡ all_renamed ts g
each_at [] g = refl
each_at (t ∷ ts) g = ap (λ (us : List Pterm). renamed t g ∷ us) (each_at ts g)

pub renamed_app : (f : SymId) (ts : List Pterm) (g : ℕ → ℕ) → renamed (Pterm.App f ts) g ≡ Pterm.App f (all_renamed ts g)
renamed_app f ts g = renamed_of_app f ts g ∙ ap (λ (us : List Pterm). Pterm.App f us) (each_at ts g)

each_occurs : (ts : List Pterm) (k : ℕ) → list_any (λ (t : Occurs). t k) (map occurs_in_term ts) ≡ any_of occurs_in_term ts k
each_occurs [] k = refl
each_occurs (t ∷ ts) k = ap (λ (b : Bool). occurs_in_term t k || b) (each_occurs ts k)

pub occurs_app : (f : SymId) (ts : List Pterm) (k : ℕ) → occurs_in_term (Pterm.App f ts) k ≡ any_of occurs_in_term ts k
occurs_app f ts k = occurs_of_app f ts k ∙ each_occurs ts k
