-- What is asked of clauses that are searched, at worked problems: one whose constants are named, and one with a fresh constant.
use Rattle.std.proofs.Common.{◌≡◌, ℕ, zero, suc, ◌-◌, ◌&&◌, Bool, true, false, not, cond, List, [], ◌∷◌, length, map, Some, None, refl, sym, ap, subst, ◌∙◌}
use Rattle.std.specs.Prelude.{Option, drop, slice_get}
use Rattle.std.specs.List.{list_all, list_any}
use Rattle.fm_base.specs.Truth.{Sort, have_one_sort, is_of_sort, result_of}
use Rattle.fm_base.specs.declared.formula.Patom.{Patom}
use Rattle.fm_base.specs.declared.formula.Pterm
use Rattle.fm_base.specs.declared.formula.Pterm.{Pterm}
use Rattle.fm_base.specs.declared.formula.Pterm.TheFolds.{fold-roll-Pterm}
use Rattle.fm_base.specs.declared.formula.Pterm.TheOpen.{Pterm-F}
use Rattle.fm_base.specs.declared.ids.SortId.{SortId}
use Rattle.fm_base.specs.declared.ids.SymId.{SymId}
use Rattle.fm_base.specs.declared.signature.Rank.{Rank}
use Rattle.fm_base.specs.declared.signature.Sig.{Sig}
use Rattle.fm_base.specs.declared.signature.Ty.{Ty}
use Rattle.fm_bank.specs.GroundTerms.{ground_applied, ground_grown, number_more}
use Rattle.fm_bank.specs.Sorted.{is_sorted_clause, sort_of, sort_step}
use Rattle.fm_bank.specs.Terms.{Term}
use Rattle.fm_bank.specs.declared.clause.Clause.{Clause}
use Rattle.fm_bank.proofs.GroundGrowing.{ground_of_app, ground_of_var}
use Rattle.fm_bank.proofs.Lengths.{sort_of_var}
use Rattle.fm_rounds.specs.Fresh.{constant_of}
use Rattle.fm_rounds.specs.Grounds.{is_declared}
use Rattle.fm_rounds.specs.InstanceTerms.{clauses_ground_grown, is_bare, is_term_of}
use Rattle.fm_steps.specs.Searchable.{IsSearchable}
use Rattle.fm_steps.specs.State.{Problem}
use Rattle.fm_steps.proofs.Worked.{constant, differ, not_bare, rank, three, three_sig}

sort_of_app : (f : SymId) (ts : List Pterm) (sig : Sig) (scope : List SortId) → sort_of (Pterm.App f ts) sig scope ≡ result_of (map sort_of ts) (slice_get sig.ranks f.0) sig scope
unfolding Pterm.roll-Pterm denote.Hole.Carrier.roll
sort_of_app f ts sig scope = ap (λ (k : Sort). k sig scope) (fold-roll-Pterm Sort sort_step (Pterm-F.App f ts))

abbrev only : SortId
only = record { 0 = 0 }

-- three constants: none is fresh
differ_sorted : (a b : ℕ) → slice_get three_sig.ranks a ≡ Some rank → slice_get three_sig.ranks b ≡ Some rank → is_sorted_clause three_sig (differ a b) ≡ true
differ_sorted a b ea eb =
    let one : (f : ℕ) → slice_get three_sig.ranks f ≡ Some rank → sort_of (constant f) three_sig [] ≡ Some only = λ f e. sort_of_app (record { 0 = f }) [] three_sig [] ∙ ap (λ (o : Option Rank). result_of [] o three_sig []) e in
    let left = one a ea in
    let right = one b eb in
    λ i. have_one_sort (left i) (right i) && true

three_declared : (f : ℕ) (r : Rank) → slice_get three_sig.ranks f ≡ Some r → list_all is_declared r.args ≡ true
three_declared zero r e = let same : rank ≡ r = cc e in subst (λ (q : Rank). list_all is_declared q.args ≡ true) same refl
three_declared (suc zero) r e = let same : rank ≡ r = cc e in subst (λ (q : Rank). list_all is_declared q.args ≡ true) same refl
three_declared (suc (suc zero)) r e = let same : rank ≡ r = cc e in subst (λ (q : Rank). list_all is_declared q.args ≡ true) same refl
three_declared (suc (suc (suc f))) r e = absurd (cc e)

abbrev bare_one : Bool → List ℕ
bare_one b = cond b (0 ∷ []) []

pub three_searchable : IsSearchable three
three_searchable =
    let a = differ_sorted 0 1 refl refl in
    let b = differ_sorted 0 2 refl refl in
    let c = differ_sorted 1 2 refl refl in
    record {
      named = refl;
      declared = three_declared;
      sorted = (λ i. a i && (b i && (c i && true)));
      fresh = ap (λ (b : Bool). drop (3 - length (bare_one b)) three_sig.ranks) not_bare ∙ ap (λ (b : Bool). map constant_of (bare_one b)) (sym not_bare);
    }

-- a function without a fixed point: no term is ground, and symbol 1 is the fresh constant
abbrev moved_sig : Sig
moved_sig = record { sorts = 1; ranks = record { args = Ty.Of only ∷ []; result = Ty.Of only } ∷ (rank ∷ []) }

abbrev variable : Pterm
variable = Pterm.Var 0

abbrev image : Pterm
image = Pterm.App (record { 0 = 0 }) (variable ∷ [])

abbrev moves : Clause
moves = record { vars = only ∷ []; lits = record { positive = false; atom = Patom.Equal image variable } ∷ [] }

abbrev pub moved : Problem
moved = record { sig = moved_sig; user = 1; clauses = moves ∷ [] }

no_ground : clauses_ground_grown moved.clauses [] ≡ []
no_ground =
    ap (λ (g : List Term × Option ℕ). (ground_grown variable g.0).0) (ground_of_app (record { 0 = 0 }) (variable ∷ []) [] ∙ ap (λ (g : List Term × Option ℕ). ground_applied 0 g.0 (number_more g.1 (Some []))) (ground_of_var 0 []))
    ∙ ap (λ (g : List Term × Option ℕ). g.0) (ground_of_var 0 [])

is_bare_one : is_bare moved 0 ≡ true
is_bare_one = ap (λ (ts : List Term). not (list_any (is_term_of moved_sig 0) ts)) no_ground

moves_sorted : is_sorted_clause moved_sig moves ≡ true
moves_sorted =
    let one : sort_of variable moved_sig (only ∷ []) ≡ Some only = sort_of_var 0 moved_sig (only ∷ []) in
    let two : sort_of image moved_sig (only ∷ []) ≡ Some only = sort_of_app (record { 0 = 0 }) (variable ∷ []) moved_sig (only ∷ []) ∙ (λ i. cond (is_of_sort (one i) (Ty.Of only) && true) (Some only) None) in
    λ i. have_one_sort (two i) (one i) && true

moved_declared : (f : ℕ) (r : Rank) → slice_get moved_sig.ranks f ≡ Some r → list_all is_declared r.args ≡ true
moved_declared zero r e = let same : record { args = Ty.Of only ∷ []; result = Ty.Of only } ≡ r = cc e in subst (λ (q : Rank). list_all is_declared q.args ≡ true) same refl
moved_declared (suc zero) r e = let same : rank ≡ r = cc e in subst (λ (q : Rank). list_all is_declared q.args ≡ true) same refl
moved_declared (suc (suc f)) r e = absurd (cc e)

pub moved_searchable : IsSearchable moved
moved_searchable = record {
  named = refl;
  declared = moved_declared;
  sorted = ap (λ (b : Bool). b && true) moves_sorted;
  fresh = ap (λ (b : Bool). drop (2 - length (bare_one b)) moved_sig.ranks) is_bare_one ∙ ap (λ (b : Bool). map constant_of (bare_one b)) (sym is_bare_one);
}
