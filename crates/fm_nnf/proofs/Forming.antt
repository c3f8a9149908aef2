-- What forms a normal form does, part by part.
use Rattle.std.proofs.Common.{◌≡◌, ℕ, ◌+◌, ◌<◌, ◌≤◌, Bool, true, ◌&&◌, ◌||◌, inl, inr, List, [], ◌∷◌, ◌++◌, length, map, ap, refl, sym, subst, ◌∙◌, arith, length-append}
use Rattle.std.specs.Prelude.{nat_lt}
use Rattle.std.specs.List.{list_all}
use Rattle.std.proofs.lemmas.Bool.{and_parts, and_from, or_cases, or_left, or_right, ltb-true, lt-ltb}
use Rattle.fm_base.specs.Interpretations.{Reading}
use Rattle.fm_base.specs.Models.{IsElements}
use Rattle.fm_base.specs.Truth.{Truth, all_true, some_true, block}
use Rattle.fm_base.specs.declared.ids.SortId.{SortId}
use Rattle.fm_base.specs.declared.ids.SymId.{SymId}
use Rattle.fm_base.specs.declared.signature.Rank.{Rank}
use Rattle.fm_base.specs.declared.formula.Nnf
use Rattle.fm_base.specs.declared.formula.Nnf.{Nnf}
use Rattle.fm_base.specs.declared.formula.Patom.{Patom}
use Rattle.fm_base.specs.declared.formula.Pterm
use Rattle.fm_base.specs.declared.formula.Pterm.{Pterm}
use Rattle.fm_base.specs.Normal.{value, patom_true, signed}
use Rattle.fm_base.specs.Expansions.{Symbols, Agree, RanksFit, with_symbols}
use Rattle.fm_nnf.specs.NormalTruth.{nnf_true, nnf_step, is_within, within_step, is_atom_below, is_term_below, all_of}
use Rattle.fm_nnf.specs.NormalForm.{Former, formed_all}
use Rattle.fm_base.proofs.NormalTerms.{Each, term_induction}
use Rattle.fm_nnf.proofs.Normals.{below_of_app, below_of_var, nnf_induction, fold_of_lit, fold_of_and, fold_of_or, fold_of_all}
use Rattle.fm_nnf.proofs.Locals.{Local, Locals, agree_less, agree_chain, local_atom, local_terms, local_all_true, local_some_true, local_block, fits_along, fits_both}

-- a normal form within a bound reads the symbols below it alone, and is within any larger one
module _ (n k sorts : ℕ) (le : n ≤ k) where
  abbrev MoreTerm : Pterm → Type 0
  MoreTerm t = is_term_below n t ≡ true → is_term_below k t ≡ true

  more_all : (ts : List Pterm) → Each MoreTerm ts → all_of (map (is_term_below n) ts) ≡ true → all_of (map (is_term_below k) ts) ≡ true
  more_all [] each e = refl
  more_all (t ∷ ts) each e = let p = and_parts (is_term_below n t) (all_of (map (is_term_below n) ts)) e in and_from (is_term_below k t) (all_of (map (is_term_below k) ts)) (each.0 p.0) (more_all ts each.1 p.1)

  more_app : (f : SymId) (ts : List Pterm) → Each MoreTerm ts → MoreTerm (Pterm.App f ts)
  more_app f ts each e =
      let p = and_parts (nat_lt f.0 n) (all_of (map (is_term_below n) ts)) (sym (below_of_app n f ts) ∙ e) in
      let lt = ltb-true f.0 n p.0 in
      below_of_app k f ts ∙ and_from (nat_lt f.0 k) (all_of (map (is_term_below k) ts)) (lt-ltb f.0 k (omega (arith, lt))) (more_all ts each p.1)

  pub more_term : (t : Pterm) → MoreTerm t
  more_term = term_induction MoreTerm (λ v e. below_of_var k v) more_app

  pub more_terms : (ts : List Pterm) → all_of (map (is_term_below n) ts) ≡ true → all_of (map (is_term_below k) ts) ≡ true
  more_terms [] e = refl
  more_terms (t ∷ ts) e = let p = and_parts (is_term_below n t) (all_of (map (is_term_below n) ts)) e in and_from (is_term_below k t) (all_of (map (is_term_below k) ts)) (more_term t p.0) (more_terms ts p.1)

  more_atom : (a : Patom) → is_atom_below n a ≡ true → is_atom_below k a ≡ true
  more_atom (Patom.Pred p ts) e =
      let q = and_parts (nat_lt p.0 n) (all_of (map (is_term_below n) ts)) e in
      let lt = ltb-true p.0 n q.0 in
      and_from (nat_lt p.0 k) (all_of (map (is_term_below k) ts)) (lt-ltb p.0 k (omega (arith, lt))) (more_terms ts q.1)
  more_atom (Patom.Equal s t) e = let q = and_parts (is_term_below n s) (is_term_below n t) e in and_from (is_term_below k s) (is_term_below k t) (more_term s q.0) (more_term t q.1)

  abbrev More : Nnf → Type 0
  More f = is_within n sorts f ≡ true → is_within k sorts f ≡ true

  more_forms : (fs : List Nnf) → Each More fs → all_of (map (is_within n sorts) fs) ≡ true → all_of (map (is_within k sorts) fs) ≡ true
  more_forms [] each e = refl
  more_forms (f ∷ fs) each e = let p = and_parts (is_within n sorts f) (all_of (map (is_within n sorts) fs)) e in and_from (is_within k sorts f) (all_of (map (is_within k sorts) fs)) (each.0 p.0) (more_forms fs each.1 p.1)

  pub within_more : (f : Nnf) → More f
  within_more = nnf_induction More
      (λ positive a e. fold_of_lit Bool (within_step k sorts) positive a ∙ more_atom a (sym (fold_of_lit Bool (within_step n sorts) positive a) ∙ e))
      (λ fs each e. fold_of_and Bool (within_step k sorts) fs ∙ more_forms fs each (sym (fold_of_and Bool (within_step n sorts) fs) ∙ e))
      (λ fs each e. fold_of_or Bool (within_step k sorts) fs ∙ more_forms fs each (sym (fold_of_or Bool (within_step n sorts) fs) ∙ e))
      (λ vars body h e.
      let p = and_parts (list_all (λ (s : SortId). nat_lt s.0 sorts) vars) (is_within n sorts body) (sym (fold_of_all Bool (within_step n sorts) vars body) ∙ e) in
      fold_of_all Bool (within_step k sorts) vars body ∙ and_from (list_all (λ (s : SortId). nat_lt s.0 sorts) vars) (is_within k sorts body) p.0 (h p.1))

module _ (n sorts : ℕ) where
  abbrev IsLocal : Nnf → Type 0
  IsLocal f = is_within n sorts f ≡ true → Local n (nnf_true f)

  pub locals : (fs : List Nnf) → Each IsLocal fs → all_of (map (is_within n sorts) fs) ≡ true → Locals n (map nnf_true fs)
  locals [] each e = tt
  locals (f ∷ fs) each e = let p = and_parts (is_within n sorts f) (all_of (map (is_within n sorts) fs)) e in (each.0 p.0, locals fs each.1 p.1)

  abbrev same_truth : (t u : Truth) → t ≡ u → Local n u → Local n t
  same_truth t u e h = subst (λ (v : Truth). Local n v) (sym e) h

  pub nnf_local : (f : Nnf) → IsLocal f
  nnf_local = nnf_induction IsLocal
      (λ positive a e. same_truth (nnf_true (Nnf.Lit positive a)) (λ m env. signed positive (patom_true m env a)) (fold_of_lit Truth nnf_step positive a) (λ size b c env agree. ap (signed positive) (local_atom n a (sym (fold_of_lit Bool (within_step n sorts) positive a) ∙ e) size b c env agree)))
      (λ fs each e. same_truth (nnf_true (Nnf.And fs)) (all_true (map nnf_true fs)) (fold_of_and Truth nnf_step fs) (local_all_true n (map nnf_true fs) (locals fs each (sym (fold_of_and Bool (within_step n sorts) fs) ∙ e))))
      (λ fs each e. same_truth (nnf_true (Nnf.Or fs)) (some_true (map nnf_true fs)) (fold_of_or Truth nnf_step fs) (local_some_true n (map nnf_true fs) (locals fs each (sym (fold_of_or Bool (within_step n sorts) fs) ∙ e))))
      (λ vars body h e.
      let p = and_parts (list_all (λ (s : SortId). nat_lt s.0 sorts) vars) (is_within n sorts body) (sym (fold_of_all Bool (within_step n sorts) vars body) ∙ e) in
      same_truth (nnf_true (Nnf.All vars body)) (λ m env. block m true vars (λ inner. nnf_true body m inner) env) (fold_of_all Truth nnf_step vars body) (local_block n true vars (nnf_true body) (h p.1)))

abbrev pub all_values : List Pterm → Reading → List ℕ → List ℕ
all_values ts m env = map (λ (t : Pterm). value t m env) ts

-- the terms read the variables of the scope alone
abbrev pub Stable : List Pterm → List SortId → Type 0
Stable terms scope = (m : Reading) (env xs : List ℕ) → length scope ≤ length env → all_values terms m (env ++ xs) ≡ all_values terms m env

pub record Ready (bound depth : ℕ) (terms : List Pterm) (scope : List SortId) (next : ℕ) : Type 0 where
  pub old : bound ≤ next
  pub long : length terms ≡ depth
  pub below : all_of (map (is_term_below next) terms) ≡ true
  pub stable : Stable terms scope

abbrev pub Inhabited : ℕ → (ℕ → ℕ) → Type 0
Inhabited sorts size = (s : ℕ) → s < sorts → 0 < size s

-- an expansion by the ranks in which what is made is true where the meaning was
pub record Formed (size : ℕ → ℕ) (a : Symbols) (scope : List SortId) (next : ℕ) (ranks : List Rank) (Was Is : (b : Symbols) → List ℕ → Type 0) : Type 0 where
  pub at : Symbols
  pub agrees : Agree next a at
  pub fits : RanksFit (with_symbols size at) next ranks
  pub holds : (env : List ℕ) → IsElements (with_symbols size at) scope env → Was a env → Is at env

-- one normal form for one meaning
pub record FormsTo (sorts bound : ℕ) (t : Truth) (terms : List Pterm) (scope : List SortId) (next : ℕ) (r : Nnf × List Rank) : Type 0 where
  pub within : is_within (next + length r.1) sorts r.0 ≡ true
  pub sound : (m : Reading) → RanksFit m next r.1 → (env : List ℕ) → IsElements m scope env → nnf_true r.0 m env ≡ true → t m (all_values terms m env) ≡ true
  pub expands : (size : ℕ → ℕ) → Inhabited sorts size → (a : Symbols) → Formed size a scope next r.1 (λ b env. t (with_symbols size b) (all_values terms (with_symbols size b) env) ≡ true) (λ b env. nnf_true r.0 (with_symbols size b) env ≡ true)

abbrev pub Forms : ℕ → ℕ → ℕ → Former Nnf → Truth → Type 0
Forms sorts bound depth k t = (terms : List Pterm) (scope : List SortId) (next : ℕ) → Ready bound depth terms scope next → FormsTo sorts bound t terms scope next (k terms scope next)

abbrev pub AllForms : ℕ → ℕ → ℕ → List (Former Nnf) → List Truth → Type 0
AllForms sorts bound depth [] [] = Unit {0}
AllForms sorts bound depth [] (t ∷ ts) = ⊥
AllForms sorts bound depth (k ∷ ks) [] = ⊥
AllForms sorts bound depth (k ∷ ks) (t ∷ ts) = (Forms sorts bound depth k t × Local bound t) × AllForms sorts bound depth ks ts

abbrev pub BothSay : List Truth → Reading → List ℕ → List Truth → Reading → List ℕ → Type 0
BothSay ts m env us n other = (all_true ts m env ≡ true → all_true us n other ≡ true) × (some_true ts m env ≡ true → some_true us n other ≡ true)

pub record FormsAll (sorts : ℕ) (ts : List Truth) (terms : List Pterm) (scope : List SortId) (next : ℕ) (r : List Nnf × List Rank) : Type 0 where
  pub within : all_of (map (is_within (next + length r.1) sorts) r.0) ≡ true
  pub sound : (m : Reading) → RanksFit m next r.1 → (env : List ℕ) → IsElements m scope env → BothSay (map nnf_true r.0) m env ts m (all_values terms m env)
  pub expands : (size : ℕ → ℕ) → Inhabited sorts size → (a : Symbols) → Formed size a scope next r.1 (λ b env. Unit {0}) (λ b env. BothSay ts (with_symbols size a) (all_values terms (with_symbols size a) env) (map nnf_true r.0) (with_symbols size b) env)

pub fits_split : (m : Reading) (next : ℕ) (rs qs : List Rank) → RanksFit m next (rs ++ qs) → RanksFit m next rs × RanksFit m (next + length rs) qs
fits_split m next [] qs h = (tt, subst (λ (k : ℕ). RanksFit m k qs) (omega arith) h)
fits_split m next (r ∷ rs) qs h =
    let p = fits_split m (next + 1) rs qs h.1 in
    ((h.0, p.0), subst (λ (k : ℕ). RanksFit m k qs) (omega arith) p.1)

pub ready_later : (bound depth : ℕ) (terms : List Pterm) (scope : List SortId) (next later : ℕ) → next ≤ later → Ready bound depth terms scope next → Ready bound depth terms scope later
ready_later bound depth terms scope next later le h = let old = h.old in record { old = omega (arith, old, le); long = h.long; below = more_terms next later 0 le terms h.below; stable = h.stable }

and_implies : (a b c d : Bool) → (a ≡ true → c ≡ true) → (b ≡ true → d ≡ true) → (a && b) ≡ true → (c && d) ≡ true
and_implies a b c d f g h = let p = and_parts a b h in and_from c d (f p.0) (g p.1)

or_implies : (a b c d : Bool) → (a ≡ true → c ≡ true) → (b ≡ true → d ≡ true) → (a || b) ≡ true → (c || d) ≡ true
or_implies a b c d f g h = elim (or_cases a b h) [ inl x ↦ or_left c d (f x) | inr y ↦ or_right c d (g y) ]

pub all_local : (sorts bound depth : ℕ) (ks : List (Former Nnf)) (ts : List Truth) → AllForms sorts bound depth ks ts → Locals bound ts
all_local sorts bound depth [] [] h = tt
all_local sorts bound depth [] (t ∷ ts) h = absurd h
all_local sorts bound depth (k ∷ ks) [] h = absurd h
all_local sorts bound depth (k ∷ ks) (t ∷ ts) h = (h.0.1, all_local sorts bound depth ks ts h.1)

pub all_forms : (sorts bound depth : ℕ) (ks : List (Former Nnf)) (ts : List Truth) → AllForms sorts bound depth ks ts → (terms : List Pterm) (scope : List SortId) (next : ℕ) → Ready bound depth terms scope next → FormsAll sorts ts terms scope next (formed_all ks terms scope next)
all_forms sorts bound depth [] [] h terms scope next ready = record { within = refl; sound = λ m fits env at. ((λ e. e), (λ e. e)); expands = λ size some a. record { at = a; agrees = λ f xs lt. refl; fits = tt; holds = λ env at was. ((λ e. e), (λ e. e)) } }
all_forms sorts bound depth [] (t ∷ ts) h terms scope next ready = absurd h
all_forms sorts bound depth (k ∷ ks) [] h terms scope next ready = absurd h
all_forms sorts bound depth (k ∷ ks) (t ∷ ts) h terms scope next ready =
    let r = k terms scope next in
    let n = next + length r.1 in
    let q = formed_all ks terms scope n in
    let one = h.0.0 terms scope next ready in
    let two = all_forms sorts bound depth ks ts h.1 terms scope n (ready_later bound depth terms scope next n (omega arith) ready) in
    let l = length-append r.1 q.1 in
    let far : n + length q.1 ≡ next + length (r.1 ++ q.1) = omega (arith, l) in
    record {
      within = and_from (is_within (next + length (r.1 ++ q.1)) sorts r.0) (all_of (map (is_within (next + length (r.1 ++ q.1)) sorts) q.0)) (within_more n (next + length (r.1 ++ q.1)) sorts (omega (arith, l)) r.0 one.within) (subst (λ (i : ℕ). all_of (map (is_within i sorts) q.0) ≡ true) far two.within);
      sound = λ m fits env at.
          let p = fits_split m next r.1 q.1 fits in
          let x = one.sound m p.0 env at in
          let y = two.sound m p.1 env at in
          (and_implies (nnf_true r.0 m env) (all_true (map nnf_true q.0) m env) (t m (all_values terms m env)) (all_true ts m (all_values terms m env)) x y.0, or_implies (nnf_true r.0 m env) (some_true (map nnf_true q.0) m env) (t m (all_values terms m env)) (some_true ts m (all_values terms m env)) x y.1);
      expands = λ size some a.
          let x = one.expands size some a in
          let y = two.expands size some x.at in
          record {
            at = y.at;
            agrees = agree_chain next a x.at y.at x.agrees (agree_less next n x.at y.at (omega arith) y.agrees);
            fits = fits_both (with_symbols size y.at) next r.1 q.1 (fits_along size x.at y.at n next r.1 (omega arith) y.agrees x.fits) y.fits;
            holds = λ env at was.
                let old = ready.old in
                let vals : all_values terms (with_symbols size x.at) env ≡ all_values terms (with_symbols size a) env = local_terms next terms ready.below size a x.at env x.agrees in
                let moved : (u : Truth) → Local bound u → u (with_symbols size x.at) (all_values terms (with_symbols size x.at) env) ≡ u (with_symbols size a) (all_values terms (with_symbols size a) env) = λ u local. ap (u (with_symbols size x.at)) vals ∙ local size a x.at (all_values terms (with_symbols size a) env) (agree_less bound next a x.at old x.agrees) in
                let rest = all_local sorts bound depth ks ts h.1 in
                let here = nnf_local n sorts r.0 one.within size x.at y.at env y.agrees in
                let first : t (with_symbols size a) (all_values terms (with_symbols size a) env) ≡ true → nnf_true r.0 (with_symbols size y.at) env ≡ true = λ e. here ∙ x.holds env at e in
                let second = y.holds env at tt in (
                  and_implies (t (with_symbols size a) (all_values terms (with_symbols size a) env)) (all_true ts (with_symbols size a) (all_values terms (with_symbols size a) env)) (nnf_true r.0 (with_symbols size y.at) env) (all_true (map nnf_true q.0) (with_symbols size y.at) env) first (λ e. second.0 (moved (all_true ts) (local_all_true bound ts rest) ∙ e)),
                  or_implies (t (with_symbols size a) (all_values terms (with_symbols size a) env)) (some_true ts (with_symbols size a) (all_values terms (with_symbols size a) env)) (nnf_true r.0 (with_symbols size y.at) env) (some_true (map nnf_true q.0) (with_symbols size y.at) env) first (λ e. second.1 (moved (some_true ts) (local_some_true bound ts rest) ∙ e)),
                );
          };
    }
