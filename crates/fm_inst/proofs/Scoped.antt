-- A well sorted clause has no variables but its own, and in tables that fit each of its sorts has an element.
use Rattle.std.proofs.Common.{◌≡◌, ℕ, zero, suc, ◌<◌, ◌≤◌, Bool, true, false, List, [], ◌∷◌, length, map, Option, Some, None, cond, refl, sym, subst, ap, ◌∙◌, arith}
use Rattle.std.specs.Prelude.{max, nat_lt, slice_get}
use Rattle.std.specs.List.{list_all}
use Rattle.std.proofs.lemmas.Bool.{and_parts, ltb-true}
use Rattle.fm_base.specs.Interpretations.{IsInterpretation, Reading}
use Rattle.fm_base.specs.Truth.{Sort, are_arguments, declared_sort, have_one_sort, is_bool, is_of_sort, is_predicate_of, result_of}
use Rattle.fm_base.specs.declared.ids.SortId.{SortId}
use Rattle.fm_base.specs.declared.ids.SymId.{SymId}
use Rattle.fm_base.specs.declared.signature.Rank.{Rank}
use Rattle.fm_base.specs.declared.signature.Sig.{Sig}
use Rattle.fm_base.specs.declared.signature.Ty.{Ty}
use Rattle.fm_base.specs.declared.formula.Patom.{Patom}
use Rattle.fm_base.specs.declared.formula.Pterm.{Pterm}
use Rattle.fm_base.specs.declared.formula.Pterm.TheOpen.{Pterm-F}
use Rattle.fm_base.specs.declared.formula.Pterm.TheViews.{roll-Pterm}
use Rattle.fm_base.specs.declared.formula.Pterm.TheFolds.{fold-roll-Pterm, ind-Pterm, map-Pterm}
use Rattle.fm_bank.specs.Sorted.{are_sorted_literals, is_sorted_atom, is_sorted_clause, sort_of, sort_step}
use Rattle.fm_bank.specs.declared.clause.Clause.{Clause}
use Rattle.fm_bank.specs.declared.clause.Plit.{Plit}
use Rattle.fm_inst.specs.Depths.{AreReady, IsWithin, atom_depth, depth_of, depth_step, largest}
use Rattle.fm_rounds.specs.Failing.{sizes_of}
use Rattle.fm_inst.specs.Prefixes.{AreSome}

there_below : (ss : List SortId) (v : ℕ) (s : SortId) → slice_get ss v ≡ Some s → v < length ss
there_below [] v s e = cc
there_below (t ∷ ss) zero s e = omega arith
there_below (t ∷ ss) (suc v) s e = omega (arith, there_below ss v s e)

sort_there : (o : Option SortId) (t : Ty) → is_of_sort o t ≡ true → (s : SortId) × (o ≡ Some s)
sort_there None t e = cc
sort_there (Some s) t e = (s, refl)

module _ (sig : Sig) (scope : List SortId) where
  abbrev IsScoped : Pterm → Type 0
  IsScoped t = (s : SortId) → sort_of t sig scope ≡ Some s → depth_of t ≤ length scope

  abbrev Scopeds : Type 0
  Scopeds = (t : Pterm) × IsScoped t

  abbrev plain : List Scopeds → List Pterm
  plain ys = map (λ (e : Scopeds). e.0) ys

  arguments_scoped : (ys : List Scopeds) (ts : List Ty) → are_arguments (map sort_of (plain ys)) ts sig scope ≡ true → largest (map depth_of (plain ys)) ≤ length scope
  arguments_scoped [] ts e = omega arith
  arguments_scoped (y ∷ ys) [] e = cc
  arguments_scoped (y ∷ ys) (t ∷ ts) e =
      let parts = and_parts (is_of_sort (sort_of y.0 sig scope) t) (are_arguments (map sort_of (plain ys)) ts sig scope) e in
      let there = sort_there (sort_of y.0 sig scope) t parts.0 in
      omega (arith, y.1 there.0 there.1, arguments_scoped ys ts parts.1)

  result_parts : (b : Bool) (o : Option SortId) (s : SortId) → cond b o None ≡ Some s → b ≡ true
  result_parts true o s e = refl
  result_parts false o s e = cc

  rank_scoped : (ys : List Scopeds) (o : Option Rank) (s : SortId) → result_of (map sort_of (plain ys)) o sig scope ≡ Some s → largest (map depth_of (plain ys)) ≤ length scope
  rank_scoped ys None s e = cc
  rank_scoped ys (Some rank) s e = arguments_scoped ys rank.args (result_parts (are_arguments (map sort_of (plain ys)) rank.args sig scope) (declared_sort rank.result) s e)

  scoped_var : (v : ℕ) → IsScoped (roll-Pterm (Pterm-F.Var v))
  scoped_var v s e =
      let lt : v < length scope = there_below scope v s (sym (ap (λ (k : Sort). k sig scope) (fold-roll-Pterm Sort sort_step (Pterm-F.Var v))) ∙ e) in
      omega (arith, lt, fold-roll-Pterm ℕ depth_step (Pterm-F.Var v))

  scoped_app : (f : SymId) (ys : List Scopeds) → IsScoped (roll-Pterm (Pterm-F.App f (plain ys)))
  scoped_app f ys s e =
      let ts : List Pterm = plain ys in
      let low = rank_scoped ys (slice_get sig.ranks f.0) s (sym (ap (λ (k : Sort). k sig scope) (fold-roll-Pterm Sort sort_step (Pterm-F.App f ts))) ∙ e) in
      subst (λ n. n ≤ length scope) (sym (fold-roll-Pterm ℕ depth_step (Pterm-F.App f ts))) low

  scoped_layer : (y : Pterm-F Scopeds) (x : Pterm-F Pterm) → map-Pterm Scopeds Pterm (λ e. e.0) y ≡ x → IsScoped (roll-Pterm x)
  scoped_layer (Pterm-F.Var v) x is = subst (λ (z : Pterm-F Pterm). IsScoped (roll-Pterm z)) is (scoped_var v)
  scoped_layer (Pterm-F.App f ys) x is = subst (λ (z : Pterm-F Pterm). IsScoped (roll-Pterm z)) is (scoped_app f ys)

  is_scoped : (t : Pterm) → IsScoped t
  is_scoped = ind-Pterm IsScoped (λ x y is. scoped_layer y x is)

  list_scoped : (ps : List Pterm) (ts : List Ty) → are_arguments (map sort_of ps) ts sig scope ≡ true → largest (map depth_of ps) ≤ length scope
  list_scoped [] ts e = omega arith
  list_scoped (y ∷ ys) [] e = cc
  list_scoped (y ∷ ys) (t ∷ ts) e =
      let parts = and_parts (is_of_sort (sort_of y sig scope) t) (are_arguments (map sort_of ys) ts sig scope) e in
      let there = sort_there (sort_of y sig scope) t parts.0 in
      omega (arith, is_scoped y there.0 there.1, list_scoped ys ts parts.1)

  predicate_scoped : (ps : List Pterm) (o : Option Rank) → is_predicate_of (map sort_of ps) o sig scope ≡ true → largest (map depth_of ps) ≤ length scope
  predicate_scoped ps None e = cc
  predicate_scoped ps (Some rank) e = list_scoped ps rank.args (and_parts (is_bool rank.result) (are_arguments (map sort_of ps) rank.args sig scope) e).1

  sides_scoped : (a b : Pterm) (o : Option SortId) → sort_of a sig scope ≡ o → have_one_sort o (sort_of b sig scope) ≡ true → max (depth_of a) (depth_of b) ≤ length scope
  sides_scoped a b None is e = cc
  sides_scoped a b (Some s) is e =
      let there = sort_there (sort_of b sig scope) (Ty.Of s) e in
      omega (arith, is_scoped a s is, is_scoped b there.0 there.1)

  atom_scoped : (a : Patom) → is_sorted_atom sig scope a ≡ true → atom_depth a ≤ length scope
  atom_scoped (Patom.Pred p ts) e = predicate_scoped ts (slice_get sig.ranks p.0) e
  atom_scoped (Patom.Equal a b) e = sides_scoped a b (sort_of a sig scope) refl e

  literals_scoped : (lits : List Plit) → are_sorted_literals sig scope lits ≡ true → IsWithin lits (length scope)
  literals_scoped [] e = tt
  literals_scoped (l ∷ ls) e =
      let parts = and_parts (is_sorted_atom sig scope l.atom) (are_sorted_literals sig scope ls) e in
      (atom_scoped l.atom parts.0, literals_scoped ls parts.1)

sorts_some : (sig : Sig) (m : Reading) → IsInterpretation sig m → (ss : List SortId) → list_all (λ (s : SortId). nat_lt s.0 sig.sorts) ss ≡ true → AreSome (sizes_of m ss)
sorts_some sig m i [] e = tt
sorts_some sig m i (s ∷ ss) e =
    let parts = and_parts (nat_lt s.0 sig.sorts) (list_all (λ (s : SortId). nat_lt s.0 sig.sorts) ss) e in
    (i.inhabited s.0 (ltb-true s.0 sig.sorts parts.0), sorts_some sig m i ss parts.1)

pub sorted_ready : (sig : Sig) (m : Reading) → IsInterpretation sig m → (cs : List Clause) → list_all (is_sorted_clause sig) cs ≡ true → AreReady m cs
sorted_ready sig m i [] e = tt
sorted_ready sig m i (c ∷ cs) e =
    let parts = and_parts (is_sorted_clause sig c) (list_all (is_sorted_clause sig) cs) e in
    let both = and_parts (list_all (λ (s : SortId). nat_lt s.0 sig.sorts) c.vars) (are_sorted_literals sig c.vars c.lits) parts.0 in
    ((sorts_some sig m i c.vars both.0, literals_scoped sig c.vars c.lits both.1), sorted_ready sig m i cs parts.1)
