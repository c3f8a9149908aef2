-- A literal has its truth from the variables up to its depth, so the levels decide a clause.
use Rattle.std.proofs.Common.{◌≡◌, ℕ, ◌<◌, ◌≤◌, true, false, ◌||◌, ◌&&◌, List, [], ◌∷◌, ◌++◌, length, map, take, drop, refl, sym, subst, ap, ◌∙◌, arith, inl, inr}
use Rattle.std.specs.Prelude.{◌==◌}
use Rattle.std.proofs.lemmas.Bool.{and_parts, eq-eqb, eqb-true, or_cases, or_parts, or_right}
use Rattle.std.proofs.lemmas.List.{get_or_append_left, length-take-le, take-append-drop}
use Rattle.std.proofs.lemmas.Simd.{map-map}
use Rattle.fm_base.specs.Interpretations.{Reading}
use Rattle.fm_base.specs.declared.ids.SymId.{SymId}
use Rattle.fm_base.specs.declared.formula.Patom.{Patom}
use Rattle.fm_base.specs.declared.formula.Pterm
use Rattle.fm_base.specs.declared.formula.Pterm.{Pterm}
use Rattle.fm_base.specs.declared.formula.Pterm.TheOpen.{Pterm-F}
use Rattle.fm_base.specs.declared.formula.Pterm.TheViews.{roll-Pterm}
use Rattle.fm_base.specs.declared.formula.Pterm.TheFolds.{fold-roll-Pterm, ind-Pterm, map-Pterm}
use Rattle.fm_base.specs.Normal.{Valued, patom_true, signed, value, value_step}
use Rattle.fm_bank.specs.Clauses.{lits_true, plit_true}
use Rattle.fm_bank.specs.declared.clause.Plit.{Plit}
use Rattle.fm_inst.specs.Depths.{IsWithin, atom_depth, depth_of, depth_step, largest, level_true, literal_depth}

pub value_app : (m : Reading) (f : SymId) (ts : List Pterm) (env : List ℕ) → value (Pterm.App f ts) m env ≡ m.at f.0 (map (λ (t : Pterm). value t m env) ts)
unfolding Pterm.roll-Pterm denote.Hole.Carrier.roll
value_app m f ts env = ap (λ (k : Valued). k m env) (fold-roll-Pterm Valued value_step (Pterm-F.App f ts)) ∙ ap (m.at f.0) (map-map (λ (k : Valued). k m env) value ts)

module _ (m : Reading) (env more : List ℕ) where
  -- what stands behind the variables that a term needs doesn't count
  abbrev IsLocal : Pterm → Type 0
  IsLocal t = depth_of t ≤ length env → value t m (env ++ more) ≡ value t m env

  abbrev Locals : Type 0
  Locals = (t : Pterm) × IsLocal t

  abbrev plain : List Locals → List Pterm
  plain ys = map (λ (e : Locals). e.0) ys

  local_all : (ys : List Locals) → largest (map depth_of (plain ys)) ≤ length env → map (λ (k : Valued). k m (env ++ more)) (map value (plain ys)) ≡ map (λ (k : Valued). k m env) (map value (plain ys))
  local_all [] le = refl
  local_all (y ∷ ys) le =
      let here : value y.0 m (env ++ more) ≡ value y.0 m env = y.1 (omega arith) in
      let rest = local_all ys (omega arith) in
      λ i. here i ∷ rest i

  local_var : (v : ℕ) → IsLocal (roll-Pterm (Pterm-F.Var v))
  local_var v le =
      let lt : v < length env = omega (arith, le, fold-roll-Pterm ℕ depth_step (Pterm-F.Var v)) in
      ap (λ (k : Valued). k m (env ++ more)) (fold-roll-Pterm Valued value_step (Pterm-F.Var v)) ∙ get_or_append_left env more 0 v lt ∙ sym (ap (λ (k : Valued). k m env) (fold-roll-Pterm Valued value_step (Pterm-F.Var v)))

  local_app : (f : SymId) (ys : List Locals) → IsLocal (roll-Pterm (Pterm-F.App f (plain ys)))
  local_app f ys le =
      let ts : List Pterm = plain ys in
      let low : largest (map depth_of ts) ≤ length env = subst (λ n. n ≤ length env) (fold-roll-Pterm ℕ depth_step (Pterm-F.App f ts)) le in
      ap (λ (k : Valued). k m (env ++ more)) (fold-roll-Pterm Valued value_step (Pterm-F.App f ts)) ∙ ap (m.at f.0) (local_all ys low) ∙ sym (ap (λ (k : Valued). k m env) (fold-roll-Pterm Valued value_step (Pterm-F.App f ts)))

  local_layer : (y : Pterm-F Locals) (x : Pterm-F Pterm) → map-Pterm Locals Pterm (λ e. e.0) y ≡ x → IsLocal (roll-Pterm x)
  local_layer (Pterm-F.Var v) x is = subst (λ (z : Pterm-F Pterm). IsLocal (roll-Pterm z)) is (local_var v)
  local_layer (Pterm-F.App f ys) x is = subst (λ (z : Pterm-F Pterm). IsLocal (roll-Pterm z)) is (local_app f ys)

  pub is_local : (t : Pterm) → IsLocal t
  is_local = ind-Pterm IsLocal (λ x y is. local_layer y x is)

  local_list : (ts : List Pterm) → largest (map depth_of ts) ≤ length env → map (λ (t : Pterm). value t m (env ++ more)) ts ≡ map (λ (t : Pterm). value t m env) ts
  local_list [] le = refl
  local_list (t ∷ ts) le =
      let here = is_local t (omega arith) in
      let rest = local_list ts (omega arith) in
      λ i. here i ∷ rest i

  atom_local : (a : Patom) → atom_depth a ≤ length env → patom_true m (env ++ more) a ≡ patom_true m env a
  atom_local (Patom.Pred p ts) le = ap (λ (xs : List ℕ). m.at p.0 xs == 1) (local_list ts le)
  atom_local (Patom.Equal a b) le =
      let left = is_local a (omega arith) in
      let right = is_local b (omega arith) in
      λ i. left i == right i

  literal_local : (l : Plit) → literal_depth l ≤ length env → plit_true m (env ++ more) l ≡ plit_true m env l
  literal_local l le = ap (signed l.positive) (atom_local l.atom le)

-- where a literal is true at a beginning, the clause is true at all tuples that begin so
level_one : (m : Reading) (l : Plit) (d : ℕ) (env more : List ℕ) → length env ≡ d → ((literal_depth l == d) && plit_true m env l) ≡ true → plit_true m (env ++ more) l ≡ true
level_one m l d env more len e =
    let parts = and_parts (literal_depth l == d) (plit_true m env l) e in
    literal_local m env more l (omega (arith, eqb-true (literal_depth l) d parts.0, len)) ∙ parts.1

pub level_decides : (m : Reading) (lits : List Plit) (d : ℕ) (env more : List ℕ) → length env ≡ d → level_true m lits d env ≡ true → lits_true m (env ++ more) lits ≡ true
level_decides m [] d env more len e = cc
level_decides m (l ∷ ls) d env more len e =
    elim (or_cases ((literal_depth l == d) && plit_true m env l) (level_true m ls d env) e) [
      | inl here ↦ ap (λ b. b || lits_true m (env ++ more) ls) (level_one m l d env more len here)
      | inr later ↦ or_right (plit_true m (env ++ more) l) (lits_true m (env ++ more) ls) (level_decides m ls d env more len later)
    ]

-- where no literal is true at its beginning of a tuple, the clause is false there
level_none : (m : Reading) (l : Plit) (xs : List ℕ) → literal_depth l ≤ length xs → ((literal_depth l == literal_depth l) && plit_true m (take (literal_depth l) xs) l) ≡ false → plit_true m xs l ≡ false
level_none m l xs le e =
    let d = literal_depth l in
    let whole = take-append-drop d xs in
    let same = literal_local m (take d xs) (drop d xs) l (omega (arith, length-take-le d xs le)) in
    sym (ap (λ ys. plit_true m ys l) whole) ∙ same ∙ sym (ap (λ b. b && plit_true m (take d xs) l) (eq-eqb d d refl)) ∙ e

pub levels_fail : (m : Reading) (lits : List Plit) (xs : List ℕ) → IsWithin lits (length xs) → ((j : ℕ) → j ≤ length xs → level_true m lits j (take j xs) ≡ false) → lits_true m xs lits ≡ false
levels_fail m [] xs within h = refl
levels_fail m (l ∷ ls) xs (le, within) h =
    let first = or_parts ((literal_depth l == literal_depth l) && plit_true m (take (literal_depth l) xs) l) (level_true m ls (literal_depth l) (take (literal_depth l) xs)) (h (literal_depth l) le) in
    let here = level_none m l xs le first.0 in
    let rest = levels_fail m ls xs within (λ j lt. (or_parts ((literal_depth l == j) && plit_true m (take j xs) l) (level_true m ls j (take j xs)) (h j lt)).1) in
    ap (λ b. b || lits_true m xs ls) here ∙ rest
