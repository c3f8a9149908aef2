-- How the terms of an arena grow.
use Rattle.std.proofs.Common.{◌≡◌, ℕ, zero, suc, ◌+◌, Bool, true, false, List, [], ◌∷◌, ◌++◌, length, map, ap, refl, sym, ◌∙◌, arith}
use Rattle.std.specs.Prelude.{slice_get, nat_lt, cond, ◌-◌}
use Rattle.std.proofs.lemmas.List.{length_push}
use Rattle.fm_base.specs.Truth.{is_bool}
use Rattle.fm_base.specs.declared.ids.SortId.{SortId}
use Rattle.fm_base.specs.declared.signature.Ty.{Ty}
use Rattle.fm_base.specs.declared.formula.Fterm.{Fterm}
use Rattle.fm_arena.specs.Trees.{formula_in, is_truth, of_kind, takes, makes_truth}
use Rattle.fm_arena.specs.declared.node.Tree.{Tree}
use Rattle.fm_arena.specs.Measures.{one, over, weigh, measure, tree_measure, is_fit}
use Rattle.fm_arena.specs.Meanings.{Placed, Term, Names, no_names, inside, named, made, meanings_at, quantified, meaning_at, term_of, terms_after, terms_of, type_at, kind_at, measure_of}
use Rattle.fm_arena.specs.Kept.{entry_type, kept_at, ArePlain, IsMeasured, AreMeasured}
use Rattle.fm_arena.specs.declared.sizes.Measure.{Measure}
use Rattle.fm_arena.specs.declared.node.Op.{Op}
use Rattle.fm_arena.specs.declared.node.Node.{Node}
use Rattle.fm_arena.specs.declared.node.Entry.{Entry}
use Rattle.fm_arena.proofs.Measuring.{built_measured, built_kind, measure_of_truth, measure_of_quant, measure_of_var}

-- the terms of one more entry
terms_after-push : (ts : List Term) (es : List Entry) (e : Entry) → terms_after ts (es ++ e ∷ []) ≡ terms_after ts es ++ term_of (terms_after ts es) e ∷ []
terms_after-push ts [] e = refl
terms_after-push ts (x ∷ es) e = terms_after-push (ts ++ term_of ts x ∷ []) es e

pub terms_push : (es : List Entry) (e : Entry) → terms_of (es ++ e ∷ []) ≡ terms_of es ++ term_of (terms_of es) e ∷ []
terms_push es e = terms_after-push [] es e

pub measured_push : (ts : List Term) (es : List Entry) (t : Term) (e : Entry) → AreMeasured ts es → IsMeasured t e → AreMeasured (ts ++ t ∷ []) (es ++ e ∷ [])
measured_push [] [] t e h k = (k, tt)
measured_push [] (x ∷ es) t e h k = absurd h
measured_push (x ∷ ts) [] t e h k = absurd h
measured_push (x ∷ ts) (y ∷ es) t e h k = (h.0, measured_push ts es t e h.1 k)

pub kind_is : (ts : List Term) (es : List Entry) (i : ℕ) → AreMeasured ts es → (names : Names) (d : ℕ) → is_truth (meaning_at ts i names d) ≡ kind_at ts i
kind_is [] [] i h names d = refl
kind_is [] (x ∷ es) i h names d = absurd h
kind_is (x ∷ ts) [] i h names d = absurd h
kind_is (x ∷ ts) (y ∷ es) zero h names d = h.0.kind names d
kind_is (x ∷ ts) (y ∷ es) (suc i) h names d = kind_is ts es i h.1 names d

pub kept_is : (ts : List Term) (es : List Entry) (i : ℕ) → AreMeasured ts es → (names : Names) (d : ℕ) → ArePlain names → tree_measure (meaning_at ts i names d) ≡ kept_at es i
kept_is [] [] i h names d p = measure_of_truth true
kept_is [] (x ∷ es) i h names d p = absurd h
kept_is (x ∷ ts) [] i h names d p = absurd h
kept_is (x ∷ ts) (y ∷ es) zero h names d p = h.0.measure names d p
kept_is (x ∷ ts) (y ∷ es) (suc i) h names d p = kept_is ts es i h.1 names d p

pub kinds_are : (ts : List Term) (es : List Entry) (is : List ℕ) → AreMeasured ts es → (names : Names) (d : ℕ) → map is_truth (meanings_at (map (meaning_at ts) is) names d) ≡ map (kind_at ts) is
kinds_are ts es [] h names d = refl
kinds_are ts es (i ∷ is) h names d = ap (λ (k : Bool). k ∷ map is_truth (meanings_at (map (meaning_at ts) is) names d)) (kind_is ts es i h names d) ∙ ap (λ (ks : List Bool). kind_at ts i ∷ ks) (kinds_are ts es is h names d)

all_kept : (ts : List Term) (es : List Entry) (is : List ℕ) → AreMeasured ts es → (names : Names) (d : ℕ) → ArePlain names → map tree_measure (meanings_at (map (meaning_at ts) is) names d) ≡ map (kept_at es) is
all_kept ts es [] h names d p = refl
all_kept ts es (i ∷ is) h names d p = ap (λ (k : Measure). k ∷ map tree_measure (meanings_at (map (meaning_at ts) is) names d)) (kept_is ts es i h names d p) ∙ ap (λ (ks : List Measure). kept_at es i ∷ ks) (all_kept ts es is h names d p)

-- the measure of what is made of terms of the right kinds
pub made_weighs : (ts : List Term) (es : List Entry) (op : Op) (is : List ℕ) → AreMeasured ts es → takes op (map (kind_at ts) is) ≡ true → (names : Names) (d : ℕ) → ArePlain names
    → tree_measure (made op (map (meaning_at ts) is) names d) ≡ weigh op (map (kept_at es) is)
made_weighs ts es op is h fits names d p =
    let trees = meanings_at (map (meaning_at ts) is) names d in
    built_measured op trees (ap (takes op) (kinds_are ts es is h names d) ∙ fits) ∙ ap (weigh op) (all_kept ts es is h names d p)

pub made_is_measured : (ts : List Term) (es : List Entry) (op : Op) (is : List ℕ) (ty : Ty) (w : Measure) → AreMeasured ts es → takes op (map (kind_at ts) is) ≡ true → is_bool ty ≡ makes_truth op → weigh op (map (kept_at es) is) ≡ w → is_fit w ≡ true
    → IsMeasured (record { ty = ty; meaning = made op (map (meaning_at ts) is) }) (record { node = Node.Made op is; ty = ty; measure = w })
made_is_measured ts es op is ty w h fits kind e fit = record {
  same = refl;
  kind = λ names d. built_kind op (meanings_at (map (meaning_at ts) is) names d) ∙ sym kind;
  measure = λ names d p. made_weighs ts es op is h fits names d p ∙ e;
  fit = fit;
}

-- the names within a block
plain_chosen : (b : Bool) (p : Placed) (v d : ℕ) → tree_measure (p d) ≡ over [] → tree_measure (cond b p (λ d. Tree.Thing (Fterm.Var v)) d) ≡ over []
plain_chosen true p v d h = h
plain_chosen false p v d h = measure_of_var v

pub plain_inside : (base depth : ℕ) (names : Names) → ArePlain names → ArePlain (inside base depth names)
plain_inside base depth names h = λ place d. plain_chosen (nat_lt place base) (names place) (depth + (place - base)) d (h place d)

pub plain_none : ArePlain no_names
plain_none = λ place d. measure_of_truth true

pub of_kind_weighs : (truth : Bool) (t : Tree) → tree_measure t ≡ over [] → tree_measure (of_kind truth t) ≡ over []
of_kind_weighs true (Tree.Truth f) e = e
of_kind_weighs true (Tree.Thing t) e = measure_of_truth true
of_kind_weighs false (Tree.Truth f) e = measure_of_var 0
of_kind_weighs false (Tree.Thing t) e = e

of_kind_kind : (truth : Bool) (t : Tree) → is_truth (of_kind truth t) ≡ truth
of_kind_kind true t = refl
of_kind_kind false t = refl

pub name_is_measured : (place : ℕ) (ty : Ty) (truth : Bool) → truth ≡ is_bool ty → IsMeasured (record { ty = ty; meaning = named place truth }) (record { node = Node.Name place truth; ty = ty; measure = one })
name_is_measured place ty truth e = record {
  same = refl;
  kind = λ names d. of_kind_kind truth (names place d) ∙ e;
  measure = λ names d p. of_kind_weighs truth (names place d) (p place d);
  fit = refl;
}

pub formula_weighs : (t : Tree) → is_truth t ≡ true → measure (formula_in t) ≡ tree_measure t
formula_weighs (Tree.Truth f) e = refl
formula_weighs (Tree.Thing t) e = cc

pub quantified_weighs : (ts : List Term) (es : List Entry) (all : Bool) (vars : List SortId) (base body : ℕ) → AreMeasured ts es → kind_at ts body ≡ true → (names : Names) (d : ℕ) → ArePlain names
    → tree_measure (quantified all vars base (meaning_at ts body) names d) ≡ over (kept_at es body ∷ [])
quantified_weighs ts es all vars base body h kind names d p =
    let inner = inside base d names in
    let tree = meaning_at ts body inner (d + length vars) in
    measure_of_quant all vars (formula_in tree) ∙ ap (λ (m : Measure). over (m ∷ [])) (formula_weighs tree (kind_is ts es body h inner (d + length vars) ∙ kind) ∙ kept_is ts es body h inner (d + length vars) (plain_inside base d names p))

pub quantified_is_measured : (ts : List Term) (es : List Entry) (all : Bool) (vars : List SortId) (base body : ℕ) (w : Measure) → AreMeasured ts es → kind_at ts body ≡ true → over (kept_at es body ∷ []) ≡ w → is_fit w ≡ true
    → IsMeasured (record { ty = Ty.Bool; meaning = quantified all vars base (meaning_at ts body) }) (record { node = Node.Quant all vars base body; ty = Ty.Bool; measure = w })
quantified_is_measured ts es all vars base body w h kind e fit = record {
  same = refl;
  kind = λ names d. refl;
  measure = λ names d p. quantified_weighs ts es all vars base body h kind names d p ∙ e;
  fit = fit;
}

length_after : (ts : List Term) (es : List Entry) → length (terms_after ts es) ≡ length ts + length es
length_after ts [] = omega arith
length_after ts (e ∷ es) =
    let h : length (terms_after (ts ++ term_of ts e ∷ []) es) ≡ length (ts ++ term_of ts e ∷ []) + length es = length_after (ts ++ term_of ts e ∷ []) es in
    let k : length (ts ++ term_of ts e ∷ []) ≡ length ts + 1 = length_push ts (term_of ts e) in
    omega (arith, h, k)

pub length_terms : (es : List Entry) → length (terms_of es) ≡ length es
length_terms es = let h : length (terms_after [] es) ≡ 0 + length es = length_after [] es in omega (arith, h)

-- what a push leaves
pub pushed_terms : (inside old new : List Entry) (e : Entry) → inside ≡ old → new ≡ inside ++ e ∷ [] → terms_of new ≡ terms_of old ++ term_of (terms_of old) e ∷ []
pushed_terms inside old new e v p = ap terms_of p ∙ terms_push inside e ∙ ap (λ (es : List Entry). terms_of es ++ term_of (terms_of es) e ∷ []) v

pub number_is : (inside old : List Entry) (n : ℕ) → inside ≡ old → n ≡ length inside → n ≡ length (terms_of old)
number_is inside old n v e = e ∙ ap length v ∙ sym (length_terms old)

-- whether what is made is within the limits
pub made_fits : (es : List Entry) (op : Op) (is : List ℕ) (b : Bool) → AreMeasured (terms_of es) es → takes op (map (kind_at (terms_of es)) is) ≡ true → b ≡ is_fit (weigh op (map (kept_at es) is)) → b ≡ is_fit (measure_of (made op (map (meaning_at (terms_of es)) is)))
made_fits es op is b h fits e = e ∙ ap is_fit (sym (made_weighs (terms_of es) es op is h fits no_names 0 plain_none))

pub quantified_fits : (es : List Entry) (all : Bool) (vars : List SortId) (base body : ℕ) (b : Bool) → AreMeasured (terms_of es) es → kind_at (terms_of es) body ≡ true → b ≡ is_fit (over (kept_at es body ∷ [])) → b ≡ is_fit (measure_of (quantified all vars base (meaning_at (terms_of es) body)))
quantified_fits es all vars base body b h kind e = e ∙ ap is_fit (sym (quantified_weighs (terms_of es) es all vars base body h kind no_names 0 plain_none))

pub type_is : (ts : List Term) (es : List Entry) (i : ℕ) → AreMeasured ts es → type_at ts i ≡ entry_type (slice_get es i)
type_is [] [] i h = refl
type_is [] (x ∷ es) i h = absurd h
type_is (x ∷ ts) [] i h = absurd h
type_is (x ∷ ts) (y ∷ es) zero h = h.0.same
type_is (x ∷ ts) (y ∷ es) (suc i) h = type_is ts es i h.1

pub type_read : (slice inside now : List Entry) (i : ℕ) (ty : Ty) → slice ≡ inside → inside ≡ now → AreMeasured (terms_of inside) inside → ty ≡ entry_type (slice_get slice i) → ty ≡ type_at (terms_of now) i
type_read slice inside now i ty v x h e =
    e ∙ ap (λ (es : List Entry). entry_type (slice_get es i)) v ∙ sym (type_is (terms_of inside) inside i h) ∙ ap (λ (es : List Entry). type_at (terms_of es) i) x

pub fit_of : {w m : Measure} → w ≡ m → true ≡ is_fit w → is_fit m ≡ true
fit_of e f = ap is_fit (sym e) ∙ sym f

kept_fits : (ts : List Term) (es : List Entry) (i : ℕ) → AreMeasured ts es → is_fit (kept_at es i) ≡ true
kept_fits [] [] i h = refl
kept_fits [] (x ∷ es) i h = absurd h
kept_fits (x ∷ ts) [] i h = absurd h
kept_fits (x ∷ ts) (y ∷ es) zero h = h.0.fit
kept_fits (x ∷ ts) (y ∷ es) (suc i) h = kept_fits ts es i h.1

pub measure_read : (slice inside now : List Entry) (i : ℕ) (m : Measure) → slice ≡ inside → inside ≡ now → AreMeasured (terms_of inside) inside → m ≡ kept_at slice i → m ≡ measure_of (meaning_at (terms_of now) i)
measure_read slice inside now i m v x h e =
    e ∙ ap (λ (es : List Entry). kept_at es i) v ∙ sym (kept_is (terms_of inside) inside i h no_names 0 plain_none) ∙ ap (λ (es : List Entry). measure_of (meaning_at (terms_of es) i)) x

pub measure_fits : (slice inside : List Entry) (i : ℕ) (m : Measure) → slice ≡ inside → AreMeasured (terms_of inside) inside → m ≡ kept_at slice i → is_fit m ≡ true
measure_fits slice inside i m v h e = ap is_fit e ∙ ap (λ (es : List Entry). is_fit (kept_at es i)) v ∙ kept_fits (terms_of inside) inside i h
