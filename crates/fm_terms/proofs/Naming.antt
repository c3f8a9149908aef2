-- The sorts of variables, and names that are bound together.
use Rattle.std.proofs.Common.{Bool, List, [], ap, append_assoc, drop, false, get_or, length, refl, subst, sym, true, ℕ, ◌++◌, ◌+◌, ◌<◌, ◌∙◌, ◌∷◌, ◌≡◌}
use Rattle.std.specs.Prelude.{Err, Option, Result, Some, codes, cond, not, ◌||◌}
use Rattle.std.proofs.lemmas.List.{drop_more}
use Rattle.std.specs.Borrow.{Bor}
use Rattle.std.specs.Str.{bytes_eq}
use Rattle.fm_base.specs.declared.ids.SortId.{SortId}
use Rattle.fm_base.specs.declared.refusal.Fail.{Fail}
use Rattle.fm_base.specs.declared.refusal.Place.{Place}
use Rattle.fm_base.specs.declared.refusal.Reason.{Reason}
use Rattle.fm_base.specs.declared.refusal.Refusal.{Refusal}
use Rattle.fm_base.specs.declared.signature.Ty.{Ty}
use Rattle.fm_sexp.specs.declared.items.Sexp.{Sexp}
use Rattle.fm_script.specs.Shown.{Name}
use Rattle.fm_script.specs.declared.command.Part.{Part}
use Rattle.fm_apply.specs.Applied.{Sort, refused}
use Rattle.fm_apply.specs.Scoped.{IsMade, sorts_in}
use Rattle.fm_levels.specs.Tables.{is_among_names, looked_up}
use Rattle.fm_terms.specs.Elaborate.{is_among, repeated, sort_named, unless_repeated, variable_sort, variable_sort_in}
use Rattle.fm_terms.specs.Scoped.{names_of, shown_pairs}

-- sorts

pub sort_is : (name : List ℕ) (es : List (List ℕ × Ty)) → sort_named name (sorts_in es) ≡ looked_up name es
sort_is name [] = refl
sort_is name (e ∷ es) = ap (λ (o : Option Ty). cond (bytes_eq e.0 name) (Some e.1) o) (sort_is name es)

-- a set of names that were seen

pub among_is : (name : List ℕ) (ns : List (List ℕ)) → is_among_names name ns ≡ is_among ns name
among_is name [] = refl
among_is name (n ∷ ns) = ap (λ (b : Bool). bytes_eq n name || b) (among_is name ns)

sort_passed : (b : Bool) (x y : Result SortId Refusal) → b ≡ false → cond b x y ≡ y
sort_passed true x y h = cc
sort_passed false x y h = refl

pub sort_by : (sorts : List Sort) (at : Place) (n : Name) (name : Option Name) (o : Option Ty) (r : Result SortId Fail) → name ≡ Some n → bytes_eq n.bytes (codes "Bool") ≡ false → o ≡ sort_named n.bytes sorts
    → IsMade r (variable_sort_in n.at o) → IsMade r (variable_sort sorts at name)
sort_by sorts at n name o r e b s h =
    subst (λ (x : Result SortId Refusal). IsMade r x)
    (sym (ap (variable_sort sorts at) e ∙ sort_passed (bytes_eq n.bytes (codes "Bool")) (Err (refused Reason.BoolArgument n.at)) (variable_sort_in n.at (sort_named n.bytes sorts)) b ∙ ap (variable_sort_in n.at) (sym s))) h

-- pairs whose names are looked at one after the other

next_pair : (ps : List (Part × Bor Sexp)) (i : ℕ) (p : Part × Bor Sexp) → i < length ps → p ≡ get_or ps i p → drop i ps ≡ p ∷ drop (i + 1) ps
next_pair ps i p lt is = subst (λ (y : Part × Bor Sexp). drop i ps ≡ y ∷ drop (i + 1) ps) (sym is) (drop_more ps i p lt)

not_false : (b : Bool) → false ≡ not b → b ≡ true
not_false true h = refl
not_false false h = cc

not_true : (b : Bool) → true ≡ not b → b ≡ false
not_true true h = cc
not_true false h = refl

place_chosen : (b : Bool) (at : Place) (o : Option Place) → b ≡ true → cond b (Some at) o ≡ Some at
place_chosen true at o h = refl
place_chosen false at o h = cc

place_passed : (b : Bool) (at : Place) (o : Option Place) → b ≡ false → cond b (Some at) o ≡ o
place_passed true at o h = cc
place_passed false at o h = refl

pub repeated_here : (ps : List (Part × Bor Sexp)) (i : ℕ) (p : Part × Bor Sexp) (seen : List (List ℕ)) (b : Bool) (whole : Option Place) → i < length ps → p ≡ get_or ps i p → b ≡ not (is_among_names p.0.bytes.now seen) → b ≡ false
    → repeated seen (shown_pairs (drop i ps)) ≡ whole → whole ≡ Some p.0.at
repeated_here ps i p seen b whole lt is e f h =
    let there : is_among seen p.0.bytes.now ≡ true = sym (among_is p.0.bytes.now seen) ∙ not_false (is_among_names p.0.bytes.now seen) (sym f ∙ e) in
    sym h ∙ ap (λ (l : List (Part × Bor Sexp)). repeated seen (shown_pairs l)) (next_pair ps i p lt is)
    ∙ place_chosen (is_among seen p.0.bytes.now) p.0.at (repeated (seen ++ p.0.bytes.now ∷ []) (shown_pairs (drop (i + 1) ps))) there

pub repeated_next : (ps : List (Part × Bor Sexp)) (i : ℕ) (p : Part × Bor Sexp) (seen new : List (List ℕ)) (b : Bool) (whole : Option Place) → i < length ps → p ≡ get_or ps i p → b ≡ not (is_among_names p.0.bytes.now seen) → b ≡ true → new ≡ seen ++ p.0.bytes.now ∷ []
    → repeated seen (shown_pairs (drop i ps)) ≡ whole → repeated new (shown_pairs (drop (i + 1) ps)) ≡ whole
repeated_next ps i p seen new b whole lt is e f n h =
    let there : is_among seen p.0.bytes.now ≡ false = sym (among_is p.0.bytes.now seen) ∙ not_true (is_among_names p.0.bytes.now seen) (sym f ∙ e) in
    ap (λ (l : List (List ℕ)). repeated l (shown_pairs (drop (i + 1) ps))) n
    ∙ sym (place_passed (is_among seen p.0.bytes.now) p.0.at (repeated (seen ++ p.0.bytes.now ∷ []) (shown_pairs (drop (i + 1) ps))) there)
    ∙ ap (λ (l : List (Part × Bor Sexp)). repeated seen (shown_pairs l)) (sym (next_pair ps i p lt is)) ∙ h

pub names_next : (ps : List (Part × Bor Sexp)) (i : ℕ) (p : Part × Bor Sexp) (seen new whole : List (List ℕ)) → i < length ps → p ≡ get_or ps i p → new ≡ seen ++ p.0.bytes.now ∷ []
    → seen ++ names_of (shown_pairs (drop i ps)) ≡ whole → new ++ names_of (shown_pairs (drop (i + 1) ps)) ≡ whole
names_next ps i p seen new whole lt is n h =
    let rest : List (List ℕ) = names_of (shown_pairs (drop (i + 1) ps)) in
    ap (λ (l : List (List ℕ)). l ++ rest) n ∙ append_assoc seen (p.0.bytes.now ∷ []) rest
    ∙ ap (λ (l : List (Part × Bor Sexp)). seen ++ names_of (shown_pairs l)) (sym (next_pair ps i p lt is)) ∙ h

pub distinct_stopped : {A : Type 0} (f : Fail) (o : Option Place) (at : Place) (x : Result A Refusal) → f ≡ Fail.Refused (refused Reason.BadShape at) → o ≡ Some at → IsMade (Err f) (unless_repeated o x)
distinct_stopped {A} f o at x e h =
    subst (λ (g : Fail). IsMade {A = A} (Err g) (unless_repeated o x)) (sym e) (ap (λ (p : Option Place). unless_repeated p x) h)
