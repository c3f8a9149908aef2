-- What a use of a definition weighs, by what is kept.
use Rattle.std.proofs.Common.{◌≡◌, ℕ, zero, suc, ◌≤◌, Bool, true, false, List, [], ◌∷◌, length, map, ap, refl, sym, subst, ◌∙◌, arith}
use Rattle.std.specs.Prelude.{nat_lt, cond, slice_get, Option, Some, None}
use Rattle.std.proofs.Math.Path.{fun_ext}
use Rattle.std.proofs.lemmas.Bool.{ltb-false}
use Rattle.fm_base.specs.Truth.{is_bool}
use Rattle.fm_base.specs.declared.signature.Ty.{Ty}
use Rattle.fm_arena.specs.Measures.{one, tree_measure, is_fit}
use Rattle.fm_arena.specs.Meanings.{Names, no_names, applied, meaning_at, terms_of, type_at, measure_of, use_made}
use Rattle.fm_arena.specs.Kept.{ArePlain, AreKept, IsAdded, IsMeasured, MayFollow, entry_type, kept_at, kept_argument, kept_arguments, terms_with}
use Rattle.fm_arena.specs.Weights.{Weights, Weighed, ones, inside_weights, read_as, weight_at, weighed_of, truth_in, argument_of, arguments, form_weight, IsForm, IsUse, Follows}
use Rattle.fm_arena.specs.declared.forms.Form.{Form}
use Rattle.fm_arena.specs.declared.sizes.Measure.{Measure}
use Rattle.fm_arena.specs.declared.node.Entry.{Entry}
use Rattle.fm_arena.specs.declared.node.Node.{Node}
use Rattle.fm_arena.proofs.Growing.{kept_is, kind_is, plain_none, type_is}
use Rattle.fm_arena.proofs.Weighing.{are_weighed, none_stand, plain_stand, truth_at, use_weight, weighed_at}

weight_kept : (es : List Entry) (i : ℕ) → AreKept es → weight_at (weighed_of es) i ones ≡ kept_at es i
weight_kept es i h = sym (weighed_at (terms_of es) (weighed_of es) i (are_weighed es h.1) no_names ones 0 none_stand) ∙ kept_is (terms_of es) es i h.0 no_names 0 plain_none

truth_kept : (es : List Entry) (i : ℕ) → AreKept es → truth_in (slice_get (weighed_of es) i) ≡ is_bool (entry_type (slice_get es i))
truth_kept es i h = truth_at (terms_of es) (weighed_of es) i (are_weighed es h.1) ∙ ap is_bool (type_is (terms_of es) es i h.0)

argument_kept : (es : List Entry) (o : Option ℕ) (truth : Bool) → AreKept es → argument_of (weighed_of es) ones o truth ≡ kept_argument es o truth
argument_kept es None truth h = refl
argument_kept es (Some i) truth h =
    ap (λ (k : Bool). read_as k truth (weight_at (weighed_of es) i ones)) (truth_kept es i h)
    ∙ ap (λ (m : Measure). read_as (is_bool (entry_type (slice_get es i))) truth m) (weight_kept es i h)

arguments_kept : (es : List Entry) (is : List ℕ) → AreKept es → arguments (weighed_of es) is ones ≡ kept_arguments es is
arguments_kept es is h = fun_ext (λ (place : ℕ). fun_ext (λ (truth : Bool). argument_kept es (slice_get is place) truth h))

-- arguments past the parameters are none
past_none : (is : List ℕ) (place n : ℕ) → length is ≤ n → n ≤ place → slice_get is place ≡ None
past_none [] place n le e = refl
past_none (i ∷ is) zero n le e = absurd (omega (arith, le, e))
past_none (i ∷ is) (suc place) zero le e = absurd (omega (arith, le))
past_none (i ∷ is) (suc place) (suc n) le e = past_none is place n (omega (arith, le)) (omega (arith, e))

enough_at : (fs : List Weighed) (is : List ℕ) (w : Weights) (n place : ℕ) (truth b : Bool) → length is ≤ n → nat_lt place n ≡ b → cond b (arguments fs is w place truth) one ≡ arguments fs is w place truth
enough_at fs is w n place truth true le e = refl
enough_at fs is w n place truth false le e = sym (ap (λ (o : Option ℕ). argument_of fs w o truth) (past_none is place n le (ltb-false place n e)))

pub enough : (fs : List Weighed) (is : List ℕ) (w : Weights) (n : ℕ) → length is ≤ n → inside_weights n (arguments fs is w) ≡ arguments fs is w
enough fs is w n le = fun_ext (λ (place : ℕ). fun_ext (λ (truth : Bool). enough_at fs is w n place truth (nat_lt place n) le refl))

pub use_weighs : (es : List Entry) (body : ℕ) (is : List ℕ) (form : Form) → AreKept es → IsUse (weighed_of es) body is form → (names : Names) (d : ℕ) → ArePlain names
    → tree_measure (applied (meaning_at (terms_of es) body) (map (meaning_at (terms_of es)) is) names d) ≡ form_weight form (kept_arguments es is)
use_weighs es body is form h u names d p =
    let fs = weighed_of es in
    let w = arguments fs is ones in
    use_weight (terms_of es) es fs body is h.0 (are_weighed es h.1) names ones d (plain_stand names p)
    ∙ ap (weight_at fs body) (sym (enough fs is ones (length form.params) u.enough))
    ∙ u.weighs w
    ∙ ap (form_weight form) (arguments_kept es is h)

pub use_fits : (es : List Entry) (body : ℕ) (is : List ℕ) (form : Form) (b : Bool) → AreKept es → IsUse (weighed_of es) body is form → b ≡ is_fit (form_weight form (kept_arguments es is))
    → b ≡ is_fit (measure_of (applied (meaning_at (terms_of es) body) (map (meaning_at (terms_of es)) is)))
use_fits es body is form b h u e = e ∙ ap is_fit (sym (use_weighs es body is form h u no_names 0 plain_none))

pub use_is_measured : (es : List Entry) (body : ℕ) (is : List ℕ) (form : Form) (m : Measure) → AreKept es → IsUse (weighed_of es) body is form → form_weight form (kept_arguments es is) ≡ m → is_fit m ≡ true
    → IsMeasured (record { ty = type_at (terms_of es) body; meaning = applied (meaning_at (terms_of es) body) (map (meaning_at (terms_of es)) is) }) (record { node = Node.Use body is form; ty = type_at (terms_of es) body; measure = m })
use_is_measured es body is form m h u e f = record {
  same = refl;
  kind = λ names d. kind_is (terms_of es) es body h.0 _ d;
  measure = λ names d p. use_weighs es body is form h u names d p ∙ e;
  fit = f;
}

pub use_follows : (es : List Entry) (body : ℕ) (is : List ℕ) (form : Form) (m : Measure) → AreKept es → IsUse (weighed_of es) body is form
    → Follows (terms_of es) (weighed_of es) (record { node = Node.Use body is form; ty = type_at (terms_of es) body; measure = m })
use_follows es body is form m h u = record {
  weighed = record { truth = refl; weight = λ names w d s. use_weight (terms_of es) es (weighed_of es) body is h.0 (are_weighed es h.1) names w d s };
  formed = u;
}

-- a definition reads as its body
pub definition_is_measured : (es : List Entry) (body : ℕ) (form : Form) (m : Measure) → AreKept es → m ≡ kept_at es body → is_fit m ≡ true
    → IsMeasured (record { ty = type_at (terms_of es) body; meaning = meaning_at (terms_of es) body }) (record { node = Node.Defined body form; ty = type_at (terms_of es) body; measure = m })
definition_is_measured es body form m h e f = record {
  same = refl;
  kind = λ names d. kind_is (terms_of es) es body h.0 names d;
  measure = λ names d p. kept_is (terms_of es) es body h.0 names d p ∙ sym e;
  fit = f;
}

pub definition_follows : (es : List Entry) (body : ℕ) (form : Form) (m : Measure) → AreKept es → IsForm (weighed_of es) body form
    → Follows (terms_of es) (weighed_of es) (record { node = Node.Defined body form; ty = type_at (terms_of es) body; measure = m })
definition_follows es body form m h f = record {
  weighed = record { truth = refl; weight = λ names w d s. weighed_at (terms_of es) (weighed_of es) body (are_weighed es h.1) names w d s };
  formed = f;
}

-- from what the arena's call has
use_inside : (inside now : List Entry) (body : ℕ) (is : List ℕ) (form : Form) → inside ≡ now → IsUse (weighed_of now) body is form → IsUse (weighed_of inside) body is form
use_inside inside now body is form x u = subst (λ (es : List Entry). IsUse (weighed_of es) body is form) (sym x) u

lent : (slice inside : List Entry) (given is : List ℕ) (form : Form) → slice ≡ inside → given ≡ is → form_weight form (kept_arguments slice given) ≡ form_weight form (kept_arguments inside is)
lent slice inside given is form v g = ap (λ (es : List Entry). form_weight form (kept_arguments es given)) v ∙ ap (λ (js : List ℕ). form_weight form (kept_arguments inside js)) g

pub use_fits_by : (slice inside now : List Entry) (given is : List ℕ) (body : ℕ) (form : Form) (b : Bool) → slice ≡ inside → given ≡ is → inside ≡ now → AreKept inside → IsUse (weighed_of now) body is form
    → b ≡ is_fit (form_weight form (kept_arguments slice given)) → b ≡ is_fit (measure_of (applied (meaning_at (terms_of now) body) (map (meaning_at (terms_of now)) is)))
use_fits_by slice inside now given is body form b v g x h u e =
    subst (λ (es : List Entry). b ≡ is_fit (measure_of (applied (meaning_at (terms_of es) body) (map (meaning_at (terms_of es)) is)))) x
    (use_fits inside body is form b h (use_inside inside now body is form x u) (e ∙ ap is_fit (lent slice inside given is form v g)))

pub type_kept : (slice inside : List Entry) (body : ℕ) (ty : Ty) → slice ≡ inside → AreKept inside → ty ≡ entry_type (slice_get slice body) → ty ≡ type_at (terms_of inside) body
type_kept slice inside body ty v h e = e ∙ ap (λ (es : List Entry). entry_type (slice_get es body)) v ∙ sym (type_is (terms_of inside) inside body h.0)

pub use_follows_by : (first slice inside now : List Entry) (given is : List ℕ) (body : ℕ) (form : Form) (ty : Ty) (m : Measure) → first ≡ inside → slice ≡ inside → given ≡ is → inside ≡ now → AreKept inside → IsUse (weighed_of now) body is form
    → ty ≡ entry_type (slice_get first body) → form_weight form (kept_arguments slice given) ≡ m → true ≡ is_fit (form_weight form (kept_arguments slice given)) → MayFollow inside (record { node = Node.Use body is form; ty = ty; measure = m })
use_follows_by first slice inside now given is body form ty m f v g x h u k e t =
    let there = use_inside inside now body is form x u in
    subst (λ (a : Ty). MayFollow inside (record { node = Node.Use body is form; ty = a; measure = m })) (sym (type_kept first inside body ty f h k))
    (use_is_measured inside body is form m h there (sym (lent slice inside given is form v g) ∙ e) (ap is_fit (sym e) ∙ sym t), use_follows inside body is form m h there)

pub use_added : (first inside now new : List Entry) (is : List ℕ) (body : ℕ) (form : Form) (ty : Ty) (m : Measure) → first ≡ inside → inside ≡ now → AreKept inside → ty ≡ entry_type (slice_get first body)
    → terms_of new ≡ terms_with inside (record { node = Node.Use body is form; ty = ty; measure = m }) → IsAdded now new (use_made body is)
use_added first inside now new is body form ty m f x h k e =
    subst (λ (es : List Entry). IsAdded es new (use_made body is)) x
    (subst (λ (a : Ty). terms_of new ≡ terms_with inside (record { node = Node.Use body is form; ty = a; measure = m })) (type_kept first inside body ty f h k) e)
