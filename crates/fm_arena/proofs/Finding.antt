-- The form that a definition keeps is one of its own number.
use Rattle.std.proofs.Common.{◌≡◌, ℕ, ◌<◌, List, [], ◌∷◌, ◌++◌, length, take, drop, ap, refl, sym, subst, ◌∙◌, arith, append_assoc, append-nil}
use Rattle.std.specs.Prelude.{Option, slice_get}
use Rattle.std.proofs.lemmas.List.{take-append-drop, length-take-le}
use Rattle.fm_base.specs.declared.signature.Ty.{Ty}
use Rattle.fm_arena.specs.Meanings.{Term, term_of, terms_after, terms_of, definition_made}
use Rattle.fm_arena.specs.Kept.{AreKept, IsAdded, MayFollow, entry_type, kept_at, terms_with}
use Rattle.fm_arena.specs.Weights.{Weights, Weighed, AreWeighedAfter, Follows, HasForm, IsForm, form_weight, inside_weights, weight_at, weighed, weighed_after, weighed_of, weighing_in, weighing_of}
use Rattle.fm_arena.specs.declared.forms.Form.{Form}
use Rattle.fm_arena.specs.declared.node.Entry.{Entry}
use Rattle.fm_arena.specs.declared.node.Node.{Node}
use Rattle.fm_arena.specs.declared.sizes.Measure.{Measure}
use Rattle.fm_arena.proofs.Reading.{at_length}
use Rattle.fm_arena.proofs.Growing.{measure_fits}
use Rattle.fm_arena.proofs.Passing.{weighed_append, length_weighed}
use Rattle.fm_arena.proofs.Using.{definition_follows, definition_is_measured, type_kept}

weighed_grows : (fs : List Weighed) (es : List Entry) → (more : List Weighed) × (weighed_after fs es ≡ fs ++ more)
weighed_grows fs [] = ([], sym (append-nil fs))
weighed_grows fs (e ∷ es) =
    let h = weighed_grows (fs ++ weighed fs e ∷ []) es in
    (weighed fs e ∷ h.0, h.1 ∙ append_assoc fs (weighed fs e ∷ []) h.0)

weight_split : (before rest : List Entry) (e : Entry) (w : Weights) → weight_at (weighed_of (before ++ e ∷ rest)) (length before) w ≡ weighing_of (weighed_of before) e.node w
weight_split before rest e w =
    let fs = weighed_of before in
    let g = weighed_grows (fs ++ weighed fs e ∷ []) rest in
    let all : weighed_of (before ++ e ∷ rest) ≡ fs ++ weighed fs e ∷ g.0 = weighed_append [] before (e ∷ rest) ∙ g.1 ∙ append_assoc fs (weighed fs e ∷ []) g.0 in
    ap (λ (l : List Weighed). weight_at l (length before) w) all
    ∙ ap (λ (n : ℕ). weight_at (fs ++ weighed fs e ∷ g.0) n w) (sym (length_weighed before))
    ∙ ap (λ (o : Option Weighed). weighing_in o w) (at_length fs g.0 (weighed fs e))

follows_at : (ts : List Term) (fs : List Weighed) (before rest : List Entry) (e : Entry) → AreWeighedAfter ts fs (before ++ e ∷ rest) → Follows (terms_after ts before) (weighed_after fs before) e
follows_at ts fs [] rest e h = h.0
follows_at ts fs (x ∷ before) rest e h = follows_at (ts ++ term_of ts x ∷ []) (fs ++ weighed fs x ∷ []) before rest e h.1

whole_is : (es before rest tail : List Entry) (n : ℕ) (e : Entry) → before ≡ take n es → rest ≡ drop n es → rest ≡ e ∷ tail → es ≡ before ++ e ∷ tail
whole_is es before rest tail n e b r t = sym (take-append-drop n es) ∙ ap (λ (l : List Entry). l ++ drop n es) (sym b) ∙ ap (λ (l : List Entry). before ++ l) (sym r ∙ t)

pub formed_at : (es before rest tail : List Entry) (n : ℕ) (e : Entry) → before ≡ take n es → rest ≡ drop n es → rest ≡ e ∷ tail → AreWeighedAfter [] [] es → HasForm (weighed_of before) e.node
formed_at es before rest tail n e b r t h = (follows_at [] [] before tail e (subst (λ (l : List Entry). AreWeighedAfter [] [] l) (whole_is es before rest tail n e b r t) h)).formed

pub form_at : (es before rest tail : List Entry) (n : ℕ) (e : Entry) (form : Form) → n < length es → before ≡ take n es → rest ≡ drop n es → rest ≡ e ∷ tail
    → ((w : Weights) → weighing_of (weighed_of before) e.node (inside_weights (length form.params) w) ≡ form_weight form w) → IsForm (weighed_of es) n form
form_at es before rest tail n e form lt b r t h = λ w.
    let v = inside_weights (length form.params) w in
    let size : n ≡ length before = sym (ap length b ∙ length-take-le n es (omega (arith, lt))) in
    ap (λ (l : List Entry). weight_at (weighed_of l) n v) (whole_is es before rest tail n e b r t)
    ∙ ap (λ (k : ℕ). weight_at (weighed_of (before ++ e ∷ tail)) k v) size
    ∙ weight_split before tail e v ∙ h w

-- what defining leaves
pub definition_may_follow : (first second third inside : List Entry) (body : ℕ) (form : Form) (ty : Ty) (m : Measure) → first ≡ inside → second ≡ inside → third ≡ inside → AreKept inside → IsForm (weighed_of first) body form
    → ty ≡ entry_type (slice_get second body) → m ≡ kept_at third body → MayFollow inside (record { node = Node.Defined body form; ty = ty; measure = m })
definition_may_follow first second third inside body form ty m f s v h is k e =
    let there = subst (λ (es : List Entry). IsForm (weighed_of es) body form) f is in
    let same : m ≡ kept_at inside body = e ∙ ap (λ (es : List Entry). kept_at es body) v in
    subst (λ (a : Ty). MayFollow inside (record { node = Node.Defined body form; ty = a; measure = m })) (sym (type_kept second inside body ty s h k))
    (definition_is_measured inside body form m h same (measure_fits inside inside body m refl h.0 same), definition_follows inside body form m h there)

pub definition_added : (second inside now new : List Entry) (body : ℕ) (form : Form) (ty : Ty) (m : Measure) → second ≡ inside → inside ≡ now → AreKept inside → ty ≡ entry_type (slice_get second body)
    → terms_of new ≡ terms_with inside (record { node = Node.Defined body form; ty = ty; measure = m }) → IsAdded now new (definition_made body)
definition_added second inside now new body form ty m s x h k e =
    subst (λ (es : List Entry). IsAdded es new (definition_made body)) x
    (subst (λ (a : Ty). terms_of new ≡ terms_with inside (record { node = Node.Defined body form; ty = a; measure = m })) (type_kept second inside body ty s h k) e)
