-- What the arena's calls leave, from the slices that they lend.
use Rattle.std.proofs.Common.{◌≡◌, ℕ, Bool, true, List, [], ◌∷◌, map, ap, sym, subst, ◌∙◌}
use Rattle.fm_base.specs.Truth.{is_bool}
use Rattle.fm_base.specs.declared.ids.SortId.{SortId}
use Rattle.fm_base.specs.declared.signature.Ty.{Ty}
use Rattle.fm_arena.specs.Trees.{takes, makes_truth}
use Rattle.fm_arena.specs.Measures.{over, weigh, is_fit}
use Rattle.fm_arena.specs.declared.sizes.Measure.{Measure}
use Rattle.fm_arena.specs.Meanings.{made, quantified, meaning_at, terms_of, kind_at, measure_of}
use Rattle.fm_arena.specs.Kept.{kept_at, IsMeasured, AreMeasured}
use Rattle.fm_arena.specs.declared.node.Op.{Op}
use Rattle.fm_arena.specs.declared.node.Node.{Node}
use Rattle.fm_arena.specs.declared.node.Entry.{Entry}
use Rattle.fm_arena.proofs.Growing.{made_fits, made_is_measured, quantified_fits, quantified_is_measured}

weigh_lent : (op : Op) (slice inside : List Entry) (parts is : List ℕ) → slice ≡ inside → parts ≡ is → weigh op (map (kept_at slice) parts) ≡ weigh op (map (kept_at inside) is)
weigh_lent op slice inside parts is v w = ap (λ (es : List Entry). weigh op (map (kept_at es) parts)) v ∙ ap (λ (js : List ℕ). weigh op (map (kept_at inside) js)) w

kinds_inside : (inside now : List Entry) (op : Op) (is : List ℕ) → inside ≡ now → takes op (map (kind_at (terms_of now)) is) ≡ true → takes op (map (kind_at (terms_of inside)) is) ≡ true
kinds_inside inside now op is x k = subst (λ (es : List Entry). takes op (map (kind_at (terms_of es)) is) ≡ true) (sym x) k

pub made_fits_by : (slice inside now : List Entry) (parts is : List ℕ) (op : Op) (b : Bool) → slice ≡ inside → parts ≡ is → inside ≡ now → AreMeasured (terms_of inside) inside
    → takes op (map (kind_at (terms_of now)) is) ≡ true → b ≡ is_fit (weigh op (map (kept_at slice) parts)) → b ≡ is_fit (measure_of (made op (map (meaning_at (terms_of now)) is)))
made_fits_by slice inside now parts is op b v w x h k e =
    subst (λ (es : List Entry). b ≡ is_fit (measure_of (made op (map (meaning_at (terms_of es)) is)))) x
    (made_fits inside op is b h (kinds_inside inside now op is x k) (e ∙ ap is_fit (weigh_lent op slice inside parts is v w)))

pub made_measured_by : (slice inside now : List Entry) (parts is : List ℕ) (op : Op) (ty : Ty) (w : Measure) → slice ≡ inside → parts ≡ is → inside ≡ now → AreMeasured (terms_of inside) inside
    → takes op (map (kind_at (terms_of now)) is) ≡ true → is_bool ty ≡ makes_truth op → weigh op (map (kept_at slice) parts) ≡ w → is_fit w ≡ true
    → IsMeasured (record { ty = ty; meaning = made op (map (meaning_at (terms_of inside)) is) }) (record { node = Node.Made op is; ty = ty; measure = w })
made_measured_by slice inside now parts is op ty w v u x h k kind e fit =
    made_is_measured (terms_of inside) inside op is ty w h (kinds_inside inside now op is x k) kind (sym (weigh_lent op slice inside parts is v u) ∙ e) fit

pub quantified_fits_by : (slice inside now : List Entry) (all : Bool) (vars : List SortId) (base body : ℕ) (b : Bool) → slice ≡ inside → inside ≡ now → AreMeasured (terms_of inside) inside
    → kind_at (terms_of now) body ≡ true → b ≡ is_fit (over (kept_at slice body ∷ [])) → b ≡ is_fit (measure_of (quantified all vars base (meaning_at (terms_of now) body)))
quantified_fits_by slice inside now all vars base body b v x h k e =
    subst (λ (es : List Entry). b ≡ is_fit (measure_of (quantified all vars base (meaning_at (terms_of es) body)))) x
    (quantified_fits inside all vars base body b h (subst (λ (es : List Entry). kind_at (terms_of es) body ≡ true) (sym x) k) (e ∙ ap (λ (es : List Entry). is_fit (over (kept_at es body ∷ []))) v))

pub quantified_measured_by : (slice inside now : List Entry) (all : Bool) (vars : List SortId) (base body : ℕ) (w : Measure) → slice ≡ inside → inside ≡ now → AreMeasured (terms_of inside) inside
    → kind_at (terms_of now) body ≡ true → over (kept_at slice body ∷ []) ≡ w → is_fit w ≡ true
    → IsMeasured (record { ty = Ty.Bool; meaning = quantified all vars base (meaning_at (terms_of inside) body) }) (record { node = Node.Quant all vars base body; ty = Ty.Bool; measure = w })
quantified_measured_by slice inside now all vars base body w v x h k e fit =
    quantified_is_measured (terms_of inside) inside all vars base body w h (subst (λ (es : List Entry). kind_at (terms_of es) body ≡ true) (sym x) k) (sym (ap (λ (es : List Entry). over (kept_at es body ∷ [])) v) ∙ e) fit
