-- What cutting an arena back leaves.
use Rattle.std.proofs.Common.{◌≡◌, ℕ, zero, suc, ◌+◌, ◌<◌, List, [], ◌∷◌, ◌++◌, length, take, ap, refl, sym, subst, ◌∙◌, arith, append-nil}
use Rattle.std.proofs.lemmas.List.{length_push, take_all}
use Rattle.std.proofs.Math.Seq.{take-append-add}
use Rattle.std.specs.Prelude.{Option, slice_get}
use Rattle.fm_arena.specs.Meanings.{Term, meaning_in, term_in, term_of, terms_after, terms_of, type_in}
use Rattle.fm_arena.specs.Kept.{AreMeasured}
use Rattle.fm_arena.specs.declared.node.Entry.{Entry}
use Rattle.fm_arena.proofs.Reading.{after_grows}

cut_after : (ts : List Term) (es : List Entry) (n : ℕ) → terms_after ts (take n es) ≡ take (length ts + n) (terms_after ts es)
cut_after ts [] zero = sym (take_all (length ts + 0) ts (omega arith))
cut_after ts [] (suc n) = sym (take_all (length ts + suc n) ts (omega arith))
cut_after ts (e ∷ es) zero =
    let g = after_grows ts (e ∷ es) in
    sym (ap (take (length ts + 0)) g.1 ∙ take-append-add ts g.0 0 ∙ append-nil ts)
cut_after ts (e ∷ es) (suc n) =
    let l : length (ts ++ term_of ts e ∷ []) ≡ length ts + 1 = length_push ts (term_of ts e) in
    let k : length (ts ++ term_of ts e ∷ []) + n ≡ length ts + suc n = omega (arith, l) in
    cut_after (ts ++ term_of ts e ∷ []) es n ∙ ap (λ (m : ℕ). take m (terms_after (ts ++ term_of ts e ∷ []) es)) k

terms_cut : (es : List Entry) (n : ℕ) → terms_of (take n es) ≡ take n (terms_of es)
terms_cut es n = let k : 0 + n ≡ n = omega arith in cut_after [] es n ∙ ap (λ (m : ℕ). take m (terms_of es)) k

measured_cut : (ts : List Term) (es : List Entry) (n : ℕ) → AreMeasured ts es → AreMeasured (take n ts) (take n es)
measured_cut [] [] zero h = tt
measured_cut [] [] (suc n) h = tt
measured_cut [] (e ∷ es) n h = absurd h
measured_cut (t ∷ ts) [] n h = absurd h
measured_cut (t ∷ ts) (e ∷ es) zero h = tt
measured_cut (t ∷ ts) (e ∷ es) (suc n) h = (h.0, measured_cut ts es n h.1)

pub cut_terms : (inside old new : List Entry) (n : ℕ) → inside ≡ old → new ≡ take n inside → terms_of new ≡ take n (terms_of old)
cut_terms inside old new n v e = ap terms_of e ∙ terms_cut inside n ∙ ap (λ (es : List Entry). take n (terms_of es)) v

pub cut_measured : (inside new : List Entry) (n : ℕ) → new ≡ take n inside → AreMeasured (terms_of inside) inside → AreMeasured (terms_of new) new
cut_measured inside new n e h =
    subst (λ (es : List Entry). AreMeasured (terms_of es) es) (sym e)
    (subst (λ (ts : List Term). AreMeasured ts (take n inside)) (sym (terms_cut inside n)) (measured_cut (terms_of inside) inside n h))

get_front : (ts more : List Term) (n : ℕ) → n < length ts → slice_get (ts ++ more) n ≡ slice_get ts n
get_front [] more n lt = absurd (omega (arith, lt))
get_front (t ∷ ts) more zero lt = refl
get_front (t ∷ ts) more (suc n) lt = get_front ts more n (omega (arith, lt))

get_taken : (ts : List Term) (mark n : ℕ) → n < mark → slice_get (take mark ts) n ≡ slice_get ts n
get_taken ts zero n lt = absurd (omega (arith, lt))
get_taken [] (suc mark) n lt = refl
get_taken (t ∷ ts) (suc mark) zero lt = refl
get_taken (t ∷ ts) (suc mark) (suc n) lt = get_taken ts mark n (omega (arith, lt))

pub front_stays : (ts more : List Term) (n : ℕ) → n < length ts → term_in (ts ++ more) n ≡ term_in ts n
front_stays ts more n lt = ap (λ (o : Option Term). record { ty = type_in o; meaning = meaning_in o }) (get_front ts more n lt)

pub taken_stays : (ts : List Term) (mark n : ℕ) → n < mark → term_in (take mark ts) n ≡ term_in ts n
taken_stays ts mark n lt = ap (λ (o : Option Term). record { ty = type_in o; meaning = meaning_in o }) (get_taken ts mark n lt)
