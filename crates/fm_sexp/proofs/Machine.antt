-- Items are found again from their words and parentheses.
use Rattle.std.proofs.Common.{◌≡◌, ℕ, Option, Some, None, List, [], ◌∷◌, ◌++◌, map, sym, ap, subst, ◌∙◌, append_assoc}
use Rattle.std.proofs.lemmas.List.{append-nil}
use Rattle.fm_base.specs.declared.refusal.Place.{Place}
use Rattle.fm_sexp.specs.declared.items.Sexp.{Sexp}
use Rattle.fm_sexp.specs.declared.items.Sexp.TheViews
use Rattle.fm_sexp.specs.declared.items.Sexp.TheViews.{roll-Sexp}
use Rattle.fm_sexp.specs.declared.items.Sexp.TheVariants.{rolls-List}
use Rattle.fm_sexp.specs.declared.items.Sexp.TheOpen.{Sexp-F}
use Rattle.fm_sexp.specs.declared.items.Sexp.TheFolds.{fold-roll-Sexp, ind-Sexp, map-Sexp}
use Rattle.fm_sexp.specs.Items.{Token, tokens, joined, flat, flat_step, flat_all, ReadsAs}
use Rattle.fm_sexp.proofs.Trees.{Around}
use Rattle.fm_sexp.proofs.Uniqueness.{same_reading}
use Rattle.fm_sexp.specs.declared.pieces.Piece.{Piece}

abbrev run : List Token → List Around → List Sexp → Option (List Sexp)
run [] [] cur = Some cur
run [] (f ∷ fs) cur = None
run (Token.Name kind start end at ∷ ts) fs cur = run ts fs (cur ++ roll-Sexp (Sexp-F.Word kind start end at) ∷ [])
run (Token.Opened start at ∷ ts) fs cur = run ts ((cur, start, at) ∷ fs) []
run (Token.Closed end ∷ ts) [] cur = None
run (Token.Closed end ∷ ts) (f ∷ fs) cur = run ts fs (f.0 ++ TheViews.List cur f.1 end f.2 ∷ [])

abbrev Puts : Sexp → Type 0
Puts x = (r : List Token) (fs : List Around) (cur : List Sexp) → run (flat x ++ r) fs cur ≡ run r fs (cur ++ x ∷ [])

puts_all : (ys : List ((x : Sexp) × Puts x)) (r : List Token) (fs : List Around) (cur : List Sexp)
    → run (joined (map flat (map (λ (e : (x : Sexp) × Puts x). e.0) ys)) ++ r) fs cur ≡ run r fs (cur ++ map (λ (e : (x : Sexp) × Puts x). e.0) ys)
puts_all [] r fs cur = ap (run r fs) (sym (append-nil cur))
puts_all (y ∷ ys) r fs cur =
    let xs : List Sexp = map (λ (e : (x : Sexp) × Puts x). e.0) ys in
    ap (λ (ts : List Token). run ts fs cur) (append_assoc (flat y.0) (joined (map flat xs)) r) ∙ y.1 (joined (map flat xs) ++ r) fs cur
    ∙ puts_all ys r fs (cur ++ y.0 ∷ []) ∙ ap (run r fs) (append_assoc cur (y.0 ∷ []) xs)

puts_list : (ys : List ((x : Sexp) × Puts x)) (s e : ℕ) (at : Place) → Puts (roll-Sexp (Sexp-F.List (map (λ (e : (x : Sexp) × Puts x). e.0) ys) s e at))
puts_list ys s e at r fs cur =
    let xs : List Sexp = map (λ (e : (x : Sexp) × Puts x). e.0) ys in
    ap (λ (ts : List Token). run (ts ++ r) fs cur) (fold-roll-Sexp (List Token) flat_step (Sexp-F.List xs s e at))
    ∙ ap (λ (ts : List Token). run ts ((cur, s, at) ∷ fs) []) (append_assoc (flat_all xs) (Token.Closed e ∷ []) r)
    ∙ puts_all ys (Token.Closed e ∷ r) ((cur, s, at) ∷ fs) []
    ∙ ap (λ (x : Sexp). run r fs (cur ++ x ∷ [])) (sym (rolls-List xs s e at))

puts_layer : (y : Sexp-F ((x : Sexp) × Puts x)) (x : Sexp-F Sexp) → map-Sexp ((x : Sexp) × Puts x) Sexp (λ e. e.0) y ≡ x → Puts (roll-Sexp x)
puts_layer (Sexp-F.Word kind s e at) x is =
    subst (λ (z : Sexp-F Sexp). Puts (roll-Sexp z)) is (λ r fs cur. ap (λ (ts : List Token). run (ts ++ r) fs cur) (fold-roll-Sexp (List Token) flat_step (Sexp-F.Word kind s e at)))
puts_layer (Sexp-F.List ys s e at) x is = subst (λ (z : Sexp-F Sexp). Puts (roll-Sexp z)) is (puts_list ys s e at)

puts : (x : Sexp) → Puts x
puts = ind-Sexp Puts (λ x y is. puts_layer y x is)

puts_each : (xs : List Sexp) (r : List Token) (cur : List Sexp) → run (flat_all xs ++ r) [] cur ≡ run r [] (cur ++ xs)
puts_each [] r cur = ap (run r []) (sym (append-nil cur))
puts_each (x ∷ xs) r cur =
    ap (λ (ts : List Token). run ts [] cur) (append_assoc (flat x) (flat_all xs) r) ∙ puts x (flat_all xs ++ r) [] cur
    ∙ puts_each xs r (cur ++ x ∷ []) ∙ ap (run r []) (append_assoc cur (x ∷ []) xs)

found_again : (xs : List Sexp) → run (flat_all xs) [] [] ≡ Some xs
found_again xs = ap (λ (ts : List Token). run ts [] []) (sym (append-nil (flat_all xs))) ∙ puts_each xs [] []

pub same_items : (text : List ℕ) (xs ys : List Sexp) → ReadsAs text xs → ReadsAs text ys → xs ≡ ys
same_items text xs ys r q =
    let flats : flat_all xs ≡ flat_all ys = r.tree ∙ ap (λ (ps : List Piece). tokens text 0 ps) (same_reading text xs ys r q) ∙ sym q.tree in
    let somes : Some xs ≡ Some ys = sym (found_again xs) ∙ ap (λ (ts : List Token). run ts [] []) flats ∙ found_again ys in
    cc somes
