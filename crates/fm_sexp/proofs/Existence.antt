-- Each text reads as items or is refused.
use Rattle.std.proofs.Common.{◌≡◌, ℕ, zero, suc, ◌+◌, ◌-◌, ◌<◌, ◌≤◌, ◌⊎◌, inl, inr, Some, List, [], ◌∷◌, ◌++◌, length, drop, refl, sym, ap, subst, ◌∙◌, append_assoc, arith, length-drop}
use Rattle.std.proofs.lemmas.Bool.{cases_lt, cond-true, lt-ltb}
use Rattle.std.proofs.lemmas.List.{append-nil, drop_all}
use Rattle.fm_base.specs.declared.refusal.Place.{Place}
use Rattle.fm_base.specs.declared.refusal.Reason.{Reason}
use Rattle.fm_base.specs.declared.refusal.Refusal.{Refusal}
use Rattle.fm_sexp.specs.declared.pieces.Shape.{Shape}
use Rattle.fm_sexp.specs.declared.pieces.Front.{Front}
use Rattle.fm_sexp.specs.declared.items.Sexp.{Sexp}
use Rattle.fm_sexp.specs.declared.items.Sexp.TheViews
use Rattle.fm_sexp.specs.declared.items.Sexp.TheViews.{roll-Sexp}
use Rattle.fm_sexp.specs.declared.items.Sexp.TheOpen.{Sexp-F}
use Rattle.fm_sexp.specs.Pieces.{piece_of, Covers}
use Rattle.fm_sexp.specs.Places.{place_of}
use Rattle.fm_sexp.specs.Items.{Token, flat_all, IsFault, ReadsAs, IsRefused}
use Rattle.fm_sexp.specs.Building.{IsReadTo}
use Rattle.fm_sexp.proofs.Sizes.{Sized, sized}
use Rattle.fm_sexp.proofs.Trees.{Around, flat_word, worded, closed}
use Rattle.fm_sexp.proofs.Reading.{read_more, refusal_at, some_left}

-- the open lists, the innermost first, and the items of the innermost
abbrev before_said : List Around → List Token
before_said [] = []
before_said (f ∷ fs) = before_said fs ++ (flat_all f.0 ++ Token.Opened f.1 f.2 ∷ [])

abbrev said : List Around → List Sexp → List Token
said fs cur = before_said fs ++ flat_all cur

abbrev pub Outcome : List ℕ → Type 0
Outcome text = ((items : List Sexp) × ReadsAs text items) ⊎ ((r : Refusal) × IsRefused text r)

abbrev Next : List ℕ → ℕ → Type 0
Next text to = (fs : List Around) (cur : List Sexp) → length fs ≤ 200 → IsReadTo text to (length fs) (said fs cur) → Outcome text

module _ (text : List ℕ) where
  refuse : (to depth : ℕ) (read : List Token) → IsReadTo text to depth read → (reason : Reason) (off : ℕ) → IsFault reason depth (drop to text) off → Outcome text
  refuse to depth read so_far reason off fault = inr (record { reason = reason; at = place_of text (to + off) }, refusal_at text to depth read so_far reason off fault)

  grow : (to len : ℕ) (shape : Shape) (fs : List Around) (cur : List Sexp) → length fs ≤ 200 → IsReadTo text to (length fs) (said fs cur)
      → piece_of (drop to text) ≡ Front.Found (record { shape = shape; len = len }) → Next text (to + len) → Outcome text
  grow to len Shape.Blank fs cur le read is next =
      next fs cur le (read_more text to (length fs) (said fs cur) read (record { shape = Shape.Blank; len = len }) (place_of text to) (said fs cur) (length fs) is refl refl (sym (append-nil (said fs cur))))
  grow to len Shape.Comment fs cur le read is next =
      next fs cur le (read_more text to (length fs) (said fs cur) read (record { shape = Shape.Comment; len = len }) (place_of text to) (said fs cur) (length fs) is refl refl (sym (append-nil (said fs cur))))
  grow to len (Shape.Word kind) fs cur le read is next =
      let place : Place = place_of text to in
      let new : List Sexp = cur ++ roll-Sexp (Sexp-F.Word kind to (to + len) place) ∷ [] in
      next fs new le (read_more text to (length fs) (said fs cur) read (record { shape = Shape.Word kind; len = len }) place (said fs new) (length fs) is refl refl
      (worded (before_said fs) cur new _ _ refl (flat_word kind to (to + len) place)))
  grow to len Shape.Open fs cur le read is next = by (cases_lt (length fs) 200)
    where
      by : (length fs < 200) ⊎ (200 ≤ length fs) → Outcome text
      by (inl lt) =
          let place : Place = place_of text to in
          let one : length fs + 1 ≡ suc (length fs) = omega arith in
          next ((cur, to, place) ∷ fs) [] (omega arith) (read_more text to (length fs) (said fs cur) read (record { shape = Shape.Open; len = len }) place (said ((cur, to, place) ∷ fs) []) (suc (length fs)) is
          (cond-true _ _ _ (lt-ltb (length fs) 200 lt) ∙ ap Some one) refl (append-nil _ ∙ sym (append_assoc (before_said fs) (flat_all cur) (Token.Opened to place ∷ []))))
      by (inr ge) = refuse to (length fs) (said fs cur) read Reason.TooDeep 0 (omega arith, refl, (len, is))
  grow to len Shape.Close [] cur le read is next = refuse to 0 (said [] cur) read Reason.Unbalanced 0 (refl, refl, (len, is))
  grow to len Shape.Close (f ∷ fs) cur le read is next =
      let new : List Sexp = f.0 ++ TheViews.List cur f.1 (to + len) f.2 ∷ [] in
      let one : suc (length fs) - 1 ≡ length fs = omega arith in
      next fs new (omega arith) (read_more text to (suc (length fs)) (said (f ∷ fs) cur) read (record { shape = Shape.Close; len = len }) (place_of text to) (said fs new) (length fs) is
      (cond-true _ _ _ (lt-ltb 0 (suc (length fs)) (omega arith)) ∙ ap Some one) refl (closed (before_said fs) f.0 cur f.1 (to + len) f.2))

  finish : (to : ℕ) (fs : List Around) (cur : List Sexp) → to ≡ length text → IsReadTo text to (length fs) (said fs cur) → Outcome text
  finish to [] cur end read = inl (
    cur,
    record {
      pieces = read.pieces;
      covers = subst (Covers text 0 read.pieces) end read.covers;
      depths = read.depths;
      tree = read.tree;
    },
  )
  finish to (f ∷ fs) cur end read =
      let none : drop to text ≡ [] = drop_all to text (omega arith) in
      refuse to (suc (length fs)) (said (f ∷ fs) cur) read Reason.UnexpectedEnd 0 (sym (ap length none), inr (omega arith, none))

  step : (to : ℕ) (front : Front) → piece_of (drop to text) ≡ front → to ≤ length text → (fs : List Around) (cur : List Sexp) → length fs ≤ 200
      → IsReadTo text to (length fs) (said fs cur) → ((till : ℕ) → to < till → till ≤ length text → Next text till) → Outcome text
  step to (Front.Wrong off) is within fs cur le read next = refuse to (length fs) (said fs cur) read Reason.Lexical off is
  step to Front.Unclosed is within fs cur le read next = by (cases_lt to (length text))
    where
      by : (to < length text) ⊎ (length text ≤ to) → Outcome text
      by (inl lt) = refuse to (length fs) (said fs cur) read Reason.UnexpectedEnd (length (drop to text)) (refl, inl (some_left text to lt, is))
      by (inr ge) = finish to fs cur (omega arith) read
  step to (Front.Found p) is within fs cur le read next =
      let fits = subst (Sized (length (drop to text))) is (sized (drop to text)) in
      let some : 0 < p.len = fits.0 in
      let most : p.len ≤ length (drop to text) = fits.1 in
      let left : length (drop to text) ≡ length text - to = length-drop to text in
      grow to p.len p.shape fs cur le read is (next (to + p.len) (omega arith) (omega arith))

  go : (n to : ℕ) → length text ≤ to + n → to ≤ length text → Next text to
  go zero to enough within fs cur le read = finish to fs cur (omega arith) read
  go (suc n) to enough within fs cur le read = step to (piece_of (drop to text)) refl within fs cur le read (λ till lt most. go n till (omega arith) most)

  pub each_text : Outcome text
  each_text = go (length text) 0 (omega arith) (omega arith) [] [] (omega arith) (record { pieces = []; covers = refl; depths = refl; tree = refl })
