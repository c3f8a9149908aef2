-- The words and parentheses of a text stand in order, so the spans of its items lie within it.
use Rattle.std.proofs.Common.{◌≡◌, ℕ, ◌+◌, ◌≤◌, Bool, true, List, [], ◌∷◌, ◌++◌, length, drop, map, refl, sym, subst, ◌∙◌, append_assoc, arith}
use Rattle.std.proofs.lemmas.Bool.{and_from, le-leb}
use Rattle.fm_base.specs.declared.refusal.Place.{Place}
use Rattle.fm_sexp.specs.declared.pieces.Kind.{Kind}
use Rattle.fm_sexp.specs.declared.pieces.Shape.{Shape}
use Rattle.fm_sexp.specs.declared.pieces.Piece.{Piece}
use Rattle.fm_sexp.specs.declared.items.Sexp.{Sexp}
use Rattle.fm_sexp.specs.declared.items.Sexp.TheViews.{roll-Sexp}
use Rattle.fm_sexp.specs.declared.items.Sexp.TheOpen.{Sexp-F}
use Rattle.fm_sexp.specs.declared.items.Sexp.TheFolds.{fold-roll-Sexp, ind-Sexp, map-Sexp}
use Rattle.fm_sexp.specs.Pieces.{Covers}
use Rattle.fm_sexp.specs.Places.{place_of}
use Rattle.fm_sexp.specs.Items.{Token, token_of, tokens, flat, flat_step, flat_all, ReadsAs, bars_of, within_step, spans_within, all_within}
use Rattle.fm_sexp.proofs.Sizes.{bars_in, Sized, sized}

-- from lo to hi, in order, each word with its bars
abbrev Ordered : ℕ → ℕ → List Token → Type 0
Ordered lo hi [] = lo ≤ hi
Ordered lo hi (Token.Name kind start end at ∷ ts) = (lo ≤ start) × (start + bars_of kind ≤ end) × Ordered end hi ts
Ordered lo hi (Token.Opened start at ∷ ts) = (lo ≤ start) × Ordered start hi ts
Ordered lo hi (Token.Closed end ∷ ts) = (lo ≤ end) × Ordered end hi ts

lower : (low lo hi : ℕ) (ts : List Token) → low ≤ lo → Ordered lo hi ts → Ordered low hi ts
lower low lo hi [] le h = omega arith
lower low lo hi (Token.Name kind start end at ∷ ts) le h = (let k : lo ≤ start = h.0 in omega arith, h.1, h.2)
lower low lo hi (Token.Opened start at ∷ ts) le h = (let k : lo ≤ start = h.0 in omega arith, h.1)
lower low lo hi (Token.Closed end ∷ ts) le h = (let k : lo ≤ end = h.0 in omega arith, h.1)

below : (lo hi : ℕ) (ts : List Token) → Ordered lo hi ts → lo ≤ hi
below lo hi [] h = h
below lo hi (Token.Name kind start end at ∷ ts) h = let k : end ≤ hi = below end hi ts h.2 in let a : lo ≤ start = h.0 in let b : start + bars_of kind ≤ end = h.1 in omega arith
below lo hi (Token.Opened start at ∷ ts) h = let k : start ≤ hi = below start hi ts h.1 in let a : lo ≤ start = h.0 in omega arith
below lo hi (Token.Closed end ∷ ts) h = let k : end ≤ hi = below end hi ts h.1 in let a : lo ≤ end = h.0 in omega arith

token_ordered : (at len hi : ℕ) (place : Place) (shape : Shape) (ts : List Token) → bars_in shape ≤ len → Ordered (at + len) hi ts → Ordered at hi (token_of place at len shape ++ ts)
token_ordered at len hi place Shape.Blank ts bars h = lower at (at + len) hi ts (omega arith) h
token_ordered at len hi place Shape.Comment ts bars h = lower at (at + len) hi ts (omega arith) h
token_ordered at len hi place Shape.Open ts bars h = (omega arith, lower at (at + len) hi ts (omega arith) h)
token_ordered at len hi place Shape.Close ts bars h = (omega arith, h)
token_ordered at len hi place (Shape.Word kind) ts bars h = (omega arith, omega arith, h)

pieces_ordered : (text : List ℕ) (at : ℕ) (ps : List Piece) (to : ℕ) → Covers text at ps to → Ordered at to (tokens text at ps)
pieces_ordered text at [] to covers = let same : at ≡ to = covers in omega arith
pieces_ordered text at (p ∷ ps) to covers =
    let fits = subst (Sized (length (drop at text))) covers.0 (sized (drop at text)) in
    token_ordered at p.len to (place_of text at) p.shape (tokens text (at + p.len) ps) fits.2 (pieces_ordered text (at + p.len) ps to covers.1)

abbrev Lies : Sexp → Type 0
Lies x = (lo hi : ℕ) (r : List Token) → Ordered lo hi (flat x ++ r) → (spans_within hi x ≡ true) × ((mid : ℕ) × (lo ≤ mid) × Ordered mid hi r)

lies_all : (ys : List ((x : Sexp) × Lies x)) (lo hi : ℕ) (r : List Token) → Ordered lo hi (flat_all (map (λ (e : (x : Sexp) × Lies x). e.0) ys) ++ r)
    → (all_within hi (map (λ (e : (x : Sexp) × Lies x). e.0) ys) ≡ true) × ((mid : ℕ) × (lo ≤ mid) × Ordered mid hi r)
lies_all [] lo hi r h = (refl, (lo, omega arith, h))
lies_all (y ∷ ys) lo hi r h =
    let xs : List Sexp = map (λ (e : (x : Sexp) × Lies x). e.0) ys in
    let one = y.1 lo hi (flat_all xs ++ r) (subst (Ordered lo hi) (append_assoc (flat y.0) (flat_all xs) r) h) in
    let more = lies_all ys one.1.0 hi r one.1.2 in
    let first : lo ≤ one.1.0 = one.1.1 in
    let second : one.1.0 ≤ more.1.0 = more.1.1 in
    (and_from _ _ one.0 more.0, (more.1.0, omega arith, more.1.2))

lies_list : (ys : List ((x : Sexp) × Lies x)) (s e : ℕ) (at : Place) → Lies (roll-Sexp (Sexp-F.List (map (λ (e : (x : Sexp) × Lies x). e.0) ys) s e at))
lies_list ys s e at lo hi r h =
    let xs : List Sexp = map (λ (e : (x : Sexp) × Lies x). e.0) ys in
    let opened : Ordered lo hi ((Token.Opened s at ∷ (flat_all xs ++ Token.Closed e ∷ [])) ++ r) =
    subst (λ (ts : List Token). Ordered lo hi (ts ++ r)) (fold-roll-Sexp (List Token) flat_step (Sexp-F.List xs s e at)) h in
    let inner : Ordered s hi (flat_all xs ++ Token.Closed e ∷ r) = subst (Ordered s hi) (append_assoc (flat_all xs) (Token.Closed e ∷ []) r) opened.1 in
    let all = lies_all ys s hi (Token.Closed e ∷ r) inner in
    let start : lo ≤ s = opened.0 in
    let middle : s ≤ all.1.0 = all.1.1 in
    let closed : all.1.0 ≤ e = all.1.2.0 in
    let end : e ≤ hi = below e hi r all.1.2.1 in (
      fold-roll-Sexp Bool (within_step hi) (Sexp-F.List xs s e at) ∙ and_from _ _ (le-leb s e (omega arith)) (and_from _ _ (le-leb e hi end) all.0),
      (e, omega arith, all.1.2.1),
    )

lies_word : (kind : Kind) (s e : ℕ) (at : Place) → Lies (roll-Sexp (Sexp-F.Word kind s e at))
lies_word kind s e at lo hi r h =
    let named : Ordered lo hi (Token.Name kind s e at ∷ r) = subst (λ (ts : List Token). Ordered lo hi (ts ++ r)) (fold-roll-Sexp (List Token) flat_step (Sexp-F.Word kind s e at)) h in
    let start : lo ≤ s = named.0 in
    let bars : s + bars_of kind ≤ e = named.1 in
    let end : e ≤ hi = below e hi r named.2 in
    (fold-roll-Sexp Bool (within_step hi) (Sexp-F.Word kind s e at) ∙ and_from _ _ (le-leb (s + bars_of kind) e bars) (le-leb e hi end), (e, omega arith, named.2))

lies_layer : (y : Sexp-F ((x : Sexp) × Lies x)) (x : Sexp-F Sexp) → map-Sexp ((x : Sexp) × Lies x) Sexp (λ e. e.0) y ≡ x → Lies (roll-Sexp x)
lies_layer (Sexp-F.Word kind s e at) x is = subst (λ (z : Sexp-F Sexp). Lies (roll-Sexp z)) is (lies_word kind s e at)
lies_layer (Sexp-F.List ys s e at) x is = subst (λ (z : Sexp-F Sexp). Lies (roll-Sexp z)) is (lies_list ys s e at)

lies : (x : Sexp) → Lies x
lies = ind-Sexp Lies (λ x y is. lies_layer y x is)

lie_each : (xs : List Sexp) (lo hi : ℕ) → Ordered lo hi (flat_all xs) → all_within hi xs ≡ true
lie_each [] lo hi h = refl
lie_each (x ∷ xs) lo hi h = let one = lies x lo hi (flat_all xs) h in and_from _ _ one.0 (lie_each xs one.1.0 hi one.1.2)

pub all_lie : (text : List ℕ) (items : List Sexp) → ReadsAs text items → all_within (length text) items ≡ true
all_lie text items read = lie_each items 0 (length text) (subst (Ordered 0 (length text)) (sym read.tree) (pieces_ordered text 0 read.pieces (length text) read.covers))
