-- The words and parentheses of items, and those of a builder.
use Rattle.std.proofs.Common.{◌≡◌, ℕ, List, [], ◌∷◌, ◌++◌, map, refl, sym, ap, ◌∙◌, append_assoc}
use Rattle.std.proofs.lemmas.List.{append-nil, map_push}
use Rattle.fm_base.specs.declared.refusal.Place.{Place}
use Rattle.fm_sexp.specs.declared.pieces.Kind.{Kind}
use Rattle.fm_sexp.specs.declared.items.Sexp.{Sexp}
use Rattle.fm_sexp.specs.declared.items.Sexp.TheViews
use Rattle.fm_sexp.specs.declared.items.Sexp.TheViews.{roll-Sexp}
use Rattle.fm_sexp.specs.declared.items.Sexp.TheVariants.{rolls-List}
use Rattle.fm_sexp.specs.declared.items.Sexp.TheOpen.{Sexp-F}
use Rattle.fm_sexp.specs.declared.items.Sexp.TheFolds.{fold-roll-Sexp}
use Rattle.fm_sexp.specs.declared.building.Frame.{Frame}
use Rattle.fm_sexp.specs.Items.{Token, joined, flat, flat_step, flat_all}
use Rattle.fm_sexp.specs.Building.{before_all}

-- an open list: what stands before it, and where it began
abbrev pub Around : Type 0
Around = List Sexp × ℕ × Place

pub flat_word : (k : Kind) (s e : ℕ) (at : Place) → flat (roll-Sexp (Sexp-F.Word k s e at)) ≡ Token.Name k s e at ∷ []
flat_word k s e at = fold-roll-Sexp (List Token) flat_step (Sexp-F.Word k s e at)

pub flat_list : (xs : List Sexp) (s e : ℕ) (at : Place) → flat (TheViews.List xs s e at) ≡ Token.Opened s at ∷ (flat_all xs ++ Token.Closed e ∷ [])
flat_list xs s e at = ap flat (sym (rolls-List xs s e at)) ∙ fold-roll-Sexp (List Token) flat_step (Sexp-F.List xs s e at)

joined_push : (xss : List (List Token)) (ys : List Token) → joined (xss ++ ys ∷ []) ≡ joined xss ++ ys
joined_push [] ys = append-nil ys
joined_push (xs ∷ xss) ys = ap (λ (r : List Token). xs ++ r) (joined_push xss ys) ∙ sym (append_assoc xs (joined xss) ys)

pub flat_all_push : (xs : List Sexp) (x : Sexp) → flat_all (xs ++ x ∷ []) ≡ flat_all xs ++ flat x
flat_all_push xs x = ap joined (map_push flat xs x) ∙ joined_push (map flat xs) (flat x)

pub before_all_push : (fs : List Frame) (f : Frame) → before_all (fs ++ f ∷ []) ≡ before_all fs ++ (flat_all f.before.items ++ Token.Opened f.start f.at ∷ [])
before_all_push [] f = refl
before_all_push (g ∷ fs) f =
    ap (λ (r : List Token). flat_all g.before.items ++ Token.Opened g.start g.at ∷ r) (before_all_push fs f)
    ∙ sym (append_assoc (flat_all g.before.items) (Token.Opened g.start g.at ∷ before_all fs) (flat_all f.before.items ++ Token.Opened f.start f.at ∷ []))

-- a word is added behind some tokens
pub worded : (bs : List Token) (cur new : List Sexp) (x : Sexp) (t : Token) → new ≡ cur ++ x ∷ [] → flat x ≡ t ∷ [] → bs ++ flat_all new ≡ (bs ++ flat_all cur) ++ t ∷ []
worded bs cur new x t is said =
    ap (λ (r : List Token). bs ++ r) (ap flat_all is ∙ flat_all_push cur x ∙ ap (λ (r : List Token). flat_all cur ++ r) said)
    ∙ sym (append_assoc bs (flat_all cur) (t ∷ []))

-- a list is closed behind some tokens
pub closed : (bs : List Token) (before cur : List Sexp) (s e : ℕ) (at : Place)
    → bs ++ flat_all (before ++ TheViews.List cur s e at ∷ []) ≡ ((bs ++ (flat_all before ++ Token.Opened s at ∷ [])) ++ flat_all cur) ++ Token.Closed e ∷ []
closed bs before cur s e at = rw (flat_all_push, flat_list) (simp append_assoc)

pub closed_to : (fs old : List Frame) (f : Frame) (cur dest items new : List Sexp) (e : ℕ) → old ≡ fs ++ f ∷ [] → dest ≡ f.before.items → items ≡ cur
    → new ≡ dest ++ TheViews.List items f.start e f.at ∷ [] → before_all fs ++ flat_all new ≡ (before_all old ++ flat_all cur) ++ Token.Closed e ∷ []
closed_to fs old f cur dest items new e popped after value pushed = rw (pushed, after, value, popped, before_all_push) (closed (before_all fs) f.before.items cur f.start e f.at)
