-- What a term that is made is, and whether it is too large.
use Rattle.std.proofs.Common.{Bool, List, [], ap, false, length, map, refl, subst, sym, true, ℕ, ◌∙◌, ◌∷◌, ◌≡◌}
use Rattle.std.specs.Prelude.{Err, IfSome, None, Ok, Option, Result, Some, cond, is_some}
use Rattle.fm_base.specs.Truth.{is_bool}
use Rattle.fm_base.specs.declared.refusal.Fail.{Fail}
use Rattle.fm_base.specs.declared.refusal.Place.{Place}
use Rattle.fm_base.specs.declared.refusal.Reason.{Reason}
use Rattle.fm_base.specs.declared.refusal.Refusal.{Refusal}
use Rattle.fm_base.specs.declared.signature.Ty.{Ty}
use Rattle.fm_arena.specs.Kept.{IsAdded}
use Rattle.fm_arena.specs.Meanings.{Making, Meaning, Term, applied, made, meaning_at, measure_of, term_made, terms_of, use_made}
use Rattle.fm_arena.specs.Measures.{is_fit}
use Rattle.fm_arena.specs.declared.node.Entry.{Entry}
use Rattle.fm_arena.specs.declared.node.Op.{Op}
use Rattle.fm_apply.specs.Applied.{Context, meanings, refused, unless_large}
use Rattle.fm_apply.specs.Scoped.{IsOfKind, IsRefusedBy, IsShown, IsTerm, number_term, terms_at}
use Rattle.fm_apply.proofs.Growing.{last_term}

pub refused_shown : {A B : Type 0} (shows : A → B) (f : Fail) (r : Refusal) (a : Result B Refusal) → f ≡ Fail.Refused r → a ≡ Err r → IsShown shows (Err f) a
refused_shown shows f r a e h = subst (λ (g : Fail). IsShown shows (Err g) a) (sym e) h

pub shown_by : {A B : Type 0} (shows : A → B) (r : Result A Fail) (a b : Result B Refusal) → a ≡ b → IsShown shows r b → IsShown shows r a
shown_by shows r a b e h = subst (λ x. IsShown shows r x) (sym e) h

pub meanings_in : (es : List Entry) (is : List ℕ) → meanings (terms_at es is) ≡ map (meaning_at (terms_of es)) is
meanings_in es [] = refl
meanings_in es (a ∷ is) = ap (λ (ms : List Meaning). meaning_at (terms_of es) a ∷ ms) (meanings_in es is)

pub term_made_is : (es : List Entry) (op : Op) (ty : Ty) (is : List ℕ) → (let t : Term = record { ty = ty; meaning = made op (meanings (terms_at es is)) } in t ≡ term_made op ty is (terms_of es))
term_made_is es op ty is = ap (λ (ms : List Meaning). let t : Term = record { ty = ty; meaning = made op ms } in t) (meanings_in es is)

pub use_made_is : (es : List Entry) (body : ℕ) (is : List ℕ) → (let b = number_term es body in let t : Term = record { ty = b.ty; meaning = applied b.meaning (meanings (terms_at es is)) } in t ≡ use_made body is (terms_of es))
use_made_is es body is = let b = number_term es body in ap (λ (ms : List Meaning). let t : Term = record { ty = b.ty; meaning = applied b.meaning ms } in t) (meanings_in es is)

chosen_large : (b : Bool) (t : Term) (r : Refusal) → b ≡ false → (let a : Result Term Refusal = cond b (Ok t) (Err r) in a ≡ Err r)
chosen_large true t r e = cc
chosen_large false t r e = refl

chosen_fit : (b : Bool) (t : Term) (r : Refusal) → b ≡ true → (let a : Result Term Refusal = cond b (Ok t) (Err r) in a ≡ Ok t)
chosen_fit true t r e = refl
chosen_fit false t r e = cc

pub too_large : (c : Context) (command : Place) (new : List Entry) (t u : Term) (f : Fail) (o : Option ℕ) → c.command ≡ command → t ≡ u → o ≡ None → is_some o ≡ is_fit (measure_of u.meaning) → f ≡ Fail.Refused (refused Reason.TooLarge command)
    → IsTerm new (Err f) (unless_large c.command t)
too_large c command new t u f o ec e n h ef =
    refused_shown (number_term new) f (refused Reason.TooLarge command) (unless_large c.command t) ef
    (ap (λ (x : Term). unless_large c.command x) e ∙ chosen_large (is_fit (measure_of u.meaning)) u (refused Reason.TooLarge c.command) (sym h ∙ ap is_some n)
    ∙ ap (λ (p : Place). let a : Result Term Refusal = Err (refused Reason.TooLarge p) in a) ec)

pub fits_within : (c : Context) (old new : List Entry) (made : Making) (t : Term) (n : ℕ) (o : Option ℕ) → t ≡ made (terms_of old) → o ≡ Some n → is_some o ≡ is_fit (measure_of (made (terms_of old)).meaning) → IfSome o (λ k. IsAdded old new made) → IfSome o (λ k. k ≡ length (terms_of old))
    → IsTerm new (Ok n) (unless_large c.command t)
fits_within c old new made t n o e s h a k =
    let added = subst (λ (p : Option ℕ). IfSome p (λ m. IsAdded old new made)) s a in
    let number = subst (λ (p : Option ℕ). IfSome p (λ m. m ≡ length (terms_of old))) s k in
    ap (λ (x : Term). unless_large c.command x) e ∙ chosen_fit (is_fit (measure_of (made (terms_of old)).meaning)) (made (terms_of old)) (refused Reason.TooLarge c.command) (sym h ∙ ap is_some s)
    ∙ ap (λ (x : Term). let a : Result Term Refusal = Ok x in a) (sym (last_term old new made n added number))

pub refused_by : (A : Type 0) (f : Fail) (r : Refusal) (a : Result Term Refusal) → f ≡ Fail.Refused r → a ≡ Err r → IsRefusedBy {A = A} (Err f) a
refused_by A f r a e h = subst (λ (g : Fail). IsRefusedBy {A = A} (Err g) a) (sym e) h

pub refused_term : (A : Type 0) (es : List Entry) (f : Fail) (a : Result Term Refusal) → IsRefusedBy {A = A} (Err f) a → IsTerm es (Err f) a
refused_term A es Fail.Memory a h = tt
refused_term A es (Fail.Refused r) a h = h

chosen_kind : (b : Bool) (t u : Term) (r : Refusal) → is_bool t.ty ≡ true → (let a : Result Term Refusal = cond b (Ok t) (Err r) in a ≡ Ok u) → is_bool u.ty ≡ true
chosen_kind true t u r h e = let s : t ≡ u = cc in subst (λ (x : Term). is_bool x.ty ≡ true) s h
chosen_kind false t u r h e = cc

-- a formula that is made is one
pub kind_by : (new : List Entry) (r : Result ℕ Fail) (command : Place) (t : Term) → is_bool t.ty ≡ true → IsTerm new r (unless_large command t) → IsOfKind true new r
kind_by new (Ok n) command t k h = chosen_kind (is_fit (measure_of t.meaning)) t (number_term new n) (refused Reason.TooLarge command) k h
kind_by new (Err f) command t k h = tt
