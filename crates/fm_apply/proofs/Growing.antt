-- What was there stays as it is in an arena that grows.
use Rattle.std.proofs.Common.{◌≡◌, ℕ, zero, suc, ◌<◌, ◌≤◌, ◌+◌, List, [], ◌∷◌, ◌++◌, length, ap, refl, sym, ◌∙◌, arith, append_assoc, append-nil}
use Rattle.std.specs.Prelude.{slice_get, Option, Some}
use Rattle.std.proofs.lemmas.List.{length-append, length_push}
use Rattle.fm_levels.specs.Levels.{joined}
use Rattle.fm_base.specs.Truth.{is_bool}
use Rattle.fm_base.specs.declared.signature.Ty.{Ty}
use Rattle.fm_arena.specs.Meanings.{Making, Term, meaning_in, term_in, terms_of, type_in}
use Rattle.fm_arena.specs.Kept.{IsAdded}
use Rattle.fm_arena.specs.declared.node.Entry.{Entry}
use Rattle.fm_apply.specs.Applied.{Bound, Context, Function as TheFunction, Named, Stands as TheStands}
use Rattle.fm_apply.specs.Scoped.{AllBelow, AreBelow, AreInForce, Grows, IsInForce, IsReady, Numbered, StandsWell, bound_in, context_in, function_in, functions_in, named_in, names_in, number_kind, number_term, stands_in, terms_at}
use Rattle.fm_apply.specs.declared.scope.Frame.{Frame}
use Rattle.fm_apply.specs.declared.scope.Scope.{Scope}
use Rattle.fm_apply.specs.declared.entry.Function.{Function}
use Rattle.fm_apply.specs.declared.entry.Stands.{Stands}

pub grows_refl : (es : List Entry) → Grows es es
grows_refl es = ([], sym (append-nil (terms_of es)))

pub grows_trans : (a b c : List Entry) → Grows a b → Grows b c → Grows a c
grows_trans a b c g h = (g.0 ++ h.0, h.1 ∙ ap (λ (l : List Term). l ++ h.0) g.1 ∙ append_assoc (terms_of a) g.0 h.0)

pub grows_longer : (a b : List Entry) → Grows a b → length (terms_of a) ≤ length (terms_of b)
grows_longer a b g =
    let e : length (terms_of b) ≡ length (terms_of a) + length g.0 = ap length g.1 ∙ length-append (terms_of a) g.0 in
    omega (arith, e)

slice_get-front : {A : Type 0} (xs ys : List A) (i : ℕ) → i < length xs → slice_get (xs ++ ys) i ≡ slice_get xs i
slice_get-front [] ys i lt = absurd (omega arith)
slice_get-front (x ∷ xs) ys zero lt = refl
slice_get-front (x ∷ xs) ys (suc i) lt = slice_get-front xs ys i (omega arith)

slice_get-end : {A : Type 0} (xs : List A) (y : A) → slice_get (xs ++ y ∷ []) (length xs) ≡ Some y
slice_get-end [] y = refl
slice_get-end (x ∷ xs) y = slice_get-end xs y

term_of_some : (o p : Option Term) → o ≡ p → (let a : Term = record { ty = type_in o; meaning = meaning_in o } in let b : Term = record { ty = type_in p; meaning = meaning_in p } in a ≡ b)
term_of_some o p e = ap (λ (q : Option Term). let a : Term = record { ty = type_in q; meaning = meaning_in q } in a) e

pub term_stays : (old new : List Entry) (i : ℕ) → Grows old new → i < length (terms_of old) → number_term new i ≡ number_term old i
term_stays old new i g lt =
    ap (λ (ts : List Term). term_in ts i) g.1 ∙ term_of_some (slice_get (terms_of old ++ g.0) i) (slice_get (terms_of old) i) (slice_get-front (terms_of old) g.0 i lt)

pub terms_stay : (old new : List Entry) (is : List ℕ) → Grows old new → AllBelow (length (terms_of old)) is → terms_at new is ≡ terms_at old is
terms_stay old new [] g h = refl
terms_stay old new (i ∷ is) g h = ap (λ (t : Term). t ∷ terms_at new is) (term_stays old new i g h.0) ∙ ap (λ (l : List Term). number_term old i ∷ l) (terms_stay old new is g h.1)

pub kind_stays : (old new : List Entry) (i : ℕ) → Grows old new → i < length (terms_of old) → number_kind new i ≡ number_kind old i
kind_stays old new i g lt = ap (λ (t : Term). is_bool t.ty) (term_stays old new i g lt)

pub bound_stays : (old new : List Entry) (bs : Numbered) → Grows old new → AreBelow (length (terms_of old)) bs → bound_in (terms_of new) bs ≡ bound_in (terms_of old) bs
bound_stays old new [] g h = refl
bound_stays old new (b ∷ bs) g h =
    ap (λ (t : Term). record { name = b.0; term = t } ∷ bound_in (terms_of new) bs) (term_stays old new b.1 g h.0)
    ∙ ap (λ (l : List Bound). record { name = b.0; term = number_term old b.1 } ∷ l) (bound_stays old new bs g h.1)

pub named_stays : (old new : List Entry) (ns : Numbered) → Grows old new → AreBelow (length (terms_of old)) ns → named_in (terms_of new) ns ≡ named_in (terms_of old) ns
named_stays old new [] g h = refl
named_stays old new (n ∷ ns) g h =
    ap (λ (t : Term). record { name = n.0; term = t } ∷ named_in (terms_of new) ns) (term_stays old new n.1 g h.0)
    ∙ ap (λ (l : List Named). record { name = n.0; term = number_term old n.1 } ∷ l) (named_stays old new ns g h.1)

stands_stay : (old new : List Entry) (args : List Ty) (result : Ty) (s : Stands) → Grows old new → StandsWell (terms_of old) args result s → stands_in (terms_of new) s ≡ stands_in (terms_of old) s
stands_stay old new args result (Stands.Declared f) g h = refl
stands_stay old new args result (Stands.Defined n) g h = ap (λ (t : Term). TheStands.Defined t.meaning) (term_stays old new n g h.0)

well_stays : (old new : List Entry) (args : List Ty) (result : Ty) (s : Stands) → Grows old new → StandsWell (terms_of old) args result s → StandsWell (terms_of new) args result s
well_stays old new args result (Stands.Declared f) g h = h
well_stays old new args result (Stands.Defined n) g h =
    (let l = grows_longer old new g in let b = h.0 in omega (arith, l, b), ap (λ (t : Term). t.ty) (term_stays old new n g h.0) ∙ h.1)

pub function_stays : (old new : List Entry) (name : List ℕ) (f : Function) → Grows old new → IsInForce (terms_of old) f → function_in (terms_of new) name f ≡ function_in (terms_of old) name f
function_stays old new name f g h =
    ap (λ (s : TheStands). let t : TheFunction = record { name = name; args = f.args; result = f.result; stands = s } in t) (stands_stay old new f.args f.result f.stands g h)

pub functions_stay : (old new : List Entry) (fs : List (List ℕ × Function)) → Grows old new → AreInForce (terms_of old) fs → functions_in (terms_of new) fs ≡ functions_in (terms_of old) fs
functions_stay old new [] g h = refl
functions_stay old new (f ∷ fs) g h =
    ap (λ (t : TheFunction). t ∷ functions_in (terms_of new) fs) (function_stays old new f.0 f.1 g h.0)
    ∙ ap (λ (l : List TheFunction). function_in (terms_of old) f.0 f.1 ∷ l) (functions_stay old new fs g h.1)

pub in_force_stays : (old new : List Entry) (fs : List (List ℕ × Function)) → Grows old new → AreInForce (terms_of old) fs → AreInForce (terms_of new) fs
in_force_stays old new [] g h = tt
in_force_stays old new (f ∷ fs) g h = (well_stays old new f.1.args f.1.result f.1.stands g h.0, in_force_stays old new fs g h.1)

pub below_longer : (m n : ℕ) (bs : Numbered) → m ≤ n → AreBelow m bs → AreBelow n bs
below_longer m n [] le h = tt
below_longer m n (b ∷ bs) le h = (let k = h.0 in omega (arith, k), below_longer m n bs le h.1)

pub all_longer : (m n : ℕ) (is : List ℕ) → m ≤ n → AllBelow m is → AllBelow n is
all_longer m n [] le h = tt
all_longer m n (i ∷ is) le h = (let k = h.0 in omega (arith, k), all_longer m n is le h.1)

pub below_stays : (old new : List Entry) (bs : Numbered) → Grows old new → AreBelow (length (terms_of old)) bs → AreBelow (length (terms_of new)) bs
below_stays old new bs g h = below_longer (length (terms_of old)) (length (terms_of new)) bs (grows_longer old new g) h

-- the context of a scope and bound names, by the functions and the names' terms
abbrev context_by : Scope → ℕ → List TheFunction → List Bound → Context
context_by s places fs bs = record (context_in s [] places []) { functions = fs; bound = bs }

pub context_stays : (s : Scope) (old new : List Entry) (bound : Numbered) (places : ℕ) → Grows old new → AreInForce (terms_of old) (joined s.functions.now) → AreBelow (length (terms_of old)) bound
    → context_in s bound places (terms_of new) ≡ context_in s bound places (terms_of old)
context_stays s old new bound places g f b =
    ap (λ (fs : List TheFunction). context_by s places fs (bound_in (terms_of new) bound)) (functions_stay old new (joined s.functions.now) g f)
    ∙ ap (λ (bs : List Bound). context_by s places (functions_in (terms_of old) (joined s.functions.now)) bs) (bound_stays old new bound g b)

-- what is ready stays so, where further names were given
pub ready_stays : (s : Scope) (f : Frame) (old new : List Entry) (was now : Numbered) → Grows old new → IsReady (s, f) (old, was) → AreBelow (length (terms_of new)) now → IsReady (s, f) (new, now)
ready_stays s f old new was now g r b = record {
  functions = in_force_stays old new (joined s.functions.now) g r.functions;
  bound = below_stays old new (names_in f) g r.bound;
  given = b;
}

-- one more term
pub grows_added : (old new : List Entry) (made : Making) → IsAdded old new made → Grows old new
grows_added old new made e = (made (terms_of old) ∷ [], e)

pub last_term : (old new : List Entry) (made : Making) (n : ℕ) → IsAdded old new made → n ≡ length (terms_of old) → number_term new n ≡ made (terms_of old)
last_term old new made n e l =
    ap (λ (i : ℕ). number_term new i) l ∙ ap (λ (ts : List Term). term_in ts (length (terms_of old))) e
    ∙ term_of_some (slice_get (terms_of old ++ made (terms_of old) ∷ []) (length (terms_of old))) (Some (made (terms_of old))) (slice_get-end (terms_of old) (made (terms_of old)))

pub last_below : (old new : List Entry) (made : Making) (n : ℕ) → IsAdded old new made → n ≡ length (terms_of old) → n < length (terms_of new)
last_below old new made n e l =
    let k : length (terms_of new) ≡ length (terms_of old) + 1 = ap length e ∙ length_push (terms_of old) (made (terms_of old)) in
    omega (arith, k, l)
