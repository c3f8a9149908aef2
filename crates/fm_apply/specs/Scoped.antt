-- The context that the code's scope is, and what its calls answer.
use Rattle.std.specs.Prelude.{◌≡◌, true, Bool, ℕ, ◌+◌, ◌<◌, ◌++◌, min, cond, List, [], ◌∷◌, length, map, Option, Some, None, Result, Ok, Err, IfOk}
use Rattle.std.specs.Option.{option_map}
use Rattle.std.specs.List.{list_any}
use Rattle.std.specs.Str.{bytes_eq}
use Rattle.fm_levels.specs.Levels.{joined}
use Rattle.fm_base.specs.Truth.{is_bool}
use Rattle.fm_base.specs.declared.refusal.Fail.{Fail}
use Rattle.fm_base.specs.declared.refusal.Place.{Place}
use Rattle.fm_base.specs.declared.refusal.Refusal.{Refusal}
use Rattle.fm_base.specs.declared.signature.Ty.{Ty}
use Rattle.fm_sexp.specs.declared.items.Sexp.{Sexp}
use Rattle.fm_script.specs.Shown.{Name}
use Rattle.fm_arena.specs.Trees.{all_things, takes}
use Rattle.fm_arena.specs.Meanings.{Term, kind_at, meaning_at, term_in, terms_of, type_at}
use Rattle.fm_arena.specs.declared.node.Entry.{Entry}
use Rattle.fm_apply.specs.Applied.{Bound, Context, Function as TheFunction, Named, Sort, Stands as TheStands, constant_of, function_at, function_named, in_force, is_taken, op_of, or_else, several_at, stands_at, type_among, used_at}
use Rattle.fm_apply.specs.declared.scope.Found.{Found}
use Rattle.fm_apply.specs.declared.scope.Frame.{Frame}
use Rattle.fm_apply.specs.declared.scope.Frame.TheOpen.{Frame-F}
use Rattle.fm_apply.specs.declared.scope.Frame.TheFolds.{fold-Frame}
use Rattle.fm_apply.specs.declared.scope.Scope.{Scope}
use Rattle.fm_apply.specs.declared.entry.Function.{Function}
use Rattle.fm_apply.specs.declared.entry.Stands.{Stands}

-- names with the numbers of terms
abbrev pub Numbered : Type 0
Numbered = List (List ℕ × ℕ)

-- what an arena and the names given in a command are at a moment
abbrev pub Moment : Type 0
Moment = List Entry × Numbered

abbrev pub number_term : List Entry → ℕ → Term
number_term es i = term_in (terms_of es) i

abbrev pub number_kind : List Entry → ℕ → Bool
number_kind es i = kind_at (terms_of es) i

-- a definition, and a function in force, with arguments
abbrev pub definition_at : Context → Term → List Term → Result Term Refusal
definition_at c t ts = used_at c t.meaning t.ty ts

abbrev pub terms_at : List Entry → List ℕ → List Term
terms_at es is = map (number_term es) is

abbrev pub sorts_in : List (List ℕ × Ty) → List Sort
sorts_in es = map (λ (e : List ℕ × Ty). record { name = e.0; ty = e.1 }) es

abbrev pub stands_in : List Term → Stands → TheStands
stands_in ts (Stands.Declared f) = TheStands.Declared f
stands_in ts (Stands.Defined n) = TheStands.Defined (meaning_at ts n)

abbrev pub stood_at : Context → List Entry → Function → List Term → Result Term Refusal
stood_at c es f ts = stands_at c (stands_in (terms_of es) f.stands) f.result ts

abbrev pub function_in : List Term → List ℕ → Function → TheFunction
function_in ts name f = record { name = name; args = f.args; result = f.result; stands = stands_in ts f.stands }

abbrev pub functions_in : List Term → List (List ℕ × Function) → List TheFunction
functions_in ts es = map (λ (e : List ℕ × Function). function_in ts e.0 e.1) es

abbrev pub named_in : List Term → Numbered → List Named
named_in ts es = map (λ (e : List ℕ × ℕ). record { name = e.0; term = term_in ts e.1 }) es

abbrev pub bound_in : List Term → Numbered → List Bound
bound_in ts es = map (λ (e : List ℕ × ℕ). record { name = e.0; term = term_in ts e.1 }) es

-- The names bound in a frame and around it, the newest last.

abbrev pub zipped : List (List ℕ) → List ℕ → Numbered
zipped [] is = []
zipped (n ∷ ns) [] = []
zipped (n ∷ ns) (i ∷ is) = (n, i) ∷ zipped ns is

abbrev pub names_step : Frame-F Numbered → Numbered
names_step Frame-F.Top = []
names_step (Frame-F.Inner outer names numbers places) = outer.now ++ zipped names numbers

abbrev pub names_in : Frame → Numbered
names_in = fold-Frame Numbered names_step

abbrev pub places_step : Frame-F ℕ → ℕ
places_step Frame-F.Top = 0
places_step (Frame-F.Inner outer names numbers places) = places

abbrev pub places_in : Frame → ℕ
places_in = fold-Frame ℕ places_step

-- the newest name that is this one, with its place, where the first name's is this number
abbrev pub newest_number : ℕ → List ℕ → Numbered → Option Found
newest_number i name [] = None
newest_number i name (e ∷ es) =
    or_else (newest_number (i + 1) name es) (cond (bytes_eq e.0 name) (Some (record { number = e.1; low = i })) None)

abbrev pub further : ℕ → Found → Found
further n f = record { number = f.number; low = n + f.low }

abbrev pub lower : ℕ → Found → Found
lower n f = record { number = f.number; low = min n f.low }

-- the context of a term in a frame
abbrev pub context_in : Scope → Numbered → ℕ → List Term → Context
context_in s bound places ts =
    record {
      text = s.text.now;
      sorts = sorts_in (joined s.sorts.now);
      functions = functions_in ts (joined s.functions.now);
      command = s.command;
      own = option_map (λ n. n.now) s.own;
      naming = s.naming;
      bound = bound_in ts bound;
      places = places;
    }

abbrev pub context_of : Scope × Frame → List Term → Context
context_of w ts = context_in w.0 (names_in w.1) (places_in w.1) ts

-- What has to hold where a term is elaborated.

abbrev pub AllBelow : ℕ → List ℕ → Type 0
AllBelow n [] = Unit {0}
AllBelow n (i ∷ is) = (i < n) × AllBelow n is

abbrev pub AreBelow : ℕ → Numbered → Type 0
AreBelow n [] = Unit {0}
AreBelow n (e ∷ es) = (e.1 < n) × AreBelow n es

-- a declared function takes terms of declared sorts; a definition's body is there and of its type
abbrev pub StandsWell : List Term → List Ty → Ty → Stands → Type 0
StandsWell ts args result (Stands.Declared f) = all_things (map is_bool args) ≡ true
StandsWell ts args result (Stands.Defined n) = (n < length ts) × (type_at ts n ≡ result)

abbrev pub IsInForce : List Term → Function → Type 0
IsInForce ts f = StandsWell ts f.args f.result f.stands

abbrev pub AreInForce : List Term → List (List ℕ × Function) → Type 0
AreInForce ts [] = Unit {0}
AreInForce ts (e ∷ es) = IsInForce ts e.1 × AreInForce ts es

-- the definitions that functions stand for are among the first so many terms
abbrev pub StandsBefore : ℕ → Stands → Type 0
StandsBefore n (Stands.Declared f) = Unit {0}
StandsBefore n (Stands.Defined i) = i < n

abbrev pub StandBefore : ℕ → List (List ℕ × Function) → Type 0
StandBefore n [] = Unit {0}
StandBefore n (e ∷ es) = StandsBefore n e.1.stands × StandBefore n es

-- the terms of functions, of bound names and of names given in the command are there
pub record IsReady (w : Scope × Frame) (m : Moment) : Type 0 where
  pub functions : AreInForce (terms_of m.0) (joined w.0.functions.now)
  pub bound : AreBelow (length (terms_of m.0)) (names_in w.1)
  pub given : AreBelow (length (terms_of m.0)) m.1

-- numbers of terms of one kind
abbrev pub AreOfKind : Bool → List Entry → List ℕ → Type 0
AreOfKind k es [] = Unit {0}
AreOfKind k es (i ∷ is) = (i < length (terms_of es)) × (kind_at (terms_of es) i ≡ k) × AreOfKind k es is

-- a function takes terms of these kinds
abbrev pub IsTaken : Function → Stands → List Bool → Type 0
IsTaken f (Stands.Declared s) ks = takes (op_of s f.result) ks ≡ true
IsTaken f (Stands.Defined n) ks = Unit {0}

-- What calls answer: what the definition says; want of memory says nothing.

-- what was there stays
abbrev pub Grows : List Entry → List Entry → Type 0
Grows old new = (more : List Term) × (terms_of new ≡ terms_of old ++ more)

abbrev pub IsMade : {A : Type 0} → Result A Fail → Result A Refusal → Type 0
IsMade (Ok a) r = r ≡ Ok a
IsMade (Err (Fail.Refused refusal)) r = r ≡ Err refusal
IsMade (Err Fail.Memory) r = Unit {0}

-- the same for what a value shows
abbrev pub IsShown : {A B : Type 0} → (A → B) → Result A Fail → Result B Refusal → Type 0
IsShown shows (Ok a) r = r ≡ Ok (shows a)
IsShown shows (Err (Fail.Refused refusal)) r = r ≡ Err refusal
IsShown shows (Err Fail.Memory) r = Unit {0}

-- the number of a term
abbrev pub IsTerm : List Entry → Result ℕ Fail → Result Term Refusal → Type 0
IsTerm es result a = IsShown (number_term es) result a

-- a term, in every context of this command
abbrev pub Makes : Scope → List Entry → Result ℕ Fail → (Context → Result Term Refusal) → Type 0
Makes s es result meant = (c : Context) → c.command ≡ s.command → IsTerm es result (meant c)

abbrev pub MakesAll : Scope → List Entry → Result (List ℕ) Fail → (Context → Result (List Term) Refusal) → Type 0
MakesAll s es result meant = (c : Context) → c.command ≡ s.command → IsShown (terms_at es) result (meant c)

-- what is asked of a context and the names given before, where the names at a moment are the latter
abbrev pub meant_at : {A : Type 0} → Scope × Frame → Moment → (Context → List Named → A) → A
meant_at w m meant = meant (context_of w (terms_of m.0)) (named_in (terms_of m.0) m.1)

-- a name among functions, on arguments and alone
abbrev pub head_at : Context → List TheFunction → Place → Name → List Sexp → List Term → Result Term Refusal
head_at c fs at n xs ts = function_at c at n xs ts (function_named n.bytes fs)

abbrev pub lone_at : Context → List TheFunction → Name → Result Term Refusal
lone_at c fs n = constant_of c n (function_named n.bytes fs)

-- what is made of terms
abbrev pub Making : Type 0
Making = List Term → Result Term Refusal

-- what is made of two or more terms of one type, which are tested; and of terms of the first one's type
abbrev pub tested : Place → List Sexp → Ty → Making → List Entry → List ℕ → Result Term Refusal
tested at xs ty go es is = several_at at xs ty go (terms_at es is)

abbrev pub tested_alike : Place → List Sexp → Making → List Entry → List ℕ → Result Term Refusal
tested_alike at xs go es is = tested at xs (type_among (terms_at es is) 0) go es is

-- the refusal is that of the definition, where there is one
abbrev pub IsRefusedBy : {A : Type 0} → Result A Fail → Result Term Refusal → Type 0
IsRefusedBy (Ok a) r = Unit {0}
IsRefusedBy (Err (Fail.Refused refusal)) r = r ≡ Err refusal
IsRefusedBy (Err Fail.Memory) r = Unit {0}

-- what is made where functions are in force
abbrev pub InForce : Type 0
InForce = Context → List TheFunction → Result Term Refusal

-- a term of the functions in force where these names were given before
abbrev pub MakesIn : Scope × Frame → Moment → List Entry → Result ℕ Fail → InForce → Type 0
MakesIn w old es result meant = IsTerm es result (meant_at w old (λ c ns. meant c (in_force c ns)))

-- the number that is answered is one of a term
abbrev pub IsThere : List Entry → Result ℕ Fail → Type 0
IsThere es result = IfOk result (λ n. n < length (terms_of es))

abbrev pub AllAreThere : List Entry → List ℕ → Type 0
AllAreThere es is = AllBelow (length (terms_of es)) is

abbrev pub IsOfKind : Bool → List Entry → Result ℕ Fail → Type 0
IsOfKind k es result = IfOk result (λ n. kind_at (terms_of es) n ≡ k)

-- The term of an item of a command, under parameters.

-- whether a function or a term that was given a name has this name, in whatever arena the names' terms stand
abbrev pub IsInForceByName : Scope → Numbered → List ℕ → Bool → Type 0
IsInForceByName s given name result =
    (ts : List Term) (bound : Numbered) (places : ℕ) →
    result ≡ list_any (λ (f : TheFunction). bytes_eq f.name name) (in_force (context_in s bound places ts) (named_in ts given))

-- whether a name is taken, in whatever arena the names' terms stand
abbrev pub TakesName : Scope → Numbered → List ℕ → Bool → Type 0
TakesName s given name result =
    (ts : List Term) (bound : Numbered) (places : ℕ) →
    result ≡ is_taken (context_in s bound places ts) (named_in ts given) name
