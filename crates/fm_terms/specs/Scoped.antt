-- What the calls of elaboration answer, and the pairs, variables and attributes that items show.
use Rattle.std.specs.Prelude.{◌≡◌, true, false, ℕ, ◌+◌, ◌<◌, ◌≤◌, max, cond, List, [], ◌∷◌, length, map, Option, Some, None, is_some, Result, Ok, Err, IfOk}
use Rattle.std.specs.Borrow.{Bor}
use Rattle.std.specs.Option.{option_map}
use Rattle.fm_levels.specs.Levels.{joined}
use Rattle.fm_base.specs.Truth.{is_bool}
use Rattle.fm_base.specs.declared.ids.SortId.{SortId}
use Rattle.fm_base.specs.declared.refusal.Fail.{Fail}
use Rattle.fm_base.specs.declared.refusal.Reason.{Reason}
use Rattle.fm_base.specs.declared.refusal.Refusal.{Refusal}
use Rattle.fm_base.specs.declared.signature.Ty.{Ty}
use Rattle.fm_sexp.specs.Items.{all_within, spans_within}
use Rattle.fm_sexp.specs.declared.items.Sexp.{Sexp}
use Rattle.fm_script.specs.Commands.{keyword_of}
use Rattle.fm_script.specs.Shown.{Name, name_shown}
use Rattle.fm_script.specs.declared.command.Part.{Part}
use Rattle.fm_arena.specs.Meanings.{Term, named, term_in, terms_of}
use Rattle.fm_arena.specs.declared.node.Entry.{Entry}
use Rattle.fm_apply.specs.Applied.{Bound, Context, Named, is_taken, refused}
use Rattle.fm_apply.specs.declared.scope.Found.{Found}
use Rattle.fm_apply.specs.declared.scope.Frame.{Frame}
use Rattle.fm_apply.specs.declared.scope.Scope.{Scope}
use Rattle.fm_apply.specs.Scoped.{Moment, number_term, terms_at, sorts_in, functions_in, named_in, AllBelow, AreBelow, IsShown, IsTerm, meant_at}
use Rattle.fm_terms.specs.Elaborate.{Answer, Attribute as TheAttribute, Go, Read, Reads, items_in, nesting, nesting_all, read_of, term_at, with_name}
use Rattle.fm_terms.specs.declared.attributes.Attribute.{Attribute}
use Rattle.fm_terms.specs.declared.elaboration.Args.{Args}
use Rattle.fm_terms.specs.declared.elaboration.Elaborated.{Elaborated}

-- What calls answer: what the definition says; want of memory says nothing.

-- the same in a context where so many variables and parameters are bound
abbrev pub Closes : Scope → ℕ → List Entry → Result ℕ Fail → (Context → Result Term Refusal) → Type 0
Closes s places es result meant = (c : Context) → c.command ≡ s.command → c.places ≡ places → IsTerm es result (meant c)

abbrev pub read_shown : Moment → Found → Read
read_shown m f = read_of (named_in (terms_of m.0) m.1) f.low (term_in (terms_of m.0) f.number)

abbrev pub reads_shown : Moment → Args → Reads
reads_shown m a = record { terms = terms_at m.0 a.numbers; low = a.low; named = named_in (terms_of m.0) m.1 }

-- a term that stands in an arena, with the names given before
abbrev pub read_in : List Entry → Found → List Named → Read
read_in es f ns = read_of ns f.low (term_in (terms_of es) f.number)

-- a term with the names given so far
abbrev pub IsRead : Moment → Result Found Fail → Answer → Type 0
IsRead m result a = IsShown (read_shown m) result a

abbrev pub ReadsAs : Scope × Frame → Moment → Moment → Result Found Fail → (Context → List Named → Answer) → Type 0
ReadsAs w old new result meant = IsRead new result (meant_at w old meant)

-- what a definition says by the terms of items that nest less deep than some number
abbrev pub Reading : Type 0 → Type 0
Reading A = Go → Context → List Named → Result A Refusal

abbrev pub Elaborates : ℕ → Reading Read → Scope × Frame → Moment → Moment → Result Found Fail → Type 0
Elaborates depth meant w old new result =
    (n : ℕ) → depth < n → IsRead new result (meant_at w old (meant (term_at n)))

abbrev pub ElaboratesAll : ℕ → Reading Reads → Scope × Frame → Moment → Moment → Result Args Fail → Type 0
ElaboratesAll depth meant w old new result =
    (n : ℕ) → depth < n → IsShown (reads_shown new) result (meant_at w old (meant (term_at n)))

-- what is answered, and the names given, are terms of the arena
abbrev pub Leaves : Moment → Result Found Fail → Type 0
Leaves m result = IfOk result (λ f. (f.number < length (terms_of m.0)) × AreBelow (length (terms_of m.0)) m.1)

abbrev pub LeavesAll : Moment → Result Args Fail → Type 0
LeavesAll m result =
    IfOk result (λ a. AllBelow (length (terms_of m.0)) a.numbers × AreBelow (length (terms_of m.0)) m.1)

-- Names with items, of a `let` or a quantifier.

abbrev pub shown_pairs : List (Part × Bor Sexp) → List (Name × Sexp)
shown_pairs ps = map (λ (p : Part × Bor Sexp). (name_shown p.0, p.1.now)) ps

abbrev pub names_of : List (Name × Sexp) → List (List ℕ)
names_of ps = map (λ (p : Name × Sexp). p.0.bytes) ps

-- the terms of variables, the first of which is the name at this place
abbrev pub variables_from : ℕ → List SortId → List Term
variables_from place [] = []
variables_from place (s ∷ ss) = record { ty = Ty.Of s; meaning = named place false } ∷ variables_from (place + 1) ss

-- the same of parameters, which may be formulas
abbrev pub parameters_from : ℕ → List Ty → List Term
parameters_from place [] = []
parameters_from place (ty ∷ tys) =
    record { ty = ty; meaning = named place (is_bool ty) } ∷ parameters_from (place + 1) tys

abbrev pub attribute_shown : Attribute → TheAttribute
attribute_shown a = record { keyword = name_shown a.keyword; value = option_map (λ x. x.now) a.value }

-- the value of an attribute lies within the text
abbrev pub IsValueWithin : List ℕ → Option Sexp → Type 0
IsValueWithin text None = Unit {0}
IsValueWithin text (Some x) = spans_within (length text) x ≡ true

abbrev pub AreValuesWithin : List ℕ → List TheAttribute → Type 0
AreValuesWithin text [] = Unit {0}
AreValuesWithin text (a ∷ as') = IsValueWithin text a.value × AreValuesWithin text as'

-- behind a keyword stands this value, or none where a keyword follows, and then the rest
abbrev pub value_before : List ℕ → List Sexp → Option Sexp × List Sexp
value_before text [] = (None, [])
value_before text (x ∷ xs) = cond (is_some (keyword_of text x)) (None, x ∷ xs) (Some x, xs)

abbrev pub IsValueBefore : List ℕ → List Sexp → Option Sexp → List Sexp → Type 0
IsValueBefore text items value rest = (value, rest) ≡ value_before text items

-- the term with one more name, unless the name is taken
abbrev pub given_name : Context → Name → Read → Answer
given_name c n r = cond (is_taken c r.named n.bytes) (Err (refused Reason.Redeclared n.at)) (Ok (with_name r n.bytes))

abbrev pub attributes_shown : List Attribute → List TheAttribute
attributes_shown as' = map attribute_shown as'

-- The term of an item of a command, under parameters.

abbrev pub bound_to_terms : List (List ℕ) → List Term → List Bound
bound_to_terms [] ts = []
bound_to_terms (n ∷ ns) [] = []
bound_to_terms (n ∷ ns) (t ∷ ts) = record { name = n; term = t } ∷ bound_to_terms ns ts

abbrev pub context_under : Scope → List (List ℕ) → List Ty → List Term → Context
context_under s names types ts =
    record {
      text = s.text.now;
      sorts = sorts_in (joined s.sorts.now);
      functions = functions_in ts (joined s.functions.now);
      command = s.command;
      own = option_map (λ n. n.now) s.own;
      naming = s.naming;
      bound = bound_to_terms names (parameters_from 0 types);
      places = length types;
    }

-- the term and the names given that an elaboration shows
abbrev pub IsElaborated : List Entry → Result Elaborated Fail → Answer → Type 0
IsElaborated es (Ok e) a = (low : ℕ) × (a ≡ Ok (read_of (named_in (terms_of es) e.given) low (number_term es e.number)))
IsElaborated es (Err (Fail.Refused r)) a = a ≡ Err r
IsElaborated es (Err Fail.Memory) a = Unit {0}

-- the items of pairs lie within the text, and nest no deeper than so much
abbrev pub ArePairsWithin : List ℕ → List (Name × Sexp) → Type 0
ArePairsWithin text ps = all_within (length text) (items_in ps) ≡ true

abbrev pub ArePairsNested : ℕ → List (Name × Sexp) → Type 0
ArePairsNested n ps = nesting_all (items_in ps) ≤ n

-- how deep the items of pairs and a body nest
abbrev pub deeper_of : List (Part × Bor Sexp) → Sexp → ℕ
deeper_of ps u = max (nesting_all (items_in (shown_pairs ps))) (nesting u)

-- what an elaboration answers is there
abbrev pub LeavesGiven : List Entry → Result Elaborated Fail → Type 0
LeavesGiven es result = IfOk result (λ e. (e.number < length (terms_of es)) × AreBelow (length (terms_of es)) e.given)
