-- What stays right of an assertion stack.
use Rattle.std.proofs.lemmas.List.{length-map, length-take, map-append}
use Rattle.std.specs.Borrow.{Bor}
use Rattle.std.proofs.Common.{Bool, true, false, ◌≡◌, ℕ, zero, suc, ◌+◌, ◌-◌, ◌<◌, ◌≤◌, List, [], ◌∷◌, ◌++◌, length, map, drop, take, ap, refl, sym, subst, ◌∙◌, arith, append_assoc}
use Rattle.std.specs.Prelude.{Err, None, Ok, OnOk, Option, Result, Some, cond, slice_get, ◌||◌}
use Rattle.fm_base.specs.Truth.{is_bool}
use Rattle.fm_base.specs.declared.formula.Formula.{Formula}
use Rattle.fm_base.specs.declared.ids.Memory.{Memory}
use Rattle.fm_base.specs.declared.refusal.Fail.{Fail}
use Rattle.fm_base.specs.declared.refusal.Place.{Place}
use Rattle.fm_base.specs.declared.refusal.Reason.{Reason}
use Rattle.fm_base.specs.declared.refusal.Refusal.{Refusal}
use Rattle.fm_base.specs.declared.signature.Rank.{Rank}
use Rattle.fm_base.specs.declared.signature.Ty.{Ty}
use Rattle.fm_sexp.specs.declared.items.Sexp.{Sexp}
use Rattle.fm_script.specs.Commands.{place_of_item}
use Rattle.fm_script.specs.Shown.{Name}
use Rattle.fm_arena.specs.Meanings.{Term, terms_of}
use Rattle.fm_arena.specs.Trees.{all_things}
use Rattle.fm_arena.specs.declared.node.Entry.{Entry}
use Rattle.fm_levels.specs.Levels.{in_newest, joined, put}
use Rattle.fm_levels.specs.Tables.{has}
use Rattle.fm_apply.specs.Applied.{Function as TheFunction, Stands as TheStands, and_then, refused}
use Rattle.fm_apply.specs.Scoped.{AreBelow, AreInForce, Grows, Numbered, StandBefore, StandsWell, function_in, functions_in}
use Rattle.fm_apply.specs.declared.entry.Function.{Function}
use Rattle.fm_apply.specs.declared.entry.Stands.{Stands}
use Rattle.fm_apply.proofs.Cutting.{cut_grows, in_force_back}
use Rattle.fm_apply.proofs.Growing.{grows_longer, grows_trans, in_force_stays, term_stays}
use Rattle.fm_terms.specs.Elaborate.{Answer, Read, elaborated, items_in, repeated, unless_repeated}
use Rattle.fm_terms.specs.Scoped.{IsElaborated, names_of}
use Rattle.fm_terms.specs.declared.elaboration.Elaborated.{Elaborated}
use Rattle.fm_elab.specs.Givens.{Extends, definition_at, given_at, put_function, put_functions, with_new_assertion}
use Rattle.fm_elab.specs.Held.{Held, IsWhole, functions_at, held_in, state_of}
use Rattle.fm_elab.specs.Shown.{names_shown}
use Rattle.fm_elab.specs.Stacks.{State, closed, fewer_levels, is_barred, is_function_taken, is_named, more_levels, next_function, opened, with_symbol}
use Rattle.fm_elab.specs.Steps.{Applies, Next, argument_sort, context_at, define_function, defined, definition, each_sort, refused_where, sort_at}
use Rattle.fm_elab.proofs.Placing.{extends_trans, fewer_at, fewer_in_force, joined_at, length_fewer, length_more, levels_stay, more_at, more_in_force, named_at, put_at, put_in_force, length_newest}

-- as many levels of each kind as before, and what is in force stands there
pub whole_by : (h k : Held) → IsWhole h → AreInForce (terms_of k.entries) (joined k.functions) → length k.assertions ≡ length h.assertions → length k.declared_sorts ≡ length h.declared_sorts → length k.sorts ≡ length h.sorts → length k.symbols ≡ length h.symbols → length k.functions ≡ length h.functions → IsWhole k
whole_by h k w f a d s y n = record {
  in_force = f;
  some = let o = w.some in omega (arith, a, o);
  few = let o = w.few in omega (arith, a, o);
  declared_sorts = d ∙ w.declared_sorts ∙ sym a;
  sorts = s ∙ w.sorts ∙ sym a;
  symbols = y ∙ w.symbols ∙ sym a;
  functions = n ∙ w.functions ∙ sym a;
}

pub is_open : (n m : ℕ) → 0 < n → m ≡ n → 0 < m
is_open n m o e = omega (arith, o, e)

-- names that are free

or_false : (a b : Bool) → (a || b) ≡ false → b ≡ false
or_false true b h = cc
or_false false b h = h

pub function_free : (h : Held) (name : List ℕ) → is_function_taken (state_of h) name ≡ false → has name (joined h.functions) ≡ false
function_free h name e = sym (named_at h.entries name h.functions) ∙ or_false (is_barred name) _ e

-- arguments are no Bool

things_step : (at : Place) (r : Result Ty Refusal) (ty : Ty) → and_then r (λ (t : Ty). refused_where (is_bool t) Reason.BoolArgument at (Ok t)) ≡ Ok ty → is_bool ty ≡ false
things_step at (Ok Ty.Bool) ty h = cc
things_step at (Ok (Ty.Of n)) ty h = let same : Ty.Of n ≡ ty = cc in ap is_bool (sym same)
things_step at (Err r) ty h = cc

first_ok : {A B : Type 0} (r : Result A Refusal) (go : A → Result B Refusal) (b : B) → and_then r go ≡ Ok b → (a : A) × (r ≡ Ok a) × (go a ≡ Ok b)
first_ok (Ok a) go b h = (a, refl, h)
first_ok (Err r) go b h = cc

pub arguments_things : (text : List ℕ) (s : State) (xs : List Sexp) (tys : List Ty) → each_sort (argument_sort text s) xs ≡ Ok tys → all_things (map is_bool tys) ≡ true
arguments_things text s [] [] h = refl
arguments_things text s [] (t ∷ tys) h = cc
arguments_things text s (x ∷ xs) tys h =
    let a = first_ok (argument_sort text s x) (λ (ty : Ty). and_then (each_sort (argument_sort text s) xs) (λ (ts : List Ty). Ok (ty ∷ ts))) tys h in
    let b = first_ok (each_sort (argument_sort text s) xs) (λ (ts : List Ty). Ok (a.0 ∷ ts)) tys a.2 in
    let is : a.0 ∷ b.0 ≡ tys = cc (b.2) in
    let thing : is_bool a.0 ≡ false = things_step (place_of_item x) (sort_at text s x) a.0 a.1 in
    let rest : all_things (map is_bool b.0) ≡ true = arguments_things text s xs b.0 b.1 in
    subst (λ (ts : List Ty). all_things (map is_bool ts) ≡ true) is (things_more (is_bool a.0) (map is_bool b.0) thing rest)
  where
    things_more : (b : Bool) (bs : List Bool) → b ≡ false → all_things bs ≡ true → all_things (b ∷ bs) ≡ true
    things_more b bs e k = cc

-- names that were given, one after the other

drop_here : {A : Type 0} (xs : List A) (i : ℕ) (x : A) → slice_get xs i ≡ Some x → drop i xs ≡ x ∷ drop (i + 1) xs
drop_here [] i x h = cc
drop_here (y ∷ xs) zero x h = let s : y ≡ x = cc in ap (λ z. z ∷ xs) s
drop_here (y ∷ xs) (suc i) x h =
    let up : suc (i + 1) ≡ suc i + 1 = omega arith in
    drop_here xs i x h ∙ ap (λ (k : ℕ). x ∷ drop k (y ∷ xs)) up

pub below_at : (n : ℕ) (given : Numbered) (i : ℕ) (e : List ℕ × ℕ) → slice_get given i ≡ Some e → AreBelow n given → e.1 < n
below_at n [] i e h b = cc
below_at n (g ∷ given) zero e h b = let s : g ≡ e = cc in subst (λ (x : List ℕ × ℕ). x.1 < n) s b.0
below_at n (g ∷ given) (suc i) e h b = below_at n given i e h b.1

pub none_past : {A : Type 0} (xs : List A) (i : ℕ) → slice_get xs i ≡ None → drop (i + 1) xs ≡ drop i xs
none_past [] zero h = refl
none_past {A = A} [] (suc i) h = ap (λ (k : ℕ). drop {A = A} k []) (let up : suc i + 1 ≡ suc (i + 1) = omega arith in up)
none_past (x ∷ xs) zero h = cc
none_past (x ∷ xs) (suc i) h = let up : suc i + 1 ≡ suc (i + 1) = omega arith in ap (λ (k : ℕ). drop k (x ∷ xs)) up ∙ none_past xs i h

-- the next name
pub given_step : (first : Bool) (start old new : List Entry) (was now : List (List (List ℕ × Function))) (given : Numbered) (i : ℕ) (e : List ℕ × ℕ) (goal : List (List TheFunction))
    → Grows start old → AreBelow (length (terms_of start)) given → slice_get given i ≡ Some e
    → put_functions first (functions_at old was) (given_at start (drop i given)) ≡ goal → functions_at new now ≡ put_function first (functions_at old was) (definition_at old e.0 [] e.1)
    → put_functions first (functions_at new now) (given_at start (drop (i + 1) given)) ≡ goal
given_step first start old new was now given i e goal g b s rest d =
    let same : definition_at old e.0 [] e.1 ≡ definition_at start e.0 [] e.1 = ap (λ (t : Term). definition e.0 [] t) (term_stays start old e.1 g (below_at (length (terms_of start)) given i e s b)) in
    ap (λ (ls : List (List TheFunction)). put_functions first ls (given_at start (drop (i + 1) given))) (d ∙ ap (put_function first (functions_at old was)) same)
    ∙ ap (λ (l : Numbered). put_functions first (functions_at old was) (given_at start l)) (sym (drop_here given i e s))
    ∙ rest

pub body_below : (start old : List Entry) (given : Numbered) (i : ℕ) (e : List ℕ × ℕ) → Grows start old → AreBelow (length (terms_of start)) given → slice_get given i ≡ Some e → e.1 < length (terms_of old)
body_below start old given i e g b s = let k = below_at (length (terms_of start)) given i e s b in let l = grows_longer start old g in omega (arith, k, l)

-- a list of definitions and one more
pub put_functions_push : (first : Bool) (ls : List (List TheFunction)) (fs : List TheFunction) (f : TheFunction) → put_functions first ls (fs ++ f ∷ []) ≡ put_function first (put_functions first ls fs) f
put_functions_push first ls [] f = refl
put_functions_push first ls (g ∷ fs) f = put_functions_push first (put_function first ls g) fs f

pub given_next : (first : Bool) (start old mid new : List Entry) (base was midf now : List (List (List ℕ × Function))) (given : Numbered) (i : ℕ) (e : List ℕ × ℕ) (goal : List (List TheFunction))
    → new ≡ mid → now ≡ midf → Grows start old → AreBelow (length (terms_of start)) given → slice_get given i ≡ Some e
    → put_functions first (functions_at old was) (given_at start (drop i given)) ≡ goal → functions_at mid midf ≡ put_function first (functions_at old was) (definition_at old e.0 [] e.1)
    → Grows old mid → AreInForce (terms_of mid) (joined midf) → Extends first base was → Extends first was midf
    → (put_functions first (functions_at new now) (given_at start (drop (i + 1) given)) ≡ goal) × Grows start new × AreInForce (terms_of new) (joined now) × Extends first base now
given_next first start old mid new base was midf now given i e goal en ef g b s rest d gm f x y = (
  ap (λ (es : List Entry). put_functions first (functions_at es now) (given_at start (drop (i + 1) given))) en ∙ ap (λ (ls : List (List (List ℕ × Function))). put_functions first (functions_at mid ls) (given_at start (drop (i + 1) given))) ef ∙ given_step first start old mid was midf given i e goal g b s rest d,
  subst (λ (es : List Entry). Grows start es) (sym en) (grows_trans start old mid g gm),
  subst (λ (es : List Entry). AreInForce (terms_of es) (joined now)) (sym en) (subst (λ (ls : List (List (List ℕ × Function))). AreInForce (terms_of mid) (joined ls)) (sym ef) f),
  subst (λ (ls : List (List (List ℕ × Function))). Extends first base ls) (sym ef) (extends_trans first base was midf x y),
)

pub given_none : (first : Bool) (start old new : List Entry) (base was now : List (List (List ℕ × Function))) (given : Numbered) (i : ℕ) (goal : List (List TheFunction))
    → new ≡ old → now ≡ was → slice_get given i ≡ None → Grows start old → AreInForce (terms_of old) (joined was) → Extends first base was
    → put_functions first (functions_at old was) (given_at start (drop i given)) ≡ goal
    → (put_functions first (functions_at new now) (given_at start (drop (i + 1) given)) ≡ goal) × Grows start new × AreInForce (terms_of new) (joined now) × Extends first base now
given_none first start old new base was now given i goal en ef s g f x rest = (
  ap (λ (es : List Entry). put_functions first (functions_at es now) (given_at start (drop (i + 1) given))) en ∙ ap (λ (ls : List (List (List ℕ × Function))). put_functions first (functions_at old ls) (given_at start (drop (i + 1) given))) ef ∙ ap (λ (l : Numbered). put_functions first (functions_at old was) (given_at start l)) (none_past given i s) ∙ rest,
  subst (λ (es : List Entry). Grows start es) (sym en) g,
  subst (λ (es : List Entry). AreInForce (terms_of es) (joined now)) (sym en) (subst (λ (ls : List (List (List ℕ × Function))). AreInForce (terms_of old) (joined ls)) (sym ef) f),
  subst (λ (ls : List (List (List ℕ × Function))). Extends first base ls) (sym ef) x,
)

pub on_ok_map : (r : Result Unit Memory) {P Q : Type 0} → (P → Q) → OnOk r P → OnOk r Q
on_ok_map (Ok a) go h = go h
on_ok_map (Err e) go h = tt

-- the names that were given, and then the definition
pub all_defined : (first : Bool) (old mid new : List Entry) (was midf now : List (List (List ℕ × Function))) (given : Numbered) (name : List ℕ) (args : List Ty) (body : ℕ)
    → Grows old mid → body < length (terms_of old) → functions_at mid midf ≡ put_functions first (functions_at old was) (given_at old given) → functions_at new now ≡ put_function first (functions_at mid midf) (definition_at mid name args body)
    → functions_at new now ≡ put_functions first (functions_at old was) (given_at old given ++ definition_at old name args body ∷ [])
all_defined first old mid new was midf now given name args body g lt a d =
    d ∙ ap (put_function first (functions_at mid midf)) (ap (λ (t : Term). definition name args t) (term_stays old mid body g lt))
    ∙ ap (λ (ls : List (List TheFunction)). put_function first ls (definition_at old name args body)) a
    ∙ sym (put_functions_push first (functions_at old was) (given_at old given) (definition_at old name args body))

-- functions and assertions are as they were, over a longer arena

pub restored_whole : (h : Held) (fs : List (List (List ℕ × Function))) (es : List Entry) (as' : List (List Formula)) → IsWhole h → Grows h.entries es → fs ≡ h.functions → as' ≡ h.assertions → IsWhole (held_in h.declared_sorts h.sorts h.symbols fs es as' h.global h.begun)
restored_whole h fs es as' w g f a =
    whole_by h (held_in h.declared_sorts h.sorts h.symbols fs es as' h.global h.begun) w
    (subst (λ (ls : List (List (List ℕ × Function))). AreInForce (terms_of es) (joined ls)) (sym f) (in_force_stays h.entries es (joined h.functions) g w.in_force)) (ap length a) refl refl refl (ap length f)

pub restored_is : (h : Held) (fs : List (List (List ℕ × Function))) (es : List Entry) (as' : List (List Formula)) → IsWhole h → Grows h.entries es → fs ≡ h.functions → as' ≡ h.assertions → state_of (held_in h.declared_sorts h.sorts h.symbols fs es as' h.global h.begun) ≡ state_of h
restored_is h fs es as' w g f a =
    ap (λ (ls : List (List (List ℕ × Function))). state_of (held_in h.declared_sorts h.sorts h.symbols ls es as' h.global h.begun)) f
    ∙ ap (λ (ls : List (List Formula)). state_of (held_in h.declared_sorts h.sorts h.symbols h.functions es ls h.global h.begun)) a
    ∙ ap (λ (ls : List (List TheFunction)). record (state_of h) { functions = ls }) (levels_stay h.entries es h.functions g w.in_force)

-- one more declared function

pub symbol_added : (h : Held) (name : List ℕ) (args : List Ty) (ty : Ty) (n : ℕ) (left : List (List (List ℕ × Rank))) (right : List (List (List ℕ × Function))) (rank : Rank) (f : Function)
    → rank ≡ record { args = args; result = ty } → f ≡ record { args = args; result = ty; stands = Stands.Declared (record { 0 = n }) } → n ≡ length (joined h.symbols) → left ≡ put h.global h.symbols (name, rank) → right ≡ put h.global h.functions (name, f)
    → with_symbol (state_of h) name args ty ≡ state_of (held_in h.declared_sorts h.sorts left right h.entries h.assertions h.global true)
symbol_added h name args ty n left right rank f er ef en el eg =
    let made : function_in (terms_of h.entries) name f ≡ next_function (state_of h) name args ty =
    ap (function_in (terms_of h.entries) name) ef ∙ ap (λ (k : ℕ). let t : TheFunction = record { name = name; args = args; result = ty; stands = TheStands.Declared (record { 0 = k }) } in t) en in
    let fs : functions_at h.entries right ≡ put h.global (functions_at h.entries h.functions) (next_function (state_of h) name args ty) =
    ap (functions_at h.entries) eg ∙ put_at h.global h.entries h.functions (name, f) ∙ ap (put h.global (functions_at h.entries h.functions)) made in
    let ys : left ≡ put h.global h.symbols (name, record { args = args; result = ty }) = el ∙ ap (λ (r : Rank). put h.global h.symbols (name, r)) er in
    sym (ap (λ (ls : List (List TheFunction)). record (state_of h) { symbols = left; functions = ls; begun = true }) fs
    ∙ ap (λ (ls : List (List (List ℕ × Rank))). record (state_of h) { symbols = ls; functions = put h.global (functions_at h.entries h.functions) (next_function (state_of h) name args ty); begun = true }) ys)

pub symbol_in_force : (h : Held) (name : List ℕ) (right : List (List (List ℕ × Function))) (f : Function) (n : ℕ) → IsWhole h → f.stands ≡ Stands.Declared (record { 0 = n }) → all_things (map is_bool f.args) ≡ true → right ≡ put h.global h.functions (name, f) → AreInForce (terms_of h.entries) (joined right)
symbol_in_force h name right f n w s t e =
    subst (λ (ls : List (List (List ℕ × Function))). AreInForce (terms_of h.entries) (joined ls)) (sym e)
    (put_in_force h.global (terms_of h.entries) h.functions (name, f) w.in_force (subst (λ (x : Stands). StandsWell (terms_of h.entries) f.args f.result x) (sym s) t))

-- levels opened and closed

more_long : {A B : Type 0} (n : ℕ) (ls ks : List (List A)) (was now : List (List B)) → ks ≡ more_levels n ls → length ls ≡ length was → length now ≡ length was + n → length ks ≡ length now
more_long n ls ks was now e l la = ap length e ∙ length_more n ls ∙ ap (λ (k : ℕ). k + n) l ∙ sym la

fewer_long : {A B : Type 0} (n : ℕ) (ls ks : List (List A)) (was now : List (List B)) → ks ≡ fewer_levels n ls → length ls ≡ length was → length now ≡ length was - n → length ks ≡ length now
fewer_long n ls ks was now e l la = ap length e ∙ length_fewer n ls ∙ ap (λ (k : ℕ). k - n) l ∙ sym la

pub opened_whole : (h : Held) (n : ℕ) (d s : List (List (List ℕ × Ty))) (y : List (List (List ℕ × Rank))) (f : List (List (List ℕ × Function))) (a : List (List Formula)) → IsWhole h → length h.assertions + n ≤ 65537
    → d ≡ more_levels n h.declared_sorts → s ≡ more_levels n h.sorts → y ≡ more_levels n h.symbols → f ≡ more_levels n h.functions → a ≡ more_levels n h.assertions → IsWhole (held_in d s y f h.entries a h.global true)
opened_whole h n d s y f a w le ed es ey ef ea =
    let la : length a ≡ length h.assertions + n = ap length ea ∙ length_more n h.assertions in
    record {
      in_force = subst (λ (ls : List (List (List ℕ × Function))). AreInForce (terms_of h.entries) (joined ls)) (sym ef) (more_in_force (terms_of h.entries) n h.functions w.in_force);
      some = let o = w.some in omega (arith, la, o);
      few = omega (arith, la, le);
      declared_sorts = more_long n h.declared_sorts d h.assertions a ed w.declared_sorts la;
      sorts = more_long n h.sorts s h.assertions a es w.sorts la;
      symbols = more_long n h.symbols y h.assertions a ey w.symbols la;
      functions = more_long n h.functions f h.assertions a ef w.functions la;
    }

pub opened_is : (h : Held) (n : ℕ) (d s : List (List (List ℕ × Ty))) (y : List (List (List ℕ × Rank))) (f : List (List (List ℕ × Function))) (a : List (List Formula))
    → d ≡ more_levels n h.declared_sorts → s ≡ more_levels n h.sorts → y ≡ more_levels n h.symbols → f ≡ more_levels n h.functions → a ≡ more_levels n h.assertions → state_of (held_in d s y f h.entries a h.global true) ≡ opened (state_of h) n
opened_is h n d s y f a ed es ey ef ea =
    let fs : functions_at h.entries f ≡ more_levels n (functions_at h.entries h.functions) = ap (functions_at h.entries) ef ∙ more_at h.entries n h.functions in
    λ i. record { declared_sorts = ed i; sorts = es i; symbols = ey i; functions = fs i; assertions = ea i; global = h.global; begun = true }

pub closed_whole : (h : Held) (n : ℕ) (d s : List (List (List ℕ × Ty))) (y : List (List (List ℕ × Rank))) (f : List (List (List ℕ × Function))) (a : List (List Formula)) → IsWhole h → n < length h.assertions
    → d ≡ fewer_levels n h.declared_sorts → s ≡ fewer_levels n h.sorts → y ≡ fewer_levels n h.symbols → f ≡ fewer_levels n h.functions → a ≡ fewer_levels n h.assertions → IsWhole (held_in d s y f h.entries a h.global true)
closed_whole h n d s y f a w lt ed es ey ef ea =
    let la : length a ≡ length h.assertions - n = ap length ea ∙ length_fewer n h.assertions in
    record {
      in_force = subst (λ (ls : List (List (List ℕ × Function))). AreInForce (terms_of h.entries) (joined ls)) (sym ef) (fewer_in_force (terms_of h.entries) n h.functions w.in_force);
      some = omega (arith, la, lt);
      few = let o = w.few in omega (arith, la, o);
      declared_sorts = fewer_long n h.declared_sorts d h.assertions a ed w.declared_sorts la;
      sorts = fewer_long n h.sorts s h.assertions a es w.sorts la;
      symbols = fewer_long n h.symbols y h.assertions a ey w.symbols la;
      functions = fewer_long n h.functions f h.assertions a ef w.functions la;
    }

pub closed_is : (h : Held) (n : ℕ) (d s : List (List (List ℕ × Ty))) (y : List (List (List ℕ × Rank))) (f : List (List (List ℕ × Function))) (a : List (List Formula))
    → d ≡ fewer_levels n h.declared_sorts → s ≡ fewer_levels n h.sorts → y ≡ fewer_levels n h.symbols → f ≡ fewer_levels n h.functions → a ≡ fewer_levels n h.assertions → state_of (held_in d s y f h.entries a h.global true) ≡ closed (state_of h) n
closed_is h n d s y f a ed es ey ef ea =
    let fs : functions_at h.entries f ≡ fewer_levels n (functions_at h.entries h.functions) = ap (functions_at h.entries) ef ∙ fewer_at h.entries n h.functions in
    λ i. record { declared_sorts = ed i; sorts = es i; symbols = ey i; functions = fs i; assertions = ea i; global = h.global; begun = true }

-- a name that may be declared, and isn't there

pub taken_by : (h : Held) (name : List ℕ) (b r : Bool) → b ≡ is_barred name → b ≡ false → r ≡ has name (joined h.functions) → r ≡ is_function_taken (state_of h) name
taken_by h name b r e z k = k ∙ sym (named_at h.entries name h.functions) ∙ ap (λ (c : Bool). c || is_named name (joined (functions_at h.entries h.functions))) (sym z ∙ e)

-- a term in the context of a command
pub elaborated_by : (h : Held) (text : List ℕ) (at : Place) (own : Option (List ℕ)) (naming : Bool) (names : List (List ℕ)) (types : List Ty) (item : Sexp) (new : List Entry) (r : Result Elaborated Fail)
    → IsElaborated new r (elaborated (record (context_at text (state_of h) at own naming names types) { functions = functions_in (terms_of h.entries) (joined h.functions) }) item) → IsElaborated new r (elaborated (context_at text (state_of h) at own naming names types) item)
elaborated_by h text at own naming names types item new r a =
    subst (λ (fs : List TheFunction). IsElaborated new r (elaborated (record (context_at text (state_of h) at own naming names types) { functions = fs }) item)) (sym (joined_at h.entries h.functions)) a

-- A command goes on with an elaborated term.

pub goes_on : (result : Result Unit Fail) (old mid new : State) (e : Answer) (r : Read) (go : State → Read → Next) → e ≡ Ok r → mid ≡ old → Applies result mid (go mid r) new → Applies result old (and_then e (go old)) new
goes_on result old mid new e r go a m h =
    subst (λ (n : Next). Applies result old n new) (sym (ap (λ (x : Answer). and_then x (go old)) a)) (subst (λ (s : State). Applies result s (go s r) new) m h)

not_repeated : (o : Option Place) (ns names : List (List ℕ)) → unless_repeated o (Ok ns) ≡ Ok names → (o ≡ None) × (ns ≡ names)
not_repeated None ns names h = (refl, cc h)
not_repeated (Some at) ns names h = cc

passed : (b : Bool) (r n : Next) → b ≡ false → cond b r n ≡ n
passed true r n e = cc
passed false r n e = refl

pub define_goes : (text : List ℕ) (s : State) (at : Place) (n : Name) (ps : List (Name × Sexp)) (x body : Sexp) (tys : List Ty) (names : List (List ℕ)) (ty : Ty)
    → is_function_taken s n.bytes ≡ false → each_sort (sort_at text s) (items_in ps) ≡ Ok tys → unless_repeated (repeated [] ps) (Ok (names_of ps)) ≡ Ok names → sort_at text s x ≡ Ok ty
    → define_function text s at n ps x body ≡ and_then (elaborated (context_at text s at (Some n.bytes) true names tys) body) (defined s n tys ty body)
define_goes text s at n ps x body tys names ty free types distinct sort =
    let apart = not_repeated (repeated [] ps) (names_of ps) names distinct in
    let term : List (List ℕ) → List Ty → Ty → Next = λ ns ts t. and_then (elaborated (context_at text s at (Some n.bytes) true ns ts) body) (defined s n ts t body) in
    let sorted : List Ty → Next = λ ts. and_then (sort_at text s x) (term (names_of ps) ts) in
    let listed : Next = and_then (each_sort (sort_at text s) (items_in ps)) (λ (ts : List Ty). unless_repeated (repeated [] ps) (sorted ts)) in
    passed (is_function_taken s n.bytes) (Err (refused Reason.Redeclared n.at)) listed free
    ∙ ap (λ (r : Result (List Ty) Refusal). and_then r (λ (ts : List Ty). unless_repeated (repeated [] ps) (sorted ts))) types
    ∙ ap (λ (o : Option Place). unless_repeated o (sorted tys)) apart.0
    ∙ ap (λ (r : Result Ty Refusal). and_then r (term (names_of ps) tys)) sort
    ∙ ap (λ (ns : List (List ℕ)). term ns tys ty) apart.1

pub each_length : (one : Sexp → Result Ty Refusal) (xs : List Sexp) (tys : List Ty) → each_sort one xs ≡ Ok tys → length tys ≡ length xs
each_length one [] [] h = refl
each_length one [] (t ∷ tys) h = cc
each_length one (x ∷ xs) tys h =
    let a = first_ok (one x) (λ (ty : Ty). and_then (each_sort one xs) (λ (ts : List Ty). Ok (ty ∷ ts))) tys h in
    let b = first_ok (each_sort one xs) (λ (ts : List Ty). Ok (a.0 ∷ ts)) tys a.2 in
    let is : a.0 ∷ b.0 ≡ tys = cc (b.2) in
    ap length (sym is) ∙ ap suc (each_length one xs b.0 b.1)

pub names_length : (one : Sexp → Result Ty Refusal) (ps : List (Name × Sexp)) (names : List (List ℕ)) (tys : List Ty) → unless_repeated (repeated [] ps) (Ok (names_of ps)) ≡ Ok names → each_sort one (items_in ps) ≡ Ok tys → length names ≡ length tys
names_length one ps names tys d e =
    let apart = not_repeated (repeated [] ps) (names_of ps) names d in
    ap length (sym apart.1) ∙ length-map ps (λ (p : Name × Sexp). p.0.bytes) ∙ sym (length-map ps (λ (p : Name × Sexp). p.1)) ∙ sym (each_length one (items_in ps) tys e)

-- A list that is made from another, one by one.

pub each_step : {A B : Type 0} (f : A → B) (xs : List A) (i : ℕ) (done new goal : List B) (e : A) (b : B) → slice_get xs i ≡ Some e → b ≡ f e → new ≡ done ++ b ∷ [] → done ++ map f (drop i xs) ≡ goal → new ++ map f (drop (i + 1) xs) ≡ goal
each_step {A = A} {B = B} f xs i done new goal e b s c n h =
    let rest = map f (drop (i + 1) xs) in
    ap (λ (l : List B). l ++ rest) n ∙ append_assoc done (b ∷ []) rest ∙ ap (λ (r : B). done ++ r ∷ rest) c
    ∙ ap (λ (l : List A). done ++ map f l) (sym (drop_here xs i e s)) ∙ h

pub each_none : {A B : Type 0} (f : A → B) (xs : List A) (i : ℕ) (done new goal : List B) → slice_get xs i ≡ None → new ≡ done → done ++ map f (drop i xs) ≡ goal → new ++ map f (drop (i + 1) xs) ≡ goal
each_none {A = A} {B = B} f xs i done new goal s n h = ap (λ (l : List B). l ++ map f (drop (i + 1) xs)) n ∙ ap (λ (l : List A). done ++ map f l) (none_past xs i s) ∙ h

pub names_push : (ns : List (Bor (List ℕ))) (n : Bor (List ℕ)) → names_shown (ns ++ n ∷ []) ≡ names_shown ns ++ n.now ∷ []
names_push ns n = map-append (λ (m : Bor (List ℕ)). m.now) ns (n ∷ [])

-- an assertion without names, over an arena that is cut back to what the functions stand in

levels_back : (short long : List Entry) (ls : List (List (List ℕ × Function))) → Grows short long → StandBefore (length (terms_of short)) (joined ls) → AreInForce (terms_of long) (joined ls) → functions_at short ls ≡ functions_at long ls
levels_back short long ls g b h = sym (levels_stay short long ls g (in_force_back short long (joined ls) g b h))

cut_long : (long short : List Entry) (mark : ℕ) → mark ≤ length (terms_of long) → terms_of short ≡ take mark (terms_of long) → mark ≡ length (terms_of short)
cut_long long short mark le e = let l = ap length e ∙ length-take mark (terms_of long) in omega (arith, l, le)

stand_in_cut : (h : Held) (es : List Entry) (mark : ℕ) → mark ≤ length (terms_of h.entries) → terms_of es ≡ take mark (terms_of h.entries) → StandBefore mark (joined h.functions) → StandBefore (length (terms_of es)) (joined h.functions)
stand_in_cut h es mark le e b = subst (λ (n : ℕ). StandBefore n (joined h.functions)) (cut_long h.entries es mark le e) b

pub plain_whole : (h : Held) (es : List Entry) (as' : List (List Formula)) (f : Formula) (mark : ℕ) → IsWhole h → mark ≤ length (terms_of h.entries) → terms_of es ≡ take mark (terms_of h.entries) → StandBefore mark (joined h.functions) → as' ≡ in_newest h.assertions f
    → IsWhole (held_in h.declared_sorts h.sorts h.symbols h.functions es as' h.global true)
plain_whole h es as' f mark w le e b a =
    whole_by h (held_in h.declared_sorts h.sorts h.symbols h.functions es as' h.global true) w
    (in_force_back es h.entries (joined h.functions) (cut_grows h.entries es mark e) (stand_in_cut h es mark le e b) w.in_force) (ap length a ∙ length_newest h.assertions f) refl refl refl refl

pub plain_is : (h : Held) (es : List Entry) (as' : List (List Formula)) (f : Formula) (mark : ℕ) → IsWhole h → mark ≤ length (terms_of h.entries) → terms_of es ≡ take mark (terms_of h.entries) → StandBefore mark (joined h.functions) → as' ≡ in_newest h.assertions f
    → state_of (held_in h.declared_sorts h.sorts h.symbols h.functions es as' h.global true) ≡ with_new_assertion (state_of h) [] f
plain_is h es as' f mark w le e b a =
    let fs = levels_back es h.entries h.functions (cut_grows h.entries es mark e) (stand_in_cut h es mark le e b) w.in_force in
    λ i. record (state_of h) { functions = fs i; assertions = a i; begun = true }
