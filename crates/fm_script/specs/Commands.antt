-- The shapes of commands (SMT-LIB 2.6, scripts), row by row on items: the one command of an item, or its refusal. The
-- shape comes before a numeral that is too wide.
use Rattle.std.specs.Prelude.{◌≡◌, ℕ, ◌+◌, ◌-◌, ◌*◌, ◌^◌, Bool, false, ◌&&◌, ◌||◌, nat_lt, cond, List, [], ◌∷◌, slice_range, Option, Some, None, is_some, Result, Ok, Err, codes}
use Rattle.std.specs.List.{list_all}
use Rattle.std.specs.Option.{option_map}
use Rattle.std.specs.Str.{bytes_eq}
use Rattle.fm_base.specs.declared.refusal.Fail.{Fail}
use Rattle.fm_base.specs.declared.refusal.Place.{Place}
use Rattle.fm_base.specs.declared.refusal.Reason.{Reason}
use Rattle.fm_base.specs.declared.refusal.Refusal.{Refusal}
use Rattle.fm_sexp.specs.Names.{is_reserved}
use Rattle.fm_sexp.specs.declared.items.Sexp.{Sexp}
use Rattle.fm_sexp.specs.declared.items.Sexp.TheOpen.{Sexp-F}
use Rattle.fm_sexp.specs.declared.items.Sexp.TheViews.{out-Sexp}
use Rattle.fm_sexp.specs.declared.pieces.Kind.{Kind}
use Rattle.fm_script.specs.Shown.{Shown, Name, Numeral, numeral_shown, shown}
use Rattle.fm_script.specs.declared.command.Command.{Command}
use Rattle.fm_script.specs.declared.command.Number.{Number}

abbrev pub Read : Type 0
Read = Result Shown Refusal

abbrev pub bad_shape : Place → Refusal
bad_shape at = record { reason = Reason.BadShape; at = at }

abbrev pub unknown_command : Place → Refusal
unknown_command at = record { reason = Reason.UnknownCommand; at = at }

abbrev pub too_wide : Place → Refusal
too_wide at = record { reason = Reason.NumberTooWide; at = at }

-- the place of an item
abbrev pub place_step : Sexp-F Sexp → Place
place_step (Sexp-F.Word kind start end at) = at
place_step (Sexp-F.List items start end at) = at

abbrev pub place_of_item : Sexp → Place
place_of_item x = place_step (out-Sexp x)

-- a symbol as it stands, which may be reserved
abbrev pub symbol_step : List ℕ → Sexp-F Sexp → Option (List ℕ)
symbol_step text (Sexp-F.Word Kind.Symbol start end at) = Some (slice_range text start end)
symbol_step text _ = None

abbrev pub symbol_of : List ℕ → Sexp → Option (List ℕ)
symbol_of text x = symbol_step text (out-Sexp x)

-- a name: a symbol that isn't reserved, or what stands between bars
abbrev pub name_step : List ℕ → Sexp-F Sexp → Option Name
name_step text (Sexp-F.Word Kind.Symbol start end at) = cond (is_reserved (slice_range text start end)) None (Some (record { bytes = slice_range text start end; at = at }))
name_step text (Sexp-F.Word Kind.Quoted start end at) = Some (record { bytes = slice_range text (start + 1) (end - 1); at = at })
name_step text _ = None

abbrev pub name_of : List ℕ → Sexp → Option Name
name_of text x = name_step text (out-Sexp x)

abbrev pub keyword_step : List ℕ → Sexp-F Sexp → Option Name
keyword_step text (Sexp-F.Word Kind.Keyword start end at) = Some (record { bytes = slice_range text start end; at = at })
keyword_step text _ = None

abbrev pub keyword_of : List ℕ → Sexp → Option Name
keyword_of text x = keyword_step text (out-Sexp x)

-- a string literal, with its quotes
abbrev pub literal_step : List ℕ → Sexp-F Sexp → Option Name
literal_step text (Sexp-F.Word Kind.Text start end at) = Some (record { bytes = slice_range text start end; at = at })
literal_step text _ = None

abbrev pub literal_of : List ℕ → Sexp → Option Name
literal_of text x = literal_step text (out-Sexp x)

-- the digits of a numeral
abbrev pub digits_step : List ℕ → Sexp-F Sexp → Option Name
digits_step text (Sexp-F.Word Kind.Numeral start end at) = Some (record { bytes = slice_range text start end; at = at })
digits_step text _ = None

abbrev pub digits_of : List ℕ → Sexp → Option Name
digits_of text x = digits_step text (out-Sexp x)

-- the members of a list
abbrev pub members_step : Sexp-F Sexp → Option (List Sexp)
members_step (Sexp-F.Word kind start end at) = None
members_step (Sexp-F.List items start end at) = Some items

abbrev pub members_of : Sexp → Option (List Sexp)
members_of x = members_step (out-Sexp x)

-- what stands for a sort in a shape: a name or a list
abbrev pub is_sort : List ℕ → Sexp → Bool
is_sort text x = is_some (name_of text x) || is_some (members_of x)

-- the number that decimal digits say
abbrev pub decimal_from : ℕ → List ℕ → ℕ
decimal_from sum [] = sum
decimal_from sum (d ∷ ds) = decimal_from (sum * 10 + (d - 48)) ds

abbrev pub decimal_of : List ℕ → ℕ
decimal_of digits = decimal_from 0 digits

-- a numeral below 2^64, which the command goes on with
abbrev pub with_numeral : Name → (Numeral → Shown) → Read
with_numeral digits go = cond (nat_lt (decimal_of digits.bytes) (2 ^ 64)) (Ok (go (record { value = decimal_of digits.bytes; at = digits.at }))) (Err (too_wide digits.at))

abbrev pub set_logic : Place → Option Name → Read
set_logic at None = Err (bad_shape at)
set_logic at (Some name) = Ok (Shown.SetLogic at name)

abbrev pub set_logic_of : List ℕ → Place → List Sexp → Read
set_logic_of text at [] = Err (bad_shape at)
set_logic_of text at (n ∷ []) = set_logic at (name_of text n)
set_logic_of text at (n ∷ x ∷ xs) = Err (bad_shape at)

-- the options whose item is `true` or `false`
abbrev pub is_switch : List ℕ → Bool
is_switch keyword = bytes_eq keyword (codes ":print-success") || bytes_eq keyword (codes ":global-declarations") || bytes_eq keyword (codes ":produce-models") || bytes_eq keyword (codes ":finite-model-find")

abbrev pub is_truth_name : Option Name → Bool
is_truth_name None = false
is_truth_name (Some n) = bytes_eq n.bytes (codes "true") || bytes_eq n.bytes (codes "false")

abbrev pub set_option : List ℕ → Place → Option Name → Sexp → Read
set_option text at None item = Err (bad_shape at)
set_option text at (Some keyword) item = cond (is_switch keyword.bytes) (cond (is_truth_name (name_of text item)) (Ok (Shown.SetOption at keyword item)) (Err (bad_shape (place_of_item item)))) (Ok (Shown.SetOption at keyword item))

abbrev pub set_option_of : List ℕ → Place → List Sexp → Read
set_option_of text at [] = Err (bad_shape at)
set_option_of text at (k ∷ []) = Err (bad_shape at)
set_option_of text at (k ∷ item ∷ []) = set_option text at (keyword_of text k) item
set_option_of text at (k ∷ item ∷ x ∷ xs) = Err (bad_shape at)

abbrev pub set_info : Place → Option Name → Option Sexp → Read
set_info at None item = Err (bad_shape at)
set_info at (Some keyword) item = Ok (Shown.SetInfo at keyword item)

abbrev pub set_info_of : List ℕ → Place → List Sexp → Read
set_info_of text at [] = Err (bad_shape at)
set_info_of text at (k ∷ []) = set_info at (keyword_of text k) None
set_info_of text at (k ∷ item ∷ []) = set_info at (keyword_of text k) (Some item)
set_info_of text at (k ∷ item ∷ x ∷ xs) = Err (bad_shape at)

abbrev pub get_info : Place → Option Name → Read
get_info at None = Err (bad_shape at)
get_info at (Some keyword) = Ok (Shown.GetInfo at keyword)

abbrev pub get_info_of : List ℕ → Place → List Sexp → Read
get_info_of text at [] = Err (bad_shape at)
get_info_of text at (k ∷ []) = get_info at (keyword_of text k)
get_info_of text at (k ∷ x ∷ xs) = Err (bad_shape at)

abbrev pub declare_sort : Place → Option Name → Option Name → Read
declare_sort at None digits = Err (bad_shape at)
declare_sort at (Some name) None = Err (bad_shape at)
declare_sort at (Some name) (Some digits) = with_numeral digits (λ arity. Shown.DeclareSort at name arity)

abbrev pub declare_sort_of : List ℕ → Place → List Sexp → Read
declare_sort_of text at [] = Err (bad_shape at)
declare_sort_of text at (n ∷ []) = Err (bad_shape at)
declare_sort_of text at (n ∷ a ∷ []) = declare_sort at (name_of text n) (digits_of text a)
declare_sort_of text at (n ∷ a ∷ x ∷ xs) = Err (bad_shape at)

abbrev pub define_sort : List ℕ → Place → Option Name → Sexp → Sexp → Read
define_sort text at None params sort = Err (bad_shape at)
define_sort text at (Some name) params sort = cond (is_some (members_of params) && is_sort text sort) (Ok (Shown.DefineSort at name params sort)) (Err (bad_shape at))

abbrev pub define_sort_of : List ℕ → Place → List Sexp → Read
define_sort_of text at [] = Err (bad_shape at)
define_sort_of text at (n ∷ []) = Err (bad_shape at)
define_sort_of text at (n ∷ p ∷ []) = Err (bad_shape at)
define_sort_of text at (n ∷ p ∷ s ∷ []) = define_sort text at (name_of text n) p s
define_sort_of text at (n ∷ p ∷ s ∷ x ∷ xs) = Err (bad_shape at)

abbrev pub declare_const : List ℕ → Place → Option Name → Sexp → Read
declare_const text at None sort = Err (bad_shape at)
declare_const text at (Some name) sort = cond (is_sort text sort) (Ok (Shown.DeclareConst at name sort)) (Err (bad_shape at))

abbrev pub declare_const_of : List ℕ → Place → List Sexp → Read
declare_const_of text at [] = Err (bad_shape at)
declare_const_of text at (n ∷ []) = Err (bad_shape at)
declare_const_of text at (n ∷ s ∷ []) = declare_const text at (name_of text n) s
declare_const_of text at (n ∷ s ∷ x ∷ xs) = Err (bad_shape at)

abbrev pub declare_fun : List ℕ → Place → Option Name → Option (List Sexp) → Sexp → Read
declare_fun text at None args sort = Err (bad_shape at)
declare_fun text at (Some name) None sort = Err (bad_shape at)
declare_fun text at (Some name) (Some args) sort = cond (list_all (is_sort text) args && is_sort text sort) (Ok (Shown.DeclareFun at name args sort)) (Err (bad_shape at))

abbrev pub declare_fun_of : List ℕ → Place → List Sexp → Read
declare_fun_of text at [] = Err (bad_shape at)
declare_fun_of text at (n ∷ []) = Err (bad_shape at)
declare_fun_of text at (n ∷ a ∷ []) = Err (bad_shape at)
declare_fun_of text at (n ∷ a ∷ s ∷ []) = declare_fun text at (name_of text n) (members_of a) s
declare_fun_of text at (n ∷ a ∷ s ∷ x ∷ xs) = Err (bad_shape at)

-- a parameter: a name and a sort
abbrev pub named_sort : List ℕ → Option Name → Sexp → Option (Name × Sexp)
named_sort text None sort = None
named_sort text (Some name) sort = cond (is_sort text sort) (Some (name, sort)) None

abbrev pub parameter_in : List ℕ → Option (List Sexp) → Option (Name × Sexp)
parameter_in text None = None
parameter_in text (Some []) = None
parameter_in text (Some (n ∷ [])) = None
parameter_in text (Some (n ∷ s ∷ [])) = named_sort text (name_of text n) s
parameter_in text (Some (n ∷ s ∷ x ∷ xs)) = None

abbrev pub parameter_of : List ℕ → Sexp → Option (Name × Sexp)
parameter_of text x = parameter_in text (members_of x)

abbrev pub with_parameter : Option (Name × Sexp) → Option (List (Name × Sexp)) → Option (List (Name × Sexp))
with_parameter None ps = None
with_parameter (Some p) None = None
with_parameter (Some p) (Some ps) = Some (p ∷ ps)

abbrev pub parameters_of : List ℕ → List Sexp → Option (List (Name × Sexp))
parameters_of text [] = Some []
parameters_of text (x ∷ xs) = with_parameter (parameter_of text x) (parameters_of text xs)

abbrev pub parameters_in : List ℕ → Option (List Sexp) → Option (List (Name × Sexp))
parameters_in text None = None
parameters_in text (Some xs) = parameters_of text xs

abbrev pub define_fun : List ℕ → Place → Option Name → Option (List (Name × Sexp)) → Sexp → Sexp → Read
define_fun text at None params sort body = Err (bad_shape at)
define_fun text at (Some name) None sort body = Err (bad_shape at)
define_fun text at (Some name) (Some params) sort body = cond (is_sort text sort) (Ok (Shown.DefineFun at name params sort body)) (Err (bad_shape at))

abbrev pub define_fun_of : List ℕ → Place → List Sexp → Read
define_fun_of text at [] = Err (bad_shape at)
define_fun_of text at (n ∷ []) = Err (bad_shape at)
define_fun_of text at (n ∷ p ∷ []) = Err (bad_shape at)
define_fun_of text at (n ∷ p ∷ s ∷ []) = Err (bad_shape at)
define_fun_of text at (n ∷ p ∷ s ∷ b ∷ []) = define_fun text at (name_of text n) (parameters_in text (members_of p)) s b
define_fun_of text at (n ∷ p ∷ s ∷ b ∷ x ∷ xs) = Err (bad_shape at)

abbrev pub assert_of : Place → List Sexp → Read
assert_of at [] = Err (bad_shape at)
assert_of at (t ∷ []) = Ok (Shown.Assert at t)
assert_of at (t ∷ x ∷ xs) = Err (bad_shape at)

-- the levels of a `push` or a `pop`: one where no numeral stands there
abbrev pub numeral_in : Name → Result (Option Numeral) Refusal
numeral_in digits = cond (nat_lt (decimal_of digits.bytes) (2 ^ 64)) (Ok (Some (record { value = decimal_of digits.bytes; at = digits.at }))) (Err (too_wide digits.at))

abbrev pub levels : Place → Option Name → Result (Option Numeral) Refusal
levels at None = Err (bad_shape at)
levels at (Some digits) = numeral_in digits

abbrev pub levels_of : List ℕ → Place → List Sexp → Result (Option Numeral) Refusal
levels_of text at [] = Ok None
levels_of text at (n ∷ []) = levels at (digits_of text n)
levels_of text at (n ∷ x ∷ xs) = Err (bad_shape at)

abbrev pub with_levels : Result (Option Numeral) Refusal → (Option Numeral → Shown) → Read
with_levels (Ok n) go = Ok (go n)
with_levels (Err refusal) go = Err refusal

abbrev pub push_of : List ℕ → Place → List Sexp → Read
push_of text at parts = with_levels (levels_of text at parts) (λ n. Shown.Push at n)

abbrev pub pop_of : List ℕ → Place → List Sexp → Read
pop_of text at parts = with_levels (levels_of text at parts) (λ n. Shown.Pop at n)

-- a command without parts
abbrev pub alone : Place → Shown → List Sexp → Read
alone at command [] = Ok command
alone at command (x ∷ xs) = Err (bad_shape at)

abbrev pub get_value : Place → Option (List Sexp) → Read
get_value at None = Err (bad_shape at)
get_value at (Some []) = Err (bad_shape at)
get_value at (Some (t ∷ ts)) = Ok (Shown.GetValue at (t ∷ ts))

abbrev pub get_value_of : Place → List Sexp → Read
get_value_of at [] = Err (bad_shape at)
get_value_of at (l ∷ []) = get_value at (members_of l)
get_value_of at (l ∷ x ∷ xs) = Err (bad_shape at)

abbrev pub echo : Place → Option Name → Read
echo at None = Err (bad_shape at)
echo at (Some literal) = Ok (Shown.Echo at literal)

abbrev pub echo_of : List ℕ → Place → List Sexp → Read
echo_of text at [] = Err (bad_shape at)
echo_of text at (l ∷ []) = echo at (literal_of text l)
echo_of text at (l ∷ x ∷ xs) = Err (bad_shape at)

abbrev pub by_later_head : List ℕ → Place → List ℕ → List Sexp → Read
by_later_head text at head parts =
    cond (bytes_eq head (codes "assert")) (assert_of at parts)
    (cond (bytes_eq head (codes "push")) (push_of text at parts)
    (cond (bytes_eq head (codes "pop")) (pop_of text at parts)
    (cond (bytes_eq head (codes "check-sat")) (alone at (Shown.CheckSat at) parts)
    (cond (bytes_eq head (codes "get-model")) (alone at (Shown.GetModel at) parts)
    (cond (bytes_eq head (codes "exit")) (alone at (Shown.Exit at) parts)
    (cond (bytes_eq head (codes "get-value")) (get_value_of at parts)
    (cond (bytes_eq head (codes "echo")) (echo_of text at parts)
    (Err (unknown_command at)))))))))

-- by the head, with the parts behind it
abbrev pub by_head : List ℕ → Place → List ℕ → List Sexp → Read
by_head text at head parts =
    cond (bytes_eq head (codes "set-logic")) (set_logic_of text at parts)
    (cond (bytes_eq head (codes "set-option")) (set_option_of text at parts)
    (cond (bytes_eq head (codes "set-info")) (set_info_of text at parts)
    (cond (bytes_eq head (codes "get-info")) (get_info_of text at parts)
    (cond (bytes_eq head (codes "declare-sort")) (declare_sort_of text at parts)
    (cond (bytes_eq head (codes "define-sort")) (define_sort_of text at parts)
    (cond (bytes_eq head (codes "declare-const")) (declare_const_of text at parts)
    (cond (bytes_eq head (codes "declare-fun")) (declare_fun_of text at parts)
    (cond (bytes_eq head (codes "define-fun")) (define_fun_of text at parts)
    (by_later_head text at head parts)))))))))

abbrev pub with_head : List ℕ → Place → Option (List ℕ) → List Sexp → Read
with_head text at None parts = Err (bad_shape at)
with_head text at (Some head) parts = by_head text at head parts

abbrev pub list_command : List ℕ → Place → List Sexp → Read
list_command text at [] = Err (bad_shape at)
list_command text at (head ∷ parts) = with_head text at (symbol_of text head) parts

abbrev pub command_step : List ℕ → Sexp-F Sexp → Read
command_step text (Sexp-F.Word kind start end at) = Err (bad_shape at)
command_step text (Sexp-F.List items start end at) = list_command text at items

-- the command of an item, or its refusal
abbrev pub command_of : List ℕ → Sexp → Read
command_of text x = command_step text (out-Sexp x)

-- the answer of a reader is what the definition says; want of memory says nothing
abbrev pub IsAnswer : Result Command Fail → Read → Type 0
IsAnswer (Ok command) read = read ≡ Ok (shown command)
IsAnswer (Err (Fail.Refused refusal)) read = read ≡ Err refusal
IsAnswer (Err Fail.Memory) read = Unit {0}

-- the same of the levels of a `push` or a `pop`
abbrev pub AreLevels : Result (Option Number) Fail → Result (Option Numeral) Refusal → Type 0
AreLevels (Ok n) levels = levels ≡ Ok (option_map numeral_shown n)
AreLevels (Err (Fail.Refused refusal)) levels = levels ≡ Err refusal
AreLevels (Err Fail.Memory) levels = Unit {0}
