-- The parts of a line, between which single blanks stand, and what each says.
use Rattle.std.specs.Prelude.{ℕ, ◌+◌, ◌-◌, ◌*◌, ◌^◌, ◌==◌, Bool, true, false, not, ◌&&◌, nat_lt, nat_le, cond, if◌then◌else◌, List, [], ◌∷◌, ◌++◌, codes, decimal, map, Option, Some, None}
use Rattle.std.specs.List.{slice_split}
use Rattle.std.specs.Option.{option_map}
use Rattle.std.specs.Str.{all_ascii_digits, bytes_eq}
use Rattle.std.specs.Char.{is_ascii_digit}
use Rattle.fm_base.specs.declared.ids.TermId.{TermId}
use Rattle.fm_bank.specs.declared.atom.Atom.{Atom}
use Rattle.fm_bank.specs.declared.literal.Literal.{Literal}
use Rattle.fm_cert.specs.declared.block.Line.{Line}
use Rattle.fm_cert.specs.declared.row.Row.{Row}
use Rattle.fm_cert.specs.Spelling.{spelling_of_atom, spelling_of_sign}

-- what stands before the first byte of this value, and what behind it
abbrev pub onto : {X : Type 0} → X → Option (List X × List X) → Option (List X × List X)
onto x None = None
onto x (Some p) = Some (x ∷ p.0, p.1)

abbrev pub cut : ℕ → List ℕ → Option (List ℕ × List ℕ)
cut c [] = None
cut c (b ∷ bs) = cond (b == c) (Some ([], bs)) (onto b (cut c bs))

abbrev pub behind : {X : Type 0} → List X → Option (List X × List X) → Option (List X × List X)
behind front None = None
behind front (Some p) = Some (front ++ p.0, p.1)

abbrev pub parts_in : List ℕ → List (List ℕ)
parts_in line = slice_split (λ b. b == 32) line

-- the number that digits say, from the left
abbrev pub value_from : ℕ → List ℕ → ℕ
value_from n [] = n
value_from n (d ∷ ds) = value_from (n * 10 + (d - 48)) ds

abbrev pub fitting : ℕ → Option ℕ
fitting n = cond (nat_lt n (2 ^ 64)) (Some n) None

-- digits without leading zeros
abbrev pub is_decimal : List ℕ → Bool
is_decimal [] = false
is_decimal (b ∷ []) = is_ascii_digit b
is_decimal (b ∷ c ∷ bs) = not (b == 48) && all_ascii_digits (b ∷ c ∷ bs)

abbrev pub number_in : List ℕ → Option ℕ
number_in part = cond (is_decimal part) (fitting (value_from 0 part)) None

-- each part as one item, where all are
abbrev pub with_item : {Y : Type 0} → Option Y → Option (List Y) → Option (List Y)
with_item None rest = None
with_item (Some y) None = None
with_item (Some y) (Some ys) = Some (y ∷ ys)

abbrev pub all_in : {Y : Type 0} → (List ℕ → Option Y) → List (List ℕ) → Option (List Y)
all_in one [] = Some []
all_in one (part ∷ parts) = with_item (one part) (all_in one parts)

abbrev pub numbers_in : List (List ℕ) → Option (List ℕ)
numbers_in parts = all_in number_in parts

abbrev pub term_of : Option ℕ → Option TermId
term_of None = None
term_of (Some n) = Some (record { 0 = n })

abbrev pub term_at : List ℕ → Option TermId
term_at part = term_of (number_in part)

abbrev pub terms_in : List (List ℕ) → Option (List TermId)
terms_in parts = all_in term_at parts

abbrev pub two_numbers : Option ℕ → Option ℕ → Option (ℕ × ℕ)
two_numbers None b = None
two_numbers (Some a) None = None
two_numbers (Some a) (Some b) = Some (a, b)

abbrev pub pair_of : Option (List ℕ × List ℕ) → Option (ℕ × ℕ)
pair_of None = None
pair_of (Some p) = two_numbers (number_in p.0) (number_in p.1)

abbrev pub pair_in : List ℕ → Option (ℕ × ℕ)
pair_in part = pair_of (cut 44 part)

abbrev pub equal_of : Option (ℕ × ℕ) → Option Atom
equal_of None = None
equal_of (Some p) = cond (nat_le p.0 p.1) (Some (Atom.Equal (record { 0 = p.0 }) (record { 0 = p.1 }))) None

abbrev pub card_of : Option (ℕ × ℕ) → Option Atom
card_of None = None
card_of (Some p) = Some (Atom.Card (record { 0 = p.0 }) p.1)

abbrev pub pred_of : Option ℕ → Option Atom
pred_of None = None
pred_of (Some n) = Some (Atom.Pred (record { 0 = n }))

abbrev pub bound_of : Option ℕ → Option Atom
bound_of None = None
bound_of (Some n) = Some (Atom.Bound n)

-- E, P, C or B, and what stands behind it
abbrev pub atom_of : ℕ → List ℕ → Option Atom
atom_of kind rest = if kind == 69 then equal_of (pair_in rest) else if kind == 80 then pred_of (number_in rest) else if kind == 67 then card_of (pair_in rest) else if kind == 66 then bound_of (number_in rest) else None

abbrev pub sign_of : ℕ → Option Bool
sign_of byte = if byte == 43 then Some true else if byte == 45 then Some false else None

abbrev pub literal_of : Option Bool → Option Atom → Option Literal
literal_of None a = None
literal_of (Some s) None = None
literal_of (Some s) (Some a) = Some (record { positive = s; atom = a })

abbrev pub literal_in : List ℕ → Option Literal
literal_in [] = None
literal_in (s ∷ []) = None
literal_in (s ∷ kind ∷ rest) = literal_of (sign_of s) (atom_of kind rest)

abbrev pub step_of : Option Literal → Option ℕ → Option (Literal × ℕ)
step_of None c = None
step_of (Some l) None = None
step_of (Some l) (Some c) = Some (l, c)

abbrev pub step_in : List ℕ → List ℕ → Option (Literal × ℕ)
step_in l c = step_of (literal_in l) (number_in c)

abbrev pub steps_in : List (List ℕ) → Option (List (Literal × ℕ))
steps_in [] = Some []
steps_in (l ∷ []) = None
steps_in (l ∷ c ∷ parts) = with_item (step_in l c) (steps_in parts)

abbrev pub begin_in : List (List ℕ) → Option Row
begin_in (n ∷ []) = option_map Row.Begin (number_in n)
begin_in _ = None

abbrev pub instance_row : Option ℕ → Option (List TermId) → Option Row
instance_row None ts = None
instance_row (Some c) None = None
instance_row (Some c) (Some ts) = Some (Row.Body (Line.Instance c ts))

abbrev pub instance_in : List (List ℕ) → Option Row
instance_in [] = None
instance_in (c ∷ parts) = instance_row (number_in c) (terms_in parts)

abbrev pub term_row : Option ℕ → Option (List TermId) → Option Row
term_row None ts = None
term_row (Some c) None = None
term_row (Some c) (Some ts) = Some (Row.Body (Line.Term (record { 0 = c }) ts))

abbrev pub term_in : List (List ℕ) → Option Row
term_in [] = None
term_in (c ∷ parts) = term_row (number_in c) (terms_in parts)

abbrev pub sum_row : Option ℕ → Option (List ℕ) → Option Row
sum_row None ks = None
sum_row (Some n) None = None
sum_row (Some n) (Some ks) = Some (Row.Body (Line.Sum n ks))

abbrev pub sum_in : List (List ℕ) → Option Row
sum_in [] = None
sum_in (n ∷ parts) = sum_row (number_in n) (numbers_in parts)

abbrev pub zero_row : Option ℕ → Option Row
zero_row None = None
zero_row (Some s) = Some (Row.Body (Line.OrderZero (record { 0 = s })))

abbrev pub bound_row : Option ℕ → Option Row
bound_row None = None
bound_row (Some n) = Some (Row.Body (Line.OrderBound n))

abbrev pub card_row : Option (ℕ × ℕ) → Option Row
card_row None = None
card_row (Some p) = Some (Row.Body (Line.OrderCard (record { 0 = p.0 }) p.1))

abbrev pub cardinality_row : Option (ℕ × ℕ) → Option (List TermId) → Option Row
cardinality_row None ts = None
cardinality_row (Some p) None = None
cardinality_row (Some p) (Some ts) = Some (Row.Body (Line.Cardinality (record { 0 = p.0 }) p.1 ts))

abbrev pub cardinality_in : List (List ℕ) → Option Row
cardinality_in [] = None
cardinality_in (s ∷ []) = None
cardinality_in (s ∷ k ∷ parts) = cardinality_row (two_numbers (number_in s) (number_in k)) (terms_in parts)

abbrev pub literals_in : List (List ℕ) → Option (List Literal)
literals_in parts = all_in literal_in parts

-- the parts before the first `/`, and those behind it
abbrev pub slash : List ℕ
slash = codes "/"

abbrev pub cut_slash : List (List ℕ) → Option (List (List ℕ) × List (List ℕ))
cut_slash [] = None
cut_slash (part ∷ parts) = cond (bytes_eq part slash) (Some ([], parts)) (onto part (cut_slash parts))

-- the last part, and those before it
abbrev pub before_last : List ℕ → Option (List (List ℕ) × List ℕ) → Option (List (List ℕ) × List ℕ)
before_last part None = Some ([], part)
before_last part (Some p) = Some (part ∷ p.0, p.1)

abbrev pub cut_last : List (List ℕ) → Option (List (List ℕ) × List ℕ)
cut_last [] = None
cut_last (part ∷ parts) = before_last part (cut_last parts)

abbrev pub equality_row : Option (List Literal) → Option (List TermId) → Option Row
equality_row None ts = None
equality_row (Some ls) None = None
equality_row (Some ls) (Some ts) = Some (Row.Body (Line.Equality ls ts))

abbrev pub equality_of : Option (List (List ℕ) × List (List ℕ)) → Option Row
equality_of None = None
equality_of (Some p) = equality_row (literals_in p.0) (terms_in p.1)

abbrev pub equality_in : List (List ℕ) → Option Row
equality_in parts = equality_of (cut_slash parts)

abbrev pub order_in : List (List ℕ) → Option Row
order_in (kind ∷ s ∷ []) = if bytes_eq kind (codes "z") then zero_row (number_in s) else if bytes_eq kind (codes "b") then bound_row (number_in s) else None
order_in (kind ∷ s ∷ k ∷ []) = if bytes_eq kind (codes "c") then card_row (two_numbers (number_in s) (number_in k)) else None
order_in _ = None

abbrev pub resolution_row : Option ℕ → Option (List (Literal × ℕ)) → Option Row
resolution_row None steps = None
resolution_row (Some c) None = None
resolution_row (Some c) (Some []) = None
resolution_row (Some c) (Some (step ∷ steps)) = Some (Row.Body (Line.Resolution c (step ∷ steps)))

abbrev pub resolution_in : List (List ℕ) → Option Row
resolution_in [] = None
resolution_in (c ∷ parts) = resolution_row (number_in c) (steps_in parts)

abbrev pub unknown_row : Option (ℕ × ℕ) → Option Row
unknown_row None = None
unknown_row (Some p) = Some (Row.Unknown p.0 p.1)

abbrev pub ending_in : List (List ℕ) → Option Row
ending_in (word ∷ []) = if bytes_eq word (codes "unsat") then Some Row.Unsat else None
ending_in (word ∷ n ∷ []) = if bytes_eq word (codes "sat") then option_map Row.Sat (number_in n) else None
ending_in (word ∷ i ∷ d ∷ []) = if bytes_eq word (codes "unknown") then unknown_row (two_numbers (number_in i) (number_in d)) else None
ending_in _ = None

abbrev pub sizes_of : Option (List ℕ) → Option Row
sizes_of None = None
sizes_of (Some ks) = Some (Row.Sizes ks)

abbrev pub sizes_in : List (List ℕ) → Option Row
sizes_in parts = sizes_of (numbers_in parts)

abbrev pub default_in : List (List ℕ) → Option Row
default_in (v ∷ []) = option_map Row.Default (number_in v)
default_in _ = None

-- the tuple, and behind it the value
abbrev pub exception_row : Option (List ℕ) → Option ℕ → Option Row
exception_row None v = None
exception_row (Some ns) None = None
exception_row (Some ns) (Some v) = Some (Row.Exception ns v)

abbrev pub exception_of : Option (List (List ℕ) × List ℕ) → Option Row
exception_of None = None
exception_of (Some p) = exception_row (numbers_in p.0) (number_in p.1)

abbrev pub exception_in : List (List ℕ) → Option Row
exception_in parts = exception_of (cut_last parts)

-- a line of the model of an ending, by its first part
abbrev pub model_by : List ℕ → List (List ℕ) → Option Row
model_by head rest = if bytes_eq head (codes "z") then sizes_in rest else if bytes_eq head (codes "d") then default_in rest else if bytes_eq head (codes "x") then exception_in rest else None

-- a line of a lemma, by its first part
abbrev pub lemma_by : List ℕ → List (List ℕ) → Option Row
lemma_by head rest = if bytes_eq head (codes "e") then equality_in rest else if bytes_eq head (codes "c") then cardinality_in rest else if bytes_eq head (codes "s") then sum_in rest else if bytes_eq head (codes "o") then order_in rest else model_by head rest

abbrev pub row_by : List ℕ → List (List ℕ) → Option Row
row_by head rest = if bytes_eq head (codes "b") then begin_in rest else if bytes_eq head (codes "t") then term_in rest else if bytes_eq head (codes "i") then instance_in rest else if bytes_eq head (codes "r") then resolution_in rest else if bytes_eq head (codes "q") then ending_in rest else lemma_by head rest

abbrev pub row_in : List (List ℕ) → Option Row
row_in [] = None
row_in (head ∷ rest) = row_by head rest

-- the parts of each line
abbrev pub part_of_literal : Literal → List ℕ
part_of_literal l = spelling_of_sign l.positive ++ spelling_of_atom l.atom

abbrev pub parts_of_terms : List TermId → List (List ℕ)
parts_of_terms ts = map (λ (t : TermId). decimal t.0) ts

abbrev pub parts_of_steps : List (Literal × ℕ) → List (List ℕ)
parts_of_steps [] = []
parts_of_steps (s ∷ ss) = part_of_literal s.0 ∷ decimal s.1 ∷ parts_of_steps ss

abbrev pub parts_of_literals : List Literal → List (List ℕ)
parts_of_literals ls = map part_of_literal ls

abbrev pub parts_of_line : Line → List (List ℕ)
parts_of_line (Line.Term f args) = codes "t" ∷ decimal f.0 ∷ parts_of_terms args
parts_of_line (Line.Equality lits support) = codes "e" ∷ parts_of_literals lits ++ codes "/" ∷ parts_of_terms support
parts_of_line (Line.Cardinality s k ts) = codes "c" ∷ decimal s.0 ∷ decimal k ∷ parts_of_terms ts
parts_of_line (Line.OrderCard s k) = codes "o" ∷ codes "c" ∷ decimal s.0 ∷ decimal k ∷ []
parts_of_line (Line.OrderBound n) = codes "o" ∷ codes "b" ∷ decimal n ∷ []
parts_of_line (Line.Instance c ts) = codes "i" ∷ decimal c ∷ parts_of_terms ts
parts_of_line (Line.Sum n ks) = codes "s" ∷ decimal n ∷ map decimal ks
parts_of_line (Line.OrderZero s) = codes "o" ∷ codes "z" ∷ decimal s.0 ∷ []
parts_of_line (Line.Resolution c steps) = codes "r" ∷ decimal c ∷ parts_of_steps steps

abbrev pub parts_of_row : Row → List (List ℕ)
parts_of_row (Row.Begin k) = codes "b" ∷ decimal k ∷ []
parts_of_row (Row.Body line) = parts_of_line line
parts_of_row Row.Unsat = codes "q" ∷ codes "unsat" ∷ []
parts_of_row (Row.Sat sum) = codes "q" ∷ codes "sat" ∷ decimal sum ∷ []
parts_of_row (Row.Unknown i d) = codes "q" ∷ codes "unknown" ∷ decimal i ∷ decimal d ∷ []
parts_of_row (Row.Sizes ks) = codes "z" ∷ map decimal ks
parts_of_row (Row.Default v) = codes "d" ∷ decimal v ∷ []
parts_of_row (Row.Exception tuple v) = codes "x" ∷ map decimal tuple ++ decimal v ∷ []
