-- Reserved words, and names that are written bare.
use Rattle.std.specs.Prelude.{ℕ, Bool, false, ◌&&◌, not, List, [], ◌∷◌, codes}
use Rattle.std.specs.List.{list_any, list_all}
use Rattle.std.specs.Str.{bytes_eq}
use Rattle.fm_sexp.specs.Pieces.{is_digit, is_symbol_byte}

-- the reserved words of the standard and the names of its commands
unfoldable pub reserved_words : List (List ℕ)
reserved_words =
    codes "_" ∷ codes "!" ∷ codes "as" ∷ codes "let" ∷ codes "exists" ∷ codes "forall" ∷ codes "match" ∷ codes "par"
    ∷ codes "BINARY" ∷ codes "DECIMAL" ∷ codes "HEXADECIMAL" ∷ codes "NUMERAL" ∷ codes "STRING"
    ∷ codes "assert" ∷ codes "check-sat" ∷ codes "check-sat-assuming" ∷ codes "declare-const" ∷ codes "declare-datatype"
    ∷ codes "declare-datatypes" ∷ codes "declare-fun" ∷ codes "declare-sort" ∷ codes "define-fun" ∷ codes "define-fun-rec"
    ∷ codes "define-funs-rec" ∷ codes "define-sort" ∷ codes "echo" ∷ codes "exit" ∷ codes "get-assertions"
    ∷ codes "get-assignment" ∷ codes "get-info" ∷ codes "get-model" ∷ codes "get-option" ∷ codes "get-proof"
    ∷ codes "get-unsat-assumptions" ∷ codes "get-unsat-core" ∷ codes "get-value" ∷ codes "pop" ∷ codes "push"
    ∷ codes "reset" ∷ codes "reset-assertions" ∷ codes "set-info" ∷ codes "set-logic" ∷ codes "set-option" ∷ []

abbrev pub is_reserved : List ℕ → Bool
is_reserved name = list_any (λ w. bytes_eq w name) reserved_words

-- a name that is a symbol as it stands: not empty, of symbol bytes, not beginning with a digit and not reserved
abbrev pub is_bare : List ℕ → Bool
is_bare [] = false
is_bare (b ∷ bs) = not (is_digit b) && (list_all is_symbol_byte (b ∷ bs) && not (is_reserved (b ∷ bs)))
