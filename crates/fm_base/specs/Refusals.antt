-- The numbers and words of refusals, as a reply gives them.
use Rattle.std.specs.Prelude.{ℕ, List, codes}
use Rattle.fm_base.specs.declared.refusal.Reason.{Reason}

abbrev pub reason_number : Reason → ℕ
reason_number Reason.Lexical = 1
reason_number Reason.Unbalanced = 2
reason_number Reason.TooDeep = 3
reason_number Reason.UnexpectedEnd = 4
reason_number Reason.UnknownCommand = 5
reason_number Reason.BadShape = 6
reason_number Reason.NumberTooWide = 7
reason_number Reason.LogicRefused = 8
reason_number Reason.UnknownSort = 9
reason_number Reason.UnknownSymbol = 10
reason_number Reason.Redeclared = 11
reason_number Reason.Arity = 12
reason_number Reason.SortMismatch = 13
reason_number Reason.SortArity = 14
reason_number Reason.BoolArgument = 15
reason_number Reason.PopTooMany = 16
reason_number Reason.TooLarge = 17
reason_number Reason.NoModel = 18
reason_number Reason.TooLong = 19
reason_number Reason.NotYet = 20

abbrev pub reason_text : Reason → List ℕ
reason_text Reason.Lexical = codes "bad token"
reason_text Reason.Unbalanced = codes "unbalanced parenthesis"
reason_text Reason.TooDeep = codes "nested too deeply"
reason_text Reason.UnexpectedEnd = codes "unexpected end"
reason_text Reason.UnknownCommand = codes "unknown command"
reason_text Reason.BadShape = codes "bad shape"
reason_text Reason.NumberTooWide = codes "number too wide"
reason_text Reason.LogicRefused = codes "logic refused"
reason_text Reason.UnknownSort = codes "unknown sort"
reason_text Reason.UnknownSymbol = codes "unknown symbol"
reason_text Reason.Redeclared = codes "name already taken"
reason_text Reason.Arity = codes "wrong number of arguments"
reason_text Reason.SortMismatch = codes "wrong sort"
reason_text Reason.SortArity = codes "sort arity refused"
reason_text Reason.BoolArgument = codes "Bool refused here"
reason_text Reason.PopTooMany = codes "pop below the first level"
reason_text Reason.TooLarge = codes "too large"
reason_text Reason.NoModel = codes "no model"
reason_text Reason.TooLong = codes "script too long"
reason_text Reason.NotYet = codes "not yet"
