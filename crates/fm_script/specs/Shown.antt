-- Commands as plain values: the place of the parenthesis, and the parts of the shape in order.
use Rattle.std.specs.Prelude.{◌≡◌, ℕ, List, map, MatchOption, Option, Some, None}
use Rattle.std.specs.Borrow.{Bor}
use Rattle.std.specs.Option.{option_map}
use Rattle.fm_base.specs.declared.refusal.Place.{Place}
use Rattle.fm_sexp.specs.declared.items.Sexp.{Sexp}
use Rattle.fm_script.specs.declared.command.Command.{Command}
use Rattle.fm_script.specs.declared.command.Number.{Number}
use Rattle.fm_script.specs.declared.command.Part.{Part}

-- a name without its bars, or the text of another word
pub record Name : Type 0 where
  pub bytes : List ℕ
  pub at : Place

pub record Numeral : Type 0 where
  pub value : ℕ
  pub at : Place

pub data Shown : Type 0 where
  SetLogic : Place → Name → Shown
  SetOption : Place → Name → Sexp → Shown
  SetInfo : Place → Name → Option Sexp → Shown
  GetInfo : Place → Name → Shown
  DeclareSort : Place → Name → Numeral → Shown
  DefineSort : Place → Name → Sexp → Sexp → Shown
  DeclareConst : Place → Name → Sexp → Shown
  DeclareFun : Place → Name → List Sexp → Sexp → Shown
  DefineFun : Place → Name → List (Name × Sexp) → Sexp → Sexp → Shown
  Assert : Place → Sexp → Shown
  Push : Place → Option Numeral → Shown
  Pop : Place → Option Numeral → Shown
  CheckSat : Place → Shown
  GetModel : Place → Shown
  Exit : Place → Shown
  GetValue : Place → List Sexp → Shown
  Echo : Place → Name → Shown

abbrev pub name_shown : Part → Name
name_shown p = record { bytes = p.bytes.now; at = p.at }

abbrev pub numeral_shown : Number → Numeral
numeral_shown n = record { value = n.value; at = n.at }

-- a parameter, or a quantified variable: its name and its sort
abbrev pub pair_shown : Part × Bor Sexp → Name × Sexp
pair_shown p = (name_shown p.0, p.1.now)

abbrev pub shown : Command → Shown
shown (Command.SetLogic at name) = Shown.SetLogic at (name_shown name)
shown (Command.SetOption at keyword item) = Shown.SetOption at (name_shown keyword) item.now
shown (Command.SetInfo at keyword item) = Shown.SetInfo at (name_shown keyword) (option_map (λ i. i.now) item)
shown (Command.GetInfo at keyword) = Shown.GetInfo at (name_shown keyword)
shown (Command.DeclareSort at name arity) = Shown.DeclareSort at (name_shown name) (numeral_shown arity)
shown (Command.DefineSort at name params sort) = Shown.DefineSort at (name_shown name) params.now sort.now
shown (Command.DeclareConst at name sort) = Shown.DeclareConst at (name_shown name) sort.now
shown (Command.DeclareFun at name args sort) = Shown.DeclareFun at (name_shown name) (map (λ i. i.now) args.items) sort.now
shown (Command.DefineFun at name params sort body) = Shown.DefineFun at (name_shown name) (map (λ p. (name_shown p.0, p.1.now)) params.items) sort.now body.now
shown (Command.Assert at term) = Shown.Assert at term.now
shown (Command.Push at levels) = Shown.Push at (option_map numeral_shown levels)
shown (Command.Pop at levels) = Shown.Pop at (option_map numeral_shown levels)
shown (Command.CheckSat at) = Shown.CheckSat at
shown (Command.GetModel at) = Shown.GetModel at
shown (Command.Exit at) = Shown.Exit at
shown (Command.GetValue at terms) = Shown.GetValue at (map (λ i. i.now) terms.items)
shown (Command.Echo at text) = Shown.Echo at (name_shown text)

-- None where there is nothing, else what the value shows
abbrev pub IsShownBy : {A B : Type 0} → Option B → (A → B) → Option A → Type 0
IsShownBy found shows o = MatchOption o (found ≡ None) (λ v. found ≡ Some (shows v))
