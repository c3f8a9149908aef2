-- What a command asks of a session, apart from what it does to the assertion stack.
use Rattle.std.specs.Prelude.{ℕ, Bool, true, false, not, ◌||◌, ◌&&◌, cond, List, codes}
use Rattle.std.specs.Str.{bytes_eq}
use Rattle.fm_base.specs.declared.refusal.Place.{Place}
use Rattle.fm_script.specs.Commands.{name_of}
use Rattle.fm_script.specs.Shown.{Shown}
use Rattle.fm_elab.specs.Stacks.{State as Stack}
use Rattle.fm_elab.specs.Steps.{is_true_name}
use Rattle.fm_session.specs.declared.effect.Act.{Act}

-- `Says` has a line that is the same whatever stands; `Changes` ends what a `check-sat` left standing
pub data Effect : Type 0 where
  Checks : Place → Effect
  Says : List ℕ → Effect
  AsksWhy : Effect
  AsksModel : Place → Effect
  Prints : Bool → Effect
  Changes : Effect
  Ends : Effect
  Passes : Effect

abbrev pub effect : Act → Effect
effect (Act.Checks at) = Effect.Checks at
effect (Act.Says text) = Effect.Says text.now
effect Act.AsksWhy = Effect.AsksWhy
effect (Act.AsksModel at) = Effect.AsksModel at
effect (Act.Prints on) = Effect.Prints on
effect Act.Changes = Effect.Changes
effect Act.Ends = Effect.Ends
effect Act.Passes = Effect.Passes

abbrev pub is_end : Effect → Bool
is_end Effect.Ends = true
is_end (Effect.Checks at) = false
is_end Effect.Changes = false
is_end (Effect.Prints on) = false
is_end (Effect.Says text) = false
is_end Effect.AsksWhy = false
is_end (Effect.AsksModel at) = false
is_end Effect.Passes = false

abbrev pub unsupported : List ℕ
unsupported = codes "unsupported"

-- the options that have no reply of their own; where declarations stand can't be set once the stack has begun
abbrev pub is_known : Bool → List ℕ → Bool
is_known begun keyword =
    (bytes_eq keyword (codes ":global-declarations") && not begun)
    || (bytes_eq keyword (codes ":produce-models") || bytes_eq keyword (codes ":finite-model-find"))

abbrev pub option_effect : Bool → List ℕ → Bool → Effect
option_effect begun keyword on = cond (bytes_eq keyword (codes ":print-success")) (Effect.Prints on) (cond (is_known begun keyword) Effect.Passes (Effect.Says unsupported))

abbrev pub info_effect : List ℕ → Effect
info_effect keyword =
    cond (bytes_eq keyword (codes ":name")) (Effect.Says (codes "(:name \"fmf\")"))
    (cond (bytes_eq keyword (codes ":version")) (Effect.Says (codes "(:version \"1\")"))
    (cond (bytes_eq keyword (codes ":error-behavior")) (Effect.Says (codes "(:error-behavior immediate-exit)"))
    (cond (bytes_eq keyword (codes ":reason-unknown")) Effect.AsksWhy (Effect.Says unsupported))))

-- whether the stack has begun is all that is asked of it
abbrev pub effect_where : List ℕ → Bool → Shown → Effect
effect_where text begun (Shown.SetLogic at name) = Effect.Passes
effect_where text begun (Shown.SetOption at keyword item) = option_effect begun keyword.bytes (is_true_name (name_of text item))
effect_where text begun (Shown.SetInfo at keyword item) = Effect.Passes
effect_where text begun (Shown.GetInfo at keyword) = info_effect keyword.bytes
effect_where text begun (Shown.DeclareSort at name arity) = Effect.Changes
effect_where text begun (Shown.DefineSort at name params sort) = Effect.Changes
effect_where text begun (Shown.DeclareConst at name sort) = Effect.Changes
effect_where text begun (Shown.DeclareFun at name args sort) = Effect.Changes
effect_where text begun (Shown.DefineFun at name params sort body) = Effect.Changes
effect_where text begun (Shown.Assert at term) = Effect.Changes
effect_where text begun (Shown.Push at levels) = Effect.Changes
effect_where text begun (Shown.Pop at levels) = Effect.Changes
effect_where text begun (Shown.CheckSat at) = Effect.Checks at
effect_where text begun (Shown.GetModel at) = Effect.AsksModel at
effect_where text begun (Shown.Exit at) = Effect.Ends
effect_where text begun (Shown.GetValue at terms) = Effect.AsksModel at
effect_where text begun (Shown.Echo at literal) = Effect.Says literal.bytes

abbrev pub effect_of : List ℕ → Stack → Shown → Effect
effect_of text stack command = effect_where text stack.begun command
