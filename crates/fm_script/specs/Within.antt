-- The items that are parts of a command lie within the text.
use Rattle.std.specs.Prelude.{◌≡◌, ℕ, IfSome, Bool, true, ◌&&◌, List, map, Option, Some, None}
use Rattle.fm_sexp.specs.Items.{spans_within, all_within, all_hold}
use Rattle.fm_sexp.specs.declared.items.Sexp.{Sexp}
use Rattle.fm_script.specs.Shown.{Shown, Name}

abbrev pub some_within : ℕ → Option Sexp → Bool
some_within n None = true
some_within n (Some x) = spans_within n x

abbrev pub parameters_within : ℕ → List (Name × Sexp) → Bool
parameters_within n ps = all_hold (map (λ p. spans_within n p.1) ps)

abbrev pub parts_within : ℕ → Shown → Bool
parts_within n (Shown.SetLogic at name) = true
parts_within n (Shown.SetOption at keyword item) = spans_within n item
parts_within n (Shown.SetInfo at keyword item) = some_within n item
parts_within n (Shown.GetInfo at keyword) = true
parts_within n (Shown.DeclareSort at name arity) = true
parts_within n (Shown.DefineSort at name params sort) = spans_within n params && spans_within n sort
parts_within n (Shown.DeclareConst at name sort) = spans_within n sort
parts_within n (Shown.DeclareFun at name args sort) = all_within n args && spans_within n sort
parts_within n (Shown.DefineFun at name params sort body) = parameters_within n params && (spans_within n sort && spans_within n body)
parts_within n (Shown.Assert at term) = spans_within n term
parts_within n (Shown.Push at levels) = true
parts_within n (Shown.Pop at levels) = true
parts_within n (Shown.CheckSat at) = true
parts_within n (Shown.GetModel at) = true
parts_within n (Shown.Exit at) = true
parts_within n (Shown.GetValue at terms) = all_within n terms
parts_within n (Shown.Echo at text) = true

-- the parameters that a value shows, where there is one, lie within the text
abbrev pub AreWithinBy : {A : Type 0} → ℕ → (A → List (Name × Sexp)) → Option A → Type 0
AreWithinBy n shows o = IfSome o (λ v. parameters_within n (shows v) ≡ true)
