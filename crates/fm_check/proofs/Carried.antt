-- One command of a script, and what is seen from it on.
use Rattle.std.proofs.Common.{◌≡◌, ℕ, ◌+◌, Bool, true, false, cond, List, [], ◌∷◌, ◌++◌, length, Option, None, Some, Result, Ok, Err, refl, sym, ap, ◌∙◌, arith}
use Rattle.std.proofs.lemmas.Bool.{false≢true}
use Rattle.fm_base.specs.declared.refusal.Fail.{Fail}
use Rattle.fm_base.specs.declared.refusal.Refusal.{Refusal}
use Rattle.fm_sexp.specs.declared.items.Sexp.{Sexp}
use Rattle.fm_script.specs.Commands.{command_of}
use Rattle.fm_script.specs.Shown.{Shown}
use Rattle.fm_cert.specs.Lines.{Problem}
use Rattle.fm_elab.specs.Checks.{going_on, is_check, is_exit, refused_from, refused_on, refused_with, seen_where, seen_with}
use Rattle.fm_elab.specs.SortLaw.{IsSortedState}
use Rattle.fm_elab.specs.Stacks.{State as Stack}
use Rattle.fm_elab.specs.Steps.{step_of}
use Rattle.fm_elab.proofs.SortedStates.{steps_stay}
use Rattle.fm_check.specs.Carrying.{Carries, CountsFrom, IsCarried, kind_checks, kind_ends, refusal_at, refused_shape, refused_step}
use Rattle.fm_check.specs.Scripts.{in_force, problems_from}
use Rattle.fm_check.specs.declared.commands.Kind.{Kind}

seen_next : (text : List ℕ) (s t : Stack) (x : Sexp) (xs : List Sexp) (kind : Kind) → IsCarried text s x kind t → problems_from text s (x ∷ xs) ≡ seen_where (kind_checks kind) (in_force s) ++ cond (kind_ends kind) [] (problems_from text t xs)
seen_next text s t x xs kind c =
    ap (λ (read : Result Shown Refusal). seen_with in_force text s read (λ k. problems_from text k xs)) c.reads
    ∙ (ap (λ (b : Bool). seen_where b (in_force s) ++ going_on (is_exit c.command) (step_of text s c.command) (λ k. problems_from text k xs)) c.checks
    ∙ (ap (λ (b : Bool). seen_where (kind_checks kind) (in_force s) ++ going_on b (step_of text s c.command) (λ k. problems_from text k xs)) c.ends
    ∙ ap (λ (k : Result Stack Refusal). seen_where (kind_checks kind) (in_force s) ++ going_on (kind_ends kind) k (λ k. problems_from text k xs)) c.steps))

refused_next : (text : List ℕ) (s t : Stack) (x : Sexp) (xs : List Sexp) (kind : Kind) → IsCarried text s x kind t → refused_from text s (x ∷ xs) ≡ cond (kind_ends kind) None (refused_from text t xs)
refused_next text s t x xs kind c =
    ap (λ (read : Result Shown Refusal). refused_with text s read (λ k. refused_from text k xs)) c.reads
    ∙ (ap (λ (b : Bool). refused_on b (step_of text s c.command) (λ k. refused_from text k xs)) c.ends
    ∙ ap (λ (k : Result Stack Refusal). refused_on (kind_ends kind) k (λ k. refused_from text k xs)) c.steps)

pub seen_check : (text : List ℕ) (s t : Stack) (x : Sexp) (xs : List Sexp) → IsCarried text s x Kind.Check t → problems_from text s (x ∷ xs) ≡ in_force s ∷ problems_from text t xs
seen_check text s t x xs c = seen_next text s t x xs Kind.Check c

pub seen_exit : (text : List ℕ) (s t : Stack) (x : Sexp) (xs : List Sexp) → IsCarried text s x Kind.Exit t → problems_from text s (x ∷ xs) ≡ []
seen_exit text s t x xs c = seen_next text s t x xs Kind.Exit c

pub seen_other : (text : List ℕ) (s t : Stack) (x : Sexp) (xs : List Sexp) → IsCarried text s x Kind.Other t → problems_from text s (x ∷ xs) ≡ problems_from text t xs
seen_other text s t x xs c = seen_next text s t x xs Kind.Other c

pub refused_check : (text : List ℕ) (s t : Stack) (x : Sexp) (xs : List Sexp) → IsCarried text s x Kind.Check t → refused_from text s (x ∷ xs) ≡ refused_from text t xs
refused_check text s t x xs c = refused_next text s t x xs Kind.Check c

pub refused_exit : (text : List ℕ) (s t : Stack) (x : Sexp) (xs : List Sexp) → IsCarried text s x Kind.Exit t → refused_from text s (x ∷ xs) ≡ None
refused_exit text s t x xs c = refused_next text s t x xs Kind.Exit c

pub refused_other : (text : List ℕ) (s t : Stack) (x : Sexp) (xs : List Sexp) → IsCarried text s x Kind.Other t → refused_from text s (x ∷ xs) ≡ refused_from text t xs
refused_other text s t x xs c = refused_next text s t x xs Kind.Other c

-- a refusal of the item is that of the script from it on
by_step : (ends : Bool) (next : Result Stack Refusal) (rest : Stack → Option Refusal) (r : Refusal) → refused_step next ≡ Some r → refused_on ends next rest ≡ Some r
by_step ends (Err q) rest r h = h
by_step ends (Ok stack) rest r h = absurd (cc h)

by_shape : (text : List ℕ) (s : Stack) (read : Result Shown Refusal) (rest : Stack → Option Refusal) (r : Refusal) → refused_shape text s read ≡ Some r → refused_with text s read rest ≡ Some r
by_shape text s (Err q) rest r h = h
by_shape text s (Ok c) rest r h = by_step (is_exit c) (step_of text s c) rest r h

pub refused_here : (text : List ℕ) (s : Stack) (x : Sexp) (xs : List Sexp) (r : Refusal) → refusal_at text s x ≡ Some r → refused_from text s (x ∷ xs) ≡ Some r
refused_here text s x xs r h = by_shape text s (command_of text x) (λ k. refused_from text k xs) r h

-- where the script from the item on has no refusal, the item has none
free_step : (ends : Bool) (next : Result Stack Refusal) (rest : Stack → Option Refusal) → refused_on ends next rest ≡ None → refused_step next ≡ None
free_step ends (Err q) rest h = h
free_step ends (Ok stack) rest h = refl

free_shape : (text : List ℕ) (s : Stack) (read : Result Shown Refusal) (rest : Stack → Option Refusal) → refused_with text s read rest ≡ None → refused_shape text s read ≡ None
free_shape text s (Err q) rest h = h
free_shape text s (Ok c) rest h = free_step (is_exit c) (step_of text s c) rest h

pub free_here : (text : List ℕ) (s : Stack) (x : Sexp) (xs : List Sexp) → refused_from text s (x ∷ xs) ≡ None → refusal_at text s x ≡ None
free_here text s x xs h = free_shape text s (command_of text x) (λ k. refused_from text k xs) h

-- a command that isn't carried out ends the count
pub counted_stops : (text : List ℕ) (s t : Stack) (start : Stack) (x : Sexp) (xs items : List Sexp) (fail : Fail) → Carries text s x (Err fail) t → refused_from text start items ≡ refused_from text s (x ∷ xs) → CountsFrom text start items (Err fail)
counted_stops text s t start x xs items (Fail.Refused r) h e = e ∙ refused_here text s x xs r h
counted_stops text s t start x xs items Fail.Memory h e = tt

-- a `check-sat` leaves the stack as it is
check_leaves : (text : List ℕ) (s t : Stack) (c : Shown) → is_check c ≡ true → step_of text s c ≡ Ok t → s ≡ t
check_leaves text s t (Shown.CheckSat at) h e = cc e
check_leaves text s t (Shown.SetLogic at name) h e = absurd (false≢true h)
check_leaves text s t (Shown.SetOption at keyword item) h e = absurd (false≢true h)
check_leaves text s t (Shown.SetInfo at keyword item) h e = absurd (false≢true h)
check_leaves text s t (Shown.GetInfo at keyword) h e = absurd (false≢true h)
check_leaves text s t (Shown.DeclareSort at name arity) h e = absurd (false≢true h)
check_leaves text s t (Shown.DefineSort at name params sort) h e = absurd (false≢true h)
check_leaves text s t (Shown.DeclareConst at name sort) h e = absurd (false≢true h)
check_leaves text s t (Shown.DeclareFun at name args sort) h e = absurd (false≢true h)
check_leaves text s t (Shown.DefineFun at name params sort body) h e = absurd (false≢true h)
check_leaves text s t (Shown.Assert at term) h e = absurd (false≢true h)
check_leaves text s t (Shown.Push at levels) h e = absurd (false≢true h)
check_leaves text s t (Shown.Pop at levels) h e = absurd (false≢true h)
check_leaves text s t (Shown.GetModel at) h e = absurd (false≢true h)
check_leaves text s t (Shown.Exit at) h e = absurd (false≢true h)
check_leaves text s t (Shown.GetValue at terms) h e = absurd (false≢true h)
check_leaves text s t (Shown.Echo at literal) h e = absurd (false≢true h)

pub checked_stays : (text : List ℕ) (s t : Stack) (x : Sexp) → IsCarried text s x Kind.Check t → s ≡ t
checked_stays text s t x c = check_leaves text s t c.command c.checks c.steps

pub sorted_next : (text : List ℕ) (s t : Stack) (x : Sexp) (kind : Kind) → IsSortedState s → IsCarried text s x kind t → IsSortedState t
sorted_next text s t x kind sorted c = steps_stay text s t c.command sorted c.steps

-- counts of the `check-sat` commands that are seen
pub counted_check : (text : List ℕ) (s t : Stack) (x : Sexp) (xs : List Sexp) (all count : ℕ) → IsCarried text s x Kind.Check t → all ≡ count + length (problems_from text s (x ∷ xs)) → all ≡ count + 1 + length (problems_from text t xs)
counted_check text s t x xs all count c e = let l = ap length (seen_check text s t x xs c) in omega (arith, e, l)

pub counted_exit : (text : List ℕ) (s t : Stack) (x : Sexp) (xs : List Sexp) (all count : ℕ) → IsCarried text s x Kind.Exit t → all ≡ count + length (problems_from text s (x ∷ xs)) → count ≡ all
counted_exit text s t x xs all count c e = let l = ap length (seen_exit text s t x xs c) in omega (arith, e, l)

pub counted_other : (text : List ℕ) (s t : Stack) (x : Sexp) (xs : List Sexp) (all count : ℕ) → IsCarried text s x Kind.Other t → all ≡ count + length (problems_from text s (x ∷ xs)) → all ≡ count + length (problems_from text t xs)
counted_other text s t x xs all count c e = let l = ap length (seen_other text s t x xs c) in omega (arith, e, l)
