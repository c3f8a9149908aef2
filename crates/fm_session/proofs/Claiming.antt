-- The blocks of items that were carried out are good for the problems of the text, and their claims hold.
use Rattle.std.proofs.Common.{◌≡◌, ℕ, ◌+◌, Bool, true, false, cond, List, [], ◌∷◌, ◌++◌, length, Option, None, Some, Result, Ok, Err, refl, sym, ap, subst, ◌∙◌, arith, inl, inr}
use Rattle.std.proofs.lemmas.Bool.{cases_Bool, false≢true}
use Rattle.std.specs.Str.{bytes_eq}
use Rattle.std.specs.Prelude.{codes}
use Rattle.fm_base.specs.declared.refusal.Refusal.{Refusal}
use Rattle.fm_sexp.specs.declared.items.Sexp.{Sexp}
use Rattle.fm_script.specs.Commands.{command_of, name_of}
use Rattle.fm_script.specs.Shown.{Shown}
use Rattle.fm_cert.specs.Claims.{AreGoodFrom}
use Rattle.fm_cert.specs.Lines.{Problem}
use Rattle.fm_cert.specs.declared.block.Block.{Block}
use Rattle.fm_elab.specs.Checks.{going_on, is_check, is_exit, seen_where, seen_with}
use Rattle.fm_elab.specs.Stacks.{State as Stack}
use Rattle.fm_elab.specs.Steps.{is_true_name, step_of}
use Rattle.fm_session.specs.Effects.{Effect, effect_of, effect_where, info_effect, is_end, is_known, option_effect, unsupported}
use Rattle.fm_session.specs.Problems.{in_force, problems_from}
use Rattle.fm_session.specs.Replies.{AreAnswered, AreBlocks, Past, refusal_by}
use Rattle.fm_session.specs.Steps.{Goes, Turn, next_read, unless, with_stack}
use Rattle.fm_session.specs.declared.budget.Budget.{Budget}

-- whether an effect is that of a `check-sat`
abbrev pub is_checking : Effect → Bool
is_checking (Effect.Checks at) = true
is_checking (Effect.Says text) = false
is_checking Effect.AsksWhy = false
is_checking (Effect.AsksModel at) = false
is_checking (Effect.Prints on) = false
is_checking Effect.Changes = false
is_checking Effect.Ends = false
is_checking Effect.Passes = false

-- neither a `check-sat` nor `exit`
record IsPlain (e : Effect) : Type 0 where
  checks : is_checking e ≡ false
  ends : is_end e ≡ false

either : (b : Bool) (e f : Effect) → IsPlain e → IsPlain f → IsPlain (cond b e f)
either true e f p q = p
either false e f p q = q

option_plain : (begun : Bool) (keyword : List ℕ) (on : Bool) → IsPlain (option_effect begun keyword on)
option_plain begun keyword on =
    either (bytes_eq keyword (codes ":print-success")) (Effect.Prints on) _ (record { checks = refl; ends = refl })
    (either (is_known begun keyword) Effect.Passes (Effect.Says unsupported) (record { checks = refl; ends = refl }) (record { checks = refl; ends = refl }))

info_plain : (keyword : List ℕ) → IsPlain (info_effect keyword)
info_plain keyword =
    either (bytes_eq keyword (codes ":name")) (Effect.Says (codes "(:name \"fmf\")")) _ (record { checks = refl; ends = refl })
    (either (bytes_eq keyword (codes ":version")) (Effect.Says (codes "(:version \"1\")")) _ (record { checks = refl; ends = refl })
    (either (bytes_eq keyword (codes ":error-behavior")) (Effect.Says (codes "(:error-behavior immediate-exit)")) _ (record { checks = refl; ends = refl })
    (either (bytes_eq keyword (codes ":reason-unknown")) Effect.AsksWhy (Effect.Says unsupported) (record { checks = refl; ends = refl }) (record { checks = refl; ends = refl }))))

-- a command checks, or ends, exactly where its effect does
record Agrees (e : Effect) (c : Shown) : Type 0 where
  checks : is_checking e ≡ is_check c
  ends : is_end e ≡ is_exit c

agrees : (text : List ℕ) (begun : Bool) (c : Shown) → Agrees (effect_where text begun c) c
agrees text begun (Shown.SetLogic at name) = record { checks = refl; ends = refl }
agrees text begun (Shown.SetOption at keyword item) = let p = option_plain begun keyword.bytes (is_true_name (name_of text item)) in record { checks = p.checks; ends = p.ends }
agrees text begun (Shown.SetInfo at keyword item) = record { checks = refl; ends = refl }
agrees text begun (Shown.GetInfo at keyword) = let p = info_plain keyword.bytes in record { checks = p.checks; ends = p.ends }
agrees text begun (Shown.DeclareSort at name arity) = record { checks = refl; ends = refl }
agrees text begun (Shown.DefineSort at name params sort) = record { checks = refl; ends = refl }
agrees text begun (Shown.DeclareConst at name sort) = record { checks = refl; ends = refl }
agrees text begun (Shown.DeclareFun at name args sort) = record { checks = refl; ends = refl }
agrees text begun (Shown.DefineFun at name params sort body) = record { checks = refl; ends = refl }
agrees text begun (Shown.Assert at term) = record { checks = refl; ends = refl }
agrees text begun (Shown.Push at levels) = record { checks = refl; ends = refl }
agrees text begun (Shown.Pop at levels) = record { checks = refl; ends = refl }
agrees text begun (Shown.CheckSat at) = record { checks = refl; ends = refl }
agrees text begun (Shown.GetModel at) = record { checks = refl; ends = refl }
agrees text begun (Shown.Exit at) = record { checks = refl; ends = refl }
agrees text begun (Shown.GetValue at terms) = record { checks = refl; ends = refl }
agrees text begun (Shown.Echo at literal) = record { checks = refl; ends = refl }

abbrev pub problem_at : Effect → Stack → List Problem
problem_at e stack = seen_where (is_checking e) (in_force stack)

unless_parts : (o : Option Refusal) (e : Effect) (k : Result Stack Refusal) (turn : Turn) → unless o (with_stack e k) ≡ Ok turn → (e ≡ turn.effect) × (k ≡ Ok turn.stack)
unless_parts (Some r) e k turn h = absurd (cc h)
unless_parts None e (Err r) turn h = absurd (cc h)
unless_parts None e (Ok stack) turn h =
    let same : record { effect = e; stack = stack } ≡ turn = cc h in
    (ap (λ (n : Turn). n.effect) same, ap (λ (n : Turn). Ok n.stack) same)

-- what a command that is carried out was
pub record Carried (text : List ℕ) (s : Past) (read : Result Shown Refusal) (turn : Turn) : Type 0 where
  pub command : Shown
  pub is : read ≡ Ok command
  pub asks : effect_of text s.stack command ≡ turn.effect
  pub steps : step_of text s.stack command ≡ Ok turn.stack

pub carried : (text : List ℕ) (s : Past) (read : Result Shown Refusal) (turn : Turn) → next_read text s read ≡ Ok turn → Carried text s read turn
carried text s (Err r) turn h = absurd (cc h)
carried text s (Ok c) turn h =
    let parts = unless_parts (refusal_by s (effect_of text s.stack c)) (effect_of text s.stack c) (step_of text s.stack c) turn h in
    record { command = c; is = refl; asks = parts.0; steps = parts.1 }

none_answered : (budget : Budget) (k : ℕ) (ps : List Problem) (bs : List Block) → bs ≡ [] → AreAnswered budget k ps bs
none_answered budget k [] bs e = subst (λ (xs : List Block). AreAnswered budget k [] xs) (sym e) tt
none_answered budget k (p ∷ ps) bs e = subst (λ (xs : List Block). AreAnswered budget k (p ∷ ps) xs) (sym e) tt

silent : (s : Past) (b bs : List Block) (ps : List Problem) → b ≡ [] → AreAnswered s.budget (s.checks + length b) ps bs → AreAnswered s.budget s.checks ps (b ++ bs)
silent s b bs ps e h =
    let none : s.checks + length b ≡ s.checks = let len = ap length e in omega (arith, len) in
    subst (λ (xs : List Block). AreAnswered s.budget s.checks ps (xs ++ bs)) (sym e) (subst (λ (k : ℕ). AreAnswered s.budget k ps bs) none h)

one_answered : (s : Past) (e : Effect) (b bs : List Block) (ps : List Problem) → AreBlocks s e b → AreAnswered s.budget (s.checks + length b) ps bs → AreAnswered s.budget s.checks (problem_at e s.stack ++ ps) (b ++ bs)
one_answered s (Effect.Checks at) b bs ps (block, e, a) h =
    let one : s.checks + length b ≡ s.checks + 1 = let len = ap length e in omega (arith, len) in
    let rest = subst (λ (k : ℕ). AreAnswered s.budget k ps bs) one h in
    subst (λ (xs : List Block). AreAnswered s.budget s.checks (in_force s.stack ∷ ps) (xs ++ bs)) (sym e) (a.number, a.good, a.holds, a.counted, rest)
one_answered s (Effect.Says text) b bs ps e h = silent s b bs ps e h
one_answered s Effect.AsksWhy b bs ps e h = silent s b bs ps e h
one_answered s (Effect.AsksModel at) b bs ps e h = silent s b bs ps e h
one_answered s (Effect.Prints on) b bs ps e h = silent s b bs ps e h
one_answered s Effect.Changes b bs ps e h = silent s b bs ps e h
one_answered s Effect.Ends b bs ps e h = silent s b bs ps e h
one_answered s Effect.Passes b bs ps e h = silent s b bs ps e h

-- nothing goes on after `exit`
over : (text : List ℕ) (s : Past) (xs : List Sexp) (blocks : List Block) (replies : List ℕ) (t : Past) → s.ended ≡ true → Goes text s xs blocks replies t → blocks ≡ []
over text s [] blocks replies t e h = h.0
over text s (x ∷ xs) blocks replies t e h = absurd (false≢true (sym h.0 ∙ e))

problems_next : (text : List ℕ) (s : Past) (x : Sexp) (xs : List Sexp) (turn : Turn) → Carried text s (command_of text x) turn → problems_from text s.stack (x ∷ xs) ≡ problem_at turn.effect s.stack ++ cond (is_end turn.effect) [] (problems_from text turn.stack xs)
problems_next text s x xs turn c =
    let a = agrees text s.stack.begun c.command in
    let checks : is_check c.command ≡ is_checking turn.effect = sym a.checks ∙ ap is_checking c.asks in
    let ends : is_exit c.command ≡ is_end turn.effect = sym a.ends ∙ ap is_end c.asks in
    ap (λ (read : Result Shown Refusal). seen_with in_force text s.stack read (λ k. problems_from text k xs)) c.is
    ∙ (ap (λ (b : Bool). seen_where b (in_force s.stack) ++ going_on (is_exit c.command) (step_of text s.stack c.command) (λ k. problems_from text k xs)) checks
    ∙ (ap (λ (b : Bool). problem_at turn.effect s.stack ++ going_on b (step_of text s.stack c.command) (λ k. problems_from text k xs)) ends
    ∙ ap (λ (k : Result Stack Refusal). problem_at turn.effect s.stack ++ going_on (is_end turn.effect) k (λ k. problems_from text k xs)) c.steps))

pub all_answered : (text : List ℕ) (s : Past) (done rest : List Sexp) (blocks : List Block) (replies : List ℕ) (t : Past) → Goes text s done blocks replies t → AreAnswered s.budget s.checks (problems_from text s.stack (done ++ rest)) blocks
all_answered text s [] rest blocks replies t h = none_answered s.budget s.checks (problems_from text s.stack rest) blocks h.0
all_answered text s (x ∷ xs) rest blocks replies t (on, (b, bs, r, rs, m, step, eb, er, more)) =
    let c = carried text s (command_of text x) step.turn step.read in
    let problems = problems_next text s x (xs ++ rest) step.turn c in
    let ends : m.ended ≡ is_end step.turn.effect = ap (λ (n : Past). n.ended) step.leaves in
    let checks : m.checks ≡ s.checks + length b = ap (λ (n : Past). n.checks) step.leaves in
    let budget : m.budget ≡ s.budget = ap (λ (n : Past). n.budget) step.leaves in
    let stack : m.stack ≡ step.turn.stack = ap (λ (n : Past). n.stack) step.leaves in
    let behind = all_answered text m xs rest bs rs t more in
    let same : AreAnswered s.budget (s.checks + length b) (problems_from text step.turn.stack (xs ++ rest)) bs =
    subst (λ (k : Stack). AreAnswered s.budget (s.checks + length b) (problems_from text k (xs ++ rest)) bs) stack
    (subst (λ (n : ℕ). AreAnswered s.budget n (problems_from text m.stack (xs ++ rest)) bs) checks
    (subst (λ (u : Budget). AreAnswered u m.checks (problems_from text m.stack (xs ++ rest)) bs) budget behind)) in
    let tail : AreAnswered s.budget (s.checks + length b) (cond (is_end step.turn.effect) [] (problems_from text step.turn.stack (xs ++ rest))) bs =
    elim (cases_Bool (is_end step.turn.effect)) [
      | inl yes' ↦ none_answered s.budget (s.checks + length b) (cond (is_end step.turn.effect) [] (problems_from text step.turn.stack (xs ++ rest))) bs (over text m xs bs rs t (ends ∙ yes') more)
      | inr no' ↦ subst (λ (o : Bool). AreAnswered s.budget (s.checks + length b) (cond o [] (problems_from text step.turn.stack (xs ++ rest))) bs) (sym no') same
    ] in
    let here = one_answered s step.turn.effect b bs (cond (is_end step.turn.effect) [] (problems_from text step.turn.stack (xs ++ rest))) step.answered tail in
    subst (λ (ys : List Block). AreAnswered s.budget s.checks (problems_from text s.stack (x ∷ (xs ++ rest))) ys) (sym eb) (subst (λ (ps : List Problem). AreAnswered s.budget s.checks ps (b ++ bs)) (sym problems) here)

-- answered blocks are a good certificate
pub good_from : (budget : Budget) (k : ℕ) (ps : List Problem) (bs : List Block) → AreAnswered budget k ps bs → AreGoodFrom k ps bs
good_from budget k [] [] h = tt
good_from budget k [] (b ∷ bs) h = absurd h
good_from budget k (p ∷ ps) [] h = tt
good_from budget k (p ∷ ps) (b ∷ bs) h = (h.0, h.1, good_from budget (k + 1) ps bs h.4)
