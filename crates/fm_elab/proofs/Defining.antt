-- What adding definitions leaves.
use Rattle.std.proofs.Common.{Bool, true, false, not, ◌≡◌, ℕ, List, [], ◌∷◌, length, ap, refl, sym, subst, ◌∙◌}
use Rattle.std.specs.Prelude.{cond}
use Rattle.fm_base.specs.declared.signature.Ty.{Ty}
use Rattle.fm_arena.specs.Kept.{IsAdded}
use Rattle.fm_arena.specs.Meanings.{Term, definition_made, terms_of, type_at}
use Rattle.fm_arena.specs.declared.node.Entry.{Entry}
use Rattle.fm_levels.specs.Levels.{joined, put}
use Rattle.fm_levels.specs.Tables.{has}
use Rattle.fm_apply.specs.Applied.{Function as TheFunction}
use Rattle.fm_apply.specs.Scoped.{AreInForce, Grows, IsInForce, function_in}
use Rattle.fm_apply.specs.declared.entry.Function.{Function}
use Rattle.fm_apply.specs.declared.entry.Stands.{Stands}
use Rattle.fm_apply.proofs.Growing.{grows_added, in_force_stays, last_below, last_term}
use Rattle.fm_elab.specs.Givens.{Defines, Extends, definition_at}
use Rattle.fm_elab.specs.Held.{functions_at}
use Rattle.fm_elab.specs.Stacks.{is_named}
use Rattle.fm_elab.specs.Steps.{definition}
use Rattle.fm_elab.proofs.Placing.{levels_stay, named_at, put_at, put_in_force}

-- the function by the number of a definition that was just made
abbrev pub the_function : List Ty → Ty → ℕ → Function
the_function args result n = record { args = args; result = result; stands = Stands.Defined n }

-- it means what its body meant
made_means : (old new : List Entry) (name : List ℕ) (args : List Ty) (body n : ℕ) (f : Function) → IsAdded old new (definition_made body) → n ≡ length (terms_of old) → f ≡ the_function args (type_at (terms_of new) n) n
    → function_in (terms_of new) name f ≡ definition_at old name args body
made_means old new name args body n f a l e =
    ap (function_in (terms_of new) name) e ∙ ap (λ (t : Term). definition name args t) (last_term old new (definition_made body) n a l)

-- what stands there when a definition is made
made_stands : (old new : List Entry) (args : List Ty) (body n : ℕ) (f : Function) → IsAdded old new (definition_made body) → n ≡ length (terms_of old) → f ≡ the_function args (type_at (terms_of new) n) n → IsInForce (terms_of new) f
made_stands old new args body n f a l e =
    subst (λ (g : Function). IsInForce (terms_of new) g) (sym e) (last_below old new (definition_made body) n a l, refl)

chosen_put : (b : Bool) (ls ks : List (List TheFunction)) → b ≡ false → ks ≡ cond b ls ks
chosen_put true ls ks e = cc
chosen_put false ls ks e = refl

chosen_kept : (b : Bool) (ls ks : List (List TheFunction)) → b ≡ true → ls ≡ cond b ls ks
chosen_kept true ls ks e = refl
chosen_kept false ls ks e = cc

-- the definition was put in, or its name was there
pub defined_by : (first : Bool) (old new : List Entry) (was now : List (List (List ℕ × Function))) (name : List ℕ) (args : List Ty) (body n : ℕ) (f : Function) (b : Bool)
    → IsAdded old new (definition_made body) → n ≡ length (terms_of old) → f ≡ the_function args (type_at (terms_of new) n) n → AreInForce (terms_of old) (joined was)
    → b ≡ not (has name (joined was)) → (b ≡ false → now ≡ was) → (b ≡ true → now ≡ put first was (name, f))
    → Defines first old was new now (definition_at old name args body) × AreInForce (terms_of new) (joined now) × Extends first was now
defined_by first old new was now name args body n f true a l e h free taken added =
    let g = grows_added old new (definition_made body) a in
    let stays = levels_stay old new was g h in
    let there : has name (joined was) ≡ false = not_true (has name (joined was)) free in
    let is = added refl in (
      ap (functions_at new) is ∙ put_at first new was (name, f)
          ∙ ap (λ (ls : List (List TheFunction)). put first ls (function_in (terms_of new) name f)) stays
          ∙ ap (put first (functions_at old was)) (made_means old new name args body n f a l e)
          ∙ chosen_put (is_named name (joined (functions_at old was))) (functions_at old was) (put first (functions_at old was) (definition_at old name args body)) (named_at old name was ∙ there),
      subst (λ (ls : List (List (List ℕ × Function))). AreInForce (terms_of new) (joined ls)) (sym is) (put_in_force first (terms_of new) was (name, f) (in_force_stays old new (joined was) g h) (made_stands old new args body n f a l e)),
      ((name, f) ∷ [], is),
    )
  where
    not_true : (x : Bool) → true ≡ not x → x ≡ false
    not_true true k = cc
    not_true false k = refl
defined_by first old new was now name args body n f false a l e h free taken added =
    let g = grows_added old new (definition_made body) a in
    let stays = levels_stay old new was g h in
    let there : has name (joined was) ≡ true = not_false (has name (joined was)) free in
    let is = taken refl in (
      ap (functions_at new) is ∙ stays
          ∙ chosen_kept (is_named name (joined (functions_at old was))) (functions_at old was) (put first (functions_at old was) (definition_at old name args body)) (named_at old name was ∙ there),
      subst (λ (ls : List (List (List ℕ × Function))). AreInForce (terms_of new) (joined ls)) (sym is) (in_force_stays old new (joined was) g h),
      ([], is),
    )
  where
    not_false : (x : Bool) → false ≡ not x → x ≡ true
    not_false true k = refl
    not_false false k = cc

-- nothing was added to what is in force, over a longer arena
pub nothing_by : (first : Bool) (old new : List Entry) (was now : List (List (List ℕ × Function))) → Grows old new → AreInForce (terms_of old) (joined was) → now ≡ was → AreInForce (terms_of new) (joined now) × Extends first was now
nothing_by first old new was now g h e =
    (subst (λ (ls : List (List (List ℕ × Function))). AreInForce (terms_of new) (joined ls)) (sym e) (in_force_stays old new (joined was) g h), ([], e))
