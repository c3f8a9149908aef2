-- One literal further in the scan of a lemma.
use Rattle.std.proofs.Common.{◌≡◌, ℕ, ◌+◌, ◌<◌, Bool, true, false, not, cond, List, ◌∷◌, ◌++◌, length, drop, get_or, Some, None, ap, ◌∙◌}
use Rattle.std.specs.Prelude.{Option}
use Rattle.std.specs.Option.{is_some}
use Rattle.std.proofs.lemmas.List.{drop_more}
use Rattle.fm_bank.specs.declared.literal.Literal.{Literal}
use Rattle.fm_steps.specs.Lemmas.{literal_fails}
use Rattle.fm_steps.specs.Menu.{open_literals}
use Rattle.fm_steps.specs.State.{State}
use Rattle.fm_state.specs.Groups.{asks_for, listed}

pub asks_on : (s : State) (xs lits : List Literal) (i : ℕ) (d : Literal) → i < length lits → literal_fails s (get_or lits i d) ≡ true → asks_for s (xs ++ open_literals s (drop i lits)) ≡ asks_for s (xs ++ open_literals s (drop (i + 1) lits))
asks_on s xs lits i d lt h =
    let rest = open_literals s (drop (i + 1) lits) in
    ap (λ (l : List Literal). asks_for s (xs ++ open_literals s l)) (drop_more lits i d lt) ∙ ap (λ (b : Bool). asks_for s (xs ++ cond (not b) (get_or lits i d ∷ rest) rest)) h

pub asks_two : (s : State) (k : Literal) (lits : List Literal) (i : ℕ) (d : Literal) → i < length lits → literal_fails s (get_or lits i d) ≡ false → asks_for s (listed (Some k) ++ open_literals s (drop i lits)) ≡ None
asks_two s k lits i d lt h =
    let rest = open_literals s (drop (i + 1) lits) in
    ap (λ (l : List Literal). asks_for s (k ∷ open_literals s l)) (drop_more lits i d lt) ∙ ap (λ (b : Bool). asks_for s (k ∷ cond (not b) (get_or lits i d ∷ rest) rest)) h

pub asks_some : (s : State) (o : Option Literal) (lits : List Literal) (i : ℕ) (d : Literal) → is_some o ≡ true → i < length lits → literal_fails s (get_or lits i d) ≡ false → asks_for s (listed o ++ open_literals s (drop i lits)) ≡ None
asks_some s None lits i d some lt h = absurd (cc some)
asks_some s (Some k) lits i d some lt h = asks_two s k lits i d lt h
