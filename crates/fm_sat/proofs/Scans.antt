-- One literal further in a scan of a clause.
use Rattle.std.proofs.Common.{◌≡◌, true, false, cond, ◌&&◌, List, ◌∷◌, Some, None, ap, ◌∙◌}
use Rattle.std.specs.Prelude.{Option}
use Rattle.fm_base.specs.declared.ids.Lit.{Lit}
use Rattle.fm_trail.specs.declared.entry.Entry.{Entry}
use Rattle.fm_trail.specs.Trail.{are_false, is_false, is_open, unit_of}

pub falses_on : (es : List Entry) (l : Lit) (ls : List Lit) → is_false es l ≡ true → are_false es (l ∷ ls) ≡ are_false es ls
falses_on es l ls h = ap (λ b. b && are_false es ls) h

pub falses_stop : (es : List Entry) (l : Lit) (ls : List Lit) → is_false es l ≡ false → are_false es (l ∷ ls) ≡ false
falses_stop es l ls h = ap (λ b. b && are_false es ls) h

-- the answer, where the literals before were false but for one that has no value
abbrev pub unit_after : List Entry → Option Lit → List Lit → Option Lit
unit_after es None ls = unit_of es ls
unit_after es (Some l) ls = cond (are_false es ls) (Some l) None

pub unit_on : (es : List Entry) (o : Option Lit) (l : Lit) (ls : List Lit) → is_false es l ≡ true → unit_after es o (l ∷ ls) ≡ unit_after es o ls
unit_on es None l ls h = ap (λ b. cond b (unit_of es ls) (cond (is_open es l && are_false es ls) (Some l) None)) h
unit_on es (Some k) l ls h = ap (λ b. cond b (Some k) None) (falses_on es l ls h)

pub unit_open : (es : List Entry) (l : Lit) (ls : List Lit) → is_false es l ≡ false → is_open es l ≡ true → unit_after es None (l ∷ ls) ≡ unit_after es (Some l) ls
unit_open es l ls h g = ap (λ b. cond b (unit_of es ls) (cond (is_open es l && are_false es ls) (Some l) None)) h ∙ ap (λ b. cond (b && are_false es ls) (Some l) None) g

pub unit_two : (es : List Entry) (k l : Lit) (ls : List Lit) → is_false es l ≡ false → unit_after es (Some k) (l ∷ ls) ≡ None
unit_two es k l ls h = ap (λ b. cond b (Some k) None) (falses_stop es l ls h)

unit_true_in : (es : List Entry) (l : Lit) (ls : List Lit) → is_false es l ≡ false → is_open es l ≡ false → unit_of es (l ∷ ls) ≡ None
unit_true_in es l ls h g = ap (λ b. cond b (unit_of es ls) (cond (is_open es l && are_false es ls) (Some l) None)) h ∙ ap (λ b. cond (b && are_false es ls) (Some l) None) g

pub unit_true : (es : List Entry) (o : Option Lit) (l : Lit) (ls : List Lit) → is_false es l ≡ false → is_open es l ≡ false → unit_after es o (l ∷ ls) ≡ None
unit_true es None l ls h g = unit_true_in es l ls h g
unit_true es (Some k) l ls h g = unit_two es k l ls h
