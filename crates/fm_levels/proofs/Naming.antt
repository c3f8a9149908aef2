-- Entries by the bytes of their names.
use Rattle.std.proofs.Common.{map, ◌≡◌, ℕ, zero, suc, ◌+◌, List, [], ◌∷◌, ◌++◌, length, take, ap, refl, sym, ◌∙◌}
use Rattle.std.specs.Borrow.{Bor}
use Rattle.std.specs.Option.{option_map}
use Rattle.std.specs.Prelude.{Option, Some, None, slice_get}
use Rattle.fm_levels.specs.Tables.{named_values}

pub length_named : {V : Type 0} (es : List (Bor (List ℕ) × V)) → length (named_values es) ≡ length es
length_named [] = refl
length_named (e ∷ es) = ap suc (length_named es)

pub take_named : {V : Type 0} (n : ℕ) (es : List (Bor (List ℕ) × V)) → named_values (take n es) ≡ take n (named_values es)
take_named zero es = refl
take_named (suc n) [] = refl
take_named {V = V} (suc n) (e ∷ es) = ap (λ (l : List (List ℕ × V)). (e.0.now, e.1) ∷ l) (take_named n es)

pub push_named : {V : Type 0} (es : List (Bor (List ℕ) × V)) (e : Bor (List ℕ) × V) → named_values (es ++ e ∷ []) ≡ named_values es ++ (e.0.now, e.1) ∷ []
push_named [] e = refl
push_named {V = V} (x ∷ es) e = ap (λ (l : List (List ℕ × V)). (x.0.now, x.1) ∷ l) (push_named es e)

pub get_named : {V : Type 0} (es : List (Bor (List ℕ) × V)) (i : ℕ) → option_map (λ (e : Bor (List ℕ) × V). (e.0.now, e.1)) (slice_get es i) ≡ slice_get (named_values es) i
get_named [] i = refl
get_named (e ∷ es) zero = refl
get_named (e ∷ es) (suc i) = get_named es i
