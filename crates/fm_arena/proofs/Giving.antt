-- Arguments that stand for the parameters of a definition.
use Rattle.std.proofs.Common.{◌≡◌, ℕ, zero, suc, ◌<◌, List, [], ◌∷◌, length, map, get_or, refl, arith}
use Rattle.std.proofs.Common.{ap, sym, ◌∙◌}
use Rattle.fm_arena.specs.Meanings.{Names, Term, given, meaning_at}

pub given_at : (ts : List Term) (is : List ℕ) (place k : ℕ) (names : Names) (d : ℕ) → place < length is → given (map (meaning_at ts) is) names place d ≡ meaning_at ts (get_or is place k) names d
given_at ts [] place k names d lt = absurd (omega (arith, lt))
given_at ts (i ∷ is) zero k names d lt = refl
given_at ts (i ∷ is) (suc place) k names d lt = given_at ts is place k names d (omega (arith, lt))

pub given_read : (ts : List Term) (is : List ℕ) (place arg : ℕ) (names : Names) (d : ℕ) → place < length is → arg ≡ get_or is place 0 → meaning_at ts arg names d ≡ given (map (meaning_at ts) is) names place d
given_read ts is place arg names d lt a = ap (λ (i : ℕ). meaning_at ts i names d) a ∙ sym (given_at ts is place 0 names d lt)
