-- Candidates worked out by hand.
use Rattle.std.proofs.Common.{◌≡◌, ◌==◌, true, ◌||◌, ◌&&◌, [], ◌∷◌, refl}
use Rattle.fm_base.specs.Interpretations.{is_fit}
use Rattle.fm_base.specs.declared.signature.Sig.{Sig}
use Rattle.fm_base.specs.declared.signature.Ty.{Ty}
use Rattle.fm_rounds.specs.Rounds.{Content, candidate, representatives, round}

-- one sort, f from it to itself, a fresh constant; no element is its own image
abbrev sort : Ty
sort = Ty.Of (record { 0 = 0 })

abbrev sig : Sig
sig = record { sorts = 1; ranks = record { args = sort ∷ []; result = sort } ∷ record { args = []; result = sort } ∷ [] }

abbrev before : Content
before = record { sig = sig; terms = record { symbol = 1; args = [] } ∷ []; same = λ x y. x == y; start = 0 ∷ []; added = [] }

abbrev after : Content
after = record { sig = sig; terms = record { symbol = 1; args = [] } ∷ record { symbol = 0; args = 0 ∷ [] } ∷ []; same = λ x y. x == y; start = 0 ∷ []; added = (0 ∷ [], 0 ∷ 1 ∷ 0 ∷ []) ∷ [] }

first_candidate : candidate before ≡ record { sizes = 1 ∷ []; tables = record { default = 0; except = [] } ∷ record { default = 0; except = [] } ∷ [] }
unfolding round
first_candidate = refl

second_candidate : candidate after ≡ record { sizes = 2 ∷ []; tables = record { default = 0; except = (0 ∷ [], 1) ∷ [] } ∷ record { default = 0; except = [] } ∷ [] }
unfolding round
second_candidate = refl

both : representatives after ≡ (0 ∷ 1 ∷ []) ∷ []
unfolding round
both = refl

second_fits : is_fit sig (candidate after) ≡ true
unfolding round
second_fits = refl

-- two sorts, a predicate p on the first, g from the first to the second, constants a, b, c of the first and d of the second;
-- a and b are one class, p b and g b are reached only by the instance at a, and that at c is no instance over representatives
abbrev two : Ty
two = Ty.Of (record { 0 = 1 })

-- symbols: 0 p, 1 g, 2 a, 3 b, 4 c, 5 d; terms: 0 a, 1 b, 2 c, 3 d, 4 (g b), 5 (p b), 6 (g a)
abbrev mixed : Content
mixed = record {
  sig = record { sorts = 2; ranks = record { args = sort ∷ []; result = Ty.Bool } ∷ record { args = sort ∷ []; result = two } ∷ record { args = []; result = sort } ∷ record { args = []; result = sort } ∷ record { args = []; result = sort } ∷ record { args = []; result = two } ∷ [] };
  terms = record { symbol = 2; args = [] } ∷ record { symbol = 3; args = [] } ∷ record { symbol = 4; args = [] } ∷ record { symbol = 5; args = [] } ∷ record { symbol = 1; args = 1 ∷ [] } ∷ record { symbol = 0; args = 1 ∷ [] } ∷ record { symbol = 1; args = 0 ∷ [] } ∷ [];
  same = λ x y. (x == y) || (((x == 2) && (y == 3)) || (((x == 3) && (y == 2)) || (((x == 7) && (y == 0)) || (((x == 6) && (y == 8)) || ((x == 8) && (y == 6))))));
  start = 2 ∷ 1 ∷ 0 ∷ 3 ∷ [];
  added = (1 ∷ [], 6 ∷ []) ∷ (0 ∷ [], 5 ∷ 4 ∷ []) ∷ [];
}

mixed_terms : representatives mixed ≡ (0 ∷ 2 ∷ []) ∷ (3 ∷ 4 ∷ []) ∷ []
unfolding round
mixed_terms = refl

mixed_candidate : candidate mixed ≡ record { sizes = 2 ∷ 2 ∷ []; tables = record { default = 0; except = (0 ∷ [], 1) ∷ [] } ∷ record { default = 0; except = (0 ∷ [], 1) ∷ [] } ∷ record { default = 0; except = [] } ∷ record { default = 0; except = [] } ∷ record { default = 1; except = [] } ∷ record { default = 0; except = [] } ∷ [] }
unfolding round
mixed_candidate = refl

-- f and g from the sort to itself, a predicate p, constants a and b; p a is joined with no, g has no term. The class of f a
-- and f b is met in round 1 by f b, which is its representative though f a is older; f a is reached in round 2 by the
-- instance at f b, and f (f a) isn't reached.
-- symbols: 0 f, 1 p, 2 a, 3 b, 4 g; terms: 0 a, 1 b, 2 (p a), 3 (f a), 4 (f (f a)), 5 (f b)
abbrev late : Content
late = record {
  sig = record { sorts = 1; ranks = record { args = sort ∷ []; result = sort } ∷ record { args = sort ∷ []; result = Ty.Bool } ∷ record { args = []; result = sort } ∷ record { args = []; result = sort } ∷ record { args = sort ∷ []; result = sort } ∷ [] };
  terms = record { symbol = 2; args = [] } ∷ record { symbol = 3; args = [] } ∷ record { symbol = 1; args = 0 ∷ [] } ∷ record { symbol = 0; args = 0 ∷ [] } ∷ record { symbol = 0; args = 3 ∷ [] } ∷ record { symbol = 0; args = 1 ∷ [] } ∷ [];
  same = λ x y. (x == y) || (((x == 5) && (y == 7)) || (((x == 7) && (y == 5)) || (((x == 4) && (y == 1)) || ((x == 1) && (y == 4)))));
  start = 0 ∷ 1 ∷ 0 ∷ 2 ∷ [];
  added = (5 ∷ [], 3 ∷ []) ∷ (1 ∷ [], 5 ∷ []) ∷ [];
}

late_terms : representatives late ≡ (0 ∷ 1 ∷ 5 ∷ []) ∷ []
unfolding round
late_terms = refl

late_candidate : candidate late ≡ record { sizes = 3 ∷ []; tables = record { default = 0; except = (0 ∷ [], 2) ∷ (1 ∷ [], 2) ∷ [] } ∷ record { default = 0; except = [] } ∷ record { default = 0; except = [] } ∷ record { default = 1; except = [] } ∷ record { default = 0; except = [] } ∷ [] }
unfolding round
late_candidate = refl
