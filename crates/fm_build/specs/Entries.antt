-- The exceptions of a table, put in one by one.
use Rattle.std.specs.Prelude.{◌≡◌, ℕ, ◌<◌, ◌⊎◌, ◌==◌, ◌&&◌, Bool, false, true, not, List, map, slice_get, slice_index, Option, Some, None}
use Rattle.std.specs.List.{position_or_len}
use Rattle.std.specs.Cmp.Lexicographic.{slice_cmp}
use Rattle.std.specs.Ordering.{is_lt, nat_cmp}
use Rattle.std.specs.Str.{bytes_eq}
use Rattle.fm_base.specs.Interpretations.{ascends}
use Rattle.fm_base.specs.Resolution.{Has}
use Rattle.fm_bank.specs.Terms.{Term}
use Rattle.fm_build.specs.Marks.{is_marked}

-- the place of the first entry that isn't before the tuple
abbrev pub entry_place : List (List ℕ × ℕ) → List ℕ → ℕ
entry_place es xs = position_or_len (λ (e : List ℕ × ℕ). not (is_lt (slice_cmp nat_cmp e.0 xs))) es

abbrev pub is_entry_of : List ℕ → Option (List ℕ × ℕ) → Bool
is_entry_of xs None = false
is_entry_of xs (Some e) = bytes_eq e.0 xs

abbrev pub HasKey : List (List ℕ × ℕ) → List ℕ → Type 0
HasKey es xs = (v : ℕ) × Has es (xs, v)

-- an entry has been put where it belongs, unless there was one with its tuple
pub record IsPut (old : List (List ℕ × ℕ)) (xs : List ℕ) (v : ℕ) (new : List (List ℕ × ℕ)) : Type 0 where
  pub order : ascends new ≡ true
  pub members : (e : List ℕ × ℕ) → Has new e → Has old e ⊎ (e ≡ (xs, v))
  pub kept : (e : List ℕ × ℕ) → Has old e → Has new e
  pub there : HasKey new xs

abbrev pub has_symbol : ℕ → Option Term → Bool
has_symbol f None = false
has_symbol f (Some t) = t.symbol == f

-- a marked term that is an application of the symbol, and whose element isn't 0
abbrev pub is_listed : List Term → List Bool → List ℕ → ℕ → ℕ → Bool
is_listed terms marks elements f n = has_symbol f (slice_get terms n) && (is_marked marks n && not (slice_index elements n == 0))

abbrev pub tuple_at : List ℕ → Term → List ℕ
tuple_at elements t = map (λ n. slice_index elements n) t.args

-- where an entry comes from
pub record ComesFrom (terms : List Term) (marks : List Bool) (elements : List ℕ) (f count : ℕ) (e : List ℕ × ℕ) : Type 0 where
  pub n : ℕ
  pub t : Term
  pub before : n < count
  pub stands : slice_get terms n ≡ Some t
  pub listed : is_listed terms marks elements f n ≡ true
  pub tuple : e.0 ≡ tuple_at elements t
  pub element : e.1 ≡ slice_index elements n

-- the entries of a symbol by the terms up to some number
pub record AreEntries (terms : List Term) (marks : List Bool) (elements : List ℕ) (f count : ℕ) (es : List (List ℕ × ℕ)) : Type 0 where
  pub order : ascends es ≡ true
  pub come : (e : List ℕ × ℕ) → Has es e → ComesFrom terms marks elements f count e
  pub all : (n : ℕ) (t : Term) → n < count → slice_get terms n ≡ Some t → is_listed terms marks elements f n ≡ true → HasKey es (tuple_at elements t)

-- a term's entry has been put
abbrev pub PutsTerm : List Term → List ℕ → ℕ → List (List ℕ × ℕ) → List (List ℕ × ℕ) → Type 0
PutsTerm terms elements n old new = (t : Term) → slice_get terms n ≡ Some t → IsPut old (tuple_at elements t) (slice_index elements n) new
