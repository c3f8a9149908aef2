-- What the e-graph of a reader of equalities holds: all registered terms with their types, and the equality and predicate
-- literals that it has read, now and as each level was opened that it has read.
use Rattle.std.specs.Prelude.{◌≡◌, ℕ, List, [], ◌∷◌, ◌++◌, if◌then◌else◌, length, map, slice_get, Option, Some, None}
use Rattle.std.specs.List.{flat_map, range_with_len}
use Rattle.fm_base.specs.declared.ids.Lit.{Lit}
use Rattle.fm_base.specs.declared.ids.TermId.{TermId}
use Rattle.fm_base.specs.declared.signature.Ty.{Ty}
use Rattle.fm_bank.specs.Closure.{shapes_of}
use Rattle.fm_bank.specs.Interning.{Held, IsFront}
use Rattle.fm_bank.specs.Terms.{type_of}
use Rattle.fm_bank.specs.declared.atom.Atom.{Atom}
use Rattle.fm_bank.specs.declared.literal.Literal.{Literal}
use Rattle.fm_cong.specs.Held.{IsSettled, typed_as}
use Rattle.fm_cong.specs.Held.{Held as Graph}
use Rattle.fm_cong.specs.declared.fact.Fact.{Fact}
use Rattle.fm_steps.specs.Content.{is_size, literal_at}
use Rattle.fm_trail.specs.Trail.{AreLevelled, AreOver, levels_of, up_to}
use Rattle.fm_trail.specs.declared.entry.Entry.{Entry}

-- an equality or predicate literal with its atom; nothing of a size literal
abbrev pub fact_at : Lit → Option Atom → List Fact
fact_at l None = []
fact_at l (Some a) = if is_size a then [] else record { lit = l; atom = a } ∷ []

-- those of the entries
abbrev pub facts_read : List Atom → List Entry → List Fact
facts_read atoms es = flat_map (λ (e : Entry). fact_at e.lit (slice_get atoms e.lit.atom.0)) es

-- literals by their atoms
abbrev pub named : List Atom → List Lit → List Literal
named atoms ls = flat_map (λ (l : Lit). literal_at l.positive (slice_get atoms l.atom.0)) ls

-- the types of these terms
abbrev pub types_of : Held → List ℕ → List (TermId × Ty)
types_of held over = flat_map (λ n. typed_as n (type_of held.sig held.terms n)) over

-- the first n terms are registered and entered
pub record HasTerms (held : Held) (n : ℕ) (g : Graph) : Type 0 where
  pub shapes : g.shapes ≡ shapes_of held.terms (range_with_len 0 n)
  pub types : g.types ≡ types_of held (range_with_len 0 n)
  pub settled : IsSettled g

-- these entries were read
pub record HasRead (atoms : List Atom) (es : List Entry) (g : Graph) : Type 0 where
  pub facts : g.facts ≡ facts_read atoms es
  pub levels : g.levels ≡ map (facts_read atoms) (levels_of es)

-- all terms are registered, and these entries were read
pub record IsGraphOf (held : Held) (es : List Entry) (g : Graph) : Type 0 where
  pub terms : HasTerms held (length held.terms) g
  pub read : HasRead held.atoms es g

-- one entry more is read
abbrev pub ReadsOn : Held → Entry → Graph → Graph → Type 0
ReadsOn held e old new =
    (es : List Entry) → AreLevelled 0 (es ++ e ∷ []) → HasRead held.atoms es old → HasRead held.atoms (es ++ e ∷ []) new

-- what was read goes back to a level
abbrev pub GoesBack : Held → ℕ → Graph → Graph → Type 0
GoesBack held level old new =
    (es : List Entry) → AreLevelled 0 es → HasRead held.atoms es old → HasRead held.atoms (up_to level es) new

-- a bank with more terms and atoms
pub record IsMore (old new : Held) : Type 0 where
  pub sig : new.sig ≡ old.sig
  pub terms : IsFront old.terms new.terms
  pub atoms : IsFront old.atoms new.atoms

-- as the bank grows, what the graph holds stays, its late terms but for
abbrev pub GraphsStay : Type 0
GraphsStay =
    (old new : Held) (es : List Entry) (g : Graph) → IsMore old new → AreOver (length old.atoms) es → IsGraphOf old es g
    → HasTerms new (length old.terms) g × HasRead new.atoms es g
