-- A candidate that is built from plain lists.
use Rattle.std.specs.Prelude.{◌≡◌, ℕ, Bool, true, List, length, map}
use Rattle.fm_base.specs.Interpretations.{names_its_sorts}
use Rattle.fm_base.specs.declared.ids.TermId.{TermId}
use Rattle.fm_base.specs.declared.signature.Ty.{Ty}
use Rattle.fm_bank.specs.Interning.{Held}
use Rattle.fm_rounds.specs.Failing.{numbered_reps}
use Rattle.fm_rounds.specs.Grounds.{IsGrounded}
use Rattle.fm_rounds.specs.Rounds.{Content, candidate as candidate_of, representatives}
use Rattle.fm_rounds.specs.declared.answers.Candidate.{Candidate}
use Rattle.fm_build.specs.Elements.{Types}
use Rattle.fm_build.specs.Reached.{Classifies}

-- it is a content's
pub record IsCandidateOf (c : Content) (k : Candidate) : Type 0 where
  pub interp : k.interp ≡ candidate_of c
  pub reps : numbered_reps k.reps ≡ representatives c

-- the lists are a grounded content's: the terms of a bank, a class and a type for each, and whether it is joined with yes, the
-- terms at the start and the instances
pub record IsContentOf (b : Held) (class : List ℕ) (types : List Ty) (holds : List Bool) (start : List ℕ) (added : List (List ℕ × List ℕ)) (c : Content) : Type 0 where
  pub grounded : IsGrounded c
  pub named : names_its_sorts c.sig ≡ true
  pub sig : c.sig ≡ b.sig
  pub terms : c.terms ≡ b.terms
  pub classes : Classifies class c
  pub typed : Types types holds c
  pub begun : c.start ≡ start
  pub more : c.added ≡ added

abbrev pub IsBuilt : Held → List ℕ → List Ty → List Bool → List ℕ → List (List ℕ × List ℕ) → Candidate → Type 0
IsBuilt b class types holds start added k = (c : Content) → IsContentOf b class types holds start added c → IsCandidateOf c k

abbrev pub sizes_of : List (List TermId) → List ℕ
sizes_of reps = map (λ (ts : List TermId). length ts) reps
