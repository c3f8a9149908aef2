-- What the code keeps of a session: the assertion stack by the numbers of terms in an arena.
use Rattle.std.specs.Prelude.{ℕ, Bool, Option}
use Rattle.fm_cert.specs.declared.block.Claim.{Claim}
use Rattle.fm_elab.specs.Held.{Held, state_of}
use Rattle.fm_session.specs.Replies.{Past}
use Rattle.fm_session.specs.declared.budget.Budget.{Budget}

pub record Kept : Type 0 where
  pub budget : Budget
  pub scopes : Held
  pub success : Bool
  pub standing : Option Claim
  pub checks : ℕ
  pub ended : Bool

abbrev pub past_of : Kept → Past
past_of k = record { budget = k.budget; stack = state_of k.scopes; success = k.success; standing = k.standing; checks = k.checks; ended = k.ended }

abbrev pub kept_in : Budget → Held → Bool → Option Claim → ℕ → Bool → Kept
kept_in budget scopes success standing checks ended = record { budget = budget; scopes = scopes; success = success; standing = standing; checks = checks; ended = ended }
