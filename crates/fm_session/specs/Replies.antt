-- The reply to a command: a function of what stands, of the command and of the block of a `check-sat`.
use Rattle.std.specs.Prelude.{◌≡◌, ℕ, ◌+◌, Bool, true, false, cond, Option, Some, None, List, [], ◌∷◌, ◌++◌, codes, decimal}
use Rattle.std.specs.List.{flat_map}
use Rattle.fm_base.specs.Refusals.{reason_number, reason_text}
use Rattle.fm_base.specs.declared.refusal.Place.{Place}
use Rattle.fm_base.specs.declared.refusal.Reason.{Reason}
use Rattle.fm_base.specs.declared.refusal.Refusal.{Refusal}
use Rattle.fm_cert.specs.Claims.{IsGoodBlock, ClaimHolds}
use Rattle.fm_cert.specs.Lines.{Problem}
use Rattle.fm_cert.specs.Spelling.{line_feed}
use Rattle.fm_cert.specs.declared.block.Block.{Block}
use Rattle.fm_cert.specs.declared.block.Claim.{Claim}
use Rattle.fm_elab.specs.Stacks.{State as Stack, assertions_in_force, signature, start as first}
use Rattle.fm_thin.specs.Certified.{IsDecided}
use Rattle.fm_thin.specs.Thin.{are_thin}
use Rattle.fm_session.specs.Effects.{Effect, unsupported}
use Rattle.fm_session.specs.Problems.{in_force}
use Rattle.fm_session.specs.declared.budget.Budget.{Budget}

-- All that the commands so far leave: the assertion stack, whether `success` is printed, the claim of the last `check-sat`
-- while it stands, how many `check-sat` commands were answered, and whether `exit` came.
pub record Past : Type 0 where
  pub budget : Budget
  pub stack : Stack
  pub success : Bool
  pub standing : Option Claim
  pub checks : ℕ
  pub ended : Bool

abbrev pub start : Budget → Past
start budget = record { budget = budget; stack = first; success = false; standing = None; checks = 0; ended = false }

-- the word of a block's ending
abbrev pub word_of : Claim → List ℕ
word_of Claim.Unsat = codes "unsat" ++ line_feed
word_of (Claim.Sat sum model) = codes "sat" ++ line_feed
word_of (Claim.Unknown instances decisions) = codes "unknown" ++ line_feed

abbrev pub counts_of : ℕ → ℕ → List ℕ
counts_of spent most = decimal spent ++ codes " " ++ decimal most

-- spent and budget
unfoldable pub spent_of : Budget → ℕ → ℕ → List ℕ
spent_of budget instances decisions = codes "(:reason-unknown (budget (instances " ++ counts_of instances budget.instances ++ codes ") (decisions " ++ counts_of decisions budget.decisions ++ codes ")))" ++ line_feed

-- of the last `check-sat`, where it was answered `unknown` and that still stands
abbrev pub reason_of : Budget → Option Claim → List ℕ
reason_of budget None = unsupported ++ line_feed
reason_of budget (Some Claim.Unsat) = unsupported ++ line_feed
reason_of budget (Some (Claim.Sat sum model)) = unsupported ++ line_feed
reason_of budget (Some (Claim.Unknown instances decisions)) = spent_of budget instances decisions

abbrev pub success_where : Bool → List ℕ
success_where true = codes "success" ++ line_feed
success_where false = []

abbrev pub words_of : List Block → List ℕ
words_of blocks = flat_map (λ (b : Block). word_of b.claim) blocks

-- `success` is printed by what holds after the command
abbrev pub reply_to : Past → Effect → List Block → List ℕ
reply_to s (Effect.Checks at) blocks = words_of blocks
reply_to s (Effect.Says text) blocks = text ++ line_feed
reply_to s Effect.AsksWhy blocks = reason_of s.budget s.standing
reply_to s (Effect.AsksModel at) blocks = []
reply_to s (Effect.Prints on) blocks = success_where on
reply_to s Effect.Changes blocks = success_where s.success
reply_to s Effect.Ends blocks = success_where s.success
reply_to s Effect.Passes blocks = success_where s.success

-- The counts of `unknown` are those of a search that reached its budget. There is no search yet, so no answer is `unknown`.
abbrev pub IsCounted : Budget → Problem → Claim → Type 0
IsCounted budget p claim = IsDecided claim

-- a `check-sat` is answered by any block of its number that is good for what is in force and whose claim holds
pub record IsAnswered (s : Past) (block : Block) : Type 0 where
  pub number : block.number ≡ s.checks
  pub good : IsGoodBlock (in_force s.stack) block
  pub holds : ClaimHolds (in_force s.stack) block.claim
  pub counted : IsCounted s.budget (in_force s.stack) block.claim

-- only a `check-sat` has a block
abbrev pub AreBlocks : Past → Effect → List Block → Type 0
AreBlocks s (Effect.Checks at) blocks = (block : Block) × (blocks ≡ block ∷ []) × IsAnswered s block
AreBlocks s (Effect.Says text) blocks = blocks ≡ []
AreBlocks s Effect.AsksWhy blocks = blocks ≡ []
AreBlocks s (Effect.AsksModel at) blocks = blocks ≡ []
AreBlocks s (Effect.Prints on) blocks = blocks ≡ []
AreBlocks s Effect.Changes blocks = blocks ≡ []
AreBlocks s Effect.Ends blocks = blocks ≡ []
AreBlocks s Effect.Passes blocks = blocks ≡ []

-- the blocks are numbered from k on, each is good for the problem of its `check-sat`, and its claim holds
abbrev pub AreAnswered : Budget → ℕ → List Problem → List Block → Type 0
AreAnswered budget k ps [] = Unit {0}
AreAnswered budget k [] (b ∷ bs) = ⊥
AreAnswered budget k (p ∷ ps) (b ∷ bs) = (b.number ≡ k) × IsGoodBlock p b × ClaimHolds p b.claim × IsCounted budget p b.claim × AreAnswered budget (k + 1) ps bs

abbrev pub success_after : Effect → Bool → Bool
success_after (Effect.Prints on) old = on
success_after (Effect.Checks at) old = old
success_after (Effect.Says text) old = old
success_after Effect.AsksWhy old = old
success_after (Effect.AsksModel at) old = old
success_after Effect.Changes old = old
success_after Effect.Ends old = old
success_after Effect.Passes old = old

abbrev pub claim_in : List Block → Option Claim
claim_in [] = None
claim_in (b ∷ bs) = Some b.claim

abbrev pub standing_after : Effect → List Block → Option Claim → Option Claim
standing_after (Effect.Checks at) blocks old = claim_in blocks
standing_after Effect.Changes blocks old = None
standing_after (Effect.Prints on) blocks old = old
standing_after (Effect.Says text) blocks old = old
standing_after Effect.AsksWhy blocks old = old
standing_after (Effect.AsksModel at) blocks old = old
standing_after Effect.Ends blocks old = old
standing_after Effect.Passes blocks old = old

abbrev pub no_model : Place → Refusal
no_model at = record { reason = Reason.NoModel; at = at }

abbrev pub not_yet : Place → Refusal
not_yet at = record { reason = Reason.NotYet; at = at }

-- where no sat reply stands there is no model; where one stands, its text isn't built yet
abbrev pub model_refusal : Place → Option Claim → Refusal
model_refusal at None = no_model at
model_refusal at (Some Claim.Unsat) = no_model at
model_refusal at (Some (Claim.Sat sum model)) = not_yet at
model_refusal at (Some (Claim.Unknown instances decisions)) = no_model at

-- without a search only thin assertions are answered
abbrev pub check_refusal : Place → Stack → Option Refusal
check_refusal at stack = cond (are_thin (signature stack) (assertions_in_force stack)) None (Some (not_yet at))

-- the refusal that what stands decides
abbrev pub refusal_by : Past → Effect → Option Refusal
refusal_by s (Effect.AsksModel at) = Some (model_refusal at s.standing)
refusal_by s (Effect.Checks at) = check_refusal at s.stack
refusal_by s (Effect.Says text) = None
refusal_by s Effect.AsksWhy = None
refusal_by s (Effect.Prints on) = None
refusal_by s Effect.Changes = None
refusal_by s Effect.Ends = None
refusal_by s Effect.Passes = None

-- the reply to a refusal
unfoldable pub refusal_reply : Refusal → List ℕ
refusal_reply r = codes "(error \"" ++ decimal (reason_number r.reason) ++ codes " at " ++ decimal r.at.line ++ codes ":" ++ decimal r.at.column ++ codes ": " ++ reason_text r.reason ++ codes "\")" ++ line_feed
