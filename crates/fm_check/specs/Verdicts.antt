-- What the checker answers of a script and the text of a certificate.
use Rattle.std.specs.Prelude.{◌≡◌, ℕ, List, [], ◌∷◌, map, Result, Ok, Err}
use Rattle.fm_sexp.specs.declared.items.Sexp.{Sexp}
use Rattle.fm_cert.specs.Claims.{ClaimHolds}
use Rattle.fm_cert.specs.Lines.{Problem}
use Rattle.fm_cert.specs.declared.block.Block.{Block}
use Rattle.fm_cert.specs.declared.block.Claim.{Claim}
use Rattle.fm_blocks.specs.Faults.{IsFirstFault, IsGoodText, fault_at}
use Rattle.fm_check.specs.Scripts.{IsAccepted, IsRefusal, problems_of}
use Rattle.fm_check.specs.declared.verdict.CheckFail.{CheckFail}
use Rattle.fm_check.specs.declared.verdict.Verdict.{Verdict}

abbrev pub claims_of : List Block → List Claim
claims_of blocks = map (λ (b : Block). b.claim) blocks

-- accepted: the text is a good certificate, and these are the claims of its blocks; rejected: its first fault
abbrev pub IsVerdict : List Problem → List ℕ → Verdict → Type 0
IsVerdict problems cert (Verdict.Accepted claims) = (blocks : List Block) × IsGoodText problems cert blocks × (claims.items ≡ claims_of blocks)
IsVerdict problems cert (Verdict.Rejected line rule) = IsFirstFault problems cert (fault_at line rule)

-- each claim holds of its problem, in all interpretations
abbrev pub HoldOf : List Problem → List Claim → Type 0
HoldOf ps [] = Unit {0}
HoldOf [] (c ∷ cs) = ⊥
HoldOf (p ∷ ps) (c ∷ cs) = ClaimHolds p c × HoldOf ps cs

abbrev pub ClaimsHold : List Problem → Verdict → Type 0
ClaimsHold problems (Verdict.Accepted claims) = HoldOf problems claims.items
ClaimsHold problems (Verdict.Rejected line rule) = Unit {0}

-- the answer to a script and a text
abbrev pub Checks : List ℕ → List ℕ → Result Verdict CheckFail → Type 0
Checks script cert (Ok verdict) = (items : List Sexp) × IsAccepted script items × IsVerdict (problems_of script items) cert verdict × ClaimsHold (problems_of script items) verdict
Checks script cert (Err (CheckFail.Script refusal)) = IsRefusal script refusal
Checks script cert (Err CheckFail.Memory) = Unit {0}
