-- The lines that tell a verdict.
use Rattle.std.specs.Prelude.{ℕ, ◌+◌, List, [], ◌∷◌, ◌++◌, length, codes, decimal}
use Rattle.fm_cert.specs.Spelling.{line_feed}
use Rattle.fm_cert.specs.declared.block.Claim.{Claim}
use Rattle.fm_blocks.specs.declared.verdict.Rule.{Rule}
use Rattle.fm_check.specs.declared.verdict.Verdict.{Verdict}

-- the rule that a line breaks, by the letter of the line
abbrev pub rule_text : Rule → List ℕ
rule_text Rule.Text = codes "text"
rule_text Rule.B = codes "b"
rule_text Rule.T = codes "t"
rule_text Rule.I = codes "i"
rule_text Rule.E = codes "e"
rule_text Rule.C = codes "c"
rule_text Rule.S = codes "s"
rule_text Rule.O = codes "o"
rule_text Rule.R = codes "r"
rule_text Rule.Q = codes "q"
rule_text Rule.M = codes "m"

unfoldable pub claim_text : Claim → List ℕ
claim_text Claim.Unsat = codes " unsat"
claim_text (Claim.Sat sum model) = codes " sat " ++ decimal sum
claim_text (Claim.Unknown instances decisions) = codes " unknown " ++ decimal instances ++ codes " " ++ decimal decisions

unfoldable pub claim_line : ℕ → Claim → List ℕ
claim_line k claim = codes "block " ++ decimal k ++ claim_text claim ++ line_feed

-- one line for each block, numbered from k on
abbrev pub claim_lines : ℕ → List Claim → List ℕ
claim_lines k [] = []
claim_lines k (c ∷ cs) = claim_line k c ++ claim_lines (k + 1) cs

unfoldable pub counts_line : ℕ → ℕ → List ℕ
counts_line blocks checks = codes "accepted " ++ decimal blocks ++ codes " of " ++ decimal checks ++ line_feed

abbrev pub accepted_text : ℕ → List Claim → List ℕ
accepted_text checks claims = claim_lines 0 claims ++ counts_line (length claims) checks

unfoldable pub rejected_text : ℕ → List ℕ → List ℕ
rejected_text line rule = codes "rejected line " ++ decimal line ++ codes " rule " ++ rule ++ line_feed

-- with so many `check-sat` commands before `exit`
abbrev pub verdict_text : ℕ → Verdict → List ℕ
verdict_text checks (Verdict.Accepted claims) = accepted_text checks claims.items
verdict_text checks (Verdict.Rejected line rule) = rejected_text line (rule_text rule)
