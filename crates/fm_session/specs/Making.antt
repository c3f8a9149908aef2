-- The answer to a command as it is made, before anything changes.
use Rattle.std.specs.Prelude.{◌≡◌, ℕ, Option, Some, None, Result, Ok, Err, List, [], ◌∷◌}
use Rattle.std.specs.List.{flat_map}
use Rattle.fm_base.specs.declared.formula.Formula.{Formula}
use Rattle.fm_base.specs.declared.refusal.Fail.{Fail}
use Rattle.fm_base.specs.declared.signature.Sig.{Sig}
use Rattle.fm_cert.specs.Claims.{ClaimHolds, IsGoodBlock}
use Rattle.fm_cert.specs.Spelling.{spelling_of_block}
use Rattle.fm_cert.specs.declared.block.Block.{Block}
use Rattle.fm_thin.specs.Certified.{IsDecided}
use Rattle.fm_problem.specs.Tabled.{tabled}
use Rattle.fm_session.specs.Effects.{Effect}
use Rattle.fm_session.specs.Replies.{AreBlocks, Past, refusal_by, reply_to, words_of}
use Rattle.fm_session.specs.declared.session.Answer.{Answer}

abbrev pub blocks_in : Option Block → List Block
blocks_in None = []
blocks_in (Some b) = b ∷ []

pub record AnswersTo (s : Past) (effect : Effect) (answer : Answer) : Type 0 where
  pub free : refusal_by s effect ≡ None
  pub blocks : AreBlocks s effect (blocks_in answer.made)
  pub replied : answer.reply.items ≡ reply_to s effect (blocks_in answer.made)
  pub spelled : answer.block.items ≡ flat_map spelling_of_block (blocks_in answer.made)

-- the answer, or the refusal that what stands decides
abbrev pub Responds : Past → Effect → Result Answer Fail → Type 0
Responds s effect (Ok answer) = AnswersTo s effect answer
Responds s effect (Err (Fail.Refused refusal)) = refusal_by s effect ≡ Some refusal
Responds s effect (Err Fail.Memory) = Unit {0}

-- the answer to a `check-sat` of this number, with these assertions in force
pub record IsCertified (number : ℕ) (sig : Sig) (assertions : List Formula) (answer : Answer) : Type 0 where
  pub block : Block
  pub made : answer.made ≡ Some block
  pub number_is : block.number ≡ number
  pub good : IsGoodBlock (tabled sig assertions) block
  pub holds : ClaimHolds (tabled sig assertions) block.claim
  pub decided : IsDecided block.claim
  pub replied : answer.reply.items ≡ words_of (block ∷ [])
  pub spelled : answer.block.items ≡ spelling_of_block block
