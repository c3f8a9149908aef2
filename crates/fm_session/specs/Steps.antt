-- One command after another: what is refused, what each command answers, and what it leaves.
use Rattle.std.specs.Prelude.{◌≡◌, ℕ, ◌+◌, false, Option, Some, None, Result, Ok, Err, List, [], ◌∷◌, ◌++◌, length}
use Rattle.std.specs.List.{flat_map}
use Rattle.fm_base.specs.declared.refusal.Fail.{Fail}
use Rattle.fm_base.specs.declared.refusal.Refusal.{Refusal}
use Rattle.fm_sexp.specs.declared.items.Sexp.{Sexp}
use Rattle.fm_script.specs.Commands.{command_of}
use Rattle.fm_script.specs.Shown.{Shown}
use Rattle.fm_cert.specs.Spelling.{spelling_of_block}
use Rattle.fm_cert.specs.declared.block.Block.{Block}
use Rattle.fm_elab.specs.Stacks.{State as Stack}
use Rattle.fm_elab.specs.Steps.{step_of}
use Rattle.fm_session.specs.Effects.{Effect, effect_of, is_end}
use Rattle.fm_session.specs.Replies.{Past, refusal_by, AreBlocks, reply_to, success_after, standing_after}
use Rattle.fm_session.specs.declared.session.Step.{Step}

-- what the next item asks, and the stack after it
pub record Turn : Type 0 where
  pub effect : Effect
  pub stack : Stack

abbrev pub with_stack : Effect → Result Stack Refusal → Result Turn Refusal
with_stack e (Ok stack) = Ok (record { effect = e; stack = stack })
with_stack e (Err refusal) = Err refusal

abbrev pub unless : Option Refusal → Result Turn Refusal → Result Turn Refusal
unless None turn = turn
unless (Some refusal) turn = Err refusal

abbrev pub turn_by : Past → Effect → Result Stack Refusal → Result Turn Refusal
turn_by s e stack = unless (refusal_by s e) (with_stack e stack)

abbrev pub next_read : List ℕ → Past → Result Shown Refusal → Result Turn Refusal
next_read text s (Err refusal) = Err refusal
next_read text s (Ok command) = turn_by s (effect_of text s.stack command) (step_of text s.stack command)

-- what the next item asks, or its refusal: by its shape, by what stands, by the assertion stack
abbrev pub next_of : List ℕ → Past → Sexp → Result Turn Refusal
next_of text s item = next_read text s (command_of text item)

abbrev pub after : Past → Turn → List Block → Past
after s turn blocks = record {
  budget = s.budget;
  stack = turn.stack;
  success = success_after turn.effect s.success;
  standing = standing_after turn.effect blocks s.standing;
  checks = s.checks + length blocks;
  ended = is_end turn.effect;
}

-- an item is carried out with these blocks and this reply, and leaves t
pub record IsStep (text : List ℕ) (s : Past) (item : Sexp) (blocks : List Block) (reply : List ℕ) (t : Past) : Type 0 where
  pub turn : Turn
  pub read : next_of text s item ≡ Ok turn
  pub answered : AreBlocks s turn.effect blocks
  pub replied : reply ≡ reply_to s turn.effect blocks
  pub leaves : t ≡ after s turn blocks

-- the items are carried out one after another, none after `exit`
abbrev pub Goes : List ℕ → Past → List Sexp → List Block → List ℕ → Past → Type 0
Goes text s [] blocks replies t = (blocks ≡ []) × (replies ≡ []) × (t ≡ s)
Goes text s (x ∷ xs) blocks replies t = (s.ended ≡ false) × ((b : List Block) × (bs : List Block) × (r : List ℕ) × (rs : List ℕ) × (m : Past) × IsStep text s x b r m × (blocks ≡ b ++ bs) × (replies ≡ r ++ rs) × Goes text m xs bs rs t)

-- the same, but no reply stands
abbrev pub forgotten : Past → Past
forgotten s = record { budget = s.budget; stack = s.stack; success = s.success; standing = None; checks = s.checks; ended = s.ended }

-- the step as it was answered: its block in the certificate's form, its reply, and whether it was `exit`
pub record IsMade (text : List ℕ) (s : Past) (item : Sexp) (made : Step) (t : Past) : Type 0 where
  pub blocks : List Block
  pub step : IsStep text s item blocks made.reply.items t
  pub spelled : made.block.items ≡ flat_map spelling_of_block blocks
  pub ended : made.ended ≡ t.ended

-- what a step answers and leaves, where want of memory leaves `lost`
abbrev pub Steps : List ℕ → Past → Sexp → Result Step Fail → Past → Past → Type 0
Steps text s item (Ok step) lost t = IsMade text s item step t
Steps text s item (Err (Fail.Refused refusal)) lost t = (next_of text s item ≡ Err refusal) × (t ≡ s)
Steps text s item (Err Fail.Memory) lost t = t ≡ lost
