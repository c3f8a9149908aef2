-- A command that was answered and carried out is a step, and a `check-sat` that was certified is answered.
use Rattle.std.proofs.Common.{◌≡◌, ℕ, List, [], ◌∷◌, Bool, true, false, Option, None, Some, Ok, Err, sym, ap, subst, ◌∙◌}
use Rattle.std.specs.List.{flat_map}
use Rattle.std.proofs.lemmas.Bool.{cond-true, cond-false}
use Rattle.std.proofs.lemmas.List.{append-nil}
use Rattle.fm_base.specs.declared.formula.Formula.{Formula}
use Rattle.fm_base.specs.declared.refusal.Place.{Place}
use Rattle.fm_base.specs.declared.refusal.Refusal.{Refusal}
use Rattle.fm_base.specs.declared.signature.Sig.{Sig}
use Rattle.fm_sexp.specs.declared.items.Sexp.{Sexp}
use Rattle.fm_script.specs.Commands.{command_of}
use Rattle.fm_script.specs.Shown.{Shown}
use Rattle.fm_cert.specs.Claims.{ClaimHolds, IsGoodBlock}
use Rattle.fm_cert.specs.Lines.{Problem}
use Rattle.fm_cert.specs.Spelling.{spelling_of_block}
use Rattle.fm_elab.specs.Stacks.{State as Stack, assertions_in_force, signature}
use Rattle.fm_elab.specs.Steps.{step_of}
use Rattle.fm_problem.specs.Tabled.{tabled}
use Rattle.fm_thin.specs.Thin.{are_thin}
use Rattle.fm_session.specs.Effects.{Effect, effect_of}
use Rattle.fm_session.specs.Making.{AnswersTo, IsCertified, blocks_in}
use Rattle.fm_session.specs.Problems.{in_force}
use Rattle.fm_session.specs.Replies.{Past, check_refusal, not_yet, refusal_by, words_of}
use Rattle.fm_session.specs.Steps.{IsMade, after, next_read, turn_by, unless, with_stack}
use Rattle.fm_session.specs.declared.session.Answer.{Answer}

-- the same but for the stack
abbrev pub moved : Past → Stack → Past
moved s stack = record { budget = s.budget; stack = stack; success = s.success; standing = s.standing; checks = s.checks; ended = s.ended }

pub step_made : (text : List ℕ) (s v t : Past) (item : Sexp) (command : Shown) (e : Effect) (stack : Stack) (answer : Answer) (ended : Bool) → command_of text item ≡ Ok command → e ≡ effect_of text s.stack command → AnswersTo s e answer → v ≡ s → step_of text v.stack command ≡ Ok stack → t ≡ after (moved v stack) (record { effect = e; stack = stack }) (blocks_in answer.made) → ended ≡ t.ended → IsMade text s item (record { block = answer.block; reply = answer.reply; ended = ended }) t
step_made text s v t item command e stack answer ended reads asks made inside steps leaves ends = record {
  blocks = blocks_in answer.made;
  step = record {
    turn = record { effect = e; stack = stack };
    read = ap (next_read text s) reads ∙ (ap (λ (x : Effect). turn_by s x (step_of text s.stack command)) (sym asks) ∙ (ap (λ (o : Option Refusal). unless o (with_stack e (step_of text s.stack command))) made.free ∙ ap (with_stack e) (subst (λ (m : Past). step_of text m.stack command ≡ Ok stack) inside steps)));
    answered = made.blocks;
    replied = made.replied;
    leaves = leaves ∙ ap (λ (m : Past). after (moved m stack) (record { effect = e; stack = stack }) (blocks_in answer.made)) inside;
  };
  spelled = made.spelled;
  ended = ends;
}

-- the refusal that what stands decides is that of the item
pub refused_by : (text : List ℕ) (s : Past) (item : Sexp) (command : Shown) (e : Effect) (refusal : Refusal) → command_of text item ≡ Ok command → e ≡ effect_of text s.stack command → refusal_by s e ≡ Some refusal → next_read text s (command_of text item) ≡ Err refusal
refused_by text s item command e refusal reads asks refused =
    ap (next_read text s) reads ∙ (ap (λ (x : Effect). turn_by s x (step_of text s.stack command)) (sym asks) ∙ ap (λ (o : Option Refusal). unless o (with_stack e (step_of text s.stack command))) refused)

-- the refusal of the stack is that of the item, where what stands decides none
pub refused_then : (text : List ℕ) (s : Past) (item : Sexp) (command : Shown) (e : Effect) (refusal : Refusal) → command_of text item ≡ Ok command → e ≡ effect_of text s.stack command → refusal_by s e ≡ None → step_of text s.stack command ≡ Err refusal → next_read text s (command_of text item) ≡ Err refusal
refused_then text s item command e refusal reads asks free refused =
    ap (next_read text s) reads ∙ (ap (λ (x : Effect). turn_by s x (step_of text s.stack command)) (sym asks) ∙ (ap (λ (o : Option Refusal). unless o (with_stack e (step_of text s.stack command))) free ∙ ap (with_stack e) refused))

thin_in_force : (stack : Stack) (sig : Sig) (fs : List Formula) → sig ≡ signature stack → fs ≡ assertions_in_force stack → are_thin (signature stack) (assertions_in_force stack) ≡ are_thin sig fs
thin_in_force stack sig fs e f = λ i. are_thin (sym e i) (sym f i)

pub check_refused : (s : Past) (at : Place) (sig : Sig) (fs : List Formula) → sig ≡ signature s.stack → fs ≡ assertions_in_force s.stack → are_thin sig fs ≡ false → check_refusal at s.stack ≡ Some (not_yet at)
check_refused s at sig fs e f thin = cond-false (are_thin (signature s.stack) (assertions_in_force s.stack)) None (Some (not_yet at)) (thin_in_force s.stack sig fs e f ∙ thin)

pub check_answered : (s : Past) (at : Place) (sig : Sig) (fs : List Formula) (answer : Answer) → sig ≡ signature s.stack → fs ≡ assertions_in_force s.stack → are_thin sig fs ≡ true → IsCertified s.checks sig fs answer → AnswersTo s (Effect.Checks at) answer
check_answered s at sig fs answer e f thin c =
    let same : tabled sig fs ≡ in_force s.stack = λ i. tabled (e i) (f i) in
    let made : blocks_in answer.made ≡ c.block ∷ [] = ap blocks_in c.made in
    record {
      free = cond-true (are_thin (signature s.stack) (assertions_in_force s.stack)) None (Some (not_yet at)) (thin_in_force s.stack sig fs e f ∙ thin);
      blocks = (
        c.block,
        made,
        record {
          number = c.number_is;
          good = subst (λ (p : Problem). IsGoodBlock p c.block) same c.good;
          holds = subst (λ (p : Problem). ClaimHolds p c.block.claim) same c.holds;
          counted = c.decided;
        },
      );
      replied = c.replied ∙ ap words_of (sym made);
      spelled = c.spelled ∙ (sym (append-nil (spelling_of_block c.block)) ∙ ap (flat_map spelling_of_block) (sym made));
    }
