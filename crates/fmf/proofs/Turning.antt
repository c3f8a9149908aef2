-- One turn of the loop over a text's items.
use Rattle.std.proofs.Common.{◌≡◌, ℕ, ◌+◌, ◌<◌, ◌≤◌, true, List, [], ◌∷◌, ◌++◌, length, take, drop, get_or, sym, ap, subst, ◌∙◌, arith}
use Rattle.std.proofs.lemmas.Bool.{and_parts}
use Rattle.std.proofs.lemmas.List.{drop_more, drop_all, take-append-drop}
use Rattle.fm_sexp.specs.Items.{all_within, spans_within}
use Rattle.fm_sexp.specs.declared.items.Sexp.{Sexp}
use Rattle.fm_cert.specs.declared.block.Block.{Block}
use Rattle.fm_session.specs.Effects.{Effect}
use Rattle.fm_session.specs.Replies.{Past, AreBlocks}
use Rattle.fm_session.specs.Steps.{IsStep, IsMade}
use Rattle.fm_session.specs.declared.session.Step.{Step}

pub split_at : (items : List Sexp) (i : ℕ) (x : Sexp) → i < length items → items ≡ take i items ++ get_or items i x ∷ drop (i + 1) items
split_at items i x lt = sym (take-append-drop i items) ∙ ap (λ (ys : List Sexp). take i items ++ ys) (drop_more items i x lt)

pub split_after : (items : List Sexp) (i : ℕ) → items ≡ take i items ++ drop i items
split_after items i = sym (take-append-drop i items)

pub split_end : (items : List Sexp) (i : ℕ) → length items ≤ i → items ≡ take i items ++ []
split_end items i le = sym (take-append-drop i items) ∙ ap (λ (ys : List Sexp). take i items ++ ys) (drop_all i items le)

pub within_next : (n : ℕ) (items : List Sexp) (i : ℕ) (x : Sexp) → i < length items → all_within n (drop i items) ≡ true → all_within n (drop (i + 1) items) ≡ true
within_next n items i x lt h =
    let here : all_within n (get_or items i x ∷ drop (i + 1) items) ≡ true = subst (λ xs. all_within n xs ≡ true) (drop_more items i x lt) h in
    (and_parts (spans_within n (get_or items i x)) (all_within n (drop (i + 1) items)) here).1

few_blocks : (s : Past) (e : Effect) (blocks : List Block) → AreBlocks s e blocks → length blocks ≤ 1
few_blocks s (Effect.Checks at) blocks h = subst (λ (bs : List Block). length bs ≤ 1) (sym h.1) (omega arith)
few_blocks s (Effect.Says text) blocks h = subst (λ (bs : List Block). length bs ≤ 1) (sym h) (omega arith)
few_blocks s Effect.AsksWhy blocks h = subst (λ (bs : List Block). length bs ≤ 1) (sym h) (omega arith)
few_blocks s (Effect.AsksModel at) blocks h = subst (λ (bs : List Block). length bs ≤ 1) (sym h) (omega arith)
few_blocks s (Effect.Prints on) blocks h = subst (λ (bs : List Block). length bs ≤ 1) (sym h) (omega arith)
few_blocks s Effect.Changes blocks h = subst (λ (bs : List Block). length bs ≤ 1) (sym h) (omega arith)
few_blocks s Effect.Ends blocks h = subst (λ (bs : List Block). length bs ≤ 1) (sym h) (omega arith)
few_blocks s Effect.Passes blocks h = subst (λ (bs : List Block). length bs ≤ 1) (sym h) (omega arith)

pub few_after : (text : List ℕ) (s t : Past) (x : Sexp) (blocks : List Block) (reply : List ℕ) (i : ℕ) → IsStep text s x blocks reply t → s.checks ≤ i → t.checks ≤ i + 1
few_after text s t x blocks reply i step few =
    let few_now = few_blocks s step.turn.effect blocks step.answered in
    let checks : t.checks ≡ s.checks + length blocks = ap (λ (m : Past). m.checks) step.leaves in
    omega (arith, few, few_now, checks)

-- the step with the texts that were written
pub step_now : (text : List ℕ) (s t : Past) (x : Sexp) (made : Step) (reply : List ℕ) → reply ≡ made.reply.items → (m : IsMade text s x made t) → IsStep text s x m.blocks reply t
step_now text s t x made reply e m = subst (λ (r : List ℕ). IsStep text s x m.blocks r t) (sym e) m.step
