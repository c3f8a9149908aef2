-- One block more, good or at fault, and the end of a certificate.
use Rattle.std.proofs.Common.{◌≡◌, ◌≢◌, ℕ, ◌+◌, ◌⊎◌, inl, inr, List, [], ◌∷◌, ◌++◌, length, refl, sym, ap, subst, ◌∙◌, arith, append_assoc}
use Rattle.std.proofs.lemmas.List.{length-append}
use Rattle.fm_cert.specs.Blockwise.{IsAt, IsCertificate, IsNext, Left, StopsAt}
use Rattle.fm_cert.specs.Claims.{AreGoodFrom, IsGoodBlock}
use Rattle.fm_cert.specs.Lines.{Problem}
use Rattle.fm_cert.specs.Outside.{Spells}
use Rattle.fm_cert.specs.Rows.{rows_of, rows_of_block}
use Rattle.fm_cert.specs.declared.block.Block.{Block}
use Rattle.fm_cert.proofs.Fronts.{front_of}
use Rattle.fm_blocks.specs.Faults.{IsBlockFault, IsFaultFrom, IsFirstFault, IsGoodText, fault_at}
use Rattle.fm_blocks.specs.Progress.{FoundIs, HasChecked, StepIs, bad_step}
use Rattle.fm_blocks.specs.declared.progress.Step.{Step}
use Rattle.fm_blocks.specs.declared.verdict.Fault.{Fault}
use Rattle.fm_blocks.specs.declared.verdict.Rule.{Rule}

good_last : (k : ℕ) (ps : List Problem) (bs : List Block) (p : Problem) (b : Block) → length bs ≡ length ps → AreGoodFrom k ps bs → b.number ≡ k + length bs → IsGoodBlock p b → AreGoodFrom k (ps ++ p ∷ []) (bs ++ b ∷ [])
good_last k [] [] p b l good n here = (n ∙ omega arith, here, tt)
good_last k [] (c ∷ bs) p b l good n here = absurd good
good_last k (q ∷ ps) [] p b l good n here = absurd (omega (arith, l))
good_last k (q ∷ ps) (c ∷ bs) p b l good n here = (good.0, good.1, good_last (k + 1) ps bs p b (omega (arith, l)) good.2 (n ∙ omega arith) here)

good_more : (k : ℕ) (ps more : List Problem) (bs : List Block) → AreGoodFrom k ps bs → AreGoodFrom k (ps ++ more) bs
good_more k ps more [] good = tt
good_more k [] more (c ∷ bs) good = absurd good
good_more k (q ∷ ps) more (c ∷ bs) good = (good.0, good.1, good_more (k + 1) ps more bs good.2)

-- a fault of the block behind good ones
fault_behind : (k at : ℕ) (ps : List Problem) (bs : List Block) (p : Problem) (b : Block) (more : List Problem) (rest : List Block) (f : Fault) → length bs ≡ length ps → AreGoodFrom k ps bs → IsFaultFrom (k + length bs) (at + length (rows_of bs)) (p ∷ more) (b ∷ rest) f → IsFaultFrom k at (ps ++ p ∷ more) (bs ++ b ∷ rest) f
fault_behind k at [] [] p b more rest f l good h = subst (λ (n : ℕ). IsFaultFrom n at (p ∷ more) (b ∷ rest) f) (omega arith) (subst (λ (n : ℕ). IsFaultFrom (k + 0) n (p ∷ more) (b ∷ rest) f) (omega arith) h)
fault_behind k at [] (c ∷ bs) p b more rest f l good h = absurd good
fault_behind k at (q ∷ ps) [] p b more rest f l good h = absurd (omega (arith, l))
fault_behind k at (q ∷ ps) (c ∷ bs) p b more rest f l good h =
    let long = length-append (rows_of_block c) (rows_of bs) in
    let number : k + length (c ∷ bs) ≡ k + 1 + length bs = omega arith in
    let line : at + length (rows_of (c ∷ bs)) ≡ at + length (rows_of_block c) + length (rows_of bs) = omega (arith, long) in
    let here = subst (λ (n : ℕ). IsFaultFrom n (at + length (rows_of_block c) + length (rows_of bs)) (p ∷ more) (b ∷ rest) f) number (subst (λ (n : ℕ). IsFaultFrom (k + length (c ∷ bs)) n (p ∷ more) (b ∷ rest) f) line h) in
    inr (good.0, inr (good.1, fault_behind (k + 1) (at + length (rows_of_block c)) ps bs p b more rest f (omega (arith, l)) good.2 here))

left_behind : (k at : ℕ) (ps : List Problem) (bs : List Block) (b : Block) (rest : List Block) (f : Fault) → length bs ≡ length ps → AreGoodFrom k ps bs → f ≡ fault_at (at + length (rows_of bs)) Rule.B → IsFaultFrom k at ps (bs ++ b ∷ rest) f
left_behind k at [] [] b rest f l good e = e ∙ ap (λ (n : ℕ). fault_at n Rule.B) (omega arith)
left_behind k at [] (c ∷ bs) b rest f l good e = absurd good
left_behind k at (q ∷ ps) [] b rest f l good e = absurd (omega (arith, l))
left_behind k at (q ∷ ps) (c ∷ bs) b rest f l good e =
    let long = length-append (rows_of_block c) (rows_of bs) in
    let line : at + length (rows_of (c ∷ bs)) ≡ at + length (rows_of_block c) + length (rows_of bs) = omega (arith, long) in
    inr (good.0, inr (good.1, left_behind (k + 1) (at + length (rows_of_block c)) ps bs b rest f (omega (arith, l)) good.2 (e ∙ ap (λ (n : ℕ). fault_at n Rule.B) line)))

pub checked_next : (text : List ℕ) (ps : List Problem) (bs : List Block) (old new : Left) (number : ℕ) (p : Problem) (b : Block) → HasChecked text ps bs old → number ≡ length bs → IsAt text (bs ++ b ∷ []) new → b.number ≡ number → IsGoodBlock p b → HasChecked text (ps ++ p ∷ []) (bs ++ b ∷ []) new
checked_next text ps bs old new number p b w count at is good =
    let l = length-append bs (b ∷ []) in
    let m = length-append ps (p ∷ []) in
    let same = w.count in
    record { at = at; count = omega (arith, l, m, same); good = good_last 0 ps bs p b w.count w.good (is ∙ (count ∙ omega arith)) good }

pub fault_next : (text : List ℕ) (ps : List Problem) (bs : List Block) (old new : Left) (number : ℕ) (p : Problem) (b : Block) (more : List Problem) (f : Fault) → IsCertificate text → HasChecked text ps bs old → number ≡ length bs → IsAt text (bs ++ b ∷ []) new → ((b.number ≢ number) × (f ≡ fault_at old.line Rule.B)) ⊎ ((b.number ≡ number) × IsBlockFault p old.line b f) → IsFirstFault (ps ++ p ∷ more) text f
fault_next text ps bs old new number p b more f cert w count at h =
    let front = front_of text (bs ++ b ∷ []) new at cert in
    let spells : Spells text (bs ++ b ∷ front.0) = subst (Spells text) (append_assoc bs (b ∷ []) front.0) front.1 in
    let line = w.at.number in
    let here : IsFaultFrom number old.line (p ∷ more) (b ∷ front.0) f = elim h [
      | inl place ↦ inl place
      | inr bad ↦ inr (bad.0, inl bad.1)
    ] in
    let there : IsFaultFrom (0 + length bs) (2 + length (rows_of bs)) (p ∷ more) (b ∷ front.0) f = subst (λ (n : ℕ). IsFaultFrom n (2 + length (rows_of bs)) (p ∷ more) (b ∷ front.0) f) (count ∙ omega arith) (subst (λ (n : ℕ). IsFaultFrom number n (p ∷ more) (b ∷ front.0) f) line here) in
    inr (bs ++ b ∷ front.0, spells, fault_behind 0 2 ps bs p b more front.0 f w.count w.good there)

pub all_good : (text : List ℕ) (ps : List Problem) (bs : List Block) (left : Left) (more : List Problem) → HasChecked text ps bs left → Spells text bs → IsGoodText (ps ++ more) text bs
all_good text ps bs left more w spells = (spells, good_more 0 ps more bs w.good)

pub left_over : (text : List ℕ) (ps : List Problem) (bs : List Block) (old new : Left) (b : Block) (f : Fault) → IsCertificate text → HasChecked text ps bs old → IsAt text (bs ++ b ∷ []) new → f ≡ fault_at old.line Rule.B → IsFirstFault ps text f
left_over text ps bs old new b f cert w at e =
    let front = front_of text (bs ++ b ∷ []) new at cert in
    let spells : Spells text (bs ++ b ∷ front.0) = subst (Spells text) (append_assoc bs (b ∷ []) front.0) front.1 in
    inr (bs ++ b ∷ front.0, spells, left_behind 0 2 ps bs b front.0 f w.count w.good (e ∙ ap (λ (n : ℕ). fault_at n Rule.B) w.at.number))

rows_last : (bs : List Block) (b : Block) → length (rows_of (bs ++ b ∷ [])) ≡ length (rows_of bs) + length (rows_of_block b)
rows_last [] b = let l = length-append (rows_of_block b) [] in omega (arith, l)
rows_last (c ∷ bs) b =
    let l = length-append (rows_of_block c) (rows_of (bs ++ b ∷ [])) in
    let m = length-append (rows_of_block c) (rows_of bs) in
    let rest = rows_last bs b in
    omega (arith, l, m, rest)

-- the lines of a block are those between the reader's places
pub lines_between : (text : List ℕ) (bs : List Block) (old new : Left) (b : Block) → IsAt text bs old → IsAt text (bs ++ b ∷ []) new → old.line + length (rows_of_block b) ≡ new.line
lines_between text bs old new b here there =
    let a = here.number in
    let c = there.number in
    let l = rows_last bs b in
    omega (arith, a, c, l)

-- what is found of a block says what the step is
pub step_from : (p : Problem) (old new : Left) (number : ℕ) (b : Block) (s : Step) → IsNext old b new → FoundIs p number old.line b s → StepIs p old number s new
step_from p old new number b (Step.Good claim) next (is, place, good) = λ text ps bs w count. (b, is, checked_next text ps bs old new number p b w count (next text bs w.at) place good)
step_from p old new number b (Step.Bad f) next found = λ text ps bs cert w count more. fault_next text ps bs old new number p b more f cert w count (next text bs w.at) found
step_from p old new number b Step.End next found = absurd found

-- the text leaves the grammar
pub text_fault : (text : List ℕ) (ps : List Problem) (bs : List Block) (left : Left) (line : ℕ) → StopsAt left line → IsAt text bs left → IsFirstFault ps text (fault_at line Rule.Text)
text_fault text ps bs left line stops at = inl (line, stops text bs at, refl)

pub text_step : (p : Problem) (old new : Left) (number line : ℕ) (s : Step) → s ≡ bad_step line Rule.Text → StopsAt old line → StepIs p old number s new
text_step p old new number line s is stops = subst (λ (x : Step). StepIs p old number x new) (sym is) (λ text ps bs cert w count more. text_fault text (ps ++ p ∷ more) bs old line stops w.at)
