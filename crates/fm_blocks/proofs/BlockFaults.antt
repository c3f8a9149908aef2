-- A block isn't both good and at fault, and has one first fault.
use Rattle.std.proofs.Common.{◌≡◌, ℕ, zero, suc, ◌+◌, inl, inr, List, [], ◌∷◌, Option, Some, None, refl, sym, ap, subst, ◌∙◌}
use Rattle.fm_cert.specs.Claims.{IsGoodBlock, IsGoodEnding, ShowsLeast}
use Rattle.fm_cert.specs.Lines.{AreGoodLines, Clause, Made, Problem, SameSet, above, nothing}
use Rattle.fm_cert.specs.declared.block.Block.{Block}
use Rattle.fm_cert.specs.declared.block.Claim.{Claim}
use Rattle.fm_cert.specs.declared.block.Line.{Line}
use Rattle.fm_blocks.specs.Faults.{IsBlockFault, IsEndingFault, IsFirstBad, bad_behind, ending_line}
use Rattle.fm_blocks.specs.ModelLines.{bad_in_model}
use Rattle.fm_blocks.specs.declared.verdict.Fault.{Fault}
use Rattle.fm_blocks.proofs.FitLines.{fit_lines}
use Rattle.fm_blocks.proofs.SameMade.{IsSame, nothing_same, one_end, one_makes, same_at, same_makes, same_sym, set_sym, set_trans}

pub good_not_bad : (p : Problem) (m n : Made) (at : ℕ) (lines : List Line) (end' : Made) (f : Fault) → IsSame m n → AreGoodLines p m lines end' → IsFirstBad p n at lines f → ⊥
good_not_bad p m n at [] end' f s good bad = bad
good_not_bad p m n at (line ∷ lines) end' f s (after, makes, rest) bad =
    elim bad [
      | inl here ↦ let other = same_makes p m n after line s makes in here.0 other.0 other.1
      | inr next ↦ good_not_bad p after next.0 (at + 1) lines end' f (one_makes p m n after next.0 line s makes next.1) rest next.2
    ]

-- only the empty clause is one set with it
empty_same : (c : Clause) → SameSet [] c → c ≡ []
empty_same [] s = refl
empty_same (l ∷ c) s = absurd ((s l).1 (inl refl))

shows_same : (m n : Made) (sum : ℕ) → IsSame m n → ShowsLeast m.clauses sum → ShowsLeast n.clauses sum
shows_same m n zero s h = tt
shows_same m n (suc k) s (i, c, e, same) =
    let o = same_at m.clauses n.clauses i c s.clauses e in
    (i, o.0, o.1, set_trans o.0 c (above k ∷ []) (set_sym c o.0 o.2) same)

ending_same : (p : Problem) (m n : Made) (claim : Claim) → IsSame m n → IsGoodEnding p m.clauses claim → IsGoodEnding p n.clauses claim
ending_same p m n Claim.Unsat s (i, e) =
    let o = same_at m.clauses n.clauses i [] s.clauses e in
    (i, o.1 ∙ ap Some (empty_same o.0 o.2))
ending_same p m n (Claim.Sat sum model) s h = (shows_same m n sum s h.0, h.1, h.2, h.3)
ending_same p m n (Claim.Unknown x d) s h = tt

ending_no_fault : (p : Problem) (clauses : List Clause) (at : ℕ) (claim : Claim) (f : Fault) → IsGoodEnding p clauses claim → IsEndingFault p clauses at claim (bad_behind p at claim) f → ⊥
ending_no_fault p clauses at Claim.Unsat f good fault = fault.0 good
ending_no_fault p clauses at (Claim.Sat sum model) f good fault =
    let none : bad_in_model p.sig (at + 1) model ≡ None = fit_lines p.sig (at + 1) model good.1 in
    (subst (λ (o : Option ℕ). IsEndingFault p clauses at (Claim.Sat sum model) o f) none fault).0 good
ending_no_fault p clauses at (Claim.Unknown x d) f good fault = fault.0 good

pub one_verdict : (p : Problem) (at : ℕ) (block : Block) (f : Fault) → IsGoodBlock p block → IsBlockFault p at block f → ⊥
one_verdict p at block f good fault =
    elim fault [
      | inl lines ↦ good_not_bad p nothing nothing (at + 1) block.lines good.made f nothing_same good.lines lines
      | inr ending ↦
          let same = one_end p nothing nothing block.lines good.made ending.0 nothing_same good.lines ending.1 in
          ending_no_fault p ending.0.clauses (ending_line at block) block.claim f (ending_same p good.made ending.0 block.claim same good.ending) ending.2
    ]

one_ending_fault : (p : Problem) (cs ds : List Clause) (at : ℕ) (claim : Claim) (o : Option ℕ) (f g : Fault) → IsEndingFault p cs at claim o f → IsEndingFault p ds at claim o g → f ≡ g
one_ending_fault p cs ds at claim None f g h k = h.1 ∙ sym k.1
one_ending_fault p cs ds at claim (Some line) f g h k = h ∙ sym k

one_bad : (p : Problem) (m n : Made) (at : ℕ) (lines : List Line) (f g : Fault) → IsSame m n → IsFirstBad p m at lines f → IsFirstBad p n at lines g → f ≡ g
one_bad p m n at [] f g s h k = absurd h
one_bad p m n at (line ∷ lines) f g s h k =
    elim h [
      | inl here ↦
          elim k [
            | inl there ↦ here.1 ∙ sym there.1
            | inr next ↦ let other = same_makes p n m next.0 line (same_sym m n s) next.1 in absurd (here.0 other.0 other.1)
          ]
      | inr next ↦
          elim k [
            | inl there ↦ let other = same_makes p m n next.0 line s next.1 in absurd (there.0 other.0 other.1)
            | inr more ↦ one_bad p next.0 more.0 (at + 1) lines f g (one_makes p m n next.0 more.0 line s next.1 more.1) next.2 more.2
          ]
    ]

pub one_fault : (p : Problem) (at : ℕ) (block : Block) (f g : Fault) → IsBlockFault p at block f → IsBlockFault p at block g → f ≡ g
one_fault p at block f g h k =
    elim h [
      | inl bad ↦
          elim k [
            | inl other ↦ one_bad p nothing nothing (at + 1) block.lines f g nothing_same bad other
            | inr ending ↦ absurd (good_not_bad p nothing nothing (at + 1) block.lines ending.0 f nothing_same ending.1 bad)
          ]
      | inr ending ↦
          elim k [
            | inl bad ↦ absurd (good_not_bad p nothing nothing (at + 1) block.lines ending.0 g nothing_same ending.1 bad)
            | inr other ↦ one_ending_fault p ending.0.clauses other.0.clauses (ending_line at block) block.claim (bad_behind p (ending_line at block) block.claim) f g ending.2 other.2
          ]
    ]
