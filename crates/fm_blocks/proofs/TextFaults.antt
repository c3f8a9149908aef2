-- A certificate isn't both good and at fault, has one first fault, and what it claims holds.
use Rattle.std.proofs.Common.{◌≡◌, ℕ, ◌+◌, inl, inr, List, [], ◌∷◌, length, sym, ap, subst, ◌∙◌}
use Rattle.fm_cert.specs.Claims.{AreGoodFrom}
use Rattle.fm_cert.specs.Lines.{Problem}
use Rattle.fm_cert.specs.Rows.{rows_of_block}
use Rattle.fm_cert.specs.declared.block.Block.{Block}
use Rattle.fm_cert.proofs.OneValue.{one_certificate}
use Rattle.fm_cert.proofs.Outsides.{not_both as no_text_is_both, one_line}
use Rattle.fm_cert.proofs.Sound.{blocks-sound}
use Rattle.fm_blocks.specs.Faults.{AllHaveTables, AllHold, IsFaultFrom, IsFirstFault, IsGoodText, fault_at}
use Rattle.fm_blocks.specs.declared.verdict.Fault.{Fault}
use Rattle.fm_blocks.specs.declared.verdict.Rule.{Rule}
use Rattle.fm_blocks.proofs.BlockFaults.{one_fault, one_verdict}

good_no_fault : (k at : ℕ) (ps : List Problem) (bs : List Block) (f : Fault) → AreGoodFrom k ps bs → IsFaultFrom k at ps bs f → ⊥
good_no_fault k at ps [] f good fault = fault
good_no_fault k at [] (b ∷ bs) f good fault = good
good_no_fault k at (p ∷ ps) (b ∷ bs) f good fault =
    elim fault [
      | inl place ↦ place.0 good.0
      | inr here ↦
          elim here.1 [
            | inl bad ↦ one_verdict p at b f good.1 bad
            | inr rest ↦ good_no_fault (k + 1) (at + length (rows_of_block b)) ps bs f good.2 rest.1
          ]
    ]

one_from : (k at : ℕ) (ps : List Problem) (bs : List Block) (f g : Fault) → IsFaultFrom k at ps bs f → IsFaultFrom k at ps bs g → f ≡ g
one_from k at ps [] f g h j = absurd h
one_from k at [] (b ∷ bs) f g h j = h ∙ sym j
one_from k at (p ∷ ps) (b ∷ bs) f g h j =
    elim h [
      | inl place ↦
          elim j [
            | inl other ↦ place.1 ∙ sym other.1
            | inr here ↦ absurd (place.0 here.0)
          ]
      | inr here ↦
          elim j [
            | inl place ↦ absurd (place.0 here.0)
            | inr there ↦
                elim here.1 [
                  | inl bad ↦
                      elim there.1 [
                        | inl other ↦ one_fault p at b f g bad other
                        | inr rest ↦ absurd (one_verdict p at b f rest.0 bad)
                      ]
                  | inr rest ↦
                      elim there.1 [
                        | inl bad ↦ absurd (one_verdict p at b g rest.0 bad)
                        | inr other ↦ one_from (k + 1) (at + length (rows_of_block b)) ps bs f g rest.1 other.1
                      ]
                ]
          ]
    ]

pub not_both : (ps : List Problem) (text : List ℕ) (bs : List Block) (f : Fault) → IsGoodText ps text bs → IsFirstFault ps text f → ⊥
not_both ps text bs f good fault =
    elim fault [
      | inl outside ↦ no_text_is_both text outside.0 bs good.0 outside.1
      | inr within ↦
          let same : bs ≡ within.0 = one_certificate text bs within.0 good.0 within.1 in
          good_no_fault 0 2 ps within.0 f (subst (AreGoodFrom 0 ps) same good.1) within.2
    ]

pub one_first_fault : (ps : List Problem) (text : List ℕ) (f g : Fault) → IsFirstFault ps text f → IsFirstFault ps text g → f ≡ g
one_first_fault ps text f g h j =
    elim h [
      | inl outside ↦
          elim j [
            | inl other ↦ outside.2 ∙ (ap (λ (n : ℕ). fault_at n Rule.Text) (one_line text outside.0 other.0 outside.1 other.1) ∙ sym other.2)
            | inr within ↦ absurd (no_text_is_both text outside.0 within.0 within.1 outside.1)
          ]
      | inr within ↦
          elim j [
            | inl outside ↦ absurd (no_text_is_both text outside.0 within.0 within.1 outside.1)
            | inr other ↦
                let same : within.0 ≡ other.0 = one_certificate text within.0 other.0 within.1 other.1 in
                one_from 0 2 ps other.0 f g (subst (λ (bs : List Block). IsFaultFrom 0 2 ps bs f) same within.2) other.2
          ]
    ]

all_hold : (k : ℕ) (ps : List Problem) (bs : List Block) → AllHaveTables ps → AreGoodFrom k ps bs → AllHold ps bs
all_hold k ps [] tables good = tt
all_hold k [] (b ∷ bs) tables good = absurd good
all_hold k (p ∷ ps) (b ∷ bs) tables good = (blocks-sound p b tables.0 good.1, all_hold (k + 1) ps bs tables.1 good.2)

pub good_texts_hold : (ps : List Problem) (text : List ℕ) (bs : List Block) → AllHaveTables ps → IsGoodText ps text bs → AllHold ps bs
good_texts_hold ps text bs tables good = all_hold 0 ps bs tables good.1
