-- The block that answers thin assertions is good for them, its claim holds, and it can be printed.
use Rattle.std.proofs.Common.{◌≡◌, ℕ, true, List, [], ◌∷◌, length, Option, Some, None, refl, sym, subst, arith}
use Rattle.std.specs.List.{AllByRecursion, list_all}
use Rattle.std.proofs.lemmas.Bool.{and_parts}
use Rattle.fm_base.specs.Interpretations.{names_its_sorts, reading_of}
use Rattle.fm_base.proofs.Fitting.{tables-interpret}
use Rattle.fm_base.specs.declared.formula.Formula.{Formula}
use Rattle.fm_base.specs.declared.signature.Sig.{Sig}
use Rattle.fm_cert.specs.Claims.{ClaimHolds, HasTable, IsGoodBlock}
use Rattle.fm_cert.specs.Fits.{IsPrintable}
use Rattle.fm_cert.specs.declared.block.Block.{Block}
use Rattle.fm_cert.proofs.Sound.{blocks-sound}
use Rattle.fm_problem.proofs.Tables.{closed_have_tables}
use Rattle.fm_thin.specs.Certified.{IsDecided, answering_block, block_of, one_element_model, refuting_block}
use Rattle.fm_problem.specs.Tabled.{tabled}
use Rattle.fm_thin.specs.Thin.{are_thin, falsity_in, is_thin}
use Rattle.fm_thin.proofs.Lining.{clauses_made, lines_good, lines_printable, same_set, shows_least, with_clauses}
use Rattle.fm_thin.proofs.Modelling.{assertions_true, model_fits, sum_of_ones, zero_everywhere}
use Rattle.fm_thin.proofs.Shapes.{all_closed}
use Rattle.fm_thin.proofs.Tabling.{clause_of_falsity, empty_clause}

abbrev Thin : Sig → List Formula → Type 0
Thin sig fs = are_thin sig fs ≡ true

parts : (sig : Sig) (fs : List Formula) → Thin sig fs → (names_its_sorts sig ≡ true) × (list_all (is_thin sig) fs ≡ true)
parts sig fs h = and_parts (names_its_sorts sig) (list_all (is_thin sig) fs) h

pub has_table : (sig : Sig) (fs : List Formula) → Thin sig fs → HasTable (tabled sig fs)
has_table sig fs thin = closed_have_tables sig fs (all_closed sig fs (parts sig fs thin).1)

model_good : (sig : Sig) (fs : List Formula) (number : ℕ) → Thin sig fs → falsity_in sig fs ≡ None → IsGoodBlock (tabled sig fs) (block_of number sig.sorts (length sig.ranks))
model_good sig fs number thin none =
    let p = parts sig fs thin in
    let i = one_element_model sig.sorts (length sig.ranks) in
    let fit = model_fits sig p.0 in
    record {
      made = with_clauses (clauses_made sig.sorts);
      lines = lines_good (tabled sig fs) sig.sorts refl;
      ending = (
        shows_least sig.sorts,
        fit,
        record { interprets = tables-interpret sig i fit; satisfies = assertions_true (reading_of i) (zero_everywhere (length sig.ranks)) sig fs p.1 none },
        sum_of_ones sig.sorts sig.sorts (omega arith),
      );
    }

refutation_good : (sig : Sig) (fs : List Formula) (number clause : ℕ) → Thin sig fs → falsity_in sig fs ≡ Some clause → IsGoodBlock (tabled sig fs) (refuting_block number clause)
refutation_good sig fs number clause thin e = record {
  made = with_clauses ([] ∷ []);
  lines = (with_clauses ([] ∷ []), ([], (empty_clause, [], clause_of_falsity sig fs (length sig.ranks) clause (parts sig fs thin).1 e, (refl, refl), same_set []), refl), refl);
  ending = (0, refl);
}

answering_good : (sig : Sig) (fs : List Formula) (number : ℕ) (o : Option ℕ) → Thin sig fs → falsity_in sig fs ≡ o → IsGoodBlock (tabled sig fs) (answering_block number sig.sorts (length sig.ranks) o)
answering_good sig fs number None thin e = model_good sig fs number thin e
answering_good sig fs number (Some clause) thin e = refutation_good sig fs number clause thin e

answering_printable : (number sorts symbols : ℕ) (o : Option ℕ) → AllByRecursion IsPrintable (answering_block number sorts symbols o).lines
answering_printable number sorts symbols None = lines_printable sorts
answering_printable number sorts symbols (Some clause) = (tt, tt)

numbered : (number sorts symbols : ℕ) (o : Option ℕ) → (answering_block number sorts symbols o).number ≡ number
numbered number sorts symbols None = refl
numbered number sorts symbols (Some clause) = refl

decided : (number sorts symbols : ℕ) (o : Option ℕ) → IsDecided (answering_block number sorts symbols o).claim
decided number sorts symbols None = tt
decided number sorts symbols (Some clause) = tt

-- all that is promised of the block
pub record Answers (sig : Sig) (fs : List Formula) (number : ℕ) (b : Block) : Type 0 where
  pub number_is : b.number ≡ number
  pub good : IsGoodBlock (tabled sig fs) b
  pub holds : ClaimHolds (tabled sig fs) b.claim
  pub decides : IsDecided b.claim
  pub printable : AllByRecursion IsPrintable b.lines

pub answers : (sig : Sig) (fs : List Formula) (number : ℕ) (o : Option ℕ) (b : Block) → Thin sig fs → falsity_in sig fs ≡ o → b ≡ answering_block number sig.sorts (length sig.ranks) o → Answers sig fs number b
answers sig fs number o b thin e is =
    let made = answering_block number sig.sorts (length sig.ranks) o in
    let good = answering_good sig fs number o thin e in
    let here : Answers sig fs number made = record {
      number_is = numbered number sig.sorts (length sig.ranks) o;
      good = good;
      holds = blocks-sound (tabled sig fs) made (has_table sig fs thin) good;
      decides = decided number sig.sorts (length sig.ranks) o;
      printable = answering_printable number sig.sorts (length sig.ranks) o;
    } in
    subst (λ (c : Block). Answers sig fs number c) (sym is) here
