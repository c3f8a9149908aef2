use Rattle.std.proofs.Common.{◌≡◌, ℕ, ◌+◌, ◌≤◌, List, [], ◌∷◌, length, refl, sym, subst, ◌∙◌, arith, length-append}
use Rattle.std.proofs.lemmas.List.{append-nil}
use Rattle.fm_base.specs.Expansions.{Agree, Symbols, with_symbols}
use Rattle.fm_base.specs.Interpretations.{Reading, IsInterpretation}
use Rattle.fm_base.specs.declared.signature.Sig.{Sig}
use Rattle.fm_base.specs.declared.formula.Formula.{Formula}
use Rattle.fm_nnf.specs.Chains.{ExpandsToAll, LiftedFormsSayTheSame, forms_of}
use Rattle.fm_nnf.specs.KeepLaw.{ExpansionsInterpret, FormulasKeepTruth, NormalFormsKeepTruth}
use Rattle.fm_nnf.specs.LiftLaw.{AllHold, AreReady, LiftingIsReady, LiftingSaysTheSame, with_ranks}
use Rattle.fm_nnf.specs.Lifting.{lifted}
use Rattle.fm_nnf.specs.NormalForm.{normal}
use Rattle.fm_nnf.specs.NormalLaw.{IsPlainOver, NormalFormIsWithin, NormalFormSaysTheSame}
use Rattle.fm_nnf.proofs.Forming.{fits_split}
use Rattle.fm_nnf.proofs.Locals.{agree_chain, agree_less, fits_along, fits_both}
use Rattle.fm_nnf.proofs.chain_tests.lifted_forms_say_the_same.Goals as goal

module _ (same : NormalFormSaysTheSame) (within : NormalFormIsWithin) (interprets : ExpansionsInterpret) (keeps : FormulasKeepTruth) (keeps_form : NormalFormsKeepTruth) where
  -- new symbols leave an interpretation one of the signature
  still : (sig : Sig) (m : Reading) (at : Symbols) → IsInterpretation sig m → Agree (length sig.ranks) m.at at → IsInterpretation sig (with_symbols m.size at)
  still sig m at is agree =
      let nothing : with_ranks sig [] ≡ sig = λ i. record { sorts = sig.sorts; ranks = append-nil sig.ranks i } in
      subst (λ (s : Sig). IsInterpretation s (with_symbols m.size at)) nothing (interprets sig [] m is (record { at = at; agrees = agree; fits = tt }))

  onwards : (sig : Sig) (fs : List Formula) (m : Reading) (at : Symbols) → AreReady sig fs → Agree (length sig.ranks) m.at at → AllHold m fs → AllHold (with_symbols m.size at) fs
  onwards sig [] m at ready agree h = tt
  onwards sig (f ∷ fs) m at ready agree h = (keeps sig f m at ready.0 agree ∙ h.0, onwards sig fs m at ready.2 agree h.1)

  backwards : (sig : Sig) (fs : List Formula) (m : Reading) (at : Symbols) → AreReady sig fs → Agree (length sig.ranks) m.at at → AllHold (with_symbols m.size at) fs → AllHold m fs
  backwards sig [] m at ready agree h = tt
  backwards sig (f ∷ fs) m at ready agree h = (sym (keeps sig f m at ready.0 agree) ∙ h.0, backwards sig fs m at ready.2 agree h.1)

  over : (sig : Sig) (f : Formula) (fs : List Formula) (next : ℕ) → AreReady sig (f ∷ fs) → length sig.ranks ≤ next → IsPlainOver sig f next
  over sig f fs next ready le = record { closed = ready.0; plain = ready.1; after = le }

  expand : (sig : Sig) (fs : List Formula) (next : ℕ) (m : Reading) → AreReady sig fs → length sig.ranks ≤ next → IsInterpretation sig m → AllHold m fs → ExpandsToAll m next (forms_of fs next)
  expand sig [] next m ready le is h = record { expansion = record { at = m.at; agrees = λ f xs lt. refl; fits = tt }; hold = tt }
  expand sig (f ∷ fs) next m ready le is h =
      let plain = over sig f fs next ready le in
      let one = normal f next in
      let n = next + length one.1 in
      let x = (same sig f next m plain is).0 h.0 in
      let a = x.expansion.at in
      let agree = agree_less (length sig.ranks) next m.at a le x.expansion.agrees in
      let y = expand sig fs n (with_symbols m.size a) ready.2 (omega arith) (still sig m a is agree) (onwards sig fs m a ready.2 agree h.1) in
      let b = y.expansion.at in
      record {
        expansion = record {
          at = b;
          agrees = agree_chain next m.at a b x.expansion.agrees (agree_less next n a b (omega arith) y.expansion.agrees);
          fits = fits_both (with_symbols m.size b) next one.1 (forms_of fs n).1 (fits_along m.size a b n next one.1 (omega arith) y.expansion.agrees x.expansion.fits) y.expansion.fits;
        };
        hold = (keeps_form n sig.sorts one.0 (with_symbols m.size a) b (within sig f next plain) y.expansion.agrees ∙ x.holds, y.hold);
      }

  contract : (sig : Sig) (fs : List Formula) (next : ℕ) (m : Reading) → AreReady sig fs → length sig.ranks ≤ next → IsInterpretation sig m → ExpandsToAll m next (forms_of fs next) → AllHold m fs
  contract sig [] next m ready le is e = tt
  contract sig (f ∷ fs) next m ready le is e =
      let plain = over sig f fs next ready le in
      let one = normal f next in
      let n = next + length one.1 in
      let a = e.expansion.at in
      let p = fits_split (with_symbols m.size a) next one.1 (forms_of fs n).1 e.expansion.fits in
      let agree = agree_less (length sig.ranks) next m.at a le e.expansion.agrees in
      let first = (same sig f next m plain is).1 (record { expansion = record { at = a; agrees = e.expansion.agrees; fits = p.0 }; holds = e.hold.0 }) in
      let rest = contract sig fs n (with_symbols m.size a) ready.2 (omega arith) (still sig m a is agree) (record { expansion = record { at = a; agrees = λ g xs lt. refl; fits = p.1 }; hold = e.hold.1 }) in
      (first, backwards sig fs m a ready.2 agree rest)

  chain : LiftingSaysTheSame → LiftingIsReady → LiftedFormsSayTheSame
  chain lifting ready sig more f m closed is =
      let big = with_ranks sig more in
      let l = lifted sig f (length big.ranks) in
      let next = length big.ranks + length l.ranks in
      let grown = with_ranks big l.ranks in
      let fs = l.made ∷ l.definitions in
      let made = forms_of fs next in
      let are_ready = ready sig more f closed in
      let le : length grown.ranks ≤ next = omega (arith, length-append big.ranks l.ranks) in (
        (λ h.
            let x = (lifting sig more f m closed is).0 h in
            let a = x.expansion.at in
            let y = expand grown fs next (with_symbols m.size a) are_ready le (interprets big l.ranks m is x.expansion) (x.holds, x.defined) in
            let b = y.expansion.at in
            record {
              expansion = record {
                at = b;
                agrees = agree_chain (length big.ranks) m.at a b x.expansion.agrees (agree_less (length big.ranks) next a b (omega arith) y.expansion.agrees);
                fits = fits_both (with_symbols m.size b) (length big.ranks) l.ranks made.1 (fits_along m.size a b next (length big.ranks) l.ranks (omega arith) y.expansion.agrees x.expansion.fits) y.expansion.fits;
              };
              hold = y.hold;
            }),
        λ e.
            let a = e.expansion.at in
            let p = fits_split (with_symbols m.size a) (length big.ranks) l.ranks made.1 e.expansion.fits in
            let all = contract grown fs next (with_symbols m.size a) are_ready le (interprets big l.ranks m is (record { at = a; agrees = e.expansion.agrees; fits = p.0 })) (record { expansion = record { at = a; agrees = λ g xs lt. refl; fits = p.1 }; hold = e.hold }) in
            (lifting sig more f m closed is).1 (record { expansion = record { at = a; agrees = e.expansion.agrees; fits = p.0 }; holds = all.0; defined = all.1 }),
      )

pub returns : goal.returns
returns c = chain c.normal_form_says_the_same.ensures.same c.normal_form_says_the_same.ensures.within c.expansions_keep_truth.ensures.interprets c.expansions_keep_truth.ensures.formulas c.expansions_keep_truth.ensures.forms c.lifting_says_the_same.ensures.same c.lifting_says_the_same.ensures.ready
