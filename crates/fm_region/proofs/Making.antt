-- Regions and what they are made from.
use Rattle.std.proofs.Common.{◌≡◌, ℕ, zero, suc, ◌<◌, ◌≤◌, ◌^◌, Bool, true, false, cond, not, ◌&&◌, List, [], ◌∷◌, length, map, take, Option, None, Some, inl, inr, refl, sym, subst, ap, ◌∙◌, arith, get_or}
use Rattle.std.specs.List.{list_any, range_with_len}
use Rattle.std.specs.Prelude.{nat_lt, option_map}
use Rattle.std.proofs.lemmas.Bool.{cases_Bool, cases_lt, false≢true, lt-ltb, ltb-true}
use Rattle.std.proofs.lemmas.List.{length-map}
use Rattle.std.proofs.lemmas.List.FromFn.{length-range_with_len}
use Rattle.fm_base.specs.declared.ids.SortId.{SortId}
use Rattle.fm_base.specs.declared.ids.TermId.{TermId}
use Rattle.fm_bank.specs.Regions.{grown_regions, is_in, is_large, regions_at}
use Rattle.fm_bank.specs.Terms.{numbers}
use Rattle.fm_bank.specs.Tests.{Tests}
use Rattle.fm_cells.specs.Ascending.{IsAscending}
use Rattle.fm_cong.specs.Held.{Held as Graph}
use Rattle.fm_cong.specs.Types.{AreOldest}
use Rattle.fm_region.specs.Answers.{IsFoundIn, IsStrong, IsStrongOf}
use Rattle.fm_region.specs.Held.{AreGrownOf, AreRegionsOf, AreTestsOf}
use Rattle.fm_region.specs.Levels.{last_of}
use Rattle.fm_region.specs.Parts.{IsTable}
use Rattle.fm_region.specs.Rows.{AreRowsBy, apart_in, between, number_at}
use Rattle.fm_region.specs.Sources.{Agrees, AreGrownFrom, AreMadeFrom, IsSourceOf, Parts, parts}
use Rattle.fm_region.specs.declared.source.Source.{Source}
use Rattle.fm_region.specs.declared.strong.Strong.{Strong}
use Rattle.fm_region.proofs.Ascending.{in_range}
use Rattle.fm_region.proofs.Few.{few_alone}
use Rattle.fm_region.proofs.Pairing.{between_back}
use Rattle.fm_region.proofs.Searching.{same_bool}
use Rattle.fm_region.proofs.Stages.{grown_stays}
use Rattle.fm_region.proofs.Telling.{grown_told, oldest_same, regions_told, strong_told}

-- the table by the pairs
pub is_table : (count : ℕ) (pairs : List (ℕ × ℕ)) (rows : List (List Bool)) → AreRowsBy count pairs rows → (classes : List ℕ) → classes ≡ range_with_len 0 count → length classes < 2 ^ 64 → IsTable (apart_in rows) classes
is_table count pairs rows are classes e small =
    let long : length classes ≡ count = ap length e ∙ length-range_with_len 0 count in
    let below : (c : ℕ) → is_in classes c ≡ true → c < count = λ c h. let r = in_range 0 count c (subst (λ (cs : List ℕ). is_in cs c ≡ true) e h) in let lt = r.1 in omega (arith, lt) in
    record {
      places = e ∙ ap (range_with_len 0) (sym long);
      symmetric = λ c d hc hd. are c d (below c hc) (below d hd) ∙ (between_back pairs c d ∙ sym (are d c (below d hd) (below c hc)));
      few = small;
    }

-- where there are few classes
pub made_alone : (k : ℕ) (terms : List TermId) (pairs : List (ℕ × ℕ)) (regions : List (List ℕ)) → length terms ≤ k → regions ≡ map (λ c. c ∷ []) (numbers terms) → AreMadeFrom (k, (terms, pairs)) regions
made_alone k terms pairs regions few is apart agrees = is ∙ sym (few_alone apart (numbers terms) k (let long = length-map terms (λ (t : TermId). t.0) in omega (arith, few, long)))

-- by a table
pub made_paired : (k : ℕ) (terms : List TermId) (pairs : List (ℕ × ℕ)) (rows : List (List Bool)) (regions : List (List ℕ)) → IsAscending terms → AreRowsBy (length terms) pairs rows → regions ≡ map (map (number_at (numbers terms))) (regions_at (apart_in rows) (range_with_len 0 (length (numbers terms))) k) → AreMadeFrom (k, (terms, pairs)) regions
made_paired k terms pairs rows regions up are is apart agrees =
    let long = length-map terms (λ (t : TermId). t.0) in
    is ∙ regions_told terms rows k up apart (λ c d lc ld. agrees c d lc ld ∙ sym (are c d (omega (arith, lc, long)) (omega (arith, ld, long))))

agrees_none : (terms : List ℕ) (pairs : List (ℕ × ℕ)) → pairs ≡ [] → Agrees (λ a b. false) terms pairs
agrees_none terms pairs e c d lc ld = sym (ap (λ ps. between ps c d) e)

-- they are those of the graph
pub made_regions : (g : Graph) (sort : SortId) (k : ℕ) (s : Source) (regions : List (List ℕ)) → IsSourceOf g sort k s → AreMadeFrom (parts s) regions → AreRegionsOf g sort k regions
made_regions g sort k s regions of made t cs tests oldest =
    let terms = s.terms.items in
    let ns = numbers terms in
    let long = length-map terms (λ (u : TermId). u.0) in
    let told : regions ≡ regions_at t.apart ns k = elim (cases_lt k (length terms)) [
      | inl more ↦
          let placed = of.placed more in
          let agrees : Agrees t.apart ns s.pairs.items = λ c d lc ld.
          let p = placed c d lc ld in
          let is = tests.apart_is (number_at ns c) (number_at ns d) in
          same_bool (t.apart (number_at ns c) (number_at ns d)) (between s.pairs.items c d) (λ h. p.1 (is.0 h)) (λ h. is.1 (p.0 h)) in
          made t.apart agrees ∙ ap (regions_at t.apart ns) of.number
      | inr few ↦
          let never : ℕ → ℕ → Bool = λ a b. false in
          let small : length ns ≤ k = omega (arith, few, long) in
          made never (agrees_none ns s.pairs.items (of.none few)) ∙ (ap (regions_at never ns) of.number ∙ (few_alone never ns k small ∙ sym (few_alone t.apart ns k small)))
    ] in
    told ∙ ap (λ (xs : List ℕ). regions_at t.apart xs k) (oldest_same g sort terms cs of.oldest oldest)

-- what is made from the same parts
pub made_same : (last : Option Source) (s : Source) (regions : List (List ℕ)) → ((old : Source) → last ≡ Some old → AreMadeFrom (parts old) regions) → option_map parts last ≡ Some (parts s) → AreMadeFrom (parts s) regions
made_same None s regions made e = absurd (none_parts (parts s) e)
  where
    none_parts : (p : Parts) → None ≡ Some p → ⊥
    none_parts p e = cc
made_same (Some old) s regions made e = subst (λ (p : Parts). AreMadeFrom p regions) (some_parts (parts old) (parts s) e) (made old refl)
  where
    some_parts : (p q : Parts) → Some p ≡ Some q → p ≡ q
    some_parts p q e = cc

-- the grown ones

grown_alone : (apart : ℕ → ℕ → Bool) (classes : List ℕ) (k : ℕ) → length classes ≤ k → grown_regions apart classes k ≡ map (λ c. c ∷ []) classes
grown_alone apart classes k few =
    let rs = regions_at apart classes k in
    let off : nat_lt k (length classes) ≡ false = (elim (cases_Bool (nat_lt k (length classes))) [ inl t ↦ absurd (let l = ltb-true k (length classes) t in omega (arith, l, few)) | inr f ↦ f ]) in
    grown_stays apart classes k (length rs) rs (ap (λ b. b && not (list_any (λ r. is_large k r) rs)) off) ∙ few_alone apart classes k few

pub grown_few : (k : ℕ) (terms : List TermId) (pairs : List (ℕ × ℕ)) (regions : List (List ℕ)) → length terms ≤ k → regions ≡ map (λ c. c ∷ []) (numbers terms) → AreGrownFrom (k, (terms, pairs)) regions Strong.Fits
grown_few k terms pairs regions few is =
    let small : length (numbers terms) ≤ k = (let long = length-map terms (λ (t : TermId). t.0) in omega (arith, few, long)) in
    record { grown = λ apart agrees. is ∙ sym (grown_alone apart (numbers terms) k small); told = λ apart agrees. small }

pub grown_paired : (k : ℕ) (terms : List TermId) (pairs : List (ℕ × ℕ)) (rows : List (List Bool)) (regions : List (List ℕ)) (answer : Strong) → IsAscending terms → AreRowsBy (length terms) pairs rows → regions ≡ map (map (number_at (numbers terms))) (grown_regions (apart_in rows) (range_with_len 0 (length (numbers terms))) k) → IsFoundIn (apart_in rows) (numbers terms) k (grown_regions (apart_in rows) (range_with_len 0 (length (numbers terms))) k) answer → AreGrownFrom (k, (terms, pairs)) regions answer
grown_paired k terms pairs rows regions answer up are is found =
    let long = length-map terms (λ (t : TermId). t.0) in
    let agree : (apart : ℕ → ℕ → Bool) → Agrees apart (numbers terms) pairs → (c d : ℕ) → c < length (numbers terms) → d < length (numbers terms) → apart (number_at (numbers terms) c) (number_at (numbers terms) d) ≡ apart_in rows c d =
    λ apart agrees c d lc ld. agrees c d lc ld ∙ sym (are c d (omega (arith, lc, long)) (omega (arith, ld, long))) in
    record {
      grown = λ apart agrees. is ∙ grown_told terms rows k up apart (agree apart agrees);
      told = λ apart agrees. strong_told terms rows k up apart (agree apart agrees) answer found;
    }

module _ (g : Graph) (sort : SortId) (k : ℕ) (s : Source) (of : IsSourceOf g sort k s) where
  abbrev ns : List ℕ
  ns = numbers s.terms.items

  few_numbers : length s.terms.items ≤ k → length ns ≤ k
  few_numbers few = let long = length-map s.terms.items (λ (u : TermId). u.0) in omega (arith, few, long)

  agrees_with : (t : Tests) → AreTestsOf g t → k < length s.terms.items → Agrees t.apart ns s.pairs.items
  agrees_with t tests more c d lc ld =
      let p = of.placed more c d lc ld in
      let is = tests.apart_is (number_at ns c) (number_at ns d) in
      same_bool (t.apart (number_at ns c) (number_at ns d)) (between s.pairs.items c d) (λ h. p.1 (is.0 h)) (λ h. is.1 (p.0 h))

  abbrev never : ℕ → ℕ → Bool
  never a b = false

  fits : (apart : ℕ → ℕ → Bool) (regions : List (List ℕ)) (answer : Strong) → length ns ≤ k → IsStrong never ns k (grown_regions never ns k) answer → IsStrong apart ns k regions answer
  fits apart regions Strong.Fits few h = h
  fits apart regions (Strong.Split c d) few h = absurd (let more = h.0 in omega (arith, more, few))
  fits apart regions (Strong.Clique ts) few h = absurd (let more = h.0 in omega (arith, more, few))

  module _ (regions : List (List ℕ)) (answer : Strong) (grown : AreGrownFrom (k, (s.terms.items, s.pairs.items)) regions answer) where
    grown_by : (t : Tests) → AreTestsOf g t → regions ≡ grown_regions t.apart ns k
    grown_by t tests = elim (cases_lt k (length s.terms.items)) [
      | inl more ↦ grown.grown t.apart (agrees_with t tests more)
      | inr few ↦ grown.grown never (agrees_none ns s.pairs.items (of.none few)) ∙ (grown_alone never ns k (few_numbers few) ∙ sym (grown_alone t.apart ns k (few_numbers few)))
    ]

    told_by : (t : Tests) → AreTestsOf g t → IsStrong t.apart ns k (grown_regions t.apart ns k) answer
    told_by t tests = elim (cases_lt k (length s.terms.items)) [
      | inl more ↦ grown.told t.apart (agrees_with t tests more)
      | inr few ↦ fits t.apart (grown_regions t.apart ns k) answer (few_numbers few) (grown.told never (agrees_none ns s.pairs.items (of.none few)))
    ]

    pub are_grown : AreGrownOf g sort k regions
    are_grown t cs tests oldest = grown_by t tests ∙ ap (λ (xs : List ℕ). grown_regions t.apart xs k) (oldest_same g sort s.terms.items cs of.oldest oldest)

    pub is_strong : IsStrongOf g sort k answer
    is_strong t cs tests oldest = subst (λ (xs : List ℕ). IsStrong t.apart xs k (grown_regions t.apart xs k) answer) (oldest_same g sort s.terms.items cs of.oldest oldest) (told_by t tests)

-- by the number of the source itself
pub parts_at : (g : Graph) (sort : SortId) (k : ℕ) (s : Source) → IsSourceOf g sort k s → parts s ≡ (k, (s.terms.items, s.pairs.items))
parts_at g sort k s of = λ i. (of.number i, (s.terms.items, s.pairs.items))

pub same_list : {X : Type 0} → (xs ys : List X) → length xs ≡ length ys → ((k : ℕ) (d : X) → k < length xs → get_or xs k d ≡ get_or ys k d) → xs ≡ ys
same_list [] [] long e = refl
same_list [] (y ∷ ys) long e = absurd (omega (arith, long))
same_list (x ∷ xs) [] long e = absurd (omega (arith, long))
same_list (x ∷ xs) (y ∷ ys) long e =
    let first = e 0 x (omega arith) in
    let rest = same_list xs ys (omega (arith, long)) (λ k d lt. e (suc k) d (omega (arith, lt))) in
    λ i. first i ∷ rest i

pub some_source : (s t : Source) → Some s ≡ Some t → s ≡ t
some_source s t e = cc

pub no_source : (s : Source) → None ≡ Some s → ⊥
no_source s e = cc

-- once levels are taken back: what the regions were made from is known where none went
pub last_kept : (made : List (List (List ℕ))) (at count : ℕ) (old new : Option Source) → count ≡ length made → new ≡ cond (nat_lt at count) None old → ((s : Source) → old ≡ Some s → AreMadeFrom (parts s) (last_of made)) → (s : Source) → new ≡ Some s → AreMadeFrom (parts s) (last_of (take at made))
last_kept made at count old new long is made_from s e =
    elim (cases_Bool (nat_lt at count)) [
      | inl gone ↦ absurd (no_source s (sym (is ∙ ap (λ b. cond b None old) gone) ∙ e))
      | inr none ↦
          let high : length made ≤ at = (elim (cases_lt at count) [ inl lt ↦ absurd (false≢true (sym none ∙ lt-ltb at count lt)) | inr le ↦ omega (arith, le, long) ]) in
          let all : take at made ≡ made = take_all at made high in
          subst (λ (ms : List (List (List ℕ))). AreMadeFrom (parts s) (last_of ms)) (sym all) (made_from s (sym (is ∙ ap (λ b. cond b None old) none) ∙ e))
    ]
  where
    take_all : {X : Type 0} → (n : ℕ) (xs : List X) → length xs ≤ n → take n xs ≡ xs
    take_all zero [] le = refl
    take_all zero (x ∷ xs) le = absurd (omega (arith, le))
    take_all (suc n) [] le = refl
    take_all (suc n) (x ∷ xs) le = ap (λ ys. x ∷ ys) (take_all n xs (omega (arith, le)))
