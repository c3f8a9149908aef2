-- The elements by classes are a content's.
use Rattle.std.proofs.Common.{◌≡◌, ℕ, zero, suc, ◌+◌, ◌<◌, Bool, true, not, cond, List, [], ◌∷◌, length, get_or, Option, Some, None, refl, sym, ap, ◌∙◌, arith, inl, inr}
use Rattle.std.specs.Prelude.{◌==◌, slice_get, slice_index}
use Rattle.std.specs.List.{position_or_len}
use Rattle.std.proofs.lemmas.List.FromFn.{get_or-map-range_with_len, length-map-range_with_len}
use Rattle.std.proofs.lemmas.Option.{slice_get-get_or, slice_get_within}
use Rattle.fm_base.specs.Interpretations.{names_its_sorts}
use Rattle.fm_base.specs.Resolution.{Has}
use Rattle.fm_base.specs.declared.ids.SortId.{SortId}
use Rattle.fm_base.specs.declared.ids.TermId.{TermId}
use Rattle.fm_base.specs.declared.signature.Ty.{Ty}
use Rattle.fm_bank.specs.Closure.{object}
use Rattle.fm_bank.specs.Terms.{is_type, numbers, type_of}
use Rattle.fm_rounds.specs.Failing.{numbered_reps}
use Rattle.fm_rounds.specs.Grounds.{IsGrounded}
use Rattle.fm_rounds.specs.Rounds.{Content, element_in, element_of, reached, representatives, reps_of}
use Rattle.fm_rounds.proofs.Candidates.{sort_within}
use Rattle.fm_rounds.proofs.Members.{in_filter}
use Rattle.fm_rounds.proofs.Reaching.{reached_is}
use Rattle.fm_build.specs.Elements.{Types, element_at, element_by, elements_by, place_in}
use Rattle.fm_build.specs.Marks.{class_at}
use Rattle.fm_build.specs.Reached.{Classifies}

position_alike : (p q : ℕ → Bool) (xs : List ℕ) → ((x : ℕ) → Has xs x → p x ≡ q x) → position_or_len p xs ≡ position_or_len q xs
position_alike p q [] h = refl
position_alike p q (x ∷ xs) h = let one = h x (inl refl) in let rest = position_alike p q xs (λ y i. h y (inr i)) in λ i. cond (not (one i)) (1 + rest i) 0

position_numbers : (p : ℕ → Bool) (ts : List TermId) → position_or_len (λ (t : TermId). p t.0) ts ≡ position_or_len p (numbers ts)
position_numbers p [] = refl
position_numbers p (t ∷ ts) = let rest = position_numbers p ts in λ i. cond (not (p t.0)) (1 + rest i) 0

get_numbers : (bs : List (List TermId)) (s : ℕ) (xs : List ℕ) → slice_get (numbered_reps bs) s ≡ Some xs → (ts : List TermId) × (slice_get bs s ≡ Some ts) × (numbers ts ≡ xs)
get_numbers [] s xs e = cc
get_numbers (b ∷ bs) zero xs e = (b, refl, cc e)
get_numbers (b ∷ bs) (suc s) xs e = get_numbers bs s xs e

index_read : (xs : List ℕ) (i : ℕ) → slice_index xs i ≡ get_or xs i 0
index_read [] i = refl
index_read (x ∷ xs) zero = refl
index_read (x ∷ xs) (suc i) = index_read xs i

module _ (c : Content) (g : IsGrounded c) (named : names_its_sorts c.sig ≡ true) (class : List ℕ) (types : List Ty) (holds : List Bool) (by_sort : List (List TermId))
    (k : Classifies class c) (t : Types types holds c) (reps : numbered_reps by_sort ≡ representatives c) where
  term_low : (n : ℕ) → Has (reached c).terms n → n < length c.terms
  term_low n h = let p = (reached_is c g).terms n h in slice_get_within c.terms n p.0 p.1

  reps_at : (s : ℕ) → s < c.sig.sorts → slice_get (representatives c) s ≡ Some (reps_of c s)
  reps_at s lt =
      let within : s < length (representatives c) = omega (arith, lt, length-map-range_with_len (reps_of c) 0 c.sig.sorts) in
      slice_get-get_or (representatives c) s [] within ∙ ap Some (get_or-map-range_with_len (reps_of c) 0 c.sig.sorts s s [] lt (omega arith))

  place_is : (n : ℕ) (s : SortId) → Has (reached c).terms n → s.0 < c.sig.sorts → place_in class n (slice_get by_sort s.0) ≡ position_or_len (λ r. c.same (object r) (object n)) (reps_of c s.0)
  place_is n s h lt =
      let p = get_numbers by_sort s.0 (reps_of c s.0) (ap (λ (l : List (List ℕ)). slice_get l s.0) reps ∙ reps_at s.0 lt) in
      ap (place_in class n) p.1 ∙ position_numbers (λ r. class_at class r == class_at class n) p.0 ∙ ap (position_or_len (λ r. class_at class r == class_at class n)) p.2
      ∙ position_alike (λ r. class_at class r == class_at class n) (λ r. c.same (object r) (object n)) (reps_of c s.0) (λ r i.
      let member = in_filter (λ j. is_type (type_of c.sig c.terms j) (Ty.Of (record { 0 = s.0 }))) r (reached c).reps i in
      sym (k.same r n (term_low r ((reached_is c g).among r member.0)) (term_low n h)))

  by_type : (n : ℕ) (o : Option Ty) → Has (reached c).terms n → type_of c.sig c.terms n ≡ o → element_at class holds by_sort n o ≡ element_in c o n
  by_type n None h e = refl
  by_type n (Some Ty.Bool) h e = ap (λ b. cond b 1 0) (sym (t.holds_are n (term_low n h)))
  by_type n (Some (Ty.Of s)) h e = place_is n s h (sort_within c g named n s e)

  pub elements_are : (n : ℕ) → Has (reached c).terms n → slice_index (elements_by class types holds by_sort) n ≡ element_of c n
  elements_are n h =
      let lt : n < length class = omega (arith, term_low n h, k.count) in
      index_read (elements_by class types holds by_sort) n ∙ get_or-map-range_with_len (element_by class types holds by_sort) 0 (length class) n n 0 lt (omega arith)
      ∙ ap (element_at class holds by_sort n) (sym (t.types_are n)) ∙ by_type n (type_of c.sig c.terms n) h refl
