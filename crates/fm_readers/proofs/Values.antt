-- What a graph answers of an atom is what its tests decide.
use Rattle.std.proofs.Common.{◌≡◌, ℕ, Bool, true, false, if◌then◌else◌, Option, Some, None, refl, sym, ap, ◌∙◌}
use Rattle.std.proofs.lemmas.Bool.{false_from_ne_true, false≢true}
use Rattle.fm_base.specs.declared.ids.TermId.{TermId}
use Rattle.fm_bank.specs.Closure.{no, object, yes}
use Rattle.fm_bank.specs.Tests.{Tests}
use Rattle.fm_bank.specs.declared.atom.Atom.{Atom}
use Rattle.fm_cong.specs.Held.{AreEqual, AreUnequal, IsTruth}
use Rattle.fm_cong.specs.Held.{Held as Graph}
use Rattle.fm_cong.specs.Tests.{AreTestsOf}
use Rattle.fm_readers.specs.Values.{decided}

abbrev by : Bool → Bool → Option Bool
by a b = (if a then Some true else (if b then Some false else None))

module _ (g : Graph) (t : Tests) (tests : AreTestsOf g t) where
  same_no : (x y : ℕ) → (AreEqual g x y → ⊥) → t.same x y ≡ false
  same_no x y none = false_from_ne_true (t.same x y) (λ e. none ((tests.same_is x y).0 e))

  pub equal_decided : (a b : TermId) → AreEqual g (object a.0) (object b.0) → Some true ≡ decided t (Atom.Equal a b)
  equal_decided a b e = sym (ap (λ s. by s (t.apart a.0 b.0)) ((tests.same_is (object a.0) (object b.0)).1 e))

  pub unequal_decided : (a b : TermId) → (AreEqual g (object a.0) (object b.0) → ⊥) → AreUnequal g a.0 b.0 → Some false ≡ decided t (Atom.Equal a b)
  unequal_decided a b none u = (let s = same_no (object a.0) (object b.0) none in let p = (tests.apart_is a.0 b.0).1 u in sym (λ i. by (s i) (p i)))

  pub open_decided : (a b : TermId) → (AreEqual g (object a.0) (object b.0) → ⊥) → (AreUnequal g a.0 b.0 → ⊥) → None ≡ decided t (Atom.Equal a b)
  open_decided a b none u =
      let s = same_no (object a.0) (object b.0) none in
      let p = false_from_ne_true (t.apart a.0 b.0) (λ e. u ((tests.apart_is a.0 b.0).0 e)) in
      sym (λ i. by (s i) (p i))

  by_truth : (n : TermId) (r : Option Bool) (a b : Bool) → t.same (object n.0) yes ≡ a → t.same (object n.0) no ≡ b → IsTruth g n.0 r → r ≡ by a b
  by_truth n r true b p q h = h.yes.1 ((tests.same_is (object n.0) yes).0 p)
  by_truth n r false true p q h = h.no.1 ((tests.same_is (object n.0) no).0 q, λ e. false≢true (sym p ∙ (tests.same_is (object n.0) yes).1 e))
  by_truth n None false false p q h = refl
  by_truth n (Some true) false false p q h = absurd (false≢true (sym p ∙ (tests.same_is (object n.0) yes).1 (h.yes.0 refl)))
  by_truth n (Some false) false false p q h = absurd (false≢true (sym q ∙ (tests.same_is (object n.0) no).1 (h.no.0 refl).0))

  pub truth_decided : (n : TermId) (r : Option Bool) → IsTruth g n.0 r → r ≡ decided t (Atom.Pred n)
  truth_decided n r h = by_truth n r (t.same (object n.0) yes) (t.same (object n.0) no) refl refl h
