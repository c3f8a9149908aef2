-- What the parts of a search have in common makes a content whose candidate the classes give.
use Rattle.std.proofs.Common.{◌≡◌, ℕ, ◌<◌, ◌≤◌, Bool, true, false, List, [], ◌∷◌, length, map, suc, Some, refl, sym, subst, ap, ◌∙◌, arith, inl, inr, get_or}
use Rattle.std.specs.Prelude.{◌==◌, slice_get}
use Rattle.std.specs.List.{All}
use Rattle.std.proofs.lemmas.Bool.{and_from, and_parts, cases_lt, eq-eqb, eqb-true}
use Rattle.std.proofs.lemmas.Option.{slice_get_past, slice_get_within}
use Rattle.fm_base.specs.Resolution.{Has}
use Rattle.fm_base.specs.declared.signature.Sig.{Sig}
use Rattle.fm_base.specs.declared.signature.Ty.{Ty}
use Rattle.fm_bank.specs.Closure.{Shape, are_congruent, are_related, object, yes}
use Rattle.fm_bank.specs.Interning.{Held as Bank, IsHeld}
use Rattle.fm_bank.specs.Terms.{Term, are_terms, type_in, type_of}
use Rattle.fm_bank.specs.Tests.{Tests}
use Rattle.fm_bank.specs.declared.clause.ClauseSet.{ClauseSet}
use Rattle.fm_cong.specs.Held.{AreEqual, Held as Graph, IsRegistered}
use Rattle.fm_cong.specs.Tests.{AreTestsOf}
use Rattle.fm_rounds.specs.Grounds.{AreTermsOf, ArgumentsIn, IsGrounded}
use Rattle.fm_rounds.specs.InstanceTerms.{clause_terms, start_terms}
use Rattle.fm_rounds.specs.Rounds.{Content, literals_at}
use Rattle.fm_rounds.proofs.Members.{any_in}
use Rattle.fm_rounds.proofs.Subterms.{instance_terms_hold, start_terms_hold}
use Rattle.fm_build.specs.Built.{IsContentOf}
use Rattle.fm_build.specs.Instancing.{contents_of, instance_content}
use Rattle.fm_build.specs.Marks.{AreBelow, class_at}
use Rattle.fm_build.specs.Parts.{AreClasses, AreFirstOrder, AreInstancesOver, AreTruths, AreTypes, ContentsAreGrounded, IsBankFor, IsGraphOver, content_by, term_of}
use Rattle.fm_build.specs.Reached.{AreInstancesBelow, pair_of, pairs_of}
use Rattle.fm_build.specs.declared.instance.Instance.{Instance}
use Rattle.fm_build.proofs.Typing.{all_has, types_follow}

in_map : {X Y : Type 0} (f : X → Y) (xs : List X) (y : Y) → Has (map f xs) y → (x : X) × Has xs x × (f x ≡ y)
in_map f [] y h = absurd h
in_map f (x ∷ xs) y (inl e) = (x, inl refl, e)
in_map f (x ∷ xs) y (inr h) = let p = in_map f xs y h in (p.0, inr p.1, p.2)

same_bool : (b c : Bool) → (b ≡ true → c ≡ true) → (c ≡ true → b ≡ true) → b ≡ c
same_bool true c f g = sym (f refl)
same_bool false true f g = g refl
same_bool false false f g = refl

related_more : (S R : ℕ → ℕ → Bool) → ((x y : ℕ) → S x y ≡ true → R x y ≡ true) → (xs ys : List ℕ) → are_related S xs ys ≡ true → are_related R xs ys ≡ true
related_more S R h [] [] e = refl
related_more S R h [] (y ∷ ys) e = cc e
related_more S R h (x ∷ xs) [] e = cc e
related_more S R h (x ∷ xs) (y ∷ ys) e =
    let p = and_parts (S (object x) (object y)) (are_related S xs ys) e in
    and_from (R (object x) (object y)) (are_related R xs ys) (h (object x) (object y) p.0) (related_more S R h xs ys p.1)

module _ (b : Bank) (g : Graph) (over : IsGraphOver b g) where
  abbrev IsThere : Shape → Type 0
  IsThere s = slice_get b.terms s.number ≡ Some (term_of s)

  -- a term of the bank by its shape
  shape_of : (n : ℕ) (u : Term) → slice_get b.terms n ≡ Some u → (s : Shape) × Has g.shapes s × (s.number ≡ n) × (term_of s ≡ u)
  shape_of n u e =
      let p = any_in (λ (s : Shape). n == s.number) g.shapes (over.registered n (slice_get_within b.terms n u e)) in
      let same = eqb-true n p.0.number p.2 in
      let there : slice_get b.terms p.0.number ≡ Some (term_of p.0) = all_has IsThere g.shapes p.0 over.terms p.1 in
      (p.0, p.1, sym same, cc (sym there ∙ ap (slice_get b.terms) (sym same) ∙ e))

  registered_below : (n : ℕ) → IsRegistered g.shapes n → n < length b.terms
  registered_below n r =
      let p = any_in (λ (s : Shape). n == s.number) g.shapes r in
      let same = eqb-true n p.0.number p.2 in
      slice_get_within b.terms n (term_of p.0) (ap (slice_get b.terms) same ∙ all_has IsThere g.shapes p.0 over.terms p.1)

  module _ (t : Tests) (tests : AreTestsOf g t) where
    to_equal : (x y : ℕ) → t.same x y ≡ true → AreEqual g x y
    to_equal x y h = (tests.same_is x y).0 h

    from_equal : (x y : ℕ) → AreEqual g x y → t.same x y ≡ true
    from_equal x y h = (tests.same_is x y).1 h

    reflexive : (x : ℕ) → t.same x x ≡ true
    reflexive x = from_equal x x (λ R r. r.reflexive x)

    symmetric : (x y : ℕ) → t.same x y ≡ true → t.same y x ≡ true
    symmetric x y h = let f = to_equal x y h in from_equal y x (λ R r. r.symmetric x y (f R r))

    transitive : (x y z : ℕ) → t.same x y ≡ true → t.same y z ≡ true → t.same x z ≡ true
    transitive x y z h k = let f = to_equal x y h in let e = to_equal y z k in from_equal x z (λ R r. r.transitive x y z (f R r) (e R r))

    congruent : (n m : ℕ) (u v : Term) → slice_get b.terms n ≡ Some u → slice_get b.terms m ≡ Some v → u.symbol ≡ v.symbol → are_related t.same u.args v.args ≡ true → t.same (object n) (object m) ≡ true
    congruent n m u v eu ev same related =
        let p = shape_of n u eu in
        let q = shape_of m v ev in
        let symbols : p.0.symbol ≡ q.0.symbol = ap (λ (w : Term). w.symbol) p.3 ∙ same ∙ sym (ap (λ (w : Term). w.symbol) q.3) in
        let args : are_related t.same p.0.args q.0.args ≡ true = subst (λ (xs : List ℕ). are_related t.same p.0.args xs ≡ true) (sym (ap (λ (w : Term). w.args) q.3)) (subst (λ (xs : List ℕ). are_related t.same xs v.args ≡ true) (sym (ap (λ (w : Term). w.args) p.3)) related) in
        let follows : AreEqual g (object p.0.number) (object q.0.number) = λ R r.
        all_has (λ (s : Shape). (are_congruent R p.0 s ≡ true) → R (object p.0.number) (object s.number) ≡ true) g.shapes q.0
        (all_has (λ (a : Shape). All (λ (s : Shape). (are_congruent R a s ≡ true) → R (object a.number) (object s.number) ≡ true) g.shapes) g.shapes p.0 r.congruent p.1) q.1
        (and_from (p.0.symbol == q.0.symbol) (are_related R p.0.args q.0.args) (eq-eqb p.0.symbol q.0.symbol symbols) (related_more t.same R (λ x y h. to_equal x y h R r) p.0.args q.0.args args)) in
        from_equal (object n) (object m) (subst (λ (i : ℕ). AreEqual g (object n) (object i)) q.2 (subst (λ (i : ℕ). AreEqual g (object i) (object q.0.number)) p.2 follows))

    -- terms are the same where their oldest are one
    module _ (class : List ℕ) (classes : AreClasses g (length b.terms) class) where
      least : (n m : ℕ) → n < length b.terms → m < length b.terms → t.same (object n) (object m) ≡ true → class_at class n ≤ class_at class m
      least n m ln lm h =
          let one = classes.each n ln in
          let two = classes.each m lm in
          let f = to_equal (object n) (object m) h in
          one.first (class_at class m) two.registered (λ R r. r.transitive (object n) (object m) (object (class_at class m)) (f R r) (two.equal R r))

      one_class : (n m : ℕ) → n < length b.terms → m < length b.terms → t.same (object n) (object m) ≡ true → (class_at class n == class_at class m) ≡ true
      one_class n m ln lm h =
          let le = least n m ln lm h in
          let ge = least m n lm ln (symmetric (object n) (object m) h) in
          eq-eqb (class_at class n) (class_at class m) (omega (arith, le, ge))

      same_there : (n m : ℕ) → n < length b.terms → m < length b.terms → (class_at class n == class_at class m) ≡ true → t.same (object n) (object m) ≡ true
      same_there n m ln lm e =
          let one = from_equal (object n) (object (class_at class n)) (classes.each n ln).equal in
          let two = from_equal (object m) (object (class_at class m)) (classes.each m lm).equal in
          let same = eqb-true (class_at class n) (class_at class m) e in
          let met : t.same (object n) (object (class_at class m)) ≡ true = subst (λ (k : ℕ). t.same (object n) (object k) ≡ true) same one in
          transitive (object n) (object (class_at class m)) (object m) met (symmetric (object m) (object (class_at class m)) two)

      same_classes : (n m : ℕ) → n < length b.terms → m < length b.terms → t.same (object n) (object m) ≡ (class_at class n == class_at class m)
      same_classes n m ln lm = same_bool (t.same (object n) (object m)) (class_at class n == class_at class m) (one_class n m ln lm) (same_there n m ln lm)

    truths : (holds : List Bool) → AreTruths g (length b.terms) holds → (n : ℕ) → n < length b.terms → t.same (object n) yes ≡ get_or holds n false
    truths holds h n lt =
        let p = h.each n lt in
        same_bool (t.same (object n) yes) (get_or holds n false) (λ e. p.1 (to_equal (object n) yes e)) (λ e. from_equal (object n) yes (p.0 e))

below_each : (ks : List ℕ) (n : ℕ) → ((i : ℕ) → i < length ks → get_or ks i 0 < n) → AreBelow ks n
below_each [] n h = tt
below_each (k ∷ ks) n h = (h 0 (omega arith), below_each ks n (λ i lt. h (suc i) (omega (arith, lt))))

pub terms_below : (terms : List Term) (ns : List ℕ) → AreTermsOf terms ns → AreBelow ns (length terms)
terms_below terms [] h = tt
terms_below terms (n ∷ ns) h = let p = h n (inl refl) in (slice_get_within terms n p.0 p.1, terms_below terms ns (λ m i. h m (inr i)))

pub classes_below : (b : Bank) (g : Graph) → IsGraphOver b g → (class : List ℕ) → AreClasses g (length b.terms) class → AreBelow class (length class)
classes_below b g over class h =
    let many = h.many in
    subst (AreBelow class) (sym many) (below_each class (length b.terms) (λ i lt. registered_below b g over (class_at class i) (h.each i (omega (arith, lt, many))).registered))

each_below : (count : ℕ) (is : List Instance) → ((i : List ℕ × List ℕ) → Has (pairs_of is) i → AreBelow i.0 count × AreBelow i.1 count) → AreInstancesBelow count is
each_below count [] h = tt
each_below count (i ∷ is) h = let p = h (pair_of i) (inl refl) in (record { subst = p.0; terms = p.1 }, each_below count is (λ j k. h j (inr k)))

pub start_below : (set : ClauseSet) (terms : List Term) → AreBelow (start_terms set terms) (length terms)
start_below set terms = terms_below terms (start_terms set terms) (start_terms_hold set terms).there

pub instances_below : (set : ClauseSet) (b : Bank) (added : List (ℕ × List ℕ)) (is : List Instance) → AreInstancesOver b added → pairs_of is ≡ contents_of set b.terms added → AreInstancesBelow (length b.terms) is
instances_below set b added is over same =
    each_below (length b.terms) is (λ i h.
    let p = in_map (instance_content set b.terms) added i (subst (λ (xs : List (List ℕ × List ℕ)). Has xs i) same h) in
    let known = over p.0 p.1 in
    subst (λ (j : List ℕ × List ℕ). AreBelow j.0 (length b.terms) × AreBelow j.1 (length b.terms)) p.2
    (terms_below b.terms p.0.1 known, terms_below b.terms (clause_terms b.terms p.0.1 (literals_at set.clauses p.0.0)) ((instance_terms_hold b.terms p.0.1 (literals_at set.clauses p.0.0)).there known)))

pub types_there : (b : Bank) (types : List Ty) → AreTypes b (length b.terms) types → (n : ℕ) → type_of b.sig b.terms n ≡ slice_get types n
types_there b types h n = elim (cases_lt n (length b.terms)) [
  | inl low ↦ sym (h.each n low)
  | inr high ↦ let many = h.many in ap (type_in b.sig) (slice_get_past b.terms n (omega (arith, high))) ∙ sym (slice_get_past types n (omega (arith, high, many)))
]

module _ (set : ClauseSet) (b : Bank) (g : Graph) (added : List (ℕ × List ℕ)) where
  module _ (logic : AreFirstOrder set) (held : IsHeld b.sig b.terms b.atoms) (bank : IsBankFor set b) (over : IsGraphOver b g) (instances : AreInstancesOver b added) (t : Tests) (tests : AreTestsOf g t) where
    abbrev content : Content
    content = content_by set b added t

    added_fine : (i : List ℕ × List ℕ) → Has content.added i → AreTermsOf b.terms i.1 × ArgumentsIn b.terms i.1 i.0
    added_fine i h =
        let p = in_map (instance_content set b.terms) added i h in
        let law = instance_terms_hold b.terms p.0.1 (literals_at set.clauses p.0.0) in
        subst (λ (j : List ℕ × List ℕ). AreTermsOf b.terms j.1 × ArgumentsIn b.terms j.1 j.0) p.2 (law.there (instances p.0 p.1), law.closed)

    pub is_grounded : IsGrounded content
    is_grounded = record {
      terms = ap (λ (s : Sig). are_terms s b.terms) (sym bank.sig) ∙ held.terms_good;
      declared = logic.declared;
      reflexive = reflexive b g over t tests;
      symmetric = symmetric b g over t tests;
      transitive = transitive b g over t tests;
      congruent = λ n m u v hn hm eu ev. congruent b g over t tests n m u v eu ev;
      typed = λ n m h. ap (λ (s : Sig). type_of s b.terms n) (sym bank.sig) ∙ types_follow b.sig b.terms b.atoms held.atoms_good g.facts g.shapes over.terms over.atoms n m (to_equal b g over t tests (object n) (object m) h) ∙ ap (λ (s : Sig). type_of s b.terms m) bank.sig;
      start_terms = (start_terms_hold set b.terms).there;
      start_closed = (start_terms_hold set b.terms).closed;
      added_terms = λ i h. (added_fine i h).0;
      added_closed = λ i h. (added_fine i h).1;
      inhabited = bank.inhabited;
    }

    pub is_content : (class : List ℕ) (types : List Ty) (holds : List Bool) (start : List ℕ) (is : List (List ℕ × List ℕ)) → AreClasses g (length b.terms) class → AreTypes b (length b.terms) types → AreTruths g (length b.terms) holds
        → start ≡ start_terms set b.terms → is ≡ contents_of set b.terms added → IsContentOf b class types holds start is content
    is_content class types holds start is classes typed truth begun more = record {
      grounded = is_grounded;
      named = logic.named;
      sig = sym bank.sig;
      terms = refl;
      classes = record { count = classes.many; same = same_classes b g over t tests class classes };
      typed = record { types_are = λ n. ap (λ (s : Sig). type_of s b.terms n) (sym bank.sig) ∙ types_there b types typed n; holds_are = truths b g over t tests holds truth };
      begun = sym begun;
      more = sym more;
    }

pub contents_grounded : ContentsAreGrounded
contents_grounded set b g added t held logic bank over instances tests = is_grounded set b g added logic held bank over instances t tests
