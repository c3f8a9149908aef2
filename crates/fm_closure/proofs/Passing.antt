-- A pass over the terms of a list by their signatures.
use Rattle.std.proofs.Common.{◌≡◌, ℕ, zero, suc, ◌+◌, ◌<◌, ◌≤◌, ◌||◌, Bool, true, false, not, cond, List, [], ◌∷◌, ◌++◌, length, map, take, Option, Some, None, inl, inr, refl, sym, subst, ap, ◌∙◌, arith, get_or}
use Rattle.std.specs.Prelude.{◌==◌, IfSome, slice_get}
use Rattle.std.specs.List.{All, Contains}
use Rattle.std.proofs.lemmas.Bool.{and_from, and_parts, cases_Bool, eq-eqb, eqb-true, false≢true}
use Rattle.std.proofs.lemmas.List.{append-nil, take_more}
use Rattle.std.proofs.lemmas.List.Elements.{All-contains, All-contains_itself, All-get_or, All-head, All-map, All-push, All-tail, All-weaker}
use Rattle.std.proofs.lemmas.Option.{slice_get-get_or}
use Rattle.fm_base.specs.declared.ids.SymId.{SymId}
use Rattle.fm_base.specs.declared.ids.TermId.{TermId}
use Rattle.fm_bank.specs.Closure.{IsClosed, are_related, object, shapes_of}
use Rattle.fm_bank.specs.Terms.{AreTerms, Term, application, is_same, numbers}
use Rattle.fm_bank.proofs.Keys.{is_same-refl, same_term}
use Rattle.fm_closure.specs.Classes.{AllAreClosed, AreAllThere, AreClosed, AreJoined, IsUnjoined, KeepsObjects, are_alike, are_alike_in, by_class, class_at, is_one_class, is_there, numbers_of}
use Rattle.fm_closure.specs.Members.{AreUnited, kinds}
use Rattle.fm_closure.specs.Signatures.{AllHaveArguments, FactsAreDone, HasArguments, HasJoined, HasJoinedFact, IsEntered, IsLookedUp, IsPass, IsSignature, IsTabled, TermsAreDone, class_of_term, class_or, find_in, new_entry, signature}
use Rattle.fm_closure.specs.declared.object.Object.{Object}
use Rattle.fm_closure.proofs.Lookup.{class_there}
use Rattle.fm_closure.proofs.Partition.{class_refl, class_same, class_sym, class_trans}
use Rattle.fm_closure.proofs.Soundness.{All-whole, closed_end, fewer_step, united_step}
use Rattle.fm_closure.proofs.Uniting.{united_length}

one_number : (x y : ℕ) (o p : Option ℕ) → is_one_class x y o p ≡ true → class_or o ≡ class_or p
one_number x y None None e = refl
one_number x y None (Some d) e = absurd (false≢true e)
one_number x y (Some c) None e = absurd (false≢true e)
one_number x y (Some c) (Some d) e = eqb-true c d e

module _ (os : List Object) (cs : List ℕ) where
  -- related arguments have the same classes
  same_classes : (xs ys : List ℕ) → are_related (by_class os cs) xs ys ≡ true → map (class_of_term os cs) xs ≡ map (class_of_term os cs) ys
  same_classes [] [] e = refl
  same_classes [] (y ∷ ys) e = absurd (false≢true e)
  same_classes (x ∷ xs) [] e = absurd (false≢true e)
  same_classes (x ∷ xs) (y ∷ ys) e =
      let p = and_parts (by_class os cs (object x) (object y)) (are_related (by_class os cs) xs ys) e in
      let one = one_number (object x) (object y) (class_at os cs (object x)) (class_at os cs (object y)) p.0 in
      let rest = same_classes xs ys p.1 in
      λ i. one i ∷ rest i

  alike_signed : (t u : Term) → are_alike (by_class os cs) (Some t) (Some u) ≡ true → signature os cs t ≡ signature os cs u
  alike_signed t u e =
      let p = and_parts (t.symbol == u.symbol) (are_related (by_class os cs) t.args u.args) e in
      let symbols = eqb-true t.symbol u.symbol p.0 in
      let args = same_classes t.args u.args p.1 in
      λ i. record { symbol = symbols i; args = args i }

  module _ (whole : length cs ≡ length os) where
    class_number : (x : ℕ) (o : Option ℕ) → is_there os x ≡ true → class_at os cs x ≡ o → class_at os cs x ≡ Some (class_or o)
    class_number x None there e = absurd (class_there os cs x whole there e)
    class_number x (Some c) there e = e

    one_class : (x y : ℕ) → is_there os x ≡ true → is_there os y ≡ true → class_or (class_at os cs x) ≡ class_or (class_at os cs y) → by_class os cs x y ≡ true
    one_class x y hx hy e = class_same os cs x y (class_or (class_at os cs x)) (class_or (class_at os cs y)) (class_number x (class_at os cs x) hx refl) (class_number y (class_at os cs y) hy refl) e

    abbrev There : ℕ → Type 0
    There n = is_there os (object n) ≡ true

    -- and the other way, where they are there
    related_by : (xs ys : List ℕ) → All There xs → All There ys → map (class_of_term os cs) xs ≡ map (class_of_term os cs) ys → are_related (by_class os cs) xs ys ≡ true
    related_by [] [] hx hy e = refl
    related_by [] (y ∷ ys) hx hy e = cc e
    related_by (x ∷ xs) [] hx hy e = cc e
    related_by (x ∷ xs) (y ∷ ys) hx hy e =
        let head : class_of_term os cs x ≡ class_of_term os cs y = cc e in
        let tail : map (class_of_term os cs) xs ≡ map (class_of_term os cs) ys = cc e in
        and_from (by_class os cs (object x) (object y)) (are_related (by_class os cs) xs ys) (one_class (object x) (object y) (All-head There x xs hx) (All-head There y ys hy) head) (related_by xs ys (All-tail There x xs hx) (All-tail There y ys hy) tail)

    signed_alike : (t u : Term) → All There t.args → All There u.args → signature os cs t ≡ signature os cs u → are_alike (by_class os cs) (Some t) (Some u) ≡ true
    signed_alike t u ht hu e =
        and_from (t.symbol == u.symbol) (are_related (by_class os cs) t.args u.args) (eq-eqb t.symbol u.symbol (ap (λ (k : Term). k.symbol) e)) (related_by t.args u.args ht hu (ap (λ (k : Term). k.args) e))

-- look-ups in a table that grows
none_some : (u : TermId) → None ≡ Some u → ⊥
none_some u h = cc h

found_more : (es more : List (Term × TermId)) (key : Term) (u : TermId) → find_in es key ≡ Some u → find_in (es ++ more) key ≡ Some u
found_more [] more key u h = absurd (none_some u h)
found_more (e ∷ es) more key u h =
    elim (cases_Bool (is_same key e.0)) [
      | inl t ↦ ap (λ b. cond b (Some e.1) (find_in (es ++ more) key)) t ∙ (ap (λ b. cond b (Some e.1) (find_in es key)) (sym t) ∙ h)
      | inr f ↦ ap (λ b. cond b (Some e.1) (find_in (es ++ more) key)) f ∙ found_more es more key u (ap (λ b. cond b (Some e.1) (find_in es key)) (sym f) ∙ h)
    ]

found_new : (es : List (Term × TermId)) (key : Term) (u : TermId) → find_in es key ≡ None → find_in (es ++ (key, u) ∷ []) key ≡ Some u
found_new [] key u h = ap (λ b. cond b (Some u) None) (is_same-refl key)
found_new (e ∷ es) key u h =
    elim (cases_Bool (is_same key e.0)) [
      | inl t ↦ absurd (none_some e.1 (sym h ∙ ap (λ b. cond b (Some e.1) (find_in es key)) t))
      | inr f ↦ ap (λ b. cond b (Some e.1) (find_in (es ++ (key, u) ∷ []) key)) f ∙ found_new es key u (ap (λ b. cond b (Some e.1) (find_in es key)) (sym f) ∙ h)
    ]

-- what is found was stored under this key
found_at : (P : Term × TermId → Type 0) (es : List (Term × TermId)) (key : Term) (u : TermId) → All P es → find_in es key ≡ Some u → P (key, u)
found_at P es key u all h = walk es all h
  where
    here : (e : Term × TermId) → is_same key e.0 ≡ true → Some e.1 ≡ Some u → P e → P (key, u)
    here e t h p = let k : e.0 ≡ key = sym (same_term key e.0 t) in let v : e.1 ≡ u = cc h in subst P (λ i. (k i, v i)) p

    walk : (es : List (Term × TermId)) → All P es → find_in es key ≡ Some u → P (key, u)
    walk [] all h = absurd (none_some u h)
    walk (e ∷ es) all h =
        elim (cases_Bool (is_same key e.0)) [
          | inl t ↦ here e t (ap (λ b. cond b (Some e.1) (find_in es key)) (sym t) ∙ h) (All-head P e es all)
          | inr f ↦ walk es (All-tail P e es all) (ap (λ b. cond b (Some e.1) (find_in es key)) (sym f) ∙ h)
        ]

module _ (terms : List Term) (over : List TermId) (os : List Object) where
  -- a term looked up: it is among the entries, or was put there
  among_next : (es new : List (Term × TermId)) (a : TermId) (key : Term) (found : Option TermId) → Contains over a → new ≡ es ++ new_entry found key a → All (λ (e : Term × TermId). Contains over e.1) es → All (λ (e : Term × TermId). Contains over e.1) new
  among_next es new a key None here put all = subst (All (λ (e : Term × TermId). Contains over e.1)) (sym put) (All-push (λ (e : Term × TermId). Contains over e.1) es (key, a) all here)
  among_next es new a key (Some u) here put all = subst (All (λ (e : Term × TermId). Contains over e.1)) (sym (put ∙ append-nil es)) all

  module _ (cs : List ℕ) where
    abbrev Signed : Term × TermId → Type 0
    Signed e = IsSignature os cs terms e.1 e.0

    signed_next : (es new : List (Term × TermId)) (a : TermId) (key : Term) (found : Option TermId) → IsSignature os cs terms a key → new ≡ es ++ new_entry found key a → All Signed es → All Signed new
    signed_next es new a key None here put all = subst (All Signed) (sym put) (All-push Signed es (key, a) all here)
    signed_next es new a key (Some u) here put all = subst (All Signed) (sym (put ∙ append-nil es)) all

    entered_more : (es more : List (Term × TermId)) (a : TermId) → IsEntered os cs terms es a → IsEntered os cs terms (es ++ more) a
    entered_more es more a h = record { key = h.key; signed = h.signed; first = h.first; found = found_more es more h.key h.first h.found; same = h.same }

    module _ (whole : length cs ≡ length os) where
      -- the term under the same signature is congruent
      found_alike : (a u : TermId) (s t : Term) (key : Term) → slice_get terms a.0 ≡ Some s → slice_get terms u.0 ≡ Some t → HasArguments os terms a → HasArguments os terms u → IsSignature os cs terms a key → IsSignature os cs terms u key → are_alike_in os cs terms a u ≡ true
      found_alike a u s t key ea eu ha hu sa su =
          let same : signature os cs s ≡ signature os cs t = sym (sa s ea) ∙ su t eu in
          (λ i. are_alike (by_class os cs) (ea i) (eu i)) ∙ signed_alike os cs whole s t (ha s ea) (hu t eu) same

      entered_here : (es new : List (Term × TermId)) (a : TermId) (s : Term) (key : Term) (found : Option TermId) → slice_get terms a.0 ≡ Some s → ((u : TermId) → Contains over u → (t : Term) × (slice_get terms u.0 ≡ Some t) × HasArguments os terms u)
          → HasArguments os terms a → IsSignature os cs terms a key → find_in es key ≡ found → new ≡ es ++ new_entry found key a → All (λ (e : Term × TermId). Contains over e.1) es → All Signed es
          → ((b : TermId) → found ≡ Some b → AreClosed os cs terms a b) → IsEntered os cs terms new a
      entered_here es new a s key None ea known ha signed at put among all closed =
          subst (λ (l : List (Term × TermId)). IsEntered os cs terms l a) (sym put) (record { key = key; signed = signed; first = a; found = found_new es key a at; same = class_refl os cs (object a.0) })
      entered_here es new a s key (Some u) ea known ha signed at put among all closed =
          let here = known u (found_at (λ (e : Term × TermId). Contains over e.1) es key u among at) in
          let other : IsSignature os cs terms u key = found_at Signed es key u all at in
          let alike = found_alike a u s here.0 key ea here.1 ha here.2 signed other in
          subst (λ (l : List (Term × TermId)). IsEntered os cs terms l a) (sym (put ∙ append-nil es)) (record { key = key; signed = signed; first = u; found = at; same = closed u refl alike })

    -- terms under one signature are of one class
    entered_closed : (es : List (Term × TermId)) (a b : TermId) (s t : Term) → slice_get terms a.0 ≡ Some s → slice_get terms b.0 ≡ Some t → IsEntered os cs terms es a → IsEntered os cs terms es b → are_alike_in os cs terms a b ≡ true → by_class os cs (object a.0) (object b.0) ≡ true
    entered_closed es a b s t ea eb ha hb alike =
        let h : are_alike (by_class os cs) (Some s) (Some t) ≡ true = (λ i. are_alike (by_class os cs) (sym ea i) (sym eb i)) ∙ alike in
        let same : signature os cs s ≡ signature os cs t = alike_signed os cs s t h in
        let keys : ha.key ≡ hb.key = ha.signed s ea ∙ same ∙ sym (hb.signed t eb) in
        let firsts : ha.first ≡ hb.first = cc (sym ha.found ∙ ap (find_in es) keys ∙ hb.found) in
        let back : by_class os cs (object hb.first.0) (object b.0) ≡ true = class_sym os cs (object b.0) (object hb.first.0) hb.same in
        class_trans os cs (object a.0) (object ha.first.0) (object b.0) ha.same (subst (λ (u : TermId). by_class os cs (object u.0) (object b.0) ≡ true) (sym firsts) back)

false_true : {P : Type 0} → true ≡ false → P
false_true e = absurd (false≢true (sym e))

-- the classes in the midst of a pass
module _ (terms : List Term) (over : List TermId) (os : List Object) (facts : List (Object × Object)) (start : List ℕ) where
  pass_same : (cs new : List ℕ) (changed : Bool) → new ≡ cs → IsPass os terms over facts start cs changed → IsPass os terms over facts start new changed
  pass_same cs new changed is h = subst (λ (ds : List ℕ). IsPass os terms over facts start ds changed) (sym is) h

  pass_more : (cs new : List ℕ) (changed : Bool) (p : ℕ × ℕ) → IsUnjoined os cs terms over facts p → AreUnited p.0 p.1 cs new → IsPass os terms over facts start cs changed → IsPass os terms over facts start new true
  pass_more cs new changed p gap is h =
      let less : kinds new < kinds cs = fewer_step terms over facts os cs new p gap is in
      let falls = h.falls in
      record {
        whole = united_length p.0 p.1 cs new is ∙ h.whole;
        sound = united_step terms over facts os cs new p h.sound gap is;
        falls = omega (arith, less, falls);
        less = λ e. omega (arith, less, falls);
        same = λ e. false_true e;
      }

  pass_changed : (cs new : List ℕ) (changed b : Bool) → IsPass os terms over facts start cs changed → b ≡ false → new ≡ cs → IsPass os terms over facts start new (changed || b)
  pass_changed cs new true b h e is = pass_same cs new true is h
  pass_changed cs new false b h e is = subst (IsPass os terms over facts start new) (sym e) (pass_same cs new false is h)

  pass_joined : (cs new : List ℕ) (changed b : Bool) (p : ℕ × ℕ) → IsPass os terms over facts start cs changed → b ≡ true → IsUnjoined os cs terms over facts p → AreUnited p.0 p.1 cs new → IsPass os terms over facts start new (changed || b)
  pass_joined cs new true b p h e gap is = pass_more cs new true p gap is h
  pass_joined cs new false b p h e gap is = subst (IsPass os terms over facts start new) (sym e) (pass_more cs new false p gap is h)

  pub pass_next : (cs new : List ℕ) (changed b : Bool) (a : TermId) (found : Option TermId) → IsPass os terms over facts start cs changed → Contains over a → ((u : TermId) → found ≡ Some u → Contains over u) → HasJoined os terms a found cs new b → IsPass os terms over facts start new (changed || b)
  pass_next cs new changed true a found h here there j = pass_joined cs new changed true j.1 h refl (inr (a, here, (j.0, there j.0 j.2, j.3))) j.4
  pass_next cs new changed false a found h here there j = pass_changed cs new changed false h refl j.0

  pub pass_fact : (cs new : List ℕ) (changed b : Bool) (f : Object × Object) → IsPass os terms over facts start cs changed → Contains facts f → HasJoinedFact os f cs new b → IsPass os terms over facts start new (changed || b)
  pass_fact cs new changed true f h here j = pass_joined cs new changed true j.0 h refl (inl (f, here, j.1)) j.2
  pass_fact cs new changed false f h here j = pass_changed cs new changed false h refl j.0

  -- the facts behind which nothing was joined
  pub facts_next : (cs new : List ℕ) (changed b : Bool) (i : ℕ) (d : Object × Object) → i < length facts → IsPass os terms over facts start cs changed → HasJoinedFact os (get_or facts i d) cs new b → FactsAreDone os (take i facts) cs changed → FactsAreDone os (take (i + 1) facts) new (changed || b)
  facts_next cs new true b i d lt h j done = λ e. false_true e
  facts_next cs new false true i d lt h j done = λ e. false_true e
  facts_next cs new false false i d lt h j done = λ e.
      subst (λ (ds : List ℕ). All (AreJoined os ds) (take (i + 1) facts)) (sym j.0)
      (subst (All (AreJoined os cs)) (sym (take_more facts i d lt)) (All-push (AreJoined os cs) (take i facts) (get_or facts i d) (done refl) j.1))

  -- what is known of the terms of the list
  module _ (all : AreTerms terms over) (there : AreAllThere os over) (args : AllHaveArguments os terms over) where
    known : (u : TermId) → Contains over u → (t : Term) × (slice_get terms u.0 ≡ Some t) × HasArguments os terms u
    known u h =
        let lt = All-contains (λ (t : TermId). t.0 < length terms) over u all h in
        let d : Term = record { symbol = 0; args = [] } in
        (get_or terms u.0 d, slice_get-get_or terms u.0 d lt, All-contains (HasArguments os terms) over u args h)

    pub found_over : (es new : List (Term × TermId)) (cs : List ℕ) (a : TermId) (found : Option TermId) → IsLookedUp os cs terms a es new found → All (λ (e : Term × TermId). Contains over e.1) es → (u : TermId) → found ≡ Some u → Contains over u
    found_over es new cs a found look among u e = found_at (λ (e : Term × TermId). Contains over e.1) es look.key u among (sym look.is ∙ e)

    tabled_on : (es new : List (Term × TermId)) (changed : Bool) (i : ℕ) (a : TermId) (found : Option TermId) (cs : List ℕ) → Contains over a → IsLookedUp os cs terms a es new found → IsTabled os terms over start changed es i → IsTabled os terms over start true new (i + 1)
    tabled_on es new changed i a found cs here look h = record { among = among_next terms over os es new a look.key found here look.entries h.among; signed = λ e. false_true e; entered = λ e. false_true e }

    tabled_still : (es new : List (Term × TermId)) (i : ℕ) (d : TermId) (found : Option TermId) (cs : List ℕ) → i < length over → length cs ≡ length os → cs ≡ start → Contains over (get_or over i d) → IsLookedUp os cs terms (get_or over i d) es new found
        → ((b : TermId) → found ≡ Some b → AreClosed os cs terms (get_or over i d) b) → IsTabled os terms over start false es i → IsTabled os terms over start false new (i + 1)
    tabled_still es new i d found cs lt whole same here look closed h =
        let a = get_or over i d in
        let k = known a here in
        let signed_es : All (Signed terms over os cs) es = subst (λ (ds : List ℕ). All (Signed terms over os ds) es) (sym same) (h.signed refl) in
        let one : IsEntered os cs terms new a = entered_here terms over os cs whole es new a k.0 look.key found k.1 known k.2 look.signed (sym look.is) look.entries h.among signed_es closed in
        let more : (x : TermId) → IsEntered os start terms es x → IsEntered os start terms new x = λ x e. subst (λ (l : List (Term × TermId)). IsEntered os start terms l x) (sym look.entries) (entered_more terms over os start es (new_entry found look.key a) x e) in
        record {
          among = among_next terms over os es new a look.key found here look.entries h.among;
          signed = λ e. subst (λ (ds : List ℕ). All (Signed terms over os ds) new) same (signed_next terms over os cs es new a look.key found look.signed look.entries signed_es);
          entered = λ e. subst (All (IsEntered os start terms new)) (sym (take_more over i d lt)) (All-push (IsEntered os start terms new) (take i over) a (All-weaker (IsEntered os start terms es) (IsEntered os start terms new) more (take i over) (h.entered refl)) (subst (λ (ds : List ℕ). IsEntered os ds terms new a) same one));
        }

    pub tabled_next : (es new : List (Term × TermId)) (cs after : List ℕ) (changed b : Bool) (i : ℕ) (d : TermId) (found : Option TermId) → i < length over → IsPass os terms over facts start cs changed → Contains over (get_or over i d)
        → IsLookedUp os cs terms (get_or over i d) es new found → HasJoined os terms (get_or over i d) found cs after b → IsTabled os terms over start changed es i → IsTabled os terms over start (changed || b) new (i + 1)
    tabled_next es new cs after true b i d found lt p here look j h = tabled_on es new true i (get_or over i d) found cs here look h
    tabled_next es new cs after false true i d found lt p here look j h = tabled_on es new false i (get_or over i d) found cs here look h
    tabled_next es new cs after false false i d found lt p here look j h = tabled_still es new i d found cs lt p.whole (p.same refl) here look j.1 h

    pub tabled_end : (es : List (Term × TermId)) (cs : List ℕ) (changed : Bool) (count : ℕ) → length over ≤ count → IsPass os terms over facts start cs changed → IsTabled os terms over start changed es count → TermsAreDone os terms over cs changed
    tabled_end es cs true count le p h = λ e. false_true e
    tabled_end es cs false count le p h = λ e.
        let entered : All (IsEntered os start terms es) over = All-whole (IsEntered os start terms es) over count le (h.entered refl) in
        subst (λ (ds : List ℕ). AllAreClosed os ds terms over) (sym (p.same refl))
        (λ k d lt j c lj alike.
        let a = known (get_or over k d) (All-get_or (Contains over) over k d lt (All-contains_itself over)) in
        let b = known (get_or over j c) (All-get_or (Contains over) over j c lj (All-contains_itself over)) in
        entered_closed terms over os start es (get_or over k d) (get_or over j c) a.0 b.0 a.1 b.1 (All-get_or (IsEntered os start terms es) over k d lt entered) (All-get_or (IsEntered os start terms es) over j c lj entered) alike)

-- arguments that are there stay
pub arguments_kept : (terms : List Term) (old new : List Object) → KeepsObjects old new → (a : TermId) → HasArguments old terms a → HasArguments new terms a
arguments_kept terms old new kept a h t e = All-weaker (λ n. is_there old (object n) ≡ true) (λ n. is_there new (object n) ≡ true) (λ n r. kept (object n) r) t.args (h t e)

pub arguments_put : (os : List Object) (terms : List Term) (a : TermId) (f : SymId) (args : List TermId) → slice_get terms a.0 ≡ Some (application f args) → AreAllThere os args → HasArguments os terms a
arguments_put os terms a f args at all t e =
    let same : application f args ≡ t = cc (sym at ∙ e) in
    subst (λ (u : Term). All (λ n. is_there os (object n) ≡ true) u.args) same (All-map (λ n. is_there os (object n) ≡ true) (λ (u : TermId). u.0) args all)

-- a term of a list is there
pub there_at : (os : List Object) (ts : List TermId) (i : ℕ) (d : TermId) → i < length ts → All (λ n. is_there os (object n) ≡ true) (numbers ts) → is_there os (object (get_or ts i d).0) ≡ true
there_at os [] i d lt h = absurd (omega (arith, lt))
there_at os (t ∷ ts) zero d lt h = All-head (λ n. is_there os (object n) ≡ true) t.0 (numbers ts) h
there_at os (t ∷ ts) (suc i) d lt h = there_at os ts i d (omega (arith, lt)) (All-tail (λ n. is_there os (object n) ≡ true) t.0 (numbers ts) h)

pub if_some : (P : TermId → Type 0) (o : Option TermId) → ((b : TermId) → o ≡ Some b → P b) → IfSome o P
if_some P None h = tt
if_some P (Some b) h = h b refl

-- two passes that join nothing
none_of : (b c : Bool) → (b || c) ≡ false → (b ≡ false) × (c ≡ false)
none_of true c e = false_true e
none_of false c e = (refl, e)

pub pass_end : (terms : List Term) (over : List TermId) (os : List Object) (facts : List (Object × Object)) (cs new : List ℕ) (some more : Bool) → (some || more) ≡ false → IsPass os terms over facts cs new more → FactsAreDone os facts cs some → TermsAreDone os terms over new more
    → IsClosed (shapes_of terms (numbers over)) (map numbers_of facts) (by_class os new)
pass_end terms over os facts cs new some more e p joins closes =
    let none = none_of some more e in
    closed_end terms over facts os new (subst (λ (ds : List ℕ). All (AreJoined os ds) facts) (sym (p.same none.1)) (joins none.0)) (closes none.1)

pub not_true : (b : Bool) → not b ≡ true → b ≡ false
not_true true e = absurd (false≢true e)
not_true false e = refl
