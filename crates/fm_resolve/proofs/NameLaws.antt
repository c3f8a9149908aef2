-- Each numbered literal has a name of its own, whatever atoms come behind.
use Rattle.std.proofs.Common.{◌≡◌, ℕ, zero, suc, ◌+◌, ◌<◌, inl, inr, Bool, true, false, cond, List, [], ◌∷◌, ◌++◌, length, take, get_or, Option, Some, None, refl, sym, ap, subst, ◌∙◌, arith}
use Rattle.std.specs.Prelude.{Result, Ok, Err, OnOk, IfSome, IfNone, nat_lt, slice_get, if◌then◌else◌}
use Rattle.std.specs.List.{AllByRecursion, list_any, position_or_len}
use Rattle.std.specs.Option.{is_some, option_map}
use Rattle.std.proofs.lemmas.Bool.{cases_Bool, false≢true, lt-ltb, ltb-true}
use Rattle.std.proofs.lemmas.List.{map-append, take_more}
use Rattle.std.proofs.lemmas.Option.{slice_get-map, slice_get_within}
use Rattle.fm_base.specs.declared.ids.Lit.{Lit}
use Rattle.fm_bank.specs.Interning.{IsFront, atom_number, find_atom, is_same_atom, with_atom}
use Rattle.fm_bank.specs.declared.atom.Atom.{Atom}
use Rattle.fm_bank.proofs.Atoms.{is_same_atom-refl, same_atom}
use Rattle.fm_bank.proofs.Growing.{front-with_atom}
use Rattle.fm_bank.proofs.Places.{place_cons, place_kept, place_new, place_none}
use Rattle.fm_bank.proofs.Sorts.{get-front}
use Rattle.fm_bank.specs.declared.literal.Literal.{Literal}
use Rattle.fm_cert.specs.Lines.{Clause, opposite as opposite_name}
use Rattle.fm_resolve.specs.Chains.{opposite}
use Rattle.fm_resolve.specs.Marks.{HasMark}
use Rattle.fm_resolve.specs.Names.{AllNumbered, AreNumbered, HasMarks, IsNumbered, all_names, name, names}
use Rattle.fm_resolve.specs.declared.marks.Marks.{Marks}

-- what a test finds in a list
abbrev found_when : {X : Type 0} → (X → Bool) → List X → ℕ → Option ℕ
found_when p xs n = cond (nat_lt n (length xs)) (Some n) None

when_some : (b : Bool) (m n : ℕ) → cond b (Some m) None ≡ Some n → (b ≡ true) × (m ≡ n)
when_some true m n e = (refl, cc e)
when_some false m n e = cc e

found_at : (p : Atom → Bool) (xs : List Atom) (k : ℕ) → k ≡ position_or_len p xs → k < length xs → (a : Atom) × (slice_get xs k ≡ Some a) × (p a ≡ true)
found_at p [] k e lt = absurd (omega (arith, lt))
found_at p (x ∷ xs) k e lt =
    elim (cases_Bool (p x)) [
      | inl t ↦ (x, ap (slice_get (x ∷ xs)) (e ∙ place_cons p x xs true t), t)
      | inr f ↦
          let next : k ≡ suc (position_or_len p xs) = e ∙ (place_cons p x xs false f ∙ omega arith) in
          let rest = found_at p xs (position_or_len p xs) refl (omega (arith, lt, next)) in
          (rest.0, ap (slice_get (x ∷ xs)) next ∙ rest.1, rest.2)
    ]

-- the place of an atom that is there leads to it
pub atom_there : (atoms : List Atom) (a : Atom) (n : ℕ) → find_atom atoms a ≡ Some n → slice_get atoms n ≡ Some a
atom_there atoms a n e =
    let w = when_some (nat_lt (position_or_len (is_same_atom a) atoms) (length atoms)) (position_or_len (is_same_atom a) atoms) n e in
    let f = found_at (is_same_atom a) atoms (position_or_len (is_same_atom a) atoms) refl (ltb-true _ _ w.0) in
    subst (λ (k : ℕ). slice_get atoms k ≡ Some a) w.1 (f.1 ∙ ap Some (sym (same_atom a f.0 f.2)))

pub find_is : (atoms : List Atom) (a : Atom) (n : ℕ) → position_or_len (is_same_atom a) atoms ≡ n → n < length atoms → find_atom atoms a ≡ Some n
find_is atoms a n e lt =
    let within : nat_lt (position_or_len (is_same_atom a) atoms) (length atoms) ≡ true = ap (λ (k : ℕ). nat_lt k (length atoms)) e ∙ lt-ltb n (length atoms) lt in
    ap (λ (b : Bool). cond b (Some (position_or_len (is_same_atom a) atoms)) None) within ∙ ap Some e

any_at : (p : Atom → Bool) (xs : List Atom) → position_or_len p xs < length xs → list_any p xs ≡ true
any_at p [] lt = absurd (omega (arith, lt))
any_at p (x ∷ xs) lt =
    elim (cases_Bool (p x)) [
      | inl t ↦ rw t refl
      | inr f ↦ let next = place_cons p x xs false f in rw f (any_at p xs (omega (arith, lt, next)))
    ]

pub find_kept : (atoms more : List Atom) (a : Atom) (n : ℕ) → IsFront atoms more → find_atom atoms a ≡ Some n → find_atom more a ≡ Some n
find_kept atoms more a n f e =
    let w = when_some (nat_lt (position_or_len (is_same_atom a) atoms) (length atoms)) (position_or_len (is_same_atom a) atoms) n e in
    let there = any_at (is_same_atom a) atoms (ltb-true _ _ w.0) in
    let stands = get-front atoms more n a f (atom_there atoms a n e) in
    find_is more a n (ap (position_or_len (is_same_atom a)) (sym f.1) ∙ (place_kept (is_same_atom a) atoms f.0 there ∙ w.1)) (slice_get_within more n a stands)

any_skip : (p : Atom → Bool) (x : Atom) (xs : List Atom) → p x ≡ false → list_any p (x ∷ xs) ≡ list_any p xs
any_skip p x xs e = rw e refl

put_number : (atoms : List Atom) (a : Atom) (b : Bool) → list_any (is_same_atom a) atoms ≡ b → (position_or_len (is_same_atom a) (if b then atoms else atoms ++ a ∷ []) ≡ atom_number atoms a) × (atom_number atoms a < length (if b then atoms else atoms ++ a ∷ []))
put_number atoms a true e = (refl, place_within (is_same_atom a) atoms e)
  where
    place_within : (p : Atom → Bool) (xs : List Atom) → list_any p xs ≡ true → position_or_len p xs < length xs
    place_within p [] e = absurd (false≢true e)
    place_within p (x ∷ xs) e =
        elim (cases_Bool (p x)) [
          | inl t ↦ let first = place_cons p x xs true t in omega (arith, first)
          | inr f ↦ let next = place_cons p x xs false f in let rest = place_within p xs (sym (any_skip p x xs f) ∙ e) in omega (arith, next, rest)
        ]
put_number atoms a false e =
    let none = place_none (is_same_atom a) atoms e in
    let more = length-last atoms a in
    (place_new (is_same_atom a) atoms a [] e (is_same_atom-refl a) ∙ sym none, omega (arith, none, more))
  where
    length-last : (xs : List Atom) (x : Atom) → length (xs ++ x ∷ []) ≡ length xs + 1
    length-last [] x = refl
    length-last (y ∷ xs) x = let rest = length-last xs x in omega (arith, rest)

-- an atom that is put in is found
pub find_put : (atoms : List Atom) (a : Atom) → find_atom (with_atom atoms a) a ≡ Some (atom_number atoms a)
find_put atoms a = let p = put_number atoms a (list_any (is_same_atom a) atoms) refl in find_is (with_atom atoms a) a (atom_number atoms a) p.0 p.1

-- a literal by the number of an atom that is there
pub numbered_by : (atoms : List Atom) (l : Lit) (a : Atom) → find_atom atoms a ≡ Some l.atom.0 → IsNumbered atoms l
numbered_by atoms l a e = record { atom = a; there = atom_there atoms a l.atom.0 e; first = e }

pub name_by : (atoms : List Atom) (l : Lit) (a : Atom) → find_atom atoms a ≡ Some l.atom.0 → name atoms l ≡ record { positive = l.positive; atom = a }
name_by atoms l a e = λ i. record { positive = l.positive; atom = Rattle.fm_resolve.specs.Names.atom_in (atom_there atoms a l.atom.0 e i) }

pub name_is : (atoms : List Atom) (l : Lit) (n : IsNumbered atoms l) → (name atoms l).atom ≡ n.atom
name_is atoms l n = ap Rattle.fm_resolve.specs.Names.atom_in n.there

pub one_name : (atoms : List Atom) (k l : Lit) → IsNumbered atoms k → IsNumbered atoms l → name atoms k ≡ name atoms l → k ≡ l
one_name atoms k l m n e =
    let same : m.atom ≡ n.atom = sym (name_is atoms k m) ∙ (ap (λ (c : Literal). c.atom) e ∙ name_is atoms l n) in
    let place : k.atom.0 ≡ l.atom.0 = cc (sym m.first ∙ (ap (find_atom atoms) same ∙ n.first)) in
    let sign : k.positive ≡ l.positive = ap (λ (c : Literal). c.positive) e in
    λ i. record { atom = record { 0 = place i }; positive = sign i }

pub turned : (atoms : List Atom) (l : Lit) → name atoms (opposite l) ≡ opposite_name (name atoms l)
turned atoms l = refl

pub numbered_turned : (atoms : List Atom) (l : Lit) → IsNumbered atoms l → IsNumbered atoms (opposite l)
numbered_turned atoms l n = record { atom = n.atom; there = n.there; first = n.first }

-- more atoms
pub numbered_kept : (atoms more : List Atom) (l : Lit) → IsFront atoms more → IsNumbered atoms l → IsNumbered more l
numbered_kept atoms more l f n = record { atom = n.atom; there = get-front atoms more l.atom.0 n.atom f n.there; first = find_kept atoms more n.atom l.atom.0 f n.first }

pub name_kept : (atoms more : List Atom) (l : Lit) → IsFront atoms more → IsNumbered atoms l → name more l ≡ name atoms l
name_kept atoms more l f n = λ i. record { positive = l.positive; atom = (ap Rattle.fm_resolve.specs.Names.atom_in (get-front atoms more l.atom.0 n.atom f n.there) ∙ sym (name_is atoms l n)) i }

pub are_kept : (atoms more : List Atom) (ls : List Lit) → IsFront atoms more → AreNumbered atoms ls → AreNumbered more ls
are_kept atoms more [] f n = tt
are_kept atoms more (l ∷ ls) f n = (numbered_kept atoms more l f n.0, are_kept atoms more ls f n.1)

pub all_kept : (atoms more : List Atom) (cs : List (List Lit)) → IsFront atoms more → AllNumbered atoms cs → AllNumbered more cs
all_kept atoms more [] f n = tt
all_kept atoms more (c ∷ cs) f n = (are_kept atoms more c f n.0, all_kept atoms more cs f n.1)

pub names_kept : (atoms more : List Atom) (ls : List Lit) → IsFront atoms more → AreNumbered atoms ls → names more ls ≡ names atoms ls
names_kept atoms more [] f n = refl
names_kept atoms more (l ∷ ls) f n = λ i. name_kept atoms more l f n.0 i ∷ names_kept atoms more ls f n.1 i

pub all_names_kept : (atoms more : List Atom) (cs : List (List Lit)) → IsFront atoms more → AllNumbered atoms cs → all_names more cs ≡ all_names atoms cs
all_names_kept atoms more [] f n = refl
all_names_kept atoms more (c ∷ cs) f n = λ i. names_kept atoms more c f n.0 i ∷ all_names_kept atoms more cs f n.1 i

-- one more
pub are_more : (atoms : List Atom) (ls : List Lit) (l : Lit) → AreNumbered atoms ls → IsNumbered atoms l → AreNumbered atoms (ls ++ l ∷ [])
are_more atoms [] l n m = (m, tt)
are_more atoms (k ∷ ls) l n m = (n.0, are_more atoms ls l n.1 m)

pub all_more : (atoms : List Atom) (cs : List (List Lit)) (c : List Lit) → AllNumbered atoms cs → AreNumbered atoms c → AllNumbered atoms (cs ++ c ∷ [])
all_more atoms [] c n m = (m, tt)
all_more atoms (d ∷ cs) c n m = (n.0, all_more atoms cs c n.1 m)

pub names_more : (atoms : List Atom) (ls : List Lit) (l : Lit) → names atoms (ls ++ l ∷ []) ≡ names atoms ls ++ name atoms l ∷ []
names_more atoms ls l = map-append (name atoms) ls (l ∷ [])

pub all_names_more : (atoms : List Atom) (cs : List (List Lit)) (c : List Lit) → all_names atoms (cs ++ c ∷ []) ≡ all_names atoms cs ++ names atoms c ∷ []
all_names_more atoms cs c = map-append (names atoms) cs (c ∷ [])

-- a clause by its place
pub clause_named : (atoms : List Atom) (cs : List (List Lit)) (i : ℕ) (c : List Lit) → slice_get cs i ≡ Some c → slice_get (all_names atoms cs) i ≡ Some (names atoms c)
clause_named atoms cs i c e = slice_get-map (names atoms) cs i ∙ ap (option_map (names atoms)) e

pub clause_none : (atoms : List Atom) (cs : List (List Lit)) (i : ℕ) → slice_get cs i ≡ None → slice_get (all_names atoms cs) i ≡ None
clause_none atoms cs i e = slice_get-map (names atoms) cs i ∙ ap (option_map (names atoms)) e

pub clause_numbered : (atoms : List Atom) (cs : List (List Lit)) (i : ℕ) (c : List Lit) → AllNumbered atoms cs → slice_get cs i ≡ Some c → AreNumbered atoms c
clause_numbered atoms [] i c n e = cc
clause_numbered atoms (d ∷ cs) zero c n e = let same : d ≡ c = cc e in subst (AreNumbered atoms) same n.0
clause_numbered atoms (d ∷ cs) (suc i) c n e = clause_numbered atoms cs i c n.1 e

-- marks
pub has_mark : (m : Marks) (atoms : List Atom) (l : Lit) → HasMarks m atoms → IsNumbered atoms l → HasMark m l
has_mark m atoms l h n =
    let lt = slice_get_within atoms l.atom.0 n.atom n.there in
    (omega (arith, h.positive, lt), omega (arith, h.negative, lt))

pub have_marks : (m : Marks) (atoms : List Atom) (ls : List Lit) → HasMarks m atoms → AreNumbered atoms ls → AllByRecursion (HasMark m) ls
have_marks m atoms [] h n = tt
have_marks m atoms (l ∷ ls) h n = (has_mark m atoms l h n.0, have_marks m atoms ls h n.1)

-- no clause of the list is empty, and so no named one
pub empty_named : (atoms : List Atom) (c : List Lit) → names atoms c ≡ [] → c ≡ []
empty_named atoms [] e = refl
empty_named atoms (l ∷ c) e = cc

-- an atom that was put in
pub found_put : (old new : List Atom) (a : Atom) (n : ℕ) → new ≡ with_atom old a → n ≡ atom_number old a → find_atom new a ≡ Some n
found_put old new a n e m = ap (λ (l : List Atom). find_atom l a) e ∙ (find_put old a ∙ ap Some (sym m))

pub put_front : (old new : List Atom) (a : Atom) → new ≡ with_atom old a → IsFront old new
put_front old new a e = subst (IsFront old) (sym e) (front-with_atom old a)

-- the loop that numbers literals
pub named_next : (atoms more : List Atom) (ls pushed : List Lit) (l : Lit) (lits : List Literal) (i : ℕ) (d : Literal) → i < length lits → IsFront atoms more → AreNumbered atoms ls → names atoms ls ≡ take i lits → name more l ≡ get_or lits i d → pushed ≡ ls ++ l ∷ [] → names more pushed ≡ take (i + 1) lits
named_next atoms more ls pushed l lits i d lt f n e here put =
    ap (names more) put ∙ (names_more more ls l ∙ ((λ j. (names_kept atoms more ls f n ∙ e) j ++ here j ∷ []) ∙ sym (take_more lits i d lt)))

pub pushed_numbered : (atoms more : List Atom) (ls pushed : List Lit) (l : Lit) → IsFront atoms more → AreNumbered atoms ls → IsNumbered more l → pushed ≡ ls ++ l ∷ [] → AreNumbered more pushed
pushed_numbered atoms more ls pushed l f n m put = subst (AreNumbered more) (sym put) (are_more more ls l (are_kept atoms more ls f n) m)

-- an empty clause
pub some_empty : (atoms : List Atom) (cs : List (List Lit)) (o : Option ℕ) → IfSome o (λ i. slice_get cs i ≡ Some []) → is_some o ≡ true → (i : ℕ) × (slice_get (all_names atoms cs) i ≡ Some [])
some_empty atoms cs None h e = absurd (false≢true e)
some_empty atoms cs (Some i) h e = (i, clause_named atoms cs i [] h)

pub unnamed : (atoms : List Atom) (cs : List (List Lit)) (i : ℕ) → slice_get (all_names atoms cs) i ≡ Some [] → slice_get cs i ≡ Some []
unnamed atoms [] i e = cc
unnamed atoms (c ∷ cs) zero e = let same : names atoms c ≡ [] = cc e in ap Some (empty_named atoms c same)
unnamed atoms (c ∷ cs) (suc i) e = unnamed atoms cs i e

pub none_named : (atoms : List Atom) (cs : List (List Lit)) (o : Option ℕ) → IfNone o ((i : ℕ) → slice_get cs i ≡ Some [] → ⊥) → is_some o ≡ false → (i : ℕ) → slice_get (all_names atoms cs) i ≡ Some [] → ⊥
none_named atoms cs None h e i at = h i (unnamed atoms cs i at)
none_named atoms cs (Some j) h e i at = absurd (false≢true (sym e))

-- a clause more, after its literals were numbered
pub on_pushed : {T E : Type 0} (r : Result T E) (new old mid : List Clause) (a b : Clause) → mid ≡ old → a ≡ b → OnOk r (new ≡ mid ++ a ∷ []) → OnOk r (new ≡ old ++ b ∷ [])
on_pushed (Ok v) new old mid a b e f h = h ∙ (λ i. e i ++ f i ∷ [])
on_pushed (Err x) new old mid a b e f h = tt
