-- Atoms and their numbers, as atoms become known.
use Rattle.std.proofs.Common.{◌≡◌, ℕ, zero, suc, ◌<◌, ◌≤◌, Bool, true, false, cond, nat_lt, List, [], ◌∷◌, ◌++◌, length, slice_get, Some, None, inl, inr, refl, sym, ap, subst, ◌∙◌, arith}
use Rattle.std.specs.Prelude.{Option}
use Rattle.std.specs.List.{list_all, list_any, position_or_len}
use Rattle.std.proofs.lemmas.Bool.{and_from, and_parts, cases_Bool, cond-true, false≢true, le-ltb, lt-ltb, ltb-true, or_cases}
use Rattle.std.proofs.lemmas.List.{length-append, length_push}
use Rattle.fm_base.specs.Resolution.{Has}
use Rattle.fm_bank.specs.Interning.{atom_number, find_atom, is_same_atom, with_atom, with_atoms}
use Rattle.fm_bank.specs.declared.atom.Atom.{Atom}
use Rattle.fm_bank.specs.declared.literal.Literal.{Literal}
use Rattle.fm_bank.proofs.Atoms.{is_same_atom-refl, same_atom}
use Rattle.fm_bank.proofs.Growing.{atoms_fronts}
use Rattle.fm_bank.proofs.Places.{place_cons, place_kept, place_none}
use Rattle.fm_steps.specs.Content.{is_size}
use Rattle.fm_steps.specs.Facts.{is_size_in, size_at}
use Rattle.fm_steps.specs.Lemmas.{is_some_number}
use Rattle.fm_steps.proofs.Lists.{any_last, any_more}

pub known_any : (atoms : List Atom) (a : Atom) → is_some_number (find_atom atoms a) ≡ true → list_any (is_same_atom a) atoms ≡ true
known_any atoms a h =
    elim (cases_Bool (list_any (is_same_atom a) atoms)) [
      | inl t ↦ t
      | inr f ↦ (let e = place_none (is_same_atom a) atoms f in
          let past : nat_lt (atom_number atoms a) (length atoms) ≡ false = le-ltb (atom_number atoms a) (length atoms) (omega (arith, e)) in
          let none : is_some_number (find_atom atoms a) ≡ false = ap (λ (b : Bool). is_some_number (cond b (Some (atom_number atoms a)) None)) past in
          absurd (false≢true (sym none ∙ h)))
    ]

pub with_known : (atoms : List Atom) (a : Atom) → list_any (is_same_atom a) atoms ≡ true → with_atom atoms a ≡ atoms
with_known atoms a h = ap (λ (b : Bool). cond b atoms (atoms ++ a ∷ [])) h

pub with_all_known : (atoms : List Atom) (ls : List Literal) → list_all (λ (l : Literal). is_some_number (find_atom atoms l.atom)) ls ≡ true → with_atoms atoms ls ≡ atoms
with_all_known atoms [] h = refl
with_all_known atoms (l ∷ ls) h =
    let parts = and_parts (is_some_number (find_atom atoms l.atom)) (list_all (λ (k : Literal). is_some_number (find_atom atoms k.atom)) ls) h in
    ap (λ (as' : List Atom). with_atoms as' ls) (with_known atoms l.atom (known_any atoms l.atom parts.0)) ∙ with_all_known atoms ls parts.1

-- one of the literals whose atoms are known
pub known_one : (atoms : List Atom) (ls : List Literal) (l : Literal) → Has ls l → list_all (λ (k : Literal). is_some_number (find_atom atoms k.atom)) ls ≡ true → is_some_number (find_atom atoms l.atom) ≡ true
known_one atoms [] l q h = absurd q
known_one atoms (k ∷ ks) l (inl e) h = ap (λ (x : Literal). is_some_number (find_atom atoms x.atom)) (sym e) ∙ (and_parts _ (list_all (λ (j : Literal). is_some_number (find_atom atoms j.atom)) ks) h).0
known_one atoms (k ∷ ks) l (inr q) h = known_one atoms ks l q (and_parts (is_some_number (find_atom atoms k.atom)) (list_all (λ (j : Literal). is_some_number (find_atom atoms j.atom)) ks) h).1

pub grown_by : (b : Bool) (atoms : List Atom) (a : Atom) → length atoms ≤ length (cond b atoms (atoms ++ a ∷ []))
grown_by true atoms a = omega arith
grown_by false atoms a = let n = length_push atoms a in omega (arith, n)

pub grows : (ls : List Literal) (atoms : List Atom) → length atoms ≤ length (with_atoms atoms ls)
grows [] atoms = omega arith
grows (l ∷ ls) atoms =
    let a = grown_by (list_any (is_same_atom l.atom) atoms) atoms l.atom in
    let b = grows ls (with_atom atoms l.atom) in
    omega (arith, a, b)

any_with : (p : Atom → Bool) (b : Bool) (atoms : List Atom) (a : Atom) → list_any p atoms ≡ true → list_any p (cond b atoms (atoms ++ a ∷ [])) ≡ true
any_with p true atoms a h = h
any_with p false atoms a h = any_more p atoms (a ∷ []) h

any_all : (p : Atom → Bool) (ls : List Literal) (atoms : List Atom) → list_any p atoms ≡ true → list_any p (with_atoms atoms ls) ≡ true
any_all p [] atoms h = h
any_all p (l ∷ ls) atoms h = any_all p ls (with_atom atoms l.atom) (any_with p (list_any (is_same_atom l.atom) atoms) atoms l.atom h)

there_now : (b : Bool) (atoms : List Atom) (a : Atom) → list_any (is_same_atom a) atoms ≡ b → list_any (is_same_atom a) (cond b atoms (atoms ++ a ∷ [])) ≡ true
there_now true atoms a h = h
there_now false atoms a h = any_last (is_same_atom a) atoms a (is_same_atom-refl a)

-- what becomes known is known
pub all_there : (ls : List Literal) (atoms : List Atom) (k : Literal) → Has ls k → list_any (is_same_atom k.atom) (with_atoms atoms ls) ≡ true
all_there [] atoms k h = absurd h
all_there (l ∷ ls) atoms k (inl e) = any_all (is_same_atom k.atom) ls (with_atom atoms l.atom) (subst (λ (a : Atom). list_any (is_same_atom a) (with_atom atoms l.atom) ≡ true) (ap (λ (x : Literal). x.atom) e) (there_now (list_any (is_same_atom l.atom) atoms) atoms l.atom refl))
all_there (l ∷ ls) atoms k (inr h) = all_there ls (with_atom atoms l.atom) k h

later : (p : Atom → Bool) (x : Atom) (xs : List Atom) → p x ≡ false → list_any p (x ∷ xs) ≡ true → list_any p xs ≡ true
later p x xs f h = elim (or_cases (p x) (list_any p xs) h) [ inl a ↦ absurd (false≢true (sym f ∙ a)) | inr c ↦ c ]

pub place_within : (p : Atom → Bool) (xs : List Atom) → list_any p xs ≡ true → position_or_len p xs < length xs
place_within p [] h = absurd (false≢true h)
place_within p (x ∷ xs) h =
    elim (cases_Bool (p x)) [
      | inl t ↦ (let e = place_cons p x xs true t in omega (arith, e))
      | inr f ↦ (let e = place_cons p x xs false f in
          let rest = place_within p xs (later p x xs f h) in
          omega (arith, e, rest))
    ]

pub number_within : (ls : List Literal) (atoms : List Atom) (k : Literal) → Has ls k → atom_number (with_atoms atoms ls) k.atom < length (with_atoms atoms ls)
number_within ls atoms k h = place_within (is_same_atom k.atom) (with_atoms atoms ls) (all_there ls atoms k h)

number_step : (b : Bool) (n m : ℕ) → nat_lt n m ≡ b → is_some_number (cond b (Some n) None) ≡ true → n < m
number_step true n m e h = ltb-true n m e
number_step false n m e h = absurd (cc h)

pub known_number : (atoms : List Atom) (a : Atom) → is_some_number (find_atom atoms a) ≡ true → atom_number atoms a < length atoms
known_number atoms a h = number_step (nat_lt (atom_number atoms a) (length atoms)) (atom_number atoms a) (length atoms) refl h

-- an atom that is there is found
pub any_known : (atoms : List Atom) (a : Atom) → list_any (is_same_atom a) atoms ≡ true → is_some_number (find_atom atoms a) ≡ true
any_known atoms a h = ap (λ (b : Bool). is_some_number (cond b (Some (atom_number atoms a)) None)) (lt-ltb (atom_number atoms a) (length atoms) (place_within (is_same_atom a) atoms h))

-- once the atoms of some literals are known, they are
known_among : (all atoms : List Atom) (ls : List Literal) → ((k : Literal) → Has ls k → is_some_number (find_atom all k.atom) ≡ true) → list_all (λ (l : Literal). is_some_number (find_atom all l.atom)) ls ≡ true
known_among all atoms [] h = refl
known_among all atoms (l ∷ ls) h = and_from (is_some_number (find_atom all l.atom)) (list_all (λ (k : Literal). is_some_number (find_atom all k.atom)) ls) (h l (inl refl)) (known_among all atoms ls (λ k q. h k (inr q)))

pub all_known : (ls : List Literal) (atoms : List Atom) → list_all (λ (l : Literal). is_some_number (find_atom (with_atoms atoms ls) l.atom)) ls ≡ true
all_known ls atoms = known_among (with_atoms atoms ls) atoms ls (λ k q. any_known (with_atoms atoms ls) k.atom (all_there ls atoms k q))

some_number : (o : Option ℕ) → is_some_number o ≡ true → (n : ℕ) × (o ≡ Some n)
some_number None h = absurd (false≢true h)
some_number (Some n) h = (n, refl)

pub find_some : (atoms : List Atom) (a : Atom) → is_some_number (find_atom atoms a) ≡ true → (n : ℕ) × (find_atom atoms a ≡ Some n)
find_some atoms a h = some_number (find_atom atoms a) h

found_step : (b : Bool) (m n : ℕ) → cond b (Some m) None ≡ Some n → (b ≡ true) × (m ≡ n)
found_step true m n h = (refl, cc h)
found_step false m n h = absurd (cc h)

pub find_kept : (atoms ys : List Atom) (a : Atom) (n : ℕ) → find_atom atoms a ≡ Some n → find_atom (atoms ++ ys) a ≡ Some n
find_kept atoms ys a n h =
    let f = found_step (nat_lt (atom_number atoms a) (length atoms)) (atom_number atoms a) n h in
    let there = known_any atoms a (ap is_some_number h) in
    let same = place_kept (is_same_atom a) atoms ys there in
    let below = ltb-true (atom_number atoms a) (length atoms) f.0 in
    let len = length-append atoms ys in
    let within : nat_lt (atom_number (atoms ++ ys) a) (length (atoms ++ ys)) ≡ true = lt-ltb (atom_number (atoms ++ ys) a) (length (atoms ++ ys)) (omega (arith, same, below, len)) in
    cond-true (nat_lt (atom_number (atoms ++ ys) a) (length (atoms ++ ys))) (Some (atom_number (atoms ++ ys) a)) None within ∙ ap (λ (k : ℕ). Some k) (same ∙ f.1)

find_by : (b : Bool) (atoms : List Atom) (x a : Atom) (n : ℕ) → find_atom atoms a ≡ Some n → find_atom (cond b atoms (atoms ++ x ∷ [])) a ≡ Some n
find_by true atoms x a n h = h
find_by false atoms x a n h = find_kept atoms (x ∷ []) a n h

-- a number stays
pub find_all : (ls : List Literal) (atoms : List Atom) (a : Atom) (n : ℕ) → find_atom atoms a ≡ Some n → find_atom (with_atoms atoms ls) a ≡ Some n
find_all [] atoms a n h = h
find_all (l ∷ ls) atoms a n h = find_all ls (with_atom atoms l.atom) a n (find_by (list_any (is_same_atom l.atom) atoms) atoms l.atom a n h)

-- whether an atom is a size atom, by its number
pub get_place : (atoms : List Atom) (a : Atom) → list_any (is_same_atom a) atoms ≡ true → slice_get atoms (position_or_len (is_same_atom a) atoms) ≡ Some a
get_place [] a h = absurd (false≢true h)
get_place (x ∷ xs) a h =
    elim (cases_Bool (is_same_atom a x)) [
      | inl t ↦ (let e : position_or_len (is_same_atom a) (x ∷ xs) ≡ 0 = place_cons (is_same_atom a) x xs true t in
          ap (slice_get (x ∷ xs)) e ∙ ap (λ (y : Atom). Some y) (sym (same_atom a x t)))
      | inr f ↦ (let m = place_cons (is_same_atom a) x xs false f in
          let e : position_or_len (is_same_atom a) (x ∷ xs) ≡ suc (position_or_len (is_same_atom a) xs) = omega (arith, m) in
          ap (slice_get (x ∷ xs)) e ∙ get_place xs a (later (is_same_atom a) x xs f h))
    ]

pub number_size : (ls : List Literal) (atoms : List Atom) (k : Literal) → Has ls k → size_at (with_atoms atoms ls) (atom_number (with_atoms atoms ls) k.atom) ≡ is_size k.atom
number_size ls atoms k h = ap is_size_in (get_place (with_atoms atoms ls) k.atom (all_there ls atoms k h))

pub get_within : (xs ys : List Atom) (n : ℕ) → n < length xs → slice_get (xs ++ ys) n ≡ slice_get xs n
get_within [] ys n lt = absurd (omega arith)
get_within (x ∷ xs) ys zero lt = refl
get_within (x ∷ xs) ys (suc n) lt = get_within xs ys n (omega arith)

pub size_same : (ls : List Literal) (atoms : List Atom) (n : ℕ) → n < length atoms → size_at (with_atoms atoms ls) n ≡ size_at atoms n
size_same ls atoms n lt = let f = atoms_fronts ls atoms in ap (λ (as' : List Atom). size_at as' n) (sym f.1) ∙ ap is_size_in (get_within atoms f.0 n lt)
