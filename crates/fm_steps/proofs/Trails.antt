-- Trails: one entry more, and going back.
use Rattle.std.proofs.Common.{◌≡◌, ◌≢◌, ℕ, ◌<◌, ◌≤◌, Bool, true, false, not, cond, nat_lt, List, [], ◌∷◌, ◌++◌, length, slice_get, Some, None, inl, inr, refl, sym, ap, subst, ◌∙◌, arith}
use Rattle.std.specs.Prelude.{Option, option_and_then}
use Rattle.std.specs.List.{list_any}
use Rattle.std.proofs.lemmas.Bool.{cases_Bool, cases_lt, false≢true, ltb-false}
use Rattle.fm_base.specs.declared.ids.AtomId.{AtomId}
use Rattle.fm_base.specs.declared.ids.Lit.{Lit}
use Rattle.fm_bank.specs.Interning.{atom_number, find_atom, is_same_atom, with_atom}
use Rattle.fm_bank.specs.declared.atom.Atom.{Atom}
use Rattle.fm_bank.proofs.Atoms.{is_same_atom-refl}
use Rattle.fm_bank.proofs.Places.{place_new}
use Rattle.fm_sat.specs.Laws.{GoesOn}
use Rattle.fm_sat.specs.Learning.{IsExplained, IsReason}
use Rattle.fm_sat.proofs.Explaining.{explains_add, explains_back, explains_decide, explains_imply}
use Rattle.fm_trail.specs.declared.entry.Entry.{Entry}
use Rattle.fm_trail.specs.Trail.{AreLevelled, AreOver, HasOneEntry, decision, implied, is_false, is_none, is_value, place_of, up_to, value_of}
use Rattle.fm_trail.proofs.Going.{front_of, once_front}
use Rattle.fm_trail.proofs.Levels.{levelled_front, levelled_push}
use Rattle.fm_trail.proofs.Literals.{false_at}
use Rattle.fm_trail.proofs.Places.{get_front, get_push, place_none, place_some, value_at, value_by_place, value_none}
use Rattle.fm_steps.specs.State.{Clause, value_by}
use Rattle.fm_steps.proofs.Numbers.{with_known}

absent : (es : List Entry) (e : Entry) → value_of es e.lit.atom ≡ None → (i : ℕ) (f : Entry) → slice_get es i ≡ Some f → f.lit.atom.0 ≢ e.lit.atom.0
absent es e none i f at = place_none es e.lit.atom (value_none es e.lit.atom none) i f at

once_push : (es : List Entry) (e : Entry) → HasOneEntry es → value_of es e.lit.atom ≡ None → HasOneEntry (es ++ e ∷ [])
once_push es e once none i j f g at at' same =
    elim (get_push es e i f at) [
      | inl old ↦ elim (get_push es e j g at') [
        | inl old' ↦ once i j f g old old' same
        | inr new' ↦ absurd (absent es e none i f old (same ∙ ap (λ (x : Entry). x.lit.atom.0) (sym new'.1)))
      ]
      | inr new ↦ elim (get_push es e j g at') [
        | inl old' ↦ absurd (absent es e none j g old' (sym same ∙ ap (λ (x : Entry). x.lit.atom.0) (sym new.1)))
        | inr new' ↦ new.0 ∙ sym new'.0
      ]
    ]

pub explained_implied : (cs : List Clause) (es : List Entry) (l : Lit) (n : ℕ) → IsExplained cs es → IsReason cs es l n → value_of es l.atom ≡ None → IsExplained cs (es ++ implied es l n ∷ [])
explained_implied cs es l n h r none = record {
  levels = levelled_push 0 es (implied es l n) h.levels (omega arith);
  once = once_push es (implied es l n) h.once none;
  explained = explains_imply cs es n l h.explained r;
}

pub explained_decided : (cs : List Clause) (es : List Entry) (l : Lit) → IsExplained cs es → value_of es l.atom ≡ None → IsExplained cs (es ++ decision es l ∷ [])
explained_decided cs es l h none = record {
  levels = levelled_push 0 es (decision es l) h.levels (omega arith);
  once = once_push es (decision es l) h.once none;
  explained = explains_decide cs es l h.explained;
}

pub explained_back : (cs : List Clause) (es : List Entry) (level : ℕ) → IsExplained cs es → IsExplained cs (up_to level es)
explained_back cs es level h =
    let f = front_of 0 es level h.levels in
    record {
      levels = subst (AreLevelled 0) (sym f.is) (levelled_front 0 es f.end h.levels);
      once = subst HasOneEntry (sym f.is) (once_front es f.end h.once);
      explained = explains_back cs es level h.levels h.explained;
    }

pub explained_added : (cs : List Clause) (c : Clause) (es : List Entry) → IsExplained cs es → IsExplained (cs ++ c ∷ []) es
explained_added cs c es h = record { levels = h.levels; once = h.once; explained = explains_add cs c es h.explained }

-- after learning
pub explained_on : (cs more : List Clause) (es : List Entry) (n : ℕ) (l : Lit) (level : ℕ) → IsExplained cs es → GoesOn more es n l level → IsExplained more (up_to level es ++ implied (up_to level es) l n ∷ [])
explained_on cs more es n l level h g =
    let b = explained_back cs es level h in
    record {
      levels = levelled_push 0 (up_to level es) (implied (up_to level es) l n) b.levels (omega arith);
      once = once_push (up_to level es) (implied (up_to level es) l n) b.once g.free;
      explained = g.explained;
    }

-- an entry of the levels up to one is an entry, of such a level
pub back_entry : (es : List Entry) (level i : ℕ) (e : Entry) → AreLevelled 0 es → slice_get (up_to level es) i ≡ Some e → (slice_get es i ≡ Some e) × (e.level ≤ level)
back_entry es level i e levels at =
    let f = front_of 0 es level levels in
    let g = get_front es f.end i e (subst (λ (xs : List Entry). slice_get xs i ≡ Some e) f.is at) in (
      g.1,
      elim (cases_lt level e.level) [
        | inl high ↦ (let far = f.outside i e g.1 high in let near = g.0 in absurd (omega (arith, far, near)))
        | inr low ↦ low
      ],
    )

-- what is above a level isn't among its entries, and what has no value has no entry
none_in : (es : List Entry) (a : AtomId) (r : Option ℕ) → place_of es a ≡ r → ((q : ℕ) (e : Entry) → slice_get es q ≡ Some e → e.lit.atom.0 ≡ a.0 → ⊥) → value_at es r ≡ None
none_in es a None is far = refl
none_in es a (Some q) is far = let s = place_some es a q is in absurd (far q s.entry s.there s.same)

pub no_value : (es : List Entry) (a : AtomId) → ((q : ℕ) (e : Entry) → slice_get es q ≡ Some e → e.lit.atom.0 ≡ a.0 → ⊥) → value_of es a ≡ None
no_value es a far = value_by_place es a ∙ none_in es a (place_of es a) refl far

pub none_past : (n : ℕ) (es : List Entry) (a : AtomId) → AreOver n es → n ≤ a.0 → value_of es a ≡ None
none_past n es a over le = no_value es a (λ q e at same. let lt = over q e at in absurd (omega (arith, lt, same, le)))

pub none_from : (v : Option Bool) → is_none v ≡ true → v ≡ None
none_from None h = refl
none_from (Some b) h = absurd (false≢true h)

value_step : (f : ℕ → Option Bool) (b v : Bool) (n : ℕ) → is_value (option_and_then f (cond b (Some n) None)) v ≡ true → is_value (f n) v ≡ true
value_step f true v n h = h
value_step f false v n h = absurd (cc h)

-- a value by the atom is one by its number
pub value_by_number : (es : List Entry) (atoms : List Atom) (a : Atom) (v : Bool) → is_value (option_and_then (value_by es) (find_atom atoms a)) v ≡ true → is_value (value_by es (atom_number atoms a)) v ≡ true
value_by_number es atoms a v h = value_step (value_by es) (nat_lt (atom_number atoms a) (length atoms)) v (atom_number atoms a) h

old_step : (es : List Entry) (b : Bool) (n m : ℕ) → nat_lt n m ≡ b → AreOver m es → is_none (option_and_then (value_by es) (cond b (Some n) None)) ≡ true → value_by es n ≡ None
old_step es true n m e over h = none_from (value_by es n) h
old_step es false n m e over h = none_past m es (record { 0 = n }) over (ltb-false n m e)

-- an atom without value has none by its number
pub none_by_number : (es : List Entry) (atoms : List Atom) (a : Atom) → AreOver (length atoms) es → is_none (option_and_then (value_by es) (find_atom atoms a)) ≡ true → value_by es (atom_number atoms a) ≡ None
none_by_number es atoms a over h = old_step es (nat_lt (atom_number atoms a) (length atoms)) (atom_number atoms a) (length atoms) refl over h

-- nor by the number that it gets when it becomes known
pub none_by_new_number : (es : List Entry) (atoms : List Atom) (a : Atom) → AreOver (length atoms) es → is_none (option_and_then (value_by es) (find_atom atoms a)) ≡ true → value_by es (atom_number (with_atom atoms a) a) ≡ None
none_by_new_number es atoms a over h =
    elim (cases_Bool (list_any (is_same_atom a) atoms)) [
      | inl t ↦ (let same : atom_number (with_atom atoms a) a ≡ atom_number atoms a = ap (λ (as' : List Atom). atom_number as' a) (with_known atoms a t) in
          subst (λ n. value_by es n ≡ None) (sym same) (none_by_number es atoms a over h))
      | inr f ↦ (let grown : with_atom atoms a ≡ atoms ++ a ∷ [] = ap (λ (b : Bool). cond b atoms (atoms ++ a ∷ [])) f in
          let same : atom_number (with_atom atoms a) a ≡ length atoms = ap (λ (as' : List Atom). atom_number as' a) grown ∙ place_new (is_same_atom a) atoms a [] f (is_same_atom-refl a) in
          subst (λ n. value_by es n ≡ None) (sym same) (none_past (length atoms) es (record { 0 = length atoms }) over (omega arith)))
    ]

-- the entry by which a literal is false
pub record IsDenied (es : List Entry) (l : Lit) : Type 0 where
  pub place : ℕ
  pub entry : Entry
  pub at : slice_get es place ≡ Some entry
  pub atom : entry.lit.atom.0 ≡ l.atom.0
  pub sign : entry.lit.positive ≡ not l.positive

not-not : (b : Bool) → not (not b) ≡ b
not-not true = refl
not-not false = refl

pub denied : (es : List Entry) (l : Lit) → is_false es l ≡ true → IsDenied es l
denied es l h =
    let f = false_at es l h in
    record {
      place = f.0;
      entry = f.1.entry;
      at = f.1.at;
      atom = ap (λ (k : Lit). k.atom.0) f.1.is;
      sign = sym (not-not f.1.entry.lit.positive) ∙ ap (λ (k : Lit). not k.positive) f.1.is;
    }

-- the atoms of the trail, with one entry more and after going back
pub over_push : (n : ℕ) (es : List Entry) (e : Entry) → AreOver n es → e.lit.atom.0 < n → AreOver n (es ++ e ∷ [])
over_push n es e h lt i f at =
    elim (get_push es e i f at) [
      | inl old ↦ h i f old
      | inr new ↦ subst (λ (x : Entry). x.lit.atom.0 < n) new.1 lt
    ]

pub over_more : (n m : ℕ) (es : List Entry) → n ≤ m → AreOver n es → AreOver m es
over_more n m es le h i e at = let lt = h i e at in omega (arith, lt, le)

pub over_back : (n : ℕ) (es : List Entry) (level : ℕ) → AreLevelled 0 es → AreOver n es → AreOver n (up_to level es)
over_back n es level levels h i e at = h i e (back_entry es level i e levels at).0

pub over_false : (n : ℕ) (es : List Entry) (l : Lit) → AreOver n es → is_false es l ≡ true → l.atom.0 < n
over_false n es l h f = let d = denied es l f in let lt = h d.place d.entry d.at in let same = d.atom in omega (arith, lt, same)
