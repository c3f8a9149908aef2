-- The one literal without value, by a scan.
use Rattle.std.proofs.Common.{◌≡◌, ◌≢◌, ◌⊎◌, ℕ, ◌+◌, ◌<◌, drop, get_or, length, Bool, true, false, not, cond, ◌&&◌, List, [], ◌∷◌, Some, None, inl, inr, refl, sym, ap, subst, ◌∙◌}
use Rattle.std.specs.Prelude.{Option, Result, Ok, Err, OnOk, slice_get}
use Rattle.std.specs.List.{find}
use Rattle.std.proofs.lemmas.Bool.{and_parts, cases_Bool, false≢true, true≢false}
use Rattle.std.proofs.lemmas.List.{drop_more}
use Rattle.fm_base.specs.Resolution.{Has}
use Rattle.fm_base.specs.declared.ids.Lit.{Lit}
use Rattle.fm_bank.specs.Interning.{is_same_atom}
use Rattle.fm_bank.specs.declared.atom.Atom.{Atom}
use Rattle.fm_bank.proofs.Atoms.{is_same_atom-refl, same_atom}
use Rattle.fm_bank.specs.declared.literal.Literal.{Literal}
use Rattle.fm_sat.specs.Store.{IsUnit}
use Rattle.fm_steps.specs.Lemmas.{IsUnitLemma, are_known}
use Rattle.fm_steps.specs.Sizes.{is_unvalued}
use Rattle.fm_steps.specs.State.{State, atom_value, know}
use Rattle.fm_steps.proofs.Numbers.{known_any, known_one, with_known}
use Rattle.fm_steps.proofs.Trails.{none_from}
use Rattle.fm_trail.specs.declared.entry.Entry.{Entry}
use Rattle.fm_trail.specs.Trail.{are_false, is_false, is_none, is_open, is_value, unit_of, value_of}

-- what is false isn't without value
pub not_both : (v : Option Bool) (b : Bool) → is_value v b ≡ true → is_none v ≡ false
not_both None b h = absurd (false≢true h)
not_both (Some c) b h = refl

-- one element further in a scan
pub find_on : {X : Type 0} (p : X → Bool) (xs : List X) (i : ℕ) (d : X) → i < length xs → p (get_or xs i d) ≡ false → find p (drop i xs) ≡ find p (drop (i + 1) xs)
find_on p xs i d lt h = ap (find p) (drop_more xs i d lt) ∙ ap (λ (b : Bool). cond b (Some (get_or xs i d)) (find p (drop (i + 1) xs))) h

find_past : (es : List Entry) (x : Lit) (xs : List Lit) → is_false es x ≡ true → find (is_open es) (x ∷ xs) ≡ find (is_open es) xs
find_past es x xs h = ap (λ (b : Bool). cond b (Some x) (find (is_open es) xs)) (not_both (value_of es x.atom) (not x.positive) h)

last_step : (b : Bool) (x l : Lit) (o : Option Lit) → cond b (Some x) None ≡ Some l → (b ≡ true) × (x ≡ l)
last_step true x l o h = (refl, cc h)
last_step false x l o h = absurd (cc h)

-- the literal of a unit clause is the first without value
pub unit_found : (es : List Entry) (c : List Lit) (l : Lit) → unit_of es c ≡ Some l → (find (is_open es) c ≡ Some l) × (is_open es l ≡ true)
unit_found es [] l h = absurd (cc h)
unit_found es (x ∷ xs) l h =
    elim (cases_Bool (is_false es x)) [
      | inl t ↦ (let rest = unit_found es xs l (sym (ap (λ (b : Bool). cond b (unit_of es xs) (cond (is_open es x && are_false es xs) (Some x) None)) t) ∙ h) in
          (find_past es x xs t ∙ rest.0, rest.1))
      | inr f ↦ (let both = last_step (is_open es x && are_false es xs) x l None (sym (ap (λ (b : Bool). cond b (unit_of es xs) (cond (is_open es x && are_false es xs) (Some x) None)) f) ∙ h) in
          let open_ = (and_parts (is_open es x) (are_false es xs) both.0).0 in
          (ap (λ (b : Bool). cond b (Some x) (find (is_open es) xs)) open_ ∙ ap (λ (k : Lit). Some k) both.1, subst (λ (k : Lit). is_open es k ≡ true) both.1 open_))
    ]

two_signs : (a b : Bool) → (a ≡ b) ⊎ (a ≢ b)
two_signs true true = inl refl
two_signs true false = inr true≢false
two_signs false true = inr false≢true
two_signs false false = inl refl

two_atoms : (a b : Atom) → (a ≡ b) ⊎ (a ≢ b)
two_atoms a b = elim (cases_Bool (is_same_atom a b)) [
  | inl t ↦ inl (same_atom a b t)
  | inr f ↦ inr (λ e. false≢true (sym f ∙ (ap (is_same_atom a) (sym e) ∙ is_same_atom-refl a)))
]

two_literals : (k l : Literal) → (k ≡ l) ⊎ (k ≢ l)
two_literals k l = elim (two_signs k.positive l.positive) [
  | inl s ↦ elim (two_atoms k.atom l.atom) [
    | inl a ↦ inl (λ i. record { positive = s i; atom = a i })
    | inr n ↦ inr (λ e. n (ap (λ (x : Literal). x.atom) e))
  ]
  | inr n ↦ inr (λ e. n (ap (λ (x : Literal). x.positive) e))
]

behind : (x l : Literal) (xs : List Literal) → (x ≡ l) ⊎ Has xs l → x ≢ l → Has xs l
behind x l xs (inl e) n = absurd (n e)
behind x l xs (inr q) n = q

-- the one literal without value of a lemma that is unit is the first
lemma_found_in : (s : State) (ls rest : List Literal) (l : Literal) → IsUnitLemma s ls l → ((k : Literal) → Has rest k → Has ls k) → Has rest l → find (λ (k : Literal). is_unvalued s k.atom) rest ≡ Some l
lemma_found_in s ls [] l u sub h = absurd h
lemma_found_in s ls (x ∷ xs) l u sub h = elim (two_literals x l) [
  | inl e ↦ (let open_ : is_unvalued s x.atom ≡ true = ap (λ (k : Literal). is_unvalued s k.atom) e ∙ u.unset in
      ap (λ (b : Bool). cond b (Some x) (find (λ (k : Literal). is_unvalued s k.atom) xs)) open_ ∙ ap (λ (k : Literal). Some k) e)
  | inr n ↦ (let no = not_both (atom_value s x.atom) (not x.positive) (u.others x (sub x (inl refl)) n) in
      ap (λ (b : Bool). cond b (Some x) (find (λ (k : Literal). is_unvalued s k.atom) xs)) no ∙ lemma_found_in s ls xs l u (λ k q. sub k (inr q)) (behind x l xs h n))
]

pub lemma_found : (s : State) (ls : List Literal) (l : Literal) → IsUnitLemma s ls l → find (λ (k : Literal). is_unvalued s k.atom) ls ≡ Some l
lemma_found s ls l u = lemma_found_in s ls ls l u (λ k q. q) u.has

-- an atom that is known already
pub known_stays : (s : State) (ls : List Literal) (l : Literal) → Has ls l → are_known s ls ≡ true → know l.atom s ≡ s
known_stays s ls l h k = λ i. record s { held = record s.held { atoms = with_known s.held.atoms l.atom (known_any s.held.atoms l.atom (known_one s.held.atoms ls l h k)) i } }

pub unit_first : (s : State) (n : ℕ) (l : Lit) (c : List Lit) → IsUnit s.clauses s.trail.entries n l → slice_get s.clauses n ≡ Some c → (find (is_open s.trail.entries) c ≡ Some l) × (value_of s.trail.entries l.atom ≡ None)
unit_first s n l c u at =
    let some : Some u.clause ≡ Some c = sym u.stored ∙ at in
    let same : u.clause ≡ c = cc some in
    let f = unit_found s.trail.entries u.clause l u.unit in
    (subst (λ (k : List Lit). find (is_open s.trail.entries) k ≡ Some l) same f.0, none_from (value_of s.trail.entries l.atom) f.1)

pub on_ok_more : {T E : Type 0} {P Q : Type 0} (r : Result T E) → (P → Q) → OnOk r P → OnOk r Q
on_ok_more (Ok v) f p = f p
on_ok_more (Err e) f p = tt
