-- The parts of a line: numbers, literals, steps, and lists of them. What is read is what was spelled, and the other way round.
use Rattle.std.proofs.Common.{◌≡◌, ℕ, ◌^◌, ◌<◌, ◌⊎◌, inl, inr, Bool, true, false, not, cond, List, [], ◌∷◌, ◌++◌, map, Option, Some, None, refl, sym, ap, subst, ◌∙◌, append_assoc, arith}
use Rattle.std.specs.Prelude.{◌==◌, nat_le, codes, decimal}
use Rattle.std.specs.List.{AllByRecursion, list_all}
use Rattle.std.specs.Str.{bytes_eq}
use Rattle.std.proofs.lemmas.Bool.{and_from, and_parts, eqb-true, leb-true, le-leb, false≢true, not-true}
use Rattle.std.proofs.lemmas.List.Folds.{list_all-append}
use Rattle.fm_base.specs.declared.ids.TermId.{TermId}
use Rattle.fm_bank.specs.declared.atom.Atom.{Atom}
use Rattle.fm_bank.specs.declared.literal.Literal.{Literal}
use Rattle.fm_cert.specs.Parts.{all_in, atom_of, before_last, bound_of, card_of, cut, cut_last, cut_slash, equal_of, literal_in, literal_of, number_in, onto, pair_in, pair_of, part_of_literal, parts_of_steps, pred_of, sign_of, slash, step_in, step_of, steps_in, term_at, term_of, two_numbers, with_item}
use Rattle.fm_cert.specs.Fits.{FitsAtom, FitsLiteral, FitsStep, FitsTerm}
use Rattle.fm_cert.specs.Spelling.{spelling_of_atom, spelling_of_sign}
use Rattle.fm_cert.proofs.NumberText.{decimal_no_comma, decimal_plain, is_plain, is_plain_byte, number_again, number_takes}

pub pick : {X : Type 0} (b : Bool) (x y z : X) → cond b x y ≡ z → ((b ≡ true) × (x ≡ z)) ⊎ ((b ≡ false) × (y ≡ z))
pick true x y z e = inl (refl, e)
pick false x y z e = inr (refl, e)

pub same_bytes : (xs ys : List ℕ) → bytes_eq xs ys ≡ true → xs ≡ ys
same_bytes [] [] e = refl
same_bytes [] (y ∷ ys) e = absurd (false≢true e)
same_bytes (x ∷ xs) [] e = absurd (false≢true e)
same_bytes (x ∷ xs) (y ∷ ys) e =
    let p = and_parts (x == y) (bytes_eq xs ys) e in
    λ i. eqb-true x y p.0 i ∷ same_bytes xs ys p.1 i

-- cuts
onto_some : {X : Type 0} (b : X) (o : Option (List X × List X)) (p : List X × List X) → onto b o ≡ Some p → (q : List X × List X) × (o ≡ Some q) × ((b ∷ q.0, q.1) ≡ p)
onto_some b None p e = cc
onto_some b (Some q) p e = (q, refl, cc e)

pub cut_takes : (c : ℕ) (bs : List ℕ) (p : List ℕ × List ℕ) → cut c bs ≡ Some p → bs ≡ p.0 ++ c ∷ p.1
cut_takes c [] p e = cc
cut_takes c (b ∷ bs) p e =
    elim (pick (b == c) (Some ([], bs)) (onto b (cut c bs)) (Some p) e) [
      | inl t ↦
          let same : ([], bs) ≡ p = cc t.1 in
          (λ i. eqb-true b c t.0 i ∷ bs) ∙ ap (λ (q : List ℕ × List ℕ). q.0 ++ c ∷ q.1) same
      | inr f ↦
          let q = onto_some b (cut c bs) p f.1 in
          ap (λ (z : List ℕ). b ∷ z) (cut_takes c bs q.0 q.1) ∙ ap (λ (z : List ℕ × List ℕ). z.0 ++ c ∷ z.1) q.2
    ]

pub cut_again : (c : ℕ) (xs ys : List ℕ) → list_all (λ b. not (b == c)) xs ≡ true → (c == c) ≡ true → cut c (xs ++ c ∷ ys) ≡ Some (xs, ys)
cut_again c [] ys e r = ap (λ (t : Bool). cond t (Some ([], ys)) (onto c (cut c ys))) r
cut_again c (x ∷ xs) ys e r =
    let p = and_parts (not (x == c)) (list_all (λ b. not (b == c)) xs) e in
    ap (λ (t : Bool). cond t (Some ([], xs ++ c ∷ ys)) (onto x (cut c (xs ++ c ∷ ys)))) (not-true (x == c) p.0) ∙ ap (onto x) (cut_again c xs ys p.1 r)

pub cut_nowhere : (c : ℕ) (xs : List ℕ) → list_all (λ b. not (b == c)) xs ≡ true → cut c xs ≡ None
cut_nowhere c [] e = refl
cut_nowhere c (x ∷ xs) e =
    let p = and_parts (not (x == c)) (list_all (λ b. not (b == c)) xs) e in
    ap (λ (t : Bool). cond t (Some ([], xs)) (onto x (cut c xs))) (not-true (x == c) p.0) ∙ ap (onto x) (cut_nowhere c xs p.1)

-- the parts before the first `/`
pub slash_takes : (ps : List (List ℕ)) (p : List (List ℕ) × List (List ℕ)) → cut_slash ps ≡ Some p → ps ≡ p.0 ++ slash ∷ p.1
slash_takes [] p e = cc
slash_takes (x ∷ xs) p e =
    elim (pick (bytes_eq x slash) (Some ([], xs)) (onto x (cut_slash xs)) (Some p) e) [
      | inl t ↦
          let same : ([], xs) ≡ p = cc t.1 in
          (λ i. same_bytes x slash t.0 i ∷ xs) ∙ ap (λ (q : List (List ℕ) × List (List ℕ)). q.0 ++ slash ∷ q.1) same
      | inr f ↦
          let q = onto_some x (cut_slash xs) p f.1 in
          ap (λ (z : List (List ℕ)). x ∷ z) (slash_takes xs q.0 q.1) ∙ ap (λ (z : List (List ℕ) × List (List ℕ)). z.0 ++ slash ∷ z.1) q.2
    ]

abbrev pub IsNoSlash : List ℕ → Type 0
IsNoSlash part = bytes_eq part slash ≡ false

pub slash_again : (xs ys : List (List ℕ)) → AllByRecursion IsNoSlash xs → cut_slash (xs ++ slash ∷ ys) ≡ Some (xs, ys)
slash_again [] ys h = refl
slash_again (x ∷ xs) ys h = ap (λ (t : Bool). cond t (Some ([], xs ++ slash ∷ ys)) (onto x (cut_slash (xs ++ slash ∷ ys)))) h.0 ∙ ap (onto x) (slash_again xs ys h.1)

-- the last part
before_takes : (x : List ℕ) (xs : List (List ℕ)) (o : Option (List (List ℕ) × List ℕ)) (p : List (List ℕ) × List ℕ) → cut_last xs ≡ o → ((q : List (List ℕ) × List ℕ) → cut_last xs ≡ Some q → xs ≡ q.0 ++ q.1 ∷ []) → before_last x o ≡ Some p → x ∷ xs ≡ p.0 ++ p.1 ∷ []
before_takes x [] None p is rest e =
    let same : ([], x) ≡ p = cc e in
    ap (λ (q : List (List ℕ) × List ℕ). q.0 ++ q.1 ∷ []) same
before_takes x (y ∷ ys) None p is rest e = absurd (some_last y (cut_last ys) is)
  where
    some_last : (y : List ℕ) (o : Option (List (List ℕ) × List ℕ)) → before_last y o ≡ None → ⊥
    some_last y None e = absurd cc
    some_last y (Some q) e = absurd cc
before_takes x xs (Some q) p is rest e =
    let same : (x ∷ q.0, q.1) ≡ p = cc e in
    ap (λ (z : List (List ℕ)). x ∷ z) (rest q is) ∙ ap (λ (z : List (List ℕ) × List ℕ). z.0 ++ z.1 ∷ []) same

pub last_takes : (ps : List (List ℕ)) (p : List (List ℕ) × List ℕ) → cut_last ps ≡ Some p → ps ≡ p.0 ++ p.1 ∷ []
last_takes [] p e = cc
last_takes (x ∷ xs) p e = before_takes x xs (cut_last xs) p refl (λ q h. last_takes xs q h) e

pub last_again : (xs : List (List ℕ)) (x : List ℕ) → cut_last (xs ++ x ∷ []) ≡ Some (xs, x)
last_again [] x = refl
last_again (y ∷ xs) x = ap (before_last y) (last_again xs x)

-- lists of items
module _ {Y : Type 0} (one : List ℕ → Option Y) (text : Y → List ℕ) (Fits : Y → Type 0) where
  with_parts : (o : Option Y) (r : Option (List Y)) (ys : List Y) → with_item o r ≡ Some ys → (y : Y) × (rest : List Y) × (o ≡ Some y) × (r ≡ Some rest) × (y ∷ rest ≡ ys)
  with_parts None r ys e = cc
  with_parts (Some y) None ys e = cc
  with_parts (Some y) (Some rest) ys e = (y, rest, refl, refl, cc e)

  pub all_takes : ((p : List ℕ) (y : Y) → one p ≡ Some y → (p ≡ text y) × Fits y) → (ps : List (List ℕ)) (ys : List Y) → all_in one ps ≡ Some ys → (ps ≡ map text ys) × AllByRecursion Fits ys
  all_takes takes [] ys e = let same : [] ≡ ys = cc e in subst (λ (zs : List Y). ([] ≡ map text zs) × AllByRecursion Fits zs) same (refl, tt)
  all_takes takes (p ∷ ps) ys e =
      let w = with_parts (one p) (all_in one ps) ys e in
      let here = takes p w.0 w.2 in
      let rest = all_takes takes ps w.1 w.3 in
      subst (λ (zs : List Y). (p ∷ ps ≡ map text zs) × AllByRecursion Fits zs) w.4 ((λ i. here.0 i ∷ rest.0 i), (here.1, rest.1))

  pub all_again : ((y : Y) → Fits y → one (text y) ≡ Some y) → (ys : List Y) → AllByRecursion Fits ys → all_in one (map text ys) ≡ Some ys
  all_again again [] h = refl
  all_again again (y ∷ ys) h = (λ i. with_item (again y h.0 i) (all_again again ys h.1 i))

  pub all_plain : ((y : Y) → Fits y → is_plain (text y) ≡ true) → (ys : List Y) → AllByRecursion Fits ys → AllByRecursion (λ p. is_plain p ≡ true) (map text ys)
  all_plain plain [] h = tt
  all_plain plain (y ∷ ys) h = (plain y h.0, all_plain plain ys h.1)

pub term_takes : (p : List ℕ) (t : TermId) → term_at p ≡ Some t → (p ≡ decimal t.0) × FitsTerm t
term_takes p t e = by_number (number_in p) refl e
  where
    by_number : {p : List ℕ} {t : TermId} (o : Option ℕ) → number_in p ≡ o → term_of o ≡ Some t → (p ≡ decimal t.0) × FitsTerm t
    by_number None is e = cc
    by_number {p} {t} (Some n) is e =
        let same : record { 0 = n } ≡ t = cc e in
        let h = number_takes p n is in
        subst (λ (u : TermId). (p ≡ decimal u.0) × FitsTerm u) same h

pub term_again : (t : TermId) → FitsTerm t → term_at (decimal t.0) ≡ Some t
term_again t h = ap term_of (number_again t.0 h)

-- literals
pub two_takes : (o r : Option ℕ) (a b : ℕ) → two_numbers o r ≡ Some (a, b) → (o ≡ Some a) × (r ≡ Some b)
two_takes None r a b e = cc
two_takes (Some x) None a b e = cc
two_takes (Some x) (Some y) a b e =
    let same : (x, y) ≡ (a, b) = cc e in
    (ap (λ (p : ℕ × ℕ). Some p.0) same, ap (λ (p : ℕ × ℕ). Some p.1) same)

pair_takes : (bs : List ℕ) (a b : ℕ) → pair_in bs ≡ Some (a, b) → (bs ≡ decimal a ++ 44 ∷ decimal b) × (a < 2 ^ 64) × (b < 2 ^ 64)
pair_takes bs a b e = by_cut bs a b (cut 44 bs) refl e
  where
    by_cut : (bs : List ℕ) (a b : ℕ) (o : Option (List ℕ × List ℕ)) → cut 44 bs ≡ o → pair_of o ≡ Some (a, b) → (bs ≡ decimal a ++ 44 ∷ decimal b) × (a < 2 ^ 64) × (b < 2 ^ 64)
    by_cut bs a b None is e = cc
    by_cut bs a b (Some p) is e =
        let two = two_takes (number_in p.0) (number_in p.1) a b e in
        let left = number_takes p.0 a two.0 in
        let right = number_takes p.1 b two.1 in
        (cut_takes 44 bs p is ∙ (λ i. left.0 i ++ 44 ∷ right.0 i), left.1, right.1)

pair_again : (a b : ℕ) → a < 2 ^ 64 → b < 2 ^ 64 → pair_in (decimal a ++ 44 ∷ decimal b) ≡ Some (a, b)
pair_again a b la lb = ap pair_of (cut_again 44 (decimal a) (decimal b) (decimal_no_comma a la) refl) ∙ (λ i. two_numbers (number_again a la i) (number_again b lb i))

comma : (xs ys : List ℕ) → xs ++ codes "," ++ ys ≡ xs ++ 44 ∷ ys
comma xs ys = append_assoc xs (44 ∷ []) ys

equal_takes : (rest : List ℕ) (o : Option (ℕ × ℕ)) (a : Atom) → pair_in rest ≡ o → equal_of o ≡ Some a → (69 ∷ rest ≡ spelling_of_atom a) × FitsAtom a
equal_takes rest None a is e = cc
equal_takes rest (Some p) a is e =
    elim (pick (nat_le p.0 p.1) (Some (Atom.Equal (record { 0 = p.0 }) (record { 0 = p.1 }))) None (Some a) e) [
      | inl t ↦
          let same : Atom.Equal (record { 0 = p.0 }) (record { 0 = p.1 }) ≡ a = cc t.1 in
          let h = pair_takes rest p.0 p.1 is in
          subst (λ (x : Atom). (69 ∷ rest ≡ spelling_of_atom x) × FitsAtom x) same (ap (λ (z : List ℕ). 69 ∷ z) (h.0 ∙ sym (comma (decimal p.0) (decimal p.1))), (leb-true p.0 p.1 t.0, h.2))
      | inr f ↦ let none : None ≡ Some a = f.1 in absurd cc
    ]

card_takes : (rest : List ℕ) (o : Option (ℕ × ℕ)) (a : Atom) → pair_in rest ≡ o → card_of o ≡ Some a → (67 ∷ rest ≡ spelling_of_atom a) × FitsAtom a
card_takes rest None a is e = cc
card_takes rest (Some p) a is e =
    let same : Atom.Card (record { 0 = p.0 }) p.1 ≡ a = cc e in
    let h = pair_takes rest p.0 p.1 is in
    subst (λ (x : Atom). (67 ∷ rest ≡ spelling_of_atom x) × FitsAtom x) same (ap (λ (z : List ℕ). 67 ∷ z) (h.0 ∙ sym (comma (decimal p.0) (decimal p.1))), (h.1, h.2))

pred_takes : (rest : List ℕ) (o : Option ℕ) (a : Atom) → number_in rest ≡ o → pred_of o ≡ Some a → (80 ∷ rest ≡ spelling_of_atom a) × FitsAtom a
pred_takes rest None a is e = cc
pred_takes rest (Some n) a is e =
    let same : Atom.Pred (record { 0 = n }) ≡ a = cc e in
    let h = number_takes rest n is in
    subst (λ (x : Atom). (80 ∷ rest ≡ spelling_of_atom x) × FitsAtom x) same (ap (λ (z : List ℕ). 80 ∷ z) h.0, h.1)

bound_takes : (rest : List ℕ) (o : Option ℕ) (a : Atom) → number_in rest ≡ o → bound_of o ≡ Some a → (66 ∷ rest ≡ spelling_of_atom a) × FitsAtom a
bound_takes rest None a is e = cc
bound_takes rest (Some n) a is e =
    let same : Atom.Bound n ≡ a = cc e in
    let h = number_takes rest n is in
    subst (λ (x : Atom). (66 ∷ rest ≡ spelling_of_atom x) × FitsAtom x) same (ap (λ (z : List ℕ). 66 ∷ z) h.0, h.1)

atom_takes : (kind : ℕ) (rest : List ℕ) (a : Atom) → atom_of kind rest ≡ Some a → (kind ∷ rest ≡ spelling_of_atom a) × FitsAtom a
atom_takes kind rest a e =
    elim (pick (kind == 69) (equal_of (pair_in rest)) (cond (kind == 80) (pred_of (number_in rest)) (cond (kind == 67) (card_of (pair_in rest)) (cond (kind == 66) (bound_of (number_in rest)) None))) (Some a) e) [
      | inl t ↦ headed kind 69 rest a (eqb-true kind 69 t.0) (equal_takes rest (pair_in rest) a refl t.1)
      | inr f ↦
          elim (pick (kind == 80) (pred_of (number_in rest)) (cond (kind == 67) (card_of (pair_in rest)) (cond (kind == 66) (bound_of (number_in rest)) None)) (Some a) f.1) [
            | inl t ↦ headed kind 80 rest a (eqb-true kind 80 t.0) (pred_takes rest (number_in rest) a refl t.1)
            | inr g ↦
                elim (pick (kind == 67) (card_of (pair_in rest)) (cond (kind == 66) (bound_of (number_in rest)) None) (Some a) g.1) [
                  | inl t ↦ headed kind 67 rest a (eqb-true kind 67 t.0) (card_takes rest (pair_in rest) a refl t.1)
                  | inr h ↦
                      elim (pick (kind == 66) (bound_of (number_in rest)) None (Some a) h.1) [
                        | inl t ↦ headed kind 66 rest a (eqb-true kind 66 t.0) (bound_takes rest (number_in rest) a refl t.1)
                        | inr l ↦ let none : None ≡ Some a = l.1 in absurd cc
                      ]
                ]
          ]
    ]
  where
    headed : (kind k : ℕ) (rest : List ℕ) (a : Atom) → kind ≡ k → (k ∷ rest ≡ spelling_of_atom a) × FitsAtom a → (kind ∷ rest ≡ spelling_of_atom a) × FitsAtom a
    headed kind k rest a e h = ((λ i. e i ∷ rest) ∙ h.0, h.1)

sign_takes : (s : ℕ) (b : Bool) → sign_of s ≡ Some b → s ∷ [] ≡ spelling_of_sign b
sign_takes s b e =
    elim (pick (s == 43) (Some true) (cond (s == 45) (Some false) None) (Some b) e) [
      | inl t ↦ let same : true ≡ b = cc t.1 in (λ i. eqb-true s 43 t.0 i ∷ []) ∙ ap spelling_of_sign same
      | inr f ↦
          elim (pick (s == 45) (Some false) None (Some b) f.1) [
            | inl t ↦ let same : false ≡ b = cc t.1 in (λ i. eqb-true s 45 t.0 i ∷ []) ∙ ap spelling_of_sign same
            | inr g ↦ let none : None ≡ Some b = g.1 in absurd cc
          ]
    ]

literal_parts : (o : Option Bool) (a : Option Atom) (l : Literal) → literal_of o a ≡ Some l → (o ≡ Some l.positive) × (a ≡ Some l.atom)
literal_parts None a l e = cc
literal_parts (Some s) None l e = cc
literal_parts (Some s) (Some a) l e =
    let same : record { positive = s; atom = a } ≡ l = cc e in
    (ap (λ (k : Literal). Some k.positive) same, ap (λ (k : Literal). Some k.atom) same)

pub literal_takes : (p : List ℕ) (l : Literal) → literal_in p ≡ Some l → (p ≡ part_of_literal l) × FitsLiteral l
literal_takes [] l e = cc
literal_takes (s ∷ []) l e = cc
literal_takes (s ∷ kind ∷ rest) l e =
    let h = literal_parts (sign_of s) (atom_of kind rest) l e in
    let a = atom_takes kind rest l.atom h.1 in
    ((λ i. sign_takes s l.positive h.0 i ++ a.0 i), a.1)

atom_again : (b : Bool) (a : Atom) → FitsAtom a → literal_in (spelling_of_sign b ++ spelling_of_atom a) ≡ Some (record { positive = b; atom = a })
atom_again true (Atom.Equal x y) h = ap (λ (z : List ℕ). literal_of (Some true) (equal_of (pair_in z))) (comma (decimal x.0) (decimal y.0)) ∙ (ap (λ (o : Option (ℕ × ℕ)). literal_of (Some true) (equal_of o)) (pair_again x.0 y.0 (omega arith) h.1) ∙ ap (λ (t : Bool). literal_of (Some true) (cond t (Some (Atom.Equal (record { 0 = x.0 }) (record { 0 = y.0 }))) None)) (le-leb x.0 y.0 h.0))
atom_again true (Atom.Pred t) h = ap (λ (o : Option ℕ). literal_of (Some true) (pred_of o)) (number_again t.0 h)
atom_again true (Atom.Card s k) h = ap (λ (z : List ℕ). literal_of (Some true) (card_of (pair_in z))) (comma (decimal s.0) (decimal k)) ∙ ap (λ (o : Option (ℕ × ℕ)). literal_of (Some true) (card_of o)) (pair_again s.0 k h.0 h.1)
atom_again true (Atom.Bound n) h = ap (λ (o : Option ℕ). literal_of (Some true) (bound_of o)) (number_again n h)
atom_again false (Atom.Equal x y) h = ap (λ (z : List ℕ). literal_of (Some false) (equal_of (pair_in z))) (comma (decimal x.0) (decimal y.0)) ∙ (ap (λ (o : Option (ℕ × ℕ)). literal_of (Some false) (equal_of o)) (pair_again x.0 y.0 (omega arith) h.1) ∙ ap (λ (t : Bool). literal_of (Some false) (cond t (Some (Atom.Equal (record { 0 = x.0 }) (record { 0 = y.0 }))) None)) (le-leb x.0 y.0 h.0))
atom_again false (Atom.Pred t) h = ap (λ (o : Option ℕ). literal_of (Some false) (pred_of o)) (number_again t.0 h)
atom_again false (Atom.Card s k) h = ap (λ (z : List ℕ). literal_of (Some false) (card_of (pair_in z))) (comma (decimal s.0) (decimal k)) ∙ ap (λ (o : Option (ℕ × ℕ)). literal_of (Some false) (card_of o)) (pair_again s.0 k h.0 h.1)
atom_again false (Atom.Bound n) h = ap (λ (o : Option ℕ). literal_of (Some false) (bound_of o)) (number_again n h)

pub literal_again : (l : Literal) → FitsLiteral l → literal_in (part_of_literal l) ≡ Some l
literal_again l h = atom_again l.positive l.atom h

plain_append : (xs ys : List ℕ) → is_plain xs ≡ true → is_plain ys ≡ true → is_plain (xs ++ ys) ≡ true
plain_append xs ys h k = list_all-append is_plain_byte xs ys ∙ and_from (is_plain xs) (is_plain ys) h k

atom_plain : (a : Atom) → FitsAtom a → is_plain (spelling_of_atom a) ≡ true
atom_plain (Atom.Equal x y) h = ap is_plain (comma (decimal x.0) (decimal y.0)) ∙ plain_append (decimal x.0) (44 ∷ decimal y.0) (decimal_plain x.0 (omega arith)) (decimal_plain y.0 h.1)
atom_plain (Atom.Pred t) h = decimal_plain t.0 h
atom_plain (Atom.Card s k) h = ap is_plain (comma (decimal s.0) (decimal k)) ∙ plain_append (decimal s.0) (44 ∷ decimal k) (decimal_plain s.0 h.0) (decimal_plain k h.1)
atom_plain (Atom.Bound n) h = decimal_plain n h

sign_plain : (b : Bool) → is_plain (spelling_of_sign b) ≡ true
sign_plain true = refl
sign_plain false = refl

pub literal_plain : (l : Literal) → FitsLiteral l → is_plain (part_of_literal l) ≡ true
literal_plain l h = plain_append (spelling_of_sign l.positive) (spelling_of_atom l.atom) (sign_plain l.positive) (atom_plain l.atom h)

no_slash : (b : Bool) (a : Atom) → IsNoSlash (spelling_of_sign b ++ spelling_of_atom a)
no_slash true a = refl
no_slash false a = refl

pub literals_no_slash : (ls : List Literal) → AllByRecursion IsNoSlash (map part_of_literal ls)
literals_no_slash [] = tt
literals_no_slash (l ∷ ls) = (no_slash l.positive l.atom, literals_no_slash ls)

-- steps
step_parts : (o : Option Literal) (n : Option ℕ) (s : Literal × ℕ) → step_of o n ≡ Some s → (o ≡ Some s.0) × (n ≡ Some s.1)
step_parts None n s e = cc
step_parts (Some l) None s e = cc
step_parts (Some l) (Some c) s e =
    let same : (l, c) ≡ s = cc e in
    (ap (λ (k : Literal × ℕ). Some k.0) same, ap (λ (k : Literal × ℕ). Some k.1) same)

step_list : (o : Option (Literal × ℕ)) (r : Option (List (Literal × ℕ))) (ss : List (Literal × ℕ)) → with_item o r ≡ Some ss → (s : Literal × ℕ) × (rest : List (Literal × ℕ)) × (o ≡ Some s) × (r ≡ Some rest) × (s ∷ rest ≡ ss)
step_list None r ss e = cc
step_list (Some s) None ss e = cc
step_list (Some s) (Some rest) ss e = (s, rest, refl, refl, cc e)

pub steps_takes : (ps : List (List ℕ)) (ss : List (Literal × ℕ)) → steps_in ps ≡ Some ss → (ps ≡ parts_of_steps ss) × AllByRecursion FitsStep ss
steps_takes [] ss e = let same : [] ≡ ss = cc e in subst (λ (zs : List (Literal × ℕ)). ([] ≡ parts_of_steps zs) × AllByRecursion FitsStep zs) same (refl, tt)
steps_takes (l ∷ []) ss e = cc
steps_takes (l ∷ c ∷ ps) ss e =
    let w = step_list (step_in l c) (steps_in ps) ss e in
    let s = step_parts (literal_in l) (number_in c) w.0 w.2 in
    let one = literal_takes l w.0.0 s.0 in
    let two = number_takes c w.0.1 s.1 in
    let rest = steps_takes ps w.1 w.3 in
    subst (λ (zs : List (Literal × ℕ)). (l ∷ c ∷ ps ≡ parts_of_steps zs) × AllByRecursion FitsStep zs) w.4 ((λ i. one.0 i ∷ two.0 i ∷ rest.0 i), ((one.1, two.1), rest.1))

pub steps_again : (ss : List (Literal × ℕ)) → AllByRecursion FitsStep ss → steps_in (parts_of_steps ss) ≡ Some ss
steps_again [] h = refl
steps_again (s ∷ ss) h = λ i. with_item (step_of (literal_again s.0 h.0.0 i) (number_again s.1 h.0.1 i)) (steps_again ss h.1 i)

pub steps_plain : (ss : List (Literal × ℕ)) → AllByRecursion FitsStep ss → AllByRecursion (λ p. is_plain p ≡ true) (parts_of_steps ss)
steps_plain [] h = tt
steps_plain (s ∷ ss) h = (literal_plain s.0 h.0.0, (decimal_plain s.1 h.0.1, steps_plain ss h.1))
