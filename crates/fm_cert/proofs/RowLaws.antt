-- A line of the grammar has one text, and what is read as a line is its text.
use Rattle.std.proofs.Common.{◌≡◌, ◌≢◌, ℕ, inl, inr, true, not, List, [], ◌∷◌, ◌++◌, map, Option, Some, None, refl, sym, ap, subst, ◌∙◌, append_assoc, append-nil}
use Rattle.std.specs.Prelude.{◌==◌, codes, decimal}
use Rattle.std.specs.List.{AllByRecursion, flat_map, join_with_byte, list_all}
use Rattle.std.specs.Option.{option_map}
use Rattle.std.specs.Str.{bytes_eq}
use Rattle.std.proofs.lemmas.Bool.{and_from, and_parts}
use Rattle.std.proofs.lemmas.List.Folds.{list_all-append}
use Rattle.std.proofs.lemmas.List.Splits.{join_with_byte-slice_split}
use Rattle.fm_base.specs.declared.ids.TermId.{TermId}
use Rattle.fm_bank.specs.declared.literal.Literal.{Literal}
use Rattle.fm_cert.specs.declared.block.Line.{Line}
use Rattle.fm_cert.specs.declared.row.Row.{Row}
use Rattle.fm_cert.specs.Parts.{begin_in, bound_row, card_row, cardinality_in, cardinality_row, cut, cut_last, cut_slash, default_in, ending_in, equality_in, equality_of, equality_row, exception_in, exception_of, exception_row, instance_in, instance_row, lemma_by, literal_in, literals_in, model_by, number_in, numbers_in, order_in, part_of_literal, parts_in, parts_of_literals, parts_of_row, parts_of_steps, parts_of_terms, resolution_in, resolution_row, row_by, row_in, sizes_in, sizes_of, slash, steps_in, sum_in, sum_row, term_at, term_in, term_row, terms_in, two_numbers, unknown_row, zero_row}
use Rattle.fm_cert.specs.Fits.{FitsLiteral, FitsTerm, IsNumber}
use Rattle.fm_cert.specs.Rows.{FitsRow, IsFirstRow, spelling_of_row}
use Rattle.fm_cert.specs.Spelling.{line_feed, spelling_of_atom, spelling_of_literal, spelling_of_numbers, spelling_of_sign, spelling_of_step, spelling_of_term}
use Rattle.fm_cert.proofs.NumberText.{decimal_plain, is_plain, is_plain_byte, number_again, number_takes}
use Rattle.fm_cert.proofs.PartLaws.{all_again, all_plain, all_takes, cut_again, cut_nowhere, cut_takes, last_again, last_takes, literal_again, literal_plain, literal_takes, literals_no_slash, pick, same_bytes, slash_again, slash_takes, steps_again, steps_plain, steps_takes, term_again, term_takes, two_takes}
use Rattle.fm_cert.proofs.PartLists.{parts_none, parts_some}
use Rattle.fm_cert.proofs.Taken.{all_join}

-- the rows of the grammar
instance_takes : (o : Option ℕ) (ts : Option (List TermId)) (r : Row) → instance_row o ts ≡ Some r → (c : ℕ) × (us : List TermId) × (o ≡ Some c) × (ts ≡ Some us) × (Row.Body (Line.Instance c us) ≡ r)
instance_takes None ts r e = cc
instance_takes (Some c) None r e = cc
instance_takes (Some c) (Some us) r e = (c, us, refl, refl, cc e)

term_row_takes : (o : Option ℕ) (ts : Option (List TermId)) (r : Row) → term_row o ts ≡ Some r → (c : ℕ) × (us : List TermId) × (o ≡ Some c) × (ts ≡ Some us) × (Row.Body (Line.Term (record { 0 = c }) us) ≡ r)
term_row_takes None ts r e = cc
term_row_takes (Some c) None r e = cc
term_row_takes (Some c) (Some us) r e = (c, us, refl, refl, cc e)

equality_takes : (o : Option (List Literal)) (ts : Option (List TermId)) (r : Row) → equality_row o ts ≡ Some r → (ls : List Literal) × (us : List TermId) × (o ≡ Some ls) × (ts ≡ Some us) × (Row.Body (Line.Equality ls us) ≡ r)
equality_takes None ts r e = cc
equality_takes (Some ls) None r e = cc
equality_takes (Some ls) (Some us) r e = (ls, us, refl, refl, cc e)

exception_takes : (o : Option (List ℕ)) (v : Option ℕ) (r : Row) → exception_row o v ≡ Some r → (ns : List ℕ) × (n : ℕ) × (o ≡ Some ns) × (v ≡ Some n) × (Row.Exception ns n ≡ r)
exception_takes None v r e = cc
exception_takes (Some ns) None r e = cc
exception_takes (Some ns) (Some n) r e = (ns, n, refl, refl, cc e)

sizes_takes : (o : Option (List ℕ)) (r : Row) → sizes_of o ≡ Some r → (ks : List ℕ) × (o ≡ Some ks) × (Row.Sizes ks ≡ r)
sizes_takes None r e = cc
sizes_takes (Some ks) r e = (ks, refl, cc e)

sum_takes : (o : Option ℕ) (ks : Option (List ℕ)) (r : Row) → sum_row o ks ≡ Some r → (n : ℕ) × (ns : List ℕ) × (o ≡ Some n) × (ks ≡ Some ns) × (Row.Body (Line.Sum n ns) ≡ r)
sum_takes None ks r e = cc
sum_takes (Some n) None r e = cc
sum_takes (Some n) (Some ns) r e = (n, ns, refl, refl, cc e)

resolution_takes : (o : Option ℕ) (ss : Option (List (Literal × ℕ))) (r : Row) → resolution_row o ss ≡ Some r → (c : ℕ) × (s : Literal × ℕ) × (rest : List (Literal × ℕ)) × (o ≡ Some c) × (ss ≡ Some (s ∷ rest)) × (Row.Body (Line.Resolution c (s ∷ rest)) ≡ r)
resolution_takes None ss r e = cc
resolution_takes (Some c) None r e = cc
resolution_takes (Some c) (Some []) r e = cc
resolution_takes (Some c) (Some (s ∷ rest)) r e = (c, s, rest, refl, refl, cc e)

mapped_takes : {A B : Type 0} (f : A → B) (o : Option A) (b : B) → option_map f o ≡ Some b → (a : A) × (o ≡ Some a) × (f a ≡ b)
mapped_takes f None b e = cc
mapped_takes f (Some a) b e = (a, refl, cc e)

bound_row_takes : (o : Option ℕ) (r : Row) → bound_row o ≡ Some r → (n : ℕ) × (o ≡ Some n) × (Row.Body (Line.OrderBound n) ≡ r)
bound_row_takes None r e = cc
bound_row_takes (Some n) r e = (n, refl, cc e)

card_row_takes : (o : Option (ℕ × ℕ)) (r : Row) → card_row o ≡ Some r → (p : ℕ × ℕ) × (o ≡ Some p) × (Row.Body (Line.OrderCard (record { 0 = p.0 }) p.1) ≡ r)
card_row_takes None r e = cc
card_row_takes (Some p) r e = (p, refl, cc e)

cardinality_takes : (o : Option (ℕ × ℕ)) (ts : Option (List TermId)) (r : Row) → cardinality_row o ts ≡ Some r → (p : ℕ × ℕ) × (us : List TermId) × (o ≡ Some p) × (ts ≡ Some us) × (Row.Body (Line.Cardinality (record { 0 = p.0 }) p.1 us) ≡ r)
cardinality_takes None ts r e = cc
cardinality_takes (Some p) None r e = cc
cardinality_takes (Some p) (Some us) r e = (p, us, refl, refl, cc e)

zero_takes : (o : Option ℕ) (r : Row) → zero_row o ≡ Some r → (s : ℕ) × (o ≡ Some s) × (Row.Body (Line.OrderZero (record { 0 = s })) ≡ r)
zero_takes None r e = cc
zero_takes (Some s) r e = (s, refl, cc e)

unknown_takes : (o : Option (ℕ × ℕ)) (r : Row) → unknown_row o ≡ Some r → (p : ℕ × ℕ) × (o ≡ Some p) × (Row.Unknown p.0 p.1 ≡ r)
unknown_takes None r e = cc
unknown_takes (Some p) r e = (p, refl, cc e)

-- what was read as a row: its parts, which fit
abbrev IsRead : List (List ℕ) → Row → Type 0
IsRead ps r = (ps ≡ parts_of_row r) × FitsRow r

begin_read : (ps : List (List ℕ)) (r : Row) → begin_in ps ≡ Some r → IsRead (codes "b" ∷ ps) r
begin_read [] r e = cc
begin_read (n ∷ []) r e =
    let m = mapped_takes Row.Begin (number_in n) r e in
    let h = number_takes n m.0 m.1 in
    subst (IsRead (codes "b" ∷ n ∷ [])) m.2 (ap (λ (z : List ℕ). codes "b" ∷ z ∷ []) h.0, h.1)
begin_read (n ∷ m ∷ ps) r e = cc

term_read : (ps : List (List ℕ)) (r : Row) → term_in ps ≡ Some r → IsRead (codes "t" ∷ ps) r
term_read [] r e = cc
term_read (c ∷ ps) r e =
    let w = term_row_takes (number_in c) (terms_in ps) r e in
    let h = number_takes c w.0 w.2 in
    let ts = all_takes term_at (λ (t : TermId). decimal t.0) FitsTerm term_takes ps w.1 w.3 in
    subst (IsRead (codes "t" ∷ c ∷ ps)) w.4 ((λ i. codes "t" ∷ h.0 i ∷ ts.0 i), (h.1, ts.1))

instance_read : (ps : List (List ℕ)) (r : Row) → instance_in ps ≡ Some r → IsRead (codes "i" ∷ ps) r
instance_read [] r e = cc
instance_read (c ∷ ps) r e =
    let w = instance_takes (number_in c) (terms_in ps) r e in
    let h = number_takes c w.0 w.2 in
    let ts = all_takes term_at (λ (t : TermId). decimal t.0) FitsTerm term_takes ps w.1 w.3 in
    subst (IsRead (codes "i" ∷ c ∷ ps)) w.4 ((λ i. codes "i" ∷ h.0 i ∷ ts.0 i), (h.1, ts.1))

sum_read : (ps : List (List ℕ)) (r : Row) → sum_in ps ≡ Some r → IsRead (codes "s" ∷ ps) r
sum_read [] r e = cc
sum_read (n ∷ ps) r e =
    let w = sum_takes (number_in n) (numbers_in ps) r e in
    let h = number_takes n w.0 w.2 in
    let ks = all_takes number_in decimal IsNumber number_takes ps w.1 w.3 in
    subst (IsRead (codes "s" ∷ n ∷ ps)) w.4 ((λ i. codes "s" ∷ h.0 i ∷ ks.0 i), (h.1, ks.1))

order_read : (ps : List (List ℕ)) (r : Row) → order_in ps ≡ Some r → IsRead (codes "o" ∷ ps) r
order_read [] r e = cc
order_read (k ∷ []) r e = cc
order_read (k ∷ s ∷ []) r e =
    elim (pick (bytes_eq k (codes "z")) (zero_row (number_in s)) _ (Some r) e) [
      | inl t ↦
          let w = zero_takes (number_in s) r t.1 in
          let h = number_takes s w.0 w.1 in
          let word = same_bytes k (codes "z") t.0 in
          subst (IsRead (codes "o" ∷ k ∷ s ∷ [])) w.2 ((λ i. codes "o" ∷ word i ∷ h.0 i ∷ []), h.1)
      | inr f ↦
          elim (pick (bytes_eq k (codes "b")) (bound_row (number_in s)) None (Some r) f.1) [
            | inl t ↦
                let w = bound_row_takes (number_in s) r t.1 in
                let h = number_takes s w.0 w.1 in
                let word = same_bytes k (codes "b") t.0 in
                subst (IsRead (codes "o" ∷ k ∷ s ∷ [])) w.2 ((λ i. codes "o" ∷ word i ∷ h.0 i ∷ []), h.1)
            | inr g ↦ let none : None ≡ Some r = g.1 in absurd cc
          ]
    ]
order_read (k ∷ s ∷ n ∷ []) r e =
    elim (pick (bytes_eq k (codes "c")) (card_row (two_numbers (number_in s) (number_in n))) None (Some r) e) [
      | inl t ↦
          let u = card_row_takes (two_numbers (number_in s) (number_in n)) r t.1 in
          let two = two_takes (number_in s) (number_in n) u.0.0 u.0.1 u.1 in
          let a = number_takes s u.0.0 two.0 in
          let b = number_takes n u.0.1 two.1 in
          let word = same_bytes k (codes "c") t.0 in
          subst (IsRead (codes "o" ∷ k ∷ s ∷ n ∷ [])) u.2 ((λ j. codes "o" ∷ word j ∷ a.0 j ∷ b.0 j ∷ []), (a.1, b.1))
      | inr f ↦ let none : None ≡ Some r = f.1 in absurd cc
    ]
order_read (k ∷ s ∷ n ∷ x ∷ ps) r e = cc

resolution_read : (ps : List (List ℕ)) (r : Row) → resolution_in ps ≡ Some r → IsRead (codes "r" ∷ ps) r
resolution_read [] r e = cc
resolution_read (c ∷ ps) r e =
    let w = resolution_takes (number_in c) (steps_in ps) r e in
    let h = number_takes c w.0 w.3 in
    let ss = steps_takes ps (w.1 ∷ w.2) w.4 in
    let some : w.1 ∷ w.2 ≢ [] = λ (q : w.1 ∷ w.2 ≡ []). absurd (cc q) in
    subst (IsRead (codes "r" ∷ c ∷ ps)) w.5 ((λ i. codes "r" ∷ h.0 i ∷ ss.0 i), (h.1, some, ss.1))

ending_read : (ps : List (List ℕ)) (r : Row) → ending_in ps ≡ Some r → IsRead (codes "q" ∷ ps) r
ending_read [] r e = cc
ending_read (w ∷ []) r e =
    elim (pick (bytes_eq w (codes "unsat")) (Some Row.Unsat) None (Some r) e) [
      | inl t ↦
          let same : Row.Unsat ≡ r = cc t.1 in
          let word = same_bytes w (codes "unsat") t.0 in
          subst (IsRead (codes "q" ∷ w ∷ [])) same ((λ i. codes "q" ∷ word i ∷ []), tt)
      | inr f ↦ let none : None ≡ Some r = f.1 in absurd cc
    ]
ending_read (w ∷ n ∷ []) r e =
    elim (pick (bytes_eq w (codes "sat")) (option_map Row.Sat (number_in n)) None (Some r) e) [
      | inl t ↦
          let m = mapped_takes Row.Sat (number_in n) r t.1 in
          let h = number_takes n m.0 m.1 in
          let word = same_bytes w (codes "sat") t.0 in
          subst (IsRead (codes "q" ∷ w ∷ n ∷ [])) m.2 ((λ i. codes "q" ∷ word i ∷ h.0 i ∷ []), h.1)
      | inr f ↦ let none : None ≡ Some r = f.1 in absurd cc
    ]
ending_read (w ∷ i ∷ d ∷ []) r e =
    elim (pick (bytes_eq w (codes "unknown")) (unknown_row (two_numbers (number_in i) (number_in d))) None (Some r) e) [
      | inl t ↦
          let u = unknown_takes (two_numbers (number_in i) (number_in d)) r t.1 in
          let two = two_takes (number_in i) (number_in d) u.0.0 u.0.1 u.1 in
          let a = number_takes i u.0.0 two.0 in
          let b = number_takes d u.0.1 two.1 in
          let word = same_bytes w (codes "unknown") t.0 in
          subst (IsRead (codes "q" ∷ w ∷ i ∷ d ∷ [])) u.2 ((λ k. codes "q" ∷ word k ∷ a.0 k ∷ b.0 k ∷ []), (a.1, b.1))
      | inr f ↦ let none : None ≡ Some r = f.1 in absurd cc
    ]
ending_read (w ∷ i ∷ d ∷ x ∷ ps) r e = cc

cardinality_read : (ps : List (List ℕ)) (r : Row) → cardinality_in ps ≡ Some r → IsRead (codes "c" ∷ ps) r
cardinality_read [] r e = cc
cardinality_read (s ∷ []) r e = cc
cardinality_read (s ∷ k ∷ ps) r e =
    let w = cardinality_takes (two_numbers (number_in s) (number_in k)) (terms_in ps) r e in
    let two = two_takes (number_in s) (number_in k) w.0.0 w.0.1 w.2 in
    let a = number_takes s w.0.0 two.0 in
    let b = number_takes k w.0.1 two.1 in
    let ts = all_takes term_at (λ (t : TermId). decimal t.0) FitsTerm term_takes ps w.1 w.3 in
    subst (IsRead (codes "c" ∷ s ∷ k ∷ ps)) w.4 ((λ i. codes "c" ∷ a.0 i ∷ b.0 i ∷ ts.0 i), (a.1, b.1, ts.1))

equality_by : (ps : List (List ℕ)) (o : Option (List (List ℕ) × List (List ℕ))) (r : Row) → cut_slash ps ≡ o → equality_of o ≡ Some r → IsRead (codes "e" ∷ ps) r
equality_by ps None r is e = cc
equality_by ps (Some p) r is e =
    let w = equality_takes (literals_in p.0) (terms_in p.1) r e in
    let ls = all_takes literal_in part_of_literal FitsLiteral literal_takes p.0 w.0 w.2 in
    let ts = all_takes term_at (λ (t : TermId). decimal t.0) FitsTerm term_takes p.1 w.1 w.3 in
    subst (IsRead (codes "e" ∷ ps)) w.4 (ap (λ (z : List (List ℕ)). codes "e" ∷ z) (slash_takes ps p is ∙ (λ i. ls.0 i ++ slash ∷ ts.0 i)), (ls.1, ts.1))

equality_read : (ps : List (List ℕ)) (r : Row) → equality_in ps ≡ Some r → IsRead (codes "e" ∷ ps) r
equality_read ps r e = equality_by ps (cut_slash ps) r refl e

sizes_read : (ps : List (List ℕ)) (r : Row) → sizes_in ps ≡ Some r → IsRead (codes "z" ∷ ps) r
sizes_read ps r e =
    let w = sizes_takes (numbers_in ps) r e in
    let ks = all_takes number_in decimal IsNumber number_takes ps w.0 w.1 in
    subst (IsRead (codes "z" ∷ ps)) w.2 (ap (λ (z : List (List ℕ)). codes "z" ∷ z) ks.0, ks.1)

default_read : (ps : List (List ℕ)) (r : Row) → default_in ps ≡ Some r → IsRead (codes "d" ∷ ps) r
default_read [] r e = cc
default_read (n ∷ []) r e =
    let m = mapped_takes Row.Default (number_in n) r e in
    let h = number_takes n m.0 m.1 in
    subst (IsRead (codes "d" ∷ n ∷ [])) m.2 (ap (λ (z : List ℕ). codes "d" ∷ z ∷ []) h.0, h.1)
default_read (n ∷ m ∷ ps) r e = cc

exception_by : (ps : List (List ℕ)) (o : Option (List (List ℕ) × List ℕ)) (r : Row) → cut_last ps ≡ o → exception_of o ≡ Some r → IsRead (codes "x" ∷ ps) r
exception_by ps None r is e = cc
exception_by ps (Some p) r is e =
    let w = exception_takes (numbers_in p.0) (number_in p.1) r e in
    let ns = all_takes number_in decimal IsNumber number_takes p.0 w.0 w.2 in
    let v = number_takes p.1 w.1 w.3 in
    subst (IsRead (codes "x" ∷ ps)) w.4 (ap (λ (z : List (List ℕ)). codes "x" ∷ z) (last_takes ps p is ∙ (λ i. ns.0 i ++ v.0 i ∷ [])), (ns.1, v.1))

exception_read : (ps : List (List ℕ)) (r : Row) → exception_in ps ≡ Some r → IsRead (codes "x" ∷ ps) r
exception_read ps r e = exception_by ps (cut_last ps) r refl e

headed : (head word : List ℕ) (ps : List (List ℕ)) (r : Row) → bytes_eq head word ≡ true → IsRead (word ∷ ps) r → IsRead (head ∷ ps) r
headed head word ps r e h = ((λ i. same_bytes head word e i ∷ ps) ∙ h.0, h.1)

model_read : (head : List ℕ) (ps : List (List ℕ)) (r : Row) → model_by head ps ≡ Some r → IsRead (head ∷ ps) r
model_read head ps r e =
    elim (pick (bytes_eq head (codes "z")) (sizes_in ps) _ (Some r) e) [
      | inl t ↦ headed head (codes "z") ps r t.0 (sizes_read ps r t.1)
      | inr f ↦
          elim (pick (bytes_eq head (codes "d")) (default_in ps) _ (Some r) f.1) [
            | inl t ↦ headed head (codes "d") ps r t.0 (default_read ps r t.1)
            | inr g ↦
                elim (pick (bytes_eq head (codes "x")) (exception_in ps) None (Some r) g.1) [
                  | inl t ↦ headed head (codes "x") ps r t.0 (exception_read ps r t.1)
                  | inr x ↦ let none : None ≡ Some r = x.1 in absurd cc
                ]
          ]
    ]

lemma_read : (head : List ℕ) (ps : List (List ℕ)) (r : Row) → lemma_by head ps ≡ Some r → IsRead (head ∷ ps) r
lemma_read head ps r e =
    elim (pick (bytes_eq head (codes "e")) (equality_in ps) _ (Some r) e) [
      | inl t ↦ headed head (codes "e") ps r t.0 (equality_read ps r t.1)
      | inr f ↦
          elim (pick (bytes_eq head (codes "c")) (cardinality_in ps) _ (Some r) f.1) [
            | inl t ↦ headed head (codes "c") ps r t.0 (cardinality_read ps r t.1)
            | inr g ↦
                elim (pick (bytes_eq head (codes "s")) (sum_in ps) _ (Some r) g.1) [
                  | inl t ↦ headed head (codes "s") ps r t.0 (sum_read ps r t.1)
                  | inr h ↦
                      elim (pick (bytes_eq head (codes "o")) (order_in ps) _ (Some r) h.1) [
                        | inl t ↦ headed head (codes "o") ps r t.0 (order_read ps r t.1)
                        | inr j ↦ model_read head ps r j.1
                      ]
                ]
          ]
    ]

by_read : (head : List ℕ) (ps : List (List ℕ)) (r : Row) → row_by head ps ≡ Some r → IsRead (head ∷ ps) r
by_read head ps r e =
    elim (pick (bytes_eq head (codes "b")) (begin_in ps) _ (Some r) e) [
      | inl t ↦ headed head (codes "b") ps r t.0 (begin_read ps r t.1)
      | inr f ↦
          elim (pick (bytes_eq head (codes "t")) (term_in ps) _ (Some r) f.1) [
            | inl t ↦ headed head (codes "t") ps r t.0 (term_read ps r t.1)
            | inr g ↦
                elim (pick (bytes_eq head (codes "i")) (instance_in ps) _ (Some r) g.1) [
                  | inl t ↦ headed head (codes "i") ps r t.0 (instance_read ps r t.1)
                  | inr h ↦
                      elim (pick (bytes_eq head (codes "r")) (resolution_in ps) _ (Some r) h.1) [
                        | inl t ↦ headed head (codes "r") ps r t.0 (resolution_read ps r t.1)
                        | inr j ↦
                            elim (pick (bytes_eq head (codes "q")) (ending_in ps) _ (Some r) j.1) [
                              | inl t ↦ headed head (codes "q") ps r t.0 (ending_read ps r t.1)
                              | inr k ↦ lemma_read head ps r k.1
                            ]
                      ]
                ]
          ]
    ]

pub row_takes : (ps : List (List ℕ)) (r : Row) → row_in ps ≡ Some r → IsRead ps r
row_takes [] r e = cc
row_takes (head ∷ ps) r e = by_read head ps r e

pub row_again : (r : Row) → FitsRow r → row_in (parts_of_row r) ≡ Some r
row_again (Row.Begin k) h = ap (option_map Row.Begin) (number_again k h)
row_again (Row.Body (Line.Term f args)) h = λ i. term_row (number_again f.0 h.0 i) (all_again term_at (λ (t : TermId). decimal t.0) FitsTerm term_again args h.1 i)
row_again (Row.Body (Line.Equality lits support)) h = ap equality_of (slash_again (parts_of_literals lits) (parts_of_terms support) (literals_no_slash lits)) ∙ (λ i. equality_row (all_again literal_in part_of_literal FitsLiteral literal_again lits h.0 i) (all_again term_at (λ (t : TermId). decimal t.0) FitsTerm term_again support h.1 i))
row_again (Row.Body (Line.Cardinality s k ts)) h = λ i. cardinality_row (two_numbers (number_again s.0 h.0 i) (number_again k h.1 i)) (all_again term_at (λ (t : TermId). decimal t.0) FitsTerm term_again ts h.2 i)
row_again (Row.Body (Line.OrderCard s k)) h = λ i. card_row (two_numbers (number_again s.0 h.0 i) (number_again k h.1 i))
row_again (Row.Body (Line.OrderBound n)) h = ap bound_row (number_again n h)
row_again (Row.Body (Line.Instance c ts)) h = λ i. instance_row (number_again c h.0 i) (all_again term_at (λ (t : TermId). decimal t.0) FitsTerm term_again ts h.1 i)
row_again (Row.Body (Line.Sum n ks)) h = λ i. sum_row (number_again n h.0 i) (all_again number_in decimal IsNumber number_again ks h.1 i)
row_again (Row.Body (Line.OrderZero s)) h = ap zero_row (number_again s.0 h)
row_again (Row.Body (Line.Resolution c [])) h = absurd (h.1 refl)
row_again (Row.Body (Line.Resolution c (s ∷ ss))) h = λ i. resolution_row (number_again c h.0 i) (steps_again (s ∷ ss) h.2 i)
row_again Row.Unsat h = refl
row_again (Row.Sat sum) h = ap (option_map Row.Sat) (number_again sum h)
row_again (Row.Unknown i d) h = λ k. unknown_row (two_numbers (number_again i h.0 k) (number_again d h.1 k))
row_again (Row.Sizes ks) h = ap sizes_of (all_again number_in decimal IsNumber number_again ks h)
row_again (Row.Default v) h = ap (option_map Row.Default) (number_again v h)
row_again (Row.Exception tuple v) h = ap exception_of (last_again (map decimal tuple) (decimal v)) ∙ (λ i. exception_row (all_again number_in decimal IsNumber number_again tuple h.0 i) (number_again v h.1 i))

abbrev ArePlain : List (List ℕ) → Type 0
ArePlain ps = AllByRecursion (λ p. is_plain p ≡ true) ps

terms_plain : (ts : List TermId) → AllByRecursion FitsTerm ts → ArePlain (parts_of_terms ts)
terms_plain ts h = all_plain term_at (λ (t : TermId). decimal t.0) FitsTerm (λ t k. decimal_plain t.0 k) ts h

literals_plain : (ls : List Literal) → AllByRecursion FitsLiteral ls → ArePlain (parts_of_literals ls)
literals_plain ls h = all_plain literal_in part_of_literal FitsLiteral literal_plain ls h

row_plain : (r : Row) → FitsRow r → ArePlain (parts_of_row r)
row_plain (Row.Begin k) h = (refl, (decimal_plain k h, tt))
row_plain (Row.Body (Line.Term f args)) h = (refl, (decimal_plain f.0 h.0, terms_plain args h.1))
row_plain (Row.Body (Line.Equality lits support)) h = (refl, all_join (λ p. is_plain p ≡ true) (parts_of_literals lits) (slash ∷ parts_of_terms support) (literals_plain lits h.0) (refl, terms_plain support h.1))
row_plain (Row.Body (Line.Cardinality s k ts)) h = (refl, (decimal_plain s.0 h.0, (decimal_plain k h.1, terms_plain ts h.2)))
row_plain (Row.Body (Line.OrderCard s k)) h = (refl, (refl, (decimal_plain s.0 h.0, (decimal_plain k h.1, tt))))
row_plain (Row.Body (Line.OrderBound n)) h = (refl, (refl, (decimal_plain n h, tt)))
row_plain (Row.Body (Line.Instance c ts)) h = (refl, (decimal_plain c h.0, terms_plain ts h.1))
row_plain (Row.Body (Line.Sum n ks)) h = (refl, (decimal_plain n h.0, all_plain number_in decimal IsNumber decimal_plain ks h.1))
row_plain (Row.Body (Line.OrderZero s)) h = (refl, (refl, (decimal_plain s.0 h, tt)))
row_plain (Row.Body (Line.Resolution c ss)) h = (refl, (decimal_plain c h.0, steps_plain ss h.2))
row_plain Row.Unsat h = (refl, (refl, tt))
row_plain (Row.Sat sum) h = (refl, (refl, (decimal_plain sum h, tt)))
row_plain (Row.Unknown i d) h = (refl, (refl, (decimal_plain i h.0, (decimal_plain d h.1, tt))))
row_plain (Row.Sizes ks) h = (refl, all_plain number_in decimal IsNumber decimal_plain ks h)
row_plain (Row.Default v) h = (refl, (decimal_plain v h, tt))
row_plain (Row.Exception tuple v) h = (refl, all_join (λ p. is_plain p ≡ true) (map decimal tuple) (decimal v ∷ []) (all_plain number_in decimal IsNumber decimal_plain tuple h.0) (decimal_plain v h.1, tt))

-- the text of a row is its parts, joined by blanks
blanked : List (List ℕ) → List ℕ
blanked [] = []
blanked (p ∷ ps) = 32 ∷ (p ++ blanked ps)

join_more : (p : List ℕ) (ps : List (List ℕ)) → join_with_byte 32 (p ∷ ps) ≡ p ++ blanked ps
unfolding blanked
join_more p [] = sym (append-nil p)
join_more p (q ∷ ps) = ap (λ (z : List ℕ). p ++ 32 ∷ z) (join_more q ps)

tail_text : (n : List ℕ) (ps : List (List ℕ)) (x : List ℕ) → x ≡ blanked ps → n ++ x ++ line_feed ≡ join_with_byte 32 (n ∷ ps) ++ line_feed
tail_text n ps x e = ap (λ (z : List ℕ). z ++ line_feed) (ap (λ (z : List ℕ). n ++ z) e ∙ sym (join_more n ps))

blanked_terms : (ts : List TermId) → flat_map spelling_of_term ts ≡ blanked (parts_of_terms ts)
unfolding blanked
blanked_terms [] = refl
blanked_terms (t ∷ ts) = ap (λ (z : List ℕ). 32 ∷ (decimal t.0 ++ z)) (blanked_terms ts)

blanked_numbers : (ns : List ℕ) → spelling_of_numbers ns ≡ blanked (map decimal ns)
unfolding blanked
blanked_numbers [] = refl
blanked_numbers (n ∷ ns) = ap (λ (z : List ℕ). 32 ∷ (decimal n ++ z)) (blanked_numbers ns)

blanked_steps : (ss : List (Literal × ℕ)) → flat_map spelling_of_step ss ≡ blanked (parts_of_steps ss)
unfolding blanked
blanked_steps [] = refl
blanked_steps (s ∷ ss) =
    let literal = spelling_of_sign s.0.positive ++ spelling_of_atom s.0.atom in
    ap (λ (z : List ℕ). 32 ∷ z) (append_assoc literal (32 ∷ decimal s.1) (flat_map spelling_of_step ss) ∙ ap (λ (z : List ℕ). literal ++ 32 ∷ (decimal s.1 ++ z)) (blanked_steps ss))

blanked_literals : (ls : List Literal) → flat_map spelling_of_literal ls ≡ blanked (parts_of_literals ls)
unfolding blanked
blanked_literals [] = refl
blanked_literals (l ∷ ls) = ap (λ (z : List ℕ). 32 ∷ ((spelling_of_sign l.positive ++ spelling_of_atom l.atom) ++ z)) (blanked_literals ls)

blanked_append : (ps qs : List (List ℕ)) → blanked (ps ++ qs) ≡ blanked ps ++ blanked qs
unfolding blanked
blanked_append [] qs = refl
blanked_append (p ∷ ps) qs = ap (λ (z : List ℕ). 32 ∷ z) (ap (λ (z : List ℕ). p ++ z) (blanked_append ps qs) ∙ sym (append_assoc p (blanked ps) (blanked qs)))

-- a word, some parts, and one more part with others behind it
split_text : (word x : List ℕ) (ps : List (List ℕ)) (y : List ℕ) (qs : List (List ℕ)) → x ≡ blanked ps → y ≡ blanked qs → word ++ (x ++ y) ++ line_feed ≡ join_with_byte 32 (word ∷ (ps ++ qs)) ++ line_feed
split_text word x ps y qs e f = tail_text word (ps ++ qs) (x ++ y) ((λ i. e i ++ f i) ∙ sym (blanked_append ps qs))

one_blanked : (n : ℕ) → 32 ∷ decimal n ≡ blanked (decimal n ∷ [])
unfolding blanked
one_blanked n = ap (λ (z : List ℕ). 32 ∷ z) (sym (append-nil (decimal n)))

slash_blanked : (ts : List TermId) → 32 ∷ 47 ∷ flat_map spelling_of_term ts ≡ blanked (slash ∷ parts_of_terms ts)
unfolding blanked
slash_blanked ts = ap (λ (z : List ℕ). 32 ∷ 47 ∷ z) (blanked_terms ts)

two_text : (m n : List ℕ) (ts : List TermId) → m ++ (32 ∷ n) ++ flat_map spelling_of_term ts ++ line_feed ≡ join_with_byte 32 (m ∷ n ∷ parts_of_terms ts) ++ line_feed
unfolding blanked
two_text m n ts =
    let x = flat_map spelling_of_term ts in
    ap (λ (z : List ℕ). z ++ line_feed) (append_assoc m (32 ∷ n) x) ∙ tail_text m (n ∷ parts_of_terms ts) (32 ∷ (n ++ x)) (ap (λ (z : List ℕ). 32 ∷ (n ++ z)) (blanked_terms ts))

pub text_of_row : (r : Row) → FitsRow r → spelling_of_row r ≡ join_with_byte 32 (parts_of_row r) ++ line_feed
text_of_row (Row.Begin k) h = refl
text_of_row (Row.Body (Line.Term f args)) h = ap (λ (z : List ℕ). 116 ∷ 32 ∷ z) (tail_text (decimal f.0) (parts_of_terms args) (flat_map spelling_of_term args) (blanked_terms args))
text_of_row (Row.Body (Line.Equality lits support)) h =
    let l = flat_map spelling_of_literal lits in
    let t = flat_map spelling_of_term support in
    ap (λ (z : List ℕ). z ++ line_feed) (append_assoc (101 ∷ l) (32 ∷ 47 ∷ []) t) ∙ split_text (codes "e") l (parts_of_literals lits) (32 ∷ 47 ∷ t) (slash ∷ parts_of_terms support) (blanked_literals lits) (slash_blanked support)
text_of_row (Row.Body (Line.Cardinality s k ts)) h = ap (λ (z : List ℕ). 99 ∷ 32 ∷ z) (two_text (decimal s.0) (decimal k) ts)
text_of_row (Row.Body (Line.OrderCard s k)) h = refl
text_of_row (Row.Body (Line.OrderBound n)) h = refl
text_of_row (Row.Body (Line.Instance c ts)) h = ap (λ (z : List ℕ). 105 ∷ 32 ∷ z) (tail_text (decimal c) (parts_of_terms ts) (flat_map spelling_of_term ts) (blanked_terms ts))
text_of_row (Row.Body (Line.Sum n ks)) h = ap (λ (z : List ℕ). 115 ∷ 32 ∷ z) (tail_text (decimal n) (map decimal ks) (spelling_of_numbers ks) (blanked_numbers ks))
text_of_row (Row.Body (Line.OrderZero s)) h = refl
text_of_row (Row.Body (Line.Resolution c ss)) h = ap (λ (z : List ℕ). 114 ∷ 32 ∷ z) (tail_text (decimal c) (parts_of_steps ss) (flat_map spelling_of_step ss) (blanked_steps ss))
text_of_row Row.Unsat h = refl
text_of_row (Row.Sat sum) h = refl
text_of_row (Row.Unknown i d) h = refl
text_of_row (Row.Sizes ks) h = tail_text (codes "z") (map decimal ks) (spelling_of_numbers ks) (blanked_numbers ks)
text_of_row (Row.Default v) h = refl
text_of_row (Row.Exception tuple v) h = split_text (codes "x") (spelling_of_numbers tuple) (map decimal tuple) (32 ∷ decimal v) (decimal v ∷ []) (blanked_numbers tuple) (one_blanked v)

-- no blank and no line feed in a plain part
no_blank : (p : List ℕ) → is_plain p ≡ true → list_all (λ b. not (b == 32)) p ≡ true
no_blank [] e = refl
no_blank (b ∷ bs) e =
    let p = and_parts (is_plain_byte b) (is_plain bs) e in
    and_from (not (b == 32)) (list_all (λ c. not (c == 32)) bs) (and_parts (not (b == 32)) (not (b == 10)) p.0).0 (no_blank bs p.1)

no_feed : (p : List ℕ) → is_plain p ≡ true → list_all (λ b. not (b == 10)) p ≡ true
no_feed [] e = refl
no_feed (b ∷ bs) e =
    let p = and_parts (is_plain_byte b) (is_plain bs) e in
    and_from (not (b == 10)) (list_all (λ c. not (c == 10)) bs) (and_parts (not (b == 32)) (not (b == 10)) p.0).1 (no_feed bs p.1)

joined_feed : (ps : List (List ℕ)) → ArePlain ps → list_all (λ b. not (b == 10)) (join_with_byte 32 ps) ≡ true
joined_feed [] h = refl
joined_feed (p ∷ []) h = no_feed p h.0
joined_feed (p ∷ q ∷ ps) h = list_all-append (λ b. not (b == 10)) p (32 ∷ join_with_byte 32 (q ∷ ps)) ∙ and_from (list_all (λ b. not (b == 10)) p) (list_all (λ b. not (b == 10)) (join_with_byte 32 (q ∷ ps))) (no_feed p h.0) (joined_feed (q ∷ ps) h.1)

parts_again : (p : List ℕ) (ps : List (List ℕ)) → ArePlain (p ∷ ps) → parts_in (join_with_byte 32 (p ∷ ps)) ≡ p ∷ ps
parts_again p [] h = parts_none p (sym (cut_nowhere 32 p (no_blank p h.0)))
parts_again p (q ∷ ps) h = parts_some (p ++ 32 ∷ join_with_byte 32 (q ∷ ps)) p (join_with_byte 32 (q ∷ ps)) (sym (cut_again 32 p (join_with_byte 32 (q ∷ ps)) (no_blank p h.0) refl)) ∙ ap (λ (z : List (List ℕ)). p ∷ z) (parts_again q ps h.1)

has_head : (r : Row) → FitsRow r → (p : List ℕ) × (ps : List (List ℕ)) × (parts_of_row r ≡ p ∷ ps)
has_head r h = by_parts (parts_of_row r) r refl (row_again r h)
  where
    by_parts : (qs : List (List ℕ)) (r : Row) → parts_of_row r ≡ qs → row_in (parts_of_row r) ≡ Some r → (p : List ℕ) × (ps : List (List ℕ)) × (parts_of_row r ≡ p ∷ ps)
    by_parts [] r is e = let none : None ≡ Some r = ap row_in (sym is) ∙ e in absurd cc
    by_parts (p ∷ ps) r is e = (p, ps, is)

row_parts : (r : Row) → FitsRow r → parts_in (join_with_byte 32 (parts_of_row r)) ≡ parts_of_row r
row_parts r h =
    let p = has_head r h in
    subst (λ (qs : List (List ℕ)). parts_in (join_with_byte 32 qs) ≡ qs) (sym p.2) (parts_again p.0 p.1 (subst ArePlain p.2 (row_plain r h)))

-- The line at the front of a text.
pub first_row_takes : (text line more : List ℕ) (r : Row) → Some (line, more) ≡ cut 10 text → Some r ≡ row_in (parts_in line) → IsFirstRow text r more
first_row_takes text line more r e f =
    let h = row_takes (parts_in line) r (sym f) in
    let joined : line ≡ join_with_byte 32 (parts_of_row r) = sym (join_with_byte-slice_split 32 line) ∙ ap (join_with_byte 32) h.0 in
    record {
      is = cut_takes 10 text (line, more) (sym e) ∙ (ap (λ (z : List ℕ). z ++ 10 ∷ more) joined ∙ (sym (append_assoc (join_with_byte 32 (parts_of_row r)) line_feed more) ∙ ap (λ (z : List ℕ). z ++ more) (sym (text_of_row r h.1))));
      fits = h.1;
    }

pub first_row_again : (text more : List ℕ) (r : Row) → IsFirstRow text r more → (cut 10 text ≡ Some (join_with_byte 32 (parts_of_row r), more)) × (row_in (parts_in (join_with_byte 32 (parts_of_row r))) ≡ Some r)
first_row_again text more r h =
    let joined = join_with_byte 32 (parts_of_row r) in
    let is : text ≡ joined ++ 10 ∷ more = h.is ∙ (ap (λ (z : List ℕ). z ++ more) (text_of_row r h.fits) ∙ append_assoc joined line_feed more) in
    (ap (cut 10) is ∙ cut_again 10 joined more (joined_feed (parts_of_row r) (row_plain r h.fits)) refl, ap row_in (row_parts r h.fits) ∙ row_again r h.fits)
