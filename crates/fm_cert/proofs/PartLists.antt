-- Lists that are read part by part: what was read so far, and what the rest gives.
use Rattle.std.proofs.Common.{◌≡◌, ℕ, ◌+◌, ◌-◌, ◌*◌, ◌^◌, ◌<◌, ◌≤◌, Bool, true, false, List, [], ◌∷◌, ◌++◌, length, take, drop, get_or, map, Option, Some, None, refl, sym, ap, subst, ◌∙◌, append_assoc, append-nil, cond, inl, inr, arith}
use Rattle.std.specs.Prelude.{◌==◌, nat_lt}
use Rattle.std.proofs.lemmas.Bool.{cases_Bool, cond-true, cond-false, le-ltb, ltb-false}
use Rattle.std.specs.List.{onto_first}
use Rattle.std.specs.Str.{bytes_eq}
use Rattle.std.proofs.lemmas.List.{drop_all, drop_more, length-drop, map-append, take_more}
use Rattle.fm_bank.specs.declared.literal.Literal.{Literal}
use Rattle.fm_cert.specs.declared.row.Row.{Row}
use Rattle.fm_cert.specs.Parts.{all_in, before_last, cut, cut_last, cut_slash, exception_in, exception_of, exception_row, fitting, number_in, numbers_in, onto, parts_in, behind, slash, step_in, steps_in, value_from, with_item}

-- what was read, and then what the rest gives
abbrev pub put : {Y : Type 0} → List Y → Option (List Y) → Option (List Y)
put front None = None
put front (Some ys) = Some (front ++ ys)

put_with : {Y : Type 0} (front : List Y) (y : Y) (o : Option Y) (rest : Option (List Y)) → Some y ≡ o → put front (with_item o rest) ≡ put (front ++ y ∷ []) rest
put_with front y None rest e = cc
put_with front y (Some x) None e = refl
put_with front y (Some x) (Some ys) e = let same : y ≡ x = cc e in ap (λ z. Some (front ++ z ∷ ys)) (sym same) ∙ ap Some (sym (append_assoc front (y ∷ []) ys))

put_none : {Y : Type 0} (front : List Y) (o : Option Y) (rest : Option (List Y)) → None ≡ o → put front (with_item o rest) ≡ None
put_none front None rest e = refl
put_none front (Some x) rest e = cc

module _ {X Y : Type 0} (f : X → List ℕ) (one : List ℕ → Option Y) where
  next_item : (ps : List X) (i : ℕ) (d : X) → i < length ps → all_in one (map f (drop i ps)) ≡ with_item (one (f (get_or ps i d))) (all_in one (map f (drop (i + 1) ps)))
  next_item ps i d lt = ap (λ (qs : List X). all_in one (map f qs)) (drop_more ps i d lt)

  pub items_stop : (ps : List X) (i : ℕ) (d : X) (front : List Y) → i < length ps → all_in one (map f ps) ≡ put front (all_in one (map f (drop i ps))) → None ≡ one (f (get_or ps i d)) → None ≡ all_in one (map f ps)
  items_stop ps i d front lt so_far none = sym (so_far ∙ (ap (put front) (next_item ps i d lt) ∙ put_none front (one (f (get_or ps i d))) (all_in one (map f (drop (i + 1) ps))) none))

  pub items_more : (ps : List X) (i : ℕ) (d : X) (front new : List Y) (y : Y) → i < length ps → all_in one (map f ps) ≡ put front (all_in one (map f (drop i ps))) → Some y ≡ one (f (get_or ps i d)) → new ≡ front ++ y ∷ [] → all_in one (map f ps) ≡ put new (all_in one (map f (drop (i + 1) ps)))
  items_more ps i d front new y lt so_far some pushed = so_far ∙ (ap (put front) (next_item ps i d lt) ∙ (put_with front y (one (f (get_or ps i d))) (all_in one (map f (drop (i + 1) ps))) some ∙ ap (λ (ys : List Y). put ys (all_in one (map f (drop (i + 1) ps)))) (sym pushed)))

-- the parts of a line, cut by cut
by_cut : Option (List ℕ × List ℕ) → List ℕ → List (List ℕ)
by_cut None bs = bs ∷ []
by_cut (Some p) bs = p.0 ∷ parts_in p.1

parts_onto : (b : ℕ) (bs : List ℕ) (o : Option (List ℕ × List ℕ)) → parts_in bs ≡ by_cut o bs → onto_first b (parts_in bs) ≡ by_cut (onto b o) (b ∷ bs)
unfolding by_cut
parts_onto b bs None e = ap (onto_first b) e
parts_onto b bs (Some p) e = ap (onto_first b) e

parts_first : (b : ℕ) (bs : List ℕ) (t : Bool) → parts_in bs ≡ by_cut (cut 32 bs) bs → cond t ([] ∷ parts_in bs) (onto_first b (parts_in bs)) ≡ by_cut (cond t (Some ([], bs)) (onto b (cut 32 bs))) (b ∷ bs)
unfolding by_cut
parts_first b bs true e = refl
parts_first b bs false e = parts_onto b bs (cut 32 bs) e

parts_by_cut : (bs : List ℕ) → parts_in bs ≡ by_cut (cut 32 bs) bs
unfolding by_cut
parts_by_cut [] = refl
parts_by_cut (b ∷ bs) = parts_first b bs (b == 32) (parts_by_cut bs)

pub parts_some : (bs x y : List ℕ) → Some (x, y) ≡ cut 32 bs → parts_in bs ≡ x ∷ parts_in y
unfolding by_cut
parts_some bs x y e = parts_by_cut bs ∙ ap (λ (o : Option (List ℕ × List ℕ)). by_cut o bs) (sym e)

pub parts_none : (bs : List ℕ) → None ≡ cut 32 bs → parts_in bs ≡ bs ∷ []
unfolding by_cut
parts_none bs e = parts_by_cut bs ∙ ap (λ (o : Option (List ℕ × List ℕ)). by_cut o bs) (sym e)

-- what stands behind
abbrev pub snd_or : Option (List ℕ × List ℕ) → List ℕ
snd_or None = []
snd_or (Some p) = p.1

abbrev pub fst_or : Option (List ℕ × List ℕ) → List ℕ
fst_or None = []
fst_or (Some p) = p.0

shorter_onto : (b : ℕ) (bs y : List ℕ) (x : List ℕ) (t : Bool) (o : Option (List ℕ × List ℕ)) → ((u v : List ℕ) → Some (u, v) ≡ o → length v < length bs) → Some (x, y) ≡ cond t (Some ([], bs)) (onto b o) → length y < length (b ∷ bs)
shorter_onto b bs y x true o rest e =
    let pair : Some (x, y) ≡ Some ([], bs) = e in
    subst (λ (z : List ℕ). length z < length (b ∷ bs)) (sym (ap snd_or pair)) (omega arith)
shorter_onto b bs y x false None rest e = cc
shorter_onto b bs y x false (Some p) rest e =
    let pair : Some (x, y) ≡ Some (b ∷ p.0, p.1) = e in
    let same : y ≡ p.1 = ap snd_or (pair) in
    let h : length y < length bs = rest p.0 y (ap (λ (z : List ℕ). Some (p.0, z)) same) in
    omega (arith, h)

pub cut_shorter : (c : ℕ) (bs x y : List ℕ) → Some (x, y) ≡ cut c bs → length y < length bs
cut_shorter c [] x y e = cc
cut_shorter c (b ∷ bs) x y e = shorter_onto b bs y x (b == c) (cut c bs) (cut_shorter c bs) e

pub pushed : {X : Type 0} (f : X → List ℕ) (items new : List X) (part : X) → new ≡ items ++ part ∷ [] → map f new ≡ map f items ++ f part ∷ []
pushed f items new part e = ap (map f) e ∙ map-append f items (part ∷ [])

pub parts_more : (views : List (List ℕ)) (part more rest line : List ℕ) → Some (part, more) ≡ cut 32 rest → views ++ parts_in rest ≡ parts_in line → (views ++ part ∷ []) ++ parts_in more ≡ parts_in line
parts_more views part more rest line e h = append_assoc views (part ∷ []) (parts_in more) ∙ (ap (λ (ps : List (List ℕ)). views ++ ps) (sym (parts_some rest part more e)) ∙ h)

pub parts_last : (views : List (List ℕ)) (rest line : List ℕ) → None ≡ cut 32 rest → views ++ parts_in rest ≡ parts_in line → views ++ rest ∷ [] ≡ parts_in line
parts_last views rest line e h = ap (λ (ps : List (List ℕ)). views ++ ps) (sym (parts_none rest e)) ∙ h

-- the steps of a resolution, two parts each
module _ {X : Type 0} (f : X → List ℕ) where
  next_step : (ps : List X) (i : ℕ) (d : X) → i + 1 < length ps → steps_in (map f (drop i ps)) ≡ with_item (step_in (f (get_or ps i d)) (f (get_or ps (i + 1) d))) (steps_in (map f (drop (i + 2) ps)))
  next_step ps i d lt =
      let at : i + 1 + 1 ≡ i + 2 = omega arith in
      ap (λ (qs : List X). steps_in (map f qs)) (drop_more ps i d (omega arith) ∙ ap (λ (qs : List X). get_or ps i d ∷ qs) (drop_more ps (i + 1) d lt ∙ ap (λ (k : ℕ). get_or ps (i + 1) d ∷ drop k ps) at))

  pub steps_stop : (ps : List X) (i : ℕ) (d : X) (front : List (Literal × ℕ)) → i + 1 < length ps → steps_in (map f ps) ≡ put front (steps_in (map f (drop i ps))) → None ≡ step_in (f (get_or ps i d)) (f (get_or ps (i + 1) d)) → None ≡ steps_in (map f ps)
  steps_stop ps i d front lt so_far none = sym (so_far ∙ (ap (put front) (next_step ps i d lt) ∙ put_none front (step_in (f (get_or ps i d)) (f (get_or ps (i + 1) d))) (steps_in (map f (drop (i + 2) ps))) none))

  pub steps_more : (ps : List X) (i : ℕ) (d : X) (front new : List (Literal × ℕ)) (step : Literal × ℕ) → i + 1 < length ps → steps_in (map f ps) ≡ put front (steps_in (map f (drop i ps))) → Some step ≡ step_in (f (get_or ps i d)) (f (get_or ps (i + 1) d)) → new ≡ front ++ step ∷ [] → steps_in (map f ps) ≡ put new (steps_in (map f (drop (i + 2) ps)))
  steps_more ps i d front new step lt so_far some is = so_far ∙ (ap (put front) (next_step ps i d lt) ∙ (put_with front step (step_in (f (get_or ps i d)) (f (get_or ps (i + 1) d))) (steps_in (map f (drop (i + 2) ps))) some ∙ ap (λ (ss : List (Literal × ℕ)). put ss (steps_in (map f (drop (i + 2) ps)))) (sym is)))

  odd_part : (xs : List X) → length xs ≡ 1 → steps_in (map f xs) ≡ None
  odd_part [] e = absurd (omega (arith, e))
  odd_part (x ∷ []) e = refl
  odd_part (x ∷ y ∷ xs) e = absurd (omega (arith, e))

  pub steps_odd : (ps : List X) (i : ℕ) (front : List (Literal × ℕ)) → i < length ps → length ps ≤ i + 1 → steps_in (map f ps) ≡ put front (steps_in (map f (drop i ps))) → None ≡ steps_in (map f ps)
  steps_odd ps i front lt le so_far = sym (so_far ∙ ap (put front) (odd_part (drop i ps) (omega (arith, length-drop i ps))))

  pub steps_end : (ps : List X) (i : ℕ) (front : List (Literal × ℕ)) → length ps ≤ i → steps_in (map f ps) ≡ put front (steps_in (map f (drop i ps))) → Some front ≡ steps_in (map f ps)
  steps_end ps i front le so_far = sym (so_far ∙ (ap (λ (qs : List X). put front (steps_in (map f qs))) (drop_all i ps le) ∙ ap Some (append-nil front)))

-- the last part, and those before it
pub last_view : {X : Type 0} (f : X → List ℕ) (ys : List X) (x : X) → cut_last (map f (ys ++ x ∷ [])) ≡ Some (map f ys, f x)
last_view f [] x = refl
last_view f (y ∷ ys) x = ap (before_last (f y)) (last_view f ys x)

module _ {X : Type 0} (f : X → List ℕ) (xs ys : List X) (x : X) (is : xs ≡ ys ++ x ∷ []) where
  last_in : exception_in (map f xs) ≡ exception_row (numbers_in (map f ys)) (number_in (f x))
  last_in = ap exception_of (ap (λ (zs : List X). cut_last (map f zs)) is ∙ last_view f ys x)

  no_value : (o : Option (List ℕ)) → exception_row o None ≡ None
  no_value None = refl
  no_value (Some ns) = refl

  pub exception_stop : None ≡ number_in (f x) → None ≡ exception_in (map f xs)
  exception_stop e = sym (last_in ∙ (ap (exception_row (numbers_in (map f ys))) (sym e) ∙ no_value (numbers_in (map f ys))))

  pub exception_some : (v : ℕ) (ns : List ℕ) → Some v ≡ number_in (f x) → Some ns ≡ numbers_in (map f ys) → Some (Row.Exception ns v) ≡ exception_in (map f xs)
  exception_some v ns e g = (λ i. exception_row (g i) (e i)) ∙ sym last_in

  pub exception_none : (v : ℕ) → Some v ≡ number_in (f x) → None ≡ numbers_in (map f ys) → None ≡ exception_in (map f xs)
  exception_none v e g = (λ i. exception_row (g i) (e i)) ∙ sym last_in

-- the parts before the first `/`: those that were looked at are none
module _ {X : Type 0} (f : X → List ℕ) where
  next_slash : (ps : List X) (i : ℕ) (d : X) (b : Bool) → i < length ps → bytes_eq (f (get_or ps i d)) slash ≡ b → cut_slash (map f (drop i ps)) ≡ cond b (Some ([], map f (drop (i + 1) ps))) (onto (f (get_or ps i d)) (cut_slash (map f (drop (i + 1) ps))))
  next_slash ps i d b lt e = ap (λ (qs : List X). cut_slash (map f qs)) (drop_more ps i d lt) ∙ ap (λ (t : Bool). cond t (Some ([], map f (drop (i + 1) ps))) (onto (f (get_or ps i d)) (cut_slash (map f (drop (i + 1) ps))))) e

  behind_onto : (front : List (List ℕ)) (x : List ℕ) (o : Option (List (List ℕ) × List (List ℕ))) → behind front (onto x o) ≡ behind (front ++ x ∷ []) o
  behind_onto front x None = refl
  behind_onto front x (Some p) = ap (λ (z : List (List ℕ)). Some (z, p.1)) (sym (append_assoc front (x ∷ []) p.0))

  pub slash_more : (ps : List X) (i : ℕ) (d : X) → i < length ps → cut_slash (map f ps) ≡ behind (map f (take i ps)) (cut_slash (map f (drop i ps))) → false ≡ bytes_eq (f (get_or ps i d)) slash → cut_slash (map f ps) ≡ behind (map f (take (i + 1) ps)) (cut_slash (map f (drop (i + 1) ps)))
  slash_more ps i d lt so_far e =
      let rest = cut_slash (map f (drop (i + 1) ps)) in
      let front : map f (take (i + 1) ps) ≡ map f (take i ps) ++ f (get_or ps i d) ∷ [] = ap (map f) (take_more ps i d lt) ∙ map-append f (take i ps) (get_or ps i d ∷ []) in
      so_far ∙ (ap (behind (map f (take i ps))) (next_slash ps i d false lt (sym e)) ∙ (behind_onto (map f (take i ps)) (f (get_or ps i d)) rest ∙ ap (λ (z : List (List ℕ)). behind z rest) (sym front)))

  pub slash_here : (ps : List X) (i : ℕ) (d : X) → i < length ps → cut_slash (map f ps) ≡ behind (map f (take i ps)) (cut_slash (map f (drop i ps))) → true ≡ bytes_eq (f (get_or ps i d)) slash → Some (map f (take i ps), map f (drop (i + 1) ps)) ≡ cut_slash (map f ps)
  slash_here ps i d lt so_far e = sym (so_far ∙ (ap (behind (map f (take i ps))) (next_slash ps i d true lt (sym e)) ∙ ap (λ (z : List (List ℕ)). Some (z, map f (drop (i + 1) ps))) (append-nil (map f (take i ps)))))

  pub slash_nowhere : (ps : List X) (i : ℕ) → length ps ≤ i → cut_slash (map f ps) ≡ behind (map f (take i ps)) (cut_slash (map f (drop i ps))) → None ≡ cut_slash (map f ps)
  slash_nowhere ps i le so_far = sym (so_far ∙ ap (λ (qs : List X). behind (map f (take i ps)) (cut_slash (map f qs))) (drop_all i ps le))

pub value_from-grows : (n : ℕ) (ds : List ℕ) → n ≤ value_from n ds
value_from-grows n [] = omega arith
value_from-grows n (d ∷ ds) =
    let h = value_from-grows (n * 10 + (d - 48)) ds in
    omega (arith, h)

pub fitting-none : (n : ℕ) → None ≡ fitting n → 2 ^ 64 ≤ n
fitting-none n e =
    elim (cases_Bool (nat_lt n (2 ^ 64))) [
      | inl t ↦ let some : fitting n ≡ Some n = cond-true (nat_lt n (2 ^ 64)) (Some n) None t in absurd (cc (e ∙ some))
      | inr f ↦ ltb-false n (2 ^ 64) f
    ]

pub none-fitting : (n : ℕ) → 2 ^ 64 ≤ n → None ≡ fitting n
none-fitting n le = sym (cond-false (nat_lt n (2 ^ 64)) (Some n) None (le-ltb n (2 ^ 64) le))

pub stays_wide : (digits : List ℕ) (i sum d : ℕ) → i < length digits → value_from sum (drop i digits) ≡ value_from 0 digits → None ≡ fitting (sum * 10 + (get_or digits i d - 48)) → None ≡ fitting (value_from 0 digits)
stays_wide digits i sum d lt same wide =
    let next = fitting-none (sum * 10 + (get_or digits i d - 48)) wide in
    let there : value_from sum (drop i digits) ≡ value_from (sum * 10 + (get_or digits i d - 48)) (drop (i + 1) digits) = ap (λ ds. value_from sum ds) (drop_more digits i d lt) in
    let grows = value_from-grows (sum * 10 + (get_or digits i d - 48)) (drop (i + 1) digits) in
    none-fitting (value_from 0 digits) (subst (λ (n : ℕ). 2 ^ 64 ≤ n) (sym there ∙ same) (omega (arith, next, grows)))
