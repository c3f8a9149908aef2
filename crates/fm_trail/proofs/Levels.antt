-- Levels of entries, the places of the decisions, and what going back leaves.
use Rattle.std.proofs.Common.{◌≡◌, ℕ, zero, suc, ◌+◌, ◌<◌, ◌≤◌, Bool, true, false, cond, List, [], ◌∷◌, ◌++◌, length, take, Some, None, refl, sym, subst, ap, ◌∙◌, arith, add-zero}
use Rattle.std.specs.Prelude.{slice_get, slice_set, nat_le}
use Rattle.std.proofs.lemmas.Bool.{le-leb, leb-true}
use Rattle.std.proofs.lemmas.List.{length-take-le, length_push}
use Rattle.fm_trail.specs.declared.entry.Entry.{Entry}
use Rattle.fm_base.specs.declared.ids.Reader.{Reader}
use Rattle.fm_trail.specs.declared.heads.Heads.{Heads}
use Rattle.fm_trail.specs.Trail.{AreLevelled, ArePlaced, AreWithin, IsTrail, decisions_in, heads_back, is_decided, level_of, openings, up_to, value_of, with_head}
use Rattle.fm_trail.proofs.Places.{placed_front, placed_more, placed_push}

count_step : (at : ℕ) (es : List Entry) (b : Bool) (n : ℕ) → length (openings (at + 1) es) ≡ n → length (cond b (at ∷ openings (at + 1) es) (openings (at + 1) es)) ≡ cond b 1 0 + n
count_step at es true n is = omega arith
count_step at es false n is = omega arith

pub openings-length : (at : ℕ) (es : List Entry) → length (openings at es) ≡ level_of es
openings-length at [] = refl
openings-length at (e ∷ es) = count_step at es (is_decided e.why) (level_of es) (openings-length (at + 1) es)

pub levelled_push : (n : ℕ) (es : List Entry) (e : Entry) → AreLevelled n es → e.level ≡ n + level_of es + decisions_in e → AreLevelled n (es ++ e ∷ [])
levelled_push n [] e h is = (omega arith, tt)
levelled_push n (d ∷ es) e h is = (h.0, levelled_push d.level es e h.1 (omega (arith, h.0)))

pub levelled_front : (n : ℕ) (es : List Entry) (k : ℕ) → AreLevelled n es → AreLevelled n (take k es)
levelled_front n es zero h = tt
levelled_front n [] (suc k) h = tt
levelled_front n (e ∷ es) (suc k) h = (h.0, levelled_front e.level es k h.1)

-- what a further entry adds to the places of the decisions
abbrev pub opening : ℕ → Entry → List ℕ
opening at e = cond (is_decided e.why) (at ∷ []) []

opening_first : (at : ℕ) (e : Entry) (b : Bool) → is_decided e.why ≡ b → cond b (at ∷ []) [] ≡ opening (at + 0) e
opening_first at e b is = rw add-zero (λ i. cond (sym is i) (at ∷ []) [])

push_step : (at : ℕ) (b : Bool) (xs ys zs : List ℕ) → xs ≡ ys ++ zs → cond b (at ∷ xs) xs ≡ cond b (at ∷ ys) ys ++ zs
push_step at true xs ys zs is = ap (λ (r : List ℕ). at ∷ r) is
push_step at false xs ys zs is = is

pub openings_push : (at : ℕ) (es : List Entry) (e : Entry) → openings at (es ++ e ∷ []) ≡ openings at es ++ opening (at + length es) e
openings_push at [] e = opening_first at e (is_decided e.why) refl
openings_push at (d ∷ es) e =
    let s : at + 1 + length es ≡ at + suc (length es) = omega arith in
    push_step at (is_decided d.why) (openings (at + 1) (es ++ e ∷ [])) (openings (at + 1) es) (opening (at + suc (length es)) e) (openings_push (at + 1) es e ∙ ap (λ (n : ℕ). openings (at + 1) es ++ opening n e) s)

none_step : (j : ℕ) (e : Entry) (rest : List Entry) (b : Bool) → nat_le e.level j ≡ b → j < e.level → rest ≡ [] → cond b (e ∷ rest) rest ≡ []
none_step j e rest true is lt none = absurd (let le = leb-true e.level j is in omega arith)
none_step j e rest false is lt none = none

-- no entry after n decisions has a level below n
pub up_to_none : (n j : ℕ) (es : List Entry) → AreLevelled n es → j < n → up_to j es ≡ []
up_to_none n j [] h lt = refl
up_to_none n j (e ∷ es) h lt =
    let above : j < e.level = omega (arith, h.0) in
    none_step j e (up_to j es) (nat_le e.level j) refl above (up_to_none e.level j es h.1 above)

up_to_first : (j : ℕ) (e : Entry) (es : List Entry) → e.level ≤ j → up_to j (e ∷ es) ≡ e ∷ up_to j es
up_to_first j e es le = ap (λ (b : Bool). cond b (e ∷ up_to j es) (up_to j es)) (le-leb e.level j le)

-- where a level was opened, the entries before it are those of lower levels
pub record IsCut (n at : ℕ) (es : List Entry) (level p : ℕ) : Type 0 where
  pub front : ℕ
  pub place : p ≡ at + front
  pub within : front ≤ length es
  pub content : take front es ≡ up_to (n + level) es
  pub opened : openings at (take front es) ≡ take level (openings at es)

cut_later : (n at : ℕ) (e : Entry) (es : List Entry) (level rest p : ℕ) → is_decided e.why ≡ true → e.level ≡ n + 1 → level ≡ suc rest → IsCut e.level (at + 1) es rest p → IsCut n at (e ∷ es) level p
cut_later n at e es level rest p dec lev is c =
    let q : n + level ≡ e.level + rest = omega arith in
    let le : e.level ≤ n + level = omega arith in
    record {
      front = suc c.front;
      place = omega (arith, c.place);
      within = omega (arith, c.within);
      content = ap (λ (xs : List Entry). e ∷ xs) (c.content ∙ ap (λ (j : ℕ). up_to j es) (sym q)) ∙ sym (up_to_first (n + level) e es le);
      opened = (λ i. cond (dec i) (at ∷ openings (at + 1) (take c.front es)) (openings (at + 1) (take c.front es))) ∙ (ap (λ (xs : List ℕ). at ∷ xs) c.opened ∙ (sym (ap (λ (k : ℕ). take k (at ∷ openings (at + 1) es)) is) ∙ λ i. take level (cond (sym dec i) (at ∷ openings (at + 1) es) (openings (at + 1) es))));
    }

cut_implied : (n at : ℕ) (e : Entry) (es : List Entry) (level p : ℕ) → is_decided e.why ≡ false → e.level ≡ n → IsCut e.level (at + 1) es level p → IsCut n at (e ∷ es) level p
cut_implied n at e es level p dec lev c =
    let q : n + level ≡ e.level + level = omega arith in
    let le : e.level ≤ n + level = omega arith in
    record {
      front = suc c.front;
      place = omega (arith, c.place);
      within = omega (arith, c.within);
      content = ap (λ (xs : List Entry). e ∷ xs) (c.content ∙ ap (λ (j : ℕ). up_to j es) (sym q)) ∙ sym (up_to_first (n + level) e es le);
      opened = (λ i. cond (dec i) (at ∷ openings (at + 1) (take c.front es)) (openings (at + 1) (take c.front es))) ∙ (c.opened ∙ λ i. take level (cond (sym dec i) (at ∷ openings (at + 1) es) (openings (at + 1) es)));
    }

cut_here : (n at : ℕ) (e : Entry) (es : List Entry) (level p : ℕ) → e.level ≡ n + 1 → AreLevelled e.level es → level ≡ 0 → p ≡ at → IsCut n at (e ∷ es) level p
cut_here n at e es level p lev h zero' is =
    let lt : n + level < e.level = omega arith in
    record {
      front = 0;
      place = omega arith;
      within = omega arith;
      content = sym (none_step (n + level) e (up_to (n + level) es) (nat_le e.level (n + level)) refl lt (up_to_none e.level (n + level) es h lt));
      opened = sym (ap (λ (k : ℕ). take k (openings at (e ∷ es))) zero');
    }

cut_step : (n at : ℕ) (e : Entry) (es : List Entry) (level p : ℕ) (b : Bool) → is_decided e.why ≡ b → e.level ≡ n + cond b 1 0 → AreLevelled e.level es → ((k : ℕ) → slice_get (openings (at + 1) es) k ≡ Some p → IsCut e.level (at + 1) es k p) → slice_get (cond b (at ∷ openings (at + 1) es) (openings (at + 1) es)) level ≡ Some p → IsCut n at (e ∷ es) level p
cut_step n at e es zero p true dec lev h rest is = let here : at ≡ p = cc in cut_here n at e es 0 p lev h refl (sym here)
cut_step n at e es (suc level) p true dec lev h rest is = cut_later n at e es (suc level) level p dec lev refl (rest level is)
cut_step n at e es level p false dec lev h rest is = let same : e.level ≡ n = omega arith in cut_implied n at e es level p dec same (rest level is)

pub cut : (n at : ℕ) (es : List Entry) (level p : ℕ) → AreLevelled n es → slice_get (openings at es) level ≡ Some p → IsCut n at es level p
cut n at [] level p h is = absurd cc
cut n at (e ∷ es) level p h is = cut_step n at e es level p (is_decided e.why) refl h.0 h.1 (λ k at'. cut e.level (at + 1) es k p h.1 at') is

pub none_past : {X : Type 0} (xs : List X) (i : ℕ) → slice_get xs i ≡ None → length xs ≤ i
none_past [] i is = omega arith
none_past (x ∷ xs) zero is = absurd cc
none_past (x ∷ xs) (suc i) is = omega (arith, none_past xs i is)

pub within_more : (h : Heads) (reader : Reader) (n end : ℕ) → n ≤ end → AreWithin h end → AreWithin (with_head h reader n) end
within_more h Reader.Congruence n end le w Reader.Congruence = le
within_more h Reader.Congruence n end le w Reader.Regions = w Reader.Regions
within_more h Reader.Congruence n end le w Reader.Sum = w Reader.Sum
within_more h Reader.Congruence n end le w Reader.Instances = w Reader.Instances
within_more h Reader.Regions n end le w Reader.Congruence = w Reader.Congruence
within_more h Reader.Regions n end le w Reader.Regions = le
within_more h Reader.Regions n end le w Reader.Sum = w Reader.Sum
within_more h Reader.Regions n end le w Reader.Instances = w Reader.Instances
within_more h Reader.Sum n end le w Reader.Congruence = w Reader.Congruence
within_more h Reader.Sum n end le w Reader.Regions = w Reader.Regions
within_more h Reader.Sum n end le w Reader.Sum = le
within_more h Reader.Sum n end le w Reader.Instances = w Reader.Instances
within_more h Reader.Instances n end le w Reader.Congruence = w Reader.Congruence
within_more h Reader.Instances n end le w Reader.Regions = w Reader.Regions
within_more h Reader.Instances n end le w Reader.Sum = w Reader.Sum
within_more h Reader.Instances n end le w Reader.Instances = le

pub within_back : (h : Heads) (end : ℕ) → AreWithin (heads_back end h) end
within_back h end Reader.Congruence = omega arith
within_back h end Reader.Regions = omega arith
within_back h end Reader.Sum = omega arith
within_back h end Reader.Instances = omega arith

-- more room in the table, and nothing else
pub trail_longer : (es es' : List Entry) (op op' pl pl' : List ℕ) (h : Heads) → IsTrail es op pl h → es' ≡ es → op' ≡ op → (more : List ℕ) × (pl' ≡ pl ++ more) → IsTrail es' op' pl' h
trail_longer es es' op op' pl pl' h t se so (more, sp) =
    let placed : ArePlaced es pl' = subst (ArePlaced es) (sym sp) (placed_more es pl more t.placed) in
    record {
      levels = subst (AreLevelled 0) (sym se) t.levels;
      opened_at = so ∙ (t.opened_at ∙ ap (openings 0) (sym se));
      placed = subst (λ (xs : List Entry). ArePlaced xs pl') (sym se) placed;
      within = subst (λ (xs : List Entry). AreWithin h (length xs)) (sym se) t.within;
    }

within_longer : (h : Heads) (m n : ℕ) → m ≤ n → AreWithin h m → AreWithin h n
within_longer h m n le w reader = omega (arith, w reader)

-- one entry more
pub trail_push : (es es' : List Entry) (op op' pl pl' : List ℕ) (h : Heads) (e : Entry) → IsTrail es op pl h → value_of es e.lit.atom ≡ None → e.level ≡ level_of es + decisions_in e → e.lit.atom.0 < length pl → es' ≡ es ++ e ∷ [] → op' ≡ op ++ opening (length es) e → pl' ≡ slice_set pl e.lit.atom.0 (length es) → IsTrail es' op' pl' h
trail_push es es' op op' pl pl' h e t open' level lt se so sp =
    let z : 0 + length es ≡ length es = omega arith in
    let more : length es ≤ length (es ++ e ∷ []) = omega (arith, length_push es e) in
    let placed : ArePlaced (es ++ e ∷ []) pl' = subst (ArePlaced (es ++ e ∷ [])) (sym sp) (placed_push es pl e t.placed open' lt) in
    record {
      levels = subst (AreLevelled 0) (sym se) (levelled_push 0 es e t.levels (omega (arith, level)));
      opened_at = so ∙ (ap (λ (xs : List ℕ). xs ++ opening (length es) e) t.opened_at ∙ (ap (λ (n : ℕ). openings 0 es ++ opening n e) (sym z) ∙ (sym (openings_push 0 es e) ∙ ap (openings 0) (sym se))));
      placed = subst (λ (xs : List Entry). ArePlaced xs pl') (sym se) placed;
      within = subst (λ (xs : List Entry). AreWithin h (length xs)) (sym se) (within_longer h (length es) (length (es ++ e ∷ [])) more t.within);
    }

pub cut_of : (es : List Entry) (op pl : List ℕ) (h : Heads) (level p : ℕ) → IsTrail es op pl h → slice_get op level ≡ Some p → IsCut 0 0 es level p
cut_of es op pl h level p t is = cut 0 0 es level p t.levels (subst (λ (xs : List ℕ). slice_get xs level ≡ Some p) t.opened_at is)

-- what going back to a level leaves
pub back_at : (es : List Entry) (op pl : List ℕ) (h : Heads) (level p : ℕ) → IsTrail es op pl h → slice_get op level ≡ Some p → (take p es ≡ up_to level es) × (openings 0 (take p es) ≡ take level op) × (length (take p es) ≡ p)
back_at es op pl h level p t is =
    let c = cut_of es op pl h level p t is in
    let q : c.front ≡ p = omega (arith, c.place) in
    let z : 0 + level ≡ level = omega arith in
    (ap (λ (n : ℕ). take n es) (sym q) ∙ (c.content ∙ ap (λ (n : ℕ). up_to n es) z), ap (λ (n : ℕ). openings 0 (take n es)) (sym q) ∙ (c.opened ∙ ap (take level) (sym t.opened_at)), length-take-le p es (omega (arith, c.within)))

pub trail_back : (es es' : List Entry) (op op' pl : List ℕ) (h h' : Heads) (level p : ℕ) → IsTrail es op pl h → slice_get op level ≡ Some p → es' ≡ take p es → op' ≡ take level op → h' ≡ heads_back p h → IsTrail es' op' pl h'
trail_back es es' op op' pl h h' level p t is se so sh =
    let b = back_at es op pl h level p t is in
    let w : AreWithin h' (length (take p es)) = subst (λ (k : Heads). AreWithin k (length (take p es))) (sym sh) (subst (AreWithin (heads_back p h)) (sym b.2) (within_back h p)) in
    record {
      levels = subst (AreLevelled 0) (sym se) (levelled_front 0 es p t.levels);
      opened_at = so ∙ (sym b.1 ∙ ap (openings 0) (sym se));
      placed = subst (λ (xs : List Entry). ArePlaced xs pl) (sym se) (placed_front es pl p t.placed);
      within = subst (λ (xs : List Entry). AreWithin h' (length xs)) (sym se) w;
    }
