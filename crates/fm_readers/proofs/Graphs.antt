-- Terms registered one after the other, literals read and taken back, and what stays as a bank grows.
use Rattle.std.proofs.Common.{◌≡◌, ℕ, zero, suc, ◌+◌, ◌<◌, ◌≤◌, Bool, true, false, cond, List, [], ◌∷◌, ◌++◌, length, map, take, Option, Some, None, inl, inr, refl, sym, ap, subst, ◌∙◌, arith}
use Rattle.std.specs.Prelude.{◌==◌, nat_le, slice_get}
use Rattle.std.specs.List.{flat_map, range_with_len}
use Rattle.std.proofs.lemmas.Bool.{and_parts, cases_Bool, eq-eqb, eqb-true, false≢true}
use Rattle.std.proofs.lemmas.Grind.{flat_map-append}
use Rattle.std.proofs.lemmas.List.{append-nil, length-map, map-append, take-map}
use Rattle.std.proofs.lemmas.List.FromFn.{length-range_with_len}
use Rattle.fm_base.specs.Resolution.{Has}
use Rattle.fm_base.specs.declared.ids.AtomId.{AtomId}
use Rattle.fm_base.specs.declared.ids.SortId.{SortId}
use Rattle.fm_base.specs.declared.ids.TermId.{TermId}
use Rattle.fm_base.specs.declared.signature.Ty.{Ty}
use Rattle.fm_bank.specs.Closure.{Shape, shape_at, shapes_of}
use Rattle.fm_bank.specs.Interning.{Held, IsFront, IsHeld, are_of_one_sort}
use Rattle.fm_bank.specs.Terms.{Term, is_type, type_in, type_of}
use Rattle.fm_bank.specs.declared.atom.Atom.{Atom}
use Rattle.fm_cong.specs.Held.{HasArguments, IsRegistered, JoinsRegistered, NotesType, Registers, is_registered, typed_as, with_fact}
use Rattle.fm_cong.specs.Held.{Held as Graph}
use Rattle.fm_cong.specs.declared.fact.Fact.{Fact}
use Rattle.fm_rounds.proofs.Elements.{parts_of}
use Rattle.fm_rounds.proofs.Members.{any_in, flat_in, in_any, in_flat, in_range, range_in}
use Rattle.fm_bank.proofs.Meanings.{typed_within}
use Rattle.fm_steps.specs.Content.{is_size}
use Rattle.fm_steps.proofs.Due.{atom_step}
use Rattle.fm_steps.proofs.Lists.{Has-get, all_from}
use Rattle.fm_steps.proofs.Written.{has_place}
use Rattle.fm_trail.specs.Trail.{AreLevelled, decision, decisions_in, implied, is_decided, level_of, levels_of, up_to}
use Rattle.fm_trail.specs.declared.entry.Entry.{Entry}
use Rattle.fm_trail.specs.declared.entry.Why.{Why}
use Rattle.fm_trail.proofs.Going.{content_at, levels_back, levels_decided, levels_implied, up_to_all}
use Rattle.fm_readers.specs.Graphs.{GoesBack, GraphsStay, HasRead, HasTerms, ReadsOn, fact_at, facts_read, types_of}

range_more : (a n : ℕ) → range_with_len a (suc n) ≡ range_with_len a n ++ (a + n) ∷ []
range_more a zero = (let e : a ≡ a + 0 = omega arith in ap (λ m. m ∷ []) e)
range_more a (suc n) = (let e : a + 1 + n ≡ a + suc n = omega arith in ap (λ ms. a ∷ ms) (range_more (a + 1) n ∙ ap (λ m. range_with_len (a + 1) n ++ m ∷ []) e))

range_next : (n : ℕ) → range_with_len 0 (n + 1) ≡ range_with_len 0 n ++ n ∷ []
range_next n = (let up : n + 1 ≡ suc n = omega arith in let e : 0 + n ≡ n = omega arith in ap (range_with_len 0) up ∙ range_more 0 n ∙ ap (λ m. range_with_len 0 n ++ m ∷ []) e)

shape_number : (n : ℕ) (o : Option Term) (s : Shape) → Has (shape_at n o) s → s.number ≡ n
shape_number n None s h = absurd h
shape_number n (Some t) s (inl e) = ap (λ (x : Shape). x.number) (sym e)
shape_number n (Some t) s (inr h) = absurd h

some_term : (terms : List Term) (k : ℕ) → k < length terms → (t : Term) × (slice_get terms k ≡ Some t)
some_term [] k lt = absurd (omega (arith, lt))
some_term (t ∷ ts) zero lt = (t, refl)
some_term (t ∷ ts) (suc k) lt = some_term ts k (omega (arith, lt))

pub registered_below : (terms : List Term) (n k : ℕ) → k < n → n ≤ length terms → IsRegistered (shapes_of terms (range_with_len 0 n)) k
registered_below terms n k lt le =
    let t = some_term terms k (omega (arith, lt, le)) in
    let s : Shape = record { number = k; symbol = t.0.symbol; args = t.0.args } in
    in_any (λ (x : Shape). k == x.number) (shapes_of terms (range_with_len 0 n)) s
    (flat_in (λ m. shape_at m (slice_get terms m)) s (range_with_len 0 n) k (range_in k 0 n (omega arith) (omega (arith, lt))) (subst (λ (o : Option Term). Has (shape_at k o) s) (sym t.1) (inl refl)))
    (eq-eqb k k refl)

unregistered : (terms : List Term) (n : ℕ) → is_registered (shapes_of terms (range_with_len 0 n)) n ≡ false
unregistered terms n =
    elim (cases_Bool (is_registered (shapes_of terms (range_with_len 0 n)) n)) [
      | inl there ↦
          let w = any_in (λ (x : Shape). n == x.number) (shapes_of terms (range_with_len 0 n)) there in
          let f = in_flat (λ m. shape_at m (slice_get terms m)) w.0 (range_with_len 0 n) w.1 in
          let same = shape_number f.0 (slice_get terms f.0) w.0 f.2 in
          let is = eqb-true n w.0.number w.2 in
          let low = (in_range f.0 0 n f.1).1 in
          absurd (omega (arith, same, is, low))
      | inr not_there ↦ not_there
    ]

by_flag : {X : Type 0} (b : Bool) (x y : X) → b ≡ false → cond b x y ≡ y
by_flag true x y e = absurd (false≢true (sym e))
by_flag false x y e = refl

pub has_arguments : (held : Held) (n : ℕ) (g : Graph) → IsHeld held.sig held.terms held.atoms → HasTerms held n g → n ≤ length held.terms → HasArguments g.shapes held.terms n
has_arguments held n g good h le t at =
    let p = parts_of held.sig held.terms n t good.terms_good at in
    all_from (IsRegistered g.shapes) t.args (λ k has. subst (λ (ss : List Shape). IsRegistered ss k) (sym h.shapes) (registered_below held.terms n k (p.before k has) le))

pub terms_next : (held : Held) (n : ℕ) (g h : Graph) → HasTerms held n g → Registers g h held.terms n → NotesType g h held.sig held.terms n → HasTerms held (n + 1) h
terms_next held n g h at r ty =
    let shapes = shapes_of held.terms (range_with_len 0 n) in
    let here = shape_at n (slice_get held.terms n) in
    let type = typed_as n (type_of held.sig held.terms n) in
    let not_yet : is_registered g.shapes n ≡ false = ap (λ (ss : List Shape). is_registered ss n) at.shapes ∙ unregistered held.terms n in
    record {
      shapes =
          r.shapes ∙ by_flag (is_registered g.shapes n) g.shapes (g.shapes ++ here) not_yet ∙ ap (λ (ss : List Shape). ss ++ here) at.shapes
          ∙ sym (ap (shapes_of held.terms) (range_next n) ∙ flat_map-append (λ m. shape_at m (slice_get held.terms m)) (range_with_len 0 n) (n ∷ []) ∙ ap (λ (ss : List Shape). shapes ++ ss) (append-nil here));
      types =
          ty ∙ by_flag (is_registered g.shapes n) g.types (g.types ++ type) not_yet ∙ ap (λ (ts : List (TermId × Ty)). ts ++ type) at.types
          ∙ sym (ap (types_of held) (range_next n) ∙ flat_map-append (λ m. typed_as m (type_of held.sig held.terms m)) (range_with_len 0 n) (n ∷ []) ∙ ap (λ (ts : List (TermId × Ty)). types_of held (range_with_len 0 n) ++ ts) (append-nil type));
      settled = r.settled at.settled;
    }

-- Literals on atoms of the bank can be read.
pub of_sorts : (a b : Option Ty) → are_of_one_sort a b ≡ true → (r : SortId) × (is_type a (Ty.Of r) ≡ true) × (is_type b (Ty.Of r) ≡ true)
of_sorts None b e = absurd (false≢true e)
of_sorts (Some Ty.Bool) b e = absurd (false≢true e)
of_sorts (Some (Ty.Of r)) b e = (r, eq-eqb r.0 r.0 refl, e)

pub joins_registered : (held : Held) (g : Graph) (atom : AtomId) (a : Atom) → IsHeld held.sig held.terms held.atoms → HasTerms held (length held.terms) g → slice_get held.atoms atom.0 ≡ Some a → is_size a ≡ false → JoinsRegistered g.shapes a
joins_registered held g atom (Atom.Equal a b) good h at e =
    let is = atom_step held.sig held.terms [] held.atoms (Atom.Equal a b) good.atoms_good (Has-get held.atoms atom.0 (Atom.Equal a b) at) in
    let one = of_sorts (type_of held.sig held.terms a.0) (type_of held.sig held.terms b.0) (and_parts (nat_le a.0 b.0) (are_of_one_sort (type_of held.sig held.terms a.0) (type_of held.sig held.terms b.0)) is).1 in
    let low : (n : ℕ) → is_type (type_of held.sig held.terms n) (Ty.Of one.0) ≡ true → IsRegistered g.shapes n =
    λ n t. subst (λ (ss : List Shape). IsRegistered ss n) (sym h.shapes) (registered_below held.terms (length held.terms) n (typed_within held.sig held.terms n (Ty.Of one.0) t) (omega arith)) in
    (low a.0 one.1, low b.0 one.2)
joins_registered held g atom (Atom.Pred t) good h at e =
    let is = atom_step held.sig held.terms [] held.atoms (Atom.Pred t) good.atoms_good (Has-get held.atoms atom.0 (Atom.Pred t) at) in
    subst (λ (ss : List Shape). IsRegistered ss t.0) (sym h.shapes) (registered_below held.terms (length held.terms) t.0 (typed_within held.sig held.terms t.0 Ty.Bool is) (omega arith))
joins_registered held g atom (Atom.Card s k) good h at e = absurd (false≢true (sym e))
joins_registered held g atom (Atom.Bound n) good h at e = absurd (false≢true (sym e))

-- The levels of what is read, one entry more.
front_levelled : (n : ℕ) (es : List Entry) (e : Entry) → AreLevelled n (es ++ e ∷ []) → AreLevelled n es × (e.level ≡ n + level_of es + decisions_in e)
front_levelled n [] e h = (tt, (let l = h.0 in omega (arith, l)))
front_levelled n (f ∷ fs) e h =
    let rec = front_levelled f.level fs e h.1 in
    ((h.0, rec.0), (let a = h.0 in let b = rec.1 in omega (arith, a, b)))

by_why : (es : List Entry) (e : Entry) (why : Why) → e.why ≡ why → e.level ≡ level_of es + cond (is_decided why) 1 0 → AreLevelled 0 es → levels_of (es ++ e ∷ []) ≡ cond (is_decided why) (levels_of es ++ es ∷ []) (levels_of es)
by_why es e Why.Decision w l h =
    let is : e ≡ decision es e.lit = λ i. record { lit = e.lit; level = l i; why = w i } in
    ap (λ (x : Entry). levels_of (es ++ x ∷ [])) is ∙ levels_decided es e.lit h
by_why es e (Why.Clause c) w l h =
    let low : e.level ≡ level_of es = omega (arith, l) in
    let is : e ≡ implied es e.lit c = λ i. record { lit = e.lit; level = low i; why = w i } in
    ap (λ (x : Entry). levels_of (es ++ x ∷ [])) is ∙ levels_implied es e.lit c

levels_on : (es : List Entry) (e : Entry) → AreLevelled 0 (es ++ e ∷ []) → levels_of (es ++ e ∷ []) ≡ cond (is_decided e.why) (levels_of es ++ es ∷ []) (levels_of es)
levels_on es e h =
    let p = front_levelled 0 es e h in
    by_why es e e.why refl (let l = p.1 in omega (arith, l)) p.0

facts_on : (atoms : List Atom) (es : List Entry) (e : Entry) → facts_read atoms (es ++ e ∷ []) ≡ facts_read atoms es ++ fact_at e.lit (slice_get atoms e.lit.atom.0)
facts_on atoms es e = flat_map-append (λ (x : Entry). fact_at x.lit (slice_get atoms x.lit.atom.0)) es (e ∷ []) ∙ ap (λ (fs : List Fact). facts_read atoms es ++ fs) (append-nil (fact_at e.lit (slice_get atoms e.lit.atom.0)))

opened_map : (atoms : List Atom) (es : List Entry) (b : Bool) → cond b (map (facts_read atoms) (levels_of es) ++ facts_read atoms es ∷ []) (map (facts_read atoms) (levels_of es)) ≡ map (facts_read atoms) (cond b (levels_of es ++ es ∷ []) (levels_of es))
opened_map atoms es true = sym (map-append (facts_read atoms) (levels_of es) (es ∷ []))
opened_map atoms es false = refl

pub reads_on : (held : Held) (e : Entry) (g m h : Graph) → m.facts ≡ g.facts → m.levels ≡ cond (is_decided e.why) (g.levels ++ g.facts ∷ []) g.levels → h.facts ≡ m.facts ++ fact_at e.lit (slice_get held.atoms e.lit.atom.0) → h.levels ≡ m.levels → ReadsOn held e g h
reads_on held e g m h same opened facts levels es levelled r = record {
  facts = facts ∙ ap (λ (fs : List Fact). fs ++ fact_at e.lit (slice_get held.atoms e.lit.atom.0)) (same ∙ r.facts) ∙ sym (facts_on held.atoms es e);
  levels =
      levels ∙ opened ∙ (λ i. cond (is_decided e.why) (r.levels i ++ r.facts i ∷ []) (r.levels i)) ∙ opened_map held.atoms es (is_decided e.why)
      ∙ ap (map (facts_read held.atoms)) (sym (levels_on es e levelled));
}

-- Going back to a level that is open, and to one that isn't.
get_map : {X Y : Type 0} (f : X → Y) (xs : List X) (i : ℕ) (x : X) → slice_get xs i ≡ Some x → slice_get (map f xs) i ≡ Some (f x)
get_map f [] i x e = cc e
get_map f (y ∷ ys) zero x e = (let same : y ≡ x = cc e in ap (λ z. Some (f z)) same)
get_map f (y ∷ ys) (suc i) x e = get_map f ys i x e

pub how_many : (atoms : List Atom) (es : List Entry) (g : Graph) → HasRead atoms es g → length g.levels ≡ level_of es
how_many atoms es g r = ap length r.levels ∙ length-map (levels_of es) (facts_read atoms) ∙ length-map (range_with_len 0 (level_of es)) (λ level. up_to level es) ∙ length-range_with_len 0 (level_of es)

pub goes_back : (held : Held) (level : ℕ) (g u h : Graph) → level < length g.levels → u.levels ≡ take level g.levels → slice_get g.levels level ≡ Some u.facts → h.facts ≡ u.facts → h.levels ≡ u.levels → GoesBack held level g h
goes_back held level g u h lt levels content facts same es levelled r =
    let F = facts_read held.atoms in
    let many = how_many held.atoms es g r in
    let low : level < level_of es = omega (arith, lt, many) in
    let there : Some u.facts ≡ Some (F (up_to level es)) = sym content ∙ ap (λ (ls : List (List Fact)). slice_get ls level) r.levels ∙ get_map F (levels_of es) level (up_to level es) (content_at es level low) in
    let is : u.facts ≡ F (up_to level es) = cc there in
    record {
      facts = facts ∙ is;
      levels = same ∙ levels ∙ ap (take level) r.levels ∙ take-map F level (levels_of es) ∙ ap (map F) (sym (levels_back es level levelled low));
    }

pub stays_back : (held : Held) (level : ℕ) (g : Graph) → length g.levels ≤ level → GoesBack held level g g
stays_back held level g le es levelled r =
    let many = how_many held.atoms es g r in
    let all : up_to level es ≡ es = up_to_all 0 level es levelled (omega (arith, le, many)) in
    subst (λ (xs : List Entry). HasRead held.atoms xs g) (sym all) r

-- As a bank grows.
flat_same : {X Y : Type 0} (f k : X → List Y) (xs : List X) → ((x : X) → Has xs x → f x ≡ k x) → flat_map f xs ≡ flat_map k xs
flat_same f k [] h = refl
flat_same f k (x ∷ xs) h = (let one = h x (inl refl) in let rest = flat_same f k xs (λ y q. h y (inr q)) in λ i. one i ++ rest i)

map_same : {X Y : Type 0} (f k : X → Y) (xs : List X) → ((x : X) → f x ≡ k x) → map f xs ≡ map k xs
map_same f k [] h = refl
map_same f k (x ∷ xs) h = (let one = h x in let rest = map_same f k xs h in λ i. one i ∷ rest i)

get_front : {X : Type 0} (xs ys : List X) (i : ℕ) → i < length xs → slice_get (xs ++ ys) i ≡ slice_get xs i
get_front [] ys i lt = absurd (omega (arith, lt))
get_front (x ∷ xs) ys zero lt = refl
get_front (x ∷ xs) ys (suc i) lt = get_front xs ys i (omega (arith, lt))

front_same : {X : Type 0} (old new : List X) (i : ℕ) → IsFront old new → i < length old → slice_get new i ≡ slice_get old i
front_same old new i (rest, is) lt = ap (λ xs. slice_get xs i) (sym is) ∙ get_front old rest i lt

up_to_step : (b : Bool) (level : ℕ) (f e : Entry) (fs : List Entry) → (Has (up_to level fs) e → Has fs e) → Has (cond b (f ∷ up_to level fs) (up_to level fs)) e → Has (f ∷ fs) e
up_to_step true level f e fs rec (inl s) = inl s
up_to_step true level f e fs rec (inr q) = inr (rec q)
up_to_step false level f e fs rec q = inr (rec q)

in_up_to : (level : ℕ) (es : List Entry) (e : Entry) → Has (up_to level es) e → Has es e
in_up_to level [] e h = h
in_up_to level (f ∷ fs) e h = up_to_step (nat_le f.level level) level f e fs (in_up_to level fs e) h

facts_same : (old new : List Atom) (es : List Entry) → IsFront old new → ((e : Entry) → Has es e → e.lit.atom.0 < length old) → facts_read new es ≡ facts_read old es
facts_same old new es front low = flat_same (λ (e : Entry). fact_at e.lit (slice_get new e.lit.atom.0)) (λ (e : Entry). fact_at e.lit (slice_get old e.lit.atom.0)) es (λ e h. ap (fact_at e.lit) (front_same old new e.lit.atom.0 front (low e h)))

pub graphs_stay : GraphsStay
graphs_stay old new es g more over h =
    let n = length old.terms in
    let ns = range_with_len 0 n in
    let low : (k : ℕ) → Has ns k → k < n = λ k q. (let r = (in_range k 0 n q).1 in omega (arith, r)) in
    let get : (k : ℕ) → Has ns k → slice_get new.terms k ≡ slice_get old.terms k = λ k q. front_same old.terms new.terms k more.terms (low k q) in
    let atom : (e : Entry) → Has es e → e.lit.atom.0 < length old.atoms = λ e q. (let p = has_place es e q in over p.0 e p.1) in (
      record {
        shapes = h.terms.shapes ∙ sym (flat_same (λ k. shape_at k (slice_get new.terms k)) (λ k. shape_at k (slice_get old.terms k)) ns (λ k q. ap (shape_at k) (get k q)));
        types = h.terms.types ∙ sym (flat_same (λ k. typed_as k (type_of new.sig new.terms k)) (λ k. typed_as k (type_of old.sig old.terms k)) ns (λ k q. λ i. typed_as k (type_in (more.sig i) (get k q i))));
        settled = h.terms.settled;
      },
      record {
        facts = h.read.facts ∙ sym (facts_same old.atoms new.atoms es more.atoms atom);
        levels = h.read.levels ∙ sym (ap (λ (ls : List (List Fact)). ls) (levels_same (range_with_len 0 (level_of es)) atom));
      },
    )
  where
    levels_same : (ks : List ℕ) → ((e : Entry) → Has es e → e.lit.atom.0 < length old.atoms) → map (facts_read new.atoms) (map (λ level. up_to level es) ks) ≡ map (facts_read old.atoms) (map (λ level. up_to level es) ks)
    levels_same [] low = refl
    levels_same (k ∷ ks) low =
        let one = facts_same old.atoms new.atoms (up_to k es) more.atoms (λ e q. low e (in_up_to k es e q)) in
        let rest = levels_same ks low in
        λ i. one i ∷ rest i

-- One literal read.
pub terms_read : (held : Held) (n : ℕ) (g h : Graph) (f : Fact) → HasTerms held n g → h ≡ with_fact g f h.links → HasTerms held n h
terms_read held n g h f at e = record {
  shapes = ap (λ (x : Graph). x.shapes) e ∙ at.shapes;
  types = ap (λ (x : Graph). x.types) e ∙ at.types;
  settled = (let entered = ap (λ (x : Graph). x.entered) e in let long = ap (λ (x : Graph). length x.shapes) e in entered ∙ at.settled ∙ sym long);
}

pub one_atom : (o : Option Atom) (a b : Atom) → o ≡ Some a → o ≡ Some b → a ≡ b
one_atom o a b p q = (let e : Some a ≡ Some b = sym p ∙ q in cc e)
