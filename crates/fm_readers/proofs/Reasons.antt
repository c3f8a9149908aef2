-- The literals of an explanation were read, and show that two nodes are equal.
use Rattle.std.proofs.Common.{◌≡◌, ℕ, zero, suc, ◌<◌, Bool, true, false, not, cond, List, [], ◌∷◌, length, map, Option, Some, None, inl, inr, refl, sym, ap, subst, ◌∙◌, arith}
use Rattle.std.specs.Prelude.{slice_get}
use Rattle.std.specs.List.{All, Contains, cons_option, filter_map}
use Rattle.fm_base.specs.Resolution.{Has}
use Rattle.fm_base.specs.declared.ids.Lit.{Lit}
use Rattle.fm_base.proofs.Resolution.{has_mapped}
use Rattle.fm_bank.specs.Closure.{no, object, shapes_of, yes}
use Rattle.fm_bank.specs.Interning.{Held, first_places}
use Rattle.fm_bank.specs.Terms.{numbers}
use Rattle.fm_bank.specs.declared.atom.Atom.{Atom}
use Rattle.fm_bank.specs.declared.literal.Literal.{Literal}
use Rattle.fm_bank.proofs.Closures.{more_follows}
use Rattle.fm_cong.specs.Facts.{sides}
use Rattle.fm_cong.specs.Held.{Held as Graph}
use Rattle.fm_cong.specs.declared.fact.Fact.{Fact}
use Rattle.fm_explain.specs.Explanations.{Explains, IsRead}
use Rattle.fm_explain.specs.Meant.{pairs_by, sides_at}
use Rattle.fm_explain.specs.declared.explaining.Explanation.{Explanation}
use Rattle.fm_rounds.proofs.Members.{filter_in, flat_in, in_flat, in_left, in_right}
use Rattle.fm_steps.specs.Content.{equal_pair, facts_in, ground_literals_of, is_size, literal_at, literals_of, opposites, pairs_in, predicate_term, terms_in}
use Rattle.fm_steps.proofs.Lists.{Has-contains, all_has, only_one}
use Rattle.fm_trail.specs.declared.entry.Entry.{Entry}
use Rattle.fm_readers.specs.Graphs.{HasRead, fact_at, facts_read, named}
use Rattle.fm_readers.specs.Shown.{PutsReasons}

pub contains_has : {X : Type 0} (xs : List X) (x : X) → Contains xs x → Has xs x
contains_has [] x c = (let lt = c.1 in absurd (omega (arith, lt)))
contains_has (y ∷ ys) x (zero, lt, e) = inl e
contains_has (y ∷ ys) x (suc n, lt, e) = inr (contains_has ys x (n, omega (arith, lt), e))

-- A fact read is on an entry that is no size literal.
pub record IsEntryOf (atoms : List Atom) (es : List Entry) (f : Fact) : Type 0 where
  pub entry : Entry
  pub has : Has es entry
  pub lit : f.lit ≡ entry.lit
  pub atom : slice_get atoms entry.lit.atom.0 ≡ Some f.atom
  pub ground : is_size f.atom ≡ false

fact_is : (l : Lit) (o : Option Atom) (f : Fact) → Has (fact_at l o) f → (f.lit ≡ l) × (o ≡ Some f.atom) × (is_size f.atom ≡ false)
fact_is l None f h = absurd h
fact_is l (Some a) f h = by_size (is_size a) refl h
  where
    by_size : (b : Bool) → is_size a ≡ b → Has (cond b [] (record { lit = l; atom = a } ∷ [])) f → (f.lit ≡ l) × (Some a ≡ Some f.atom) × (is_size f.atom ≡ false)
    by_size true e q = absurd q
    by_size false e q = (let s = only_one (record { lit = l; atom = a }) f q in (ap (λ (x : Fact). x.lit) (sym s), ap (λ (x : Fact). Some x.atom) s, subst (λ (x : Fact). is_size x.atom ≡ false) s e))

pub entry_of : (atoms : List Atom) (es : List Entry) (f : Fact) → Has (facts_read atoms es) f → IsEntryOf atoms es f
entry_of atoms es f h =
    let w = in_flat (λ (e : Entry). fact_at e.lit (slice_get atoms e.lit.atom.0)) f es h in
    let p = fact_is w.0.lit (slice_get atoms w.0.lit.atom.0) f w.2 in
    record { entry = w.0; has = w.1; lit = p.0; atom = p.1; ground = p.2 }

-- its literal is among the literals read
pub fact_read : (atoms : List Atom) (es : List Entry) (f : Fact) → Has (facts_read atoms es) f → Has (ground_literals_of atoms es) (record { positive = f.lit.positive; atom = f.atom })
fact_read atoms es f h =
    let w = entry_of atoms es f h in
    let l : Literal = record { positive = f.lit.positive; atom = f.atom } in
    let here : Has (literal_at w.entry.lit.positive (slice_get atoms w.entry.lit.atom.0)) l =
    subst (λ (o : Option Atom). Has (literal_at w.entry.lit.positive o) l) (sym w.atom) (inl (ap (λ (x : Lit). record { positive = x.positive; atom = f.atom }) (sym w.lit))) in
    filter_in (λ (x : Literal). not (is_size x.atom)) l (literals_of atoms es) (flat_in (λ (e : Entry). literal_at e.lit.positive (slice_get atoms e.lit.atom.0)) l es w.entry w.has here) (ap not w.ground)

pub named_is : (positive : Bool) (o : Option Atom) (k : Literal) → Has (literal_at positive o) k → (o ≡ Some k.atom) × (positive ≡ k.positive)
named_is positive None k h = absurd h
named_is positive (Some a) k h = (let s = only_one (record { positive = positive; atom = a }) k h in (ap (λ (x : Literal). Some x.atom) s, ap (λ (x : Literal). x.positive) s))

-- What a literal joins is among the facts of literals that have it.
pub lit_fact : (ls : List Literal) (positive : Bool) (a : Atom) (p : ℕ × ℕ) → Has ls (record { positive = positive; atom = a }) → sides a positive ≡ Some p → Has (facts_in ls) p
lit_fact ls true (Atom.Equal a b) p h e =
    let is : (object a.0, object b.0) ≡ p = cc e in
    subst (Has (facts_in ls)) is (in_left (object a.0, object b.0) (map (λ (q : ℕ × ℕ). (object q.0, object q.1)) (pairs_in true ls)) _ (has_mapped (λ (q : ℕ × ℕ). (object q.0, object q.1)) (pairs_in true ls) (a.0, b.0) (flat_in (λ (l : Literal). equal_pair true l.positive l.atom) (a.0, b.0) ls (record { positive = true; atom = Atom.Equal a b }) h (inl refl))))
lit_fact ls false (Atom.Equal a b) p h e = cc e
lit_fact ls true (Atom.Pred t) p h e =
    let is : (object t.0, yes) ≡ p = cc e in
    subst (Has (facts_in ls)) is (in_right (object t.0, yes) (map (λ (q : ℕ × ℕ). (object q.0, object q.1)) (pairs_in true ls)) _ (in_left (object t.0, yes) (map (λ u. (object u, yes)) (terms_in true ls)) _ (has_mapped (λ u. (object u, yes)) (terms_in true ls) t.0 (flat_in (λ (l : Literal). predicate_term true l.positive l.atom) t.0 ls (record { positive = true; atom = Atom.Pred t }) h (inl refl)))))
lit_fact ls false (Atom.Pred t) p h e =
    let is : (object t.0, no) ≡ p = cc e in
    subst (Has (facts_in ls)) is (in_right (object t.0, no) (map (λ (q : ℕ × ℕ). (object q.0, object q.1)) (pairs_in true ls)) _ (in_right (object t.0, no) (map (λ u. (object u, yes)) (terms_in true ls)) _ (has_mapped (λ u. (object u, no)) (terms_in false ls) t.0 (flat_in (λ (l : Literal). predicate_term false l.positive l.atom) t.0 ls (record { positive = false; atom = Atom.Pred t }) h (inl refl)))))
lit_fact ls positive (Atom.Card s k) p h e = cc e
lit_fact ls positive (Atom.Bound n) p h e = cc e

mapped_step : {X Y : Type 0} (f : X → Option Y) (x : X) (xs : List X) (y : Y) (o : Option Y) → f x ≡ o → (Has (filter_map f xs) y → (z : X) × Has xs z × (f z ≡ Some y)) → Has (cons_option o (filter_map f xs)) y → (z : X) × Has (x ∷ xs) z × (f z ≡ Some y)
mapped_step f x xs y None e rec h = (let w = rec h in (w.0, inr w.1, w.2))
mapped_step f x xs y (Some z) e rec (inl s) = (x, inl refl, e ∙ ap Some s)
mapped_step f x xs y (Some z) e rec (inr q) = (let w = rec q in (w.0, inr w.1, w.2))

pub in_filter_map : {X Y : Type 0} (f : X → Option Y) (xs : List X) (y : Y) → Has (filter_map f xs) y → (z : X) × Has xs z × (f z ≡ Some y)
in_filter_map f [] y h = absurd h
in_filter_map f (x ∷ xs) y h = mapped_step f x xs y (f x) refl (in_filter_map f xs y) h

sides_of_some : (o : Option Atom) (positive : Bool) (p : ℕ × ℕ) → sides_at o positive ≡ Some p → (a : Atom) × (o ≡ Some a) × (sides a positive ≡ Some p)
sides_of_some None positive p e = cc e
sides_of_some (Some a) positive p e = (a, refl, e)

pair_named : (atoms : List Atom) (lits : List Lit) (p : ℕ × ℕ) → Has (pairs_by atoms lits) p → Has (facts_in (named atoms lits)) p
pair_named atoms lits p h =
    let w = in_filter_map (λ (k : Lit). sides_at (slice_get atoms k.atom.0) k.positive) lits p h in
    let s = sides_of_some (slice_get atoms w.0.atom.0) w.0.positive p w.2 in
    let l : Literal = record { positive = w.0.positive; atom = s.0 } in
    lit_fact (named atoms lits) w.0.positive s.0 p
    (flat_in (λ (k : Lit). literal_at k.positive (slice_get atoms k.atom.0)) l lits w.0 w.1 (subst (λ (o : Option Atom). Has (literal_at w.0.positive o) l) (sym s.1) (inl refl)))
    s.2

pub reasons : (held : Held) (es : List Entry) (g : Graph) (a b : ℕ) (x : Explanation) (old new : List Literal) → HasRead held.atoms es g → Explains g held a b x → All (λ n. n < length held.terms) (numbers x.support.items) → new ≡ first_places old (opposites (named held.atoms x.lits.items)) → PutsReasons held es a b old new x.support.items
reasons held es g a b x old new r ex low put = record {
  because = named held.atoms x.lits.items;
  read = λ k h.
      let w = in_flat (λ (l : Lit). literal_at l.positive (slice_get held.atoms l.atom.0)) k x.lits.items h in
      let is = named_is w.0.positive (slice_get held.atoms w.0.atom.0) k w.2 in
      let f : IsRead g.facts w.0 = all_has (IsRead g.facts) x.lits.items w.0 ex.read w.1 in
      let has : Has (facts_read held.atoms es) f.fact = subst (λ (fs : List Fact). Has fs f.fact) r.facts (contains_has g.facts f.fact f.read) in
      let e = entry_of held.atoms es f.fact has in
      let same : Some f.fact.atom ≡ Some k.atom = sym e.atom ∙ ap (λ (l : Lit). slice_get held.atoms l.atom.0) (sym e.lit ∙ f.lit_is) ∙ is.0 in
      let atom : f.fact.atom ≡ k.atom = cc same in
      let sign : f.fact.lit.positive ≡ k.positive = ap (λ (l : Lit). l.positive) f.lit_is ∙ is.1 in
      subst (Has (ground_literals_of held.atoms es)) (λ i. record { positive = sign i; atom = atom i }) (fact_read held.atoms es f.fact has);
  shows =
      let shapes = shapes_of held.terms (numbers x.support.items) in
      more_follows shapes (pairs_by held.atoms x.lits.items) shapes (facts_in (named held.atoms x.lits.items)) (λ s c. c)
      (λ p c. Has-contains (facts_in (named held.atoms x.lits.items)) p (pair_named held.atoms x.lits.items p (contains_has (pairs_by held.atoms x.lits.items) p c))) a b ex.shows;
  put = put;
  there = low;
}
