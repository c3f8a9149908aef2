-- The index of the false equalities beside a state, through what is read, marked and taken back.
use Rattle.std.proofs.Common.{◌≡◌, ℕ, zero, suc, ◌+◌, ◌<◌, ◌≤◌, Bool, true, false, List, [], ◌∷◌, ◌++◌, length, map, take, length-append, inl, inr, refl, sym, subst, ap, ◌∙◌, arith, get_or}
use Rattle.std.specs.List.{All, cons_option}
use Rattle.std.proofs.lemmas.Bool.{cases_lt}
use Rattle.std.proofs.lemmas.List.{get_or-take, length_push}
use Rattle.std.proofs.lemmas.List.Elements.{All-cons, All-head, All-nil, All-tail}
use Rattle.fm_base.specs.declared.ids.TermId.{TermId}
use Rattle.fm_bank.specs.declared.atom.Atom.{Atom}
use Rattle.fm_cells.specs.Apart.{ArePairsWithin, HasRoots, IsIndexed, IsIndexedAt, IsPairWithin, KeepsCuts}
use Rattle.fm_cells.specs.Rings.{own_or}
use Rattle.fm_cells.specs.declared.apart.Apart.{Apart}
use Rattle.fm_cells.specs.declared.apart.Cut.{Cut}
use Rattle.fm_cells.proofs.Writing.{logged_written}
use Rattle.fm_cong.specs.Facts.{AreAtomsBelow, IsAtomBelow, numbers_of_pair, unequal_of, unequal_sides}
use Rattle.fm_cong.specs.Graphs.{Cells}
use Rattle.fm_cong.specs.Levels.{IsBefore, IsInside, IsMarkOf, KeepsClasses, LogsClasses, RestoresClasses, class_at}
use Rattle.fm_cong.specs.States.{KeepsJoined, class_in}
use Rattle.fm_cong.specs.Tables.{HasGrown}
use Rattle.fm_cong.specs.Tracked.{FollowsJoinsSince, HasPairsOf, IsCutBefore, IsCutFor, IsTracked}
use Rattle.fm_cong.specs.declared.fact.Fact.{Fact}
use Rattle.fm_cong.specs.declared.mark.Mark.{Mark}
use Rattle.fm_cong.specs.declared.state.State.{State}
use Rattle.fm_cong.proofs.Marking.{at_now, take_grown, take_split, take_whole}
use Rattle.fm_cong.proofs.Stacking.{bounds, push_new, push_old}
use Rattle.fm_cong.proofs.Whole.{long_map}

-- a rewind is right for the same marks, whatever more is read
module _ (s t : State) (a b : Apart) (marks : List Mark) (cuts : List Cut) (insides : (i : ℕ) (d : Mark) → i < length marks → IsInside s (get_or marks i d)) (classes : KeepsClasses s t) (facts : HasGrown s.facts.items t.facts.items) (keeps : KeepsCuts a b) (now : IsIndexed (class_in t) b) (h : IsTracked s a marks cuts) where
  cut_on : (m : Mark) (c : Cut) → IsInside s m → IsCutFor s a m c → IsCutFor t b m c
  cut_on m c inside x = record {
    indexed = subst (λ (f : ℕ → ℕ). IsIndexedAt f b c) (sym (classes m inside)) (keeps (class_at s m) c x.indexed);
    count = x.count ∙ ap (λ (fs : List Fact). length (unequal_of fs)) (sym (take_grown m.facts s.facts.items t.facts.items inside.facts facts));
  }

  pub tracked_on : IsTracked t b marks cuts
  tracked_on = record {
    indexed = now;
    long = h.long;
    each = λ i d e lt. cut_on (get_or marks i d) (get_or cuts i e) (insides i d lt) (h.each i d e lt);
    ordered = h.ordered;
  }

pub indexed_after : (s t : State) (a b : Apart) (from : Mark) → LogsClasses s t → from.class ≡ length s.classes.class.log.items → KeepsJoined s t → HasRoots (class_in t) → FollowsJoinsSince t from a b → IsIndexed (class_in s) a → IsIndexed (class_in t) b
indexed_after s t a b from l p coarser roots f h =
    f s.classes.class.cells.items (logged_written s.classes.class.log.items s.classes.class.cells.items t.classes.class.log.items t.classes.class.cells.items from.class l p) coarser roots h

-- the log isn't shorter than it was
pub from_within : (s t : State) (from : Mark) → LogsClasses s t → from.class ≡ length s.classes.class.log.items → from.class ≤ length t.classes.class.log.items
from_within s t from l e = omega (arith, e, ap length l.grown, length-append s.classes.class.log.items l.tail)

pub indexed_same : (s t : State) (a : Apart) → class_in t ≡ class_in s → IsIndexed (class_in s) a → IsIndexed (class_in t) a
indexed_same s t a e h = subst (λ (f : ℕ → ℕ). IsIndexed f a) (sym e) h

pub grown_same : (xs ys : List Fact) → ys ≡ xs → HasGrown xs ys
grown_same xs ys e = ([], e ∙ sym (append_nothing xs))
  where
    append_nothing : (xs : List Fact) → xs ++ [] ≡ xs
    append_nothing [] = refl
    append_nothing (x ∷ xs) = ap (λ zs. x ∷ zs) (append_nothing xs)

-- a level is opened
module _ (s : State) (a : Apart) (marks : List Mark) (cuts : List Cut) (m : Mark) (c : Cut) (here : IsMarkOf s m) (pairs : c.pairs ≡ length a.pairs.items) (keys : c.keys ≡ length a.keys.keys) (right : (class : ℕ → ℕ) → IsIndexed class a → IsIndexedAt class a c) (of : HasPairsOf s.facts.items a) (h : IsTracked s a marks cuts) where
  at_mark : class_at s m ≡ class_in s
  at_mark = ap (λ (k : Cells). own_or k.class) (at_now s m here)

  cut_here : IsCutFor s a m c
  cut_here = record {
    indexed = subst (λ (f : ℕ → ℕ). IsIndexedAt f a c) (sym at_mark) (right (class_in s) h.indexed);
    count = pairs ∙ (long_map numbers_of_pair a.pairs.items (unequal_of s.facts.items) of ∙ ap (λ (fs : List Fact). length (unequal_of fs)) (sym (take_whole m.facts s.facts.items here.facts)));
  }

  each_pushed : (i : ℕ) (d : Mark) (e : Cut) → i < length (marks ++ m ∷ []) → IsCutFor s a (get_or (marks ++ m ∷ []) i d) (get_or (cuts ++ c ∷ []) i e)
  each_pushed i d e lt =
      let long = length_push marks m in
      elim (cases_lt i (length marks)) [
        | inl li ↦
            let p = push_old marks m i d li in
            let q = push_old cuts c i e (omega (arith, li, h.long)) in
            subst (λ (x : Mark). IsCutFor s a x (get_or (cuts ++ c ∷ []) i e)) (sym p) (subst (λ (y : Cut). IsCutFor s a (get_or marks i d) y) (sym q) (h.each i d e li))
        | inr past ↦
            let p = push_new marks m i d (omega (arith, past, lt, long)) in
            let q = push_new cuts c i e (omega (arith, past, lt, long, h.long)) in
            subst (λ (x : Mark). IsCutFor s a x (get_or (cuts ++ c ∷ []) i e)) (sym p) (subst (λ (y : Cut). IsCutFor s a m y) (sym q) cut_here)
      ]

  before_here : (x : Mark) (y : Cut) → IsCutFor s a x y → IsCutBefore y c
  before_here x y k = record { pairs = omega (arith, k.indexed.pairs, pairs); keys = omega (arith, k.indexed.keys, keys) }

  ordered_pushed : (i j : ℕ) (e : Cut) → i ≤ j → j < length (cuts ++ c ∷ []) → IsCutBefore (get_or (cuts ++ c ∷ []) i e) (get_or (cuts ++ c ∷ []) j e)
  ordered_pushed i j e le lt =
      let long = length_push cuts c in
      elim (cases_lt j (length cuts)) [
        | inl lj ↦
            let p = push_old cuts c i e (omega (arith, le, lj)) in
            let q = push_old cuts c j e lj in
            subst (λ (x : Cut). IsCutBefore x (get_or (cuts ++ c ∷ []) j e)) (sym p) (subst (λ (y : Cut). IsCutBefore (get_or cuts i e) y) (sym q) (h.ordered i j e le lj))
        | inr past ↦
            let q = push_new cuts c j e (omega (arith, past, lt, long)) in
            let k = each_pushed i m e (omega (arith, le, lt, long, h.long, length_push marks m)) in
            subst (λ (y : Cut). IsCutBefore (get_or (cuts ++ c ∷ []) i e) y) (sym q) (before_here (get_or (marks ++ m ∷ []) i m) (get_or (cuts ++ c ∷ []) i e) k)
      ]

  pub tracked_pushed : IsTracked s a (marks ++ m ∷ []) (cuts ++ c ∷ [])
  tracked_pushed = record {
    indexed = h.indexed;
    long = omega (arith, h.long, length_push marks m, length_push cuts c);
    each = each_pushed;
    ordered = ordered_pushed;
  }

-- levels are taken back
module _ (s t : State) (a b : Apart) (marks : List Mark) (cuts : List Cut) (n : ℕ) (m : Mark) (c : Cut) (below : n < length marks) (m_is : (d : Mark) → m ≡ get_or marks n d) (c_is : (e : Cut) → c ≡ get_or cuts n e) (before : (i : ℕ) (d : Mark) → i < n → IsBefore (get_or marks i d) m) (restores : RestoresClasses s m t) (facts : t.facts.items ≡ take m.facts s.facts.items) (right : (class : ℕ → ℕ) → IsIndexedAt class a c → IsIndexed class b) (lower : (class : ℕ → ℕ) (x : Cut) → x.pairs ≤ c.pairs → x.keys ≤ c.keys → IsIndexedAt class a x → IsIndexedAt class b x) (h : IsTracked s a marks cuts) where
  pub cut_at : IsCutFor s a m c
  cut_at = subst (λ (x : Mark). IsCutFor s a x c) (sym (m_is m)) (subst (λ (y : Cut). IsCutFor s a (get_or marks n m) y) (sym (c_is c)) (h.each n m c below))

  cut_below : (i : ℕ) (d : Mark) (e : Cut) → i < n → i < length marks → IsCutFor t b (get_or marks i d) (get_or cuts i e)
  cut_below i d e lt li =
      let x = h.each i d e li in
      let k = get_or marks i d in
      let first = before i d lt in
      let order = subst (λ (y : Cut). IsCutBefore (get_or cuts i e) y) (sym (c_is e)) (h.ordered i n e (omega (arith, lt)) (omega (arith, below, h.long))) in
      record {
        indexed = subst (λ (f : ℕ → ℕ). IsIndexedAt f b (get_or cuts i e)) (sym (restores.before k first)) (lower (class_at s k) (get_or cuts i e) order.pairs order.keys x.indexed);
        count = x.count ∙ ap (λ (fs : List Fact). length (unequal_of fs)) (sym (ap (take k.facts) facts ∙ take_split k.facts m.facts s.facts.items first.facts));
      }

  pub tracked_cut : IsTracked t b (take n marks) (take n cuts)
  tracked_cut = record {
    indexed = subst (λ (f : ℕ → ℕ). IsIndexed f b) (sym restores.now) (right (class_at s m) cut_at.indexed);
    long = take_long n marks cuts h.long;
    each = λ i d e lt.
        let r = bounds marks n i lt in
        subst (λ (x : Mark). IsCutFor t b x (get_or (take n cuts) i e)) (sym (get_or-take n marks i d r.0)) (subst (λ (y : Cut). IsCutFor t b (get_or marks i d) y) (sym (get_or-take n cuts i e r.0)) (cut_below i d e r.0 r.1));
    ordered = λ i j e le lt.
        let r = bounds cuts n j lt in
        subst (λ (x : Cut). IsCutBefore x (get_or (take n cuts) j e)) (sym (get_or-take n cuts i e (omega (arith, le, r.0)))) (subst (λ (y : Cut). IsCutBefore (get_or cuts i e) y) (sym (get_or-take n cuts j e r.0)) (h.ordered i j e le r.1));
  }
    where
      take_long : (n : ℕ) (ms : List Mark) (cs : List Cut) → length cs ≡ length ms → length (take n cs) ≡ length (take n ms)
      take_long zero ms cs e = refl
      take_long (suc n) [] [] e = refl
      take_long (suc n) [] (c ∷ cs) e = absurd (omega (arith, e))
      take_long (suc n) (m ∷ ms) [] e = absurd (omega (arith, e))
      take_long (suc n) (m ∷ ms) (c ∷ cs) e = ap suc (take_long n ms cs (omega (arith, e)))

-- the nodes of the pairs

abbrev IsNumbersBelow : ℕ → ℕ × ℕ → Type 0
IsNumbersBelow count p = (p.0 + 2 < count) × (p.1 + 2 < count)

sides_below : (count : ℕ) (a : Atom) (positive : Bool) (rest : List (ℕ × ℕ)) → IsAtomBelow count a → All (IsNumbersBelow count) rest → All (IsNumbersBelow count) (cons_option (unequal_sides a positive) rest)
sides_below count (Atom.Equal a b) true rest h all = all
sides_below count (Atom.Equal a b) false rest h all = All-cons (IsNumbersBelow count) (a.0, b.0) rest (h.0, h.1) all
sides_below count (Atom.Pred t) positive rest h all = all
sides_below count (Atom.Card s k) positive rest h all = all
sides_below count (Atom.Bound n) positive rest h all = all

unequal_below : (count : ℕ) (facts : List Fact) → AreAtomsBelow count facts → All (IsNumbersBelow count) (unequal_of facts)
unequal_below count [] h = All-nil (IsNumbersBelow count)
unequal_below count (f ∷ facts) h =
    let P : Fact → Type 0 = λ (g : Fact). IsAtomBelow count g.atom in
    sides_below count f.atom f.lit.positive (unequal_of facts) (All-head P f facts h) (unequal_below count facts (All-tail P f facts h))

of_numbers : (count : ℕ) (ps : List (TermId × TermId)) → All (IsNumbersBelow count) (map numbers_of_pair ps) → ArePairsWithin count ps
of_numbers count [] h = All-nil (IsPairWithin count)
of_numbers count (p ∷ ps) h = All-cons (IsPairWithin count) p ps (All-head (IsNumbersBelow count) (numbers_of_pair p) (map numbers_of_pair ps) h) (of_numbers count ps (All-tail (IsNumbersBelow count) (numbers_of_pair p) (map numbers_of_pair ps) h))

pub pairs_within : (count : ℕ) (facts : List Fact) (a : Apart) → HasPairsOf facts a → AreAtomsBelow count facts → ArePairsWithin count a.pairs.items
pairs_within count facts a of h = of_numbers count a.pairs.items (subst (All (IsNumbersBelow count)) (sym of) (unequal_below count facts h))

-- no levels
pub tracked_none : (s : State) (a : Apart) (marks : List Mark) (cuts : List Cut) → marks ≡ [] → cuts ≡ [] → IsIndexed (class_in s) a → IsTracked s a marks cuts
tracked_none s a marks cuts p q h = record {
  indexed = h;
  long = ap length q ∙ sym (ap length p);
  each = λ i d e lt. absurd (omega (arith, lt, ap length p));
  ordered = λ i j e le lt. absurd (omega (arith, lt, ap length q));
}
