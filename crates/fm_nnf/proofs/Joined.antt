-- What a lifter does, and that its parts put together do the same.
use Rattle.std.proofs.Common.{◌≡◌, ℕ, zero, suc, ◌+◌, ◌<◌, Bool, true, ◌&&◌, ◌⊎◌, inl, inr, List, [], ◌∷◌, ◌++◌, length, Some, ap, refl, sym, subst, ◌∙◌, arith, length-append, append_assoc}
use Rattle.std.specs.Prelude.{slice_get, nat_lt}
use Rattle.std.proofs.lemmas.List.{append-nil}
use Rattle.fm_base.specs.Interpretations.{Reading, IsInterpretation, is_tuple, values_of}
use Rattle.fm_base.specs.Models.{IsElements}
use Rattle.fm_base.specs.declared.ids.SortId.{SortId}
use Rattle.fm_base.specs.declared.signature.Rank.{Rank}
use Rattle.fm_base.specs.declared.signature.Sig.{Sig}
use Rattle.fm_base.specs.declared.signature.Ty.{Ty}
use Rattle.fm_base.specs.declared.formula.Formula.{Formula}
use Rattle.fm_base.specs.Expansions.{Symbols, Agree, RanksFit, with_symbols}
use Rattle.fm_nnf.specs.Lifting.{Lifted, Lifter, alone, both, mapped}
use Rattle.fm_nnf.specs.LiftLaw.{AllHold, AreReady, with_ranks}
use Rattle.fm_nnf.proofs.Locals.{agree_less, agree_chain, fits_along, fits_both}
use Rattle.fm_nnf.proofs.Sorting.{get_below, get_front}
use Rattle.fm_nnf.proofs.Coincidence.{Extends, coincides}

pub grow_extends : (big : Sig) (rs : List Rank) → Extends big (with_ranks big rs)
grow_extends big rs = record { sorts = refl; ranks = λ f r e. get_front big.ranks rs f r e }

pub extends_chain : (a b c : Sig) → Extends a b → Extends b c → Extends a c
extends_chain a b c p q = record { sorts = q.sorts ∙ p.sorts; ranks = λ f r e. q.ranks f r (p.ranks f r e) }

pub grow_nothing : (big : Sig) → with_ranks big [] ≡ big
grow_nothing big = λ i. record { sorts = big.sorts; ranks = append-nil big.ranks i }

pub grow_both : (big : Sig) (rs qs : List Rank) → with_ranks (with_ranks big rs) qs ≡ with_ranks big (rs ++ qs)
grow_both big rs qs = λ i. record { sorts = big.sorts; ranks = append_assoc big.ranks rs qs i }

pub ready_more : (sig big : Sig) (ds : List Formula) → Extends sig big → AreReady sig ds → AreReady big ds
ready_more sig big [] more h = tt
ready_more sig big (d ∷ ds) more h = ((coincides sig d [] h.0).grows big more, h.1, ready_more sig big ds more h.2)

pub ready_both : (sig : Sig) (ds es : List Formula) → AreReady sig ds → AreReady sig es → AreReady sig (ds ++ es)
ready_both sig [] es p q = q
ready_both sig (d ∷ ds) es p q = (p.0, p.1, ready_both sig ds es p.2 q)

pub hold_along : (sig : Sig) (size : ℕ → ℕ) (a b : Symbols) (ds : List Formula) → AreReady sig ds → Agree (length sig.ranks) a b → AllHold (with_symbols size a) ds → AllHold (with_symbols size b) ds
hold_along sig size a b [] ready agree h = tt
hold_along sig size a b (d ∷ ds) ready agree h = ((coincides sig d [] ready.0).local size a b [] agree ∙ h.0, hold_along sig size a b ds ready.2 agree h.1)

pub hold_both : (m : Reading) (ds es : List Formula) → AllHold m ds → AllHold m es → AllHold m (ds ++ es)
hold_both m [] es p q = q
hold_both m (d ∷ ds) es p q = (p.0, hold_both m ds es p.1 q)

pub hold_parts : (m : Reading) (ds es : List Formula) → AllHold m (ds ++ es) → AllHold m ds × AllHold m es
hold_parts m [] es h = (tt, h)
hold_parts m (d ∷ ds) es h = let rest = hold_parts m ds es h.1 in ((h.0, rest.0), rest.1)

get_cases : (xs ys : List Rank) (f : ℕ) (r : Rank) → slice_get (xs ++ ys) f ≡ Some r → (slice_get xs f ≡ Some r) ⊎ ((i : ℕ) × (f ≡ length xs + i) × (slice_get ys i ≡ Some r))
get_cases [] ys f r e = inr (f, omega arith, e)
get_cases (x ∷ xs) ys zero r e = inl e
get_cases (x ∷ xs) ys (suc f) r e = elim (get_cases xs ys f r e) [ inl h ↦ inl h | inr h ↦ inr (h.0, omega (arith, h.1), h.2) ]

fits_at : (m : Reading) (next : ℕ) (rs : List Rank) → RanksFit m next rs → (i : ℕ) (r : Rank) → slice_get rs i ≡ Some r → (xs : List ℕ) → is_tuple m r.args xs ≡ true → m.at (next + i) xs < values_of m r.result
fits_at m next [] h i r e xs t = cc
fits_at m next (q ∷ rs) h zero r e xs t =
    let same : q ≡ r = cc e in
    let here : m.at next xs < values_of m r.result = subst (λ (w : Rank). (ys : List ℕ) → is_tuple m w.args ys ≡ true → m.at next ys < values_of m w.result) same h.0 xs t in
    subst (λ (n : ℕ). m.at n xs < values_of m r.result) (omega arith) here
fits_at m next (q ∷ rs) h (suc i) r e xs t = subst (λ (n : ℕ). m.at n xs < values_of m r.result) (omega arith) (fits_at m (next + 1) rs h.1 i r e xs t)

tuple_along : (size : ℕ → ℕ) (a b : Symbols) (ts : List Ty) (xs : List ℕ) → is_tuple (with_symbols size a) ts xs ≡ is_tuple (with_symbols size b) ts xs
tuple_along size a b [] [] = refl
tuple_along size a b [] (x ∷ xs) = refl
tuple_along size a b (t ∷ ts) [] = refl
tuple_along size a b (Ty.Bool ∷ ts) (x ∷ xs) = ap (λ (c : Bool). nat_lt x 2 && c) (tuple_along size a b ts xs)
tuple_along size a b (Ty.Of s ∷ ts) (x ∷ xs) = ap (λ (c : Bool). nat_lt x (size s.0) && c) (tuple_along size a b ts xs)

values_along : (size : ℕ → ℕ) (a b : Symbols) (t : Ty) → values_of (with_symbols size a) t ≡ values_of (with_symbols size b) t
values_along size a b Ty.Bool = refl
values_along size a b (Ty.Of s) = refl

pub interprets_more : (big : Sig) (size : ℕ → ℕ) (a b : Symbols) (rs : List Rank) → IsInterpretation big (with_symbols size a) → Agree (length big.ranks) a b → RanksFit (with_symbols size b) (length big.ranks) rs → IsInterpretation (with_ranks big rs) (with_symbols size b)
interprets_more big size a b rs is agree fits = record {
  inhabited = is.inhabited;
  closed = λ f r xs e t.
      elim (get_cases big.ranks rs f r e) [
        | inl old ↦
            let small = is.closed f r xs old (tuple_along size a b r.args xs ∙ t) in
            subst (λ (n : ℕ). n < values_of (with_symbols size b) r.result) (sym (agree f xs (get_below big.ranks f r old))) (subst (λ (n : ℕ). a f xs < n) (values_along size a b r.result) small)
        | inr new ↦ subst (λ (n : ℕ). b n xs < values_of (with_symbols size b) r.result) (sym new.1) (fits_at (with_symbols size b) (length big.ranks) rs fits new.0 r new.2 xs t)
      ];
}

-- an expansion by the ranks in which the definitions hold
pub record Defined (big : Sig) (size : ℕ → ℕ) (a : Symbols) (ds : List Formula) (rs : List Rank) : Type 0 where
  pub at : Symbols
  pub agrees : Agree (length big.ranks) a at
  pub fits : RanksFit (with_symbols size at) (length big.ranks) rs
  pub holds : AllHold (with_symbols size at) ds

-- `Good` is what is made's sorting, `Says` what it says in a reading at a tuple
pub record LiftsTo (A : Type 0) (Good : A → Sig → List SortId → Type 0) (Says : A → Reading → List ℕ → Type 0) (big : Sig) (scope : List SortId) (r : Lifted A) : Type 0 where
  pub good : Good r.made (with_ranks big r.ranks) scope
  pub ready : AreReady (with_ranks big r.ranks) r.definitions
  pub sound : (m : Reading) → AllHold m r.definitions → (env : List ℕ) → IsElements m scope env → Says r.made m env
  pub expands : (size : ℕ → ℕ) (a : Symbols) → IsInterpretation big (with_symbols size a) → Defined big size a r.definitions r.ranks

pub lifts_alone : (A : Type 0) (Good : A → Sig → List SortId → Type 0) (Says : A → Reading → List ℕ → Type 0) (big : Sig) (scope : List SortId) (next : ℕ) (x : A) → Good x big scope → ((m : Reading) (env : List ℕ) → IsElements m scope env → Says x m env)
    → LiftsTo A Good Says big scope (alone x scope next)
lifts_alone A Good Says big scope next x good says = record {
  good = subst (λ (s : Sig). Good x s scope) (sym (grow_nothing big)) good;
  ready = tt;
  sound = λ m holds env at. says m env at;
  expands = λ size a is. record { at = a; agrees = λ f xs lt. refl; fits = tt; holds = tt };
}

pub lifts_mapped : (A B : Type 0) (Good : A → Sig → List SortId → Type 0) (Says : A → Reading → List ℕ → Type 0) (Good' : B → Sig → List SortId → Type 0) (Says' : B → Reading → List ℕ → Type 0) (big : Sig) (scope : List SortId) (f : A → B) (k : Lifter A) (next : ℕ)
    → ((x : A) (s : Sig) → Extends big s → Good x s scope → Good' (f x) s scope) → ((x : A) (m : Reading) (env : List ℕ) → Says x m env → Says' (f x) m env) → LiftsTo A Good Says big scope (k scope next) → LiftsTo B Good' Says' big scope (mapped f k scope next)
lifts_mapped A B Good Says Good' Says' big scope f k next good says h = record {
  good = good (k scope next).made (with_ranks big (k scope next).ranks) (grow_extends big (k scope next).ranks) h.good;
  ready = h.ready;
  sound = λ m holds env at. says (k scope next).made m env (h.sound m holds env at);
  expands = h.expands;
}

abbrev pub Monotone : (A : Type 0) → (A → Sig → List SortId → Type 0) → Type 0
Monotone A Good = (x : A) (s b : Sig) (scope : List SortId) → Extends s b → Good x s scope → Good x b scope

abbrev pub GoodBoth : {A B : Type 0} → (A → Sig → List SortId → Type 0) → (B → Sig → List SortId → Type 0) → A × B → Sig → List SortId → Type 0
GoodBoth G H p s scope = G p.0 s scope × H p.1 s scope

abbrev pub SaysBoth : {A B : Type 0} → (A → Reading → List ℕ → Type 0) → (B → Reading → List ℕ → Type 0) → A × B → Reading → List ℕ → Type 0
SaysBoth S T p m env = S p.0 m env × T p.1 m env

pub lifts_both : (A B : Type 0) (Good : A → Sig → List SortId → Type 0) (Says : A → Reading → List ℕ → Type 0) (Good' : B → Sig → List SortId → Type 0) (Says' : B → Reading → List ℕ → Type 0) (big : Sig) (scope : List SortId) (j : Lifter A) (k : Lifter B) (next : ℕ)
    → Monotone A Good → LiftsTo A Good Says big scope (j scope next) → LiftsTo B Good' Says' (with_ranks big (j scope next).ranks) scope (k scope (next + length (j scope next).ranks))
    → LiftsTo (A × B) (GoodBoth Good Good') (SaysBoth Says Says') big scope (both j k scope next)
lifts_both A B Good Says Good' Says' big scope j k next mono one two =
    let r = j scope next in
    let q = k scope (next + length r.ranks) in
    let all = grow_both big r.ranks q.ranks in
    let more = grow_extends (with_ranks big r.ranks) q.ranks in
    let n = length-append big.ranks r.ranks in
    record {
      good = subst (λ (s : Sig). Good r.made s scope × Good' q.made s scope) all (mono r.made (with_ranks big r.ranks) (with_ranks (with_ranks big r.ranks) q.ranks) scope more one.good, two.good);
      ready = subst (λ (s : Sig). AreReady s (r.definitions ++ q.definitions)) all (ready_both (with_ranks (with_ranks big r.ranks) q.ranks) r.definitions q.definitions (ready_more (with_ranks big r.ranks) (with_ranks (with_ranks big r.ranks) q.ranks) r.definitions more one.ready) two.ready);
      sound = λ m holds env at. (let p = hold_parts m r.definitions q.definitions holds in (one.sound m p.0 env at, two.sound m p.1 env at));
      expands = λ size a is.
          let first = one.expands size a is in
          let second = two.expands size first.at (interprets_more big size a first.at r.ranks is first.agrees first.fits) in
          let kept = agree_less (length big.ranks) (length (big.ranks ++ r.ranks)) first.at second.at (omega (arith, n)) second.agrees in
          record {
            at = second.at;
            agrees = agree_chain (length big.ranks) a first.at second.at first.agrees kept;
            fits = fits_both (with_symbols size second.at) (length big.ranks) r.ranks q.ranks (fits_along size first.at second.at (length (big.ranks ++ r.ranks)) (length big.ranks) r.ranks (omega (arith, n)) second.agrees first.fits) (subst (λ (i : ℕ). RanksFit (with_symbols size second.at) i q.ranks) n second.fits);
            holds = hold_both (with_symbols size second.at) r.definitions q.definitions (hold_along (with_ranks big r.ranks) size first.at second.at r.definitions one.ready second.agrees first.holds) second.holds;
          };
    }
