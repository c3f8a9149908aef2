-- Growth by ground terms goes on at the end, keeps the terms well sorted, and without variables is that of the instance.
use Rattle.std.proofs.Common.{◌≡◌, ℕ, true, List, [], ◌∷◌, map, Option, Some, None, refl, sym, subst, ap, ◌∙◌}
use Rattle.std.specs.Prelude.{slice_get}
use Rattle.std.proofs.lemmas.Bool.{and_from, and_parts, false≢true}
use Rattle.fm_base.specs.Truth.{Sort, are_arguments, have_one_sort, is_of_sort}
use Rattle.fm_base.specs.Truth as truths
use Rattle.fm_base.specs.declared.ids.SortId.{SortId}
use Rattle.fm_base.specs.declared.ids.SymId.{SymId}
use Rattle.fm_base.specs.declared.signature.Rank.{Rank}
use Rattle.fm_base.specs.declared.signature.Sig.{Sig}
use Rattle.fm_base.specs.declared.signature.Ty.{Ty}
use Rattle.fm_base.specs.declared.formula.Patom.{Patom}
use Rattle.fm_base.specs.declared.formula.Pterm
use Rattle.fm_base.specs.declared.formula.Pterm.{Pterm}
use Rattle.fm_base.specs.declared.formula.Pterm.TheOpen.{Pterm-F}
use Rattle.fm_base.specs.declared.formula.Pterm.TheFolds.{fold-roll-Pterm}
use Rattle.fm_base.proofs.NormalTerms.{Each, every, term_induction}
use Rattle.fm_bank.specs.GroundTerms.{GroundClausesAgree, GroundGrown, application_ground_grown, ground_applied, ground_atom_grown, ground_grown, ground_literals_grown, ground_step, number_more, terms_ground_grown}
use Rattle.fm_bank.specs.Instances.{with_number}
use Rattle.fm_bank.specs.Interning.{IsFront, application_grown, atom_grown, grown, literals_grown, term_number, terms_grown, with_term}
use Rattle.fm_bank.specs.Sorted.{are_sorted_literals, is_sorted_atom, sort_of, sort_step}
use Rattle.fm_bank.specs.Terms.{Term, are_of_types, are_terms, is_application, is_term, is_type, result_type, type_of}
use Rattle.fm_bank.specs.declared.clause.Plit.{Plit}
use Rattle.fm_bank.proofs.Growing.{front-refl, front-trans, front-with_term}
use Rattle.fm_bank.proofs.Instancing.{by_predicate, by_rank, sort_fits, sort_pair}
use Rattle.fm_bank.proofs.Lengths.{sort_of_var}
use Rattle.fm_bank.proofs.Sorts.{good_with_term, type_kept, typed_there}
use Rattle.fm_bank.proofs.Steps.{grown_app}

pub ground_of_var : (v : ℕ) (terms : List Term) → ground_grown (Pterm.Var v) terms ≡ (terms, None)
unfolding Pterm.roll-Pterm denote.Hole.Carrier.roll
ground_of_var v terms = ap (λ (g : GroundGrown). g terms) (fold-roll-Pterm GroundGrown ground_step (Pterm-F.Var v))

pub ground_of_app : (f : SymId) (ts : List Pterm) (terms : List Term) → ground_grown (Pterm.App f ts) terms ≡ application_ground_grown f.0 ts terms
unfolding Pterm.roll-Pterm denote.Hole.Carrier.roll
ground_of_app f ts terms = ap (λ (g : GroundGrown). g terms) (fold-roll-Pterm GroundGrown ground_step (Pterm-F.App f ts))

sort_of_app : (f : SymId) (ts : List Pterm) (sig : Sig) (scope : List SortId) → sort_of (Pterm.App f ts) sig scope ≡ truths.result_of (map sort_of ts) (slice_get sig.ranks f.0) sig scope
unfolding Pterm.roll-Pterm denote.Hole.Carrier.roll
sort_of_app f ts sig scope = ap (λ (k : Sort). k sig scope) (fold-roll-Pterm Sort sort_step (Pterm-F.App f ts))

-- what is there stays in front
abbrev Fronts : Pterm → Type 0
Fronts t = (terms : List Term) → IsFront terms (ground_grown t terms).0

pub applied_front : (f : ℕ) (terms : List Term) (o : Option (List ℕ)) → IsFront terms (ground_applied f terms o).0
applied_front f terms None = front-refl terms
applied_front f terms (Some args) = front-with_term terms (record { symbol = f; args = args })

all_front : (ts : List Pterm) → Each Fronts ts → (terms : List Term) → IsFront terms (terms_ground_grown ts terms).0
all_front [] each terms = front-refl terms
all_front (t ∷ ts) each terms = front-trans terms (ground_grown t terms).0 _ (each.0 terms) (all_front ts each.1 (ground_grown t terms).0)

pub application_front : (f : ℕ) (ts : List Pterm) (terms : List Term) → IsFront terms (terms_ground_grown ts terms).0 → IsFront terms (application_ground_grown f ts terms).0
application_front f ts terms front =
    let args = terms_ground_grown ts terms in
    front-trans terms args.0 _ front (applied_front f args.0 args.1)

pub ground_fronts : (t : Pterm) → Fronts t
ground_fronts = term_induction Fronts (λ v terms. subst (λ (g : List Term × Option ℕ). IsFront terms g.0) (sym (ground_of_var v terms)) (front-refl terms)) (λ f ts each terms. subst (λ (g : List Term × Option ℕ). IsFront terms g.0) (sym (ground_of_app f ts terms)) (application_front f.0 ts terms (all_front ts each terms)))

pub all_ground_fronts : (ts : List Pterm) (terms : List Term) → IsFront terms (terms_ground_grown ts terms).0
all_ground_fronts ts terms = all_front ts (every Fronts ground_fronts ts) terms

pub ground_atom_fronts : (a : Patom) (terms : List Term) → IsFront terms (ground_atom_grown a terms)
ground_atom_fronts (Patom.Pred p ts) terms = application_front p.0 ts terms (all_ground_fronts ts terms)
ground_atom_fronts (Patom.Equal a b) terms = front-trans terms (ground_grown a terms).0 _ (ground_fronts a terms) (ground_fronts b (ground_grown a terms).0)

pub ground_literals_fronts : (ls : List Plit) (terms : List Term) → IsFront terms (ground_literals_grown ls terms)
ground_literals_fronts [] terms = front-refl terms
ground_literals_fronts (l ∷ ls) terms = front-trans terms (ground_atom_grown l.atom terms) _ (ground_atom_fronts l.atom terms) (ground_literals_fronts ls (ground_atom_grown l.atom terms))

-- the terms stay well sorted, and a number is one of a term of the right sort
record IsGood (sig : Sig) (u : Ty) (g : List Term × Option ℕ) : Type 0 where
  pub good : are_terms sig g.0 ≡ true
  pub typed : (n : ℕ) → g.1 ≡ Some n → is_type (type_of sig g.0 n) u ≡ true

record AreGood (sig : Sig) (us : List Ty) (g : List Term × Option (List ℕ)) : Type 0 where
  pub good : are_terms sig g.0 ≡ true
  pub typed : (ns : List ℕ) → g.1 ≡ Some ns → are_of_types sig g.0 ns us ≡ true

more_parts : (o : Option ℕ) (os : Option (List ℕ)) (ns : List ℕ) → number_more o os ≡ Some ns → (n : ℕ) × (rest : List ℕ) × (o ≡ Some n) × (os ≡ Some rest) × (ns ≡ n ∷ rest)
more_parts None os ns e = cc
more_parts (Some n) None ns e = cc
more_parts (Some n) (Some rest) ns e = (n, rest, refl, refl, sym (cc e))

applied_good : (sig : Sig) (f : ℕ) (rank : Rank) (terms : List Term) (o : Option (List ℕ)) (u : Ty) → slice_get sig.ranks f ≡ Some rank → is_type (Some rank.result) u ≡ true → AreGood sig rank.args (terms, o) → IsGood sig u (ground_applied f terms o)
applied_good sig f rank terms None u named fits args = record { good = args.good; typed = λ n e. absurd (cc e) }
applied_good sig f rank terms (Some ns) u named fits args =
    let t : Term = record { symbol = f; args = ns } in
    let fit : is_term sig terms t ≡ true = ap (λ (o : Option Rank). is_application sig terms o ns) named ∙ args.typed ns refl in
    record {
      good = good_with_term sig terms t args.good fit;
      typed = λ n e.
          let same : term_number terms t ≡ n = cc e in
          subst (λ (k : ℕ). is_type (type_of sig (with_term terms t) k) u ≡ true) same (typed_there sig terms t u (ap (λ (o : Option Rank). is_type (result_type o) u) named ∙ fits));
    }

module _ (sig : Sig) (scope : List SortId) where
  abbrev IsSound : Pterm → Type 0
  IsSound t = (terms : List Term) (s : SortId) → are_terms sig terms ≡ true → sort_of t sig scope ≡ Some s → IsGood sig (Ty.Of s) (ground_grown t terms)

  all_good : (ts : List Pterm) (us : List Ty) → Each IsSound ts → (terms : List Term) → are_terms sig terms ≡ true → are_arguments (map sort_of ts) us sig scope ≡ true → AreGood sig us (terms_ground_grown ts terms)
  all_good [] [] each terms good fit = record { good = good; typed = λ ns e. let none : [] ≡ ns = cc e in subst (λ (l : List ℕ). are_of_types sig terms l [] ≡ true) none refl }
  all_good [] (u ∷ us) each terms good fit = absurd (false≢true fit)
  all_good (t ∷ ts) [] each terms good fit = absurd (false≢true fit)
  all_good (t ∷ ts) (u ∷ us) each terms good fit =
      let p = and_parts (is_of_sort (sort_of t sig scope) u) (are_arguments (map sort_of ts) us sig scope) fit in
      let here = sort_fits (sort_of t sig scope) u p.0 in
      let one = ground_grown t terms in
      let put = each.0 terms here.0 good here.1 in
      let next = terms_ground_grown ts one.0 in
      let rest = all_good ts us each.1 one.0 put.good p.1 in
      record {
        good = rest.good;
        typed = λ ns e.
            let q = more_parts one.1 next.1 ns e in
            let first = subst (λ (x : Ty). is_type (type_of sig one.0 q.0) x ≡ true) (sym here.2) (put.typed q.0 q.2) in
            subst (λ (l : List ℕ). are_of_types sig next.0 l (u ∷ us) ≡ true) (sym q.4) (and_from _ _ (type_kept sig one.0 next.0 q.0 u (all_ground_fronts ts one.0) first) (rest.typed q.1 q.3));
      }

  sound_var : (v : ℕ) → IsSound (Pterm.Var v)
  sound_var v terms s good sorted = subst (IsGood sig (Ty.Of s)) (sym (ground_of_var v terms)) (record { good = good; typed = λ n e. absurd (cc e) })

  sound_app : (f : SymId) (ts : List Pterm) → Each IsSound ts → IsSound (Pterm.App f ts)
  sound_app f ts each terms s good sorted =
      let r = by_rank (map sort_of ts) (slice_get sig.ranks f.0) sig scope s (sym (sort_of_app f ts sig scope) ∙ sorted) in
      let fits : is_type (Some r.0.result) (Ty.Of s) ≡ true = ap (λ (u : Ty). is_type (Some u) (Ty.Of s)) r.3 ∙ is_itself s in
      let args = terms_ground_grown ts terms in
      subst (IsGood sig (Ty.Of s)) (sym (ground_of_app f ts terms)) (applied_good sig f.0 r.0 args.0 args.1 (Ty.Of s) r.1 fits (all_good ts r.0.args each terms good r.2))
    where
      is_itself : (s : SortId) → is_type (Some (Ty.Of s)) (Ty.Of s) ≡ true
      is_itself s = Rattle.std.proofs.lemmas.Bool.eq-eqb s.0 s.0 refl

  sound : (t : Pterm) → IsSound t
  sound = term_induction IsSound sound_var sound_app

  atom_good : (a : Patom) (terms : List Term) → are_terms sig terms ≡ true → is_sorted_atom sig scope a ≡ true → are_terms sig (ground_atom_grown a terms) ≡ true
  atom_good (Patom.Pred p ts) terms good sorted =
      let r = by_predicate (map sort_of ts) (slice_get sig.ranks p.0) sig scope sorted in
      let args = terms_ground_grown ts terms in
      (applied_good sig p.0 r.0 args.0 args.1 Ty.Bool r.1 (ap (λ (u : Ty). is_type (Some u) Ty.Bool) r.3) (all_good ts r.0.args (every IsSound sound ts) terms good r.2)).good
  atom_good (Patom.Equal a b) terms good sorted =
      let p = sort_pair (sort_of a sig scope) (sort_of b sig scope) sorted in
      (sound b (ground_grown a terms).0 p.0 (sound a terms p.0 good p.1).good p.2).good

  pub ground_literals_good : (ls : List Plit) (terms : List Term) → are_terms sig terms ≡ true → are_sorted_literals sig scope ls ≡ true → are_terms sig (ground_literals_grown ls terms) ≡ true
  ground_literals_good [] terms good sorted = good
  ground_literals_good (l ∷ ls) terms good sorted =
      let p = and_parts (is_sorted_atom sig scope l.atom) (are_sorted_literals sig scope ls) sorted in
      ground_literals_good ls (ground_atom_grown l.atom terms) (atom_good l.atom terms good p.0) p.1

-- without variables every term is ground
module _ (sig : Sig) where
  abbrev Agrees : Pterm → Type 0
  Agrees t = (terms : List Term) (s : SortId) → sort_of t sig [] ≡ Some s → ground_grown t terms ≡ ((grown t [] terms).0, Some (grown t [] terms).1)

  all_agree : (ts : List Pterm) (us : List Ty) → Each Agrees ts → (terms : List Term) → are_arguments (map sort_of ts) us sig [] ≡ true → terms_ground_grown ts terms ≡ ((terms_grown ts [] terms).0, Some (terms_grown ts [] terms).1)
  all_agree [] [] each terms fit = refl
  all_agree [] (u ∷ us) each terms fit = absurd (false≢true fit)
  all_agree (t ∷ ts) [] each terms fit = absurd (false≢true fit)
  all_agree (t ∷ ts) (u ∷ us) each terms fit =
      let p = and_parts (is_of_sort (sort_of t sig []) u) (are_arguments (map sort_of ts) us sig []) fit in
      let here = sort_fits (sort_of t sig []) u p.0 in
      let one = grown t [] terms in
      ap (λ (g : List Term × Option ℕ). ((terms_ground_grown ts g.0).0, number_more g.1 (terms_ground_grown ts g.0).1)) (each.0 terms here.0 here.1) ∙ ap (λ (g : List Term × Option (List ℕ)). (g.0, with_number one.1 g.1)) (all_agree ts us each.1 one.0 p.1)

  application_agrees : (f : ℕ) (ts : List Pterm) (terms : List Term) → terms_ground_grown ts terms ≡ ((terms_grown ts [] terms).0, Some (terms_grown ts [] terms).1) → application_ground_grown f ts terms ≡ ((application_grown f ts [] terms).0, Some (application_grown f ts [] terms).1)
  application_agrees f ts terms e = ap (λ (g : List Term × Option (List ℕ)). ground_applied f g.0 g.1) e

  agree_var : (v : ℕ) → Agrees (Pterm.Var v)
  agree_var v terms s sorted = absurd (cc (sym (sort_of_var v sig []) ∙ sorted))

  agree_app : (f : SymId) (ts : List Pterm) → Each Agrees ts → Agrees (Pterm.App f ts)
  agree_app f ts each terms s sorted =
      let r = by_rank (map sort_of ts) (slice_get sig.ranks f.0) sig [] s (sym (sort_of_app f ts sig []) ∙ sorted) in
      ground_of_app f ts terms ∙ application_agrees f.0 ts terms (all_agree ts r.0.args each terms r.2) ∙ ap (λ (g : List Term × ℕ). (g.0, Some g.1)) (sym (grown_app f ts [] terms))

  agree : (t : Pterm) → Agrees t
  agree = term_induction Agrees agree_var agree_app

  atom_agrees : (a : Patom) (terms : List Term) → is_sorted_atom sig [] a ≡ true → ground_atom_grown a terms ≡ (atom_grown a [] terms).0
  atom_agrees (Patom.Pred p ts) terms sorted =
      let r = by_predicate (map sort_of ts) (slice_get sig.ranks p.0) sig [] sorted in
      ap (λ (g : List Term × Option ℕ). g.0) (application_agrees p.0 ts terms (all_agree ts r.0.args (every Agrees agree ts) terms r.2))
  atom_agrees (Patom.Equal a b) terms sorted =
      let p = sort_pair (sort_of a sig []) (sort_of b sig []) sorted in
      ap (λ (g : List Term × Option ℕ). (ground_grown b g.0).0) (agree a terms p.0 p.1) ∙ ap (λ (g : List Term × Option ℕ). g.0) (agree b (grown a [] terms).0 p.0 p.2)

  literals_agree : (ls : List Plit) (terms : List Term) → are_sorted_literals sig [] ls ≡ true → ground_literals_grown ls terms ≡ (literals_grown ls [] terms).0
  literals_agree [] terms sorted = refl
  literals_agree (l ∷ ls) terms sorted =
      let p = and_parts (is_sorted_atom sig [] l.atom) (are_sorted_literals sig [] ls) sorted in
      ap (ground_literals_grown ls) (atom_agrees l.atom terms p.0) ∙ literals_agree ls (atom_grown l.atom [] terms).0 p.1

pub ground_agree : GroundClausesAgree
ground_agree sig clause b sorted none =
    let literals = (and_parts _ (are_sorted_literals sig clause.vars clause.lits) sorted).1 in
    literals_agree sig clause.lits b.terms (subst (λ (vars : List SortId). are_sorted_literals sig vars clause.lits ≡ true) none literals)
