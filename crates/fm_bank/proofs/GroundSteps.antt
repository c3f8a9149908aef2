-- One step of the loops that put ground terms in.
use Rattle.std.proofs.Common.{◌≡◌, ℕ, ◌+◌, ◌<◌, Bool, true, false, List, [], ◌∷◌, ◌++◌, length, drop, Option, Some, None, refl, sym, subst, ap, ◌∙◌, append_assoc}
use Rattle.std.specs.Prelude.{Result, Ok, Err, OnOk, OnErr, get_or, if◌then◌else◌}
use Rattle.fm_base.specs.declared.ids.TermId.{TermId}
use Rattle.fm_base.specs.declared.signature.Sig.{Sig}
use Rattle.fm_base.specs.declared.formula.Patom.{Patom}
use Rattle.fm_base.specs.declared.formula.Pterm.{Pterm}
use Rattle.fm_bank.specs.GroundTerms.{after_ground_terms, application_ground_grown, ground_atom_grown, ground_grown, ground_literals_grown, number_more, terms_ground_grown}
use Rattle.fm_bank.specs.Interning.{Held, IsBetween, IsFront, IsHeld, IsPartway}
use Rattle.fm_bank.specs.Sorted.{are_sorted_literals, is_sorted_clause}
use Rattle.fm_bank.specs.Terms.{Term, numbers}
use Rattle.fm_bank.specs.declared.atom.Atom.{Atom}
use Rattle.fm_bank.specs.declared.clause.Clause.{Clause}
use Rattle.fm_bank.specs.declared.clause.Plit.{Plit}
use Rattle.std.proofs.lemmas.Bool.{and_parts}
use Rattle.fm_bank.proofs.Growing.{front-refl, front-trans}
use Rattle.fm_bank.proofs.GroundGrowing.{all_ground_fronts, applied_front, ground_atom_fronts, ground_fronts, ground_literals_fronts, ground_literals_good}
use Rattle.fm_bank.proofs.Holding.{held, held_between}
use Rattle.fm_bank.proofs.Lookups.{behind}
use Rattle.fm_bank.proofs.Steps.{between_more, next_item, numbers-push}

-- numbers with more behind them, where all are there
abbrev pub joined : Bool → List ℕ → Option (List ℕ) → Option (List ℕ)
joined b ns o = if b then behind ns o else None

joined_none : (b : Bool) (ns : List ℕ) (o : Option (List ℕ)) → joined b ns (number_more None o) ≡ joined false ns o
joined_none true ns o = refl
joined_none false ns o = refl

joined_more : (b : Bool) (ns : List ℕ) (n : ℕ) (o : Option (List ℕ)) → joined b ns (number_more (Some n) o) ≡ joined b (ns ++ n ∷ []) o
joined_more false ns n o = refl
joined_more true ns n None = refl
joined_more true ns n (Some ms) = ap Some (sym (append_assoc ns (n ∷ []) ms))

-- the first of what is left, and the rest
next_grown : (ts : List Pterm) (i : ℕ) (x : Pterm) (mid new : List Term) (o : Option ℕ) → i < length ts → x ≡ get_or ts i x → ground_grown x mid ≡ (new, o)
    → terms_ground_grown (drop i ts) mid ≡ ((terms_ground_grown (drop (i + 1) ts) new).0, number_more o (terms_ground_grown (drop (i + 1) ts) new).1)
next_grown ts i x mid new o lt is one =
    ap (λ (l : List Pterm). terms_ground_grown l mid) (next_item ts i x lt is) ∙ ap (λ (g : List Term × Option ℕ). ((terms_ground_grown (drop (i + 1) ts) g.0).0, number_more g.1 (terms_ground_grown (drop (i + 1) ts) g.0).1)) one

pub ground_left_out : (ts : List Pterm) (i : ℕ) (x : Pterm) (mid new : List Term) (total : List Term × Option (List ℕ)) (b : Bool) (ns : List ℕ) → i < length ts → x ≡ get_or ts i x
    → total ≡ ((terms_ground_grown (drop i ts) mid).0, joined b ns (terms_ground_grown (drop i ts) mid).1) → ground_grown x mid ≡ (new, None)
    → total ≡ ((terms_ground_grown (drop (i + 1) ts) new).0, joined false ns (terms_ground_grown (drop (i + 1) ts) new).1)
ground_left_out ts i x mid new total b ns lt is e one =
    let rest = terms_ground_grown (drop (i + 1) ts) new in
    e ∙ ap (λ (g : List Term × Option (List ℕ)). (g.0, joined b ns g.1)) (next_grown ts i x mid new None lt is one) ∙ ap (λ (o : Option (List ℕ)). (rest.0, o)) (joined_none b ns rest.1)

pub ground_behind : (ts : List Pterm) (i : ℕ) (x : Pterm) (mid new : List Term) (total : List Term × Option (List ℕ)) (b : Bool) (ids more : List TermId) (id : TermId) → i < length ts → x ≡ get_or ts i x
    → total ≡ ((terms_ground_grown (drop i ts) mid).0, joined b (numbers ids) (terms_ground_grown (drop i ts) mid).1) → ground_grown x mid ≡ (new, Some id.0) → more ≡ ids ++ id ∷ []
    → total ≡ ((terms_ground_grown (drop (i + 1) ts) new).0, joined b (numbers more) (terms_ground_grown (drop (i + 1) ts) new).1)
ground_behind ts i x mid new total b ids more id lt is e one pushed =
    let rest = terms_ground_grown (drop (i + 1) ts) new in
    e ∙ ap (λ (g : List Term × Option (List ℕ)). (g.0, joined b (numbers ids) g.1)) (next_grown ts i x mid new (Some id.0) lt is one) ∙ ap (λ (o : Option (List ℕ)). (rest.0, o)) (joined_more b (numbers ids) id.0 rest.1) ∙ ap (λ (ns : List ℕ). (rest.0, joined b ns rest.1)) (sym (numbers-push ids id) ∙ ap numbers (sym pushed))

pub between_ground : (x : Pterm) (mid new : List Term) (o : Option ℕ) → ground_grown x mid ≡ (new, o) → IsBetween mid new (ground_grown x mid).0
between_ground x mid new o e =
    let same : (ground_grown x mid).0 ≡ new = ap (λ (g : List Term × Option ℕ). g.0) e in
    (subst (λ (ts : List Term). IsFront mid ts) same (ground_fronts x mid), subst (λ (ts : List Term). IsFront new ts) (sym same) (front-refl new))

pub ground_stopped : (ts : List Pterm) (i : ℕ) (x : Pterm) (old mid new : List Term) (total : List Term × Option (List ℕ)) (b : Bool) (ns : List ℕ) → i < length ts → x ≡ get_or ts i x
    → total ≡ ((terms_ground_grown (drop i ts) mid).0, joined b ns (terms_ground_grown (drop i ts) mid).1) → IsFront old mid → IsBetween mid new (ground_grown x mid).0 → IsBetween old new total.0
ground_stopped ts i x old mid new total b ns lt is e front here =
    let next : total.0 ≡ (terms_ground_grown (drop (i + 1) ts) (ground_grown x mid).0).0 = ap (λ (g : List Term × Option (List ℕ)). g.0) e ∙ ap (λ (l : List Pterm). (terms_ground_grown l mid).0) (next_item ts i x lt is) in
    subst (λ (l : List Term). IsBetween old new l) (sym next) (between_more old mid new (ground_grown x mid).0 _ front here (all_ground_fronts (drop (i + 1) ts) (ground_grown x mid).0))

pub ground_applied_stopped : (f : ℕ) (ts : List Pterm) (old mid new : List Term) (o : Option (List ℕ)) → terms_ground_grown ts old ≡ (mid, o) → new ≡ mid → IsBetween old new (application_ground_grown f ts old).0
ground_applied_stopped f ts old mid new o e kept =
    let args = terms_ground_grown ts old in
    let here : new ≡ args.0 = kept ∙ sym (ap (λ (g : List Term × Option (List ℕ)). g.0) e) in
    subst (λ (l : List Term). IsBetween old l (application_ground_grown f ts old).0) (sym here) (all_ground_fronts ts old, applied_front f args.0 args.1)

pub ground_left_stopped : (atom : Patom) (a b : Pterm) (old new : List Term) → atom ≡ Patom.Equal a b → IsBetween old new (ground_grown a old).0 → IsBetween old new (ground_atom_grown atom old)
ground_left_stopped atom a b old new is here =
    subst (λ (x : Patom). IsBetween old new (ground_atom_grown x old)) (sym is) (here.0, front-trans new (ground_grown a old).0 _ here.1 (ground_fronts b (ground_grown a old).0))

pub ground_right_stopped : (atom : Patom) (a b : Pterm) (old mid new : List Term) (o : Option ℕ) → atom ≡ Patom.Equal a b → ground_grown a old ≡ (mid, o) → IsBetween mid new (ground_grown b mid).0 → IsBetween old new (ground_atom_grown atom old)
ground_right_stopped atom a b old mid new o is left here =
    let same : mid ≡ (ground_grown a old).0 = sym (ap (λ (g : List Term × Option ℕ). g.0) left) in
    let there : IsBetween (ground_grown a old).0 new (ground_grown b (ground_grown a old).0).0 = subst (λ (l : List Term). IsBetween l new (ground_grown b l).0) same here in
    subst (λ (x : Patom). IsBetween old new (ground_atom_grown x old)) (sym is) (front-trans old (ground_grown a old).0 new (ground_fronts a old) there.0, there.1)

-- the literals, one after the other
pub ground_atom_front : (atom : Patom) (mid new : List Term) → new ≡ ground_atom_grown atom mid → IsFront mid new
ground_atom_front atom mid new e = subst (λ (l : List Term). IsFront mid l) (sym e) (ground_atom_fronts atom mid)

pub ground_literals_behind : (ls : List Plit) (i : ℕ) (x : Plit) (mid new total : List Term) → i < length ls → x ≡ get_or ls i x → total ≡ ground_literals_grown (drop i ls) mid → new ≡ ground_atom_grown x.atom mid → total ≡ ground_literals_grown (drop (i + 1) ls) new
ground_literals_behind ls i x mid new total lt is e one =
    e ∙ ap (λ (l : List Plit). ground_literals_grown l mid) (next_item ls i x lt is) ∙ ap (ground_literals_grown (drop (i + 1) ls)) (sym one)

pub ground_literals_stopped : (ls : List Plit) (i : ℕ) (x : Plit) (old mid new total : List Term) → i < length ls → x ≡ get_or ls i x → total ≡ ground_literals_grown (drop i ls) mid → IsFront old mid → IsBetween mid new (ground_atom_grown x.atom mid) → IsBetween old new total
ground_literals_stopped ls i x old mid new total lt is e front here =
    let next : total ≡ ground_literals_grown (drop (i + 1) ls) (ground_atom_grown x.atom mid) = e ∙ ap (λ (l : List Plit). ground_literals_grown l mid) (next_item ls i x lt is) in
    subst (λ (l : List Term). IsBetween old new l) (sym next) (between_more old mid new (ground_atom_grown x.atom mid) _ front here (ground_literals_fronts (drop (i + 1) ls) (ground_atom_grown x.atom mid)))

-- what a bank holds afterwards
between_either : {T E : Type 0} (terms new target : List Term) (r : Result T E) → IsFront terms target → OnOk r (new ≡ target) → OnErr r (IsBetween terms new target) → IsBetween terms new target
between_either terms new target (Ok v) front ok err = subst (λ (l : List Term). IsBetween terms l target) (sym ok) (front, front-refl target)
between_either terms new target (Err e) front ok err = err

pub held_ground : {T E : Type 0} (sig : Sig) (terms new : List Term) (atoms : List Atom) (b : Held) (clause : Clause) (lits : List Plit) (r : Result T E) → held sig terms atoms ≡ b → IsHeld sig terms atoms → is_sorted_clause b.sig clause ≡ true → lits ≡ clause.lits
    → OnOk r (new ≡ ground_literals_grown lits terms) → OnErr r (IsBetween terms new (ground_literals_grown lits terms)) → IsHeld sig new atoms
held_ground sig terms new atoms b clause lits r is h sorted same ok err =
    let here : is_sorted_clause sig clause ≡ true = (λ i. is_sorted_clause (is i).sig clause) ∙ sorted in
    let literals = (and_parts _ (are_sorted_literals sig clause.vars clause.lits) here).1 in
    let good = ground_literals_good sig clause.vars lits terms h.terms_good (subst (λ (ls : List Plit). are_sorted_literals sig clause.vars ls ≡ true) (sym same) literals) in
    held_between sig terms new (ground_literals_grown lits terms) atoms h (between_either terms new (ground_literals_grown lits terms) r (ground_literals_fronts lits terms) ok err) good

pub partway_ground : {T E : Type 0} (sig : Sig) (terms new : List Term) (atoms : List Atom) (b : Held) (lits seen : List Plit) (r : Result T E) → held sig terms atoms ≡ b → seen ≡ lits → OnErr r (IsBetween terms new (ground_literals_grown seen terms))
    → OnErr r (IsPartway b (held sig new atoms) (after_ground_terms b lits))
partway_ground sig terms new atoms b lits seen (Ok v) is same err = tt
partway_ground sig terms new atoms b lits seen (Err e) is same err =
    let between = subst (λ (ls : List Plit). IsBetween terms new (ground_literals_grown ls terms)) same err in
    subst (λ (x : Held). IsPartway x (held sig new atoms) (after_ground_terms x lits)) is (record { sig = refl; terms = between; atoms = (front-refl atoms, front-refl atoms) })
