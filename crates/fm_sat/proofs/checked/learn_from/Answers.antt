use Rattle.std.proofs.Common.{◌≡◌, ◌++◌, ◌∷◌, [], ℕ, List, length, vec_len, eqb-true, sym, ◌∙◌, ap, subst, arith}
use Rattle.std.proofs.lemmas.List.{nil_from_length}
use Rattle.fm_base.specs.declared.ids.Lit.{Lit}
use Rattle.fm_base.specs.Resolution.{SameSet}
use Rattle.fm_trail.specs.declared.entry.Entry.{Entry}
use Rattle.fm_trail.specs.Trail.{implied, up_to, value_of}
use Rattle.fm_sat.specs.Learning.{Derives, Explains, IsAsserting, IsExplained}
use Rattle.fm_sat.proofs.checked.learn_from.Goals as goal
use Rattle.fm_sat.proofs.checked.learn_from.Goals.{then-is_empty, else-is_empty+in_ok-reason-in-Some}

pub undo_to-requires : goal.undo_to-requires
undo_to-requires c =
    let es = c.args.trail.now.entries in
    let v = c.in_ok-learnt-in-Some.learnt in
    let f = c.in_ok-learnt-in-Some.ensures in
    let t : IsExplained c.args.store.now.clauses es = record { levels = c.entries_are_levelled.ensures.levels; once = c.entries_are_levelled.ensures.once; explained = c.requires } in
    let a : IsAsserting es v.lits.items v.lit v.level = record { falsified = f.falsified; alone = f.alone; highest = f.level; lower = f.lower } in
    (c.learning_goes_on.ensures.added c.args.store.now.clauses es v.lits.items v.lit v.level t a).opened

pub imply-requires : goal.imply-requires
imply-requires c =
    let es = c.args.trail.now.entries in
    let v = c.in_ok-learnt-in-Some.learnt in
    let f = c.in_ok-learnt-in-Some.ensures in
    let t : IsExplained c.args.store.now.clauses es = record { levels = c.entries_are_levelled.ensures.levels; once = c.entries_are_levelled.ensures.once; explained = c.requires } in
    let a : IsAsserting es v.lits.items v.lit v.level = record { falsified = f.falsified; alone = f.alone; highest = f.level; lower = f.lower } in
    let g = c.learning_goes_on.ensures.added c.args.store.now.clauses es v.lits.items v.lit v.level t a in
    ap (λ (xs : List Entry). value_of xs v.lit.atom) c.undo_to.ensures.entries ∙ g.free

pub returns-in_ok-imply-in-Some : goal.returns-in_ok-imply-in-Some
returns-in_ok-imply-in-Some c =
    let cs = c.args.store.now.clauses in
    let es = c.args.trail.now.entries in
    let v = c.in_ok-learnt-in-Some.learnt in
    let f = c.in_ok-learnt-in-Some.ensures in
    let t : IsExplained c.args.store.now.clauses es = record { levels = c.entries_are_levelled.ensures.levels; once = c.entries_are_levelled.ensures.once; explained = c.requires } in
    let a : IsAsserting es v.lits.items v.lit v.level = record { falsified = f.falsified; alone = f.alone; highest = f.level; lower = f.lower } in
    let on : ℕ → List Entry = λ n. up_to v.level es ++ implied (up_to v.level es) v.lit n ∷ [] in
    let new : c.imply.new.self.entries ≡ on c.if-is_empty.reason = ap (λ h. h.entries) c.in_ok-imply-in-Some.ensures.added ∙ ap (λ (xs : List Entry). xs ++ implied xs v.lit c.if-is_empty.reason ∷ []) c.undo_to.ensures.entries in
    subst (Explains c.if-is_empty.store.clauses) (sym new) (elim c.if-is_empty.branch [
      | then-is_empty w ↦
          let none : v.chain.steps.items ≡ [] = nil_from_length v.chain.steps.items (let z = eqb-true (vec_len v.chain.steps) 0 (sym c.is_empty.ensures ∙ w.if-is_empty.true) in omega arith) in
          let same : SameSet f.chain.0 v.lits.items = subst (λ (ss : List (Lit × ℕ)). Derives 1 cs es f.chain.0 ss v.lits.items) none f.chain.2 in
          let g = c.learning_goes_on.ensures.same cs es c.in-Some.clause f.chain.0 v.lits.items v.lit v.level t f.chain.1 same a in
          subst (λ h. Explains h.clauses (on c.if-is_empty.reason)) (sym w.store-is) (subst (λ (n : ℕ). Explains cs (on n)) (sym w.reason-is) g.explained)
      | else-is_empty+in_ok-reason-in-Some w ↦
          let lits = w.as_slice.result.now in
          let added : c.if-is_empty.store.clauses ≡ cs ++ v.lits.items ∷ [] = ap (λ h. h.clauses) (w.store-is ∙ w.in_ok-reason-in-Some.ensures.added) ∙ ap (λ (xs : List Lit). cs ++ xs ∷ []) w.as_slice.ensures.value in
          let number : c.if-is_empty.reason ≡ length cs = w.reason-is ∙ w.in_ok-reason-in-Some.ensures.number in
          let g = c.learning_goes_on.ensures.added cs es v.lits.items v.lit v.level t a in
          subst (λ (xs : List (List Lit)). Explains xs (on c.if-is_empty.reason)) (sym added) (subst (λ (n : ℕ). Explains (cs ++ v.lits.items ∷ []) (on n)) (sym number) g.explained)
    ])
