use Rattle.std.proofs.Common.{◌≡◌, ℕ, Bool, true, false, Some, List, [], length, replicate, sym, ◌∙◌, ap, subst}
use Rattle.fm_base.specs.declared.ids.Lit.{Lit}
use Rattle.fm_trail.specs.Trail.{are_false}
use Rattle.fm_sat.specs.Marks.{AreCounted, AreJoined, AreLow, marked}
use Rattle.fm_sat.proofs.Counted.{counted_none}
use Rattle.fm_sat.proofs.Endings.{start_low, start_set}
use Rattle.fm_base.proofs.Resolution.{chain_from}
use Rattle.fm_base.specs.Resolution.{opposite}
use Rattle.fm_sat.proofs.Chains.{chain_end, chain_of, none_left, zero_highest}
use Rattle.fm_sat.proofs.store.Store.refute.Goals as goal

pub mark_clause-requires-clause-counted : goal.mark_clause-requires-clause-counted
mark_clause-requires-clause-counted c =
    let es = c.args.trail.now.entries in
    let none : c.in_ok-marks.marks.marks.items ≡ replicate (length es) false = c.in_ok-marks.ensures.marks ∙ ap (λ (n : ℕ). replicate n false) c.len.ensures in
    let m = c.in_ok-marks.marks in
    subst (λ (xs : List Lit). AreCounted es 0 m.marks.items m.count xs) (sym c.in_ok-marks.ensures.lower) (subst (λ (n : ℕ). AreCounted es 0 m.marks.items n []) (sym c.in_ok-marks.ensures.count) (subst (λ (xs : List Bool). AreCounted es 0 xs 0 []) (sym none) (counted_none es 0)))

pub mark_clause-requires-clause-low : goal.mark_clause-requires-clause-low
mark_clause-requires-clause-low c =
    let es = c.args.trail.now.entries in
    subst (λ (b : ℕ). AreLow es c.clause.result.now b 0) (sym c.len-2.ensures) (start_low es c.clause.result.now 0 (zero_highest c.args.self.now.clauses es c.args.clause c.clause.result.now c.requires.refuted c.clause.ensures))

pub returns-clause-chain : goal.returns-clause-chain
returns-clause-chain c =
    let cs = c.args.self.now.clauses in
    let es = c.args.trail.now.entries in
    let start = c.clause.result.now in
    let none : c.in_ok-marks.marks.marks.items ≡ replicate (length es) false = c.in_ok-marks.ensures.marks ∙ ap (λ (n : ℕ). replicate n false) c.len.ensures in
    let ms = c.mark_clause.new.self.marks.items in
    let it : c.requires.refuted.clause ≡ start = (let s : Some c.requires.refuted.clause ≡ Some start = sym c.requires.refuted.stored ∙ c.clause.ensures in cc) in
    let falses = subst (λ (x : List Lit). are_false es x ≡ true) it c.requires.refuted.falsified in
    let joined : AreJoined es start (length es) (replicate (length es) false) ms = subst (λ (b : ℕ). AreJoined es start b (replicate (length es) false) ms) c.len-2.ensures (subst (λ (xs : List Bool). AreJoined es start c.len-2.result xs ms) none c.in_ok-mark_clause.ensures.joined) in
    let m = c.walk_back.new.marks in
    let steps = c.in_ok-walk.walk.steps.items in
    let left = none_left es m.marks.items m.count m.lower.items c.in_ok-walk.ensures.counted c.in_ok-walk.ensures.kept in
    let chain = chain_end cs (marked ms es) steps (marked m.marks.items es) [] (chain_of 0 cs es (marked ms es) steps (marked m.marks.items es) c.in_ok-walk.ensures.derived) left in
    (start, c.clause.ensures, chain_from opposite cs start (marked ms es) steps [] (start_set es start ms falses joined) chain)
