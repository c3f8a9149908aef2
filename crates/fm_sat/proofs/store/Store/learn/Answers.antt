use Rattle.std.proofs.Common.{◌≡◌, ◌<◌, ℕ, Bool, true, false, Some, List, [], ◌∷◌, ◌++◌, length, replicate, sym, ◌∙◌, ap, subst, arith}
use Rattle.fm_base.specs.declared.ids.Lit.{Lit}
use Rattle.fm_base.specs.Resolution.{AreDistinct, opposite}
use Rattle.fm_trail.specs.Trail.{are_false, level_on}
use Rattle.fm_sat.specs.Learning.{Derives, IsHighest, IsHighestBeside, StandsAlone}
use Rattle.fm_sat.specs.Marks.{AreCounted, AreJoined, AreLow, marked}
use Rattle.fm_sat.proofs.Counts.{count_some}
use Rattle.fm_sat.proofs.Counted.{counted_none}
use Rattle.fm_sat.proofs.Endings.{derives_from, derives_start, end_alone, end_beside, end_false, end_less, end_once, end_set, left_is, start_low, start_set, start_some, top_some}
use Rattle.fm_sat.proofs.store.Store.learn.Goals as goal

pub mark_clause-requires-clause-counted : goal.mark_clause-requires-clause-counted
mark_clause-requires-clause-counted c =
    let cs = c.args.self.now.clauses in
    let es = c.args.trail.now.entries in
    let start = c.clause-start.result.now in
    let none : c.in_ok-marks.marks.marks.items ≡ replicate (length es) false = c.in_ok-marks.ensures.marks ∙ ap (λ (n : ℕ). replicate n false) c.len.ensures in
    let top = c.highest_level-top.result in
    let m = c.in_ok-marks.marks in
    subst (λ (xs : List Lit). AreCounted es top m.marks.items m.count xs) (sym c.in_ok-marks.ensures.lower) (subst (λ (n : ℕ). AreCounted es top m.marks.items n []) (sym c.in_ok-marks.ensures.count) (subst (λ (xs : List Bool). AreCounted es top xs 0 []) (sym none) (counted_none es top)))

pub mark_clause-requires-clause-low : goal.mark_clause-requires-clause-low
mark_clause-requires-clause-low c =
    let es = c.args.trail.now.entries in
    subst (λ (b : ℕ). AreLow es c.clause-start.result.now b c.highest_level-top.result) (sym c.len-2.ensures) (start_low es c.clause-start.result.now c.highest_level-top.result c.highest_level-top.ensures)

pub walk_back-requires-clause-some : goal.walk_back-requires-clause-some
walk_back-requires-clause-some c =
    let cs = c.args.self.now.clauses in
    let es = c.args.trail.now.entries in
    let start = c.clause-start.result.now in
    let none : c.in_ok-marks.marks.marks.items ≡ replicate (length es) false = c.in_ok-marks.ensures.marks ∙ ap (λ (n : ℕ). replicate n false) c.len.ensures in
    let ms = c.mark_clause.new.self.marks.items in
    let it : c.requires.conflict.clause ≡ start = (let s : Some c.requires.conflict.clause ≡ Some start = sym c.requires.conflict.stored ∙ c.clause-start.ensures in cc) in
    let falses = subst (λ (x : List Lit). are_false es x ≡ true) it c.requires.conflict.falsified in
    let joined : AreJoined es start (length es) (replicate (length es) false) ms = subst (λ (b : ℕ). AreJoined es start b (replicate (length es) false) ms) c.len-2.ensures (subst (λ (xs : List Bool). AreJoined es start c.len-2.result xs ms) none c.in_ok-mark_clause.ensures.joined) in
    let same = start_set es start ms falses joined in
    let m = c.mark_clause.new.self in
    start_some cs es c.args.clause start c.highest_level-top.result ms m.count m.lower.items c.entries_are_levelled.ensures.once c.requires.conflict c.clause-start.ensures c.highest_level-top.ensures c.in_ok-mark_clause.ensures.counted same

pub last_below-requires-clause-some : goal.last_below-requires-clause-some
last_below-requires-clause-some c =
    let m = c.walk_back.new.marks in
    let q = count_some c.highest_level-top.result m.marks.items c.args.trail.now.entries (omega (arith, c.in_ok-walk.ensures.counted.count_is, c.in_ok-walk.ensures.kept)) in
    (q.0, q.1.mark, c.in_ok-walk.ensures.below q.0 q.1.mark)

pub returns-clause-chain : goal.returns-clause-chain
returns-clause-chain c =
    let cs = c.args.self.now.clauses in
    let es = c.args.trail.now.entries in
    let start = c.clause-start.result.now in
    let none : c.in_ok-marks.marks.marks.items ≡ replicate (length es) false = c.in_ok-marks.ensures.marks ∙ ap (λ (n : ℕ). replicate n false) c.len.ensures in
    let ms = c.mark_clause.new.self.marks.items in
    let it : c.requires.conflict.clause ≡ start = (let s : Some c.requires.conflict.clause ≡ Some start = sym c.requires.conflict.stored ∙ c.clause-start.ensures in cc) in
    let falses = subst (λ (x : List Lit). are_false es x ≡ true) it c.requires.conflict.falsified in
    let joined : AreJoined es start (length es) (replicate (length es) false) ms = subst (λ (b : ℕ). AreJoined es start b (replicate (length es) false) ms) c.len-2.ensures (subst (λ (xs : List Bool). AreJoined es start c.len-2.result xs ms) none c.in_ok-mark_clause.ensures.joined) in
    let same = start_set es start ms falses joined in
    let top = c.highest_level-top.result in
    let m = c.walk_back.new.marks in
    let e = c.entry-entry.result in
    let left = left_is es top m.marks.items m.count m.lower.items c.in_ok-walk.walk.end c.last_below.result e c.entries_are_levelled.ensures.levels c.entries_are_levelled.ensures.once c.in_ok-walk.ensures.counted c.in_ok-walk.ensures.kept c.in_ok-walk.ensures.below c.last_below.ensures c.entry-entry.ensures in
    let lits : c.push.new.self.items ≡ m.lower.items ++ opposite e.lit ∷ [] = c.in_ok-push.ensures.items ∙ ap (λ (l : Lit). m.lower.items ++ l ∷ []) c.opposite-lit.ensures in
    let steps = c.in_ok-walk.walk.steps.items in
    let last = m.lower.items ++ opposite e.lit ∷ [] in
    let d = derives_from 1 cs es start steps (marked m.marks.items es) last (derives_start 1 cs es start (marked ms es) steps (marked m.marks.items es) same c.in_ok-walk.ensures.derived) (end_set es top m.marks.items m.lower.items c.last_below.result e left) in
    (start, c.clause-start.ensures, subst (λ (x : List Lit). Derives 1 cs es start steps x) (sym lits) d)

pub returns-clause-once : goal.returns-clause-once
returns-clause-once c =
    let cs = c.args.self.now.clauses in
    let es = c.args.trail.now.entries in
    let start = c.clause-start.result.now in
    let none : c.in_ok-marks.marks.marks.items ≡ replicate (length es) false = c.in_ok-marks.ensures.marks ∙ ap (λ (n : ℕ). replicate n false) c.len.ensures in
    let top = c.highest_level-top.result in
    let m = c.walk_back.new.marks in
    let e = c.entry-entry.result in
    let left = left_is es top m.marks.items m.count m.lower.items c.in_ok-walk.walk.end c.last_below.result e c.entries_are_levelled.ensures.levels c.entries_are_levelled.ensures.once c.in_ok-walk.ensures.counted c.in_ok-walk.ensures.kept c.in_ok-walk.ensures.below c.last_below.ensures c.entry-entry.ensures in
    let lits : c.push.new.self.items ≡ m.lower.items ++ opposite e.lit ∷ [] = c.in_ok-push.ensures.items ∙ ap (λ (l : Lit). m.lower.items ++ l ∷ []) c.opposite-lit.ensures in
    subst AreDistinct (sym lits) (end_once es top m.marks.items m.lower.items c.last_below.result e left)

pub returns-clause-falsified : goal.returns-clause-falsified
returns-clause-falsified c =
    let cs = c.args.self.now.clauses in
    let es = c.args.trail.now.entries in
    let start = c.clause-start.result.now in
    let none : c.in_ok-marks.marks.marks.items ≡ replicate (length es) false = c.in_ok-marks.ensures.marks ∙ ap (λ (n : ℕ). replicate n false) c.len.ensures in
    let top = c.highest_level-top.result in
    let m = c.walk_back.new.marks in
    let e = c.entry-entry.result in
    let left = left_is es top m.marks.items m.count m.lower.items c.in_ok-walk.walk.end c.last_below.result e c.entries_are_levelled.ensures.levels c.entries_are_levelled.ensures.once c.in_ok-walk.ensures.counted c.in_ok-walk.ensures.kept c.in_ok-walk.ensures.below c.last_below.ensures c.entry-entry.ensures in
    let lits : c.push.new.self.items ≡ m.lower.items ++ opposite e.lit ∷ [] = c.in_ok-push.ensures.items ∙ ap (λ (l : Lit). m.lower.items ++ l ∷ []) c.opposite-lit.ensures in
    subst (λ (x : List Lit). are_false es x ≡ true) (sym lits) (end_false es top m.marks.items m.lower.items c.last_below.result e left)

pub returns-clause-alone : goal.returns-clause-alone
returns-clause-alone c =
    let cs = c.args.self.now.clauses in
    let es = c.args.trail.now.entries in
    let start = c.clause-start.result.now in
    let none : c.in_ok-marks.marks.marks.items ≡ replicate (length es) false = c.in_ok-marks.ensures.marks ∙ ap (λ (n : ℕ). replicate n false) c.len.ensures in
    let top = c.highest_level-top.result in
    let m = c.walk_back.new.marks in
    let e = c.entry-entry.result in
    let left = left_is es top m.marks.items m.count m.lower.items c.in_ok-walk.walk.end c.last_below.result e c.entries_are_levelled.ensures.levels c.entries_are_levelled.ensures.once c.in_ok-walk.ensures.counted c.in_ok-walk.ensures.kept c.in_ok-walk.ensures.below c.last_below.ensures c.entry-entry.ensures in
    let lits : c.push.new.self.items ≡ m.lower.items ++ opposite e.lit ∷ [] = c.in_ok-push.ensures.items ∙ ap (λ (l : Lit). m.lower.items ++ l ∷ []) c.opposite-lit.ensures in
    subst (λ (x : List Lit). StandsAlone es x c.opposite-lit.result) (sym lits) (subst (λ (l : Lit). StandsAlone es (m.lower.items ++ opposite e.lit ∷ []) l) (sym c.opposite-lit.ensures) (end_alone es top m.marks.items m.lower.items c.last_below.result e left))

pub returns-clause-level : goal.returns-clause-level
returns-clause-level c =
    let cs = c.args.self.now.clauses in
    let es = c.args.trail.now.entries in
    let start = c.clause-start.result.now in
    let none : c.in_ok-marks.marks.marks.items ≡ replicate (length es) false = c.in_ok-marks.ensures.marks ∙ ap (λ (n : ℕ). replicate n false) c.len.ensures in
    let top = c.highest_level-top.result in
    let m = c.walk_back.new.marks in
    let e = c.entry-entry.result in
    let left = left_is es top m.marks.items m.count m.lower.items c.in_ok-walk.walk.end c.last_below.result e c.entries_are_levelled.ensures.levels c.entries_are_levelled.ensures.once c.in_ok-walk.ensures.counted c.in_ok-walk.ensures.kept c.in_ok-walk.ensures.below c.last_below.ensures c.entry-entry.ensures in
    let lits : c.push.new.self.items ≡ m.lower.items ++ opposite e.lit ∷ [] = c.in_ok-push.ensures.items ∙ ap (λ (l : Lit). m.lower.items ++ l ∷ []) c.opposite-lit.ensures in
    let level = c.highest_level-level.result in
    let h : IsHighest es m.lower.items level = subst (λ (x : List Lit). IsHighest es x level) c.as_slice.ensures.value c.highest_level-level.ensures in
    subst (λ (x : List Lit). IsHighestBeside es x c.opposite-lit.result level) (sym lits) (subst (λ (l : Lit). IsHighestBeside es (m.lower.items ++ opposite e.lit ∷ []) l level) (sym c.opposite-lit.ensures) (end_beside es top m.marks.items m.lower.items c.last_below.result e level left h))

pub returns-clause-lower : goal.returns-clause-lower
returns-clause-lower c =
    let cs = c.args.self.now.clauses in
    let es = c.args.trail.now.entries in
    let start = c.clause-start.result.now in
    let none : c.in_ok-marks.marks.marks.items ≡ replicate (length es) false = c.in_ok-marks.ensures.marks ∙ ap (λ (n : ℕ). replicate n false) c.len.ensures in
    let top = c.highest_level-top.result in
    let m = c.walk_back.new.marks in
    let e = c.entry-entry.result in
    let left = left_is es top m.marks.items m.count m.lower.items c.in_ok-walk.walk.end c.last_below.result e c.entries_are_levelled.ensures.levels c.entries_are_levelled.ensures.once c.in_ok-walk.ensures.counted c.in_ok-walk.ensures.kept c.in_ok-walk.ensures.below c.last_below.ensures c.entry-entry.ensures in
    let lits : c.push.new.self.items ≡ m.lower.items ++ opposite e.lit ∷ [] = c.in_ok-push.ensures.items ∙ ap (λ (l : Lit). m.lower.items ++ l ∷ []) c.opposite-lit.ensures in
    let level = c.highest_level-level.result in
    let h : IsHighest es m.lower.items level = subst (λ (x : List Lit). IsHighest es x level) c.as_slice.ensures.value c.highest_level-level.ensures in
    subst (λ (l : Lit). level < level_on es l) (sym c.opposite-lit.ensures) (end_less es top m.marks.items m.lower.items c.last_below.result e level left h (top_some c.args.self.now.clauses es c.args.clause start top c.requires.conflict c.clause-start.ensures c.highest_level-top.ensures))
