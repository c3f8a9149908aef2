use Rattle.std.proofs.Common.{◌≡◌, ℕ, Bool, false, List, [], ◌∷◌, length, replicate, sym, ◌∙◌, ap, subst}
use Rattle.std.proofs.lemmas.Option.{slice_get_within}
use Rattle.fm_base.specs.declared.ids.Lit.{Lit}
use Rattle.fm_trail.specs.declared.entry.Entry.{Entry}
use Rattle.fm_trail.specs.Trail.{is_decided}
use Rattle.fm_trail.proofs.Literals.{none_decided}
use Rattle.fm_sat.specs.Marks.{AreCounted, AreJoined, marked}
use Rattle.fm_sat.proofs.Counted.{counted_none, same_entry}
use Rattle.fm_sat.proofs.Steps.{low_step, undecided_in}
use Rattle.fm_base.proofs.Resolution.{chain_from}
use Rattle.fm_base.specs.Resolution.{opposite}
use Rattle.fm_sat.proofs.Chains.{chain_end, entry_not_false, kept_chain, marked_false, none_left, reason_set, same_more}
use Rattle.fm_sat.proofs.store.Store.derive.Goals as goal

pub mark_clause-requires-clause-counted : goal.mark_clause-requires-clause-counted
mark_clause-requires-clause-counted c =
    let es = c.args.trail.now.entries in
    let none : c.in_ok-marks.marks.marks.items ≡ replicate (length es) false = c.in_ok-marks.ensures.marks ∙ ap (λ (n : ℕ). replicate n false) c.len.ensures in
    let m = c.in_ok-marks.marks in
    subst (λ (xs : List Lit). AreCounted es 0 m.marks.items m.count xs) (sym c.in_ok-marks.ensures.lower) (subst (λ (n : ℕ). AreCounted es 0 m.marks.items n []) (sym c.in_ok-marks.ensures.count) (subst (λ (xs : List Bool). AreCounted es 0 xs 0 []) (sym none) (counted_none es 0)))

pub reason_of-reason-requires : goal.reason_of-reason-requires
reason_of-reason-requires c =
    let cs = c.args.self.now.clauses in
    let es = c.args.trail.now.entries in
    let e = c.entry.result in
    let same = same_entry es c.args.place c.requires.entry.0 e c.requires.entry.1 c.entry.ensures in
    let level : e.level ≡ 0 = sym (ap (λ (d : Entry). d.level) same) ∙ c.requires.entry.2 in
    undecided_in (is_decided e.why) (none_decided es c.args.place e c.entries_are_levelled.ensures.levels c.entry.ensures level)

pub clause-requires : goal.clause-requires
clause-requires c =
    let r = c.requires.explained c.args.place c.entry.result c.reason_of-reason.result c.entry.ensures c.reason_of-reason.ensures in
    slice_get_within c.args.self.now.clauses c.reason_of-reason.result r.clause r.stored

pub mark_clause-requires-clause-low : goal.mark_clause-requires-clause-low
mark_clause-requires-clause-low c =
    let cs = c.args.self.now.clauses in
    let es = c.args.trail.now.entries in
    let e = c.entry.result in
    let same = same_entry es c.args.place c.requires.entry.0 e c.requires.entry.1 c.entry.ensures in
    let level : e.level ≡ 0 = sym (ap (λ (d : Entry). d.level) same) ∙ c.requires.entry.2 in
    low_step es c.clause.result.now c.args.place 0 e c.entries_are_levelled.ensures.levels c.entry.ensures level

pub returns : goal.returns
returns c =
    let cs = c.args.self.now.clauses in
    let es = c.args.trail.now.entries in
    let e = c.entry.result in
    let same = same_entry es c.args.place c.requires.entry.0 e c.requires.entry.1 c.entry.ensures in
    let level : e.level ≡ 0 = sym (ap (λ (d : Entry). d.level) same) ∙ c.requires.entry.2 in
    let none : c.in_ok-marks.marks.marks.items ≡ replicate (length es) false = c.in_ok-marks.ensures.marks ∙ ap (λ (n : ℕ). replicate n false) c.len.ensures in
    let r = c.clause.result.now in
    let p = c.args.place in
    let once = c.entries_are_levelled.ensures.once in
    let ms = c.mark_clause.new.self.marks.items in
    let m = c.walk_back.new.marks in
    let steps = c.in_ok-walk.walk.steps.items in
    let joined : AreJoined es r p (replicate (length es) false) ms = subst (λ (xs : List Bool). AreJoined es r p xs ms) none c.in_ok-mark_clause.ensures.joined in
    let begin = reason_set cs es p e c.reason_of-reason.result r ms once c.requires.explained c.entry.ensures c.reason_of-reason.ensures c.clause.ensures joined in
    let left = none_left es m.marks.items m.count m.lower.items c.in_ok-walk.ensures.counted c.in_ok-walk.ensures.kept in
    let kept = kept_chain 0 cs es (marked ms es) steps (marked m.marks.items es) e.lit once c.requires.explained (marked_false es ms once) (entry_not_false es p e once c.entry.ensures) c.in_ok-walk.ensures.derived in
    let chain = chain_end cs (e.lit ∷ marked ms es) steps (e.lit ∷ marked m.marks.items es) (e.lit ∷ []) kept (same_more e.lit (marked m.marks.items es) [] left) in
    record { entry = e; at = c.entry.ensures; reason = c.reason_of-reason.ensures; chain = (r, c.clause.ensures, chain_from opposite cs r (e.lit ∷ marked ms es) steps (e.lit ∷ []) begin chain) }
