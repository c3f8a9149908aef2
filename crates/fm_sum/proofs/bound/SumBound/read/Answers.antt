use Rattle.std.proofs.Common.{◌≡◌, ℕ, List, [], ◌∷◌, ◌++◌, length, sym, ap, subst, ◌∙◌, arith}
use Rattle.std.proofs.lemmas.List.{length-map, length_push}
use Rattle.fm_bank.specs.declared.literal.Literal.{Literal}
use Rattle.fm_sum.specs.declared.bound.Entry.{Entry}
use Rattle.fm_sum.specs.Levels.{AreOpened, levels_of}
use Rattle.fm_sum.specs.Sums.{AreValues, Held, IsBoundOf, asked, before_of, lit_of, raised, read_of}
use Rattle.fm_sum.proofs.Opening.{levels_push, opened_more}
use Rattle.fm_sum.proofs.Values.{held, read_push, same_length_up, values_up, within_bound}
use Rattle.fm_sum.proofs.bound.SumBound.read.Goals as goal

pub invariant_of-self-2 : goal.invariant_of-self-2
invariant_of-self-2 c =
    let s = c.self.inside in
    let lit : Literal = record { positive = c.args.positive; atom = c.args.atom } in
    let e : Entry = record { lit = lit; before = c.value_before-before.result } in
    let asks = c.asked_by-asked.ensures in
    let kind = subst (λ (h : Held). IsBoundOf h.sorts c.args.atom) (sym c.self.view_is) c.requires.kind in
    let before : c.value_before-before.result ≡ before_of s.values.items (asked lit) = c.value_before-before.ensures ∙ (ap (λ (vs : List ℕ). before_of vs c.asked_by-asked.result) c.as_slice.ensures.value ∙ ap (before_of s.values.items) asks) in
    let values = values_up s.values.items s.entries.items e c.self.invariant.sums (within_bound (length s.values.items) c.args.positive c.args.atom kind) before in
    let raise : c.raise.new.values.items ≡ raised s.values.items (asked lit) = c.raise.ensures ∙ ap (raised s.values.items) asks in
    let items : c.push.new.self.items ≡ s.entries.items ++ e ∷ [] = c.in_ok-push.ensures.items in
    let long = ap length items ∙ length_push s.entries.items e in
    record {
      sums = subst (λ (vs : List ℕ). AreValues vs c.push.new.self.items) (sym raise) (subst (AreValues (raised s.values.items (asked lit))) (sym items) values);
      levels = opened_more (length s.entries.items) (length c.push.new.self.items) s.opened.items (omega (arith, long)) c.self.invariant.levels;
    }

pub returns-clause-read : goal.returns-clause-read
returns-clause-read c =
    let s = c.self.inside in
    let lit : Literal = record { positive = c.args.positive; atom = c.args.atom } in
    let e : Entry = record { lit = lit; before = c.value_before-before.result } in
    let long = ap length c.raise.ensures ∙ same_length_up s.values.items c.asked_by-asked.result in
    let reads : read_of c.push.new.self.items ≡ read_of s.entries.items ++ lit ∷ [] = ap read_of c.in_ok-push.ensures.items ∙ read_push s.entries.items e in
    let same = levels_push (read_of s.entries.items) (lit ∷ []) s.opened.items (subst (λ (n : ℕ). AreOpened n s.opened.items) (sym (length-map s.entries.items lit_of)) c.self.invariant.levels) in
    held (length c.raise.new.values.items) c.args.self.now.sorts (read_of c.push.new.self.items) (c.args.self.now.read ++ lit ∷ []) (levels_of (read_of c.push.new.self.items) s.opened.items) c.args.self.now.levels
    (long ∙ ap (λ (h : Held). h.sorts) c.self.view_is)
    (reads ∙ ap (λ (h : Held). h.read ++ lit ∷ []) c.self.view_is)
    (ap (λ (ls : List Literal). levels_of ls s.opened.items) reads ∙ (same ∙ ap (λ (h : Held). h.levels) c.self.view_is))
