use Rattle.std.proofs.Common.{◌≡◌, ◌↔◌, ℕ, ◌-◌, true, List, [], drop, length, map, subst, ap, ◌∙◌, arith}
use Rattle.std.specs.List.{filter, range_with_len}
use Rattle.std.proofs.lemmas.List.{length-drop, take_all}
use Rattle.fm_base.specs.declared.signature.Rank.{Rank}
use Rattle.fm_bank.specs.Interning.{Held, nothing_over}
use Rattle.fm_rounds.specs.Fresh.{bare_sorts, constant_of}
use Rattle.fm_rounds.specs.InstanceTerms.{clauses_ground_grown}
use Rattle.fm_state.specs.Begins.{bare_count_in, is_bare_in, with_terms}
use Rattle.fm_state.proofs.searchable.has_fresh_constants.Goals as goal

pub returns : goal.returns
returns c =
    let p = c.args.clauses.now in
    let bank = c.in_ok-bank.ensures in
    let after : c.put_clauses.new.bank ≡ with_terms (nothing_over p.sig) (clauses_ground_grown p.clauses []) = c.in_ok-put_clauses.ensures ∙ (λ i. with_terms (bank i) (clauses_ground_grown (c.as_slice.ensures i) (bank i).terms)) in
    let count : c.bare_sorts.result ≡ length (bare_sorts p) = c.bare_sorts.ensures ∙ ap (λ (h : Held). bare_count_in h.sig h.terms) after in
    let ranks : c.as_slice-ranks.result.now ≡ p.sig.ranks = c.as_slice-ranks.ensures in
    let first : c.saturating_sub-first.result ≡ length p.sig.ranks - length (bare_sorts p) = c.saturating_sub-first.ensures ∙ (λ i. length (ranks i) - count i) in
    let of_bank = λ (h : Held). (c.are_fresh.result ≡ true) ↔ (drop c.saturating_sub-first.result c.as_slice-ranks.result.now ≡ map constant_of (filter (is_bare_in h.sig h.terms) (range_with_len 0 h.sig.sorts))) in
    let from = λ (n : ℕ). (c.are_fresh.result ≡ true) ↔ (drop n c.as_slice-ranks.result.now ≡ map constant_of (bare_sorts p)) in
    let all = c.as_slice-ranks.result.now in
    let few = length-drop c.saturating_sub-first.result all in
    let last = take_all (length all - c.saturating_sub-first.result) (drop c.saturating_sub-first.result all) (omega (arith, few)) in
    let whole = λ (rs : List Rank). (c.are_fresh.result ≡ true) ↔ (rs ≡ map constant_of (filter (is_bare_in c.put_clauses.new.bank.sig c.put_clauses.new.bank.terms) (range_with_len 0 c.put_clauses.new.bank.sig.sorts))) in
    let over = λ (rs : List Rank). (c.are_fresh.result ≡ true) ↔ (drop (length p.sig.ranks - length (bare_sorts p)) rs ≡ map constant_of (bare_sorts p)) in
    subst over ranks (subst from first (subst of_bank after (subst whole last c.are_fresh.ensures)))
