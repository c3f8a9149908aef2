use Rattle.std.proofs.Common.{◌≡◌, ◌-◌, [], length, ap, ◌∙◌}
use Rattle.std.specs.List.{filter, list_all, range_with_len}
use Rattle.fm_bank.specs.Interning.{Held, nothing_over}
use Rattle.fm_rounds.specs.InstanceTerms.{clauses_ground_grown, fresh_symbols, is_bare}
use Rattle.fm_state.specs.Begins.{bare_count_in, between, is_constant_in, with_terms}
use Rattle.fm_steps.specs.Start.{constants_grown}
use Rattle.fm_state.proofs.Starting.{fresh_between}
use Rattle.fm_state.proofs.start.first_bank.Goals as goal

pub put_constants-requires : goal.put_constants-requires
put_constants-requires c =
    let p = c.args.clauses.now in
    let few = length (filter (is_bare p) (range_with_len 0 p.sig.sorts)) in
    let bank = c.in_ok-bank.ensures in
    let after : c.put_clauses.new.bank ≡ with_terms (nothing_over p.sig) (clauses_ground_grown p.clauses []) = c.in_ok-put_clauses.ensures ∙ (λ i. with_terms (bank i) (clauses_ground_grown (c.as_slice.ensures i) (bank i).terms)) in
    let count : c.bare_sorts-bare.result ≡ few = c.bare_sorts-bare.ensures ∙ ap (λ (h : Held). bare_count_in h.sig h.terms) after in
    let from : c.saturating_sub.result ≡ length p.sig.ranks - few = c.saturating_sub.ensures ∙ (λ i. c.len-all.ensures i - count i) in
    let symbols : between c.saturating_sub.result c.len-all.result ≡ fresh_symbols p = (λ i. between (from i) (c.len-all.ensures i)) ∙ fresh_between (length p.sig.ranks) few in
    (λ i. list_all (is_constant_in (after i).sig) (symbols i)) ∙ c.requires.constants

pub returns : goal.returns
returns c =
    let p = c.args.clauses.now in
    let few = length (filter (is_bare p) (range_with_len 0 p.sig.sorts)) in
    let bank = c.in_ok-bank.ensures in
    let after : c.put_clauses.new.bank ≡ with_terms (nothing_over p.sig) (clauses_ground_grown p.clauses []) = c.in_ok-put_clauses.ensures ∙ (λ i. with_terms (bank i) (clauses_ground_grown (c.as_slice.ensures i) (bank i).terms)) in
    let count : c.bare_sorts-bare.result ≡ few = c.bare_sorts-bare.ensures ∙ ap (λ (h : Held). bare_count_in h.sig h.terms) after in
    let from : c.saturating_sub.result ≡ length p.sig.ranks - few = c.saturating_sub.ensures ∙ (λ i. c.len-all.ensures i - count i) in
    let symbols : between c.saturating_sub.result c.len-all.result ≡ fresh_symbols p = (λ i. between (from i) (c.len-all.ensures i)) ∙ fresh_between (length p.sig.ranks) few in
    c.in_ok-put_constants.ensures ∙ (λ i. with_terms (after i) (constants_grown (symbols i) (after i).terms))
