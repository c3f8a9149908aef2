-- Parts one after the other.
use Rattle.std.proofs.Common.{◌≡◌, ℕ, ◌+◌, Bool, true, false, ◌||◌, List, [], ◌∷◌, ◌++◌, length, ap, refl, sym, ◌∙◌, arith, append_assoc, length-append}
use Rattle.std.proofs.lemmas.List.{append-nil}
use Rattle.fm_base.specs.declared.ids.SortId.{SortId}
use Rattle.fm_base.specs.declared.signature.Rank.{Rank}
use Rattle.fm_bank.specs.declared.clause.Plit.{Plit}
use Rattle.fm_clauses.specs.Table.{Part, heads, proxy, proxy_rank, proxy_ranks, is_always, has_always}
use Rattle.fm_clauses.specs.Adding.{AddsHeads}

or_assoc : (a b c : Bool) → (a || (b || c)) ≡ ((a || b) || c)
or_assoc true b c = refl
or_assoc false b c = refl

pub has_always_append : (ps qs : List Part) → has_always (ps ++ qs) ≡ (has_always ps || has_always qs)
has_always_append [] qs = refl
has_always_append (p ∷ ps) qs = ap (λ (b : Bool). is_always p || b) (has_always_append ps qs) ∙ or_assoc (is_always p) (has_always ps) (has_always qs)

pub ranks_append : (ps qs : List Part) (scope : List SortId) → proxy_ranks (ps ++ qs) scope ≡ proxy_ranks ps scope ++ proxy_ranks qs scope
ranks_append [] qs scope = refl
ranks_append (Part.Plain l ∷ ps) qs scope = ranks_append ps qs scope
ranks_append (Part.Always ∷ ps) qs scope = ranks_append ps qs scope
ranks_append (Part.Other k ∷ ps) qs scope = ap (λ (rs : List Rank). proxy_rank scope ∷ rs) (ranks_append ps qs scope)

pub heads_append : (ps qs : List Part) (scope : List SortId) (p : ℕ) → heads (ps ++ qs) scope p ≡ heads ps scope p ++ heads qs scope (p + length (proxy_ranks ps scope))
heads_append [] qs scope p = ap (heads qs scope) (omega arith)
heads_append (Part.Plain l ∷ ps) qs scope p = ap (λ (ls : List Plit). l ∷ ls) (heads_append ps qs scope p)
heads_append (Part.Always ∷ ps) qs scope p = heads_append ps qs scope p
heads_append (Part.Other k ∷ ps) qs scope p =
    let e : p + 1 + length (proxy_ranks ps scope) ≡ p + length (proxy_ranks (Part.Other k ∷ ps) scope) = omega arith in
    ap (λ (ls : List Plit). proxy true scope p ∷ ls) (heads_append ps qs scope (p + 1) ∙ ap (λ (n : ℕ). heads ps scope (p + 1) ++ heads qs scope n) e)

pub adds_heads_more : (ps qs : List Part) (scope : List SortId) (first : ℕ) (l0 l1 l2 : List Plit) (r0 r1 r2 : List Rank) → AddsHeads ps scope first l0 r0 l1 r1 → AddsHeads qs scope first l1 r1 l2 r2 → AddsHeads (ps ++ qs) scope first l0 r0 l2 r2
adds_heads_more ps qs scope first l0 l1 l2 r0 r1 r2 one two =
    let n : first + length r1 ≡ first + length r0 + length (proxy_ranks ps scope) = (let e = ap length one.proxies in let l = length-append r0 (proxy_ranks ps scope) in omega (arith, e, l)) in
    record {
      literals = two.literals ∙ (λ i. one.literals i ++ heads qs scope (n i)) ∙ append_assoc l0 (heads ps scope (first + length r0)) (heads qs scope (first + length r0 + length (proxy_ranks ps scope))) ∙ ap (λ (ls : List Plit). l0 ++ ls) (sym (heads_append ps qs scope (first + length r0)));
      proxies = two.proxies ∙ ap (λ (rs : List Rank). rs ++ proxy_ranks qs scope) one.proxies ∙ append_assoc r0 (proxy_ranks ps scope) (proxy_ranks qs scope) ∙ ap (λ (rs : List Rank). r0 ++ rs) (sym (ranks_append ps qs scope));
    }

pub adds_no_heads : (scope : List SortId) (first : ℕ) (lits : List Plit) (ranks : List Rank) → AddsHeads [] scope first lits ranks lits ranks
adds_no_heads scope first lits ranks = record { literals = sym (append-nil lits); proxies = sym (append-nil ranks) }
