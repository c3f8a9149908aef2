-- The lines of a model are good one after the other exactly where its tables are in their one form.
use Rattle.std.proofs.Common.{◌≡◌, ℕ, ◌+◌, Bool, true, false, not, ◌&&◌, ◌||◌, cond, List, [], ◌∷◌, length, Option, Some, None, refl, arith}
use Rattle.std.specs.Prelude.{◌==◌, ◌↔◌, nat_le}
use Rattle.std.specs.List.{list_all}
use Rattle.std.specs.Cmp.Lexicographic.{slice_cmp}
use Rattle.std.specs.Ordering.{nat_cmp, is_lt}
use Rattle.std.proofs.lemmas.Bool.{and_from, and_parts, eq-eqb, eqb-true, false≢true, or_left, or_right}
use Rattle.fm_base.specs.Interpretations.{Reading, are_tables, ascends, ascends_after, is_exception, is_fit, is_nil, is_table, names_its_sorts, reading_of}
use Rattle.fm_base.specs.declared.interp.Interp.{Interp}
use Rattle.fm_base.specs.declared.interp.Table.{Table}
use Rattle.fm_base.specs.declared.signature.Rank.{Rank}
use Rattle.fm_base.specs.declared.signature.Sig.{Sig}
use Rattle.fm_blocks.specs.ModelLines.{are_sizes, bad_exception, bad_in_model, bad_in_table, bad_in_tables, comes_after, first_of, is_default, is_exception_after}

when_none : (b : Bool) (o : Option ℕ) (n : ℕ) → cond b o (Some n) ≡ None → (b ≡ true) × (o ≡ None)
when_none true o n e = (refl, e)
when_none false o n e = cc e

none_when : (b : Bool) (o : Option ℕ) (n : ℕ) → b ≡ true → o ≡ None → cond b o (Some n) ≡ None
none_when true o n t e = e
none_when false o n t e = absurd (false≢true t)

both_none : (a b : Option ℕ) → first_of a b ≡ None → (a ≡ None) × (b ≡ None)
both_none None b e = (refl, e)
both_none (Some n) b e = cc e

none_both : (a b : Option ℕ) → a ≡ None → b ≡ None → first_of a b ≡ None
none_both None b e f = f
none_both (Some n) b e f = cc e

-- exceptions behind one, or the first ones
abbrev ascends_from : Option (List ℕ) → List (List ℕ × ℕ) → Bool
ascends_from None es = ascends es
ascends_from (Some xs) es = ascends_after xs es

-- what a table's test asks of its exceptions
record AreExceptions (m : Reading) (rank : Rank) (d : ℕ) (before : Option (List ℕ)) (es : List (List ℕ × ℕ)) : Type 0 where
  each : list_all (is_exception m rank d) es ≡ true
  order : ascends_from before es ≡ true
  args : (not (is_nil rank.args) || is_nil es) ≡ true

ascends_none : (before : Option (List ℕ)) → ascends_from before [] ≡ true
ascends_none None = refl
ascends_none (Some xs) = refl

order_from : (before : Option (List ℕ)) (e : List ℕ × ℕ) (es : List (List ℕ × ℕ)) → comes_after before e.0 ≡ true → ascends_after e.0 es ≡ true → ascends_from before (e ∷ es) ≡ true
order_from None e es c a = a
order_from (Some xs) e es c a = and_from (is_lt (slice_cmp nat_cmp xs e.0)) (ascends_after e.0 es) c a

order_parts : (before : Option (List ℕ)) (e : List ℕ × ℕ) (es : List (List ℕ × ℕ)) → ascends_from before (e ∷ es) ≡ true → (comes_after before e.0 ≡ true) × (ascends_after e.0 es ≡ true)
order_parts None e es a = (refl, a)
order_parts (Some xs) e es a = and_parts (is_lt (slice_cmp nat_cmp xs e.0)) (ascends_after e.0 es) a

no_nil : (b : Bool) → (b || false) ≡ true → b ≡ true
no_nil true e = refl
no_nil false e = e

lines_good : (m : Reading) (rank : Rank) (d at : ℕ) (before : Option (List ℕ)) (es : List (List ℕ × ℕ)) → bad_exception m rank d at before es ≡ None → AreExceptions m rank d before es
lines_good m rank d at before [] e = record { each = refl; order = ascends_none before; args = or_right (not (is_nil rank.args)) true refl }
lines_good m rank d at before (x ∷ es) e =
    let w = when_none (is_exception_after m rank d before x) (bad_exception m rank d (at + 1) (Some x.0) es) at e in
    let p = and_parts (not (is_nil rank.args)) (is_exception m rank d x && comes_after before x.0) w.0 in
    let q = and_parts (is_exception m rank d x) (comes_after before x.0) p.1 in
    let rest = lines_good m rank d (at + 1) (Some x.0) es w.1 in
    record {
      each = and_from (is_exception m rank d x) (list_all (is_exception m rank d) es) q.0 rest.each;
      order = order_from before x es q.1 rest.order;
      args = or_left (not (is_nil rank.args)) false p.0;
    }

good_lines : (m : Reading) (rank : Rank) (d at : ℕ) (before : Option (List ℕ)) (es : List (List ℕ × ℕ)) → AreExceptions m rank d before es → bad_exception m rank d at before es ≡ None
good_lines m rank d at before [] a = refl
good_lines m rank d at before (x ∷ es) a =
    let some = no_nil (not (is_nil rank.args)) a.args in
    let p = and_parts (is_exception m rank d x) (list_all (is_exception m rank d) es) a.each in
    let q = order_parts before x es a.order in
    let rest : AreExceptions m rank d (Some x.0) es = record { each = p.1; order = q.1; args = or_left (not (is_nil rank.args)) (is_nil es) some } in
    none_when (is_exception_after m rank d before x) (bad_exception m rank d (at + 1) (Some x.0) es) at (and_from (not (is_nil rank.args)) (is_exception m rank d x && comes_after before x.0) some (and_from (is_exception m rank d x) (comes_after before x.0) p.0 q.0)) (good_lines m rank d (at + 1) (Some x.0) es rest)

table_good : (m : Reading) (rank : Rank) (at : ℕ) (t : Table) → bad_in_table m rank at t ≡ None → is_table m rank t ≡ true
table_good m rank at t e =
    let w = when_none (is_default m rank t.default) (bad_exception m rank t.default (at + 1) None t.except) at e in
    let a = lines_good m rank t.default (at + 1) None t.except w.1 in
    and_from (is_default m rank t.default) _ w.0 (and_from (list_all (is_exception m rank t.default) t.except) _ a.each (and_from (ascends t.except) (not (is_nil rank.args) || is_nil t.except) a.order a.args))

good_table : (m : Reading) (rank : Rank) (at : ℕ) (t : Table) → is_table m rank t ≡ true → bad_in_table m rank at t ≡ None
good_table m rank at t e =
    let p = and_parts (is_default m rank t.default) (list_all (is_exception m rank t.default) t.except && (ascends t.except && (not (is_nil rank.args) || is_nil t.except))) e in
    let q = and_parts (list_all (is_exception m rank t.default) t.except) (ascends t.except && (not (is_nil rank.args) || is_nil t.except)) p.1 in
    let r = and_parts (ascends t.except) (not (is_nil rank.args) || is_nil t.except) q.1 in
    let a : AreExceptions m rank t.default None t.except = record { each = q.0; order = r.0; args = r.1 } in
    none_when (is_default m rank t.default) (bad_exception m rank t.default (at + 1) None t.except) at p.0 (good_lines m rank t.default (at + 1) None t.except a)

tables_good : (m : Reading) (at : ℕ) (rs : List Rank) (ts : List Table) → length ts ≡ length rs → bad_in_tables m at rs ts ≡ None → are_tables m rs ts ≡ true
tables_good m at [] [] l e = refl
tables_good m at [] (t ∷ ts) l e = absurd (omega (arith, l))
tables_good m at (r ∷ rs) [] l e = absurd (omega (arith, l))
tables_good m at (r ∷ rs) (t ∷ ts) l e =
    let next = at + 1 + length t.except in
    let w = both_none (bad_in_table m r at t) (bad_in_tables m next rs ts) e in
    and_from (is_table m r t) (are_tables m rs ts) (table_good m r at t w.0) (tables_good m next rs ts (omega (arith, l)) w.1)

good_tables : (m : Reading) (at : ℕ) (rs : List Rank) (ts : List Table) → are_tables m rs ts ≡ true → (length ts ≡ length rs) × (bad_in_tables m at rs ts ≡ None)
good_tables m at [] [] e = (refl, refl)
good_tables m at [] (t ∷ ts) e = absurd (false≢true e)
good_tables m at (r ∷ rs) [] e = absurd (false≢true e)
good_tables m at (r ∷ rs) (t ∷ ts) e =
    let next = at + 1 + length t.except in
    let p = and_parts (is_table m r t) (are_tables m rs ts) e in
    let rest = good_tables m next rs ts p.1 in
    let same = rest.0 in
    (omega (arith, same), none_both (bad_in_table m r at t) (bad_in_tables m next rs ts) (good_table m r at t p.0) rest.1)

lines_fit : (sig : Sig) (at : ℕ) (i : Interp) → names_its_sorts sig ≡ true → bad_in_model sig at i ≡ None → is_fit sig i ≡ true
lines_fit sig at i names e =
    let w = when_none (are_sizes sig i) (bad_in_tables (reading_of i) (at + 1) sig.ranks i.tables) at e in
    let p = and_parts (length i.sizes == sig.sorts) (list_all (λ k. nat_le 1 k) i.sizes && length i.tables == length sig.ranks) w.0 in
    let q = and_parts (list_all (λ k. nat_le 1 k) i.sizes) (length i.tables == length sig.ranks) p.1 in
    and_from (names_its_sorts sig) _ names (and_from (length i.sizes == sig.sorts) _ p.0 (and_from (list_all (λ k. nat_le 1 k) i.sizes) _ q.0 (tables_good (reading_of i) (at + 1) sig.ranks i.tables (eqb-true (length i.tables) (length sig.ranks) q.1) w.1)))

pub fit_lines : (sig : Sig) (at : ℕ) (i : Interp) → is_fit sig i ≡ true → bad_in_model sig at i ≡ None
fit_lines sig at i e =
    let p = and_parts (names_its_sorts sig) (length i.sizes == sig.sorts && (list_all (λ k. nat_le 1 k) i.sizes && are_tables (reading_of i) sig.ranks i.tables)) e in
    let q = and_parts (length i.sizes == sig.sorts) (list_all (λ k. nat_le 1 k) i.sizes && are_tables (reading_of i) sig.ranks i.tables) p.1 in
    let r = and_parts (list_all (λ k. nat_le 1 k) i.sizes) (are_tables (reading_of i) sig.ranks i.tables) q.1 in
    let t = good_tables (reading_of i) (at + 1) sig.ranks i.tables r.1 in
    none_when (are_sizes sig i) (bad_in_tables (reading_of i) (at + 1) sig.ranks i.tables) at (and_from (length i.sizes == sig.sorts) _ q.0 (and_from (list_all (λ k. nat_le 1 k) i.sizes) (length i.tables == length sig.ranks) r.0 (eq-eqb (length i.tables) (length sig.ranks) t.0))) t.1

pub good_lines_are_fit : (sig : Sig) (at : ℕ) (i : Interp) → names_its_sorts sig ≡ true → (bad_in_model sig at i ≡ None) ↔ (is_fit sig i ≡ true)
good_lines_are_fit sig at i names = (lines_fit sig at i names, fit_lines sig at i)
