-- Rows that stand in their places, up to where the text may end, are those of blocks.
use Rattle.std.proofs.Common.{◌≡◌, ℕ, true, List, [], ◌∷◌, ◌++◌, map, Some, refl, sym, ap, ◌∙◌, append_assoc}
use Rattle.std.specs.List.{flat_map}
use Rattle.std.proofs.lemmas.Bool.{both_ways}
use Rattle.fm_base.specs.declared.interp.Table.{Table}
use Rattle.fm_cert.specs.declared.block.Block.{Block}
use Rattle.fm_cert.specs.declared.block.Claim.{Claim}
use Rattle.fm_cert.specs.declared.block.Line.{Line}
use Rattle.fm_cert.specs.declared.row.Next.{Next}
use Rattle.fm_cert.specs.declared.row.Row.{Row}
use Rattle.fm_cert.specs.Rows.{after_all, exception_row, may_end, rows_of, rows_of_claim, rows_of_table}
use Rattle.fm_cert.proofs.BlockRows.{nowhere}

-- what the rows from a place on are
abbrev pub Gathers : Next → List Row → Type 0
Gathers Next.Blocks rows = (bs : List Block) × (rows ≡ rows_of bs)
Gathers Next.Lines rows = (lines : List Line) × (c : Claim) × (bs : List Block) × (rows ≡ map Row.Body lines ++ (rows_of_claim c ++ rows_of bs))
Gathers Next.Sizes rows = (ks : List ℕ) × (ts : List Table) × (bs : List Block) × (rows ≡ Row.Sizes ks ∷ (flat_map rows_of_table ts ++ rows_of bs))
Gathers Next.Tables rows = (ts : List Table) × (bs : List Block) × (rows ≡ flat_map rows_of_table ts ++ rows_of bs)
Gathers Next.Exceptions rows = (es : List (List ℕ × ℕ)) × (ts : List Table) × (bs : List Block) × (rows ≡ map exception_row es ++ (flat_map rows_of_table ts ++ rows_of bs))

begin_block : (k : ℕ) (rs : List Row) → Gathers Next.Lines rs → (bs : List Block) × (Row.Begin k ∷ rs ≡ rows_of bs)
begin_block k rs (lines, c, bs, e) =
    let begin = Row.Begin k ∷ map Row.Body lines in
    let b : Block = record { number = k; lines = lines; claim = c } in
    (b ∷ bs, ap (λ (z : List Row). Row.Begin k ∷ z) e ∙ sym (append_assoc begin (rows_of_claim c) (rows_of bs)))

begin_table : (v : ℕ) (rs : List Row) → Gathers Next.Exceptions rs → (ts : List Table) × (bs : List Block) × (Row.Default v ∷ rs ≡ flat_map rows_of_table ts ++ rows_of bs)
begin_table v rs (es, ts, bs, e) =
    let t : Table = record { default = v; except = es } in
    (t ∷ ts, bs, ap (λ (z : List Row). Row.Default v ∷ z) e ∙ sym (append_assoc (rows_of_table t) (flat_map rows_of_table ts) (rows_of bs)))

pub gathers : (rows : List Row) (place next : Next) → after_all (Some place) rows ≡ Some next → may_end next ≡ true → Gathers place rows
gathers [] Next.Blocks next e h = ([], refl)
gathers [] Next.Lines next e h = let same : Next.Lines ≡ next = cc e in absurd (both_ways (may_end next) (ap may_end (sym same)) h)
gathers [] Next.Sizes next e h = let same : Next.Sizes ≡ next = cc e in absurd (both_ways (may_end next) (ap may_end (sym same)) h)
gathers [] Next.Tables next e h = ([], [], refl)
gathers [] Next.Exceptions next e h = ([], [], [], refl)
gathers (Row.Begin k ∷ rs) Next.Blocks next e h = begin_block k rs (gathers rs Next.Lines next e h)
gathers (Row.Begin k ∷ rs) Next.Tables next e h = let b = begin_block k rs (gathers rs Next.Lines next e h) in ([], b.0, b.1)
gathers (Row.Begin k ∷ rs) Next.Exceptions next e h = let b = begin_block k rs (gathers rs Next.Lines next e h) in ([], [], b.0, b.1)
gathers (Row.Begin k ∷ rs) Next.Lines next e h = absurd (nowhere rs next e)
gathers (Row.Begin k ∷ rs) Next.Sizes next e h = absurd (nowhere rs next e)
gathers (Row.Body line ∷ rs) Next.Lines next e h = let l = gathers rs Next.Lines next e h in (line ∷ l.0, l.1, l.2, ap (λ (z : List Row). Row.Body line ∷ z) l.3)
gathers (Row.Body line ∷ rs) Next.Blocks next e h = absurd (nowhere rs next e)
gathers (Row.Body line ∷ rs) Next.Sizes next e h = absurd (nowhere rs next e)
gathers (Row.Body line ∷ rs) Next.Tables next e h = absurd (nowhere rs next e)
gathers (Row.Body line ∷ rs) Next.Exceptions next e h = absurd (nowhere rs next e)
gathers (Row.Unsat ∷ rs) Next.Lines next e h = let b = gathers rs Next.Blocks next e h in ([], Claim.Unsat, b.0, ap (λ (z : List Row). Row.Unsat ∷ z) b.1)
gathers (Row.Unsat ∷ rs) Next.Blocks next e h = absurd (nowhere rs next e)
gathers (Row.Unsat ∷ rs) Next.Sizes next e h = absurd (nowhere rs next e)
gathers (Row.Unsat ∷ rs) Next.Tables next e h = absurd (nowhere rs next e)
gathers (Row.Unsat ∷ rs) Next.Exceptions next e h = absurd (nowhere rs next e)
gathers (Row.Unknown i d ∷ rs) Next.Lines next e h = let b = gathers rs Next.Blocks next e h in ([], Claim.Unknown i d, b.0, ap (λ (z : List Row). Row.Unknown i d ∷ z) b.1)
gathers (Row.Unknown i d ∷ rs) Next.Blocks next e h = absurd (nowhere rs next e)
gathers (Row.Unknown i d ∷ rs) Next.Sizes next e h = absurd (nowhere rs next e)
gathers (Row.Unknown i d ∷ rs) Next.Tables next e h = absurd (nowhere rs next e)
gathers (Row.Unknown i d ∷ rs) Next.Exceptions next e h = absurd (nowhere rs next e)
gathers (Row.Sat sum ∷ rs) Next.Lines next e h = let s = gathers rs Next.Sizes next e h in ([], Claim.Sat sum (record { sizes = s.0; tables = s.1 }), s.2, ap (λ (z : List Row). Row.Sat sum ∷ z) s.3)
gathers (Row.Sat sum ∷ rs) Next.Blocks next e h = absurd (nowhere rs next e)
gathers (Row.Sat sum ∷ rs) Next.Sizes next e h = absurd (nowhere rs next e)
gathers (Row.Sat sum ∷ rs) Next.Tables next e h = absurd (nowhere rs next e)
gathers (Row.Sat sum ∷ rs) Next.Exceptions next e h = absurd (nowhere rs next e)
gathers (Row.Sizes ks ∷ rs) Next.Sizes next e h = let t = gathers rs Next.Tables next e h in (ks, t.0, t.1, ap (λ (z : List Row). Row.Sizes ks ∷ z) t.2)
gathers (Row.Sizes ks ∷ rs) Next.Blocks next e h = absurd (nowhere rs next e)
gathers (Row.Sizes ks ∷ rs) Next.Lines next e h = absurd (nowhere rs next e)
gathers (Row.Sizes ks ∷ rs) Next.Tables next e h = absurd (nowhere rs next e)
gathers (Row.Sizes ks ∷ rs) Next.Exceptions next e h = absurd (nowhere rs next e)
gathers (Row.Default v ∷ rs) Next.Tables next e h = begin_table v rs (gathers rs Next.Exceptions next e h)
gathers (Row.Default v ∷ rs) Next.Exceptions next e h = let t = begin_table v rs (gathers rs Next.Exceptions next e h) in ([], t.0, t.1, t.2)
gathers (Row.Default v ∷ rs) Next.Blocks next e h = absurd (nowhere rs next e)
gathers (Row.Default v ∷ rs) Next.Lines next e h = absurd (nowhere rs next e)
gathers (Row.Default v ∷ rs) Next.Sizes next e h = absurd (nowhere rs next e)
gathers (Row.Exception tuple v ∷ rs) Next.Exceptions next e h = let x = gathers rs Next.Exceptions next e h in ((tuple, v) ∷ x.0, x.1, x.2, ap (λ (z : List Row). Row.Exception tuple v ∷ z) x.3)
gathers (Row.Exception tuple v ∷ rs) Next.Blocks next e h = absurd (nowhere rs next e)
gathers (Row.Exception tuple v ∷ rs) Next.Lines next e h = absurd (nowhere rs next e)
gathers (Row.Exception tuple v ∷ rs) Next.Sizes next e h = absurd (nowhere rs next e)
gathers (Row.Exception tuple v ∷ rs) Next.Tables next e h = absurd (nowhere rs next e)
