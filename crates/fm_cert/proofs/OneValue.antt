-- A text is spelled by one list of blocks.
use Rattle.std.proofs.Common.{◌≡◌, ℕ, List, [], ◌∷◌, ◌++◌, map, refl, sym, ap, ◌∙◌, append_assoc}
use Rattle.std.specs.List.{AllByRecursion, flat_map}
use Rattle.fm_base.specs.declared.interp.Table.{Table}
use Rattle.fm_cert.specs.declared.block.Block.{Block}
use Rattle.fm_cert.specs.declared.block.Claim.{Claim}
use Rattle.fm_cert.specs.declared.block.Line.{Line}
use Rattle.fm_cert.specs.declared.row.Row.{Row}
use Rattle.fm_cert.specs.Outside.{SpellingIsOfOne}
use Rattle.fm_cert.specs.Rows.{FitsRow, IsFirstRow, exception_row, rows_of, rows_of_claim, rows_of_table, spelling_of_row}
use Rattle.fm_cert.specs.Spelling.{spelling_of_block}
use Rattle.fm_cert.proofs.BlockRows.{blocks_text, rows_fit}
use Rattle.fm_cert.proofs.FirstRows.{behind_header, no_text, one_row}

same_rows : (rs ss : List Row) → AllByRecursion FitsRow rs → AllByRecursion FitsRow ss → flat_map spelling_of_row rs ≡ flat_map spelling_of_row ss → rs ≡ ss
same_rows [] [] h k e = refl
same_rows [] (s ∷ ss) h k e = absurd (no_text s (flat_map spelling_of_row ss) k.0 (sym e))
same_rows (r ∷ rs) [] h k e = absurd (no_text r (flat_map spelling_of_row rs) h.0 e)
same_rows (r ∷ rs) (s ∷ ss) h k e =
    let text = spelling_of_row r ++ flat_map spelling_of_row rs in
    let here : IsFirstRow text r (flat_map spelling_of_row rs) = record { is = refl; fits = h.0 } in
    let there : IsFirstRow text s (flat_map spelling_of_row ss) = record { is = e; fits = k.0 } in
    let one = one_row text r s (flat_map spelling_of_row rs) (flat_map spelling_of_row ss) here there in
    let rest = same_rows rs ss h.1 k.1 one.1 in
    λ i. one.0 i ∷ rest i

-- The blocks of rows, from the last to the first: what a row adds in front of what stands behind it. Behind a line that
-- isn't a block's first there are the lines of an ending's model, the tables, the claim, the lines, and whole blocks.
record Behind : Type 0 where
  pub except : List (List ℕ × ℕ)
  pub tables : List Table
  pub claim : Claim
  pub lines : List Line
  pub blocks : List Block

abbrev nothing_behind : Behind
nothing_behind = record { except = []; tables = []; claim = Claim.Unsat; lines = []; blocks = [] }

abbrev sizes_in : Claim → List ℕ
sizes_in Claim.Unsat = []
sizes_in (Claim.Sat sum model) = model.sizes
sizes_in (Claim.Unknown i d) = []

abbrev in_front : Row → Behind → Behind
in_front (Row.Begin k) b = record { except = []; tables = []; claim = Claim.Unsat; lines = []; blocks = record { number = k; lines = b.lines; claim = b.claim } ∷ b.blocks }
in_front (Row.Body line) b = record { except = []; tables = []; claim = b.claim; lines = line ∷ b.lines; blocks = b.blocks }
in_front Row.Unsat b = record { except = []; tables = []; claim = Claim.Unsat; lines = []; blocks = b.blocks }
in_front (Row.Unknown i d) b = record { except = []; tables = []; claim = Claim.Unknown i d; lines = []; blocks = b.blocks }
in_front (Row.Sat sum) b = record { except = []; tables = []; claim = Claim.Sat sum (record { sizes = sizes_in b.claim; tables = b.tables }); lines = []; blocks = b.blocks }
in_front (Row.Sizes ks) b = record { except = []; tables = b.tables; claim = Claim.Sat 0 (record { sizes = ks; tables = [] }); lines = []; blocks = b.blocks }
in_front (Row.Default v) b = record { except = []; tables = record { default = v; except = b.except } ∷ b.tables; claim = Claim.Unsat; lines = []; blocks = b.blocks }
in_front (Row.Exception tuple v) b = record { except = (tuple, v) ∷ b.except; tables = b.tables; claim = Claim.Unsat; lines = []; blocks = b.blocks }

abbrev run : List Row → Behind
run [] = nothing_behind
run (r ∷ rs) = in_front r (run rs)

-- what stands behind rows that begin with a block, or none
abbrev IsFresh : List Row → List Block → Type 0
IsFresh rs bs = run rs ≡ record { except = []; tables = []; claim = Claim.Unsat; lines = []; blocks = bs }

run_exceptions : (es : List (List ℕ × ℕ)) (rs : List Row) (ts : List Table) (bs : List Block) → run rs ≡ record { except = []; tables = ts; claim = Claim.Unsat; lines = []; blocks = bs } → run (map exception_row es ++ rs) ≡ record { except = es; tables = ts; claim = Claim.Unsat; lines = []; blocks = bs }
run_exceptions [] rs ts bs h = h
run_exceptions (e ∷ es) rs ts bs h = ap (in_front (exception_row e)) (run_exceptions es rs ts bs h)

run_tables : (ts : List Table) (rs : List Row) (bs : List Block) → IsFresh rs bs → run (flat_map rows_of_table ts ++ rs) ≡ record { except = []; tables = ts; claim = Claim.Unsat; lines = []; blocks = bs }
run_tables [] rs bs h = h
run_tables (t ∷ ts) rs bs h = ap run (append_assoc (rows_of_table t) (flat_map rows_of_table ts) rs) ∙ ap (in_front (Row.Default t.default)) (run_exceptions t.except (flat_map rows_of_table ts ++ rs) ts bs (run_tables ts rs bs h))

run_claim : (c : Claim) (rs : List Row) (bs : List Block) → IsFresh rs bs → run (rows_of_claim c ++ rs) ≡ record { except = []; tables = []; claim = c; lines = []; blocks = bs }
run_claim Claim.Unsat rs bs h = ap (in_front Row.Unsat) h
run_claim (Claim.Sat sum model) rs bs h = ap (λ (b : Behind). in_front (Row.Sat sum) (in_front (Row.Sizes model.sizes) b)) (run_tables model.tables rs bs h)
run_claim (Claim.Unknown i d) rs bs h = ap (in_front (Row.Unknown i d)) h

run_lines : (lines : List Line) (c : Claim) (rs : List Row) (bs : List Block) → run rs ≡ record { except = []; tables = []; claim = c; lines = []; blocks = bs } → run (map Row.Body lines ++ rs) ≡ record { except = []; tables = []; claim = c; lines = lines; blocks = bs }
run_lines [] c rs bs h = h
run_lines (l ∷ lines) c rs bs h = ap (in_front (Row.Body l)) (run_lines lines c rs bs h)

run_blocks : (bs : List Block) → IsFresh (rows_of bs) bs
run_blocks [] = refl
run_blocks (b ∷ bs) =
    let begin = Row.Begin b.number ∷ map Row.Body b.lines in
    let behind = run_lines b.lines b.claim (rows_of_claim b.claim ++ rows_of bs) bs (run_claim b.claim (rows_of bs) bs (run_blocks bs)) in
    ap run (append_assoc begin (rows_of_claim b.claim) (rows_of bs)) ∙ ap (in_front (Row.Begin b.number)) behind

pub one_certificate : SpellingIsOfOne
one_certificate text bs cs (h, e) (k, f) =
    let same = behind_header text (flat_map spelling_of_block bs) (flat_map spelling_of_block cs) e f in
    let rows = same_rows (rows_of bs) (rows_of cs) (rows_fit bs h) (rows_fit cs k) (blocks_text bs ∙ (same ∙ sym (blocks_text cs))) in
    let runs = sym (run_blocks bs) ∙ (ap run rows ∙ run_blocks cs) in
    ap (λ (b : Behind). b.blocks) runs
