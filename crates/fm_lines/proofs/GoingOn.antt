-- Lines go on as the state does.
use Rattle.std.proofs.Common.{◌≡◌, List, [], ◌∷◌, ◌++◌, sym, subst, ◌∙◌}
use Rattle.fm_cert.specs.Lines.{AreGoodLines, Made, nothing}
use Rattle.fm_cert.specs.declared.block.Line.{Line}
use Rattle.fm_steps.specs.Lines.{Certified, made_of, row_lines, searched}
use Rattle.fm_steps.specs.State.{with_literals}
use Rattle.fm_steps.proofs.Begun.{settling_writes_nothing}
use Rattle.fm_steps.proofs.Written.{good_append, made_with, one_line, rows_are_written}
use Rattle.fm_lines.specs.Laws.{LemmasGoOn, LemmasSettle, LinesGoOn, LinesStay}

make : (c : Certified) (lines : List Line) (a b : Made) → b ≡ a → AreGoodLines c nothing lines a → AreGoodLines c nothing lines b
make c lines a b e good = subst (λ (m : Made). AreGoodLines c nothing lines m) (sym e) good

pub rows_go_on : LinesGoOn
rows_go_on c user b s k o mid t lines sorted lawful w fit known r settles good =
    let more = row_lines (searched c user) b s k o mid r in
    make c (lines ++ more) (made_of mid) (made_of t) (settling_writes_nothing mid t known settles)
    (good_append c nothing lines (made_of s) more (made_of mid) good (rows_are_written c user b s k o mid sorted lawful w fit r))

pub lemmas_go_on : LemmasGoOn
lemmas_go_on c s ls line lines known makes good =
    let next = with_literals ls s in
    good_append c nothing lines (made_of s) (line ∷ []) (made_of next) good (one_line c (made_of s) line ls (made_of next) makes (made_with s ls known))

pub lemmas_settle : LemmasSettle
lemmas_settle c s ls line lines mid t known makes same later settles good =
    make c (lines ++ line ∷ []) (made_of (with_literals ls s)) (made_of t) (settling_writes_nothing mid t later settles ∙ same) (lemmas_go_on c s ls line lines known makes good)

pub lines_stay : LinesStay
lines_stay c s mid t lines same known settles good = make c lines (made_of s) (made_of t) (settling_writes_nothing mid t known settles ∙ same) good
