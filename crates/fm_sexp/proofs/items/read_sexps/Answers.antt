use Rattle.std.proofs.Common.{◌≡◌, ◌≤◌, ◌+◌, ◌-◌, ℕ, List, length, drop, inl, refl, sym, ap, subst, ◌∙◌, arith, length-drop}
use Rattle.std.proofs.lemmas.List.{take_all}
use Rattle.fm_base.specs.declared.refusal.Reason.{Reason}
use Rattle.fm_sexp.specs.declared.pieces.Front.{Front}
use Rattle.fm_sexp.specs.Pieces.{piece_of}
use Rattle.fm_sexp.specs.Places.{place_of}
use Rattle.fm_sexp.specs.Building.{IsStopped, so_far}
use Rattle.fm_sexp.proofs.Reading.{stops, read_more, stopped_fault, some_left, advanced, shallow}
use Rattle.fm_sexp.proofs.items.read_sexps.Goals as goal

pub returns-in-Unclosed-clause-refused : goal.returns-in-Unclosed-clause-refused
returns-in-Unclosed-clause-refused c =
    let text : List ℕ = c.args.text.now in
    let to : ℕ = c.loop-start.start in
    let rest : List ℕ = drop to text in
    let i = c.loop-start.invariant in
    let front : piece_of rest ≡ Front.Unclosed = ap piece_of (sym c.split_at.ensures.back) ∙ sym c.in-Unclosed.ensures.value in
    stops text to _ _ i.read Reason.UnexpectedEnd (length rest) c.advance.result (refl, inl (some_left text to c.loop-start-test.true, front))
    (advanced text to (length rest) c.loop-start.at c.advance.result rest c.split_at.result.1.now i.place refl (c.split_at.ensures.back ∙ sym (take_all (length rest) rest (omega arith))) c.advance.ensures.value)
    c.refused.result c.refused.ensures

pub returns-in-Wrong-clause-refused : goal.returns-in-Wrong-clause-refused
returns-in-Wrong-clause-refused c =
    let text : List ℕ = c.args.text.now in
    let to : ℕ = c.loop-start.start in
    let i = c.loop-start.invariant in
    stops text to _ _ i.read Reason.Lexical c.in-Wrong.off c.advance-in-Wrong.result (ap piece_of (sym c.split_at.ensures.back) ∙ sym c.in-Wrong.ensures.value)
    (advanced text to c.in-Wrong.off c.loop-start.at c.advance-in-Wrong.result c.split_at.result.1.now c.split_at-in-Wrong.result.0.now i.place c.split_at.ensures.back c.split_at-in-Wrong.ensures.front c.advance-in-Wrong.ensures.value)
    c.refused-in-Wrong.result c.refused-in-Wrong.ensures

pub returns-in-Some-clause-refused : goal.returns-in-Some-clause-refused
returns-in-Some-clause-refused c =
    let text : List ℕ = c.args.text.now in
    let to : ℕ = c.loop-start.start in
    let i = c.loop-start.invariant in
    let here : to ≡ to + 0 = omega arith in
    let stopped = subst (λ (d : ℕ). IsStopped d c.in-Found.piece.shape c.in-Some.reason) c.depth.ensures c.in-Some.ensures.some in
    stops text to _ _ i.read c.in-Some.reason 0 c.loop-start.at (stopped_fault _ c.in-Found.piece (drop to text) c.in-Some.reason stopped (ap piece_of (sym c.split_at.ensures.back) ∙ sym c.in-Found.ensures.value))
    (i.place ∙ ap (place_of text) here) c.refused-in-Some.result c.refused-in-Some.ensures

pub loop-start-preserved : goal.loop-start-preserved
loop-start-preserved c =
    let text : List ℕ = c.args.text.now in
    let to : ℕ = c.loop-start.start in
    let i = c.loop-start.invariant in
    let len : ℕ = c.in-Found.piece.len in
    let fits : len ≤ length c.split_at.result.1.now = c.in-Found.ensures.fits.1 in
    let left : length c.split_at.result.1.now ≡ length text - to = ap length c.split_at.ensures.back ∙ length-drop to text in
    let bytes : length c.split_at-in-loop-start.result.0.now ≡ len = c.split_at-in-loop-start.ensures.front_len in
    record {
      within = omega arith;
      shallow = shallow _ _ c.in-Found.piece.shape i.shallow c.in_ok-add.ensures.frames;
      place = advanced text to len c.loop-start.at c.advance-at.result c.split_at.result.1.now c.split_at-in-loop-start.result.0.now i.place c.split_at.ensures.back c.split_at-in-loop-start.ensures.front c.advance-at.ensures.value;
      line = omega (arith, c.advance-at.ensures.line);
      column = omega (arith, c.advance-at.ensures.column);
      read = read_more text to _ _ i.read c.in-Found.piece c.loop-start.at (so_far c.add.new.self) _ (ap piece_of (sym c.split_at.ensures.back) ∙ sym c.in-Found.ensures.value) c.in_ok-add.ensures.frames i.place c.in_ok-add.ensures.so_far;
    }
