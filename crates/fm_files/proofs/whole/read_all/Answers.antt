use Rattle.std.proofs.Common.{◌++◌, take, arith, length-append}
use Rattle.std.proofs.KnownBytes.{Consumes-trans}
use Rattle.std.proofs.lemmas.List.{length-take}
use Rattle.fm_files.proofs.whole.read_all.Goals as goal

-- the bytes of this read were taken, though there was no memory to keep them
pub returns-in_err-extend_from_slice-clause-taken : goal.returns-in_err-extend_from_slice-clause-taken
returns-in_err-extend_from_slice-clause-taken g c =
    let piece = take c.in-Ok.count c.read_next.new.into in
    let few = length-take c.min-wanted.result c.loop-chunk.chunk in
    let more = length-append c.loop-chunk.bytes.items piece in
    (c.loop-chunk.bytes.items ++ piece, omega (arith, more, few, c.in-Ok.ensures.bound.0, c.in-Ok.ensures.bound.1, c.read_next.auto.into, c.min-wanted.ensures, c.len-in-loop-chunk.ensures), Consumes-trans _ _ _ _ _ c.loop-chunk.invariant.taken c.in-Ok.ensures.bytes.0)
