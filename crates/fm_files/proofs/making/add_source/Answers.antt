use Rattle.std.proofs.Common.{◌≡◌, Some, None, arith, string_bytes}
use Rattle.std.proofs.lemmas.Map.Text.{text_keys}
use Rattle.std.specs.BTreeMap.{get_by_text}
use Rattle.fm_files.specs.Seen.{SameButAt}
use Rattle.fm_files.proofs.Gains.{source_gained}
use Rattle.fm_files.proofs.making.add_source.Goals as goal

pub returns : goal.returns
returns c =
    let others : SameButAt (get_by_text c.args.entries.now) (get_by_text c.insert.new.self) (string_bytes c.args.name) = λ q ne. grind (arith, text_keys) in
    let was : get_by_text c.args.entries.now (string_bytes c.args.name) ≡ None = grind (arith, text_keys) in
    let is : get_by_text c.insert.new.self (string_bytes c.args.name) ≡ Some c.with_source.result = grind (arith, text_keys) in
    source_gained (get_by_text c.args.entries.now) (get_by_text c.insert.new.self) (string_bytes c.args.name) c.args.bytes.items c.with_source.result was is others c.with_source.ensures.left c.with_source.ensures.sunk c.with_source.ensures.free c.with_source.ensures.counts
