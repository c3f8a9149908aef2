use Rattle.std.proofs.Common.{◌≡◌, Some, None, arith, string_bytes}
use Rattle.std.proofs.lemmas.Map.Text.{text_keys}
use Rattle.std.specs.BTreeMap.{get_by_text}
use Rattle.fm_files.specs.Seen.{SameButAt}
use Rattle.fm_files.proofs.Gains.{sink_gained, sink_given, sink_made}
use Rattle.fm_files.proofs.making.add_sink.Goals as goal

pub returns-in_ok-give_sink-in-Some : goal.returns-in_ok-give_sink-in-Some
returns-in_ok-give_sink-in-Some c =
    let others : SameButAt (get_by_text c.args.entries.now) (get_by_text (c.get_mut.follows.lender c.give_sink.new.self)) (string_bytes c.args.name) = λ q ne. grind (arith, text_keys) in
    let was : get_by_text c.args.entries.now (string_bytes c.args.name) ≡ Some c.in-Some.entry.now = grind (arith, text_keys) in
    let is : get_by_text (c.get_mut.follows.lender c.give_sink.new.self) (string_bytes c.args.name) ≡ Some c.give_sink.new.self = grind (arith, text_keys) in
    sink_gained (get_by_text c.args.entries.now) (get_by_text (c.get_mut.follows.lender c.give_sink.new.self)) (string_bytes c.args.name) (Some c.in-Some.entry.now) (Some c.give_sink.new.self) c.args.room was is others (sink_given _ _ _ c.in_ok-give_sink-in-Some.ensures.sunk c.in_ok-give_sink-in-Some.ensures.free c.give_sink.ensures.source c.give_sink.ensures.counts)

pub returns-in_ok-insert-in-None : goal.returns-in_ok-insert-in-None
returns-in_ok-insert-in-None c =
    let others : SameButAt (get_by_text c.args.entries.now) (get_by_text c.insert.new.self) (string_bytes c.args.name) = λ q ne. grind (arith, text_keys) in
    let was : get_by_text c.args.entries.now (string_bytes c.args.name) ≡ None = grind (arith, text_keys) in
    let is : get_by_text c.insert.new.self (string_bytes c.args.name) ≡ Some c.in_ok-with_sink-in-None.field-0 = grind (arith, text_keys) in
    sink_gained (get_by_text c.args.entries.now) (get_by_text c.insert.new.self) (string_bytes c.args.name) None (Some c.in_ok-with_sink-in-None.field-0) c.args.room was is others (sink_made _ _ c.in_ok-with_sink-in-None.ensures.left c.in_ok-with_sink-in-None.ensures.sunk c.in_ok-with_sink-in-None.ensures.free c.in_ok-with_sink-in-None.ensures.counts)
