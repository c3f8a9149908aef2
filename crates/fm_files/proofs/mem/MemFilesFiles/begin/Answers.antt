use Rattle.std.proofs.Common.{ap, ◌≡◌, ℕ, List, arith, subst, true, false, refl, is_some}
use Rattle.std.proofs.lemmas.Map.Text.{text_keys}
use Rattle.std.specs.BTreeMap.{get_by_text}
use Rattle.fm_files.specs.Memory.{is_nil}
use Rattle.fm_files.specs.Entries.{free_at, reads_at, writes_at}
use Rattle.fm_files.proofs.Looked.{OneChanged, leaves_write, same_of}
use Rattle.fm_files.proofs.Steps.{roomy_begin, quiet_write}
use Rattle.fm_files.proofs.mem.MemFilesFiles.begin.Goals as goal

pub returns-in-Some-clause-leaves : goal.returns-in-Some-clause-leaves
returns-in-Some-clause-leaves c =
    let h : OneChanged (get_by_text c.args.self.now.entries) (get_by_text (c.get_mut.follows.lender c.begin.new.self)) c.args.name.now c.in-Some.entry.now c.begin.new.self =
    record { was = grind (arith, text_keys); is = grind (arith, text_keys); others = λ q ne. grind (arith, text_keys) } in
    leaves_write c.args.self.now (c.get_mut.follows.lender c.begin.new.self) c.args.name.now _ _ h c.begin.ensures.source c.begin.ensures.reads c.begin.ensures.later

pub returns-in-Some-clause-never : goal.returns-in-Some-clause-never
returns-in-Some-clause-never c =
    let h : OneChanged (get_by_text c.args.self.now.entries) (get_by_text (c.get_mut.follows.lender c.begin.new.self)) c.args.name.now c.in-Some.entry.now c.begin.new.self =
    record { was = grind (arith, text_keys); is = grind (arith, text_keys); others = λ q ne. grind (arith, text_keys) } in
    λ n. roomy_begin c.args.self.now (c.get_mut.follows.lender c.begin.new.self) c.args.name.now _ _ _ _ n h (subst (λ (numbers : List ℕ). is_nil numbers ≡ true → c.is_listed-fails.result ≡ false) c.deref.ensures.value c.is_listed-fails.ensures.none) c.begin.ensures.ok (c.begin.ensures.room n) c.begin.ensures.reads c.begin.ensures.writes

pub returns-in-Some-clause-quiet : goal.returns-in-Some-clause-quiet
returns-in-Some-clause-quiet c =
    let h : OneChanged (get_by_text c.args.self.now.entries) (get_by_text (c.get_mut.follows.lender c.begin.new.self)) c.args.name.now c.in-Some.entry.now c.begin.new.self =
    record { was = grind (arith, text_keys); is = grind (arith, text_keys); others = λ q ne. grind (arith, text_keys) } in
    quiet_write c.args.self.now (c.get_mut.follows.lender c.begin.new.self) c.args.name.now _ _ _ h c.begin.ensures.reads c.begin.ensures.writes

pub returns-in-Some-clause-free : goal.returns-in-Some-clause-free
returns-in-Some-clause-free c =
    let h : OneChanged (get_by_text c.args.self.now.entries) (get_by_text (c.get_mut.follows.lender c.begin.new.self)) c.args.name.now c.in-Some.entry.now c.begin.new.self =
    record { was = grind (arith, text_keys); is = grind (arith, text_keys); others = λ q ne. grind (arith, text_keys) } in
    λ q ne. ap free_at (h.others q ne)

pub returns-in-Some-clause-known : goal.returns-in-Some-clause-known
returns-in-Some-clause-known c =
    let h : OneChanged (get_by_text c.args.self.now.entries) (get_by_text (c.get_mut.follows.lender c.begin.new.self)) c.args.name.now c.in-Some.entry.now c.begin.new.self =
    record { was = grind (arith, text_keys); is = grind (arith, text_keys); others = λ q ne. grind (arith, text_keys) } in
    same_of is_some _ _ _ _ _ h refl

pub returns-in-Some-clause-alone : goal.returns-in-Some-clause-alone
returns-in-Some-clause-alone c = λ q ne known.
    let h : OneChanged (get_by_text c.args.self.now.entries) (get_by_text (c.get_mut.follows.lender c.begin.new.self)) c.args.name.now c.in-Some.entry.now c.begin.new.self =
    record { was = grind (arith, text_keys); is = grind (arith, text_keys); others = λ q ne. grind (arith, text_keys) } in
    ap (writes_at c.args.self.now.other_write_faults) (h.others q ne)

pub returns-in-Some-clause-reads : goal.returns-in-Some-clause-reads
returns-in-Some-clause-reads c =
    let h : OneChanged (get_by_text c.args.self.now.entries) (get_by_text (c.get_mut.follows.lender c.begin.new.self)) c.args.name.now c.in-Some.entry.now c.begin.new.self =
    record { was = grind (arith, text_keys); is = grind (arith, text_keys); others = λ q ne. grind (arith, text_keys) } in
    same_of (reads_at c.args.self.now.other_read_faults) _ _ _ _ _ h c.begin.ensures.reads
