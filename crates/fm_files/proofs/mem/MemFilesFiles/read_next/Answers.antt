use Rattle.std.proofs.Common.{ap, ◌≡◌, ℕ, List, arith, subst, true, false, refl, is_some}
use Rattle.std.proofs.lemmas.Map.Text.{text_keys}
use Rattle.std.specs.BTreeMap.{get_by_text}
use Rattle.fm_files.specs.Memory.{is_nil}
use Rattle.fm_files.specs.Entries.{free, free_at, reads_at, writes_at}
use Rattle.fm_files.proofs.Looked.{same_of, OneChanged, leaves_read}
use Rattle.fm_files.proofs.Steps.{sure_read, quiet_read}
use Rattle.fm_files.proofs.mem.MemFilesFiles.read_next.Goals as goal

pub returns-in-Some-clause-leaves : goal.returns-in-Some-clause-leaves
returns-in-Some-clause-leaves c =
    let h : OneChanged (get_by_text c.args.self.now.entries) (get_by_text (c.get_mut.follows.lender c.read.new.self)) c.args.name.now c.in-Some.entry.now c.read.new.self =
    record { was = grind (arith, text_keys); is = grind (arith, text_keys); others = λ q ne. grind (arith, text_keys) } in
    leaves_read c.args.self.now (c.get_mut.follows.lender c.read.new.self) c.args.name.now _ _ h c.read.ensures.sink c.read.ensures.kept c.read.ensures.later c.read.ensures.writes

pub returns-in-Some-clause-never : goal.returns-in-Some-clause-never
returns-in-Some-clause-never c =
    let h : OneChanged (get_by_text c.args.self.now.entries) (get_by_text (c.get_mut.follows.lender c.read.new.self)) c.args.name.now c.in-Some.entry.now c.read.new.self =
    record { was = grind (arith, text_keys); is = grind (arith, text_keys); others = λ q ne. grind (arith, text_keys) } in
    sure_read c.args.self.now (c.get_mut.follows.lender c.read.new.self) c.args.name.now _ _ _ _ h (subst (λ (numbers : List ℕ). is_nil numbers ≡ true → c.is_listed-fails.result ≡ false) c.deref.ensures.value c.is_listed-fails.ensures.none) c.read.ensures.ok c.read.ensures.reads c.read.ensures.writes

pub returns-in-Some-clause-quiet : goal.returns-in-Some-clause-quiet
returns-in-Some-clause-quiet c =
    let h : OneChanged (get_by_text c.args.self.now.entries) (get_by_text (c.get_mut.follows.lender c.read.new.self)) c.args.name.now c.in-Some.entry.now c.read.new.self =
    record { was = grind (arith, text_keys); is = grind (arith, text_keys); others = λ q ne. grind (arith, text_keys) } in
    quiet_read c.args.self.now (c.get_mut.follows.lender c.read.new.self) c.args.name.now _ _ _ h c.read.ensures.reads c.read.ensures.writes

pub returns-in-Some-clause-free : goal.returns-in-Some-clause-free
returns-in-Some-clause-free c =
    let h : OneChanged (get_by_text c.args.self.now.entries) (get_by_text (c.get_mut.follows.lender c.read.new.self)) c.args.name.now c.in-Some.entry.now c.read.new.self =
    record { was = grind (arith, text_keys); is = grind (arith, text_keys); others = λ q ne. grind (arith, text_keys) } in
    same_of free_at _ _ _ _ _ h (ap free c.read.ensures.sink)

pub returns-in-Some-clause-known : goal.returns-in-Some-clause-known
returns-in-Some-clause-known c =
    let h : OneChanged (get_by_text c.args.self.now.entries) (get_by_text (c.get_mut.follows.lender c.read.new.self)) c.args.name.now c.in-Some.entry.now c.read.new.self =
    record { was = grind (arith, text_keys); is = grind (arith, text_keys); others = λ q ne. grind (arith, text_keys) } in
    same_of is_some _ _ _ _ _ h refl

pub returns-in-Some-clause-alone : goal.returns-in-Some-clause-alone
returns-in-Some-clause-alone c = λ q ne known.
    let h : OneChanged (get_by_text c.args.self.now.entries) (get_by_text (c.get_mut.follows.lender c.read.new.self)) c.args.name.now c.in-Some.entry.now c.read.new.self =
    record { was = grind (arith, text_keys); is = grind (arith, text_keys); others = λ q ne. grind (arith, text_keys) } in
    ap (reads_at c.args.self.now.other_read_faults) (h.others q ne)

pub returns-in-Some-clause-writes : goal.returns-in-Some-clause-writes
returns-in-Some-clause-writes c =
    let h : OneChanged (get_by_text c.args.self.now.entries) (get_by_text (c.get_mut.follows.lender c.read.new.self)) c.args.name.now c.in-Some.entry.now c.read.new.self =
    record { was = grind (arith, text_keys); is = grind (arith, text_keys); others = λ q ne. grind (arith, text_keys) } in
    same_of (writes_at c.args.self.now.other_write_faults) _ _ _ _ _ h c.read.ensures.writes
