-- Look-ups by name before and after a change of one entry, and what that says of states in memory.
use Rattle.std.proofs.Common.{◌≡◌, inl, inr, ℕ, ◌≤◌, Bool, ◌&&◌, cond, is_some, List, Option, Some, None, sym, ◌∙◌, ap, subst, arith}
use Rattle.std.specs.BTreeMap.{BTreeMap, get_by_text}
use Rattle.std.specs.declared.alloc.Global.{Global}
use Rattle.std.specs.Prelude.{String}
use Rattle.fm_files.specs.Entries.{left_of, sunk, free, left_at, sunk_at, free_at, reads_at, writes_at, seen_in}
use Rattle.fm_files.specs.Memory.{is_nil}
use Rattle.fm_files.specs.Seen.{SameButAt, OnlyReads, WritesAt, NoFault}
use Rattle.fm_files.specs.declared.entry.Entry.{Entry}
use Rattle.fm_files.specs.declared.mem.MemFiles.{MemFiles}
use Rattle.fm_files.proofs.Names.{name_cases}

-- the look-ups differ in the one entry of a name
pub record OneChanged (old new : List ℕ → Option Entry) (name : List ℕ) (before after : Entry) : Type 0 where
  pub was : old name ≡ Some before
  pub is : new name ≡ Some after
  pub others : SameButAt old new name

pub same_of : {V : Type 0} (f : Option Entry → V) (old new : List ℕ → Option Entry) (name : List ℕ) (before after : Entry) → OneChanged old new name before after → f (Some after) ≡ f (Some before) → (q : List ℕ) → f (new q) ≡ f (old q)
same_of f old new name before after h e q =
    elim (name_cases q name) [ inl same ↦ subst (λ (n : List ℕ). f (new n) ≡ f (old n)) (sym same) (ap f h.is ∙ e ∙ sym (ap f h.was)) | inr other ↦ ap f (h.others q other) ]

pub later_of : (f : Option Entry → ℕ) (old new : List ℕ → Option Entry) (name : List ℕ) (before after : Entry) → OneChanged old new name before after → f (Some before) ≤ f (Some after) → (q : List ℕ) → f (old q) ≤ f (new q)
later_of f old new name before after h e q =
    elim (name_cases q name) [ inl same ↦ subst (λ (n : List ℕ). f (old n) ≤ f (new n)) (sym same) (subst (λ (o : Option Entry). f o ≤ f (new name)) (sym h.was) (subst (λ (o : Option Entry). f (Some before) ≤ f o) (sym h.is) e)) | inr other ↦ subst (λ (o : Option Entry). f (old q) ≤ f o) (sym (h.others q other)) (omega arith) ]

-- the state with other entries
abbrev pub changed : MemFiles → BTreeMap (String Global) Entry → MemFiles
changed m entries =
    record {
      entries = entries;
      fail_reads = m.fail_reads;
      fail_writes = m.fail_writes;
      reads = m.reads;
      writes = m.writes;
      other_read_faults = m.other_read_faults;
      other_write_faults = m.other_write_faults;
    }

pub leaves_read : (m : MemFiles) (entries : BTreeMap (String Global) Entry) (name : List ℕ) (e f : Entry) → OneChanged (get_by_text m.entries) (get_by_text entries) name e f → f.sink ≡ e.sink → is_some (left_of f.source) ≡ is_some (left_of e.source) → e.read_faults ≤ f.read_faults → f.write_faults ≡ e.write_faults → OnlyReads (seen_in m) (seen_in (changed m entries)) name
leaves_read m entries name e f h sink source reads writes =
    let old = get_by_text m.entries in
    let new = get_by_text entries in
    record {
      others = λ q ne. ap left_at (h.others q ne);
      written = λ q. ap (λ (x : List ℕ). Some x) (same_of sunk_at old new name e f h (ap sunk sink) q);
      rooms = λ q. ap (λ (x : Option ℕ). cond (is_nil m.fail_writes.items) x None) (same_of free_at old new name e f h (ap free sink) q);
      sure = λ q. ap (λ (b : Bool). b && is_nil m.fail_reads.items) (same_of (λ o. is_some (left_at o)) old new name e f h source q);
      reads_later = λ q. later_of (reads_at m.other_read_faults) old new name e f h reads q;
      writes_later = λ q. let same = same_of (writes_at m.other_write_faults) old new name e f h writes q in omega arith;
    }

pub leaves_write : (m : MemFiles) (entries : BTreeMap (String Global) Entry) (name : List ℕ) (e f : Entry) → OneChanged (get_by_text m.entries) (get_by_text entries) name e f → f.source ≡ e.source → f.read_faults ≡ e.read_faults → e.write_faults ≤ f.write_faults → WritesAt (seen_in m) (seen_in (changed m entries)) name
leaves_write m entries name e f h source reads writes =
    let old = get_by_text m.entries in
    let new = get_by_text entries in
    record {
      only = record {
        left = λ q. same_of left_at old new name e f h (ap left_of source) q;
        sure = λ q. ap (λ (b : Bool). b && is_nil m.fail_reads.items) (same_of (λ o. is_some (left_at o)) old new name e f h (ap (λ s. is_some (left_of s)) source) q);
        reads_later = λ q. let same = same_of (reads_at m.other_read_faults) old new name e f h reads q in omega arith;
        writes_later = λ q. later_of (writes_at m.other_write_faults) old new name e f h writes q;
      };
      others = λ q ne. ap (λ (o : Option Entry). Some (sunk_at o)) (h.others q ne);
      other_rooms = λ q ne. ap (λ (o : Option Entry). cond (is_nil m.fail_writes.items) (free_at o) None) (h.others q ne);
    }

pub quiet : (m : MemFiles) (entries : BTreeMap (String Global) Entry) (name : List ℕ) (e f : Entry) → OneChanged (get_by_text m.entries) (get_by_text entries) name e f → f.read_faults ≡ e.read_faults → f.write_faults ≡ e.write_faults → NoFault (seen_in m) (seen_in (changed m entries))
quiet m entries name e f h reads writes =
    let old = get_by_text m.entries in
    let new = get_by_text entries in
    record {
      reads = λ q. same_of (reads_at m.other_read_faults) old new name e f h reads q;
      writes = λ q. same_of (writes_at m.other_write_faults) old new name e f h writes q;
    }
