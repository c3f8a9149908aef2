-- What one call on an entry says of the states before and after it.
use Rattle.std.proofs.Common.{◌≡◌, ◌↔◌, ℕ, Bool, true, false, ◌&&◌, cond, if◌then◌else◌, is_some, List, [], ◌++◌, length, take, Option, Some, None, Result, Ok, Err, IsOk, IfOk, OnOk, is_ok, refl, sym, ◌∙◌, ap, subst}
use Rattle.std.proofs.Math.Seq.{take-length}
use Rattle.std.proofs.lemmas.List.{append-nil}
use Rattle.std.specs.BTreeMap.{BTreeMap, get_by_text}
use Rattle.std.specs.declared.alloc.Global.{Global}
use Rattle.std.specs.Prelude.{String}
use Rattle.fm_files.specs.Entries.{counted, left_of, sunk, free, left_at, sunk_at, free_at, seen_in}
use Rattle.fm_files.specs.Memory.{is_nil}
use Rattle.fm_files.specs.Seen.{NoFault, HasRoom, lowered, Adds}
use Rattle.fm_files.specs.declared.entry.Entry.{Entry}
use Rattle.fm_files.specs.declared.files.Failed.{Failed}
use Rattle.fm_files.specs.declared.mem.MemFiles.{MemFiles}
use Rattle.fm_files.proofs.Looked.{OneChanged, changed, quiet}

both_true : (a b : Bool) → a && b ≡ true → (a ≡ true) × (b ≡ true)
both_true true b h = (refl, h)
both_true false b h = let k : false ≡ true = h in cc

has_room : (b : Bool) (o : Option ℕ) (n : ℕ) → HasRoom (cond b o None) n → (b ≡ true) × HasRoom o n
has_room true o n h = (refl, h)
has_room false o n h = absurd h

some_room : (o : Option ℕ) (n : ℕ) → HasRoom o n → is_some o ≡ true
some_room None n h = absurd h
some_room (Some r) n h = refl

pub quiet_read : (m : MemFiles) (entries : BTreeMap (String Global) Entry) (name : List ℕ) (e f : Entry) (result : Result ℕ Failed) → OneChanged (get_by_text m.entries) (get_by_text entries) name e f → f.read_faults ≡ counted (is_ok result) e.read_faults → f.write_faults ≡ e.write_faults → OnOk result (NoFault (seen_in m) (seen_in (changed m entries)))
quiet_read m entries name e f (Ok k) h reads writes = quiet m entries name e f h reads writes
quiet_read m entries name e f (Err x) h reads writes = search

pub quiet_write : {T : Type 0} (m : MemFiles) (entries : BTreeMap (String Global) Entry) (name : List ℕ) (e f : Entry) (result : Result T Failed) → OneChanged (get_by_text m.entries) (get_by_text entries) name e f → f.read_faults ≡ e.read_faults → f.write_faults ≡ counted (is_ok result) e.write_faults → OnOk result (NoFault (seen_in m) (seen_in (changed m entries)))
quiet_write m entries name e f (Ok k) h reads writes = quiet m entries name e f h reads writes
quiet_write m entries name e f (Err x) h reads writes = search

pub sure_read : (m : MemFiles) (entries : BTreeMap (String Global) Entry) (name : List ℕ) (e f : Entry) (fails : Bool) (result : Result ℕ Failed) → OneChanged (get_by_text m.entries) (get_by_text entries) name e f → (is_nil m.fail_reads.items ≡ true → fails ≡ false) → (IsOk result ↔ ((fails ≡ false) × (is_some (left_of e.source) ≡ true))) → f.read_faults ≡ counted (is_ok result) e.read_faults → f.write_faults ≡ e.write_faults → (seen_in m).is_sure name ≡ true → IsOk result × NoFault (seen_in m) (seen_in (changed m entries))
sure_read m entries name e f fails (Ok k) h none ok reads writes sure =
    (search, quiet m entries name e f h reads writes)
sure_read m entries name e f fails (Err x) h none ok reads writes sure =
    let (there, empty) = both_true _ _ sure in
    let k : false ≡ true = ok.1 (none empty, subst (λ (o : Option Entry). is_some (left_at o) ≡ true) h.was there) in
    absurd (cc k)

pub roomy_begin : (m : MemFiles) (entries : BTreeMap (String Global) Entry) (name : List ℕ) (e f : Entry) (fails : Bool) (result : Result Unit Failed) (n : ℕ) → OneChanged (get_by_text m.entries) (get_by_text entries) name e f → (is_nil m.fail_writes.items ≡ true → fails ≡ false) → (IsOk result ↔ ((fails ≡ false) × (is_some (free e.sink) ≡ true))) → (HasRoom (free e.sink) n → HasRoom (free f.sink) n) → f.read_faults ≡ e.read_faults → f.write_faults ≡ counted (is_ok result) e.write_faults → HasRoom ((seen_in m).room name) n → IsOk result × HasRoom ((seen_in (changed m entries)).room name) n × NoFault (seen_in m) (seen_in (changed m entries))
roomy_begin m entries name e f fails (Ok k) n h none ok room reads writes roomy =
    let (empty, old) = has_room _ _ _ roomy in
    let kept : HasRoom (free f.sink) n = room (subst (λ (o : Option Entry). HasRoom (free_at o) n) h.was old) in
    let new : HasRoom (free_at (get_by_text entries name)) n = subst (λ (o : Option Entry). HasRoom (free_at o) n) (sym h.is) kept in
    (search, subst (λ (b : Bool). HasRoom (cond b (free_at (get_by_text entries name)) None) n) (sym empty) new, quiet m entries name e f h reads writes)
roomy_begin m entries name e f fails (Err x) n h none ok room reads writes roomy =
    let (empty, old) = has_room _ _ _ roomy in
    let k : false ≡ true = ok.1 (none empty, some_room (free e.sink) n (subst (λ (o : Option Entry). HasRoom (free_at o) n) h.was old)) in
    absurd (cc k)

pub roomy_append : (m : MemFiles) (entries : BTreeMap (String Global) Entry) (name piece : List ℕ) (e f : Entry) (fails : Bool) (result : Result ℕ Failed) → OneChanged (get_by_text m.entries) (get_by_text entries) name e f → (is_nil m.fail_writes.items ≡ true → fails ≡ false) → (IsOk result ↔ ((fails ≡ false) × HasRoom (free e.sink) (length piece))) → IfOk result (λ k. k ≡ length piece) → free f.sink ≡ (if is_ok result then lowered (free e.sink) (length piece) else free e.sink) → f.read_faults ≡ e.read_faults → f.write_faults ≡ counted (is_ok result) e.write_faults → HasRoom ((seen_in m).room name) (length piece) → IfOk result (λ k. (seen_in (changed m entries)).room name ≡ lowered ((seen_in m).room name) k) × IsOk result × NoFault (seen_in m) (seen_in (changed m entries))
roomy_append m entries name piece e f fails (Ok k) h none ok all room reads writes roomy =
    let (empty, old) = has_room _ _ _ roomy in
    let now : free_at (get_by_text entries name) ≡ lowered (free_at (get_by_text m.entries name)) k =
    ap free_at h.is ∙ room ∙ ap (λ (n : ℕ). lowered (free e.sink) n) (sym all) ∙ ap (λ (o : Option Entry). lowered (free_at o) k) (sym h.was) in
    (subst (λ (b : Bool). cond b (free_at (get_by_text entries name)) None ≡ lowered (cond b (free_at (get_by_text m.entries name)) None) k) (sym empty) now, search, quiet m entries name e f h reads writes)
roomy_append m entries name piece e f fails (Err x) h none ok all room reads writes roomy =
    let (empty, old) = has_room _ _ _ roomy in
    let k : false ≡ true = ok.1 (none empty, subst (λ (o : Option Entry). HasRoom (free_at o) (length piece)) h.was old) in
    absurd (cc k)

adds_piece : (xs ys piece : List ℕ) (result : Result ℕ Failed) → ys ≡ (if is_ok result then xs ++ piece else xs) → IfOk result (λ k. k ≡ length piece) → Adds (Some xs) (Some ys) result piece
adds_piece xs ys piece (Ok k) e all = e ∙ ap (λ (p : List ℕ). xs ++ p) (sym (ap (λ (n : ℕ). take n piece) all ∙ take-length piece))
adds_piece xs ys piece (Err x) e all = ([], piece, refl, e ∙ sym (append-nil xs))

pub adds_entry : (m : MemFiles) (entries : BTreeMap (String Global) Entry) (name piece : List ℕ) (e f : Entry) (result : Result ℕ Failed) → OneChanged (get_by_text m.entries) (get_by_text entries) name e f → sunk f.sink ≡ (if is_ok result then sunk e.sink ++ piece else sunk e.sink) → IfOk result (λ k. k ≡ length piece) → Adds (Some (sunk_at (get_by_text m.entries name))) (Some (sunk_at (get_by_text entries name))) result piece
adds_entry m entries name piece e f result h sunken all =
    subst (λ (o : Option Entry). Adds (Some (sunk_at o)) (Some (sunk_at (get_by_text entries name))) result piece) (sym h.was) (subst (λ (o : Option Entry). Adds (Some (sunk e.sink)) (Some (sunk_at o)) result piece) (sym h.is) (adds_piece (sunk e.sink) (sunk f.sink) piece result sunken all))
