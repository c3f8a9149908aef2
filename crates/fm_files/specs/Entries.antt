-- What files in memory tell of each name, from what they keep of it.
use Rattle.std.specs.Prelude.{◌≡◌, ℕ, ◌+◌, ◌-◌, ◌^◌, ◌++◌, ◌==◌, min, Bool, true, false, ◌&&◌, ◌||◌, if◌then◌else◌, cond, List, [], drop, length, IfOk, IfSome, OnErr, Result, Option, Some, None, is_some, vec_len}
use Rattle.std.specs.List.{list_any}
use Rattle.std.specs.BTreeMap.{get_by_text}
use Rattle.fm_files.specs.Memory.{is_nil}
use Rattle.std.specs.Str.{bytes_eq}
use Rattle.fm_files.specs.Seen.{CountsAlone, HasCause, HasRoom, Seen, lowered}
use Rattle.fm_files.specs.declared.entry.Source.{Source}
use Rattle.fm_files.specs.declared.entry.Sink.{Sink}
use Rattle.fm_files.specs.declared.entry.Entry.{Entry}
use Rattle.fm_files.specs.declared.mem.MemFiles.{MemFiles}

-- the entry of each name
abbrev pub Entries : Type 0
Entries = List ℕ → Option Entry

-- the bytes of a source past its place
abbrev pub left_of : Option Source → Option (List ℕ)
left_of None = None
left_of (Some s) = Some (drop s.place s.bytes.items)

abbrev pub sunk : Option Sink → List ℕ
sunk None = []
sunk (Some s) = s.bytes.items

-- what is left of the room of a sink
abbrev pub free : Option Sink → Option ℕ
free None = None
free (Some s) = Some (s.room - vec_len s.bytes)

abbrev pub left_at : Option Entry → Option (List ℕ)
left_at None = None
left_at (Some e) = left_of e.source

abbrev pub sunk_at : Option Entry → List ℕ
sunk_at None = []
sunk_at (Some e) = sunk e.sink

abbrev pub free_at : Option Entry → Option ℕ
free_at None = None
free_at (Some e) = free e.sink

-- a name without an entry has the counts of all other names
abbrev pub reads_at : ℕ → Option Entry → ℕ
reads_at others None = others
reads_at others (Some e) = e.read_faults

abbrev pub writes_at : ℕ → Option Entry → ℕ
writes_at others None = others
writes_at others (Some e) = e.write_faults

abbrev pub seen_in : MemFiles → Seen
seen_in m =
    record {
      left = λ name. left_at (get_by_text m.entries name);
      written = λ name. Some (sunk_at (get_by_text m.entries name));
      read_faults = λ name. reads_at m.other_read_faults (get_by_text m.entries name);
      write_faults = λ name. writes_at m.other_write_faults (get_by_text m.entries name);
      is_sure = λ name. is_some (left_at (get_by_text m.entries name)) && is_nil m.fail_reads.items;
      room = λ name. cond (is_nil m.fail_writes.items) (free_at (get_by_text m.entries name)) None;
    }

-- an entry as it is made of the content of a file, or the want of one where there is no content
pub record IsFresh (e : Option Entry) (content : Option (List ℕ)) : Type 0 where
  pub there : is_some e ≡ is_some content
  pub left : left_at e ≡ content
  pub sunken : sunk_at e ≡ []
  pub roomless : free_at e ≡ None
  pub reads : reads_at 0 e ≡ 0
  pub writes : writes_at 0 e ≡ 0

-- the named entry becomes a fresh one, unless it was there
abbrev pub GainsSource : Option Entry → Option Entry → Bool → List ℕ → Type 0
GainsSource (Some e) new named bytes = new ≡ Some e
GainsSource None new false bytes = new ≡ None
GainsSource None new true bytes = IsFresh new (Some bytes)

-- the named entry is there and has this room from now on
pub record GainsSink (old new : Option Entry) (named : Bool) (room : ℕ) : Type 0 where
  pub there : is_some new ≡ (is_some old || named)
  pub left : left_at new ≡ left_at old
  pub sunken : sunk_at old ≡ [] → sunk_at new ≡ []
  pub roomy : free_at new ≡ cond named (Some room) (free_at old)
  pub reads : reads_at 0 new ≡ reads_at 0 old
  pub writes : writes_at 0 new ≡ writes_at 0 old

-- the calls so far, and the numbers of those that fail
pub record Calls : Type 0 where
  pub reads : ℕ
  pub writes : ℕ
  pub fail_reads : List ℕ
  pub fail_writes : List ℕ

-- no call yet
abbrev pub no_calls : List ℕ → List ℕ → Calls
no_calls fail_reads fail_writes = record { reads = 0; writes = 0; fail_reads = fail_reads; fail_writes = fail_writes }

abbrev pub calls_of : MemFiles → Calls
calls_of m = record { reads = m.reads; writes = m.writes; fail_reads = m.fail_reads.items; fail_writes = m.fail_writes.items }

-- one more; the last number is kept
abbrev pub next : ℕ → ℕ
next n = min (n + 1) (2 ^ 64 - 1)

-- a count after a call that succeeded or failed
abbrev pub counted : Bool → ℕ → ℕ
counted succeeded n = if succeeded then n else next n

-- known bytes go in as far as there are some and they fit
abbrev pub FillsFrom : {E : Type 0} → Option (List ℕ) → Result ℕ E → List ℕ → Type 0
FillsFrom left r into = IfSome left (λ xs. IfOk r (λ k. k ≡ min (length xs) (length into)))

abbrev pub after_read : Calls → Calls
after_read c = record { reads = next c.reads; writes = c.writes; fail_reads = c.fail_reads; fail_writes = c.fail_writes }

abbrev pub after_write : Calls → Calls
after_write c = record { reads = c.reads; writes = next c.writes; fail_reads = c.fail_reads; fail_writes = c.fail_writes }

-- whether the next call is listed to fail
abbrev pub fails_read : MemFiles → Bool
fails_read m = list_any (λ n. n == next m.reads) m.fail_reads.items

abbrev pub fails_write : MemFiles → Bool
fails_write m = list_any (λ n. n == next m.writes) m.fail_writes.items

-- whether the name may be read or written
abbrev pub is_known : MemFiles → List ℕ → Bool
is_known m name = is_some (get_by_text m.entries name)

-- what is left of the room of a name, listed calls or not
abbrev pub room_in : MemFiles → List ℕ → Option ℕ
room_in m name = free_at (get_by_text m.entries name)

-- at a fault the count of the name is the next one
abbrev pub IsReadCounted : {T E : Type 0} → MemFiles → MemFiles → List ℕ → Result T E → Type 0
IsReadCounted old new name r = OnErr r ((seen_in new).read_faults name ≡ next ((seen_in old).read_faults name))

abbrev pub IsWriteCounted : {T E : Type 0} → MemFiles → MemFiles → List ℕ → Result T E → Type 0
IsWriteCounted old new name r = OnErr r ((seen_in new).write_faults name ≡ next ((seen_in old).write_faults name))

-- counts at other names stay, where this name or the other is known
abbrev pub ReadsAlone : MemFiles → MemFiles → List ℕ → Type 0
ReadsAlone old new name = CountsAlone (is_known old) (seen_in old).read_faults (seen_in new).read_faults name

abbrev pub WritesAlone : MemFiles → MemFiles → List ℕ → Type 0
WritesAlone old new name = CountsAlone (is_known old) (seen_in old).write_faults (seen_in new).write_faults name

-- the cause of a fault, at the name
abbrev pub IsReadCaused : {T E : Type 0} → MemFiles → MemFiles → List ℕ → Result T E → Type 0
IsReadCaused old new name r = HasCause ((seen_in old).read_faults name) ((seen_in new).read_faults name) r

abbrev pub IsWriteCaused : {T E : Type 0} → MemFiles → MemFiles → List ℕ → Result T E → Type 0
IsWriteCaused old new name r = HasCause ((seen_in old).write_faults name) ((seen_in new).write_faults name) r

-- when a call succeeds: it isn't listed to fail, and the name may be read, or has room
abbrev pub MayRead : MemFiles → List ℕ → Type 0
MayRead m name = (fails_read m ≡ false) × (is_some ((seen_in m).left name) ≡ true)

abbrev pub MayAdd : MemFiles → List ℕ → ℕ → Type 0
MayAdd m name count = (fails_write m ≡ false) × HasRoom (room_in m name) count

-- what a piece that is added, or isn't, leaves of the bytes and of the room
abbrev pub added_if : Bool → List ℕ → List ℕ → List ℕ
added_if fits bytes piece = if fits then bytes ++ piece else bytes

abbrev pub lowered_if : Bool → Option ℕ → List ℕ → Option ℕ
lowered_if fits room piece = if fits then lowered room (length piece) else room

-- each name's entry gains a source, where it is this one, or a sink, where it is one of those
abbrev pub EachGainsSource : Entries → Entries → List ℕ → List ℕ → Type 0
EachGainsSource old new name bytes = (q : List ℕ) → GainsSource (old q) (new q) (bytes_eq q name) bytes

abbrev pub EachGainsSink : Entries → Entries → (List ℕ → Bool) → ℕ → Type 0
EachGainsSink old new named room = (q : List ℕ) → GainsSink (old q) (new q) (named q) room

abbrev pub OneGainsSink : Entries → Entries → List ℕ → ℕ → Type 0
OneGainsSink old new name room = EachGainsSink old new (λ q. bytes_eq q name) room
