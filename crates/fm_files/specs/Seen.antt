-- What a state of files tells of each name, and what a call may change of it. A name is the list of its bytes.
use Rattle.std.specs.Prelude.{◌≡◌, ◌≢◌, ℕ, ◌+◌, ◌-◌, ◌<◌, ◌≤◌, ◌^◌, ◌⊎◌, ◌||◌, Bool, true, List, [], ◌++◌, length, take, Option, Some, None, Result, MatchResult, IfOk, IsOk, OnErr, ⊤}
use Rattle.std.specs.Option.{option_map}
use Rattle.std.specs.Io.KnownBytes.{Consumes, IsAtEnd, ReadConsumes}

-- left: the bytes left to read, where they are known; written: the bytes written, where they are known;
-- read_faults and write_faults: two counts; is_sure: whether its reading is sure; room: its sure room
pub record Seen : Type 0 where
  pub left : List ℕ → Option (List ℕ)
  pub written : List ℕ → Option (List ℕ)
  pub read_faults : List ℕ → ℕ
  pub write_faults : List ℕ → ℕ
  pub is_sure : List ℕ → Bool
  pub room : List ℕ → Option ℕ

abbrev pub SameByName : {V : Type 0} → (List ℕ → V) → (List ℕ → V) → Type 0
SameByName old new = (name : List ℕ) → new name ≡ old name

abbrev pub SameButAt : {V : Type 0} → (List ℕ → V) → (List ℕ → V) → List ℕ → Type 0
SameButAt old new at = (name : List ℕ) → name ≢ at → new name ≡ old name

-- no count fell
abbrev pub Later : (List ℕ → ℕ) → (List ℕ → ℕ) → Type 0
Later old new = (name : List ℕ) → old name ≤ new name

-- of two names of which one is known, a count at the one leaves that of the other; unknown names have one count together
abbrev pub CountsAlone : (List ℕ → Bool) → (List ℕ → ℕ) → (List ℕ → ℕ) → List ℕ → Type 0
CountsAlone known old new at = (name : List ℕ) → name ≢ at → (known name || known at) ≡ true → new name ≡ old name

-- a count rose, or stands at its last value
abbrev pub Rose : ℕ → ℕ → Type 0
Rose old new = (old < new) ⊎ (2 ^ 64 ≤ new + 1)

-- no count changed
pub record NoFault (old new : Seen) : Type 0 where
  pub reads : SameByName old.read_faults new.read_faults
  pub writes : SameByName old.write_faults new.write_faults

-- a call that reads the name and nothing else
pub record OnlyReads (old new : Seen) (name : List ℕ) : Type 0 where
  pub others : SameButAt old.left new.left name
  pub written : SameByName old.written new.written
  pub rooms : SameByName old.room new.room
  pub sure : SameByName old.is_sure new.is_sure
  pub reads_later : Later old.read_faults new.read_faults
  pub writes_later : Later old.write_faults new.write_faults

-- a call that writes and doesn't read
pub record OnlyWrites (old new : Seen) : Type 0 where
  pub left : SameByName old.left new.left
  pub sure : SameByName old.is_sure new.is_sure
  pub reads_later : Later old.read_faults new.read_faults
  pub writes_later : Later old.write_faults new.write_faults

-- a call that writes at most this one name
pub record WritesAt (old new : Seen) (name : List ℕ) : Type 0 where
  pub only : OnlyWrites old new
  pub others : SameButAt old.written new.written name
  pub other_rooms : SameButAt old.room new.room name

-- a front of what was left was taken, of this many bytes at most
abbrev pub Takes : Option (List ℕ) → Option (List ℕ) → ℕ → Type 0
Takes old new most = (bytes : List ℕ) × (length bytes ≤ most) × Consumes old new bytes

-- the bytes are these, where they are known; bytes that were known still are
abbrev pub Holds : Option (List ℕ) → Option (List ℕ) → List ℕ → Type 0
Holds None None bs = ⊤
Holds (Some xs) None bs = ⊥
Holds None (Some ys) bs = ys ≡ bs
Holds (Some xs) (Some ys) bs = ys ≡ bs

-- known bytes grow by bs, and unknown ones stay unknown
abbrev pub Extends : Option (List ℕ) → Option (List ℕ) → List ℕ → Type 0
Extends None None bs = ⊤
Extends None (Some ys) bs = ⊥
Extends (Some xs) None bs = ⊥
Extends (Some xs) (Some ys) bs = ys ≡ xs ++ bs

-- known bytes grow by a front of bs
abbrev pub ExtendsPart : Option (List ℕ) → Option (List ℕ) → List ℕ → Type 0
ExtendsPart old new bs = (front : List ℕ) × (back : List ℕ) × (bs ≡ front ++ back) × Extends old new front

-- there is a sure room of at least n bytes
abbrev pub HasRoom : Option ℕ → ℕ → Type 0
HasRoom None n = ⊥
HasRoom (Some r) n = n ≤ r

-- what is left of a sure room after k bytes
abbrev pub lowered : Option ℕ → ℕ → Option ℕ
lowered room k = option_map (λ r. r - k) room

-- what `begin` does to the bytes written: none stand after Ok; after a fault they are as before, or none stand
abbrev pub Begins : {E : Type 0} → Option (List ℕ) → Option (List ℕ) → Result Unit E → Type 0
Begins old new r = MatchResult r (λ _. Holds old new []) (λ _. (new ≡ old) ⊎ Holds old new [])

-- what `append` does to the bytes written: a front of the piece of the answered length is added after Ok, some
-- front after a fault
abbrev pub Adds : {E : Type 0} → Option (List ℕ) → Option (List ℕ) → Result ℕ E → List ℕ → Type 0
Adds old new r piece = MatchResult r (λ k. Extends old new (take k piece)) (λ _. ExtendsPart old new piece)

-- an answer of a fault has its cause: the count rose
abbrev pub HasCause : {T E : Type 0} → ℕ → ℕ → Result T E → Type 0
HasCause old new r = OnErr r (Rose old new)

-- a read took the bytes that it gave from what was left of the name
abbrev pub ReadsInto : {E : Type 0} → Seen → Seen → List ℕ → Result ℕ E → List ℕ → Type 0
ReadsInto old new name r into = ReadConsumes (old.left name) (new.left name) r into

-- completeness of a read, of `begin`, of `append` and of writing all: what is sure to be read is, and what has sure room
-- is written, and no count rises
abbrev pub ReadsSurely : {T E : Type 0} → Seen → Seen → List ℕ → Result T E → Type 0
ReadsSurely old new name r = old.is_sure name ≡ true → IsOk r × NoFault old new

abbrev pub BeginsSurely : {E : Type 0} → Seen → Seen → List ℕ → Result Unit E → Type 0
BeginsSurely old new name r = (n : ℕ) → HasRoom (old.room name) n → IsOk r × HasRoom (new.room name) n × NoFault old new

abbrev pub AddsSurely : {E : Type 0} → Seen → Seen → List ℕ → Result ℕ E → List ℕ → Type 0
AddsSurely old new name r piece = HasRoom (old.room name) (length piece) → IfOk r (λ k. new.room name ≡ lowered (old.room name) k) × IsOk r × NoFault old new

abbrev pub WritesSurely : {E : Type 0} → Seen → Seen → List ℕ → Result Unit E → List ℕ → Type 0
WritesSurely old new name r bytes = HasRoom (old.room name) (length bytes) → (new.room name ≡ lowered (old.room name) (length bytes)) × IsOk r × NoFault old new

-- these bytes are all that was left of the name
abbrev pub ReadsAll : Seen → Seen → List ℕ → List ℕ → Type 0
ReadsAll old new name bytes = Consumes (old.left name) (new.left name) bytes × IsAtEnd (new.left name)

-- the same, of the bytes of a name in two states
abbrev pub TakesOf : Seen → Seen → List ℕ → ℕ → Type 0
TakesOf old new name most = Takes (old.left name) (new.left name) most

abbrev pub TakesExactly : Seen → Seen → List ℕ → ℕ → Type 0
TakesExactly old new name count = (bytes : List ℕ) × (length bytes ≡ count) × Consumes (old.left name) (new.left name) bytes

abbrev pub ExtendsOf : Seen → Seen → List ℕ → List ℕ → Type 0
ExtendsOf old new name bs = Extends (old.written name) (new.written name) bs

abbrev pub ExtendsPartOf : Seen → Seen → List ℕ → List ℕ → Type 0
ExtendsPartOf old new name bs = ExtendsPart (old.written name) (new.written name) bs

-- the count of reads, or of writes, of the name rose
abbrev pub ReadsRose : Seen → Seen → List ℕ → Type 0
ReadsRose old new name = Rose (old.read_faults name) (new.read_faults name)

abbrev pub HasWriteCause : {T E : Type 0} → Seen → Seen → List ℕ → Result T E → Type 0
HasWriteCause old new name r = HasCause (old.write_faults name) (new.write_faults name) r

-- no call of any name failed yet
abbrev pub HasNoCounts : Seen → Type 0
HasNoCounts s = (name : List ℕ) → (s.read_faults name ≡ 0) × (s.write_faults name ≡ 0)
