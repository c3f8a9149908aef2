-- What files in memory tell of each name when they are made.
use Rattle.std.specs.Prelude.{◌≡◌, ℕ, Bool, ◌&&◌, ◌||◌, if◌then◌else◌, cond, List, [], ◌∷◌, Option, Some, None, is_some, String, Vec, string_bytes}
use Rattle.std.specs.List.{list_any}
use Rattle.std.specs.Str.{bytes_eq}
use Rattle.std.specs.declared.alloc.Global.{Global}
pub use Rattle.fm_base.specs.Interpretations.{is_nil}
use Rattle.fm_files.specs.Seen.{Seen}

-- the bytes of the first entry with the name
abbrev pub content_of : List (String Global × Vec ℕ Global) → List ℕ → Option (List ℕ)
content_of [] name = None
content_of (f ∷ fs) name = cond (bytes_eq name (string_bytes f.0)) (Some f.1.items) (content_of fs name)

abbrev pub is_named : List (String Global) → List ℕ → Bool
is_named outs name = list_any (λ (o : String Global). bytes_eq name (string_bytes o)) outs

-- whether a name may be read or written
abbrev pub is_listed : List (String Global × Vec ℕ Global) → List (String Global) → List ℕ → Bool
is_listed files outs name = is_some (content_of files name) || is_named outs name

-- the room of a name at the start
abbrev pub room_given : List (String Global) → ℕ → List ℕ → Option ℕ
room_given outs room name = if is_named outs name then Some room else None

-- the files are there to be read whole, nothing is written, no call failed; a name of `files` has sure reading
-- where no read is listed to fail, and a name of `outs` its room as sure room where no write is
pub record IsNew (files : List (String Global × Vec ℕ Global)) (outs : List (String Global)) (room : ℕ) (fail_reads fail_writes : List ℕ) (seen : Seen) : Type 0 where
  pub left : (name : List ℕ) → seen.left name ≡ content_of files name
  pub written : (name : List ℕ) → seen.written name ≡ Some []
  pub reads : (name : List ℕ) → seen.read_faults name ≡ 0
  pub writes : (name : List ℕ) → seen.write_faults name ≡ 0
  pub sure : (name : List ℕ) → seen.is_sure name ≡ (is_some (content_of files name) && is_nil fail_reads)
  pub sure_room : (name : List ℕ) → seen.room name ≡ cond (is_named outs name && is_nil fail_writes) (Some room) None
