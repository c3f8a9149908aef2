-- What reading a whole file promises of a name that is sure to be read.
use Rattle.std.specs.Prelude.{◌≡◌, ◌≢◌, ℕ, true, List, Result, Err}
use Rattle.fm_files.specs.Seen.{NoFault, Seen}
use Rattle.fm_files.specs.declared.whole.ReadError.{ReadError}

-- no fault is answered then, and no count rises
abbrev pub IsReadSurely : {T : Type 0} → Seen → Seen → List ℕ → Result T ReadError → Type 0
IsReadSurely old new name r = old.is_sure name ≡ true → (r ≢ Err ReadError.Fault) × NoFault old new
