-- What the tests keep of a graph: it has all terms, and has read some entries of level 0.
use Rattle.std.specs.Prelude.{◌≡◌, List, length}
use Rattle.fm_bank.specs.Interning.{Held}
use Rattle.fm_cong.specs.Held.{Held as Graph}
use Rattle.fm_trail.specs.Trail.{AreLevelled, level_of}
use Rattle.fm_trail.specs.declared.entry.Entry.{Entry}
use Rattle.fm_readers.specs.Graphs.{HasRead, HasTerms}

pub record HasReadSome (held : Held) (g : Graph) : Type 0 where
  pub terms : HasTerms held (length held.terms) g
  pub entries : List Entry
  pub levelled : AreLevelled 0 entries
  pub flat : level_of entries ≡ 0
  pub read : HasRead held.atoms entries g
