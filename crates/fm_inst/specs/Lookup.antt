-- What a search in the tables needs of an interpretation.
use Rattle.std.specs.Prelude.{Bool}
use Rattle.std.specs.List.{list_all}
use Rattle.fm_base.specs.Interpretations.{ascends}
use Rattle.fm_base.specs.declared.interp.Table.{Table}
use Rattle.fm_base.specs.declared.interp.Interp.{Interp}

-- the exceptions of each table ascend
abbrev pub tables_ascend : Interp → Bool
tables_ascend i = list_all (λ (t : Table). ascends t.except) i.tables
