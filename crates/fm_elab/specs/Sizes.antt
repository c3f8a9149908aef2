-- Which assertions are too large: those of which a normal form has more than 1,000,000 nodes, be it that of the lifted
-- formula or of one of its definitions.
use Rattle.std.specs.Prelude.{Bool, nat_lt, ◌∷◌, length}
use Rattle.std.specs.List.{list_any}
use Rattle.fm_base.specs.declared.formula.Formula.{Formula}
use Rattle.fm_base.specs.declared.signature.Sig.{Sig}
use Rattle.fm_nnf.specs.Lifting.{Lifted, lifted}
use Rattle.fm_nnf.specs.NormalForm.{normal}
use Rattle.fm_nnf.specs.NormalSize.{nodes}

-- the normal form has too many nodes
abbrev pub is_large_form : Formula → Bool
is_large_form f = nat_lt 1000000 (nodes (normal f 0).0)

abbrev pub has_large_form : Lifted Formula → Bool
has_large_form l = list_any is_large_form (l.made ∷ l.definitions)

-- an assertion, where its new symbols are numbered on from those of the signature
abbrev pub is_large : Sig → Formula → Bool
is_large sig f = has_large_form (lifted sig f (length sig.ranks))
