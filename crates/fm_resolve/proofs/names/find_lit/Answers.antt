use Rattle.std.proofs.Common.{sym, ◌∙◌}
use Rattle.fm_resolve.proofs.NameLaws.{name_by, numbered_by}
use Rattle.fm_resolve.proofs.names.find_lit.Goals as goal

pub returns-in-Some-clause-numbered : goal.returns-in-Some-clause-numbered
returns-in-Some-clause-numbered c = numbered_by c.args.atoms.now.keys _ c.args.lit.atom (sym c.find_atom.ensures ∙ c.in-Some.is)

pub returns-in-Some-clause-named : goal.returns-in-Some-clause-named
returns-in-Some-clause-named c = name_by c.args.atoms.now.keys _ c.args.lit.atom (sym c.find_atom.ensures ∙ c.in-Some.is)
