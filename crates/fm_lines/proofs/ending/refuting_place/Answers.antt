use Rattle.std.proofs.Common.{ap, sym, ◌∙◌}
use Rattle.std.specs.Option.{option_map}
use Rattle.fm_base.specs.declared.ids.AtomId.{AtomId}
use Rattle.fm_lines.proofs.Shown.{refuting_at, refuting_there}
use Rattle.fm_lines.proofs.ending.refuting_place.Goals as goal

pub unreachable-requires : goal.unreachable-requires
unreachable-requires c =
    let found = sym c.find_atom.ensures ∙ ap (option_map (λ (a : AtomId). a.0)) c.in-Some.is in
    refuting_there c.args.bank.now.atoms c.args.trail.now.entries c.args.bound c.in-Some.atom found (sym c.place.ensures ∙ c.in-None-place.is) c.requires

pub returns : goal.returns
returns c =
    let found = sym c.find_atom.ensures ∙ ap (option_map (λ (a : AtomId). a.0)) c.in-Some.is in
    refuting_at c.args.bank.now.atoms c.args.trail.now.entries c.args.bound c.in-Some-place.place c.in-Some.atom c.entries_are_levelled.ensures.once found (sym c.place.ensures ∙ c.in-Some-place.is) c.requires
