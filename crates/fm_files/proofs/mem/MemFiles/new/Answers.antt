use Rattle.std.proofs.Common.{ap, ◌∙◌, Bool, ◌||◌}
use Rattle.fm_files.specs.Memory.{is_named}
use Rattle.fm_files.proofs.mem.MemFiles.new.Goals as goal

pub returns-clause-known : goal.returns-clause-known
returns-clause-known c = λ name.
    (c.in_ok-add_sinks.ensures name).there ∙ ap (λ (b : Bool). b || is_named c.args.outs.items name) (c.in_ok-entries.ensures name).there
