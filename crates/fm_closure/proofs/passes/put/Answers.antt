use Rattle.std.proofs.Common.{◌≡◌, ◌++◌, None, sym, ap, ◌∙◌}
use Rattle.fm_bank.specs.Terms.{is_same}
use Rattle.fm_closure.specs.Signatures.{find_in, new_entry}
use Rattle.indexmap.proofs.CallerLemmas.{insert_entry-new}
use Rattle.fm_closure.proofs.passes.put.Goals as goal

pub returns-in_ok-insert-in-None-clause-entries : goal.returns-in_ok-insert-in-None-clause-entries
returns-in_ok-insert-in-None-clause-entries c =
    let none : find_in c.args.table.now.entries c.args.key ≡ None = sym c.in-None.ensures.value in
    c.in_ok-insert-in-None.ensures.entries ∙ insert_entry-new is_same c.args.table.now c.args.key c.args.a none ∙ ap (λ o. c.args.table.now.entries ++ new_entry o c.args.key c.args.a) (sym none)
