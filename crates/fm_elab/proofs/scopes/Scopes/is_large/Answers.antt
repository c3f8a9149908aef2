use Rattle.std.proofs.Common.{List, ap, length, sym, ◌∙◌, ℕ}
use Rattle.std.proofs.lemmas.List.{length-map}
use Rattle.fm_base.specs.declared.signature.Rank.{Rank}
use Rattle.fm_levels.specs.Levels.{joined}
use Rattle.fm_elab.specs.Held.{Held, state_of}
use Rattle.fm_elab.specs.Stacks.{signature}
use Rattle.fm_elab.proofs.scopes.Scopes.is_large.Goals as goal

pub returns-in-Some : goal.returns-in-Some
returns-in-Some c =
    let symbols : List (List ℕ × Rank) = joined c.args.self.now.symbols in
    c.is_large.ensures (signature (state_of c.args.self.now)) (length-map symbols (λ (e : List ℕ × Rank). e.1) ∙ ap (λ (h : Held). length (joined h.symbols)) (sym c.self.view_is) ∙ sym c.in-Some.ensures.some)
