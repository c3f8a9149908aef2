-- Where nothing is registered, read or joined.
use Rattle.std.proofs.Common.{◌≡◌, ℕ, [], None, refl, arith}
use Rattle.std.proofs.lemmas.List.Elements.{All-nil}
use Rattle.fm_cells.specs.Forest.{HasEnd, link_of}
use Rattle.fm_cells.specs.Rings.{own_or}
use Rattle.fm_cells.proofs.Pushing.{no_rings}
use Rattle.fm_cells.proofs.Ways.{none_some}
use Rattle.fm_cong.specs.Graphs.{Cells}
use Rattle.fm_cong.specs.Levels.{IsSteady}
use Rattle.fm_cong.specs.Tables.{AreCongruent, IsEntered, IsKnown, IsStored, find_in}

abbrev pub no_cells : Cells
no_cells = record { class = []; next = []; size = []; links = []; entries = []; facts = []; entered = 0; time = 0 }

no_end : (x : ℕ) → HasEnd (link_of []) x
no_end x = record { nodes = []; end = x; way = (refl, refl) }

pub steady_none : IsSteady [] no_cells
steady_none = record {
  working = record {
    nexts = refl;
    sizes = refl;
    linked = refl;
    known = All-nil (IsKnown 0);
    below = λ x lt. absurd (omega (arith, lt));
    rings = no_rings;
    sound = λ x R r. r.reflexive x;
    forest = record {
      trees = record { ended = no_end; within = λ e l h. absurd (none_some None l refl h); one_end = λ x y p q e. e };
      justified = λ e l h. absurd (none_some None l refl h);
      past = λ e l h. absurd (none_some None l refl h);
    };
    within = λ e l h. absurd (none_some None l refl h);
    entering = record { roots = λ x. refl; stored = All-nil (IsStored [] (own_or [])); waits = All-nil (AreCongruent [] (own_or [])) };
    table = All-nil (IsEntered (own_or []) (find_in []) []);
  };
  holds = All-nil (λ (p : ℕ × ℕ). own_or [] p.0 ≡ own_or [] p.1);
}
