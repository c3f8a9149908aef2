-- A state with the graphs of its two readers of equalities: each has all registered terms, and has read what its reader has.
use Rattle.std.specs.Prelude.{length}
use Rattle.fm_base.specs.declared.ids.Reader.{Reader}
use Rattle.fm_cong.specs.Held.{Held as Graph}
use Rattle.fm_readers.specs.Graphs.{HasTerms, IsGraphOf}
use Rattle.fm_steps.specs.Runs.{IsStart}
use Rattle.fm_steps.specs.State.{Problem, State, read_by}
use Rattle.fm_machine.specs.declared.held.Search.{Search}

pub record AreTied (s : State) (g h : Graph) : Type 0 where
  pub congruence : IsGraphOf s.held (read_by Reader.Congruence s) g
  pub regions : IsGraphOf s.held (read_by Reader.Regions s) h

abbrev pub IsTied : Search → Type 0
IsTied s = AreTied s.state s.congruence s.regions

-- the start of a search, whose readers have read nothing
pub record IsStarted (p : Problem) (s : Search) : Type 0 where
  pub start : IsStart p s.state
  pub tied : IsTied s

-- both graphs have all registered terms
pub record HasBothTerms (s : Search) : Type 0 where
  pub congruent : HasTerms s.state.held (length s.state.held.terms) s.congruence
  pub sized : HasTerms s.state.held (length s.state.held.terms) s.regions
