use denote.Hole.Carrier.{roll}
use Rattle.fm_sexp.specs.declared.items.Sexp.TheViews.{roll-Sexp}
use Rattle.fm_sexp.specs.Building.{before_all}
use Rattle.fm_sexp.proofs.Trees.{worded, flat_word}
use Rattle.fm_sexp.proofs.building.Builder.word.Goals as goal

pub returns-clause-so_far : goal.returns-clause-so_far
unfolding roll-Sexp roll
returns-clause-so_far c = worded (before_all c.args.self.now.frames.items) c.args.self.now.current.items c.push.new.self.items _ _ c.in_ok-push.ensures.items (flat_word c.args.kind c.args.start c.args.end c.args.at)
