use Rattle.fm_terms.proofs.shown.add_number.Given as goal

abbrev pub decreases-loop-unit : goal.decreases-loop-unit
decreases-loop-unit l = l.unit
