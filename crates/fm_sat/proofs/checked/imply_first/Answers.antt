use Rattle.fm_sat.proofs.checked.imply_first.Goals as goal

pub imply-requires : goal.imply-requires
imply-requires c = (c.trails_stay_explained.ensures.units _ _ _ _ c.in-Some.ensures.some.unit).1
