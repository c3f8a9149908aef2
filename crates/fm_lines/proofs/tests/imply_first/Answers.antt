use Rattle.fm_lines.proofs.tests.imply_first.Goals as goal

pub imply-requires : goal.imply-requires
imply-requires c = (c.trails_stay_explained.ensures.units _ _ _ _ c.in-Some.ensures.some.unit).1
