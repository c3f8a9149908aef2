use Rattle.fm_cert.specs.Spelling.{header}
use Rattle.fmf.proofs.Opening.{not_begun}
use Rattle.fmf.proofs.answers.open.Goals as goal

pub returns-in-Err-clause-part : goal.returns-in-Err-clause-part
returns-in-Err-clause-part g c = not_begun c.args.cert.now (g.F.Files.seen c.args.files.now) (g.F.Files.seen c.begin.new.self) header c.requires c.in-Err.ensures.begins c.in-Err.ensures.leaves
