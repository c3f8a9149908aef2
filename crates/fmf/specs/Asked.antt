-- The command as its names are read.
use Rattle.std.specs.Prelude.{◌≢◌}
use Rattle.fmf.specs.Words.{Command as Asked, Inquiry, Request, dash}
use Rattle.fmf.specs.declared.words.Command.{Command}
use Rattle.fmf.specs.declared.words.Inquiry.{Inquiry as TheInquiry}
use Rattle.fmf.specs.declared.words.Request.{Request as TheRequest}

abbrev pub request_in : TheRequest → Request
request_in r = record { script = r.script.now; cert = r.cert.now; budget = r.budget }

abbrev pub inquiry_in : TheInquiry → Inquiry
inquiry_in q = record { script = q.script.now; cert = q.cert.now }

abbrev pub command_in : Command → Asked
command_in (Command.Solve r) = Asked.Solve (request_in r)
command_in (Command.Check q) = Asked.Check (inquiry_in q)

-- the certificate that is written isn't the output, and the two files that are read differ
abbrev pub IsApart : Command → Type 0
IsApart (Command.Solve r) = r.cert.now ≢ dash
IsApart (Command.Check q) = q.script.now ≢ q.cert.now
