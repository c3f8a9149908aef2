use Rattle.fm_bank.proofs.Walks.{numbers_added}
use Rattle.fm_bank.proofs.subterms.add.Goals as goal

pub returns : goal.returns
returns c = numbers_added c.args.found.now.keys c.insert.new.self.keys c.args.term c.in_ok-insert.ensures.keys
