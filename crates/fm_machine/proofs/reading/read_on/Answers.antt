use Rattle.fm_machine.proofs.Tying.{congruence_reads, regions_read}
use Rattle.fm_machine.proofs.reading.read_on.Goals as goal

pub returns-in_ok-read-in-Congruence-clause-tied : goal.returns-in_ok-read-in-Congruence-clause-tied
returns-in_ok-read-in-Congruence-clause-tied c =
    let r = c.in_ok-read-in-Congruence.ensures in
    congruence_reads c.args.search.now.state c.read_next.new.self c.args.reader c.bank.result.now c.in-Some.entry c.args.search.now.congruence c.read.new.graph c.args.search.now.regions
    c.in-Congruence.is c.in-Some.ensures.read c.bank.ensures c.requires.tied c.requires.explained.levels c.in-Some.ensures.entry r.terms r.read

pub returns-in_ok-read-in-Regions-clause-tied : goal.returns-in_ok-read-in-Regions-clause-tied
returns-in_ok-read-in-Regions-clause-tied c =
    let r = c.in_ok-read-in-Regions.ensures in
    regions_read c.args.search.now.state c.read_next.new.self c.args.reader c.bank-in-Regions.result.now c.in-Some.entry c.args.search.now.congruence c.args.search.now.regions c.read-in-Regions.new.graph
    c.in-Regions.is c.in-Some.ensures.read c.bank-in-Regions.ensures c.requires.tied c.requires.explained.levels c.in-Some.ensures.entry r.terms r.read
