use Rattle.std.proofs.Common.{◌≡◌, [], length, true, None, Some, sym, subst}
use Rattle.fm_sexp.proofs.Spans.{all_lie}
use Rattle.fm_sexp.specs.Items.{all_within}
use Rattle.fm_check.specs.Scripts.{problems_of}
use Rattle.fm_check.proofs.Finding.{found_whole, rejected_so, under_way}
use Rattle.fm_check.proofs.Holding.{claims_hold}
use Rattle.fm_check.proofs.whole.check_inside.Goals as goal

pub check_blocks-requires-clause-within : goal.check_blocks-requires-clause-within
check_blocks-requires-clause-within c = subst (λ xs. all_within (length c.args.script.now) xs ≡ true) (sym c.as_slice.ensures) (all_lie c.args.script.now c.args.judged.now.items c.requires.accepted.reads)

pub check_blocks-requires-clause-reading : goal.check_blocks-requires-clause-reading
check_blocks-requires-clause-reading c = (c.args.cert.now, [], under_way c.args.cert.now c.in-Some.reader c.new-claims.result.items c.in-Some.ensures.some c.new-claims.ensures.items)

pub returns-in-Some-2-clause-verdict : goal.returns-in-Some-2-clause-verdict
returns-in-Some-2-clause-verdict c =
    let found = found_whole c.args.script.now c.args.judged.now.items c.as_slice.result.now c.args.cert.now c.in-Some.reader c.new-claims.result.items c.check_blocks.new.claims.items c.in_ok-fault.field-0 (Some c.in-Some-2.fault) c.as_slice.ensures c.new-claims.ensures.items c.requires.inside c.in-Some.ensures.some c.in-Some-2.is c.in_ok-fault.ensures in
    rejected_so (problems_of c.args.script.now c.args.judged.now.items) c.args.cert.now c.in-Some-2.fault c.rejected-in-Some-2.result c.check_blocks.new.claims.items c.rejected-in-Some-2.ensures found

pub returns-in-None-clause-verdict : goal.returns-in-None-clause-verdict
returns-in-None-clause-verdict c = found_whole c.args.script.now c.args.judged.now.items c.as_slice.result.now c.args.cert.now c.in-Some.reader c.new-claims.result.items c.check_blocks.new.claims.items c.in_ok-fault.field-0 None c.as_slice.ensures c.new-claims.ensures.items c.requires.inside c.in-Some.ensures.some c.in-None.is c.in_ok-fault.ensures

pub returns-in-None-clause-claims : goal.returns-in-None-clause-claims
returns-in-None-clause-claims c =
    let found = found_whole c.args.script.now c.args.judged.now.items c.as_slice.result.now c.args.cert.now c.in-Some.reader c.new-claims.result.items c.check_blocks.new.claims.items c.in_ok-fault.field-0 None c.as_slice.ensures c.new-claims.ensures.items c.requires.inside c.in-Some.ensures.some c.in-None.is c.in_ok-fault.ensures in
    claims_hold c.args.script.now c.args.judged.now.items c.args.cert.now found.0 c.check_blocks.new.claims.items found.1 found.2
