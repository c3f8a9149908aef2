use Rattle.std.proofs.Common.{◌≡◌}
use Rattle.fm_elab.specs.Held.{state_of}
use Rattle.fm_check.proofs.Finding.{check_now, exit_now, other_now, refused_free}
use Rattle.fm_check.proofs.progress.check_item.Goals as goal

pub unreachable-requires : goal.unreachable-requires
unreachable-requires c = refused_free c.args.text.now (state_of c.args.scopes.now) (state_of c.carry_out.new.scopes) c.args.item.now c.in-Err-Refused.field-0 c.in-Err-Refused.field-0-0 c.in-Err-Refused.field-0-is c.in-Err-Refused.ensures c.requires.free

pub returns-in-Ok-Other : goal.returns-in-Ok-Other
returns-in-Ok-Other c = other_now c.args.text.now (state_of c.args.scopes.now) (state_of c.carry_out.new.scopes) c.args.item.now c.args.reader.now c.args.claims.now.items c.in-Ok-Other.field-0 c.in-Ok-Other.field-0-is c.requires.sorted c.requires.reading c.in-Ok-Other.ensures

pub returns-in_ok-found-in-Ok-Exit : goal.returns-in_ok-found-in-Ok-Exit
returns-in_ok-found-in-Ok-Exit c = exit_now c.args.text.now (state_of c.args.scopes.now) (state_of c.carry_out.new.scopes) c.args.item.now c.args.reader.now c.args.claims.now.items c.in-Ok-Exit.field-0 c.in_ok-found-in-Ok-Exit.found c.in-Ok-Exit.field-0-is c.in-Ok-Exit.ensures c.in_ok-found-in-Ok-Exit.ensures.good c.in_ok-found-in-Ok-Exit.ensures.bad

pub returns-in_ok-next-in-Ok-Check : goal.returns-in_ok-next-in-Ok-Check
returns-in_ok-next-in-Ok-Check c = check_now c.args.text.now (state_of c.args.scopes.now) (state_of c.carry_out.new.scopes) c.args.item.now c.args.reader.now c.check_one.new.reader c.args.claims.now.items c.check_one.new.claims.items c.in-Ok-Check.field-0 c.in_ok-next-in-Ok-Check.next c.in-Ok-Check.field-0-is c.requires.sorted c.requires.reading c.in-Ok-Check.ensures c.in_ok-next-in-Ok-Check.ensures
