-- Completeness, from what a run leaves behind.
use Rattle.std.proofs.Common.{◌≡◌, ◌≢◌, ℕ, inl, inr, List, [], ◌++◌, length, Option, true, refl, sym, subst, ◌∙◌}
use Rattle.std.proofs.lemmas.List.{append-nil}
use Rattle.std.specs.Io.KnownBytes.{Consumes}
use Rattle.fm_base.specs.declared.refusal.Reason.{Reason}
use Rattle.fm_base.specs.declared.refusal.Refusal.{Refusal}
use Rattle.fm_files.specs.Seen.{Seen, SameByName, NoFault, HasRoom}
use Rattle.fm_cert.specs.Spelling.{header}
use Rattle.fm_session.specs.declared.budget.Budget.{Budget}
use Rattle.fm_session.specs.Replies.{start, refusal_reply}
use Rattle.fmf.specs.Answers.{Script, certificate}
use Rattle.fmf.specs.Filing.{HasBoth}
use Rattle.fmf.specs.Headline.{CompleteItems, CompleteReply, CompleteText, Completes}
use Rattle.fmf.specs.Solved.{Answered, Refused, Wrote, Solved, at_start}
use Rattle.fmf.specs.Words.{Request, dash}
use Rattle.fmf.specs.declared.status.Status.{Status}
use Rattle.fmf.proofs.Filings.{NoFault-then, HasRoom-same}
use Rattle.fmf.proofs.Reaching.{certificate_none}

-- the second state has the room of the first, and no count rose between them
pub record Same (old mid : Seen) : Type 0 where
  pub rooms : SameByName old.room mid.room
  pub quiet : NoFault old mid

both : (cert : List ℕ) (old mid : Seen) (file out file' out' : List ℕ) → Same old mid → file' ≡ file → out' ≡ out → HasBoth cert old file' out' → HasBoth cert mid file out
both cert old mid file out file' out' same ef eo room = (
  HasRoom-same (old.room dash) (mid.room dash) (length out) (same.rooms dash) (subst (λ (bs : List ℕ). HasRoom (old.room dash) (length bs)) eo room.0),
  HasRoom-same (old.room cert) (mid.room cert) (length file) (same.rooms cert) (subst (λ (bs : List ℕ). HasRoom (old.room cert) (length bs)) ef room.1),
)

pub items_complete : (script : Script) (cert : List ℕ) (old mid new : Seen) (status : Status) → Same old mid → Answered script cert mid new status → CompleteItems script cert old new status
items_complete script cert old mid new Status.Done same (w, over, filed) = record {
  work = w;
  block = [];
  reply = [];
  next = inr (refl, refl);
  calm = λ room. (λ e. cc e, NoFault-then old mid new same.quiet (filed.quiet (both cert old mid (certificate w) w.replies _ _ same (append-nil (certificate w)) (append-nil w.replies) room)));
}
items_complete script cert old mid new Status.Memory same (w, filed) = record {
  work = w;
  block = [];
  reply = [];
  next = inr (refl, refl);
  calm = λ room. (λ e. cc e, NoFault-then old mid new same.quiet (filed.quiet (both cert old mid (certificate w) w.replies _ _ same (append-nil (certificate w)) (append-nil w.replies) room)));
}
items_complete script cert old mid new Status.Script same (w, r, refused, filed) = record {
  work = w;
  block = [];
  reply = refusal_reply r;
  next = inl (inr (refl, (r, refused, refl)));
  calm = λ room. (λ e. cc e, NoFault-then old mid new same.quiet (filed.quiet (both cert old mid (certificate w) (w.replies ++ refusal_reply r) _ _ same (append-nil (certificate w)) refl room)));
}
items_complete script cert old mid new Status.WriteFault same (inl u) = record {
  work = record { done = []; rest = script.items; blocks = []; replies = []; last = start script.budget; split = refl; goes = (refl, refl, refl) };
  block = [];
  reply = [];
  next = inr (refl, refl);
  calm = λ room. absurd (u.narrow (both cert old mid header [] _ _ same (append-nil _ ∙ certificate_none) refl room).1);
}
items_complete script cert old mid new Status.WriteFault same (inr (w, block, reply, next, cut)) = record {
  work = w;
  block = block;
  reply = reply;
  next = inl next;
  calm = λ room. absurd (cut.narrow (both cert old mid (certificate w ++ block) (w.replies ++ reply) _ _ same refl refl room));
}
items_complete script cert old mid new Status.Usage same h = absurd h
items_complete script cert old mid new Status.ReadFault same h = absurd h
items_complete script cert old mid new Status.Rejected same h = absurd h

pub reply_complete : (refusal : Refusal) (old mid new : Seen) (status : Status) → Same old mid → Refused refusal mid new status → CompleteReply refusal old new status
reply_complete refusal old mid new Status.Script same h = λ room. (λ e. cc e, NoFault-then old mid new same.quiet (h.quiet (HasRoom-same (old.room dash) (mid.room dash) _ (same.rooms dash) room)))
reply_complete refusal old mid new Status.WriteFault same h = λ room. absurd (h.narrow (HasRoom-same (old.room dash) (mid.room dash) _ (same.rooms dash) room))
reply_complete refusal old mid new Status.Memory same h = λ room. (λ e. cc e, NoFault-then old mid new same.quiet h.quiet)
reply_complete refusal old mid new Status.Done same h = absurd h
reply_complete refusal old mid new Status.Usage same h = absurd h
reply_complete refusal old mid new Status.ReadFault same h = absurd h
reply_complete refusal old mid new Status.Rejected same h = absurd h

text_complete : (budget : Budget) (text cert : List ℕ) (old mid new : Seen) (status : Status) → Same old mid → Wrote budget text cert mid new status → CompleteText budget text cert old new status
text_complete budget text cert old mid new status same (inl (items, reads, h)) = inl (items, reads, items_complete _ cert old mid new status same h)
text_complete budget text cert old mid new status same (inr (inl (refusal, is, h))) = inr (inl (refusal, is, reply_complete refusal old mid new status same h))
text_complete budget text cert old mid new status same (inr (inr (is, idle))) = inr (inr (λ e. cc (is, e), NoFault-then old mid new same.quiet idle.quiet))

text_read : (budget : Budget) (text cert : List ℕ) (old new : Seen) (status : Status) → Wrote budget text cert old new status → status ≢ Status.ReadFault
text_read budget text cert old new status (inl (items, reads, h)) = λ e. subst (λ (s : Status). Answered (record { budget = budget; text = text; items = items }) cert old new s) e h
text_read budget text cert old new status (inr (inl (refusal, is, h))) = λ e. subst (λ (s : Status). Refused refusal old new s) e h
text_read budget text cert old new status (inr (inr (is, idle))) = λ e. cc (is, e)

pub completes : (r : Request) (old new : Seen) (status : Status) → old.is_sure r.script ≡ true → Solved r old new status → Completes r old new status
completes r old new status sure (inl whole) = record {
  read = text_read r.budget whole.text r.cert whole.between new status whole.wrote;
  rest = inl (whole.text, subst (λ (o : Option (List ℕ)). Consumes (old.left r.script) o whole.text) (sym (whole.writes.left r.script)) whole.took.taken, text_complete r.budget whole.text r.cert old whole.between new status (record { rooms = whole.took.leaves.rooms; quiet = whole.took.quiet sure }) whole.wrote);
}
completes r old new status sure (inr (inl long)) = record {
  read = λ e. subst (λ (s : Status). Refused (at_start Reason.TooLong) long.between new s) e long.refused;
  rest = inr (inl (long.text, subst (λ (o : Option (List ℕ)). Consumes (old.left r.script) o long.text) (sym (long.writes.left r.script)) long.took.taken, long.long, reply_complete (at_start Reason.TooLong) old long.between new status (record { rooms = long.took.leaves.rooms; quiet = long.took.quiet sure }) long.refused));
}
completes r old new status sure (inr (inr failed)) =
    let memory : status ≡ Status.Memory = elim failed.answer [ inl fault ↦ absurd (fault.1 sure) | inr is ↦ is ] in
    record { read = λ e. cc (memory, e); rest = inr (inr (λ e. cc (memory, e), failed.quiet sure)) }
