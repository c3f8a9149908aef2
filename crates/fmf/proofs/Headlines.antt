-- The headline, from what a run leaves behind.
use Rattle.std.proofs.Common.{◌≡◌, ◌≢◌, ℕ, inl, inr, List, Option, Some, sym, subst, ◌∙◌}
use Rattle.std.specs.Io.KnownBytes.{Consumes}
use Rattle.fm_base.specs.declared.refusal.Refusal.{Refusal}
use Rattle.fm_files.specs.Seen.{Seen, OnlyWrites, Holds}
use Rattle.fm_sexp.specs.Items.{ReadsAs}
use Rattle.fm_sexp.specs.declared.items.Sexp.{Sexp}
use Rattle.fm_session.specs.Problems.{problems_of}
use Rattle.fm_session.specs.Replies.{AreAnswered}
use Rattle.fm_session.specs.Replies.{start}
use Rattle.fm_session.proofs.Claiming.{all_answered, good_from}
use Rattle.fmf.specs.Answers.{Script, Work, certificate}
use Rattle.fmf.specs.Filing.{Filed, Written, StandsPart, Others}
use Rattle.fmf.specs.Headline.{Certifies, Claims, LeavesOthers}
use Rattle.fmf.specs.Solved.{Solved, Took, Answered, Refused}
use Rattle.fmf.specs.Words.{Command, Request, dash}
use Rattle.fmf.specs.declared.status.Status.{Status}

pub certifies : (r : Request) (text : List ℕ) (items : List Sexp) (old mid new : Seen) (out : List ℕ) → Took r.script old mid text → OnlyWrites mid new → ReadsAs text items → (w : Work (record { budget = r.budget; text = text; items = items })) → Filed r.cert mid new (certificate w) out → Certifies r old new
certifies r text items old mid new out took writes reads w filed =
    let answered : AreAnswered r.budget 0 (problems_of text items) w.blocks = subst (λ (xs : List Sexp). AreAnswered r.budget 0 (problems_of text xs) w.blocks) (sym w.split) (all_answered text (start r.budget) w.done w.rest w.blocks w.replies w.last w.goes) in
    record {
      text = text;
      items = items;
      blocks = w.blocks;
      taken = subst (λ (o : Option (List ℕ)). Consumes (old.left r.script) o text) (sym (writes.left r.script)) took.taken;
      reads = reads;
      file = subst (λ (o : Option (List ℕ)). Holds o (new.written r.cert) (certificate w)) (took.leaves.written r.cert) filed.bytes.certificate;
      answered = answered;
      good = good_from r.budget 0 (problems_of text items) w.blocks answered;
    }

never_rejected : (r : Request) (old new : Seen) → Solved r old new Status.Rejected → ⊥
never_rejected r old new h = elim h [
  | inl whole ↦ elim whole.wrote [ inl a ↦ absurd a.2 | inr other ↦ elim other [ inl refused ↦ absurd refused.2 | inr memory ↦ absurd (cc memory.0) ] ]
  | inr other ↦ elim other [
    | inl long ↦ absurd long.refused
    | inr failed ↦ elim failed.answer [ inl e ↦ absurd (cc e.0) | inr e ↦ absurd (cc e) ]
  ]
]

pub claims : (r : Request) (old new : Seen) (status : Status) → r.cert ≢ dash → Solved r old new status → Claims r old new status
claims r old new Status.Memory apart h = tt
claims r old new Status.WriteFault apart h = tt
claims r old new Status.ReadFault apart h = tt
claims r old new Status.Usage apart h = tt
claims r old new Status.Rejected apart h = never_rejected r old new h
claims r old new Status.Done apart h = elim h [
  | inl whole ↦ elim whole.wrote [
    | inl a ↦ certifies r whole.text a.0 old whole.between new a.2.0.replies whole.took whole.writes a.1 a.2.0 a.2.2
    | inr other ↦ elim other [ inl refused ↦ absurd refused.2 | inr memory ↦ absurd (cc memory.0) ]
  ]
  | inr other ↦ elim other [
    | inl long ↦ absurd long.refused
    | inr failed ↦ elim failed.answer [ inl e ↦ absurd (cc e.0) | inr e ↦ absurd (cc e) ]
  ]
]
claims r old new Status.Script apart h = elim h [
  | inl whole ↦ elim whole.wrote [
    | inl a ↦ inl (certifies r whole.text a.0 old whole.between new _ whole.took whole.writes a.1 a.2.0 a.2.3)
    | inr other ↦ elim other [ inl refused ↦ inr (refused.2.others r.cert apart ∙ whole.took.leaves.written r.cert) | inr memory ↦ absurd (cc memory.0) ]
  ]
  | inr other ↦ elim other [
    | inl long ↦ inr (long.refused.others r.cert apart ∙ long.took.leaves.written r.cert)
    | inr failed ↦ elim failed.answer [ inl e ↦ absurd (cc e.0) | inr e ↦ absurd (cc e) ]
  ]
]

part_others : (cert : List ℕ) (old new : Written) (file out block reply : List ℕ) → StandsPart cert old new file out block reply → Others cert old new
part_others cert old new file out block reply p = elim p.cut [ inl h ↦ h.1.others | inr h ↦ h.1.others ]

answered_others : (script : Script) (cert : List ℕ) (old new : Seen) (status : Status) → Answered script cert old new status → Others cert old.written new.written
answered_others script cert old new Status.Done h = h.2.bytes.others
answered_others script cert old new Status.Script h = h.3.bytes.others
answered_others script cert old new Status.Memory h = h.1.bytes.others
answered_others script cert old new Status.WriteFault h = elim h [
  | inl u ↦ elim u.bytes [ inl same ↦ (λ name a b. same name) | inr p ↦ part_others cert old.written new.written _ _ _ _ p ]
  | inr q ↦ part_others cert old.written new.written _ _ _ _ q.4.bytes
]
answered_others script cert old new Status.Usage h = absurd h
answered_others script cert old new Status.ReadFault h = absurd h
answered_others script cert old new Status.Rejected h = absurd h

refused_others : (refusal : Refusal) (cert : List ℕ) (old new : Seen) (status : Status) → Refused refusal old new status → Others cert old.written new.written
refused_others refusal cert old new Status.Script h = λ name a b. h.others name b
refused_others refusal cert old new Status.WriteFault h = λ name a b. h.others name b
refused_others refusal cert old new Status.Memory h = λ name a b. h.written name
refused_others refusal cert old new Status.Done h = absurd h
refused_others refusal cert old new Status.Usage h = absurd h
refused_others refusal cert old new Status.ReadFault h = absurd h
refused_others refusal cert old new Status.Rejected h = absurd h

took_others : (r : Request) (old mid new : Seen) (text : List ℕ) → Took r.script old mid text → OnlyWrites mid new → Others r.cert mid.written new.written → LeavesOthers r old new
took_others r old mid new text took writes others = record {
  left = λ name ne. writes.left name ∙ took.leaves.others name ne;
  written = λ name a b. others name a b ∙ took.leaves.written name;
}

pub leaves_others : (r : Request) (old new : Seen) (status : Status) → Solved r old new status → LeavesOthers r old new
leaves_others r old new status h = elim h [
  | inl whole ↦
      let others : Others r.cert whole.between.written new.written = elim whole.wrote [
        | inl a ↦ answered_others _ r.cert whole.between new status a.2
        | inr other ↦ elim other [ inl refused ↦ refused_others refused.0 r.cert whole.between new status refused.2 | inr memory ↦ (λ name a b. memory.1.written name) ]
      ] in
      took_others r old whole.between new whole.text whole.took whole.writes others
  | inr other ↦ elim other [
    | inl long ↦ took_others r old long.between new long.text long.took long.writes (refused_others _ r.cert long.between new status long.refused)
    | inr failed ↦ record { left = failed.leaves.others; written = λ name a b. failed.leaves.written name }
  ]
]

-- what holds of the request holds of whatever the words ask for
pub asked_for : (Holds' : Request → Type 0) (r : Request) (o : Option Command) → o ≡ Some (Command.Solve r) → Holds' r → ((q : Request) → o ≡ Some (Command.Solve q) → Holds' q)
asked_for Holds' r o e h q f = let same : r ≡ q = cc (e, f) in subst Holds' same h
