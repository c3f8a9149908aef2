-- What a run of `check` promises, from what it leaves behind.
use Rattle.std.proofs.Common.{◌≡◌, ◌≢◌, ℕ, ◌≤◌, inl, inr, List, length, Option, Some, sym, subst, ◌∙◌}
use Rattle.std.specs.Io.KnownBytes.{Consumes}
use Rattle.fm_base.specs.declared.refusal.Refusal.{Refusal}
use Rattle.fm_files.specs.Seen.{Extends, OnlyReads, OnlyWrites, Seen}
use Rattle.fm_sexp.specs.declared.items.Sexp.{Sexp}
use Rattle.fm_cert.specs.declared.block.Claim.{Claim}
use Rattle.fm_check.specs.Printed.{accepted_text, verdict_text}
use Rattle.fm_check.specs.Scripts.{IsAccepted, problems_of}
use Rattle.fm_check.specs.Verdicts.{ClaimsHold, HoldOf, IsVerdict, claims_of}
use Rattle.fm_check.specs.declared.verdict.Verdict.{Verdict}
use Rattle.fmf.specs.Checked.{Accepts, AreRead, CertIsChecked, CertRead, CertTooLong, Checked, IsWant, LeavesAlone, Rejects, ScriptIsJudged, Tells, TellsVerdict, Unread, Verifies, long_text, longest_cert, status_of}
use Rattle.fmf.specs.Filing.{Idle, Replied, RepliedPart}
use Rattle.fmf.specs.Solved.{Refused, Took}
use Rattle.fmf.specs.Words.{Command, Inquiry, dash}
use Rattle.fmf.specs.declared.status.Status.{Status}

-- a verdict that was told after both files were read
by_verdict : (q : Inquiry) (old new : Seen) (script cert : List ℕ) (items : List Sexp) (verdict : Verdict) (status : Status) → AreRead q old new script items cert → length cert ≤ longest_cert → IsVerdict (problems_of script items) cert verdict → ClaimsHold (problems_of script items) verdict → Extends (old.written dash) (new.written dash) (verdict_text (length (problems_of script items)) verdict) → status ≡ status_of verdict → Verifies q old new status
by_verdict q old new script cert items (Verdict.Accepted claims) status read fits is holds told e =
    subst (λ (s : Status). Verifies q old new s) (sym e) (record {
      script = script;
      items = items;
      cert = cert;
      blocks = is.0;
      read = read;
      fits = fits;
      good = is.1;
      hold = subst (λ (cs : List Claim). HoldOf (problems_of script items) cs) is.2 holds;
      told = subst (λ (cs : List Claim). Extends (old.written dash) (new.written dash) (accepted_text (length (problems_of script items)) cs)) is.2 told;
    })
by_verdict q old new script cert items (Verdict.Rejected line rule) status read fits is holds told e =
    subst (λ (s : Status). Verifies q old new s) (sym e) (record {
      script = script;
      items = items;
      cert = cert;
      read = read;
      told = inl (line, rule, is, told);
    })

failed_so : (q : Inquiry) (old new : Seen) (status : Status) → status ≡ Status.WriteFault → Verifies q old new status
failed_so q old new status e = subst (λ (s : Status). Verifies q old new s) (sym e) tt

unread_so : (q : Inquiry) (old new : Seen) (status : Status) → status ≡ Status.ReadFault → Verifies q old new status
unread_so q old new status e = subst (λ (s : Status). Verifies q old new s) (sym e) tt

wanting_so : (q : Inquiry) (old new : Seen) (status : Status) → status ≡ Status.Memory → Verifies q old new status
wanting_so q old new status e = subst (λ (s : Status). Verifies q old new s) (sym e) tt

refused_so : (q : Inquiry) (old new from to : Seen) (refusal : Refusal) (status : Status) → Refused refusal from to status → Verifies q old new status
refused_so q old new from to refusal Status.Script h = tt
refused_so q old new from to refusal Status.WriteFault h = tt
refused_so q old new from to refusal Status.Memory h = tt
refused_so q old new from to refusal Status.Done h = absurd h
refused_so q old new from to refusal Status.Rejected h = absurd h
refused_so q old new from to refusal Status.Usage h = absurd h
refused_so q old new from to refusal Status.ReadFault h = absurd h

-- what was taken of two names that are read one after the other
both_read : (q : Inquiry) (old mid last new : Seen) (script cert : List ℕ) (items : List Sexp) → q.script ≢ q.cert → Took q.script old mid script → Took q.cert mid last cert → OnlyWrites last new → IsAccepted script items → AreRead q old new script items cert
both_read q old mid last new script cert items apart first second writes accepted =
    let after : new.left q.script ≡ mid.left q.script = writes.left q.script ∙ second.leaves.others q.script apart in
    let before : mid.left q.cert ≡ old.left q.cert = first.leaves.others q.cert (λ e. apart (sym e)) in
    record {
      script_taken = subst (λ (o : Option (List ℕ)). Consumes (old.left q.script) o script) (sym after) first.taken;
      cert_taken = subst (λ (o : Option (List ℕ)). Consumes (old.left q.cert) o cert) (sym (writes.left q.cert)) (subst (λ (o : Option (List ℕ)). Consumes o (last.left q.cert) cert) before second.taken);
      accepted = accepted;
    }

-- what the output grew by, from before the files were read
told_from : (old mid last new : Seen) (script_name cert_name script cert text : List ℕ) → Took script_name old mid script → Took cert_name mid last cert → Extends (last.written dash) (new.written dash) text → Extends (old.written dash) (new.written dash) text
told_from old mid last new script_name cert_name script cert text first second told =
    subst (λ (o : Option (List ℕ)). Extends o (new.written dash) text) (second.leaves.written dash ∙ first.leaves.written dash) told

cert_read : (q : Inquiry) (old mid new : Seen) (script : List ℕ) (items : List Sexp) (status : Status) → q.script ≢ q.cert → Took q.script old mid script → IsAccepted script items → CertRead q.cert script items mid new status → Verifies q old new status
cert_read q old mid new script items status apart took accepted r = elim r.told [
  | inl t ↦ elim t.told [
    | inl good ↦ by_verdict q old new script r.cert items t.verdict status (both_read q old mid r.between new script r.cert items apart took r.took r.writes accepted) r.fits t.is t.holds (told_from old mid r.between new q.script q.cert script r.cert _ took r.took good.1.output) good.0
    | inr part ↦ failed_so q old new status part.0
  ]
  | inr want ↦ wanting_so q old new status want.0
]

cert_long : (q : Inquiry) (old mid new : Seen) (script : List ℕ) (items : List Sexp) (status : Status) → q.script ≢ q.cert → Took q.script old mid script → IsAccepted script items → CertTooLong q.cert mid new status → Verifies q old new status
cert_long q old mid new script items status apart took accepted r = elim r.told [
  | inl t ↦ elim t [
    | inl good ↦ subst (λ (s : Status). Verifies q old new s) (sym good.0) (record {
      script = script;
      items = items;
      cert = r.cert;
      read = both_read q old mid r.between new script r.cert items apart took r.took r.writes accepted;
      told = inr (r.long, told_from old mid r.between new q.script q.cert script r.cert long_text took r.took good.1.output);
    })
    | inr part ↦ failed_so q old new status part.0
  ]
  | inr want ↦ wanting_so q old new status want.0
]

not_read : (q : Inquiry) (name : List ℕ) (old new from to : Seen) (status : Status) → Unread name from to status → Verifies q old new status
not_read q name old new from to status u = elim u.answer [ inl fault ↦ unread_so q old new status fault.0 | inr want ↦ wanting_so q old new status want ]

pub verifies : (q : Inquiry) (old new : Seen) (status : Status) → q.script ≢ q.cert → Checked q old new status → Verifies q old new status
verifies q old new status apart h = elim h [
  | inl r ↦ elim r.judged [
    | inl a ↦ elim a.checked [
      | inl c ↦ cert_read q old r.between new r.script a.items status apart r.took a.accepted c
      | inr other ↦ elim other [
        | inl long ↦ cert_long q old r.between new r.script a.items status apart r.took a.accepted long
        | inr u ↦ not_read q q.cert old new r.between new status u
      ]
    ]
    | inr other ↦ elim other [
      | inl refused ↦ refused_so q old new r.between new refused.refusal status refused.refused
      | inr w ↦ wanting_so q old new status w.want.0
    ]
  ]
  | inr other ↦ elim other [
    | inl long ↦ refused_so q old new long.between new _ status long.refused
    | inr u ↦ not_read q q.script old new old new status u
  ]
]

-- Only the output is written.
abbrev Alone : Seen → Seen → Type 0
Alone old new = (name : List ℕ) → name ≢ dash → new.written name ≡ old.written name

tells_alone : (text : List ℕ) (good : Status) (old new : Seen) (status : Status) → Tells text good old new status → Alone old new
tells_alone text good old new status h = elim h [ inl t ↦ t.1.others | inr t ↦ t.1.others ]

want_alone : (old new : Seen) (status : Status) → IsWant old new status → Alone old new
want_alone old new status w = λ name ne. w.1.written name

refused_alone : (refusal : Refusal) (old new : Seen) (status : Status) → Refused refusal old new status → Alone old new
refused_alone refusal old new Status.Script h = h.others
refused_alone refusal old new Status.WriteFault h = h.others
refused_alone refusal old new Status.Memory h = λ name ne. h.written name
refused_alone refusal old new Status.Done h = absurd h
refused_alone refusal old new Status.Rejected h = absurd h
refused_alone refusal old new Status.Usage h = absurd h
refused_alone refusal old new Status.ReadFault h = absurd h

cert_alone : (name script : List ℕ) (items : List Sexp) (old new : Seen) (status : Status) → CertIsChecked name script items old new status → Alone old new
cert_alone name script items old new status h = elim h [
  | inl r ↦
      let told : Alone r.between new = elim r.told [ inl t ↦ tells_alone _ _ r.between new status t.told | inr w ↦ want_alone r.between new status w ] in
      λ n ne. told n ne ∙ r.took.leaves.written n
  | inr other ↦ elim other [
    | inl r ↦
        let told : Alone r.between new = elim r.told [ inl t ↦ tells_alone _ _ r.between new status t | inr w ↦ want_alone r.between new status w ] in
        λ n ne. told n ne ∙ r.took.leaves.written n
    | inr u ↦ λ n ne. u.leaves.written n
  ]
]

judged_alone : (name script : List ℕ) (old new : Seen) (status : Status) → ScriptIsJudged name script old new status → Alone old new
judged_alone name script old new status h = elim h [
  | inl a ↦ cert_alone name script a.items old new status a.checked
  | inr other ↦ elim other [ inl r ↦ refused_alone r.refusal old new status r.refused | inr w ↦ want_alone old new status w.want ]
]

-- Only the two files are read.
cert_left : (name script : List ℕ) (items : List Sexp) (old new : Seen) (status : Status) → CertIsChecked name script items old new status → (n : List ℕ) → n ≢ name → new.left n ≡ old.left n
cert_left name script items old new status h = elim h [
  | inl r ↦ λ n ne. r.writes.left n ∙ r.took.leaves.others n ne
  | inr other ↦ elim other [ inl r ↦ λ n ne. r.writes.left n ∙ r.took.leaves.others n ne | inr u ↦ u.leaves.others ]
]

judged_left : (name script : List ℕ) (old new : Seen) (status : Status) → ScriptIsJudged name script old new status → (n : List ℕ) → n ≢ name → new.left n ≡ old.left n
judged_left name script old new status h = elim h [
  | inl a ↦ cert_left name script a.items old new status a.checked
  | inr other ↦ elim other [ inl r ↦ λ n ne. r.writes.left n | inr w ↦ λ n ne. w.writes.left n ]
]

pub leaves_alone : (q : Inquiry) (old new : Seen) (status : Status) → Checked q old new status → LeavesAlone q old new
leaves_alone q old new status h = elim h [
  | inl r ↦ record {
    left = λ name a b. judged_left q.cert r.script r.between new status r.judged name b ∙ r.took.leaves.others name a;
    written = λ name ne. judged_alone q.cert r.script r.between new status r.judged name ne ∙ r.took.leaves.written name;
  }
  | inr other ↦ elim other [
    | inl long ↦ record {
      left = λ name a b. long.writes.left name ∙ long.took.leaves.others name a;
      written = λ name ne. refused_alone _ long.between new status long.refused name ne ∙ long.took.leaves.written name;
    }
    | inr u ↦ record { left = λ name a b. u.leaves.others name a; written = λ name ne. u.leaves.written name }
  ]
]

-- what holds of the inquiry holds of whatever the words ask for
pub inquired : (Holds' : Inquiry → Type 0) (q : Inquiry) (o : Option Command) → o ≡ Some (Command.Check q) → Holds' q → ((p : Inquiry) → o ≡ Some (Command.Check p) → Holds' p)
inquired Holds' q o e h p f = let same : q ≡ p = cc (e, f) in subst Holds' same h
