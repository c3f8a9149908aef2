-- The items that are answered so far, and one more.
use Rattle.std.proofs.Common.{◌≡◌, ◌≢◌, ℕ, ◌+◌, ◌-◌, ◌≤◌, true, false, List, [], ◌∷◌, ◌++◌, length, Err, refl, sym, ap, subst, ◌∙◌, arith, append_assoc, length-append, ◌⊎◌, inl, inr}
use Rattle.std.proofs.lemmas.List.{append-nil}
use Rattle.std.proofs.lemmas.Grind.{flat_map-append}
use Rattle.std.specs.List.{flat_map}
use Rattle.fm_base.specs.declared.refusal.Refusal.{Refusal}
use Rattle.fm_files.proofs.Pieces.{Extends-then}
use Rattle.fm_files.specs.Seen.{Extends, Seen, OnlyWrites, NoFault, HasRoom, Holds}
use Rattle.fm_sexp.specs.declared.items.Sexp.{Sexp}
use Rattle.fm_cert.specs.Spelling.{header, spelling_of_block, spelling_of_certificate}
use Rattle.fm_cert.specs.declared.block.Block.{Block}
use Rattle.fm_session.specs.Replies.{Past, start, refusal_reply}
use Rattle.fm_session.specs.Steps.{IsStep, Goes, next_of}
use Rattle.fmf.specs.Answers.{Script, Work}
use Rattle.fmf.specs.Filing.{Stands, Puts, PutsPart, UsesRoom, HasBoth, Filed, Cut}
use Rattle.fmf.specs.Solved.{Answered, Refused}
use Rattle.fmf.specs.Reached.{Reached}
use Rattle.fmf.specs.Words.{dash}
use Rattle.fmf.specs.declared.status.Status.{Status}
use Rattle.fmf.proofs.Filings.{Stands-then, Stands-part, OnlyWrites-then, NoFault-then, HasRoom-less, Extends-none}

-- one more item
pub Goes-push : (text : List ℕ) (s : Past) (xs : List Sexp) (x : Sexp) (blocks : List Block) (replies : List ℕ) (t : Past) (b : List Block) (r : List ℕ) (u : Past) → Goes text s xs blocks replies t → t.ended ≡ false → IsStep text t x b r u → Goes text s (xs ++ x ∷ []) (blocks ++ b) (replies ++ r) u
Goes-push text s [] x blocks replies t b r u (none, nothing, same) on step =
    (subst (λ (m : Past). m.ended ≡ false) same on, (b, [], r, [], u, subst (λ (m : Past). IsStep text m x b r u) same step, ap (λ (bs : List Block). bs ++ b) none ∙ sym (append-nil b), ap (λ (rs : List ℕ). rs ++ r) nothing ∙ sym (append-nil r), (refl, refl, refl)))
Goes-push text s (y ∷ xs) x blocks replies t b r u (goes_on, (c, cs, q, qs, m, first, eb, er, rest)) on step =
    (goes_on, (c, cs ++ b, q, qs ++ r, m, first, ap (λ (bs : List Block). bs ++ b) eb ∙ append_assoc c cs b, ap (λ (rs : List ℕ). rs ++ r) er ∙ append_assoc q qs r, Goes-push text m xs x cs qs t b r u rest on step))

pub certificate_more : (bs made : List Block) → spelling_of_certificate (bs ++ made) ≡ spelling_of_certificate bs ++ flat_map spelling_of_block made
certificate_more bs made = ap (λ (ys : List ℕ). header ++ ys) (flat_map-append spelling_of_block bs made) ∙ sym (append_assoc header (flat_map spelling_of_block bs) (flat_map spelling_of_block made))

pub certificate_none : spelling_of_certificate [] ≡ header
certificate_none = append-nil header

pub Reached-none : (script : Script) (cert : List ℕ) (t : Past) (old new : Seen) → t ≡ start script.budget → Stands cert old.written new.written header [] → OnlyWrites old new → ((n : ℕ) → HasRoom (old.room cert) n → length header ≤ n → UsesRoom cert old new 0 (length header)) → Reached script cert [] t old new
Reached-none script cert t old new same bytes leaves never = record {
  blocks = [];
  replies = [];
  goes = (refl, refl, same);
  bytes = subst (λ (bs : List ℕ). Stands cert old.written new.written bs []) (sym certificate_none) bytes;
  rooms = λ out file le fits room_out room_file.
      let fits' : length header ≤ file = subst (λ (bs : List ℕ). length bs ≤ file) certificate_none fits in
      let used = never file room_file fits' in
      let there : HasRoom (new.room cert) (file - length (spelling_of_certificate [])) = subst (λ (bs : List ℕ). HasRoom (new.room cert) (file - length bs)) (sym certificate_none) (used.file file room_file) in
      (used.out out room_out, there, used.counts);
  leaves = leaves;
}

pub Reached-push : (script : Script) (cert : List ℕ) (done : List Sexp) (x : Sexp) (b : List Block) (block reply : List ℕ) (t u : Past) (old mid new : Seen) → Reached script cert done t old mid → t.ended ≡ false → IsStep script.text t x b reply u → block ≡ flat_map spelling_of_block b → Puts cert mid.written new.written block reply → OnlyWrites mid new → (HasRoom (mid.room dash) (length reply) → HasRoom (mid.room cert) (length block) → UsesRoom cert mid new (length reply) (length block)) → Reached script cert (done ++ x ∷ []) u old new
Reached-push script cert done x b block reply t u old mid new r on step spelled puts leaves never =
    let text : spelling_of_certificate (r.blocks ++ b) ≡ spelling_of_certificate r.blocks ++ block = certificate_more r.blocks b ∙ ap (λ (ys : List ℕ). spelling_of_certificate r.blocks ++ ys) (sym spelled) in
    record {
      blocks = r.blocks ++ b;
      replies = r.replies ++ reply;
      goes = Goes-push script.text (start script.budget) done x r.blocks r.replies t b reply u r.goes on step;
      bytes = subst (λ (bs : List ℕ). Stands cert old.written new.written bs (r.replies ++ reply)) (sym text) (Stands-then cert old.written mid.written new.written (spelling_of_certificate r.blocks) r.replies block reply r.bytes puts);
      rooms = λ out file le fits room_out room_file.
          let lr : length (r.replies ++ reply) ≡ length r.replies + length reply = length-append r.replies reply in
          let lb : length (spelling_of_certificate (r.blocks ++ b)) ≡ length (spelling_of_certificate r.blocks) + length block = ap length text ∙ length-append (spelling_of_certificate r.blocks) block in
          let before = r.rooms out file (omega (arith, lr, le)) (omega (arith, lb, fits)) room_out room_file in
          let used = never (HasRoom-less (mid.room dash) (out - length r.replies) (length reply) (omega (arith, lr, le)) before.0) (HasRoom-less (mid.room cert) (file - length (spelling_of_certificate r.blocks)) (length block) (omega (arith, lb, fits)) before.1) in
          let eo : out - length r.replies - length reply ≡ out - length (r.replies ++ reply) = omega (arith, lr) in
          let ef : file - length (spelling_of_certificate r.blocks) - length block ≡ file - length (spelling_of_certificate (r.blocks ++ b)) = omega (arith, lb) in
          (subst (λ (n : ℕ). HasRoom (new.room dash) n) eo (used.out (out - length r.replies) before.0), subst (λ (n : ℕ). HasRoom (new.room cert) n) ef (used.file (file - length (spelling_of_certificate r.blocks)) before.1), NoFault-then old mid new before.2 used.counts);
      leaves = OnlyWrites-then old mid new r.leaves leaves;
    }

-- what was made so far
abbrev pub work : (script : Script) (cert : List ℕ) (done rest : List Sexp) (t : Past) (old new : Seen) → script.items ≡ done ++ rest → Reached script cert done t old new → Work script
work script cert done rest t old new split r = record { done = done; rest = rest; blocks = r.blocks; replies = r.replies; last = t; split = split; goes = r.goes }

pub filed_now : (script : Script) (cert : List ℕ) (done : List Sexp) (t : Past) (old new : Seen) → (r : Reached script cert done t old new) → Filed cert old new (spelling_of_certificate r.blocks) r.replies
filed_now script cert done t old new r = record {
  bytes = r.bytes;
  quiet = λ room. (r.rooms (length r.replies) (length (spelling_of_certificate r.blocks)) (omega arith) (omega arith) room.0 room.1).2;
}

-- with room for all that was made and for two more texts, there is room for these now
pub room_for_more : (script : Script) (cert : List ℕ) (done : List Sexp) (t : Past) (old mid : Seen) (block reply : List ℕ) → (r : Reached script cert done t old mid) → HasBoth cert old (spelling_of_certificate r.blocks ++ block) (r.replies ++ reply) → HasRoom (mid.room dash) (length reply) × HasRoom (mid.room cert) (length block) × NoFault old mid
room_for_more script cert done t old mid block reply r room =
    let lr : length (r.replies ++ reply) ≡ length r.replies + length reply = length-append r.replies reply in
    let lb : length (spelling_of_certificate r.blocks ++ block) ≡ length (spelling_of_certificate r.blocks) + length block = length-append (spelling_of_certificate r.blocks) block in
    let before = r.rooms (length (r.replies ++ reply)) (length (spelling_of_certificate r.blocks ++ block)) (omega (arith, lr)) (omega (arith, lb)) room.0 room.1 in
    (HasRoom-less (mid.room dash) (length (r.replies ++ reply) - length r.replies) (length reply) (omega (arith, lr)) before.0, HasRoom-less (mid.room cert) (length (spelling_of_certificate r.blocks ++ block) - length (spelling_of_certificate r.blocks)) (length block) (omega (arith, lb)) before.1, before.2)

pub cut_now : (script : Script) (cert : List ℕ) (done : List Sexp) (t : Past) (old mid new : Seen) (block reply : List ℕ) → (r : Reached script cert done t old mid) → PutsPart cert mid.written new.written block reply → (HasRoom (mid.room dash) (length reply) → HasRoom (mid.room cert) (length block) → ⊥) → Cut cert old new (spelling_of_certificate r.blocks) r.replies block reply
cut_now script cert done t old mid new block reply r part none = record {
  bytes = Stands-part cert old.written mid.written new.written (spelling_of_certificate r.blocks) r.replies block reply r.bytes part;
  narrow = λ room. let now = room_for_more script cert done t old mid block reply r room in none now.0 now.1;
}

-- the whole of the next answer was made, and a write of it failed
pub stopped_in : (script : Script) (cert : List ℕ) (done rest : List Sexp) (x : Sexp) (b : List Block) (block reply : List ℕ) (t u : Past) (old mid new : Seen) → script.items ≡ done ++ x ∷ rest → Reached script cert done t old mid → t.ended ≡ false → IsStep script.text t x b reply u → block ≡ flat_map spelling_of_block b → PutsPart cert mid.written new.written block reply → (HasRoom (mid.room dash) (length reply) → HasRoom (mid.room cert) (length block) → ⊥) → Answered script cert old new Status.WriteFault
stopped_in script cert done rest x b block reply t u old mid new split r on step spelled part none =
    inr (
      work script cert done (x ∷ rest) t old mid split r,
      block,
      reply,
      inl (record { item = x; items = rest; blocks = b; after = u; next = refl; goes_on = on; step = step; spelled = spelled }),
      cut_now script cert done t old mid new block reply r part none,
    )

pub memory_now : (script : Script) (cert : List ℕ) (done rest : List Sexp) (t : Past) (old new : Seen) → script.items ≡ done ++ rest → Reached script cert done t old new → Answered script cert old new Status.Memory
memory_now script cert done rest t old new split r = (work script cert done rest t old new split r, filed_now script cert done t old new r)

pub done_now : (script : Script) (cert : List ℕ) (done rest : List Sexp) (t : Past) (old new : Seen) → script.items ≡ done ++ rest → Reached script cert done t old new → (rest ≡ []) ⊎ (t.ended ≡ true) → Answered script cert old new Status.Done
done_now script cert done rest t old new split r over = (work script cert done rest t old new split r, over, filed_now script cert done t old new r)

-- the reply to a refusal, behind the answers so far
pub refused_now : (script : Script) (cert : List ℕ) (done rest : List Sexp) (x : Sexp) (refusal : Refusal) (t : Past) (old mid new : Seen) (status : Status) → cert ≢ dash → script.items ≡ done ++ x ∷ rest → Reached script cert done t old mid → t.ended ≡ false → next_of script.text t x ≡ Err refusal → Refused refusal mid new status → Answered script cert old new status
refused_now script cert done rest x refusal t old mid new Status.Script apart split r on refused h = (
  work script cert done (x ∷ rest) t old mid split r,
  refusal,
  record { item = x; items = rest; next = refl; goes_on = on; refused = refused },
  record {
    bytes = record {
      certificate = subst (λ o. Holds (old.written cert) o (spelling_of_certificate r.blocks)) (sym (h.others cert apart)) r.bytes.certificate;
      output = Extends-then (old.written dash) (mid.written dash) (new.written dash) r.replies (refusal_reply refusal) r.bytes.output h.output;
      others = λ name a b. h.others name b ∙ r.bytes.others name a b;
    };
    quiet = λ room.
        let whole : HasBoth cert old (spelling_of_certificate r.blocks ++ []) (r.replies ++ refusal_reply refusal) = (room.0, subst (λ (bs : List ℕ). HasRoom (old.room cert) (length bs)) (sym (append-nil (spelling_of_certificate r.blocks))) room.1) in
        let now = room_for_more script cert done t old mid [] (refusal_reply refusal) r whole in
        NoFault-then old mid new now.2 (h.quiet now.0);
  },
)
refused_now script cert done rest x refusal t old mid new Status.WriteFault apart split r on refused h =
    inr (
      work script cert done (x ∷ rest) t old mid split r,
      [],
      refusal_reply refusal,
      inr (refl, (refusal, record { item = x; items = rest; next = refl; goes_on = on; refused = refused }, refl)),
      cut_now script cert done t old mid new [] (refusal_reply refusal) r
          (inr (record { file = Extends-none (mid.written cert) (new.written cert) (h.others cert apart); out = h.output; others = λ name a b. h.others name b }))
          (λ out file. h.narrow out),
    )
refused_now script cert done rest x refusal t old mid new Status.Memory apart split r on refused h = (
  work script cert done (x ∷ rest) t old mid split r,
  record {
    bytes = record {
      certificate = subst (λ o. Holds (old.written cert) o (spelling_of_certificate r.blocks)) (sym (h.written cert)) r.bytes.certificate;
      output = subst (λ o. Extends (old.written dash) o r.replies) (sym (h.written dash)) r.bytes.output;
      others = λ name a b. h.written name ∙ r.bytes.others name a b;
    };
    quiet = λ room. NoFault-then old mid new ((filed_now script cert done t old mid r).quiet room) h.quiet;
  },
)
refused_now script cert done rest x refusal t old mid new Status.Done apart split r on refused h = absurd h
refused_now script cert done rest x refusal t old mid new Status.Usage apart split r on refused h = absurd h
refused_now script cert done rest x refusal t old mid new Status.ReadFault apart split r on refused h = absurd h
refused_now script cert done rest x refusal t old mid new Status.Rejected apart split r on refused h = absurd h
