-- What a call leaves as it was, for two calls one after another.
use Rattle.std.proofs.Common.{◌≡◌, ℕ, ◌+◌, ◌-◌, ◌≤◌, List, ◌++◌, length, take, drop, Option, Some, None, refl, sym, ◌∙◌, ap, subst, arith, length-append, length-drop}
use Rattle.std.proofs.lemmas.List.{length-take-le}
use Rattle.fm_files.specs.Seen.{Seen, OnlyReads, OnlyWrites, WritesAt, NoFault, HasRoom, lowered}

pub OnlyReads-same : (a : Seen) (name : List ℕ) → OnlyReads a a name
OnlyReads-same a name =
    record {
      others = λ n ne. refl;
      written = λ n. refl;
      rooms = λ n. refl;
      sure = λ n. refl;
      reads_later = λ n. omega arith;
      writes_later = λ n. omega arith;
    }

pub OnlyReads-then : (a b c : Seen) (name : List ℕ) → OnlyReads a b name → OnlyReads b c name → OnlyReads a c name
OnlyReads-then a b c name p q =
    record {
      others = λ n ne. q.others n ne ∙ p.others n ne;
      written = λ n. q.written n ∙ p.written n;
      rooms = λ n. q.rooms n ∙ p.rooms n;
      sure = λ n. q.sure n ∙ p.sure n;
      reads_later = λ n. omega (arith, p.reads_later n, q.reads_later n);
      writes_later = λ n. omega (arith, p.writes_later n, q.writes_later n);
    }

pub OnlyWrites-same : (a : Seen) → OnlyWrites a a
OnlyWrites-same a =
    record {
      left = λ n. refl;
      sure = λ n. refl;
      reads_later = λ n. omega arith;
      writes_later = λ n. omega arith;
    }

pub OnlyWrites-then : (a b c : Seen) → OnlyWrites a b → OnlyWrites b c → OnlyWrites a c
OnlyWrites-then a b c p q =
    record {
      left = λ n. q.left n ∙ p.left n;
      sure = λ n. q.sure n ∙ p.sure n;
      reads_later = λ n. omega (arith, p.reads_later n, q.reads_later n);
      writes_later = λ n. omega (arith, p.writes_later n, q.writes_later n);
    }

pub WritesAt-same : (a : Seen) (name : List ℕ) → WritesAt a a name
WritesAt-same a name =
    record {
      only = OnlyWrites-same a;
      others = λ n ne. refl;
      other_rooms = λ n ne. refl;
    }

pub WritesAt-then : (a b c : Seen) (name : List ℕ) → WritesAt a b name → WritesAt b c name → WritesAt a c name
WritesAt-then a b c name p q =
    record {
      only = OnlyWrites-then a b c p.only q.only;
      others = λ n ne. q.others n ne ∙ p.others n ne;
      other_rooms = λ n ne. q.other_rooms n ne ∙ p.other_rooms n ne;
    }

pub NoFault-same : (a : Seen) → NoFault a a
NoFault-same a = record { reads = λ n. refl; writes = λ n. refl }

pub NoFault-then : (a b c : Seen) → NoFault a b → NoFault b c → NoFault a c
NoFault-then a b c p q = record { reads = λ n. q.reads n ∙ p.reads n; writes = λ n. q.writes n ∙ p.writes n }

pub lowered-none : (room : Option ℕ) → room ≡ lowered room 0
lowered-none None = refl
lowered-none (Some r) =
    let same : r ≡ r - 0 = omega arith in
    ap (λ (x : ℕ). Some x) same

-- room for the rest, and what is left of the room, after a further front of k bytes
pub room_after : (a b c : Option ℕ) (j k n m : ℕ) → HasRoom b n → b ≡ lowered a j → c ≡ lowered b k → k + m ≡ n → HasRoom c m × (c ≡ lowered a (j + k))
room_after None b c j k n m h p q e = absurd (subst (λ (r : Option ℕ). HasRoom r n) p h)
room_after (Some r) b c j k n m h p q e =
    let at_b : b ≡ Some (r - j) = p in
    let at_c : c ≡ Some (r - j - k) = q ∙ ap (λ (o : Option ℕ). lowered o k) at_b in
    let h2 : n ≤ r - j = subst (λ (o : Option ℕ). HasRoom o n) at_b h in
    let h3 : m ≤ r - j - k = omega arith in
    let same : r - j - k ≡ r - (j + k) = omega arith in
    (subst (λ (o : Option ℕ). HasRoom o m) (sym at_c) h3, at_c ∙ ap (λ (x : ℕ). Some x) same)

-- the same where the front is what a piece of the rest adds
pub roomy_then : {P : Type 0} (old mid new : Seen) (name front rest after : List ℕ) (k : ℕ) → k ≤ length rest → after ≡ drop k rest → HasRoom (mid.room name) (length rest) × (mid.room name ≡ lowered (old.room name) (length front)) × NoFault old mid → (HasRoom (mid.room name) (length rest) → (new.room name ≡ lowered (mid.room name) k) × P × NoFault mid new) → HasRoom (new.room name) (length after) × (new.room name ≡ lowered (old.room name) (length (front ++ take k rest))) × NoFault old new
roomy_then old mid new name front rest after k le e (h, p, quiet) step =
    let (q, ok, more) = step h in
    let counted : k + length after ≡ length rest = omega (arith, ap length e, length-drop k rest) in
    let grown : length front + k ≡ length (front ++ take k rest) = omega (arith, length-append front (take k rest), length-take-le k rest le) in
    let (roomy, left) = room_after (old.room name) (mid.room name) (new.room name) (length front) k (length rest) (length after) h p q counted in
    (roomy, left ∙ ap (λ (n : ℕ). lowered (old.room name) n) grown, NoFault-then old mid new quiet more)
