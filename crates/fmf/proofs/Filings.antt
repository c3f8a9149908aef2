-- What two writings leave, one after the other.
use Rattle.std.proofs.Common.{◌≡◌, ◌≢◌, ℕ, ◌-◌, ◌≤◌, ◌⊎◌, inl, inr, List, [], ◌++◌, Option, Some, None, ap, refl, sym, subst, ◌∙◌, arith}
use Rattle.std.specs.Str.{bytes_eq}
use Rattle.std.proofs.lemmas.Bool.{cases_Bool, both_ways}
use Rattle.std.proofs.lemmas.List.{append-nil}
use Rattle.std.proofs.lemmas.Slice.Eq.{bytes_eq-Decides}
use Rattle.fm_files.proofs.Pieces.{Extends-then}
use Rattle.fm_files.specs.Seen.{Extends, Seen, SameByName, SameButAt, Rose, NoFault, OnlyWrites, Holds, HasRoom, lowered}
use Rattle.fmf.specs.Filing.{Written, Stands, StandsPart, Puts, PutsPart, CountsRose}
use Rattle.fmf.specs.Words.{dash}

pub same_name : (a b : List ℕ) → (a ≡ b) ⊎ (a ≢ b)
same_name a b =
    elim (cases_Bool (bytes_eq a b)) [
      | inl t ↦ inl ((bytes_eq-Decides a b).0 t)
      | inr f ↦ inr (λ e. both_ways (bytes_eq a b) f ((bytes_eq-Decides a b).1 e))
    ]

pub same_everywhere : {V : Type 0} (old new : List ℕ → V) (at : List ℕ) → SameButAt old new at → new at ≡ old at → SameByName old new
same_everywhere old new at others here = λ name. elim (same_name name at) [ inl e ↦ subst (λ (n : List ℕ). new n ≡ old n) (sym e) here | inr ne ↦ others name ne ]

pub Extends-none : (old new : Option (List ℕ)) → new ≡ old → Extends old new []
Extends-none None None e = tt
Extends-none None (Some ys) e = cc
Extends-none (Some xs) None e = cc
Extends-none (Some xs) (Some ys) e = let same : ys ≡ xs = cc e in same ∙ sym (append-nil xs)

pub Holds-then : (a b c : Option (List ℕ)) (xs ys : List ℕ) → Holds a b xs → Extends b c ys → Holds a c (xs ++ ys)
Holds-then None None None xs ys p q = tt
Holds-then None None (Some c) xs ys p q = absurd q
Holds-then None (Some b) None xs ys p q = absurd q
Holds-then None (Some b) (Some c) xs ys p q = q ∙ ap (λ (zs : List ℕ). zs ++ ys) p
Holds-then (Some a) None c xs ys p q = absurd p
Holds-then (Some a) (Some b) None xs ys p q = absurd q
Holds-then (Some a) (Some b) (Some c) xs ys p q = q ∙ ap (λ (zs : List ℕ). zs ++ ys) p

pub Stands-then : (cert : List ℕ) (old mid new : Written) (file out block reply : List ℕ) → Stands cert old mid file out → Puts cert mid new block reply → Stands cert old new (file ++ block) (out ++ reply)
Stands-then cert old mid new file out block reply f p = record {
  certificate = Holds-then (old cert) (mid cert) (new cert) file block f.certificate p.file;
  output = Extends-then (old dash) (mid dash) (new dash) out reply f.output p.out;
  others = λ name a b. p.others name a b ∙ f.others name a b;
}

pub Stands-part : (cert : List ℕ) (old mid new : Written) (file out block reply : List ℕ) → Stands cert old mid file out → PutsPart cert mid new block reply → StandsPart cert old new file out block reply
Stands-part cert old mid new file out block reply f (inl p) = record {
  front = p.file.0;
  back = p.file.1;
  cut = inl (
    p.file.2,
    record {
      certificate = Holds-then (old cert) (mid cert) (new cert) file p.file.0 f.certificate p.file.3;
      output = subst (λ (o : Option (List ℕ)). Extends (old dash) o out) (sym p.out) f.output;
      others = λ name a b. p.others name a b ∙ f.others name a b;
    },
  );
}
Stands-part cert old mid new file out block reply f (inr p) = record {
  front = p.out.0;
  back = p.out.1;
  cut = inr (
    p.out.2,
    record {
      certificate = Holds-then (old cert) (mid cert) (new cert) file block f.certificate p.file;
      output = Extends-then (old dash) (mid dash) (new dash) out p.out.0 f.output p.out.3;
      others = λ name a b. p.others name a b ∙ f.others name a b;
    },
  );
}

pub OnlyWrites-then : (a b c : Seen) → OnlyWrites a b → OnlyWrites b c → OnlyWrites a c
OnlyWrites-then a b c p q = record {
  left = λ name. q.left name ∙ p.left name;
  sure = λ name. q.sure name ∙ p.sure name;
  reads_later = λ name. let h = p.reads_later name in let k = q.reads_later name in omega arith;
  writes_later = λ name. let h = p.writes_later name in let k = q.writes_later name in omega arith;
}

pub NoFault-then : (a b c : Seen) → NoFault a b → NoFault b c → NoFault a c
NoFault-then a b c p q = record {
  reads = λ name. q.reads name ∙ p.reads name;
  writes = λ name. q.writes name ∙ p.writes name;
}

pub NoFault-none : (a : Seen) → NoFault a a
NoFault-none a = record { reads = λ name. refl; writes = λ name. refl }

pub Rose-after : (a b c : ℕ) → a ≤ b → Rose b c → Rose a c
Rose-after a b c le rose = elim rose [ inl lt ↦ inl (omega arith) | inr end ↦ inr end ]

pub Rose-before : (a b c : ℕ) → Rose a b → b ≤ c → Rose a c
Rose-before a b c rose le = elim rose [ inl lt ↦ inl (omega arith) | inr end ↦ inr (omega arith) ]

pub CountsRose-after : (cert : List ℕ) (a b c : Seen) → OnlyWrites a b → CountsRose cert b c → CountsRose cert a c
CountsRose-after cert a b c p q = record {
  rose = elim q.rose [
    | inl h ↦ inl (Rose-after (a.write_faults cert) (b.write_faults cert) (c.write_faults cert) (p.writes_later cert) h)
    | inr h ↦ inr (Rose-after (a.write_faults dash) (b.write_faults dash) (c.write_faults dash) (p.writes_later dash) h)
  ];
}

pub HasRoom-less : (room : Option ℕ) (n m : ℕ) → m ≤ n → HasRoom room n → HasRoom room m
HasRoom-less None n m le h = h
HasRoom-less (Some r) n m le h = omega arith

pub HasRoom-lowered : (room : Option ℕ) (n k : ℕ) → HasRoom room n → HasRoom (lowered room k) (n - k)
HasRoom-lowered None n k h = h
HasRoom-lowered (Some r) n k h = omega arith

pub HasRoom-same : (a b : Option ℕ) (n : ℕ) → b ≡ a → HasRoom a n → HasRoom b n
HasRoom-same a b n e h = subst (λ (o : Option ℕ). HasRoom o n) (sym e) h
