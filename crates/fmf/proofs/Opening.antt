-- A certificate's file that wasn't made, or not with its whole header; and an answer that was cut off.
use Rattle.std.proofs.Common.{◌≡◌, ◌≢◌, List, [], ℕ, ◌⊎◌, inl, inr, refl, Option, sym, subst, ◌∙◌}
use Rattle.fm_files.specs.Seen.{Extends, SameByName, WritesAt, Seen, Holds, ExtendsPart}
use Rattle.fmf.specs.Filing.{PutsPart, StandsPart}
use Rattle.fmf.specs.Words.{dash}
use Rattle.fmf.proofs.Filings.{same_everywhere, Extends-none, Holds-then}

pub not_begun : (cert : List ℕ) (old new : Seen) (bs : List ℕ) → cert ≢ dash → (new.written cert ≡ old.written cert) ⊎ Holds (old.written cert) (new.written cert) [] → WritesAt old new cert → SameByName old.written new.written ⊎ StandsPart cert old.written new.written [] [] bs []
not_begun cert old new bs apart begins at =
    elim begins [
      | inl same ↦ inl (same_everywhere old.written new.written cert at.others same)
      | inr emptied ↦ inr (record {
        front = [];
        back = bs;
        cut = inl (
          refl,
          record {
            certificate = emptied;
            output = Extends-none (old.written dash) (new.written dash) (at.others dash (λ e. apart (sym e)));
            others = λ name a b. at.others name a;
          },
        );
      })
    ]

pub not_headed : (cert : List ℕ) (old mid new : Seen) (text bs : List ℕ) → cert ≢ dash → text ≡ bs → Holds (old.written cert) (mid.written cert) [] → WritesAt old mid cert → ExtendsPart (mid.written cert) (new.written cert) text → WritesAt mid new cert → SameByName old.written new.written ⊎ StandsPart cert old.written new.written [] [] bs []
not_headed cert old mid new text bs apart same emptied at part then = inr (record {
  front = part.0;
  back = part.1;
  cut = inl (
    sym same ∙ part.2,
    record {
      certificate = Holds-then (old.written cert) (mid.written cert) (new.written cert) [] part.0 emptied part.3;
      output = Extends-none (old.written dash) (new.written dash) (then.others dash (λ e. apart (sym e)) ∙ at.others dash (λ e. apart (sym e)));
      others = λ name a b. then.others name a ∙ at.others name a;
    },
  );
})

pub cut_in_block : (cert : List ℕ) (old new : Seen) (block reply : List ℕ) → cert ≢ dash → ExtendsPart (old.written cert) (new.written cert) block → WritesAt old new cert → PutsPart cert old.written new.written block reply
cut_in_block cert old new block reply apart part at = inl (record { file = part; out = at.others dash (λ e. apart (sym e)); others = λ name a b. at.others name a })

pub cut_in_reply : (cert : List ℕ) (old mid new : Seen) (block reply : List ℕ) → cert ≢ dash → Extends (old.written cert) (mid.written cert) block → WritesAt old mid cert → ExtendsPart (mid.written dash) (new.written dash) reply → WritesAt mid new dash → PutsPart cert old.written new.written block reply
cut_in_reply cert old mid new block reply apart whole at part then = inr (record {
  file = subst (λ (o : Option (List ℕ)). Extends (old.written cert) o block) (sym (then.others cert apart)) whole;
  out = subst (λ (o : Option (List ℕ)). ExtendsPart o (new.written dash) reply) (at.others dash (λ e. apart (sym e))) part;
  others = λ name a b. then.others name b ∙ at.others name a;
})
