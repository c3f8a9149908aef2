-- Entries of level 0 read one after the other, as the tests read them.
use Rattle.std.proofs.Common.{◌≡◌, ◌++◌, ◌∷◌, if◌then◌else◌, [], length, ap, ◌∙◌, arith}
use Rattle.fm_bank.specs.Interning.{Held}
use Rattle.fm_cong.specs.Held.{Held as Graph}
use Rattle.fm_trail.specs.Trail.{decisions_in, is_decided}
use Rattle.fm_trail.specs.declared.entry.Entry.{Entry}
use Rattle.fm_trail.specs.declared.entry.Why.{Why}
use Rattle.fm_trail.proofs.Going.{level_push}
use Rattle.fm_trail.proofs.Levels.{levelled_push}
use Rattle.fm_readers.specs.Graphs.{HasTerms, ReadsOn}
use Rattle.fm_readers.specs.Tested.{HasReadSome}

pub reads_some : (held : Held) (e : Entry) (g h : Graph) → e.level ≡ 0 → e.why ≡ Why.Clause 0 → HasReadSome held g → HasTerms held (length held.terms) h → ReadsOn held e g h → HasReadSome held h
reads_some held e g h level why some terms on =
    let none : decisions_in e ≡ 0 = ap (λ (w : Why). if is_decided w then 1 else 0) why in
    let levelled = levelled_push 0 some.entries e some.levelled (let f = some.flat in omega (arith, level, none, f)) in
    record {
      terms = terms;
      entries = some.entries ++ e ∷ [];
      levelled = levelled;
      flat = level_push some.entries e ∙ (let f = some.flat in omega (arith, none, f));
      read = on some.entries levelled some.read;
    }
