-- The graphs stay tied to the state as their readers read on.
use Rattle.std.proofs.Common.{◌≡◌, ℕ, ◌+◌, List, ◌∷◌, [], ◌++◌, length, take, Some, refl, sym, ap, subst, ◌∙◌}
use Rattle.std.specs.Prelude.{slice_get}
use Rattle.fm_bank.specs.Interning.{Held}
use Rattle.fm_base.specs.declared.ids.Reader.{Reader}
use Rattle.fm_cong.specs.Held.{Held as Graph}
use Rattle.fm_readers.specs.Graphs.{HasTerms, IsGraphOf, ReadsOn}
use Rattle.fm_steps.specs.State.{State, read_by, read_one}
use Rattle.fm_trail.specs.Trail.{AreLevelled, head_of, with_head}
use Rattle.fm_trail.specs.declared.entry.Entry.{Entry}
use Rattle.fm_trail.specs.declared.heads.Heads.{Heads}
use Rattle.fm_trail.proofs.Levels.{levelled_front}
use Rattle.fm_machine.specs.Ties.{AreTied}
use Rattle.fm_machine.proofs.Fronts.{take_next}

head_same : (h : Heads) (r : Reader) (n : ℕ) → head_of (with_head h r n) r ≡ n
head_same h Reader.Congruence n = refl
head_same h Reader.Regions n = refl
head_same h Reader.Sum n = refl
head_same h Reader.Instances n = refl

-- the graph of the reader that reads on
reads : (s : State) (r : Reader) (bank : Held) (e : Entry) (g k : Graph) → bank ≡ s.held → AreLevelled 0 s.trail.entries → slice_get s.trail.entries (head_of s.trail.heads r) ≡ Some e → IsGraphOf s.held (read_by r s) g
    → HasTerms bank (length bank.terms) k → ReadsOn bank e g k → IsGraphOf s.held (read_by r (read_one r s)) k
reads s r bank e g k held levels at tied terms on =
    let head = head_of s.trail.heads r in
    let es = s.trail.entries in
    let more : take (head + 1) es ≡ read_by r s ++ e ∷ [] = take_next head es e at in
    let is : read_by r (read_one r s) ≡ read_by r s ++ e ∷ [] = ap (λ n. take n es) (head_same s.trail.heads r (head + 1)) ∙ more in
    let levelled = subst (AreLevelled 0) more (levelled_front 0 es (head + 1) levels) in
    subst (λ (xs : List Entry). IsGraphOf s.held xs k) (sym is) (record {
      terms = subst (λ (b : Held). HasTerms b (length b.terms) k) held terms;
      read = subst (λ (b : Held). ReadsOn b e g k) held on (read_by r s) levelled tied.read;
    })

pub congruence_reads : (s t : State) (r : Reader) (bank : Held) (e : Entry) (g k h : Graph) → r ≡ Reader.Congruence → t ≡ read_one r s → bank ≡ t.held → AreTied s g h → AreLevelled 0 s.trail.entries
    → slice_get s.trail.entries (head_of s.trail.heads r) ≡ Some e → HasTerms bank (length bank.terms) k → ReadsOn bank e g k → AreTied t k h
congruence_reads s t r bank e g k h is after held tied levels at terms on =
    let here = subst (λ (x : Reader). slice_get s.trail.entries (head_of s.trail.heads x) ≡ Some e) is at in
    let now : t ≡ read_one Reader.Congruence s = after ∙ ap (λ (x : Reader). read_one x s) is in
    subst (λ (x : State). AreTied x k h) (sym now) (record {
      congruence = reads s Reader.Congruence bank e g k (held ∙ ap (λ (x : State). x.held) now) levels here tied.congruence terms on;
      regions = tied.regions;
    })

pub regions_read : (s t : State) (r : Reader) (bank : Held) (e : Entry) (g h k : Graph) → r ≡ Reader.Regions → t ≡ read_one r s → bank ≡ t.held → AreTied s g h → AreLevelled 0 s.trail.entries
    → slice_get s.trail.entries (head_of s.trail.heads r) ≡ Some e → HasTerms bank (length bank.terms) k → ReadsOn bank e h k → AreTied t g k
regions_read s t r bank e g h k is after held tied levels at terms on =
    let here = subst (λ (x : Reader). slice_get s.trail.entries (head_of s.trail.heads x) ≡ Some e) is at in
    let now : t ≡ read_one Reader.Regions s = after ∙ ap (λ (x : Reader). read_one x s) is in
    subst (λ (x : State). AreTied x g k) (sym now) (record {
      congruence = tied.congruence;
      regions = reads s Reader.Regions bank e h k (held ∙ ap (λ (x : State). x.held) now) levels here tied.regions terms on;
    })
