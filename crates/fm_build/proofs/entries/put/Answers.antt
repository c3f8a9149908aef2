use Rattle.std.proofs.Common.{◌≡◌, ℕ, List, sym, ap, ◌∙◌}
use Rattle.std.specs.Prelude.{slice_get}
use Rattle.fm_build.specs.Entries.{entry_place, is_entry_of}
use Rattle.fm_build.proofs.Entering.{put_new, put_old}
use Rattle.fm_build.proofs.entries.put.Goals as goal

pub returns-then-is_there : goal.returns-then-is_there
returns-then-is_there c =
    let es = c.args.entries.now.items in
    let xs = c.args.tuple in
    let k = c.place_of-place.result in
    let there : c.is_there.result ≡ is_entry_of xs (slice_get es k) =
    c.is_there.ensures ∙ ap (λ (ys : List ℕ). is_entry_of ys (slice_get c.as_slice-3.result.now k)) c.as_slice-4.ensures ∙ ap (λ (l : List (List ℕ × ℕ)). is_entry_of xs (slice_get l k)) c.as_slice-3.ensures.value in
    put_old xs c.args.value es k c.requires (sym there ∙ c.if-is_there.true)

pub returns : goal.returns
returns c =
    let es = c.args.entries.now.items in
    let xs = c.args.tuple in
    let k = c.place_of-place.result in
    let there : c.is_there.result ≡ is_entry_of xs (slice_get es k) =
    c.is_there.ensures ∙ ap (λ (ys : List ℕ). is_entry_of ys (slice_get c.as_slice-3.result.now k)) c.as_slice-4.ensures ∙ ap (λ (l : List (List ℕ × ℕ)). is_entry_of xs (slice_get l k)) c.as_slice-3.ensures.value in
    let at : k ≡ entry_place es xs = c.place_of-place.ensures.place ∙ ap (λ (l : List (List ℕ × ℕ)). entry_place l c.as_slice-2.result.now) c.as_slice.ensures.value ∙ ap (entry_place es) c.as_slice-2.ensures in
    put_new xs c.args.value es c.insert.new.self.items k at c.requires (sym there ∙ c.if-is_there.false) c.in_ok-insert.ensures.items
