-- How entries are made of lists of names, one name after another.
use Rattle.std.proofs.Common.{◌≡◌, inl, inr, ℕ, Bool, true, false, ◌||◌, cond, is_some, List, [], ◌∷◌, ◌++◌, Option, Some, None, refl, sym, ap, subst}
use Rattle.std.specs.Prelude.{String, Vec, string_bytes}
use Rattle.std.specs.Str.{bytes_eq}
use Rattle.std.specs.declared.alloc.Global.{Global}
use Rattle.fm_files.specs.Entries.{left_of, sunk, free, IsFresh, GainsSource, GainsSink}
use Rattle.fm_files.specs.Memory.{content_of}
use Rattle.fm_files.specs.Seen.{SameButAt}
use Rattle.fm_files.specs.declared.entry.Entry.{Entry}
use Rattle.fm_files.proofs.Names.{name_told}

kept_step : (b : Bool) (x y z : Option (List ℕ)) (xs : List ℕ) → cond b x y ≡ Some xs → (y ≡ Some xs → z ≡ Some xs) → cond b x z ≡ Some xs
kept_step true x y z xs h step = h
kept_step false x y z xs h step = step h

new_step : (b : Bool) (v : List ℕ) (y z w : Option (List ℕ)) → cond b (Some v) y ≡ None → (y ≡ None → z ≡ w) → cond b (Some v) z ≡ w
new_step true v y z w h step = absurd (cc h)
new_step false v y z w h step = step h

-- a content that is found stays the first one
content_kept : (fs : List (String Global × Vec ℕ Global)) (f : String Global × Vec ℕ Global) (q xs : List ℕ) → content_of fs q ≡ Some xs → content_of (fs ++ f ∷ []) q ≡ Some xs
content_kept [] f q xs h = absurd (cc h)
content_kept (g ∷ gs) f q xs h =
    kept_step (bytes_eq q (string_bytes g.0)) (Some g.1.items) (content_of gs q) (content_of (gs ++ f ∷ []) q) xs h (content_kept gs f q xs)

content_new : (fs : List (String Global × Vec ℕ Global)) (f : String Global × Vec ℕ Global) (q : List ℕ) → content_of fs q ≡ None → content_of (fs ++ f ∷ []) q ≡ cond (bytes_eq q (string_bytes f.0)) (Some f.1.items) None
content_new [] f q h = refl
content_new (g ∷ gs) f q h =
    new_step (bytes_eq q (string_bytes g.0)) g.1.items (content_of gs q) (content_of (gs ++ f ∷ []) q) (cond (bytes_eq q (string_bytes f.0)) (Some f.1.items) None) h (content_new gs f q)

fresh_more : (e f : Option Entry) (o p : Option (List ℕ)) (named : Bool) (bytes : List ℕ) → IsFresh e o → GainsSource e f named bytes → ((xs : List ℕ) → o ≡ Some xs → p ≡ Some xs) → (o ≡ None → p ≡ cond named (Some bytes) None) → IsFresh f p
fresh_more (Some e) f (Some xs) p named bytes h gains kept new =
    subst (λ (v : Option Entry). IsFresh v p) (sym gains) (subst (λ (w : Option (List ℕ)). IsFresh (Some e) w) (sym (kept xs refl)) h)
fresh_more (Some e) f None p named bytes h gains kept new = let k : true ≡ false = h.there in absurd (cc k)
fresh_more None f (Some xs) p named bytes h gains kept new = let k : false ≡ true = h.there in absurd (cc k)
fresh_more None f None p false bytes h gains kept new =
    subst (λ (v : Option Entry). IsFresh v p) (sym gains) (subst (λ (w : Option (List ℕ)). IsFresh None w) (sym (new refl)) h)
fresh_more None f None p true bytes h gains kept new = subst (λ (w : Option (List ℕ)). IsFresh f w) (sym (new refl)) gains

pub fresh_then : (e e' : Option Entry) (fs : List (String Global × Vec ℕ Global)) (f : String Global × Vec ℕ Global) (q : List ℕ) → IsFresh e (content_of fs q) → GainsSource e e' (bytes_eq q (string_bytes f.0)) f.1.items → IsFresh e' (content_of (fs ++ f ∷ []) q)
fresh_then e e' fs f q h gains =
    fresh_more e e' (content_of fs q) (content_of (fs ++ f ∷ []) q) (bytes_eq q (string_bytes f.0)) f.1.items h gains (content_kept fs f q) (content_new fs f q)

unchanged : (e : Option Entry) (bytes : List ℕ) → GainsSource e e false bytes
unchanged None bytes = refl
unchanged (Some e) bytes = refl

pub source_gained : (old new : List ℕ → Option Entry) (name bytes : List ℕ) (e : Entry) → old name ≡ None → new name ≡ Some e → SameButAt old new name → left_of e.source ≡ Some bytes → sunk e.sink ≡ [] → free e.sink ≡ None → (e.read_faults ≡ 0) × (e.write_faults ≡ 0) → (q : List ℕ) → GainsSource (old q) (new q) (bytes_eq q name) bytes
source_gained old new name bytes e was is others left sunken roomless (reads, writes) q =
    let fresh : IsFresh (Some e) (Some bytes) = record { there = refl; left = left; sunken = sunken; roomless = roomless; reads = reads; writes = writes } in
    let at_name : GainsSource (old name) (new name) true bytes =
    subst (λ (v : Option Entry). GainsSource v (new name) true bytes) (sym was) (subst (λ (v : Option Entry). IsFresh v (Some bytes)) (sym is) fresh) in
    elim (name_told q name) [ inl same ↦ subst (λ (n : List ℕ). GainsSource (old n) (new n) (bytes_eq q name) bytes) (sym same.0) (subst (λ (b : Bool). GainsSource (old name) (new name) b bytes) (sym same.1) at_name) | inr other ↦ subst (λ (v : Option Entry). GainsSource (old q) v (bytes_eq q name) bytes) (sym (others q other.0)) (subst (λ (b : Bool). GainsSource (old q) (old q) b bytes) (sym other.1) (unchanged (old q) bytes)) ]

or_false : (b : Bool) → b ≡ (b || false)
or_false true = refl
or_false false = refl

roomless_same : (e : Option Entry) (room : ℕ) → GainsSink e e false room
roomless_same e room = record { there = or_false (is_some e); left = refl; sunken = λ h. h; roomy = refl; reads = refl; writes = refl }

pub sink_gained : (old new : List ℕ → Option Entry) (name : List ℕ) (e f : Option Entry) (room : ℕ) → old name ≡ e → new name ≡ f → SameButAt old new name → GainsSink e f true room → (q : List ℕ) → GainsSink (old q) (new q) (bytes_eq q name) room
sink_gained old new name e f room was is others gains q =
    let at_name : GainsSink (old name) (new name) true room =
    subst (λ (v : Option Entry). GainsSink v (new name) true room) (sym was) (subst (λ (v : Option Entry). GainsSink e v true room) (sym is) gains) in
    elim (name_told q name) [ inl same ↦ subst (λ (n : List ℕ). GainsSink (old n) (new n) (bytes_eq q name) room) (sym same.0) (subst (λ (b : Bool). GainsSink (old name) (new name) b room) (sym same.1) at_name) | inr other ↦ subst (λ (v : Option Entry). GainsSink (old q) v (bytes_eq q name) room) (sym (others q other.0)) (subst (λ (b : Bool). GainsSink (old q) (old q) b room) (sym other.1) (roomless_same (old q) room)) ]

pub sink_given : (e f : Entry) (room : ℕ) → sunk f.sink ≡ [] → free f.sink ≡ Some room → f.source ≡ e.source → (f.read_faults ≡ e.read_faults) × (f.write_faults ≡ e.write_faults) → GainsSink (Some e) (Some f) true room
sink_given e f room sunken roomy source (reads, writes) =
    record { there = refl; left = ap left_of source; sunken = λ h. sunken; roomy = roomy; reads = reads; writes = writes }

pub sink_made : (f : Entry) (room : ℕ) → left_of f.source ≡ None → sunk f.sink ≡ [] → free f.sink ≡ Some room → (f.read_faults ≡ 0) × (f.write_faults ≡ 0) → GainsSink None (Some f) true room
sink_made f room left sunken roomy (reads, writes) =
    record { there = refl; left = left; sunken = λ h. sunken; roomy = roomy; reads = reads; writes = writes }
