use Rattle.std.proofs.Common.{◌≡◌, ℕ, List, Some, None, slice_get, ap, subst, sym, ◌∙◌}
use Rattle.fm_trail.specs.Trail.{place_of}
use Rattle.fm_trail.specs.declared.entry.Entry.{Entry}
use Rattle.fm_trail.proofs.Places.{absent, found}
use Rattle.fm_trail.proofs.trail.Trail.place.Goals as goal

pub returns-in-Some-entry_at : goal.returns-in-Some-entry_at
returns-in-Some-entry_at c =
    let es = c.self.inside.entries.items in
    let q : es ≡ c.args.self.now.entries = ap (λ v. v.entries) c.self.view_is in
    let p = c.in-Some.place in
    let e = c.in-Some-entry_at.entry in
    let there = subst (λ (xs : List Entry). slice_get xs p ≡ Some e) c.as_slice-in-Some.ensures.value (sym c.entry_at.ensures ∙ c.in-Some-entry_at.is) in
    subst (λ (xs : List Entry). Some p ≡ place_of xs c.args.atom) q (found es c.self.inside.places.items c.args.atom p c.self.invariant.placed (record { entry = e; there = there; same = c.if-entry-atom.true }))

pub returns-in_default : goal.returns-in_default
returns-in_default c =
    let es = c.self.inside.entries.items in
    let q : es ≡ c.args.self.now.entries = ap (λ v. v.entries) c.self.view_is in
    let at = subst (λ (xs : List ℕ). slice_get xs c.args.atom.0 ≡ Some c.in-Some.place) c.as_slice.ensures.value (sym c.place_at.ensures ∙ c.in-Some.is) in
    let there = subst (λ (xs : List Entry). slice_get xs c.in-Some.place ≡ Some c.in-Some-entry_at.entry) c.as_slice-in-Some.ensures.value (sym c.entry_at.ensures ∙ c.in-Some-entry_at.is) in
    subst (λ (xs : List Entry). None ≡ place_of xs c.args.atom) q (absent es c.self.inside.places.items c.args.atom c.self.invariant.placed (λ p here s.
    let same : c.in-Some.place ≡ p = (let e = sym at ∙ here in cc) in
    let it : s.entry ≡ c.in-Some-entry_at.entry = (let e = sym s.there ∙ subst (λ (n : ℕ). slice_get es n ≡ Some c.in-Some-entry_at.entry) same there in cc) in
    c.if-entry-atom.false (subst (λ (f : Entry). f.lit.atom.0 ≡ c.args.atom.0) it s.same)))

pub returns-in_default-2 : goal.returns-in_default-2
returns-in_default-2 c =
    let es = c.self.inside.entries.items in
    let q : es ≡ c.args.self.now.entries = ap (λ v. v.entries) c.self.view_is in
    let at = subst (λ (xs : List ℕ). slice_get xs c.args.atom.0 ≡ Some c.in-Some.place) c.as_slice.ensures.value (sym c.place_at.ensures ∙ c.in-Some.is) in
    let none = subst (λ (xs : List Entry). slice_get xs c.in-Some.place ≡ None) c.as_slice-in-Some.ensures.value (sym c.entry_at.ensures ∙ c.in_default.is) in
    subst (λ (xs : List Entry). None ≡ place_of xs c.args.atom) q (absent es c.self.inside.places.items c.args.atom c.self.invariant.placed (λ p here s.
    let same : p ≡ c.in-Some.place = (let e = sym here ∙ at in cc) in
    let there = subst (λ (n : ℕ). slice_get es n ≡ Some s.entry) same s.there in
    (let bad : Some s.entry ≡ None = sym there ∙ none in cc)))

pub returns-in-None : goal.returns-in-None
returns-in-None c =
    let es = c.self.inside.entries.items in
    let q : es ≡ c.args.self.now.entries = ap (λ v. v.entries) c.self.view_is in
    let at = subst (λ (xs : List ℕ). slice_get xs c.args.atom.0 ≡ None) c.as_slice.ensures.value (sym c.place_at.ensures ∙ c.in-None.is) in
    subst (λ (xs : List Entry). None ≡ place_of xs c.args.atom) q (absent es c.self.inside.places.items c.args.atom c.self.invariant.placed (λ p here s. (let bad : Some p ≡ None = sym here ∙ at in cc)))
