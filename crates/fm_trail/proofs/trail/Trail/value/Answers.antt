use Rattle.std.proofs.Common.{◌≡◌, List, length, refl, Some, slice_get, arith, ap, subst, sym, ◌∙◌}
use Rattle.fm_trail.specs.Trail.{place_of, value_of}
use Rattle.std.specs.Option.{option_map}
use Rattle.fm_trail.specs.declared.entry.Entry.{Entry}
use Rattle.fm_trail.proofs.Places.{place_some, value_at, value_by_place}
use Rattle.std.proofs.lemmas.Option.{slice_get_within, slice_get_read}
use Rattle.fm_trail.proofs.trail.Trail.value.Goals as goal

pub index-requires : goal.index-requires
index-requires c =
    let es = c.self.inside.entries.items in
    let q : es ≡ c.args.self.now.entries = ap (λ v. v.entries) c.self.view_is in
    let s = place_some es c.args.atom c.in-Some.place (subst (λ (xs : List Entry). place_of xs c.args.atom ≡ Some c.in-Some.place) (sym q) (sym c.place.ensures ∙ c.in-Some.is)) in
    omega (arith, slice_get_within es c.in-Some.place s.entry s.there)

pub returns-in-Some : goal.returns-in-Some
returns-in-Some c =
    let es = c.self.inside.entries.items in
    let q : es ≡ c.args.self.now.entries = ap (λ v. v.entries) c.self.view_is in
    let is = subst (λ (xs : List Entry). place_of xs c.args.atom ≡ Some c.in-Some.place) (sym q) (sym c.place.ensures ∙ c.in-Some.is) in
    let s = place_some es c.args.atom c.in-Some.place is in
    let lt = slice_get_within es c.in-Some.place s.entry s.there in
    let read : slice_get es c.in-Some.place ≡ Some c.index.result.now = slice_get_read es (length es) c.in-Some.place c.index.result.now refl lt c.index.ensures in
    subst (λ (xs : List Entry). Some c.index.result.now.lit.positive ≡ value_of xs c.args.atom) q (sym (value_by_place es c.args.atom ∙ (ap (value_at es) is ∙ ap (option_map (λ (e : Entry). e.lit.positive)) read)))

pub returns-in-None : goal.returns-in-None
returns-in-None c = sym (value_by_place c.args.self.now.entries c.args.atom ∙ ap (value_at c.args.self.now.entries) (sym c.place.ensures ∙ c.in-None.is))
