use Rattle.std.proofs.Common.{◌≡◌, ℕ, Bool, false, true, ◌||◌, List, length, map, subst, ap, ◌∙◌, arith, get_or}
use Rattle.std.proofs.lemmas.List.{length-map}
use Rattle.std.proofs.lemmas.List.FromFn.{get_or-map-range_with_len}
use Rattle.fm_bank.specs.Regions.{is_in}
use Rattle.fm_region.proofs.Ascending.{in_range}
use Rattle.fm_region.proofs.Naming.{filter_same}
use Rattle.fm_region.proofs.parts.join.Goals as goal

pub returns : goal.returns
returns c =
    let classes = c.args.classes.now in
    let none = c.in_ok-marks.marks.items in
    let e : none ≡ map (λ x. false) classes = c.in_ok-marks.ensures in
    let long = length-map {B = Bool} classes (λ (x : ℕ). false) in
    let size : length none ≡ length classes = ap length e ∙ long in
    let first = c.mark_all.ensures.length in
    let both = c.as_slice.ensures.value in
    let says : (d : ℕ) → is_in classes d ≡ true → get_or c.as_slice.result.now d false ≡ (is_in c.args.region.now d || is_in c.args.other.now d) = λ d h.
    let below = in_range 0 (length classes) d (subst (λ (cs : List ℕ). is_in cs d ≡ true) c.requires h) in
    let lt = below.1 in
    let no_mark : get_or none d false ≡ false = ap (λ (bs : List Bool). get_or bs d false) e ∙ (ap (λ (cs : List ℕ). get_or (map {B = Bool} (λ x. false) cs) d false) c.requires ∙ get_or-map-range_with_len {X = Bool} (λ x. false) 0 (length classes) d d false (omega (arith, lt)) (omega arith)) in
    ap (λ (bs : List Bool). get_or bs d false) both
    ∙ (c.mark_all-2.ensures.marked d (omega (arith, lt, size, first))
    ∙ (ap (λ b. b || is_in c.args.other.now d) (c.mark_all.ensures.marked d (omega (arith, lt, size)))
    ∙ ap (λ b. (b || is_in c.args.region.now d) || is_in c.args.other.now d) no_mark)) in
    c.in_ok-both.ensures ∙ filter_same (λ x. get_or c.as_slice.result.now x false) (λ x. is_in c.args.region.now x || is_in c.args.other.now x) classes says
