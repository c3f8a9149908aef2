-- The trail goes back to a level that isn't below the present one.
use Rattle.std.proofs.Common.{◌≡◌, ℕ, ◌≤◌, min, length, sym, ap, ◌∙◌, arith}
use Rattle.fm_base.specs.declared.ids.Reader.{Reader}
use Rattle.fm_steps.specs.Facts.{HeadsAreWithin}
use Rattle.fm_steps.specs.State.{State, back_to}
use Rattle.fm_trail.specs.Trail.{AreLevelled, AreWithin, heads_back, level_of, up_to}
use Rattle.fm_trail.specs.declared.heads.Heads.{Heads}
use Rattle.fm_trail.proofs.Going.{up_to_all}

heads_stay : (h : Heads) (n : ℕ) → AreWithin h n → h ≡ heads_back n h
heads_stay h n within =
    let a : h.congruence ≡ min h.congruence n = (let l = within Reader.Congruence in omega (arith, l)) in
    let b : h.regions ≡ min h.regions n = (let l = within Reader.Regions in omega (arith, l)) in
    let c : h.sum ≡ min h.sum n = (let l = within Reader.Sum in omega (arith, l)) in
    let d : h.instances ≡ min h.instances n = (let l = within Reader.Instances in omega (arith, l)) in
    λ i. record { congruence = a i; regions = b i; sum = c i; instances = d i }

pub back_same : (s : State) (level : ℕ) → AreLevelled 0 s.trail.entries → level_of s.trail.entries ≤ level → HeadsAreWithin s → s ≡ back_to level s
back_same s level levels le within =
    let all : up_to level s.trail.entries ≡ s.trail.entries = up_to_all 0 level s.trail.entries levels (omega (arith, le)) in
    let heads : s.trail.heads ≡ heads_back (length (up_to level s.trail.entries)) s.trail.heads = heads_stay s.trail.heads (length s.trail.entries) within ∙ ap (λ es. heads_back (length es) s.trail.heads) (sym all) in
    let trail : s.trail ≡ record { entries = up_to level s.trail.entries; heads = heads_back (length (up_to level s.trail.entries)) s.trail.heads } = λ i. record { entries = sym all i; heads = heads i } in
    λ i. record s { trail = trail i }
