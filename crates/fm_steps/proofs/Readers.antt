-- What a reader has read goes back with the trail.
use Rattle.std.proofs.Common.{◌≡◌, ℕ, zero, suc, ◌<◌, ◌≤◌, min, Bool, true, false, cond, List, [], ◌∷◌, length, take, inl, inr, refl, sym, ap, ◌∙◌, arith}
use Rattle.std.specs.Prelude.{nat_le}
use Rattle.std.proofs.lemmas.Bool.{cases_lt, leb-false}
use Rattle.std.proofs.lemmas.List.{take_all}
use Rattle.fm_base.specs.declared.ids.Reader.{Reader}
use Rattle.fm_trail.specs.declared.entry.Entry.{Entry}
use Rattle.fm_trail.specs.declared.heads.Heads.{Heads}
use Rattle.fm_trail.specs.Trail.{AreLevelled, head_of, heads_back, level_of, levels_of, up_to}
use Rattle.fm_trail.proofs.Going.{levels_back, up_to_all}
use Rattle.fm_trail.proofs.Levels.{levelled_front, up_to_none}
use Rattle.fm_steps.specs.Facts.{TrailIsExplained}
use Rattle.fm_steps.specs.State.{State, back_to, read_by}

take_step : (h level : ℕ) (e : Entry) (es : List Entry) (b : Bool) → nat_le e.level level ≡ b → AreLevelled e.level es → up_to level (take h es) ≡ take h (up_to level es) → cond b (e ∷ up_to level (take h es)) (up_to level (take h es)) ≡ take (suc h) (cond b (e ∷ up_to level es) (up_to level es))
take_step h level e es true is levels rec = ap (λ (xs : List Entry). e ∷ xs) rec
take_step h level e es false is levels rec =
    let high = leb-false e.level level is in
    up_to_none e.level level (take h es) (levelled_front e.level es h levels) high ∙ sym (ap (take (suc h)) (up_to_none e.level level es levels high))

-- a front of the trail and going back commute
up_to_take : (n h level : ℕ) (es : List Entry) → AreLevelled n es → up_to level (take h es) ≡ take h (up_to level es)
up_to_take n zero level es levels = refl
up_to_take n (suc h) level [] levels = refl
up_to_take n (suc h) level (e ∷ es) levels = take_step h level e es (nat_le e.level level) refl levels.1 (up_to_take e.level h level es levels.1)

take_min : (n : ℕ) (es : List Entry) → take (min n (length es)) es ≡ take n es
take_min n es =
    elim (cases_lt (length es) n) [
      | inl more ↦ (let m : min n (length es) ≡ length es = omega (arith, more) in
          ap (λ (k : ℕ). take k es) m ∙ (take_all (length es) es (omega arith) ∙ sym (take_all n es (omega (arith, more)))))
      | inr less ↦ (let m : min n (length es) ≡ n = omega (arith, less) in ap (λ (k : ℕ). take k es) m)
    ]

head_back : (r : Reader) (h : Heads) (end : ℕ) → head_of (heads_back end h) r ≡ min (head_of h r) end
head_back Reader.Congruence h end = refl
head_back Reader.Regions h end = refl
head_back Reader.Sum h end = refl
head_back Reader.Instances h end = refl

pub read_back : (s : State) (r : Reader) (level : ℕ) → TrailIsExplained s → read_by r (back_to level s) ≡ up_to level (read_by r s)
read_back s r level h =
    let es = s.trail.entries in
    let back = up_to level es in
    ap (λ (k : ℕ). take k back) (head_back r s.trail.heads (length back))
    ∙ (take_min (head_of s.trail.heads r) back ∙ sym (up_to_take 0 (head_of s.trail.heads r) level es h.levels))

pub levels_close : (s : State) (r : Reader) (level : ℕ) → TrailIsExplained s → level < level_of (read_by r s) → levels_of (up_to level (read_by r s)) ≡ take level (levels_of (read_by r s))
levels_close s r level h lt = levels_back (read_by r s) level (levelled_front 0 s.trail.entries (head_of s.trail.heads r) h.levels) lt

pub read_stays : (s : State) (r : Reader) (level : ℕ) → TrailIsExplained s → level_of (read_by r s) ≤ level → up_to level (read_by r s) ≡ read_by r s
read_stays s r level h le = up_to_all 0 level (read_by r s) (levelled_front 0 s.trail.entries (head_of s.trail.heads r) h.levels) (omega (arith, le))
