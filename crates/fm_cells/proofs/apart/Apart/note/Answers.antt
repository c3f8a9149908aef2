use Rattle.std.proofs.Common.{◌≡◌, ℕ, ◌++◌, ◌∷◌, ◌∙◌, ◌||◌, true, List, [], ap, subst, sym}
use Rattle.std.specs.List.{Contains}
use Rattle.std.proofs.lemmas.Bool.{false≢true, or_left, or_right}
use Rattle.fm_base.specs.declared.ids.TermId.{TermId}
use Rattle.fm_cells.specs.Apart.{AreKeys, IsLonger, places_at}
use Rattle.fm_cells.specs.Rings.{own_or}
use Rattle.fm_cells.specs.declared.apart.Apart.{Apart}
use Rattle.fm_cells.proofs.Keying.{cuts_kept, keys_noted}
use Rattle.fm_cells.proofs.apart.Apart.note.Goals.{in-Ok, in-Err}
use Rattle.fm_cells.proofs.apart.Apart.note.Goals as goal

pub returns-clause-cuts : goal.returns-clause-cuts
returns-clause-cuts c =
    let a = c.args.self.now in
    let m = c.match-enter_new.self in
    let b : Apart = record { pairs = c.put_pair.new.pairs; sides = m.sides; keys = m.keys; joined = m.joined; whole = m.whole } in
    let e = c.enter_new.ensures in
    let pairs : m.pairs.items ≡ a.pairs.items = elim c.match-enter_new.branch [
      | in-Ok w ↦ ap (λ (s : Apart). s.pairs.items) w.self-is ∙ ap (λ v. v.items) e.pairs
      | in-Err w ↦ ap (λ (s : Apart). s.pairs.items) w.self-is ∙ ap (λ v. v.items) e.pairs
    ] in
    let sides : (x n : ℕ) → Contains (places_at a.sides.items x) n → Contains (places_at m.sides.items x) n = λ x n h. elim c.match-enter_new.branch [
      | in-Ok w ↦ subst (λ (s : Apart). Contains (places_at s.sides.items x) n) (sym w.self-is) (e.kept x n h)
      | in-Err w ↦ subst (λ (s : Apart). Contains (places_at s.sides.items x) n) (sym w.self-is) (e.kept x n h)
    ] in
    let keys : IsLonger a.keys.keys m.keys.keys = elim c.match-enter_new.branch [
      | in-Ok w ↦ subst (λ (s : Apart). IsLonger a.keys.keys s.keys.keys) (sym w.self-is) e.keys
      | in-Err w ↦ subst (λ (s : Apart). IsLonger a.keys.keys s.keys.keys) (sym w.self-is) e.keys
    ] in
    cuts_kept a b (c.args.pair ∷ []) (c.put_pair.ensures ∙ ap (λ ps. ps ++ c.args.pair ∷ []) pairs) sides keys

pub returns-clause-indexed : goal.returns-clause-indexed
returns-clause-indexed c = λ roots indexed whole.
    let a = c.args.self.now in
    let n = c.enter_new.new.self in
    let class = own_or c.args.class.now.cells.items in
    let p = c.args.pair in
    let Keys : Apart → Type 0 = λ s. AreKeys class (a.pairs.items ++ p ∷ []) s.sides.items s.keys.keys s.joined in
    let all : AreKeys class (a.pairs.items ++ p ∷ []) c.match-enter_new.self.sides.items c.match-enter_new.self.keys.keys c.match-enter_new.self.joined = elim c.match-enter_new.branch [
      | in-Ok w ↦
          let e = w.in-Ok.ensures in
          let k = w.in-Ok.joined in
          let was : a.whole ≡ true = sym e.whole ∙ (sym (ap (λ (s : Apart). s.whole) w.self-is) ∙ whole) in
          let old = indexed was in
          subst Keys (sym w.self-is) (keys_noted class roots a.pairs.items a.sides.items n.sides.items a.keys.keys n.keys.keys a.joined (n.joined || k) p e.kept e.sides e.keys (λ j. or_left n.joined k (e.joined ∙ j)) (record { key = e.entered.key; joins = λ same. or_right n.joined k (e.entered.joins same) }) e.sound old)
      | in-Err w ↦ absurd (false≢true (sym (ap (λ (s : Apart). s.whole) w.self-is) ∙ whole))
    ] in
    let pairs : c.match-enter_new.self.pairs.items ≡ a.pairs.items = elim c.match-enter_new.branch [
      | in-Ok w ↦ ap (λ (s : Apart). s.pairs.items) w.self-is ∙ ap (λ v. v.items) c.enter_new.ensures.pairs
      | in-Err w ↦ ap (λ (s : Apart). s.pairs.items) w.self-is ∙ ap (λ v. v.items) c.enter_new.ensures.pairs
    ] in
    subst (λ (ps : List (TermId × TermId)). AreKeys class ps c.match-enter_new.self.sides.items c.match-enter_new.self.keys.keys c.match-enter_new.self.joined) (sym (c.put_pair.ensures ∙ ap (λ ps. ps ++ p ∷ []) pairs)) all
