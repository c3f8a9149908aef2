use Rattle.std.proofs.Common.{◌≡◌, ◌≤◌, ◌∙◌, List, ap, length, sym, subst, take}
use Rattle.fm_base.specs.declared.ids.TermId.{TermId}
use Rattle.fm_cells.specs.Apart.{AreKeys}
use Rattle.fm_cells.specs.declared.apart.Between.{Between}
use Rattle.fm_cells.proofs.Keying.{keys_cut, places_fewer, take_fewer, take_length}
use Rattle.fm_cells.proofs.apart.Apart.rewind.Goals as goal

pub returns-clause-right : goal.returns-clause-right
returns-clause-right c = λ class at whole.
    let a = c.args.self.now in
    let b = c.drop_pairs.new.self in
    let cut = c.args.cut in
    let e = c.drop_pairs.ensures in
    let keys : c.truncate.new.self.keys ≡ take cut.keys a.keys.keys = c.truncate.ensures.keys ∙ ap (λ k. take cut.keys k.keys) e.keys in
    subst (λ (ks : List Between). AreKeys class b.pairs.items b.sides.items ks cut.joined) (sym keys)
    (subst (λ (ps : List (TermId × TermId)). AreKeys class ps b.sides.items (take cut.keys a.keys.keys) cut.joined) (sym e.pairs) (keys_cut class cut.pairs a.pairs.items a.sides.items b.sides.items (take cut.keys a.keys.keys) cut.joined e.sides (at.right whole)))

pub returns-clause-below : goal.returns-clause-below
returns-clause-below c = λ class d few fewer at.
    let a = c.args.self.now in
    let b = c.drop_pairs.new.self in
    let cut = c.args.cut in
    let e = c.drop_pairs.ensures in
    let keys : c.truncate.new.self.keys ≡ take cut.keys a.keys.keys = c.truncate.ensures.keys ∙ ap (λ k. take cut.keys k.keys) e.keys in
    let pairs : take d.pairs b.pairs.items ≡ take d.pairs a.pairs.items = ap (take d.pairs) e.pairs ∙ take_fewer d.pairs cut.pairs a.pairs.items few in
    let front : take d.keys c.truncate.new.self.keys ≡ take d.keys a.keys.keys = ap (take d.keys) keys ∙ take_fewer d.keys cut.keys a.keys.keys fewer in
    let kept = places_fewer d.pairs cut.pairs a.sides.items b.sides.items few e.sides in
    record {
      pairs = subst (λ (ps : List (TermId × TermId)). d.pairs ≤ length ps) (sym e.pairs) (take_length d.pairs cut.pairs a.pairs.items few at.pairs);
      keys = subst (λ (ks : List Between). d.keys ≤ length ks) (sym keys) (take_length d.keys cut.keys a.keys.keys fewer at.keys);
      right = λ whole.
          subst (λ (ks : List Between). AreKeys class (take d.pairs b.pairs.items) b.sides.items ks d.joined) (sym front)
          (subst (λ (ps : List (TermId × TermId)). AreKeys class ps b.sides.items (take d.keys a.keys.keys) d.joined) (sym pairs) (keys_cut class d.pairs a.pairs.items a.sides.items b.sides.items (take d.keys a.keys.keys) d.joined kept (at.right whole)));
    }
