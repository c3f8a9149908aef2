use Rattle.std.proofs.Common.{◌≡◌, ℕ, List, sym, ap, subst, ◌∙◌, arith}
use Rattle.std.specs.Prelude.{slice_set}
use Rattle.fm_cells.specs.Forest.{merged}
use Rattle.fm_cells.specs.Rings.{AreRings, both as both_of, changed, own_or, root_or, swapped}
use Rattle.fm_cells.specs.declared.rings.Root.{Root}
use Rattle.fm_cells.proofs.Logging.{logged_more}
use Rattle.fm_cells.proofs.Relabeling.{own_at, root_at, root_size, size_fits}
use Rattle.fm_cells.proofs.Splicing.{changed_by_write, merged_by_labels, rings_joined, swapped_by_writes}
use Rattle.fm_cells.proofs.rings.Classes.union.Goals as goal

pub both-root-requires : goal.both-root-requires
both-root-requires c =
    let s = c.args.self.now in
    let a = size_fits s.next.cells.items s.class.cells.items s.size.cells.items c.args.a (c.requires.rings.rings c.args.a c.requires.root_a) c.requires.a in
    let b = size_fits s.next.cells.items s.class.cells.items s.size.cells.items c.args.b (c.requires.rings.rings c.args.b c.requires.root_b) c.requires.b in
    omega (arith, a, b, root_size s.size.cells.items c.args.a c.get.result c.get.ensures, root_size s.size.cells.items c.args.b c.get-2.result c.get-2.ensures, s.class.cells.ok.0, s.class.cells.small)

pub returns-in_err-set-2-clause-next_logged : goal.returns-in_err-set-2-clause-next_logged
returns-in_err-set-2-clause-next_logged c =
    let s = c.args.self.now.next in
    logged_more s.log.items c.set.new.self.log.items c.set-2.new.self.log.items s.cells.items c.set.new.self.cells.items c.set-2.new.self.cells.items c.in_ok-set.ensures.logged c.in_err-set-2.ensures.logged

pub returns-in_err-set-3-clause-next_logged : goal.returns-in_err-set-3-clause-next_logged
returns-in_err-set-3-clause-next_logged c =
    let s = c.args.self.now.next in
    logged_more s.log.items c.set.new.self.log.items c.set-2.new.self.log.items s.cells.items c.set.new.self.cells.items c.set-2.new.self.cells.items c.in_ok-set.ensures.logged c.in_ok-set-2.ensures.logged

pub returns-clause-next_logged : goal.returns-clause-next_logged
returns-clause-next_logged c =
    let s = c.args.self.now.next in
    logged_more s.log.items c.set.new.self.log.items c.set-2.new.self.log.items s.cells.items c.set.new.self.cells.items c.set-2.new.self.cells.items c.in_ok-set.ensures.logged c.in_ok-set-2.ensures.logged

pub returns-clause-classes : goal.returns-clause-classes
returns-clause-classes c = λ x. c.in_ok-relabel.ensures.cells x ∙ merged_by_labels (own_or c.args.self.now.class.cells.items) c.args.a c.args.b x c.requires.root_a c.requires.root_b

pub returns-clause-rings : goal.returns-clause-rings
returns-clause-rings c =
    let s = c.args.self.now in
    let a = c.args.a in
    let b = c.args.b in
    let class : ℕ → ℕ = own_or s.class.cells.items in
    let next : ℕ → ℕ = own_or s.next.cells.items in
    let roots : ℕ → Root = root_or s.size.cells.items in
    let joined = rings_joined next class roots c.requires.rings a b c.requires.root_a c.requires.root_b c.requires.differ in
    let writes : c.set-2.new.self.cells.items ≡ slice_set (slice_set s.next.cells.items a c.get-after_b.result) b c.get-after_a.result = c.in_ok-set-2.ensures.cells ∙ ap (λ (xs : List ℕ). slice_set xs b c.get-after_a.result) c.in_ok-set.ensures.cells in
    let next_is : (x : ℕ) → swapped next a b x ≡ own_or c.set-2.new.self.cells.items x = λ x. sym (ap (λ (xs : List ℕ). own_or xs x) writes ∙ swapped_by_writes s.next.cells.items a b c.get-after_a.result c.get-after_b.result (omega (arith, c.requires.a, c.requires.nexts)) (omega (arith, c.requires.b, c.requires.nexts)) c.requires.differ (own_at s.next.cells.items a c.get-after_a.result c.get-after_a.ensures) (own_at s.next.cells.items b c.get-after_b.result c.get-after_b.ensures) x) in
    let class_is : (x : ℕ) → merged class a b x ≡ own_or c.relabel.new.class.cells.items x = λ x. sym (c.in_ok-relabel.ensures.cells x ∙ merged_by_labels class a b x c.requires.root_a c.requires.root_b) in
    let root : both_of c.get.result c.get-2.result ≡ both_of (roots a) (roots b) = λ i. both_of (sym (root_at s.size.cells.items a c.get.result c.get.ensures) i) (sym (root_at s.size.cells.items b c.get-2.result c.get-2.ensures) i) in
    let root_is : (x : ℕ) → changed roots b (both_of (roots a) (roots b)) x ≡ root_or c.set-3.new.self.cells.items x = λ x. sym (ap (λ (xs : List Root). root_or xs x) c.in_ok-set-3.ensures.cells ∙ (changed_by_write s.size.cells.items b c.both-root.result (omega (arith, c.requires.b, c.requires.sizes)) x ∙ ap (λ (v : Root). changed roots b v x) (c.both-root.ensures ∙ root))) in
    subst (λ (n : ℕ → ℕ). AreRings n (own_or c.relabel.new.class.cells.items) (root_or c.set-3.new.self.cells.items)) (λ i x. next_is x i)
    (subst (λ (cl : ℕ → ℕ). AreRings (swapped next a b) cl (root_or c.set-3.new.self.cells.items)) (λ i x. class_is x i)
    (subst (λ (rs : ℕ → Root). AreRings (swapped next a b) (merged class a b) rs) (λ i x. root_is x i) joined))
