-- Pairs that stand one behind the other.
use Rattle.std.proofs.Common.{◌≡◌, ℕ, Bool, List, [], ◌∷◌, ◌++◌, map, ap, refl, sym, ◌∙◌, append-nil}
use Rattle.std.specs.Prelude.{Option, Some, None}
use Rattle.std.proofs.lemmas.List.{map-append}
use Rattle.fm_base.specs.declared.formula.Formula
use Rattle.fm_base.specs.declared.formula.Formula.{Formula}
use Rattle.fm_arena.specs.Trees.{apart, all_apart, apart_kind, built}
use Rattle.fm_arena.specs.Pairs.{each_pair, flat_pairs, held_list, paired}
use Rattle.fm_arena.specs.Meanings.{Meaning, Names, Term, meaning_at, meanings_at}
use Rattle.fm_arena.specs.declared.node.Op.{Op}
use Rattle.fm_arena.specs.declared.node.Tree.{Tree}

pub all_paired : (truth : Bool) (yielded : List Tree) (list : List Formula) (held : Option Tree) → ((rest : List Tree) → paired truth (yielded ++ rest) ≡ list ++ paired truth (held_list held ++ rest)) → list ≡ paired truth yielded
all_paired truth yielded list None h = sym (append-nil list) ∙ sym (h []) ∙ ap (paired truth) (append-nil yielded)
all_paired truth yielded list (Some t) h = sym (append-nil list) ∙ sym (h []) ∙ ap (paired truth) (append-nil yielded)

paired_each : (truth : Bool) (x : Tree) (ys rest : List Tree) → paired truth (each_pair x ys ++ rest) ≡ map (apart truth x) ys ++ paired truth rest
paired_each truth x [] rest = refl
paired_each truth x (y ∷ ys) rest = ap (λ (l : List Formula). apart truth x y ∷ l) (paired_each truth x ys rest)

pub paired_flat : (truth : Bool) (ts : List Tree) → paired truth (flat_pairs ts) ≡ all_apart truth ts
paired_flat truth [] = refl
paired_flat truth (t ∷ ts) = paired_each truth t ts (flat_pairs ts) ∙ ap (λ (l : List Formula). map (apart truth t) ts ++ l) (paired_flat truth ts)

each_map : {A B : Type 0} (f : A → B) (x : A) (ys : List A) → each_pair (f x) (map f ys) ≡ map f (each_pair x ys)
each_map f x [] = refl
each_map f x (y ∷ ys) = ap (λ l. f x ∷ f y ∷ l) (each_map f x ys)

pub flat_map : {A B : Type 0} (f : A → B) (xs : List A) → flat_pairs (map f xs) ≡ map f (flat_pairs xs)
flat_map f [] = refl
flat_map f (x ∷ xs) = ap (λ l. l ++ flat_pairs (map f xs)) (each_map f x xs) ∙ ap (λ l. map f (each_pair x xs) ++ l) (flat_map f xs) ∙ sym (map-append f (each_pair x xs) (flat_pairs xs))

apart_is : (op : Op) (truth : Bool) → apart_kind op ≡ Some truth → op ≡ Op.Distinct truth
apart_is (Op.Distinct b) truth e = same b truth e where
  same : (b t : Bool) → Some b ≡ Some t → Op.Distinct b ≡ Op.Distinct t
  same b t e = cc
apart_is (Op.Truth b) truth e = cc
apart_is (Op.Pred p) truth e = cc
apart_is (Op.App f) truth e = cc
apart_is Op.Not truth e = cc
apart_is Op.And truth e = cc
apart_is Op.Or truth e = cc
apart_is Op.Equal truth e = cc
apart_is Op.Iff truth e = cc
apart_is Op.Ite truth e = cc
apart_is Op.Choice truth e = cc

pub flat_built : (ts : List Term) (op : Op) (truth : Bool) (parts pairs : List ℕ) (trees : List Tree) (members : List Formula) (names : Names) (d : ℕ) → Some truth ≡ apart_kind op → pairs ≡ flat_pairs parts → trees ≡ meanings_at (map (meaning_at ts) pairs) names d → members ≡ paired truth trees
    → Tree.Truth (Formula.And members) ≡ built op (meanings_at (map (meaning_at ts) parts) names d)
flat_built ts op truth parts pairs trees members names d k p t m =
    let all = meanings_at (map (meaning_at ts) parts) names d in
    ap (λ (fs : List Formula). Tree.Truth (Formula.And fs))
    (m ∙ ap (paired truth) (t ∙ ap (λ (is : List ℕ). meanings_at (map (meaning_at ts) is) names d) p ∙ sym (flat_map (λ (n : Meaning). n names d) (map (meaning_at ts) parts) ∙ ap (λ (ns : List Meaning). meanings_at ns names d) (flat_map (meaning_at ts) parts))) ∙ paired_flat truth all)
    ∙ ap (λ (o : Op). built o all) (sym (apart_is op truth (sym k)))
