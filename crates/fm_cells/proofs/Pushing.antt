-- A node more says of each node what was said of it before, and no nodes are classes of one member each.
use Rattle.std.proofs.Common.{◌≡◌, ℕ, zero, suc, List, [], ◌∷◌, ◌++◌, length, Option, None, refl, sym, subst, ap, ◌∙◌, arith, get_or}
use Rattle.fm_cells.specs.Forest.{link_of}
use Rattle.fm_cells.specs.Rings.{AreRings, alone, own_or, rank, root_or}
use Rattle.fm_cells.specs.declared.edge.Edge.{Edge}
use Rattle.fm_cells.specs.declared.rings.Root.{Root}
use Rattle.fm_cells.proofs.Members.{on_one, one_on}
use Rattle.fm_cells.proofs.Splicing.{distinct_one}
use Rattle.fm_cells.specs.Members.{is_on}

push_get : {X : Type 0} → (xs : List X) (v d : X) (k : ℕ) → (k ≡ length xs → v ≡ d) → get_or (xs ++ v ∷ []) k d ≡ get_or xs k d
push_get [] v d zero h = h refl
push_get [] v d (suc k) h = refl
push_get (x ∷ xs) v d zero h = refl
push_get (x ∷ xs) v d (suc k) h = push_get xs v d k (λ e. h (ap suc e))

pub own_push : (xs : List ℕ) (n : ℕ) → n ≡ length xs → own_or (xs ++ n ∷ []) ≡ own_or xs
own_push xs n e = λ i x. push_get xs n x x (λ k. e ∙ sym k) i

pub root_push : (xs : List Root) (n : ℕ) → n ≡ length xs → root_or (xs ++ alone n ∷ []) ≡ root_or xs
root_push xs n e = λ i x. push_get xs (alone n) (alone x) x (λ k. ap alone (e ∙ sym k)) i

pub link_push : (xs : List (Option Edge)) → link_of (xs ++ None ∷ []) ≡ link_of xs
link_push xs = λ i x. push_get xs None None x (λ _. refl) i

pub rings_push : (class next : List ℕ) (roots : List Root) (n : ℕ) → n ≡ length class → length next ≡ length class → length roots ≡ length class → AreRings (own_or next) (own_or class) (root_or roots) → AreRings (own_or (next ++ n ∷ [])) (own_or (class ++ n ∷ [])) (root_or (roots ++ alone n ∷ []))
rings_push class next roots n e same as_many rings =
    subst (λ (f : ℕ → ℕ). AreRings f (own_or (class ++ n ∷ [])) (root_or (roots ++ alone n ∷ []))) (sym (own_push next n (e ∙ sym same)))
    (subst (λ (f : ℕ → ℕ). AreRings (own_or next) f (root_or (roots ++ alone n ∷ []))) (sym (own_push class n e))
    (subst (λ (f : ℕ → Root). AreRings (own_or next) (own_or class) f) (sym (root_push roots n (e ∙ sym as_many))) rings))

pub no_rings : AreRings (own_or []) (own_or []) (root_or [])
no_rings = record {
  root = λ x. refl;
  rings = λ r e. record {
    others = [];
    ring = (refl, refl);
    distinct = distinct_one r;
    members = λ y. ((λ h. on_one r y h), (λ s. ap (is_on (r ∷ [])) s ∙ one_on r));
    size_is = refl;
    least_is = record { member = r; here = refl; is = refl; first = λ x h. let same : rank r ≡ rank x = ap rank (sym h) in omega (arith, same) };
  };
}
