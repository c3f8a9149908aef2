-- What functions and names are in an arena that was cut back.
use Rattle.std.proofs.Common.{◌≡◌, ℕ, zero, suc, ◌<◌, ◌≤◌, List, [], ◌∷◌, ◌++◌, length, take, drop, ap, sym, subst, ◌∙◌, arith}
use Rattle.std.proofs.lemmas.List.{take-append-drop}
use Rattle.std.proofs.Math.Seq.{take-append_seam}
use Rattle.fm_base.specs.declared.signature.Ty.{Ty}
use Rattle.fm_arena.specs.Meanings.{Term, terms_of}
use Rattle.fm_arena.specs.declared.node.Entry.{Entry}
use Rattle.fm_apply.specs.Scoped.{AreBelow, AreInForce, Grows, IsInForce, Numbered, StandBefore, StandsBefore, StandsWell, functions_in, named_in}
use Rattle.fm_apply.specs.declared.entry.Function.{Function}
use Rattle.fm_apply.specs.declared.entry.Stands.{Stands}
use Rattle.fm_apply.proofs.Growing.{functions_stay, grows_longer, named_stays, term_stays}

-- an arena that is cut back grows to what it was
pub cut_grows : (old new : List Entry) (mark : ℕ) → terms_of new ≡ take mark (terms_of old) → Grows new old
cut_grows old new mark e = (drop mark (terms_of old), sym (take-append-drop mark (terms_of old)) ∙ ap (λ (ts : List Term). ts ++ drop mark (terms_of old)) (sym e))

-- cut back to where it was, it has the terms that it had
pub cut_is : (old mid new : List Entry) → Grows old mid → terms_of new ≡ take (length (terms_of old)) (terms_of mid) → terms_of new ≡ terms_of old
cut_is old mid new g e = e ∙ ap (take (length (terms_of old))) g.1 ∙ take-append_seam (terms_of old) g.0

well_back : (short long : List Entry) (args : List Ty) (result : Ty) (s : Stands) → Grows short long → StandsBefore (length (terms_of short)) s → StandsWell (terms_of long) args result s → StandsWell (terms_of short) args result s
well_back short long args result (Stands.Declared f) g b h = h
well_back short long args result (Stands.Defined n) g b h = (b, sym (ap (λ (t : Term). t.ty) (term_stays short long n g b)) ∙ h.1)

-- functions in force over a longer arena that all stand in its front are in force over that
pub in_force_back : (short long : List Entry) (fs : List (List ℕ × Function)) → Grows short long → StandBefore (length (terms_of short)) fs → AreInForce (terms_of long) fs → AreInForce (terms_of short) fs
in_force_back short long [] g b h = tt
in_force_back short long (f ∷ fs) g b h = (well_back short long f.1.args f.1.result f.1.stands g b.0 h.0, in_force_back short long fs g b.1 h.1)

pub functions_back : (short long : List Entry) (fs : List (List ℕ × Function)) → Grows short long → StandBefore (length (terms_of short)) fs → AreInForce (terms_of long) fs → functions_in (terms_of short) fs ≡ functions_in (terms_of long) fs
functions_back short long fs g b h = sym (functions_stay short long fs g (in_force_back short long fs g b h))

pub named_back : (short long : List Entry) (ns : Numbered) → Grows short long → AreBelow (length (terms_of short)) ns → named_in (terms_of short) ns ≡ named_in (terms_of long) ns
named_back short long ns g b = sym (named_stays short long ns g b)

-- where functions stand

stands_before : (ts : List Term) (args : List Ty) (result : Ty) (s : Stands) → StandsWell ts args result s → StandsBefore (length ts) s
stands_before ts args result (Stands.Declared f) h = tt
stands_before ts args result (Stands.Defined n) h = h.0

pub stand_before : (ts : List Term) (fs : List (List ℕ × Function)) → AreInForce ts fs → StandBefore (length ts) fs
stand_before ts [] h = tt
stand_before ts (f ∷ fs) h = (stands_before ts f.1.args f.1.result f.1.stands h.0, stand_before ts fs h.1)

stands_longer : (m n : ℕ) (s : Stands) → m ≤ n → StandsBefore m s → StandsBefore n s
stands_longer m n (Stands.Declared f) le h = tt
stands_longer m n (Stands.Defined i) le h = omega (arith, le, h)

pub stand_longer : (m n : ℕ) (fs : List (List ℕ × Function)) → m ≤ n → StandBefore m fs → StandBefore n fs
stand_longer m n [] le h = tt
stand_longer m n (f ∷ fs) le h = (stands_longer m n f.1.stands le h.0, stand_longer m n fs le h.1)

-- the first functions, and one more

pub stand_taken : (n k : ℕ) (fs : List (List ℕ × Function)) → StandBefore n fs → StandBefore n (take k fs)
stand_taken n zero fs h = tt
stand_taken n (suc k) [] h = tt
stand_taken n (suc k) (f ∷ fs) h = (h.0, stand_taken n k fs h.1)

pub in_force_taken : (ts : List Term) (k : ℕ) (fs : List (List ℕ × Function)) → AreInForce ts fs → AreInForce ts (take k fs)
in_force_taken ts zero fs h = tt
in_force_taken ts (suc k) [] h = tt
in_force_taken ts (suc k) (f ∷ fs) h = (h.0, in_force_taken ts k fs h.1)

pub in_force_push : (ts : List Term) (fs : List (List ℕ × Function)) (name : List ℕ) (f : Function) → AreInForce ts fs → IsInForce ts f → AreInForce ts (fs ++ (name, f) ∷ [])
in_force_push ts [] name f h i = (i, tt)
in_force_push ts (g ∷ fs) name f h i = (h.0, in_force_push ts fs name f h.1 i)
