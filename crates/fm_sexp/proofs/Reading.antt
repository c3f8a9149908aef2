-- One piece more, and the refusals.
use Rattle.std.proofs.Common.{◌≡◌, ◌≢◌, ℕ, ◌+◌, ◌-◌, ◌<◌, ◌≤◌, nat_lt, Bool, true, false, cond, arith, length-drop, Option, Some, None, List, [], ◌∷◌, ◌++◌, Result, Err, length, take, drop, refl, sym, ap, subst, ◌∙◌, append_assoc}
use Rattle.std.proofs.lemmas.List.{append-nil}
use Rattle.std.proofs.lemmas.Bool.{ltb-true}
use Rattle.std.proofs.Math.Seq.{take-add}
use Rattle.fm_base.specs.declared.refusal.Place.{Place}
use Rattle.fm_base.specs.declared.refusal.Reason.{Reason}
use Rattle.fm_base.specs.declared.refusal.Refusal.{Refusal}
use Rattle.fm_base.specs.declared.refusal.Fail.{Fail}
use Rattle.fm_base.specs.declared.refusal.Fail.TheVariants as fail
use Rattle.fm_sexp.specs.declared.pieces.Shape.{Shape}
use Rattle.fm_sexp.specs.declared.pieces.Piece.{Piece}
use Rattle.fm_sexp.specs.declared.pieces.Front.{Front}
use Rattle.fm_sexp.specs.declared.items.Sexp.{Sexp}
use Rattle.fm_sexp.specs.Pieces.{piece_of, Covers, depth_with, depth_from}
use Rattle.fm_sexp.specs.Places.{place_after, place_from, place_of}
use Rattle.fm_sexp.specs.Items.{Token, token_of, tokens, IsFault, IsRefused}
use Rattle.fm_sexp.specs.Building.{IsStopped, IsReadTo}

place_from-append : (p : Place) (xs ys : List ℕ) → place_from p (xs ++ ys) ≡ place_from (place_from p xs) ys
place_from-append p [] ys = refl
place_from-append p (b ∷ xs) ys = place_from-append (place_after p b) xs ys

pub place_more : (text : List ℕ) (at len : ℕ) → place_from (place_of text at) (take len (drop at text)) ≡ place_of text (at + len)
place_more text at len =
    let start : Place = record { line = 1; column = 1 } in
    sym (ap (place_from start) (take-add at len text) ∙ place_from-append start (take at text) (take len (drop at text)))

Covers-push : (text : List ℕ) (at : ℕ) (ps : List Piece) (to : ℕ) (p : Piece) → Covers text at ps to → piece_of (drop to text) ≡ Front.Found p → Covers text at (ps ++ p ∷ []) (to + p.len)
Covers-push text at [] to p covers is = (ap (λ (k : ℕ). piece_of (drop k text)) covers ∙ is, ap (λ (k : ℕ). k + p.len) covers)
Covers-push text at (q ∷ ps) to p covers is = (covers.0, Covers-push text (at + q.len) ps to p covers.1 is)

depth_from-push : (o : Option ℕ) (ps : List Piece) (p : Piece) (d e : ℕ) → depth_from o ps ≡ Some d → depth_with d p.shape ≡ Some e → depth_from o (ps ++ p ∷ []) ≡ Some e
depth_from-push None ps p d e h k = absurd (cc h)
depth_from-push (Some c) [] p d e h k = let same : c ≡ d = cc h in ap (λ (x : ℕ). depth_from (depth_with x p.shape) []) same ∙ ap (λ (o : Option ℕ). depth_from o []) k
depth_from-push (Some c) (q ∷ ps) p d e h k = depth_from-push (depth_with c q.shape) ps p d e h k

tokens_push : (text : List ℕ) (at : ℕ) (ps : List Piece) (to : ℕ) (p : Piece) → Covers text at ps to → tokens text at (ps ++ p ∷ []) ≡ tokens text at ps ++ token_of (place_of text to) to p.len p.shape
tokens_push text at [] to p covers = append-nil _ ∙ ap (λ (k : ℕ). token_of (place_of text k) k p.len p.shape) covers
tokens_push text at (q ∷ ps) to p covers =
    let ts : List Token = token_of (place_of text at) at q.len q.shape in
    ap (λ (r : List Token). ts ++ r) (tokens_push text (at + q.len) ps to p covers.1) ∙ sym (append_assoc ts (tokens text (at + q.len) ps) (token_of (place_of text to) to p.len p.shape))

module _ (text : List ℕ) (to depth : ℕ) (read : List Token) (so_far : IsReadTo text to depth read) where
  -- one piece more
  pub read_more : (p : Piece) (at : Place) (new : List Token) (d : ℕ) → piece_of (drop to text) ≡ Front.Found p → depth_with depth p.shape ≡ Some d
      → at ≡ place_of text to → new ≡ read ++ token_of at to p.len p.shape → IsReadTo text (to + p.len) d new
  read_more p at new d is with_it place more = record {
    pieces = so_far.pieces ++ p ∷ [];
    covers = Covers-push text 0 so_far.pieces to p so_far.covers is;
    depths = depth_from-push (Some 0) so_far.pieces p depth d so_far.depths with_it;
    tree = more ∙ ap (λ (r : List Token). r ++ token_of at to p.len p.shape) so_far.tree ∙ ap (λ (x : Place). tokens text 0 so_far.pieces ++ token_of x to p.len p.shape) place
        ∙ sym (tokens_push text 0 so_far.pieces to p so_far.covers);
  }

  -- a fault there
  pub refusal_at : (reason : Reason) (off : ℕ) → IsFault reason depth (drop to text) off → IsRefused text (record { reason = reason; at = place_of text (to + off) })
  refusal_at reason off fault = record {
    pieces = so_far.pieces;
    to = to;
    depth = depth;
    off = off;
    covers = so_far.covers;
    depths = so_far.depths;
    fault = fault;
    stands = refl;
  }

  -- the reader stops there
  pub stops : (reason : Reason) (off : ℕ) (at : Place) → IsFault reason depth (drop to text) off → at ≡ place_of text (to + off)
      → (answer : Result (List Sexp) Fail) → answer ≡ Err (fail.Refused (record { reason = reason; at = at })) → (r : Refusal) → answer ≡ Err (fail.Refused r) → IsRefused text r
  stops reason off at fault place answer is r other =
      let one : Refusal = record { reason = reason; at = at } in
      let same : one ≡ r = cc (is, other) in
      subst (IsRefused text) same (subst (λ (x : Place). IsRefused text (record { reason = reason; at = x })) (sym place) (refusal_at reason off fault))

pub stopped_fault : (d : ℕ) (p : Piece) (rest : List ℕ) (reason : Reason) → IsStopped d p.shape reason → piece_of rest ≡ Front.Found p → IsFault reason d rest 0
stopped_fault d p rest Reason.Unbalanced h is = (h.0, refl, (p.len, is ∙ ap (λ (s : Shape). Front.Found (record { shape = s; len = p.len })) h.1))
stopped_fault d p rest Reason.TooDeep h is = (h.0, refl, (p.len, is ∙ ap (λ (s : Shape). Front.Found (record { shape = s; len = p.len })) h.1))
stopped_fault d p rest _ h is = absurd h

pub some_left : (text : List ℕ) (to : ℕ) → to < length text → drop to text ≢ []
some_left text to lt e = absurd (omega (arith, length-drop to text, ap length e))

pub advanced : (text : List ℕ) (to len : ℕ) (at new : Place) (rest bytes : List ℕ) → at ≡ place_of text to → rest ≡ drop to text → bytes ≡ take len rest
    → new ≡ place_from at bytes → new ≡ place_of text (to + len)
advanced text to len at new rest bytes place left front is =
    is ∙ ap (λ (p : Place). place_from p bytes) place ∙ ap (place_from (place_of text to)) (front ∙ ap (take len) left) ∙ place_more text to len

open_shallow : (d n : ℕ) (b : Bool) → nat_lt d 200 ≡ b → cond b (Some (d + 1)) None ≡ Some n → n ≤ 200
open_shallow d n true lt e = let one : d + 1 ≡ n = cc e in omega (arith, ltb-true d 200 lt)
open_shallow d n false lt e = absurd (cc e)

close_shallow : (d n : ℕ) (b : Bool) → d ≤ 200 → cond b (Some (d - 1)) None ≡ Some n → n ≤ 200
close_shallow d n true le e = let one : d - 1 ≡ n = cc e in omega arith
close_shallow d n false le e = absurd (cc e)

pub shallow : (d n : ℕ) (s : Shape) → d ≤ 200 → depth_with d s ≡ Some n → n ≤ 200
shallow d n Shape.Open le e = open_shallow d n (nat_lt d 200) refl e
shallow d n Shape.Close le e = close_shallow d n (nat_lt 0 d) le e
shallow d n Shape.Blank le e = let same : d ≡ n = cc e in omega arith
shallow d n Shape.Comment le e = let same : d ≡ n = cc e in omega arith
shallow d n (Shape.Word kind) le e = let same : d ≡ n = cc e in omega arith
