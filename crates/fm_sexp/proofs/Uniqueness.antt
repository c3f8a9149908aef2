-- The pieces of a text that can't go on are those of no other reading of it.
use Rattle.std.proofs.Common.{◌≡◌, ℕ, ◌+◌, ◌<◌, Option, Some, None, List, [], ◌∷◌, length, drop, refl, sym, ap, subst, ◌∙◌, inl, inr, arith, ◌⊎◌}
use Rattle.std.proofs.lemmas.List.{drop_all}
use Rattle.fm_base.specs.declared.refusal.Reason.{Reason}
use Rattle.fm_base.specs.declared.refusal.Refusal.{Refusal}
use Rattle.fm_sexp.specs.declared.pieces.Shape.{Shape}
use Rattle.fm_sexp.specs.declared.pieces.Piece.{Piece}
use Rattle.fm_sexp.specs.declared.pieces.Front.{Front}
use Rattle.fm_sexp.specs.declared.items.Sexp.{Sexp}
use Rattle.fm_sexp.specs.Pieces.{piece_of, Covers, depth_with, depth_from, depth_after}
use Rattle.fm_sexp.specs.Places.{place_of}
use Rattle.fm_sexp.specs.Items.{IsFault, ReadsAs, IsRefused}

-- no piece follows with a lawful depth
abbrev pub Stops : ℕ → List ℕ → Type 0
Stops d rest = (p : Piece) → piece_of rest ≡ Front.Found p → depth_with d p.shape ≡ None

pub same_pieces : (text : List ℕ) (at : ℕ) (ps qs : List Piece) (to till : ℕ) (o : Option ℕ) (d e : ℕ) → Covers text at ps to → Covers text at qs till
    → depth_from o ps ≡ Some d → depth_from o qs ≡ Some e → Stops d (drop to text) → Stops e (drop till text) → ps ≡ qs
same_pieces text at ps qs to till None d e covers other depths others stops halts = absurd (cc depths)
same_pieces text at [] [] to till (Some c) d e covers other depths others stops halts = refl
same_pieces text at [] (q ∷ qs) to till (Some c) d e covers other depths others stops halts =
    let same : c ≡ d = cc depths in
    let none : depth_with c q.shape ≡ None = ap (λ (k : ℕ). depth_with k q.shape) same ∙ stops q (ap (λ (k : ℕ). piece_of (drop k text)) (sym covers) ∙ other.0) in
    absurd (cc (none, others))
same_pieces text at (p ∷ ps) [] to till (Some c) d e covers other depths others stops halts =
    let same : c ≡ e = cc others in
    let none : depth_with c p.shape ≡ None = ap (λ (k : ℕ). depth_with k p.shape) same ∙ halts p (ap (λ (k : ℕ). piece_of (drop k text)) (sym other) ∙ covers.0) in
    absurd (cc (none, depths))
same_pieces text at (p ∷ ps) (q ∷ qs) to till (Some c) d e covers other depths others stops halts =
    let fronts : Front.Found p ≡ Front.Found q = sym covers.0 ∙ other.0 in
    let same : p ≡ q = cc fronts in
    let rest : ps ≡ qs = same_pieces text (at + p.len) ps qs to till (depth_with c p.shape) d e covers.1 (subst (λ (x : Piece). Covers text (at + x.len) qs till) (sym same) other.1)
    depths (subst (λ (x : Piece). depth_from (depth_with c x.shape) qs ≡ Some e) (sym same) others) stops halts in
    cc

pub same_end : (text : List ℕ) (at : ℕ) (ps : List Piece) (to till : ℕ) → Covers text at ps to → Covers text at ps till → to ≡ till
same_end text at [] to till covers other = sym covers ∙ other
same_end text at (p ∷ ps) to till covers other = same_end text (at + p.len) ps to till covers.1 other.1

pub nothing_left : piece_of [] ≡ Front.Unclosed
unfolding piece_of
nothing_left = refl

no_piece : (rest : List ℕ) → piece_of rest ≡ Front.Unclosed → (d : ℕ) → Stops d rest
no_piece rest e d p is = absurd (cc (e, is))

end_stops : (text : List ℕ) (d : ℕ) → Stops d (drop (length text) text)
end_stops text d = no_piece (drop (length text) text) (ap piece_of (drop_all (length text) text (omega arith)) ∙ nothing_left) d

-- a text that ends too early has nothing at its front
ended : (d : ℕ) (rest : List ℕ) → ((rest ≡ [] → ⊥) × (piece_of rest ≡ Front.Unclosed)) ⊎ ((0 < d) × (rest ≡ [])) → piece_of rest ≡ Front.Unclosed
ended d rest (inl h) = h.1
ended d rest (inr h) = ap piece_of h.1 ∙ nothing_left

fault_stops : (reason : Reason) (d : ℕ) (rest : List ℕ) (off : ℕ) → IsFault reason d rest off → Stops d rest
fault_stops Reason.Lexical d rest off h p is = absurd (cc (h, is))
fault_stops Reason.Unbalanced d rest off h p is =
    let one : Piece = record { shape = Shape.Close; len = h.2.0 } in
    let fronts : Front.Found one ≡ Front.Found p = sym h.2.1 ∙ is in
    let same : one ≡ p = cc fronts in
    subst (λ (x : Piece). depth_with d x.shape ≡ None) same (ap (λ (k : ℕ). depth_with k Shape.Close) h.0)
fault_stops Reason.TooDeep d rest off h p is =
    let one : Piece = record { shape = Shape.Open; len = h.2.0 } in
    let fronts : Front.Found one ≡ Front.Found p = sym h.2.1 ∙ is in
    let same : one ≡ p = cc fronts in
    subst (λ (x : Piece). depth_with d x.shape ≡ None) same (ap (λ (k : ℕ). depth_with k Shape.Open) h.0)
fault_stops Reason.UnexpectedEnd d rest off h p is = no_piece rest (ended d rest h.1) d p is
fault_stops _ d rest off h p is = absurd h

-- the reason of a fault and its place, by what stands at the front
abbrev reason_by : Front → Reason
reason_by (Front.Wrong off) = Reason.Lexical
reason_by (Front.Found p) = by p.shape
  where
    by : Shape → Reason
    by Shape.Open = Reason.TooDeep
    by _ = Reason.Unbalanced
reason_by Front.Unclosed = Reason.UnexpectedEnd

abbrev off_by : List ℕ → Front → ℕ
off_by rest (Front.Wrong off) = off
off_by rest (Front.Found p) = 0
off_by rest Front.Unclosed = length rest

fault_by : (reason : Reason) (d : ℕ) (rest : List ℕ) (off : ℕ) → IsFault reason d rest off → (reason ≡ reason_by (piece_of rest)) × (off ≡ off_by rest (piece_of rest))
fault_by Reason.Lexical d rest off h = (sym (ap reason_by h), sym (ap (off_by rest) h))
fault_by Reason.Unbalanced d rest off h = (sym (ap reason_by h.2.1), h.1 ∙ sym (ap (off_by rest) h.2.1))
fault_by Reason.TooDeep d rest off h = (sym (ap reason_by h.2.1), h.1 ∙ sym (ap (off_by rest) h.2.1))
fault_by Reason.UnexpectedEnd d rest off h = let front = ended d rest h.1 in (sym (ap reason_by front), h.0 ∙ sym (ap (off_by rest) front))
fault_by _ d rest off h = absurd h

no_fault : (reason : Reason) (d : ℕ) (rest : List ℕ) (off : ℕ) → d ≡ 0 → rest ≡ [] → IsFault reason d rest off → ⊥
no_fault Reason.Lexical d rest off zero none h = absurd (cc (h, ap piece_of none, nothing_left))
no_fault Reason.Unbalanced d rest off zero none h = absurd (cc (h.2.1, ap piece_of none, nothing_left))
no_fault Reason.TooDeep d rest off zero none h = absurd (cc (h.2.1, ap piece_of none, nothing_left))
no_fault Reason.UnexpectedEnd d rest off zero none h = by h.1
  where
    by : ((rest ≡ [] → ⊥) × (piece_of rest ≡ Front.Unclosed)) ⊎ ((0 < d) × (rest ≡ [])) → ⊥
    by (inl k) = k.0 none
    by (inr k) = let lt : 0 < d = k.0 in absurd (omega arith)
no_fault _ d rest off zero none h = absurd h

pub same_reading : (text : List ℕ) (xs ys : List Sexp) (r : ReadsAs text xs) (q : ReadsAs text ys) → r.pieces ≡ q.pieces
same_reading text xs ys r q = same_pieces text 0 r.pieces q.pieces (length text) (length text) (Some 0) 0 0 r.covers q.covers r.depths q.depths (end_stops text 0) (end_stops text 0)

pub never_both : (text : List ℕ) (items : List Sexp) (r : Refusal) → ReadsAs text items → IsRefused text r → ⊥
never_both text items r read refused =
    let same : refused.pieces ≡ read.pieces = same_pieces text 0 refused.pieces read.pieces refused.to (length text) (Some 0) refused.depth 0 refused.covers read.covers refused.depths read.depths
    (fault_stops r.reason refused.depth (drop refused.to text) refused.off refused.fault) (end_stops text 0) in
    let till : refused.to ≡ length text = same_end text 0 read.pieces refused.to (length text) (subst (λ (ps : List Piece). Covers text 0 ps refused.to) same refused.covers) read.covers in
    let depths : Some refused.depth ≡ Some 0 = sym refused.depths ∙ ap depth_after same ∙ read.depths in
    no_fault r.reason refused.depth (drop refused.to text) refused.off (cc depths) (drop_all refused.to text (omega arith)) refused.fault

one_record : (r q : Refusal) → r.reason ≡ q.reason → r.at ≡ q.at → r ≡ q
one_record r q reasons places =
    let one : Refusal = record { reason = r.reason; at = r.at } in
    let other : Refusal = record { reason = q.reason; at = q.at } in
    let both : one ≡ other = cc in both

pub same_refusal : (text : List ℕ) (r q : Refusal) → IsRefused text r → IsRefused text q → r ≡ q
same_refusal text r q one other =
    let same : one.pieces ≡ other.pieces = same_pieces text 0 one.pieces other.pieces one.to other.to (Some 0) one.depth other.depth one.covers other.covers one.depths other.depths
    (fault_stops r.reason one.depth (drop one.to text) one.off one.fault) (fault_stops q.reason other.depth (drop other.to text) other.off other.fault) in
    let till : one.to ≡ other.to = same_end text 0 other.pieces one.to other.to (subst (λ (ps : List Piece). Covers text 0 ps one.to) same one.covers) other.covers in
    let first = fault_by r.reason one.depth (drop one.to text) one.off one.fault in
    let second = fault_by q.reason other.depth (drop other.to text) other.off other.fault in
    let reasons : r.reason ≡ q.reason = first.0 ∙ ap (λ (k : ℕ). reason_by (piece_of (drop k text))) till ∙ sym second.0 in
    let offs : one.off ≡ other.off = first.1 ∙ ap (λ (k : ℕ). off_by (drop k text) (piece_of (drop k text))) till ∙ sym second.1 in
    let sums : one.to + one.off ≡ other.to + other.off = cc in
    let places : r.at ≡ q.at = one.stands ∙ ap (place_of text) sums ∙ sym other.stands in
    one_record r q reasons places
