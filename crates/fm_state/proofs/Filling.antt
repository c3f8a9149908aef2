-- Offers put behind one another, up to a limit.
use Rattle.std.proofs.Common.{◌≡◌, ℕ, zero, suc, ◌+◌, ◌<◌, ◌≤◌, List, [], ◌∷◌, ◌++◌, length, take, drop, Some, refl, sym, ap, subst, ◌∙◌, arith}
use Rattle.std.specs.Prelude.{Option, slice_get}
use Rattle.std.specs.List.{flat_map, range_with_len}
use Rattle.std.proofs.lemmas.List.{append_assoc, append-nil, drop_more, flat_map_more, length-map, take-append-le, take_more}
use Rattle.std.proofs.lemmas.List.FromFn.{get_or-range_with_len, length-range_with_len}
use Rattle.std.proofs.lemmas.Option.{get_or_from_slice_get, slice_get-get_or, slice_get_within}
use Rattle.std.proofs.Math.ListN.{drop_of_length-le}
use Rattle.fm_steps.specs.Menu.{cliques_from, clique_offer, unit_at, units_from}
use Rattle.fm_steps.specs.Rows.{Offer}
use Rattle.fm_steps.specs.State.{Clause, Pick, State}
use Rattle.fm_trail.specs.Trail.{unit_of}
use Rattle.fm_trail.specs.declared.entry.Entry.{Entry}
use Rattle.fm_state.specs.Offers.{offer_in, offers_in}
use Rattle.fm_state.specs.declared.offer.Offer.{Offer as TheOffer}

-- once so many are there, the rest doesn't matter
pub full : (limit : ℕ) (os : List TheOffer) (rest whole : List Offer) → limit ≤ length os → offers_in os ++ rest ≡ whole → take limit (offers_in os) ≡ take limit whole
full limit os rest whole h e =
    let many : limit ≤ length (offers_in os) = subst (λ n. limit ≤ n) (sym (length-map os offer_in)) h in
    sym (take-append-le limit (offers_in os) rest many) ∙ ap (take limit) e

pub take_behind : (n : ℕ) (xs ys zs : List Offer) → take n xs ≡ take n ys → take n (xs ++ zs) ≡ take n (ys ++ zs)
take_behind zero xs ys zs e = refl
take_behind (suc n) [] [] zs e = refl
take_behind (suc n) [] (y ∷ ys) zs e = absurd cc
take_behind (suc n) (x ∷ xs) [] zs e = absurd cc
take_behind (suc n) (x ∷ xs) (y ∷ ys) zs e =
    let head : x ≡ y = cc in
    let tail : take n xs ≡ take n ys = cc in
    ap (λ z. z ∷ take n (xs ++ zs)) head ∙ ap (λ l. y ∷ l) (take_behind n xs ys zs tail)

-- one part more is put behind
pub put_on : (out new start g rest all : List Offer) → new ≡ out ++ g → out ++ (g ++ rest) ≡ start ++ all → new ++ rest ≡ start ++ all
put_on out new start g rest all e h = ap (λ l. l ++ rest) e ∙ append_assoc out g rest ∙ h

pub drop_at : {X : Type 0} (xs : List X) (i : ℕ) (x : X) → slice_get xs i ≡ Some x → drop i xs ≡ x ∷ drop (i + 1) xs
drop_at xs i x at = drop_more xs i x (slice_get_within xs i x at) ∙ ap (λ y. y ∷ drop (i + 1) xs) (get_or_from_slice_get xs i x x at)

from_zero : (i : ℕ) → 0 + i ≡ i
from_zero i = omega arith

pub range_at : (n i : ℕ) → i < n → slice_get (range_with_len 0 n) i ≡ Some i
range_at n i lt = slice_get-get_or (range_with_len 0 n) i 0 (subst (λ m. i < m) (sym (length-range_with_len 0 n)) lt) ∙ ap Some (get_or-range_with_len 0 n i 0 lt ∙ from_zero i)

pub flat_on : {X : Type 0} (f : X → List Offer) (xs : List X) (i : ℕ) (x : X) (out new start all : List Offer) → slice_get xs i ≡ Some x → new ≡ out ++ f x → out ++ flat_map f (drop i xs) ≡ start ++ all → new ++ flat_map f (drop (i + 1) xs) ≡ start ++ all
flat_on f xs i x out new start all at e h = put_on out new start (f x) (flat_map f (drop (i + 1) xs)) all e (ap (λ l. out ++ flat_map f l) (sym (drop_at xs i x at)) ∙ h)

pub units_on : (es : List Entry) (cs : List Clause) (i : ℕ) (c : Clause) (out new start all : List Offer) → slice_get cs i ≡ Some c → new ≡ out ++ unit_at i (unit_of es c) → out ++ units_from i es (drop i cs) ≡ start ++ all → new ++ units_from (i + 1) es (drop (i + 1) cs) ≡ start ++ all
units_on es cs i c out new start all at e h = put_on out new start (unit_at i (unit_of es c)) (units_from (i + 1) es (drop (i + 1) cs)) all e (ap (λ l. out ++ units_from i es l) (sym (drop_at cs i c at)) ∙ h)

pub cliques_on : (s : State) (ps : List (Option Pick)) (i : ℕ) (p : Option Pick) (out new start all : List Offer) → slice_get ps i ≡ Some p → new ≡ out ++ clique_offer s i p → out ++ cliques_from s i (drop i ps) ≡ start ++ all → new ++ cliques_from s (i + 1) (drop (i + 1) ps) ≡ start ++ all
cliques_on s ps i p out new start all at e h = put_on out new start (clique_offer s i p) (cliques_from s (i + 1) (drop (i + 1) ps)) all e (ap (λ l. out ++ cliques_from s i l) (sym (drop_at ps i p at)) ∙ h)

-- at the end
pub ended : (limit : ℕ) (out rest whole : List Offer) → rest ≡ [] → out ++ rest ≡ whole → take limit out ≡ take limit whole
ended limit out rest whole none e = ap (take limit) (sym (append-nil out) ∙ ap (λ l. out ++ l) (sym none) ∙ e)

pub past_range : {A : Type 0} (f : ℕ → List A) (n i : ℕ) → n ≤ i → flat_map f (drop i (range_with_len 0 n)) ≡ []
past_range f n i h = ap (flat_map f) (drop_of_length-le (range_with_len 0 n) (subst (λ m. m ≤ i) (sym (length-range_with_len 0 n)) h))

-- one part more behind what is filled already
pub filled_on : (f : ℕ → List Offer) (limit n i : ℕ) (old new start : List Offer) → i < n → take limit old ≡ take limit (start ++ flat_map f (take i (range_with_len 0 n))) → take limit new ≡ take limit (old ++ f i) → take limit new ≡ take limit (start ++ flat_map f (take (i + 1) (range_with_len 0 n)))
filled_on f limit n i old new start lt h e =
    let xs = range_with_len 0 n in
    let within : i < length xs = subst (λ m. i < m) (sym (length-range_with_len 0 n)) lt in
    let next : take (i + 1) xs ≡ take i xs ++ i ∷ [] = take_more xs i 0 within ∙ ap (λ x. take i xs ++ x ∷ []) (get_or-range_with_len 0 n i 0 lt ∙ from_zero i) in
    e ∙ take_behind limit old (start ++ flat_map f (take i xs)) (f i) h ∙ ap (take limit) (flat_map_more f start (take i xs) i ∙ ap (λ ys. start ++ flat_map f ys) (sym next))

-- three groups behind one another
pub three_behind : (n : ℕ) (o p q a b c : List Offer) → o ≡ a → take n p ≡ take n (o ++ b) → take n q ≡ take n (p ++ c) → take n q ≡ take n (a ++ (b ++ c))
three_behind n o p q a b c e f g = g ∙ take_behind n p (o ++ b) c f ∙ ap (take n) (append_assoc o b c) ∙ ap (λ l. take n (l ++ (b ++ c))) e
