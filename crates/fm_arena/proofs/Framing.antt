-- What names stand for within a frame, by what they stand for within its outer one.
use Rattle.std.proofs.Common.{◌≡◌, ℕ, zero, suc, ◌+◌, ◌-◌, ◌*◌, ◌^◌, ◌<◌, ◌≤◌, List, [], ◌∷◌, ◌++◌, length, take, drop, map, get_or, ap, refl, sym, ◌∙◌, arith, append_assoc, append-nil, length-append}
use Rattle.std.proofs.lemmas.List.{take-append-drop, length-take-le, get_or_append_left, get_or_at, drop_more}
use Rattle.fm_arena.specs.Frames.{back_of, read_up, read_frames, at_frame, framed, names_at, frame_room, room_at, found_tree, found_room}
use Rattle.fm_arena.specs.Meanings.{Names, no_names, inside, given, meaning_at, terms_of}
use Rattle.std.specs.Borrow.{Bor}
use Rattle.std.specs.Prelude.{Option, Result, Ok, Err, IfOk}
use Rattle.fm_arena.specs.declared.frames.Spot.{Spot}
use Rattle.std.proofs.Math.Nat.{pow-le-pow_right, pow-suc}
use Rattle.fm_arena.specs.declared.node.Entry.{Entry}
use Rattle.fm_arena.specs.declared.frames.Frame.{Frame}

frames_append : {A : Type 0} (none : A) (step : A → Frame → A) (xs : List A) (ds bs : List Frame) → read_frames none step xs (ds ++ bs) ≡ read_frames none step (read_frames none step xs ds) bs
frames_append none step xs [] bs = refl
frames_append none step xs (f ∷ ds) bs = frames_append none step (xs ++ step (read_up none xs (length xs - back_of f)) f ∷ []) ds bs

frames_grow : {A : Type 0} (none : A) (step : A → Frame → A) (xs : List A) (fs : List Frame) → (more : List A) × (read_frames none step xs fs ≡ xs ++ more)
frames_grow none step xs [] = ([], sym (append-nil xs))
frames_grow none step xs (f ∷ fs) =
    let x = step (read_up none xs (length xs - back_of f)) f in
    let h = frames_grow none step (xs ++ x ∷ []) fs in
    (x ∷ h.0, h.1 ∙ append_assoc xs (x ∷ []) h.0)

frames_length : {A : Type 0} (none : A) (step : A → Frame → A) (xs : List A) (fs : List Frame) → length (read_frames none step xs fs) ≡ length xs + length fs
frames_length none step xs [] = omega arith
frames_length none step xs (f ∷ fs) =
    let x = step (read_up none xs (length xs - back_of f)) f in
    let h = frames_length none step (xs ++ x ∷ []) fs in
    let l = length-append xs (x ∷ []) in
    omega (arith, h, l)

up_left : {A : Type 0} (none : A) (xs more : List A) (n : ℕ) → n ≤ length xs → read_up none (xs ++ more) n ≡ read_up none xs n
up_left none xs more zero le = refl
up_left none xs more (suc i) le = get_or_append_left xs more none i (omega (arith, le))

-- a frame reads the same when others are put
pub frame_stays : {A : Type 0} (none : A) (step : A → Frame → A) (fs more : List Frame) (n : ℕ) → n ≤ length fs → at_frame none step (fs ++ more) n ≡ at_frame none step fs n
frame_stays none step fs more n le =
    let xs = read_frames none step [] fs in
    let g = frames_grow none step xs more in
    let h = frames_length none step [] fs in
    let l : length xs ≡ length fs = omega (arith, h) in
    ap (λ (ys : List _). read_up none ys n) (frames_append none step [] fs more ∙ g.1) ∙ up_left none xs g.0 n (omega (arith, l, le))

up_after : {A : Type 0} (none : A) (step : A → Frame → A) (fs rest : List Frame) (f : Frame) → at_frame none step (fs ++ f ∷ rest) (suc (length fs)) ≡ step (at_frame none step fs (length fs - back_of f)) f
up_after none step fs rest f =
    let xs = read_frames none step [] fs in
    let x = step (read_up none xs (length xs - back_of f)) f in
    let g = frames_grow none step (xs ++ x ∷ []) rest in
    let h = frames_length none step [] fs in
    let l : length xs ≡ length fs = omega (arith, h) in
    ap (λ (ys : List _). get_or ys (length fs) none) (frames_append none step [] fs (f ∷ rest) ∙ g.1 ∙ append_assoc xs (x ∷ []) g.0)
    ∙ get_or_at xs x g.0 none (length fs) l
    ∙ ap (λ (n : ℕ). step (read_up none xs (n - back_of f)) f) l

-- a frame that is put last
pub frame_entered : {A : Type 0} (none : A) (step : A → Frame → A) (fs new : List Frame) (f : Frame) (outer n : ℕ) → new ≡ fs ++ f ∷ [] → back_of f ≡ length fs - outer → outer ≤ length fs → n ≡ length new
    → at_frame none step new n ≡ step (at_frame none step fs outer) f
frame_entered none step fs new f outer n p b le e =
    let l = length-append fs (f ∷ []) in
    let count : n ≡ suc (length fs) = omega (arith, e, ap length p, l) in
    let back : length fs - back_of f ≡ outer = omega (arith, b, le) in
    ap (λ (m : ℕ). at_frame none step new m) count
    ∙ ap (λ (gs : List Frame). at_frame none step gs (suc (length fs))) p
    ∙ up_after none step fs [] f
    ∙ ap (λ (m : ℕ). step (at_frame none step fs m) f) back

-- a frame by its number
pub frame_read : {A : Type 0} (none : A) (step : A → Frame → A) (fs : List Frame) (f : Frame) (n k : ℕ) → n ≡ suc k → k < length fs → f ≡ get_or fs k f → at_frame none step fs n ≡ step (at_frame none step fs (k - back_of f)) f
frame_read none step fs f n k e lt at =
    let before = take k fs in
    let rest = drop (k + 1) fs in
    let cut : drop k fs ≡ f ∷ rest = drop_more fs k f lt ∙ ap (λ (x : Frame). x ∷ rest) (sym at) in
    let whole : fs ≡ before ++ f ∷ rest = sym (take-append-drop k fs) ∙ ap (λ (l : List Frame). before ++ l) cut in
    let size : length before ≡ k = length-take-le k fs (omega (arith, lt)) in
    ap (λ (m : ℕ). at_frame none step fs m) (e ∙ sym (ap (λ (m : ℕ). suc m) size))
    ∙ ap (λ (gs : List Frame). at_frame none step gs (suc (length before))) whole
    ∙ up_after none step before rest f
    ∙ ap (λ (m : ℕ). step (at_frame none step before (m - back_of f)) f) size
    ∙ ap (λ (x : _). step x f) (sym (frame_stays none step before (f ∷ rest) (k - back_of f) (omega (arith, size))))
    ∙ ap (λ (gs : List Frame). step (at_frame none step gs (k - back_of f)) f) (sym whole)

pub args_names : (fs new : List Frame) (back outer n : ℕ) (before : Bor (List Entry)) (args : Bor (List ℕ)) → new ≡ fs ++ Frame.Args back before args ∷ [] → back ≡ length fs - outer → outer ≤ length fs → n ≡ length new
    → names_at new n ≡ given (map (meaning_at (terms_of before.now)) args.now) (names_at fs outer)
args_names fs new back outer n before args p b le e = frame_entered no_names framed fs new (Frame.Args back before args) outer n p b le e

pub args_room : (fs new : List Frame) (back outer n : ℕ) (before : Bor (List Entry)) (args : Bor (List ℕ)) → new ≡ fs ++ Frame.Args back before args ∷ [] → back ≡ length fs - outer → outer ≤ length fs → n ≡ length new
    → room_at new n ≡ 4 ^ length before.now + room_at fs outer + 1
args_room fs new back outer n before args p b le e = let h = frame_entered 0 frame_room fs new (Frame.Args back before args) outer n p b le e in omega (arith, h)

pub block_names : (fs new : List Frame) (back outer n base depth : ℕ) → new ≡ fs ++ Frame.Block back base depth ∷ [] → back ≡ length fs - outer → outer ≤ length fs → n ≡ length new
    → names_at new n ≡ inside base depth (names_at fs outer)
block_names fs new back outer n base depth p b le e = frame_entered no_names framed fs new (Frame.Block back base depth) outer n p b le e

pub block_room : (fs new : List Frame) (back outer n base depth : ℕ) → new ≡ fs ++ Frame.Block back base depth ∷ [] → back ≡ length fs - outer → outer ≤ length fs → n ≡ length new
    → room_at new n ≡ room_at fs outer + 1
block_room fs new back outer n base depth p b le e = let h = frame_entered 0 frame_room fs new (Frame.Block back base depth) outer n p b le e in omega (arith, h)

pub named_tree : (fs : List Frame) (f : Frame) (n k outer place d : ℕ) (o : Option Spot) → n ≡ suc k → k < length fs → f ≡ get_or fs k f → outer ≡ k - back_of f
    → found_tree fs outer place o d ≡ framed (names_at fs outer) f place d → found_tree fs outer place o d ≡ names_at fs n place d
named_tree fs f n k outer place d o e lt at out h =
    h ∙ sym (ap (λ (x : Names). x place d) (frame_read no_names framed fs f n k e lt at ∙ ap (λ (m : ℕ). framed (names_at fs m) f) (sym out)))

pub named_room : (fs : List Frame) (f : Frame) (n k outer : ℕ) (o : Option Spot) → n ≡ suc k → k < length fs → f ≡ get_or fs k f → outer ≡ k - back_of f
    → found_room fs outer o < frame_room (room_at fs outer) f → found_room fs outer o < room_at fs n
named_room fs f n k outer o e lt at out h =
    let r : room_at fs n ≡ frame_room (room_at fs outer) f = frame_read 0 frame_room fs f n k e lt at ∙ ap (λ (m : ℕ). frame_room (room_at fs m) f) (sym out) in
    omega (arith, h, r)

pub room_some : (b : ℕ) → 1 ≤ 4 ^ b
room_some b = let some : 0 < 4 = omega arith in pow-le-pow_right {n = 4} some {i = 0} {j = b} (omega arith)

-- what is left to read falls from a term to its node
pub room_falls : (n b : ℕ) → b < n → 2 * 4 ^ b + 1 < 4 ^ n
room_falls n b lt =
    let less : suc b ≤ n = omega (arith, lt) in
    let some : 0 < 4 = omega arith in
    let one = room_some b in
    let grows : 4 ^ suc b ≤ 4 ^ n = pow-le-pow_right {n = 4} some {i = suc b} {j = n} less in
    let step : 4 ^ suc b ≡ 4 ^ b * 4 = pow-suc 4 b in
    omega (arith, one, grows, step)

pub below_all : {A E : Type 0} (r : Result A E) (f : A → ℕ) (x y : ℕ) → x < y → IfOk r (λ (a : A). f a ≤ x) → IfOk r (λ (a : A). f a < y)
below_all (Ok a) f x y lt h = omega (arith, lt, h)
below_all (Err e) f x y lt h = tt
