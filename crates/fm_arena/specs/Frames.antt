-- What names stand for within the blocks and the uses of definitions around a term, which are kept in a list of frames.
use Rattle.std.specs.Prelude.{ℕ, zero, suc, ◌+◌, ◌-◌, ◌*◌, ◌^◌, ◌≡◌, ◌<◌, ◌≤◌, Bool, List, [], ◌∷◌, ◌++◌, length, map, get_or, Option, Some, None, Result, IfOk}
use Rattle.fm_arena.specs.Trees.{nothing, of_kind, built}
use Rattle.fm_arena.specs.Meanings.{Names, Placed, no_names, inside, given, meaning_at, meaning_of, quantified, terms_of, trees_at}
use Rattle.fm_base.specs.declared.formula.Fterm.{Fterm}
use Rattle.fm_base.specs.declared.ids.Memory.{Memory}
use Rattle.fm_arena.specs.declared.node.Entry.{Entry}
use Rattle.fm_arena.specs.declared.node.Node.{Node}
use Rattle.fm_arena.specs.declared.node.Tree.{Tree}
use Rattle.fm_arena.specs.declared.frames.Frame.{Frame}
use Rattle.fm_arena.specs.declared.frames.Block.{Block}
use Rattle.fm_arena.specs.declared.frames.Spot.{Spot}

abbrev pub back_of : Frame → ℕ
back_of (Frame.Block back base depth) = back
back_of (Frame.Args back before args) = back

-- the fact of a frame by its number, which is one more than its place
abbrev pub read_up : {A : Type 0} → A → List A → ℕ → A
read_up none xs zero = none
read_up none xs (suc i) = get_or xs i none

-- a fact of each frame, one after the other, each from that of its outer frame
abbrev pub read_frames : {A : Type 0} → A → (A → Frame → A) → List A → List Frame → List A
read_frames none step xs [] = xs
read_frames none step xs (f ∷ fs) = read_frames none step (xs ++ step (read_up none xs (length xs - back_of f)) f ∷ []) fs

abbrev pub at_frame : {A : Type 0} → A → (A → Frame → A) → List Frame → ℕ → A
at_frame none step fs n = read_up none (read_frames none step [] fs) n

-- the arguments of a use, where other names stand around it
abbrev pub given_at : List Entry → List ℕ → Names → Names
given_at before args outer = given (map (meaning_at (terms_of before)) args) outer

-- the names within a frame, by those of the outer one
abbrev pub framed : Names → Frame → Names
framed outer (Frame.Block back base depth) = inside base depth outer
framed outer (Frame.Args back before args) = given_at before.now args.now outer

abbrev pub names_at : List Frame → ℕ → Names
names_at fs n = at_frame no_names framed fs n

-- the frame of this number gives the arguments, which are read under the frame of the use
abbrev pub GivesArguments : List Frame → List Frame → List Entry → List ℕ → ℕ → ℕ → Type 0
GivesArguments old new before args frame n = names_at new n ≡ given_at before args (names_at old frame)

-- a tree in the kind that is wanted of it, if one is
abbrev pub wanted : Option Bool → Tree → Tree
wanted None t = t
wanted (Some truth) t = of_kind truth t

-- the trees of a term, of a node and of several terms within a frame
abbrev pub term_tree : List Frame → List Entry → ℕ → ℕ → Placed
term_tree fs es number frame = meaning_at (terms_of es) number (names_at fs frame)

abbrev pub node_tree : List Frame → List Entry → Node → ℕ → Placed
node_tree fs es node frame = meaning_of (terms_of es) node (names_at fs frame)

abbrev pub part_trees : List Frame → List Entry → List ℕ → ℕ → ℕ → List Tree
part_trees fs es parts frame d = trees_at (terms_of es) parts (names_at fs frame) d

abbrev pub block_tree : List Frame → Block → Placed
block_tree fs b = quantified b.all b.vars.now b.base (meaning_at (terms_of b.before.now) b.body) (names_at fs b.frame)

abbrev pub spot_tree : List Frame → Spot → Placed
spot_tree fs Spot.Nothing d = nothing
spot_tree fs (Spot.Variable v) d = Tree.Thing (Fterm.Var v)
spot_tree fs (Spot.Term entries number frame) d = term_tree fs entries.now number frame d
spot_tree fs (Spot.Made before op parts frame) d = built op (part_trees fs before.now parts.now frame d)
spot_tree fs (Spot.Block b) d = block_tree fs b d

-- where a way leads, in the kind that is wanted there: to the tree that was wanted
abbrev pub Leads : List Frame → Option Bool → Placed → Result (Option Bool × Spot) Memory → Type 0
Leads fs kind at result = (d : ℕ) → IfOk result (λ r. wanted r.0 (spot_tree fs r.1 d) ≡ wanted kind (at d))

-- the way ends here
abbrev pub IsEnd : Spot → Type 0
IsEnd Spot.Nothing = Unit {0}
IsEnd (Spot.Variable v) = Unit {0}
IsEnd (Spot.Term entries number frame) = ⊥
IsEnd (Spot.Made before op parts frame) = Unit {0}
IsEnd (Spot.Block b) = Unit {0}

-- what stands for a name: a place, or else the name in the outer frame
abbrev pub found_tree : List Frame → ℕ → ℕ → Option Spot → Placed
found_tree fs outer place None = names_at fs outer place
found_tree fs outer place (Some s) = spot_tree fs s

abbrev pub IsFound : Frame → ℕ → ℕ → Result (Option Spot) Memory → Type 0
IsFound frame outer place result = (fs : List Frame) (d : ℕ) → IfOk result (λ o. found_tree fs outer place o d ≡ framed (names_at fs outer) frame place d)

-- the frame of a place is one of so many
abbrev pub IsWithin : ℕ → Spot → Type 0
IsWithin n Spot.Nothing = Unit {0}
IsWithin n (Spot.Variable v) = Unit {0}
IsWithin n (Spot.Term entries number frame) = frame ≤ n
IsWithin n (Spot.Made before op parts frame) = frame ≤ n
IsWithin n (Spot.Block b) = b.frame ≤ n

-- A bound on what is left to read: arguments are terms over the entries before a use.

abbrev pub frame_room : ℕ → Frame → ℕ
frame_room outer (Frame.Block back base depth) = suc outer
frame_room outer (Frame.Args back before args) = suc (4 ^ length before.now + outer)

abbrev pub room_at : List Frame → ℕ → ℕ
room_at fs n = at_frame 0 frame_room fs n

abbrev pub term_room : List Frame → List Entry → ℕ → ℕ
term_room fs es frame = 4 ^ length es + room_at fs frame

abbrev pub node_room : List Frame → List Entry → ℕ → ℕ
node_room fs es frame = 2 * 4 ^ length es + 1 + room_at fs frame

abbrev pub spot_room : List Frame → Spot → ℕ
spot_room fs Spot.Nothing = 0
spot_room fs (Spot.Variable v) = 0
spot_room fs (Spot.Term entries number frame) = term_room fs entries.now frame
spot_room fs (Spot.Made before op parts frame) = 4 ^ length before.now + 2 + room_at fs frame
spot_room fs (Spot.Block b) = 4 ^ length b.before.now + 2 + room_at fs b.frame

abbrev pub found_room : List Frame → ℕ → Option Spot → ℕ
found_room fs outer None = room_at fs outer
found_room fs outer (Some s) = spot_room fs s

abbrev pub IsNearer : Frame → ℕ → Result (Option Spot) Memory → Type 0
IsNearer frame outer result = (fs : List Frame) → IfOk result (λ o. found_room fs outer o < frame_room (room_at fs outer) frame)
