-- Terms that are there, and a block from its lines and its ending.
use Rattle.std.proofs.Common.{◌≡◌, ℕ, suc, ◌+◌, inl, inr, Bool, true, false, ◌||◌, cond, List, [], ◌∷◌, length, Option, Some, None, refl, sym, ap, subst, ◌∙◌, arith}
use Rattle.std.specs.Prelude.{IfNone, IfSome, nat_lt, position}
use Rattle.std.specs.List.{list_any, position_or_len}
use Rattle.std.specs.Option.{is_some, option_map}
use Rattle.std.proofs.lemmas.Bool.{cases_lt, le-ltb, lt-ltb}
use Rattle.fm_bank.proofs.Places.{place_cons}
use Rattle.fm_cert.specs.Claims.{IsGoodBlock, IsGoodEnding}
use Rattle.fm_cert.specs.Lines.{AreGoodLines, Made, Problem, nothing}
use Rattle.fm_cert.specs.declared.block.Block.{Block}
use Rattle.fm_cert.specs.declared.block.Line.{Line}
use Rattle.fm_blocks.specs.Faults.{IsBlockFault, IsEndingFault, bad_behind}
use Rattle.fm_blocks.specs.declared.verdict.Fault.{Fault}

pub mapped_some : {A B : Type 0} (f : A → B) (o : Option A) → is_some o ≡ is_some (option_map f o)
mapped_some f None = refl
mapped_some f (Some a) = refl

some_when : (b : Bool) (n : ℕ) → is_some (cond b (Some n) None) ≡ b
some_when true n = refl
some_when false n = refl

next_place : (a n : ℕ) → nat_lt (1 + a) (suc n) ≡ nat_lt a n
next_place a n =
    elim (cases_lt a n) [
      | inl l ↦ lt-ltb (1 + a) (suc n) (omega arith) ∙ sym (lt-ltb a n l)
      | inr g ↦ le-ltb (1 + a) (suc n) (omega arith) ∙ sym (le-ltb a n g)
    ]

first_place : (b : Bool) (a n : ℕ) (r : Bool) → nat_lt a n ≡ r → nat_lt (cond b 0 (1 + a)) (suc n) ≡ (b || r)
first_place true a n r e = lt-ltb 0 (suc n) (omega arith)
first_place false a n r e = next_place a n ∙ e

place_any : {X : Type 0} (p : X → Bool) (xs : List X) → nat_lt (position_or_len p xs) (length xs) ≡ list_any p xs
place_any p [] = le-ltb (position_or_len p []) 0 (omega arith)
place_any p (x ∷ xs) = ap (λ (k : ℕ). nat_lt k (suc (length xs))) (place_cons p x xs (p x) refl) ∙ first_place (p x) (position_or_len p xs) (length xs) (list_any p xs) (place_any p xs)

pub found_any : {X : Type 0} (p : X → Bool) (xs : List X) → is_some (position p xs) ≡ list_any p xs
found_any p xs = some_when (nat_lt (position_or_len p xs) (length xs)) (position_or_len p xs) ∙ place_any p xs

-- a block, from its lines and its ending
pub good_block : (p : Problem) (b : Block) (old new : Made) (lines : List Line) → old ≡ nothing → lines ≡ b.lines → AreGoodLines p old lines new → IsGoodEnding p new.clauses b.claim → IsGoodBlock p b
good_block p b old new lines empty same good ending =
    record { made = new; lines = subst (λ (ls : List Line). AreGoodLines p nothing ls new) same (subst (λ (m : Made). AreGoodLines p m lines new) empty good); ending = ending }

pub bad_ending : (p : Problem) (at : ℕ) (b : Block) (old new : Made) (lines : List Line) (f : Fault) → old ≡ nothing → lines ≡ b.lines → AreGoodLines p old lines new → IsEndingFault p new.clauses (at + 1 + length lines) b.claim (bad_behind p (at + 1 + length lines) b.claim) f → IsBlockFault p at b f
bad_ending p at b old new lines f empty same good ending =
    let start = subst (λ (m : Made). AreGoodLines p m lines new) empty good in
    inr (new, subst (λ (ls : List Line). AreGoodLines p nothing ls new) same start, subst (λ (ls : List Line). IsEndingFault p new.clauses (at + 1 + length ls) b.claim (bad_behind p (at + 1 + length ls) b.claim) f) same ending)

-- another fact of what is there, or isn't
pub none_so : {X : Type 0} (P Q : Type 0) (o : Option X) → (P → Q) → IfNone o P → IfNone o Q
none_so P Q None f h = f h
none_so P Q (Some x) f h = h

pub some_so : {X : Type 0} (P Q : X → Type 0) (o : Option X) → ((x : X) → P x → Q x) → IfSome o P → IfSome o Q
some_so P Q None f h = h
some_so P Q (Some x) f h = f x h
