-- Logs grow at their end, and what a log takes back joins.
use Rattle.std.proofs.Common.{◌≡◌, ℕ, ◌<◌, List, [], ◌∷◌, ◌++◌, length, take, drop, get_or, refl, sym, ap, subst, ◌∙◌, append_assoc, append-nil, length-set, set-set}
use Rattle.std.proofs.Math.Seq.{drop-append_seam, take-append_seam}
use Rattle.std.specs.Prelude.{slice_set}
use Rattle.std.specs.List.{All}
use Rattle.std.proofs.lemmas.List.{set-get_or, take-append-drop}
use Rattle.std.proofs.lemmas.List.Elements.{All-push}
use Rattle.fm_cells.specs.Logs.{AreOfCells, HasLogged, restored}

pub restored_more : {X : Type 0} → (a b : List (ℕ × X)) (cells : List X) → restored (a ++ b) cells ≡ restored a (restored b cells)
restored_more [] b cells = refl
restored_more (e ∷ a) b cells = ap (λ xs. slice_set xs e.0 e.1) (restored_more a b cells)

pub logged_none : {X : Type 0} → (log : List (ℕ × X)) (cells : List X) → HasLogged log cells log cells
logged_none log cells = record { tail = []; grown = sym (append-nil log); back = refl }

pub logged_more : {X : Type 0} → (a b c : List (ℕ × X)) (x y z : List X) → HasLogged a x b y → HasLogged b y c z → HasLogged a x c z
logged_more a b c x y z p q =
    record {
      tail = p.tail ++ q.tail;
      grown = q.grown ∙ ap (λ log. log ++ q.tail) p.grown ∙ append_assoc a p.tail q.tail;
      back = restored_more p.tail q.tail z ∙ ap (restored p.tail) q.back ∙ p.back;
    }

pub logged_write : {X : Type 0} → (log : List (ℕ × X)) (cells : List X) (i : ℕ) (d old new : X) → old ≡ get_or cells i d → HasLogged log cells (log ++ (i, old) ∷ []) (slice_set cells i new)
logged_write log cells i d old new e =
    record {
      tail = (i, old) ∷ [];
      grown = refl;
      back = set-set cells i new old ∙ ap (slice_set cells i) e ∙ set-get_or cells i d;
    }

pub places_write : {X : Type 0} → (cells : List X) (log : List (ℕ × X)) (i : ℕ) (old new : X) → i < length cells → AreOfCells cells log → AreOfCells (slice_set cells i new) (log ++ (i, old) ∷ [])
places_write {X} cells log i old new lt h =
    subst (λ (n : ℕ). All (λ (e : ℕ × X). e.0 < n) (log ++ (i, old) ∷ [])) (sym (length-set cells i new)) (All-push (λ (e : ℕ × X). e.0 < length cells) log (i, old) h lt)

-- the newest entry of a log that is a front of another one
pub record IsRewound {X : Type 0} (full new : List (ℕ × X)) (e : ℕ × X) (n : ℕ) : Type 0 where
  pub front : new ≡ take (length new) full
  pub next : drop (length new) full ≡ e ∷ drop n full

pub rewound : {X : Type 0} → (full now new : List (ℕ × X)) (e : ℕ × X) → now ≡ take (length now) full → now ≡ new ++ e ∷ [] → IsRewound full new e (length now)
rewound full now new e front pop =
    let rest = drop (length now) full in
    let whole : full ≡ new ++ (e ∷ rest) = sym (take-append-drop (length now) full) ∙ (ap (λ xs. xs ++ rest) (sym front ∙ pop) ∙ append_assoc new (e ∷ []) rest) in
    record {
      front = sym (take-append_seam new (e ∷ rest)) ∙ ap (take (length new)) (sym whole);
      next = ap (drop (length new)) whole ∙ drop-append_seam new (e ∷ rest);
    }
