-- What a fact more changes, and what a settled state says.
use Rattle.std.proofs.Common.{◌≡◌, ℕ, ◌+◌, ◌<◌, ◌↔◌, Bool, true, List, [], ◌∷◌, ◌++◌, length, take, Option, Some, inl, inr, refl, sym, subst, ap, ◌∙◌, get_or}
use Rattle.std.specs.List.{All, Contains, cons_option}
use Rattle.std.proofs.lemmas.Bool.{eq-eqb, eqb-true}
use Rattle.std.proofs.lemmas.List.Elements.{All-contains, All-more, All-push, All-weaker, Contains-append_left, Contains-push, filter_map-append}
use Rattle.fm_bank.specs.Closure.{Follows, IsClosed, Shape}
use Rattle.fm_bank.specs.Terms.{Term}
use Rattle.fm_cells.specs.Forest.{link_of}
use Rattle.fm_cells.specs.Rings.{own_or}
use Rattle.fm_cells.specs.declared.edge.Cause.{Cause}
use Rattle.fm_cells.specs.declared.edge.Edge.{Edge}
use Rattle.fm_cong.specs.Graphs.{Cells, IsCoarser, IsWorking, pairs_of}
use Rattle.fm_cong.specs.Levels.{IsComplete}
use Rattle.fm_cong.specs.Paths.{IsJustified, joined_by}
use Rattle.fm_cong.specs.Tables.{HasGrown, IsEntered, IsEntering, IsTable, by_number, find_in, moved}
use Rattle.fm_cong.specs.declared.fact.Fact.{Fact}
use Rattle.fm_cong.proofs.Entering.{entered_grown}
use Rattle.fm_cong.proofs.Marking.{take_whole}
use Rattle.fm_cong.proofs.Merging.{follows_back, follows_chain, follows_same, relabel_cases}
use Rattle.fm_cong.proofs.Running.{all_left}
use Rattle.fm_cong.proofs.Tabled.{closed_by_table}

abbrev pub with_facts : Cells → List Fact → Cells
with_facts c facts = record { class = c.class; next = c.next; size = c.size; links = c.links; entries = c.entries; facts = facts; entered = c.entered; time = c.time }

module _ (shapes : List Shape) (old new : List Fact) (fact : Fact) (grown : new ≡ old ++ fact ∷ []) where
  pub pairs_grown : pairs_of new ≡ pairs_of old ++ pairs_of (fact ∷ [])
  pairs_grown = ap pairs_of grown ∙ filter_map-append joined_by old (fact ∷ [])

  closed_less : (R : ℕ → ℕ → Bool) → IsClosed shapes (pairs_of new) R → IsClosed shapes (pairs_of old) R
  closed_less R r =
      let P : ℕ × ℕ → Type 0 = λ p. R p.0 p.1 ≡ true in
      record { reflexive = r.reflexive; symmetric = r.symmetric; transitive = r.transitive; congruent = r.congruent; facts_hold = all_left P (pairs_of new) (pairs_of old) (λ p h. subst (λ ps. Contains ps p) (sym pairs_grown) (Contains-append_left (pairs_of old) (pairs_of (fact ∷ [])) p h)) r.facts_hold }

  justified_read : (link : ℕ → Option Edge) (cause : Cause) (time u v : ℕ) → IsJustified shapes old link cause time u v → IsJustified shapes new link cause time u v
  justified_read link (Cause.Fact lit) time u v j = record { fact = j.fact; read = subst (λ fs. Contains fs j.fact) (sym grown) (Contains-append_left old (fact ∷ []) j.fact j.read); lit_is = j.lit_is; sides_are = j.sides_are }
  justified_read link Cause.Congruence time u v j = j

  pub working_read : (c : Cells) (waiting : List (ℕ × ℕ)) → c.facts ≡ old → IsWorking shapes c waiting → IsWorking shapes (with_facts c new) waiting
  working_read c waiting e w =
      record {
        nexts = w.nexts;
        sizes = w.sizes;
        linked = w.linked;
        known = w.known;
        below = w.below;
        rings = w.rings;
        within = w.within;
        entering = w.entering;
        table = w.table;
        sound = λ x R r. w.sound x R (subst (λ fs. IsClosed shapes (pairs_of fs) R) (sym e) (closed_less R r));
        forest = record { trees = w.forest.trees; justified = λ n l h. justified_read (link_of c.links) l.cause l.time n l.to (subst (λ fs. IsJustified shapes fs (link_of c.links) l.cause l.time n l.to) e (w.forest.justified n l h)); past = w.forest.past };
      }

  module _ (u v : ℕ) (sides : joined_by fact ≡ Some (u, v)) where
    pairs_pushed : pairs_of new ≡ pairs_of old ++ (u, v) ∷ []
    pairs_pushed = pairs_grown ∙ ap (λ o. pairs_of old ++ cons_option o []) sides

    pub follows_read : Follows shapes (pairs_of new) u v
    follows_read = λ R r.
        let P : ℕ × ℕ → Type 0 = λ p. R p.0 p.1 ≡ true in
        All-contains P (pairs_of new) (u, v) r.facts_hold (subst (λ ps. Contains ps (u, v)) (sym pairs_pushed) (Contains-push (pairs_of old) (u, v)))

    pub justified_new : (link : ℕ → Option Edge) (time : ℕ) → IsJustified shapes new link (Cause.Fact fact.lit) time u v
    justified_new link time = record { fact = fact; read = subst (λ fs. Contains fs fact) (sym grown) (Contains-push old fact); lit_is = refl; sides_are = inl sides }

    pub holds_read : (before after : List ℕ) → IsCoarser before after → own_or after u ≡ own_or after v → All (λ (p : ℕ × ℕ). own_or before p.0 ≡ own_or before p.1) (pairs_of old) → All (λ (p : ℕ × ℕ). own_or after p.0 ≡ own_or after p.1) (pairs_of new)
    holds_read before after coarser joined all =
        let P : ℕ × ℕ → Type 0 = λ p. own_or before p.0 ≡ own_or before p.1 in
        let Q : ℕ × ℕ → Type 0 = λ p. own_or after p.0 ≡ own_or after p.1 in
        subst (All Q) (sym pairs_pushed) (All-push Q (pairs_of old) (u, v) (All-weaker P Q (λ p e. coarser p.0 p.1 e) (pairs_of old) all) joined)

pub holds_coarser : (pairs : List (ℕ × ℕ)) (before after : List ℕ) → IsCoarser before after → All (λ (p : ℕ × ℕ). own_or before p.0 ≡ own_or before p.1) pairs → All (λ (p : ℕ × ℕ). own_or after p.0 ≡ own_or after p.1) pairs
holds_coarser pairs before after coarser all = All-weaker (λ (p : ℕ × ℕ). own_or before p.0 ≡ own_or before p.1) (λ (p : ℕ × ℕ). own_or after p.0 ≡ own_or after p.1) (λ p e. coarser p.0 p.1 e) pairs all

-- in a settled state the classes are those of the closure
module _ (shapes : List Shape) (c : Cells) (s : IsComplete shapes c) where
  closed : IsClosed shapes (pairs_of c.facts) (by_number (own_or c.class))
  closed =
      let w = s.steady.working in
      record {
        reflexive = λ x. eq-eqb (own_or c.class x) (own_or c.class x) refl;
        symmetric = λ x y h. eq-eqb (own_or c.class y) (own_or c.class x) (sym (eqb-true (own_or c.class x) (own_or c.class y) h));
        transitive = λ x y z h k. eq-eqb (own_or c.class x) (own_or c.class z) (eqb-true (own_or c.class x) (own_or c.class y) h ∙ eqb-true (own_or c.class y) (own_or c.class z) k);
        facts_hold = All-weaker (λ (p : ℕ × ℕ). own_or c.class p.0 ≡ own_or c.class p.1) (λ (p : ℕ × ℕ). by_number (own_or c.class) p.0 p.1 ≡ true) (λ p e. eq-eqb (own_or c.class p.0) (own_or c.class p.1) e) (pairs_of c.facts) s.steady.holds;
        congruent = closed_by_table shapes (own_or c.class) (find_in c.entries) (subst (λ (ss : List Shape). IsTable ss (own_or c.class) (find_in c.entries) []) (take_whole c.entered shapes s.all) w.table);
      }

  pub one_class_follows : (x y : ℕ) → own_or c.class x ≡ own_or c.class y → Follows shapes (pairs_of c.facts) x y
  one_class_follows x y e =
      let ps = pairs_of c.facts in
      let w = s.steady.working in
      follows_chain shapes ps x (own_or c.class x) y (w.sound x) (follows_chain shapes ps (own_or c.class x) (own_or c.class y) y (follows_same shapes ps (own_or c.class x) (own_or c.class y) e) (follows_back shapes ps y (own_or c.class y) (w.sound y)))

  pub follows_one_class : (x y : ℕ) → Follows shapes (pairs_of c.facts) x y → own_or c.class x ≡ own_or c.class y
  follows_one_class x y h = eqb-true (own_or c.class x) (own_or c.class y) (h (by_number (own_or c.class)) closed)

  pub classes_exact : (x y : ℕ) → (own_or c.class x ≡ own_or c.class y) ↔ Follows shapes (pairs_of c.facts) x y
  classes_exact x y = (one_class_follows x y, follows_one_class x y)

same_moved : (cells : List ℕ) → moved 0 0 cells ≡ own_or cells
same_moved cells = λ i x. same x i
  where
    same : (x : ℕ) → moved 0 0 cells x ≡ own_or cells x
    same x = elim (relabel_cases 0 0 (own_or cells x)) [ inl m ↦ m.1 ∙ sym m.0 | inr m ↦ m.1 ]

pub entering_start : (shapes : List Shape) (c : Cells) (waiting : List (ℕ × ℕ)) → IsWorking shapes c waiting → IsEntering shapes (moved 0 0 c.class) c.entries waiting
entering_start shapes c waiting w = subst (λ (f : ℕ → ℕ). IsEntering shapes f c.entries waiting) (sym (same_moved c.class)) w.entering

-- the state with the next term entered
pub working_entered : (shapes : List Shape) (c : Cells) (waiting waiting' : List (ℕ × ℕ)) (entries' : List (Term × ℕ)) (s : Shape) → IsWorking shapes c waiting → c.entered < length shapes → s ≡ get_or shapes c.entered s → HasGrown c.entries entries' → HasGrown waiting waiting' → IsEntered (moved 0 0 c.class) (find_in entries') waiting' s → IsEntering shapes (moved 0 0 c.class) entries' waiting'
    → IsWorking shapes (record { class = c.class; next = c.next; size = c.size; links = c.links; entries = entries'; facts = c.facts; entered = c.entered + 1; time = c.time }) waiting'
working_entered shapes c waiting waiting' entries' s w lt at ge gw one entering =
    let same = same_moved c.class in
    let here : IsEntered (own_or c.class) (find_in entries') waiting' (get_or shapes c.entered s) = subst (IsEntered (own_or c.class) (find_in entries') waiting') at (subst (λ (f : ℕ → ℕ). IsEntered f (find_in entries') waiting' s) same one) in
    record {
      nexts = w.nexts;
      sizes = w.sizes;
      linked = w.linked;
      known = w.known;
      below = w.below;
      rings = w.rings;
      sound = w.sound;
      forest = w.forest;
      within = w.within;
      entering = subst (λ (f : ℕ → ℕ). IsEntering shapes f entries' waiting') same entering;
      table = All-more (IsEntered (own_or c.class) (find_in entries') waiting') shapes c.entered s lt (All-weaker (IsEntered (own_or c.class) (find_in c.entries) waiting) (IsEntered (own_or c.class) (find_in entries') waiting') (λ t e. entered_grown (own_or c.class) c.entries entries' waiting waiting' t ge gw e) (take c.entered shapes) w.table) here;
    }
