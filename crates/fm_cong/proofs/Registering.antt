-- A registered term more leaves what holds, now and at each mark.
use Rattle.std.proofs.Common.{◌≡◌, ℕ, ◌≤◌, Bool, true, List, [], ◌∷◌, ◌++◌, length, Option, sym, subst}
use Rattle.std.specs.List.{All, Contains}
use Rattle.std.proofs.lemmas.List.Elements.{All-push, All-weaker, Contains-append_left}
use Rattle.fm_bank.specs.Closure.{IsClosed, Shape, are_congruent, object}
use Rattle.fm_bank.specs.Terms.{Term}
use Rattle.fm_cells.specs.Forest.{link_of}
use Rattle.fm_cells.specs.Rings.{own_or}
use Rattle.fm_cells.specs.declared.edge.Cause.{Cause}
use Rattle.fm_cells.specs.declared.edge.Edge.{Edge}
use Rattle.fm_cong.specs.Graphs.{Cells, IsWorking, pairs_of}
use Rattle.fm_cong.specs.Levels.{IsKept, IsSteady, cells_at}
use Rattle.fm_cong.specs.Paths.{IsJustified}
use Rattle.fm_cong.specs.Tables.{AreCongruent, IsKnown, IsStored, IsTable, find_in}
use Rattle.fm_cong.specs.declared.fact.Fact.{Fact}
use Rattle.fm_cong.specs.declared.mark.Mark.{Mark}
use Rattle.fm_cong.specs.declared.state.State.{State}
use Rattle.fm_cong.proofs.Marking.{take_append}
use Rattle.fm_cong.proofs.Running.{all_left}

module _ (shapes : List Shape) (s : Shape) where
  more : (t : Shape) → Contains shapes t → Contains (shapes ++ s ∷ []) t
  more t h = Contains-append_left shapes (s ∷ []) t h

  closed_fewer : (pairs : List (ℕ × ℕ)) (R : ℕ → ℕ → Bool) → IsClosed (shapes ++ s ∷ []) pairs R → IsClosed shapes pairs R
  closed_fewer pairs R r =
      let Q : Shape → Shape → Type 0 = λ a b. are_congruent R a b ≡ true → R (object a.number) (object b.number) ≡ true in
      record {
        reflexive = r.reflexive;
        symmetric = r.symmetric;
        transitive = r.transitive;
        facts_hold = r.facts_hold;
        congruent = all_left (λ a. All (λ b. Q a b) shapes) (shapes ++ s ∷ []) shapes more (All-weaker (λ a. All (λ b. Q a b) (shapes ++ s ∷ [])) (λ a. All (λ b. Q a b) shapes) (λ a h. all_left (λ b. Q a b) (shapes ++ s ∷ []) shapes more h) (shapes ++ s ∷ []) r.congruent);
      }

  justified_with : (facts : List Fact) (link : ℕ → Option Edge) (cause : Cause) (time u v : ℕ) → IsJustified shapes facts link cause time u v → IsJustified (shapes ++ s ∷ []) facts link cause time u v
  justified_with facts link (Cause.Fact lit) time u v j = j
  justified_with facts link Cause.Congruence time u v j = record { left = j.left; right = j.right; left_in = more j.left j.left_in; right_in = more j.right j.right_in; u_is = j.u_is; v_is = j.v_is; symbols = j.symbols; args = j.args }

  stored_with : (class : ℕ → ℕ) (e : Term × ℕ) → IsStored shapes class e → IsStored (shapes ++ s ∷ []) class e
  stored_with class e h = record { shape = h.shape; there = more h.shape h.there; node = h.node; symbols = h.symbols; args = h.args }

  congruent_with : (class : ℕ → ℕ) (p : ℕ × ℕ) → AreCongruent shapes class p → AreCongruent (shapes ++ s ∷ []) class p
  congruent_with class p h = record { left = h.left; right = h.right; left_in = more h.left h.left_in; right_in = more h.right h.right_in; left_is = h.left_is; right_is = h.right_is; symbols = h.symbols; args = h.args }

  pub working_with : (c : Cells) (waiting : List (ℕ × ℕ)) → IsKnown (length c.class) s → c.entered ≤ length shapes → IsWorking shapes c waiting → IsWorking (shapes ++ s ∷ []) c waiting
  working_with c waiting k le w =
      record {
        nexts = w.nexts;
        sizes = w.sizes;
        linked = w.linked;
        below = w.below;
        rings = w.rings;
        within = w.within;
        known = All-push (IsKnown (length c.class)) shapes s w.known k;
        sound = λ x R r. w.sound x R (closed_fewer (pairs_of c.facts) R r);
        forest = record { trees = w.forest.trees; justified = λ e l h. justified_with c.facts (link_of c.links) l.cause l.time e l.to (w.forest.justified e l h); past = w.forest.past };
        entering = record { roots = w.entering.roots; stored = All-weaker (IsStored shapes (own_or c.class)) (IsStored (shapes ++ s ∷ []) (own_or c.class)) (stored_with (own_or c.class)) c.entries w.entering.stored; waits = All-weaker (AreCongruent shapes (own_or c.class)) (AreCongruent (shapes ++ s ∷ []) (own_or c.class)) (congruent_with (own_or c.class)) waiting w.entering.waits };
        table = subst (λ (ss : List Shape). IsTable ss (own_or c.class) (find_in c.entries) waiting) (sym (take_append c.entered shapes (s ∷ []) le)) w.table;
      }

  pub steady_with : (c : Cells) → IsKnown (length c.class) s → c.entered ≤ length shapes → IsSteady shapes c → IsSteady (shapes ++ s ∷ []) c
  steady_with c k le h = record { working = working_with c [] k le h.working; holds = h.holds }

  pub kept_with : (state : State) (m : Mark) → IsKnown (length (cells_at state m).class) s → m.entered ≤ length shapes → IsKept shapes state m → IsKept (shapes ++ s ∷ []) state m
  kept_with state m k le h = record { inside = h.inside; steady = steady_with (cells_at state m) k le h.steady }
