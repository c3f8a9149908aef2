-- What a line makes is one up to order and repeats, and so is what good lines make one after the other.
use Rattle.std.proofs.Common.{◌≡◌, ◌≢◌, ℕ, zero, suc, ◌+◌, ◌⊎◌, inl, inr, List, [], ◌∷◌, ◌++◌, Some, refl, sym, ap, subst, ◌∙◌}
use Rattle.std.specs.Prelude.{slice_get}
use Rattle.fm_bank.specs.Instances.{ground_literals}
use Rattle.fm_bank.specs.Terms.{Term, application, numbers}
use Rattle.fm_bank.specs.declared.clause.Clause.{Clause as FirstOrderClause}
use Rattle.fm_bank.specs.declared.literal.Literal.{Literal}
use Rattle.fm_cert.specs.Lines.{AreGoodLines, Chain, Clause, Has, Made, Makes, MakesClause, Problem, Resolves, SameSet, above, at_most, more_than, nothing, opposite, some_equal, sum_clause, within}
use Rattle.fm_cert.specs.declared.block.Line.{Line}

set_refl : (a : Clause) → SameSet a a
set_refl a = λ l. ((λ h. h), (λ h. h))

pub set_sym : (a b : Clause) → SameSet a b → SameSet b a
set_sym a b s = λ l. ((s l).1, (s l).0)

pub set_trans : (a b c : Clause) → SameSet a b → SameSet b c → SameSet a c
set_trans a b c s t = λ l. ((λ h. (t l).0 ((s l).0 h)), (λ h. (s l).1 ((t l).1 h)))

one_row : (c d row : Clause) → SameSet c row → SameSet d row → SameSet c d
one_row c d row h k = set_trans c row d h (set_sym d row k)

-- clauses that are one set, one by one
abbrev pub AreSame : List Clause → List Clause → Type 0
AreSame [] [] = Unit {0}
AreSame [] (d ∷ ds) = ⊥
AreSame (c ∷ cs) [] = ⊥
AreSame (c ∷ cs) (d ∷ ds) = SameSet c d × AreSame cs ds

pub record IsSame (m n : Made) : Type 0 where
  pub terms : m.terms ≡ n.terms
  pub clauses : AreSame m.clauses n.clauses

same_push : (cs ds : List Clause) (c d : Clause) → AreSame cs ds → SameSet c d → AreSame (cs ++ c ∷ []) (ds ++ d ∷ [])
same_push [] [] c d h s = (s, tt)
same_push [] (y ∷ ds) c d h s = absurd h
same_push (x ∷ cs) [] c d h s = absurd h
same_push (x ∷ cs) (y ∷ ds) c d h s = (h.0, same_push cs ds c d h.1 s)

pub same_at : (cs ds : List Clause) (i : ℕ) (c : Clause) → AreSame cs ds → slice_get cs i ≡ Some c → (d : Clause) × (slice_get ds i ≡ Some d) × SameSet c d
same_at [] [] i c h e = cc
same_at [] (y ∷ ds) i c h e = absurd h
same_at (x ∷ cs) [] i c h e = absurd h
same_at (x ∷ cs) (y ∷ ds) zero c h e = let is : x ≡ c = cc e in (y, refl, subst (λ (z : Clause). SameSet z y) is h.0)
same_at (x ∷ cs) (y ∷ ds) (suc i) c h e = same_at cs ds i c h.1 e

same_resolves : (a a' : Clause) (l : Literal) (b b' r : Clause) → SameSet a a' → SameSet b b' → Resolves a l b r → Resolves a' l b' r
same_resolves a a' l b b' r s t h =
    record {
      stands = (s l).0 h.stands;
      against = (t (opposite l)).0 h.against;
      exactly = λ k. (
        (λ (x : Has r k). elim ((h.exactly k).0 x) [
          | inl p ↦ inl ((s k).0 p.0, p.1)
          | inr p ↦ inr ((t k).0 p.0, p.1)
        ]),
        (λ (x : (Has a' k × (k ≢ l)) ⊎ (Has b' k × (k ≢ opposite l))). (h.exactly k).1 (elim x [
          | inl p ↦ inl ((s k).1 p.0, p.1)
          | inr p ↦ inr ((t k).1 p.0, p.1)
        ])),
      );
    }

one_resolvent : (a : Clause) (l : Literal) (b r r' : Clause) → Resolves a l b r → Resolves a l b r' → SameSet r r'
one_resolvent a l b r r' h h' = λ k. ((λ x. (h'.exactly k).1 ((h.exactly k).0 x)), (λ x. (h.exactly k).1 ((h'.exactly k).0 x)))

same_chain : (cs ds : List Clause) (now now' : Clause) (steps : List (Literal × ℕ)) (r : Clause) → AreSame cs ds → SameSet now now' → Chain cs now steps r → Chain ds now' steps r
same_chain cs ds now now' [] r h s e = set_trans now' now r (set_sym now now' s) e
same_chain cs ds now now' (step ∷ steps) r h s (other, next, found, resolves, rest) =
    let o = same_at cs ds step.1 other h found in
    (o.0, next, o.1, same_resolves now now' step.0 other o.0 next s o.2 resolves, same_chain cs ds next next steps r h (set_refl next) rest)

one_chain : (cs : List Clause) (now : Clause) (steps : List (Literal × ℕ)) (r r' : Clause) → Chain cs now steps r → Chain cs now steps r' → SameSet r r'
one_chain cs now [] r r' e f = set_trans r now r' (set_sym now r e) f
one_chain cs now (step ∷ steps) r r' (other, next, found, resolves, rest) (other', next', found', resolves', rest') =
    let same : other' ≡ other = cc (sym found' ∙ found) in
    let there : Resolves now step.0 other next' = subst (λ (o : Clause). Resolves now step.0 o next') same resolves' in
    let nexts = one_resolvent now step.0 other next' next there resolves in
    one_chain cs next steps r r' rest (same_chain cs cs next' next steps r' (all_same cs) nexts rest')
  where
    all_same : (cs : List Clause) → AreSame cs cs
    all_same [] = tt
    all_same (c ∷ cs) = ((λ l. ((λ h. h), (λ h. h))), all_same cs)

-- a line is good after what is the same, and makes the same
clause_same : (p : Problem) (m n : Made) (line : Line) (c : Clause) → IsSame m n → MakesClause p m line c → MakesClause p n line c
clause_same p m n (Line.Term f args) c s h = h
clause_same p m n (Line.Instance i subst') c s h = subst (λ (ts : List Term). MakesClause p (record { terms = ts; clauses = n.clauses }) (Line.Instance i subst') c) s.terms h
clause_same p m n (Line.Equality lits support) c s h = subst (λ (ts : List Term). MakesClause p (record { terms = ts; clauses = n.clauses }) (Line.Equality lits support) c) s.terms h
clause_same p m n (Line.Cardinality u k ts) c s h = subst (λ (us : List Term). MakesClause p (record { terms = us; clauses = n.clauses }) (Line.Cardinality u k ts) c) s.terms h
clause_same p m n (Line.OrderCard u k) c s h = h
clause_same p m n (Line.OrderBound k) c s h = h
clause_same p m n (Line.Sum k ks) c s h = h
clause_same p m n (Line.OrderZero u) c s h = h
clause_same p m n (Line.Resolution first steps) c s (some, (start, found, chain)) =
    let o = same_at m.clauses n.clauses first start s.clauses found in
    (some, (o.0, o.1, same_chain m.clauses n.clauses start o.0 steps c s.clauses o.2 chain))

one_clause : (p : Problem) (m : Made) (line : Line) (c d : Clause) → MakesClause p m line c → MakesClause p m line d → SameSet c d
one_clause p m (Line.Term f args) c d h k = absurd h
one_clause p m (Line.Instance i subst') c d (input, literals, found, is, same) (input', literals', found', is', same') =
    let inputs : input' ≡ input = cc (sym found' ∙ found) in
    let there : ground_literals m.terms (numbers subst') input.lits ≡ Some literals' = ap (λ (x : FirstOrderClause). ground_literals m.terms (numbers subst') x.lits) (sym inputs) ∙ is'.1 in
    let lists : literals' ≡ literals = cc (sym there ∙ is.1) in
    set_trans c literals d same (set_sym d literals (subst (λ (ls : List Literal). SameSet d ls) lists same'))
one_clause p m (Line.Equality lits support) c d h k = set_trans c lits d h.1 (set_sym d lits k.1)
one_clause p m (Line.Cardinality u j ts) c d h k = one_row c d (more_than u.0 j ∷ some_equal (numbers ts)) h.2 k.2
one_clause p m (Line.OrderCard u j) c d h k = one_row c d (more_than u.0 j ∷ at_most u.0 (j + 1) ∷ []) h.2 k.2
one_clause p m (Line.OrderBound j) c d h k = one_row c d (above j ∷ within (j + 1) ∷ []) h.1 k.1
one_clause p m (Line.Sum j ks) c d h k = one_row c d (sum_clause 0 ks j) h.2 k.2
one_clause p m (Line.OrderZero u) c d h k = one_row c d (more_than u.0 0 ∷ []) h.1 k.1
one_clause p m (Line.Resolution first steps) c d (some, (start, found, chain)) (some', (start', found', chain')) =
    let same : start' ≡ start = cc (sym found' ∙ found) in
    one_chain m.clauses start steps c d chain (subst (λ (s : Clause). Chain m.clauses s steps d) same chain')

same_clause_made : (m n : Made) (c d : Clause) → IsSame m n → SameSet c d → IsSame (record { terms = m.terms; clauses = m.clauses ++ c ∷ [] }) (record { terms = n.terms; clauses = n.clauses ++ d ∷ [] })
same_clause_made m n c d s t = record { terms = s.terms; clauses = same_push m.clauses n.clauses c d s.clauses t }

-- every line but a term's makes a clause
abbrev MakesOne : Problem → Made → Line → Made → Type 0
MakesOne p m line after = (c : Clause) × MakesClause p m line c × (after ≡ record { terms = m.terms; clauses = m.clauses ++ c ∷ [] })

one_made : (p : Problem) (m n m' n' : Made) (line : Line) → IsSame m n → MakesOne p m line m' → MakesOne p n line n' → IsSame m' n'
one_made p m n m' n' line s (c, h, is) (d, k, is') =
    let both = one_clause p n line c d (clause_same p m n line c s h) k in
    subst (λ (x : Made). IsSame x n') (sym is) (subst (λ (y : Made). IsSame (record { terms = m.terms; clauses = m.clauses ++ c ∷ [] }) y) (sym is') (same_clause_made m n c d s both))

pub same_makes : (p : Problem) (m n m' : Made) (line : Line) → IsSame m n → Makes p m line m' → (n' : Made) × Makes p n line n'
same_makes p m n m' (Line.Term f args) s h = (_, subst (λ (ts : List Term). Makes p (record { terms = ts; clauses = n.clauses }) (Line.Term f args) (record { terms = ts ++ application f args ∷ []; clauses = n.clauses })) s.terms (h.0, refl))
same_makes p m n m' (Line.Instance i u) s (c, h, is) = (_, (c, clause_same p m n (Line.Instance i u) c s h, refl))
same_makes p m n m' (Line.Equality lits support) s (c, h, is) = (_, (c, clause_same p m n (Line.Equality lits support) c s h, refl))
same_makes p m n m' (Line.Cardinality u k ts) s (c, h, is) = (_, (c, clause_same p m n (Line.Cardinality u k ts) c s h, refl))
same_makes p m n m' (Line.OrderCard u k) s (c, h, is) = (_, (c, clause_same p m n (Line.OrderCard u k) c s h, refl))
same_makes p m n m' (Line.OrderBound k) s (c, h, is) = (_, (c, clause_same p m n (Line.OrderBound k) c s h, refl))
same_makes p m n m' (Line.Sum k ks) s (c, h, is) = (_, (c, clause_same p m n (Line.Sum k ks) c s h, refl))
same_makes p m n m' (Line.OrderZero u) s (c, h, is) = (_, (c, clause_same p m n (Line.OrderZero u) c s h, refl))
same_makes p m n m' (Line.Resolution first steps) s (c, h, is) = (_, (c, clause_same p m n (Line.Resolution first steps) c s h, refl))

pub one_makes : (p : Problem) (m n m' n' : Made) (line : Line) → IsSame m n → Makes p m line m' → Makes p n line n' → IsSame m' n'
one_makes p m n m' n' (Line.Term f args) s h k =
    let here : IsSame (record { terms = m.terms ++ application f args ∷ []; clauses = m.clauses }) (record { terms = n.terms ++ application f args ∷ []; clauses = n.clauses }) = record { terms = ap (λ (ts : List Term). ts ++ application f args ∷ []) s.terms; clauses = s.clauses } in
    subst (λ (x : Made). IsSame x n') (sym h.1) (subst (λ (y : Made). IsSame (record { terms = m.terms ++ application f args ∷ []; clauses = m.clauses }) y) (sym k.1) here)
one_makes p m n m' n' (Line.Instance i u) s h k = one_made p m n m' n' (Line.Instance i u) s h k
one_makes p m n m' n' (Line.Equality lits support) s h k = one_made p m n m' n' (Line.Equality lits support) s h k
one_makes p m n m' n' (Line.Cardinality u j ts) s h k = one_made p m n m' n' (Line.Cardinality u j ts) s h k
one_makes p m n m' n' (Line.OrderCard u j) s h k = one_made p m n m' n' (Line.OrderCard u j) s h k
one_makes p m n m' n' (Line.OrderBound j) s h k = one_made p m n m' n' (Line.OrderBound j) s h k
one_makes p m n m' n' (Line.Sum j ks) s h k = one_made p m n m' n' (Line.Sum j ks) s h k
one_makes p m n m' n' (Line.OrderZero u) s h k = one_made p m n m' n' (Line.OrderZero u) s h k
one_makes p m n m' n' (Line.Resolution first steps) s h k = one_made p m n m' n' (Line.Resolution first steps) s h k

pub one_end : (p : Problem) (m n : Made) (lines : List Line) (e f : Made) → IsSame m n → AreGoodLines p m lines e → AreGoodLines p n lines f → IsSame e f
one_end p m n [] e f s g h = subst (λ (x : Made). IsSame x f) (sym g) (subst (λ (y : Made). IsSame m y) (sym h) s)
one_end p m n (line ∷ lines) e f s (a, makes, rest) (b, makes', rest') = one_end p a b lines e f (one_makes p m n a b line s makes makes') rest rest'

same_sym_all : (cs ds : List Clause) → AreSame cs ds → AreSame ds cs
same_sym_all [] [] h = tt
same_sym_all [] (d ∷ ds) h = h
same_sym_all (c ∷ cs) [] h = h
same_sym_all (c ∷ cs) (d ∷ ds) h = (set_sym c d h.0, same_sym_all cs ds h.1)

pub same_sym : (m n : Made) → IsSame m n → IsSame n m
same_sym m n s = record { terms = sym s.terms; clauses = same_sym_all m.clauses n.clauses s.clauses }

pub nothing_same : IsSame nothing nothing
nothing_same = record { terms = refl; clauses = tt }
