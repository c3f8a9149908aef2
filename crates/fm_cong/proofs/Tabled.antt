-- What a table of signatures says of congruence, and what a merge has to put into it.
use Rattle.std.proofs.Common.{◌≡◌, ℕ, ◌⊎◌, true, List, [], ◌∷◌, map, Option, Some, inl, inr, refl, sym, ap, ◌∙◌, arith, get_or}
use Rattle.std.specs.Prelude.{◌==◌}
use Rattle.std.specs.List.{All, Contains}
use Rattle.std.proofs.lemmas.Bool.{and_parts, eq-eqb, eqb-true, false≢true}
use Rattle.fm_bank.specs.Closure.{Shape, are_congruent, are_related, object}
use Rattle.fm_bank.specs.Terms.{Term}
use Rattle.fm_cong.specs.Tables.{IsEntered, IsTable, by_number, signature}

same_classes : (class : ℕ → ℕ) (xs ys : List ℕ) → are_related (by_number class) xs ys ≡ true → map (λ a. class (object a)) xs ≡ map (λ a. class (object a)) ys
same_classes class [] [] e = refl
same_classes class [] (y ∷ ys) e = absurd (false≢true e)
same_classes class (x ∷ xs) [] e = absurd (false≢true e)
same_classes class (x ∷ xs) (y ∷ ys) e =
    let p = and_parts (class (object x) == class (object y)) (are_related (by_number class) xs ys) e in
    let first : class (object x) ≡ class (object y) = eqb-true (class (object x)) (class (object y)) p.0 in
    let rest = same_classes class xs ys p.1 in
    λ i. first i ∷ rest i

one_signature : (class : ℕ → ℕ) (a b : Shape) → are_congruent (by_number class) a b ≡ true → signature class a ≡ signature class b
one_signature class a b e =
    let p = and_parts (a.symbol == b.symbol) (are_related (by_number class) a.args b.args) e in
    let symbols : a.symbol ≡ b.symbol = eqb-true a.symbol b.symbol p.0 in
    let args = same_classes class a.args b.args p.1 in
    λ i. record { symbol = symbols i; args = args i }

none_waits : (u v : ℕ) → Contains {X = ℕ × ℕ} [] (u, v) → ⊥
none_waits u v h = omega (arith, h.1)

of_class : (class : ℕ → ℕ) (find : Term → Option ℕ) (s : Shape) → (e : IsEntered class find [] s) → class e.0 ≡ class (object s.number)
of_class class find s e = elim e.2 [ inl same ↦ same | inr waits ↦ absurd (none_waits e.0 (object s.number) waits) ]

some_number : (o : Option ℕ) (u v : ℕ) → o ≡ Some u → o ≡ Some v → u ≡ v
some_number o u v a b = cc

-- where nothing waits, congruent terms are of one class
pub closed_by_table : (shapes : List Shape) (class : ℕ → ℕ) (find : Term → Option ℕ) → IsTable shapes class find [] → All (λ (a : Shape). All (λ (b : Shape). are_congruent (by_number class) a b ≡ true → by_number class (object a.number) (object b.number) ≡ true) shapes) shapes
closed_by_table shapes class find table k d lt k' d' lt' e =
    let a = get_or shapes k d in
    let b = get_or shapes k' d' in
    let p = table k d lt in
    let q = table k' d' lt' in
    let same : p.0 ≡ q.0 = some_number (find (signature class b)) p.0 q.0 (ap find (sym (one_signature class a b e)) ∙ p.1) q.1 in
    eq-eqb (class (object a.number)) (class (object b.number)) (sym (of_class class find a p) ∙ (ap class same ∙ of_class class find b q))

-- what a merge does to classes, table and waiting pairs
pub record IsMergeStep (shapes : List Shape) (class class' : ℕ → ℕ) (find find' : Term → Option ℕ) (waiting waiting' : List (ℕ × ℕ)) : Type 0 where
  pub coarser : (x y : ℕ) → class x ≡ class y → class' x ≡ class' y
  pub kept : (key : Term) (u : ℕ) → find key ≡ Some u → find' key ≡ Some u
  pub waits : (u v : ℕ) → Contains waiting (u, v) → (class' u ≡ class' v) ⊎ Contains waiting' (u, v)
  pub entered : All (λ (s : Shape). (signature class' s ≡ signature class s) ⊎ IsEntered class' find' waiting' s) shapes

pub table_step : (shapes : List Shape) (class class' : ℕ → ℕ) (find find' : Term → Option ℕ) (waiting waiting' : List (ℕ × ℕ)) → IsMergeStep shapes class class' find find' waiting waiting' → IsTable shapes class find waiting → IsTable shapes class' find' waiting'
table_step shapes class class' find find' waiting waiting' m table k d lt =
    elim (m.entered k d lt) [
      | inl same ↦
          let p = table k d lt in
          (p.0, m.kept (signature class' (get_or shapes k d)) p.0 (ap find same ∙ p.1), elim p.2 [ inl one ↦ inl (m.coarser p.0 (object (get_or shapes k d).number) one) | inr w ↦ m.waits p.0 (object (get_or shapes k d).number) w ])
      | inr e ↦ e
    ]
