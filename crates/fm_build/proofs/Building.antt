-- What is built is the content's candidate.
use Rattle.std.proofs.Common.{◌≡◌, ℕ, ◌<◌, Bool, List, [], ◌∷◌, length, map, Some, refl, sym, subst, ap, ◌∙◌, arith}
use Rattle.std.specs.Prelude.{slice_get, slice_index}
use Rattle.std.specs.List.{range_with_len}
use Rattle.std.proofs.lemmas.List.{length-map}
use Rattle.std.proofs.lemmas.Option.{slice_get_within}
use Rattle.fm_base.specs.Resolution.{Has}
use Rattle.fm_base.specs.declared.ids.TermId.{TermId}
use Rattle.fm_base.specs.declared.interp.Table.{Table}
use Rattle.fm_base.specs.declared.signature.Rank.{Rank}
use Rattle.fm_base.specs.declared.signature.Sig.{Sig}
use Rattle.fm_base.specs.declared.signature.Ty.{Ty}
use Rattle.fm_bank.specs.Interning.{Held}
use Rattle.fm_bank.specs.Terms.{Term}
use Rattle.fm_rounds.specs.Failing.{numbered_reps}
use Rattle.fm_rounds.specs.Rounds.{Content, candidate_reading, element_of, reached, representatives, reps_of}
use Rattle.fm_rounds.specs.Tuples.{table_of, tables_from}
use Rattle.fm_build.specs.Built.{IsCandidateOf, IsContentOf, sizes_of}
use Rattle.fm_build.specs.Elements.{all_reps_by, elements_by}
use Rattle.fm_build.specs.Entries.{AreEntries}
use Rattle.fm_build.specs.Reached.{HasReached}
use Rattle.fm_build.specs.Written.{AreWritten}
use Rattle.fm_build.specs.declared.rounds.Reached.{Reached}
use Rattle.fm_build.proofs.Placing.{all_reps_are}
use Rattle.fm_build.proofs.Tabulating.{all_same}
use Rattle.fm_build.proofs.Valuing.{elements_are}
use Rattle.fm_build.proofs.Writing.{table_is}

sizes_numbered : (reps : List (List TermId)) → sizes_of reps ≡ map (λ (ns : List ℕ). length ns) (numbered_reps reps)
sizes_numbered [] = refl
sizes_numbered (r ∷ rs) = let one = sym (length-map r (λ (t : TermId). t.0)) in let rest = sizes_numbered rs in λ i. one i ∷ rest i

sizes_mapped : (f : ℕ → List ℕ) (xs : List ℕ) → map (λ (ns : List ℕ). length ns) (map f xs) ≡ map (λ s. length (f s)) xs
sizes_mapped f [] = refl
sizes_mapped f (x ∷ xs) = let rest = sizes_mapped f xs in λ i. length (f x) ∷ rest i

pub built_is : (b : Held) (class : List ℕ) (types : List Ty) (holds : List Bool) (start : List ℕ) (added : List (List ℕ × List ℕ)) (c : Content) (s : Reached) (reps : List (List TermId)) (elements : List ℕ) (tables : List Table) (sizes : List ℕ)
    → IsContentOf b class types holds start added c → HasReached class start added s → numbered_reps reps ≡ all_reps_by types s.reps.items b.sig.sorts → elements ≡ elements_by class types holds reps
    → AreWritten b s.marks.items elements (length b.sig.ranks) tables → sizes ≡ sizes_of reps → IsCandidateOf c (record { interp = record { sizes = sizes; tables = tables }; reps = reps })
built_is b class types holds start added c s reps elements tables sizes h reached_by_s reps_by valued written sized =
    let now = reached_by_s c h.classes h.begun h.more in
    let sorts : all_reps_by types s.reps.items b.sig.sorts ≡ all_reps_by types s.reps.items c.sig.sorts = ap (λ (g : Sig). all_reps_by types s.reps.items g.sorts) (sym h.sig) in
    let all_reps : numbered_reps reps ≡ representatives c = reps_by ∙ sorts ∙ all_reps_are c types holds s.reps.items h.typed now.reps in
    let elements_is : (n : ℕ) → Has (reached c).terms n → slice_index elements n ≡ element_of c n = λ n i. ap (λ l. slice_index l n) valued ∙ elements_are c h.grounded h.named class types holds reps h.classes h.typed all_reps n i in
    let ranks : length b.sig.ranks ≡ length c.sig.ranks = ap (λ (g : Sig). length g.ranks) (sym h.sig) in
    let one : (f : ℕ) (r : Rank) (t : Table) → slice_get c.sig.ranks f ≡ Some r → slice_get tables f ≡ Some t → t ≡ table_of (candidate_reading c) f r.args = λ f r t at got.
    let low : f < length b.sig.ranks = omega (arith, slice_get_within c.sig.ranks f r at, ranks) in
    let w = written.each f r t low (ap (λ (g : Sig). slice_get g.ranks f) (sym h.sig) ∙ at) got in
    let entries : AreEntries c.terms s.marks.items elements f (length c.terms) w.es = subst (λ (ts : List Term). AreEntries ts s.marks.items elements f (length ts) w.es) (sym h.terms) w.entries in
    w.is ∙ table_is c h.grounded s.marks.items elements (λ n lt. now.marks n (omega (arith, lt, h.classes.count))) elements_is f r at w.es entries in
    let tabled : tables ≡ tables_from (candidate_reading c) 0 c.sig.ranks = all_same (candidate_reading c) c.sig.ranks tables (written.many ∙ ranks) one in
    let sizes_are : sizes ≡ map (λ s. length (reps_of c s)) (range_with_len 0 c.sig.sorts) = sized ∙ sizes_numbered reps ∙ ap (map (λ (ns : List ℕ). length ns)) all_reps ∙ sizes_mapped (reps_of c) (range_with_len 0 c.sig.sorts) in
    record { interp = λ i. record { sizes = sizes_are i; tables = tabled i }; reps = all_reps }
