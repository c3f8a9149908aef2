use Rattle.std.proofs.Common.{◌≡◌, ◌+◌, ◌<◌, ℕ, Bool, List, true, length, get_or, sym, subst, arith}
use Rattle.std.specs.List.{Contains}
use Rattle.std.proofs.lemmas.List.Elements.{All-contains, All-contains_itself, All-get_or}
use Rattle.fm_base.specs.declared.ids.TermId.{TermId}
use Rattle.fm_bank.specs.Closure.{object}
use Rattle.fm_closure.specs.Classes.{is_there}
use Rattle.fm_closure.specs.Signatures.{IsLookedUp, IsPass, IsTabled}
use Rattle.fm_closure.proofs.Passing.{found_over, if_some, pass_next, tabled_end, tabled_next}
use Rattle.fm_closure.proofs.passes.walk.Goals as goal

pub loop-a-preserved : goal.loop-a-preserved
loop-a-preserved c =
    let terms = c.args.bank.now.terms in
    let over = c.args.over.now in
    let os = c.args.objects.now.keys in
    let facts = c.args._facts.now in
    let start = c.args.classes.now in
    let cs = c.loop-a.classes in
    let es = c.loop-a.table.entries in
    let i = c.loop-a.a-index in
    let d : TermId = record { 0 = 0 } in
    let a = get_or over i d in
    let lt = c.loop-a-test.true in
    let inv = c.loop-a.invariant in
    let here = All-get_or (Contains over) over i d lt (All-contains_itself over) in
    let new = c.look_up.new.table.entries in
    let found = c.in_ok-found.found in
    let look = subst (λ (ds : List ℕ). IsLookedUp os ds terms a es new found) c.as_slice.ensures c.in_ok-found.ensures in
    let there = found_over terms over os facts start c.requires.over c.requires.terms c.requires.args es new cs a found look inv.tabled.among in
    let after = c.join_with.new.classes in
    let b = c.in_ok-joined.joined in
    let j = c.in_ok-joined.ensures in
    record {
      pass = subst (IsPass os terms over facts start after) (sym c.either-changed.ensures) (pass_next terms over os facts start cs after c.loop-a.changed b a found inv.pass here there j);
      tabled = subst (λ (x : Bool). IsTabled os terms over start x new (i + 1)) (sym c.either-changed.ensures) (tabled_next terms over os facts start c.requires.over c.requires.terms c.requires.args es new cs after c.loop-a.changed b i d found lt inv.pass here look j inv.tabled);
    }

pub returns-clause-done : goal.returns-clause-done
returns-clause-done c =
    tabled_end c.args.bank.now.terms c.args.over.now c.args.objects.now.keys c.args._facts.now c.args.classes.now c.requires.over c.requires.terms c.requires.args c.loop-a.table.entries c.loop-a.classes c.loop-a.changed c.loop-a.a-index (omega (arith, c.loop-a-test.false)) c.loop-a.invariant.pass c.loop-a.invariant.tabled

pub join_with-requires-clause-other : goal.join_with-requires-clause-other
join_with-requires-clause-other c =
    let terms = c.args.bank.now.terms in
    let over = c.args.over.now in
    let found = c.in_ok-found.found in
    let there = found_over terms over c.args.objects.now.keys c.args._facts.now c.args.classes.now c.requires.over c.requires.terms c.requires.args c.loop-a.table.entries c.look_up.new.table.entries c.as_slice.result.now _ found c.in_ok-found.ensures c.loop-a.invariant.tabled.among in
    if_some (λ (b : TermId). b.0 < length terms) found (λ b e. All-contains (λ (t : TermId). t.0 < length terms) over b c.requires.over (there b e))

pub join_with-requires-clause-other_there : goal.join_with-requires-clause-other_there
join_with-requires-clause-other_there c =
    let terms = c.args.bank.now.terms in
    let over = c.args.over.now in
    let os = c.args.objects.now.keys in
    let found = c.in_ok-found.found in
    let there = found_over terms over os c.args._facts.now c.args.classes.now c.requires.over c.requires.terms c.requires.args c.loop-a.table.entries c.look_up.new.table.entries c.as_slice.result.now _ found c.in_ok-found.ensures c.loop-a.invariant.tabled.among in
    if_some (λ (b : TermId). is_there os (object b.0) ≡ true) found (λ b e. All-contains (λ (t : TermId). is_there os (object t.0) ≡ true) over b c.requires.terms (there b e))
