use Rattle.std.proofs.Common.{◌||◌, ◌∙◌, ap, sym}
use Rattle.std.proofs.lemmas.Bool.{or_left}
use Rattle.fm_cells.specs.Apart.{is_key}
use Rattle.fm_cells.proofs.Keying.{got}
use Rattle.fm_cong.proofs.Parting.{parted_by_keys}
use Rattle.fm_cong.proofs.queries.is_apart.Goals as goal

pub returns-then-stands_from : goal.returns-then-stands_from
returns-then-stands_from c =
    let cells = c.args.state.now.classes.class.cells.items in
    let a = c.args.apart.now in
    let left = got cells c.args.node c.args.node c.get-c.result c.get-c.ensures in
    let right = got cells c.args.other c.args.other c.get-d.result c.get-d.ensures in
    let told = (λ i. is_key a.keys.keys (left i) (right i) || is_key a.keys.keys (right i) (left i)) ∙ parted_by_keys cells c.args.state.now.facts.items a c.requires.pairs (c.requires.indexed c.if-apart.true) c.requires.roots c.args.node c.args.other in
    let here = sym c.stands_from.ensures ∙ c.if-stands_from.true in
    c.if-stands_from.true ∙ (sym (or_left (is_key a.keys.keys c.get-c.result c.get-d.result) (is_key a.keys.keys c.get-d.result c.get-c.result) here) ∙ told)

pub returns-else-stands_from : goal.returns-else-stands_from
returns-else-stands_from c =
    let cells = c.args.state.now.classes.class.cells.items in
    let a = c.args.apart.now in
    let left = got cells c.args.node c.args.node c.get-c.result c.get-c.ensures in
    let right = got cells c.args.other c.args.other c.get-d.result c.get-d.ensures in
    let told = (λ i. is_key a.keys.keys (left i) (right i) || is_key a.keys.keys (right i) (left i)) ∙ parted_by_keys cells c.args.state.now.facts.items a c.requires.pairs (c.requires.indexed c.if-apart.true) c.requires.roots c.args.node c.args.other in
    let here = sym c.stands_from.ensures ∙ c.if-stands_from.false in
    c.stands_from-else-stands_from.ensures ∙ (sym (ap (λ b. b || is_key a.keys.keys c.get-d.result c.get-c.result) here) ∙ told)
