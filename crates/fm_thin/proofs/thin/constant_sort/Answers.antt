use Rattle.fm_thin.proofs.Shapes.{constant_sort_at}
use Rattle.fm_thin.proofs.thin.constant_sort.Goals as goal

pub returns-in-App : goal.returns-in-App
returns-in-App c = constant_sort_at c.args.term.now c.in-App.symbol c.in-App.args c.args.sig.now c.if_constant.result c.in-App.is c.if_constant.ensures
