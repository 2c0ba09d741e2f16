use Rattle.std.proofs.Common.{refl}
use Rattle.walk.specs.Told.{members_left}
use Rattle.book.proofs.Opening.{all_end, keeps_none, keeps_all}
use Rattle.book.proofs.table.fill.Goals as goal

pub tabulate-requires-clause-ends : goal.tabulate-requires-clause-ends
tabulate-requires-clause-ends c = all_end c.args.text.now (members_left c.in-Ok.members) c.in-Ok.ensures

pub returns-in-Ok-clause-keeps : goal.returns-in-Ok-clause-keeps
returns-in-Ok-clause-keeps c = keeps_all c.args.text.now (members_left c.in-Ok.members) c.in-Ok.ensures _ c.tabulate.ensures.rows

pub returns-in-Err-clause-keeps : goal.returns-in-Err-clause-keeps
returns-in-Err-clause-keeps c = keeps_none c.args.text.now _ _ c.in-Err.ensures refl
