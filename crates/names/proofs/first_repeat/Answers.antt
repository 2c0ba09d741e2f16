use Rattle.names.proofs.Sorted.{first_moved}
use Rattle.names.proofs.first_repeat.Goals as goal

pub returns-clause-first : goal.returns-clause-first
returns-clause-first c = first_moved c.args.text.now c.args.names.now _ c.first_beside.result c.put_in_order.ensures.rows c.first_beside.ensures
