use Rattle.walk.proofs.Parts.{writes}
use Rattle.walk.proofs.places.digits.Goals as goal

pub returns-clause-writes : goal.returns-clause-writes
returns-clause-writes c = writes c.args.text.now c.cut.result.now c.args.part c.cut.ensures
