use Rattle.std.proofs.Common.{[], arith}
use Rattle.walk.proofs.Parts.{no_letters, says}
use Rattle.walk.proofs.places.letters.Goals as goal

pub returns-then-part-clause-says : goal.returns-then-part-clause-says
returns-then-part-clause-says c = says c.args.text.now c.cut.result.now c.args.part c.cut.ensures

pub returns-else-part-clause-says : goal.returns-else-part-clause-says
returns-else-part-clause-says c = says c.args.text.now [] c.args.part (no_letters c.args.text.now c.args.part (omega arith))
