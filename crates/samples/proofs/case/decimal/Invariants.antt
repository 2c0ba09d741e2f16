use Rattle.std.proofs.Common.{length}
use Rattle.samples.proofs.case.decimal.Given as goal

-- what is left to be read becomes less
abbrev pub decreases-loop-rest : goal.decreases-loop-rest
decreases-loop-rest l = length l.rest
