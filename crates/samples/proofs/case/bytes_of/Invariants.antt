use Rattle.std.proofs.Common.{length}
use Rattle.samples.proofs.case.bytes_of.Given as goal

-- what is left to be read becomes less
abbrev pub decreases-loop-first : goal.decreases-loop-first
decreases-loop-first l = length l.rest
