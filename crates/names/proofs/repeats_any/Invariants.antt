use Rattle.std.proofs.Common.{ℕ, ◌<◌}
use Rattle.names.specs.Repeats.{Again}
use Rattle.names.proofs.Sorted.{at}
use Rattle.names.proofs.repeats_any.Given as goal

abbrev pub invariant-loop-other : goal.invariant-loop-other
invariant-loop-other l = (k : ℕ) → k < l.other-index → Again l.text (at l.names k) l.name → ⊥
