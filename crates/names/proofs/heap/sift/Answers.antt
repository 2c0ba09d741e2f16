use Rattle.std.proofs.Common.{inr, arith}
use Rattle.std.proofs.lemmas.List.Sorted.{IsPermutation-trans}
use Rattle.names.proofs.heap.sift.Goals as goal

pub down-preserved : goal.down-preserved
down-preserved c = (IsPermutation-trans _ _ _ c.down.invariant.0 c.swap.ensures.permutation, omega arith, inr (omega arith))

pub returns-then-not-ahead : goal.returns-then-not-ahead
returns-then-not-ahead c = record { rows = IsPermutation-trans _ _ _ c.down.invariant.0 c.up.invariant.0 }

pub up-preserved : goal.up-preserved
up-preserved c = (IsPermutation-trans _ _ _ c.up.invariant.0 c.swap-in-up.ensures.permutation, omega arith, inr (omega arith))

pub returns : goal.returns
returns c = record { rows = IsPermutation-trans _ _ _ c.down.invariant.0 c.up.invariant.0 }
