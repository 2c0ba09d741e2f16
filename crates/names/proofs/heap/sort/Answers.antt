use Rattle.std.proofs.Common.{arith}
use Rattle.std.proofs.lemmas.List.Sorted.{IsPermutation-trans}
use Rattle.names.proofs.heap.sort.Goals as goal

pub build-preserved : goal.build-preserved
build-preserved c = IsPermutation-trans _ _ _ c.build.invariant c.sift.ensures.rows

pub take-preserved : goal.take-preserved
take-preserved c = (IsPermutation-trans _ _ _ (IsPermutation-trans _ _ _ c.take.invariant.0 c.swap.ensures.permutation) c.sift-in-take.ensures.rows, omega arith)

pub returns : goal.returns
returns c = record { rows = IsPermutation-trans _ _ _ c.build.invariant c.take.invariant.0 }
