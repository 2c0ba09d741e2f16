use Rattle.std.proofs.Common.{◌≤◌, length}
use Rattle.std.specs.List.Sorted.{IsPermutation}
use Rattle.names.proofs.heap.sort.Given as goal

abbrev pub invariant-build : goal.invariant-build
invariant-build l = IsPermutation l.initial.names l.names

abbrev pub decreases-build : goal.decreases-build
decreases-build l = l.root

abbrev pub invariant-take : goal.invariant-take
invariant-take l = IsPermutation l.initial.names l.names × (l.end ≤ length l.names)

abbrev pub decreases-take : goal.decreases-take
decreases-take l = l.end
