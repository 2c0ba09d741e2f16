use Rattle.std.proofs.Common.{◌≡◌, ◌-◌, ◌<◌, ◌≤◌, ◌⊎◌, length}
use Rattle.std.specs.List.Sorted.{IsPermutation}
use Rattle.names.proofs.heap.sift.Given as goal

abbrev pub invariant-down : goal.invariant-down
invariant-down l = IsPermutation l.initial.names l.names × (l.end ≤ length l.names) × ((l.at ≡ l.root) ⊎ (l.at < l.end))

abbrev pub decreases-down : goal.decreases-down
decreases-down l = l.end - l.at

abbrev pub invariant-up : goal.invariant-up
invariant-up l = IsPermutation l.initial.names l.names × (l.end ≤ length l.names) × ((l.at ≤ l.root) ⊎ (l.at < l.end))

abbrev pub decreases-up : goal.decreases-up
decreases-up l = l.at
