-- The bytes counted so far, and those of the pairs that are left.
use Rattle.std.proofs.Common.{◌≡◌, ◌+◌, length}
use Rattle.std.specs.List.{flat_map}
use Rattle.bundle.specs.Layout.{record_of, written}
use Rattle.packing.proofs.size.Given as goal

abbrev pub invariant-loop-pair : goal.invariant-loop-pair
invariant-loop-pair g l = l.total + length (flat_map record_of l.pair-iterator) ≡ length (written (g.S.Store.pairs l.store))
