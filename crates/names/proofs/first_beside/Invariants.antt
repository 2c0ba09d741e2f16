use Rattle.std.specs.Slice.ArrayWindows.{array_windows_parts}
use Rattle.names.proofs.Sorted.{Walked}
use Rattle.names.proofs.first_beside.Given as goal

abbrev pub invariant-loop-left : goal.invariant-loop-left
invariant-loop-left l = Walked l.text l.names (array_windows_parts l.left-iterator) l.first
