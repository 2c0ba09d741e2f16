-- What is left to write, written behind what is written, makes the whole.
use Rattle.std.proofs.Common.{◌≡◌, ◌+◌, ◌≤◌, length}
use Rattle.std.specs.List.{flat_map, AllByRecursion}
use Rattle.bundle.specs.Layout.{record_of}
use Rattle.packing.specs.Packing.{over}
use Rattle.packing.proofs.Sizes.{Writable}
use Rattle.packing.proofs.write_records.Given as goal

abbrev pub invariant-loop-pair : goal.invariant-loop-pair
invariant-loop-pair g l = record {
  whole : over l.out l.place (flat_map record_of l.pair-iterator) ≡ over l.initial.out l.initial.place (flat_map record_of (g.S.Store.pairs l.store));
  room : l.place + length (flat_map record_of l.pair-iterator) ≤ length l.out;
  writable : AllByRecursion Writable l.pair-iterator;
}
