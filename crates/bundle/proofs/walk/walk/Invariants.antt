-- The records so far are cut and their paths noted, and what is left to walk decides.
use Rattle.store.specs.Lent.{pairs_of}
use Rattle.bundle.proofs.Walks.{WalkedTo}
use Rattle.bundle.proofs.walk.walk.Given as goal

abbrev pub invariant-loop-n : goal.invariant-loop-n
invariant-loop-n l = WalkedTo l.bytes l.count l._n l.rest l.paths.items (pairs_of l.pairs.items)
