use Rattle.std.proofs.Common.{◌≡◌, length}
use Rattle.walk.specs.Told.{items_left}
use Rattle.clause.specs.Shown.{listed_left}
use Rattle.clause.proofs.listed.ListedIterator.next.Given as goal

-- what is passed over reads as nothing, so what is left stays
abbrev pub invariant-loop-value : goal.invariant-loop-value
invariant-loop-value g l = listed_left g.T.FromValue.read l.self ≡ listed_left g.T.FromValue.read l.fn.self

abbrev pub decreases-loop-value : goal.decreases-loop-value
decreases-loop-value g l = length (items_left l.self.items)
