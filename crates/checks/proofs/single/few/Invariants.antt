use Rattle.std.proofs.Common.{◌≡◌, ◌+◌, ◌≤◌, length}
use Rattle.walk.specs.Told.{items_left}
use Rattle.checks.proofs.single.few.Given as goal

-- so many came, and the others are to come
abbrev pub invariant-loop : goal.invariant-loop
invariant-loop l = goal.iterator-loop.can_next l.iterator' × goal.iterator-loop.is_finite l.iterator' × (l.count + length (items_left l.iterator') ≡ length (items_left l.fn.items)) × (l.count ≤ l.most)
