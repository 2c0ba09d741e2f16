use Rattle.std.proofs.Common.{◌≡◌}
use Rattle.requirement.specs.Check.{each}
use Rattle.walk.specs.Told.{items_left}
use Rattle.checks.proofs.rules.each_item.Given as goal

-- the items to come decide
abbrev pub invariant-loop-item : goal.invariant-loop-item
invariant-loop-item g l =
    (goal.iterator-loop-item g).can_next l.item-iterator × (goal.iterator-loop-item g).is_finite l.item-iterator
    × (each (g.R.Rule.checked l.rule) (items_left l.item-iterator) ≡ each (g.R.Rule.checked l.rule) (items_left l.fn.items))
