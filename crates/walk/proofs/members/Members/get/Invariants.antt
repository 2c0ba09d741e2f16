use Rattle.std.proofs.Common.{◌≡◌}
use Rattle.syntax.specs.Walking.{find}
use Rattle.walk.specs.Told.{members_left}
use Rattle.walk.proofs.members.Members.get.Given as goal

-- the members to come decide
abbrev pub invariant-loop-member : goal.invariant-loop-member
invariant-loop-member l = (goal.iterator-loop-member).can_next l.member-iterator × (goal.iterator-loop-member).is_finite l.member-iterator
    × (find l.name (members_left l.member-iterator) ≡ find l.name (members_left l.fn.self))
