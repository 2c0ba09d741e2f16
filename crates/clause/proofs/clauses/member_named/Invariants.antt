use Rattle.std.proofs.Common.{◌≡◌}
use Rattle.syntax.specs.Walking.{find}
use Rattle.requirement.specs.Clause.{quote_of}
use Rattle.walk.specs.Told.{members_left}
use Rattle.clause.proofs.clauses.member_named.Given as goal

-- what is passed over has another name
abbrev pub invariant-loop-member : goal.invariant-loop-member
invariant-loop-member l = (goal.iterator-loop-member).can_next l.member-iterator × (goal.iterator-loop-member).is_finite l.member-iterator
    × (find l.name (members_left l.member-iterator) ≡ find l.name (members_left l.fn.members))
    × (quote_of l.name (members_left l.member-iterator) ≡ quote_of l.name (members_left l.fn.members))
