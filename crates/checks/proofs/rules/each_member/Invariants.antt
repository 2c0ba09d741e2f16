use Rattle.std.proofs.Common.{◌≡◌}
use Rattle.requirement.specs.Check.{each}
use Rattle.walk.specs.Told.{members_left}
use Rattle.checks.proofs.rules.each_member.Given as goal

-- the members to come decide
abbrev pub invariant-loop-member : goal.invariant-loop-member
invariant-loop-member g l =
    (goal.iterator-loop-member g).can_next l.member-iterator × (goal.iterator-loop-member g).is_finite l.member-iterator
    × (each (g.R.MemberRule.member_checked l.rule) (members_left l.member-iterator) ≡ each (g.R.MemberRule.member_checked l.rule) (members_left l.fn.members))
