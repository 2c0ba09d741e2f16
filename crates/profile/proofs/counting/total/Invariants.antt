use Rattle.std.proofs.Common.{◌≡◌}
use Rattle.walk.specs.Told.{members_left}
use Rattle.profile.specs.Counting.{total}
use Rattle.profile.proofs.counting.total.Given as goal

-- the members to come are counted on
abbrev pub invariant-loop-member : goal.invariant-loop-member
invariant-loop-member g l =
    (goal.iterator-loop-member g).can_next l.member-iterator × (goal.iterator-loop-member g).is_finite l.member-iterator
    × (total g.C.Counted.number l.count (members_left l.member-iterator) ≡ total g.C.Counted.number l.fn.own (members_left l.fn.members))
