use Rattle.std.proofs.Common.{◌≡◌}
use Rattle.walk.specs.Told.{members_left}
use Rattle.book.specs.Listing.{unlawful}
use Rattle.book.proofs.members.first_unlawful.Given as goal

-- those that are left decide
abbrev pub invariant-loop-member : goal.invariant-loop-member
invariant-loop-member l = (goal.iterator-loop-member).can_next l.member-iterator × (goal.iterator-loop-member).is_finite l.member-iterator
    × (unlawful (members_left l.member-iterator) ≡ unlawful (members_left l.fn.members))
