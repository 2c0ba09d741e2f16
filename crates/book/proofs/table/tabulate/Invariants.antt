use Rattle.std.proofs.Common.{◌≡◌, ◌+◌, ◌++◌, length, map, take}
use Rattle.std.specs.List.{AllByRecursion}
use Rattle.syntax.specs.Reading.{longest}
use Rattle.walk.specs.Told.{members_left}
use Rattle.book.specs.Listing.{most}
use Rattle.book.specs.Rows.{Ends, row_of}
use Rattle.book.proofs.table.tabulate.Given as goal

-- the rows so far, and those of the members that are left, are all
abbrev pub invariant-loop-member : goal.invariant-loop-member
invariant-loop-member l = (goal.iterator-loop-member).can_next l.member-iterator × (goal.iterator-loop-member).is_finite l.member-iterator
    × (length l.rows ≡ most)
    × (l.count + length (members_left l.member-iterator) ≡ length (members_left l.fn.members))
    × (take l.count l.rows ++ map row_of (members_left l.member-iterator) ≡ map row_of (members_left l.fn.members))
    × AllByRecursion (Ends longest) (members_left l.member-iterator)
