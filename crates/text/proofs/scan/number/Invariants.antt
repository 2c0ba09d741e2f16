use Rattle.std.proofs.Common.{◌+◌, ◌-◌, ◌<◌, ◌≤◌, List, length}
use Rattle.std.specs.List.{between}
use Rattle.syntax.specs.Machine.{Rules, Frame, live, digits}
use Rattle.syntax.specs.Steps.{Leads}
use Rattle.text.proofs.scan.number.Given as goal

abbrev pub invariant-loop-end : goal.invariant-loop-end
invariant-loop-end l =
    (l.at < l.end) × (l.end ≤ length l.s)
    × ((r : Rules) (k : List Frame) → Leads r l.s (l.at + 1) (live (digits l.initial.so_far l.at (between l.at (l.at + 1) l.s)) k) l.end (live (digits l.so_far l.at (between l.at l.end l.s)) k))

abbrev pub decreases-loop-end : goal.decreases-loop-end
decreases-loop-end l = length l.s - l.end
