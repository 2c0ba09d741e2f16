use Rattle.std.proofs.Common.{ℕ, ◌-◌, ◌≤◌, List, [], length}
use Rattle.std.specs.List.{between}
use Rattle.syntax.specs.declared.kinds.Letters.TheVariants.{Plain}
use Rattle.syntax.specs.Machine.{Rules, Frame, Role, live, chars}
use Rattle.syntax.specs.Steps.{Leads}
use Rattle.text.proofs.scan.string.Given as goal

abbrev pub invariant-loop-i : goal.invariant-loop-i
invariant-loop-i l =
    (l.at ≤ l.i) × (l.i ≤ length l.s)
    × ((r : Rules) (e : Role) (q : ℕ) (k : List Frame) → Leads r l.s l.at (live (chars Plain e q []) k) l.i (live (chars l.spot e q (between l.at l.i l.s)) k))

abbrev pub decreases-loop-i : goal.decreases-loop-i
decreases-loop-i l = length l.s - l.i
