use Rattle.std.proofs.Common.{◌+◌, ◌≤◌, List, length, drop}
use Rattle.syntax.specs.declared.kinds.Literal.{Literal}
use Rattle.syntax.specs.Machine.{Rules, Frame, spelled}
use Rattle.syntax.specs.Steps.{Leads}
use Rattle.text.proofs.scan.word.Given as goal

abbrev pub invariant-loop-n : goal.invariant-loop-n
invariant-loop-n l =
    (l.at + 1 + l.n ≤ length l.s)
    × ((r : Rules) (w : Literal) (k : List Frame) → Leads r l.s (l.at + 1) (spelled l.rest w l.at k (l.at + 1)) (l.at + 1 + l.n) (spelled (drop l.n l.rest) w l.at k (l.at + 1 + l.n)))
