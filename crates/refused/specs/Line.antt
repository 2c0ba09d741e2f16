-- The line of a refusal.
use Rattle.std.specs.Prelude.{ℕ, List, ◌++◌, codes}
use Rattle.std.specs.Fmt.{decimal}
use Rattle.refused.specs.declared.Refused.{Refused}

-- an `R`, the number, the cause and the place, with single spaces between
abbrev pub line : Refused → List ℕ
line r = codes "R " ++ decimal r.number ++ codes " " ++ decimal r.cause ++ codes " " ++ decimal r.place
