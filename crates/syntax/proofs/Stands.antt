-- The laws of reading, whole.
use Rattle.std.proofs.Common.{refl}
use Rattle.syntax.specs.Bytes.{gap}
use Rattle.syntax.specs.Machine.{run}
use Rattle.syntax.specs.Reading.{reading}
use Rattle.syntax.specs.Laws.{Accepts, OneValue, Tells}
use Rattle.syntax.specs.Rows.{Rows}
use Rattle.syntax.proofs.Complete as complete
use Rattle.syntax.proofs.Tells as tells

pub accepts : Accepts
accepts s v = (complete.accepts s v, tells.accepted s v)

pub one_value : OneValue
one_value = complete.one_value

pub told : Tells
told = tells.tells

pub rows : Rows
unfolding run reading gap
rows = record { leading_zero = refl; name_twice = refl; sixteen_open = refl; seventeen_open = refl }
