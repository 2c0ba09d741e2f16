-- What reading a text answers, and the value at a place of any bytes.
use Rattle.std.specs.Prelude.{ℕ, true, false, cond, List, length, drop, Some, None, Ok, Err, Option, Result, nat_lt}
use Rattle.syntax.specs.declared.kinds.Cause.{Cause}
use Rattle.syntax.specs.declared.kinds.Cause.TheVariants.{TooLong, Malformed, TooDeep, RepeatedName}
use Rattle.syntax.specs.declared.kinds.Fault.{Fault}
use Rattle.syntax.specs.Bytes.{gap}
use Rattle.syntax.specs.Value.{Value, to}
use Rattle.syntax.specs.Machine.{Outcome, whole, fault, run, limits, start, malformed}

-- the numbers by which causes are told
abbrev pub number : Cause → ℕ
number TooLong = 1
number Malformed = 2
number TooDeep = 3
number RepeatedName = 4

-- the most bytes that a text has
abbrev pub longest : ℕ
longest = 1048576

abbrev pub too_long : Fault
too_long = record { cause = TooLong; place = 0 }

-- behind the value nothing comes but white space
abbrev pub alone : List ℕ → Outcome → Result Value Fault
alone s (whole v) = cond (nat_lt (gap s (to v)) (length s)) (Err (malformed (gap s (to v)))) (Ok v)
alone s (fault f) = Err f

-- what the bytes s are read as
unfoldable pub reading : List ℕ → Result Value Fault
reading s = cond (nat_lt longest (length s)) (Err too_long) (alone s (run (limits true) s 0 start))

abbrev pub outcome_value : Outcome → Option Value
outcome_value (whole v) = Some v
outcome_value (fault f) = None

-- The value that comes at the place i of any bytes, behind white space, if one does that stays within the depth. Names may be repeated in it.
unfoldable pub value_at : List ℕ → ℕ → Option Value
value_at s i = outcome_value (run (limits false) (drop i s) i start)
