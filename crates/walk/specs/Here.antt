-- What stands at a place of any bytes.
use Rattle.std.specs.Prelude.{ℕ, List, []}
use Rattle.std.specs.Option.{unwrap_or}
use Rattle.syntax.specs.Value.{Value, number}
use Rattle.syntax.specs.Reading.{value_at}

-- the value at a place; where there is none, a number without digits, which reads as nothing
unfoldable pub value_here : List ℕ → ℕ → Value
value_here s i = unwrap_or (value_at s i) (number i i [])
