-- What a text spells: a value, with the byte places of its parts.
use Rattle.std.specs.Prelude.{ℕ, Bool, false, ◌||◌, List}
use Rattle.syntax.specs.declared.kinds.Literal.{Literal}
use Rattle.syntax.specs.Bytes.{same}

-- A value has the place of its first byte and the place past its last, and of a number its bytes, of a string the bytes between its quotes.
-- A member has the place of its name's opening quote, the bytes between the name's quotes, and its value.
mutual
  pub data Value : Type 0 where
    literal : ℕ → ℕ → Literal → Value
    number : ℕ → ℕ → List ℕ → Value
    string : ℕ → ℕ → List ℕ → Value
    array : ℕ → ℕ → Items → Value
    object : ℕ → ℕ → Members → Value

  pub data Items : Type 0 where
    none : Items
    item : Value → Items → Items

  pub data Members : Type 0 where
    end : Members
    member : ℕ → List ℕ → Value → Members → Members

abbrev pub from : Value → ℕ
from (literal i j w) = i
from (number i j n) = i
from (string i j n) = i
from (array i j vs) = i
from (object i j ms) = i

abbrev pub to : Value → ℕ
to (literal i j w) = j
to (number i j n) = j
to (string i j n) = j
to (array i j vs) = j
to (object i j ms) = j

-- one more at the end
abbrev pub more_items : Items → Value → Items
more_items none w = item w none
more_items (item v vs) w = item v (more_items vs w)

abbrev pub more_members : Members → ℕ → List ℕ → Value → Members
more_members end q n w = member q n w end
more_members (member p m v ms) q n w = member p m v (more_members ms q n w)

-- whether a member has the name n
abbrev pub has : List ℕ → Members → Bool
has n end = false
has n (member q m v ms) = same m n || has n ms
