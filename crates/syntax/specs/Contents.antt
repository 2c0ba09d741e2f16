-- What a value says taken by itself: each a partial reading, `None` where the value is of another kind.
use Rattle.std.specs.Prelude.{ℕ, List, [], ℤ, Some, None, Option}
use Rattle.std.specs.Option.{unwrap_or}
use Rattle.syntax.specs.Value.{Value, literal, number, string, array, object}
use Rattle.syntax.specs.Walking.{Member, listed, listed_items, whole}

-- the letters of a string, the items of an array, the members of an object
abbrev pub text : Value → Option (List ℕ)
text (literal i j w) = None
text (number i j n) = None
text (string i j s) = Some s
text (array i j vs) = None
text (object i j ms) = None

abbrev pub elements : Value → Option (List Value)
elements (literal i j w) = None
elements (number i j n) = None
elements (string i j s) = None
elements (array i j vs) = Some (listed_items vs)
elements (object i j ms) = None

abbrev pub fields : Value → Option (List Member)
fields (literal i j w) = None
fields (number i j n) = None
fields (string i j s) = None
fields (array i j vs) = None
fields (object i j ms) = Some (listed ms)

abbrev pub items : Value → List Value
items v = unwrap_or (elements v) []

abbrev pub members : Value → List Member
members v = unwrap_or (fields v) []

-- the bytes of a number
abbrev pub numeral : Value → Option (List ℕ)
numeral (literal i j w) = None
numeral (number i j n) = Some n
numeral (string i j s) = None
numeral (array i j vs) = None
numeral (object i j ms) = None

-- a whole number
abbrev pub whole_number : Value → Option ℤ
whole_number (literal i j w) = None
whole_number (number i j n) = whole n
whole_number (string i j s) = None
whole_number (array i j vs) = None
whole_number (object i j ms) = None
