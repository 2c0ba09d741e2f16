-- What is told of a value: its kind, the place of its first byte, and the place past its last.
use Rattle.std.specs.Prelude.{Some, None, Ok, Err, Option, Result}
use Rattle.syntax.specs.declared.kinds.Fault.{Fault}
use Rattle.syntax.specs.declared.kinds.Literal.{Literal}
use Rattle.syntax.specs.declared.kinds.Literal as l
use Rattle.syntax.specs.declared.kinds.Kind.{Kind}
use Rattle.syntax.specs.declared.kinds.Kind.TheVariants.{Null, False, True, Number, String, Array, Object}
use Rattle.syntax.specs.Value.{Value, literal, number, string, array, object, from, to}
use Rattle.text.specs.declared.part.Part.{Part}

abbrev pub literal_kind : Literal → Kind
literal_kind l.TheVariants.Null = Null
literal_kind l.TheVariants.False = False
literal_kind l.TheVariants.True = True

abbrev pub kind_of : Value → Kind
kind_of (literal i j w) = literal_kind w
kind_of (number i j n) = Number
kind_of (string i j n) = String
kind_of (array i j vs) = Array
kind_of (object i j ms) = Object

abbrev pub part_of : Value → Part
part_of v = record { kind = kind_of v; start = from v; end = to v }

-- the same of what is read of a text, and of the value at a place, if there is one
abbrev pub part_read : Result Value Fault → Result Part Fault
part_read (Ok v) = Ok (part_of v)
part_read (Err f) = Err f

abbrev pub part_at : Option Value → Option Part
part_at (Some v) = Some (part_of v)
part_at None = None
