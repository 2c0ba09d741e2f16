-- What a book means: the members of its object, in order, each name a path, and the bytes of each value a body.
use Rattle.std.specs.Prelude.{ℕ, ◌+◌, cond, List, [], ◌∷◌, map, length, Some, None, Ok, Err, Option, Result, nat_le, slice_index_or}
use Rattle.std.specs.List.{between}
use Rattle.syntax.specs.declared.kinds.Fault.{Fault}
use Rattle.syntax.specs.declared.kinds.Literal.TheVariants.{Null}
use Rattle.syntax.specs.Value.{Value, literal, number, string, array, object, from, to}
use Rattle.syntax.specs.Reading.{reading}
use Rattle.syntax.specs.Walking.{Member, listed}
use Rattle.store.specs.Pairs.{Pair}
use Rattle.store.specs.Paths.{lawful_path}
use Rattle.book.specs.declared.refusal.BookRefusal.{BookRefusal}
use Rattle.book.specs.declared.refusal.BookRefusal.TheVariants.{Text, NoObject, TooMany, UnlawfulPath}

-- the most members that a book has
abbrev pub most : ℕ
most = 1024

-- the bytes between the name's quotes, and those of the value, from its first to its last
abbrev pub pair : List ℕ → Member → Pair
pair s m = record { path = m.name; body = between (from m.value) (to m.value) s }

-- the place of the first name that is no lawful path: of its opening quote
abbrev pub unlawful : List Member → Option ℕ
unlawful [] = None
unlawful (m ∷ ms) = cond (lawful_path m.name) (unlawful ms) (Some m.at)

-- the pairs, unless a path is unlawful
abbrev pub all_named : List Pair → Option ℕ → Result (List Pair) BookRefusal
all_named ps None = Ok ps
all_named ps (Some q) = Err (UnlawfulPath q)

-- the members of the book's object
abbrev pub of_members : List ℕ → List Member → Result (List Pair) BookRefusal
of_members s ms = cond (nat_le (length ms) most) (all_named (map (pair s) ms) (unlawful ms)) (Err TooMany)

-- the value of the book's text
abbrev pub of_value : List ℕ → Value → Result (List Pair) BookRefusal
of_value s (literal i j w) = Err NoObject
of_value s (number i j n) = Err NoObject
of_value s (string i j n) = Err NoObject
of_value s (array i j vs) = Err NoObject
of_value s (object i j ms) = of_members s (listed ms)

-- what the bytes are read as
abbrev pub of_text : List ℕ → Result Value Fault → Result (List Pair) BookRefusal
of_text s (Ok v) = of_value s v
of_text s (Err f) = Err (Text f)

-- The pairs of the book s, or the first rule that it breaks.
unfoldable pub listing : List ℕ → Result (List Pair) BookRefusal
listing s = of_text s (reading s)

-- the same without the pairs
abbrev pub checked : Result (List Pair) BookRefusal → Result (Unit {0}) BookRefusal
checked (Ok ps) = Ok tt
checked (Err e) = Err e

abbrev pub pairs_or_none : Result (List Pair) BookRefusal → List Pair
pairs_or_none (Ok ps) = ps
pairs_or_none (Err e) = []

-- What the store over the book s means: its pairs, none where it is refused.
unfoldable pub opened : List ℕ → List Pair
opened s = pairs_or_none (listing s)

-- the members of the object that is read, if one is
abbrev pub object_members : Value → List Member
object_members (literal i j w) = []
object_members (number i j n) = []
object_members (string i j n) = []
object_members (array i j vs) = []
object_members (object i j ms) = listed ms

abbrev pub members_of : Result Value Fault → List Member
members_of (Ok v) = object_members v
members_of (Err f) = []

abbrev pub nobody : Member
nobody = record { at = 0; name = []; value = literal 0 0 Null }

-- where the path of pair number n begins, behind its name's opening quote, and where its body does
abbrev pub path_place : List ℕ → ℕ → ℕ
path_place s n = (slice_index_or (members_of (reading s)) n nobody).at + 1

abbrev pub body_place : List ℕ → ℕ → ℕ
body_place s n = from (slice_index_or (members_of (reading s)) n nobody).value
