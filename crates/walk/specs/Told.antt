-- What is meant by a value that is told by its places, by an item, by a member, and by the items and members that are left.
use Rattle.std.specs.Prelude.{◌≡◌, ℕ, ◌+◌, ◌-◌, cond, List, length, Some, None, Ok, Err, Option, Result}
use Rattle.std.specs.List.{between}
use Rattle.syntax.specs.declared.kinds.Fault.{Fault}
use Rattle.syntax.specs.declared.kinds.Kind.TheVariants.{String}
use Rattle.syntax.specs.Bytes.{gap}
use Rattle.syntax.specs.Value as v
use Rattle.syntax.specs.Value.{string, number}
use Rattle.syntax.specs.Reading.{value_at}
use Rattle.syntax.specs.Walking as w
use Rattle.syntax.specs.Walking.{byte_is, rest_members, rest_items}
use Rattle.text.specs.declared.part.Part.{Part}
use Rattle.text.specs.Part.{part_of}
use Rattle.walk.specs.declared.value.Value.{Value}
use Rattle.walk.specs.declared.members.Member.{Member}
use Rattle.walk.specs.declared.members.Members.{Members}
use Rattle.walk.specs.declared.items.Items.{Items}
use Rattle.walk.specs.declared.found.Item.{Item}
use Rattle.walk.specs.declared.found.Member as f
use Rattle.walk.specs.Here.{value_here}

abbrev pub spelled : Value → v.Value
spelled x = value_here x.text.now x.part.start

abbrev pub outcome_spelled : Result Value Fault → Result v.Value Fault
outcome_spelled (Ok x) = Ok (spelled x)
outcome_spelled (Err f) = Err f

abbrev pub member_spelled : Member → w.Member
member_spelled m = record { at = m.name.place; name = m.name.bytes.now; value = spelled m.value }

abbrev pub members_left : Members → List w.Member
members_left m = rest_members m.text.now m.next

abbrev pub items_left : Items → List v.Value
items_left i = rest_items i.text.now i.next

-- the value behind a colon that comes from j on, if both come
abbrev pub behind : List ℕ → ℕ → Option v.Value
behind s j = cond (byte_is s (gap s j) 58) (value_at s (gap s j + 1)) None

-- What is told of an item or a member by places alone: parts of the text in place of values.
abbrev pub item_told : w.Step v.Value → Item
item_told t = record { value = part_of t.here; next = t.next }

-- a name of so many bytes between its quotes
abbrev pub name_told : w.Member → Part
name_told m = record { kind = String; start = m.at; end = m.at + length m.name + 2 }

abbrev pub member_told : w.Step w.Member → f.Member
member_told t = record { name = name_told t.here; value = part_of t.here.value; next = t.next }

-- the bytes between a string's quotes, and those of a number
abbrev pub letters_of : List ℕ → Part → List ℕ
letters_of s t = between (t.start + 1) (t.end - 1) s

abbrev pub digits_of : List ℕ → Part → List ℕ
digits_of s t = between t.start t.end s

-- such a part of what was read has the string's bytes, or the number's
abbrev pub Says : List ℕ → Part → List ℕ → Type 0
Says s t l = (i : ℕ) (n : List ℕ) → value_at s i ≡ Some (string t.start t.end n) → l ≡ n

abbrev pub Writes : List ℕ → Part → List ℕ → Type 0
Writes s t l = (i : ℕ) (n : List ℕ) → value_at s i ≡ Some (number t.start t.end n) → l ≡ n
