-- Moving about in any bytes by place: the items of an array and the members of an object, one after the other.
use Rattle.std.specs.Prelude.{◌≡◌, ℕ, zero, suc, ◌+◌, ◌-◌, ◌*◌, Bool, true, cond, ◌&&◌, List, [], ◌∷◌, length, ℤ, pos, neg_ℤ, Some, None, Ok, Option, ◌==◌, nat_le, nat_lt, slice_index}
use Rattle.std.specs.Option.{option_map}
use Rattle.syntax.specs.Bytes.{gap, digit, same}
use Rattle.syntax.specs.Value.{Value, Items, Members, literal, number, string, array, object, none, item, end, member, from, to}
use Rattle.syntax.specs.Reading.{reading, value_at}

-- the byte b stands at i
abbrev pub byte_is : List ℕ → ℕ → ℕ → Bool
byte_is s i b = nat_lt i (length s) && slice_index s i == b

-- a member of an object: the place of its name's opening quote, the bytes between the name's quotes, its value
pub record Member : Type 0 where
  pub at : ℕ
  pub name : List ℕ
  pub value : Value

abbrev pub listed_items : Items → List Value
listed_items none = []
listed_items (item v vs) = v ∷ listed_items vs

abbrev pub listed : Members → List Member
listed end = []
listed (member q n v ms) = record { at = q; name = n; value = v } ∷ listed ms

-- what stands at a place, and where the next of its kind begins, if one does
pub record Step (A : Type 0) : Type 0 where
  pub here : A
  pub next : Option ℕ

-- behind something that ended at j: where the next item or member begins, which is past a comma
abbrev pub after_comma : List ℕ → ℕ → Option ℕ
after_comma s j = cond (byte_is s (gap s j) 44) (Some (gap s j + 1)) None

-- a value, and past the comma behind it
abbrev pub item_step : List ℕ → Value → Step Value
item_step s v = record { here = v; next = after_comma s (to v) }

-- the item at i
abbrev pub item_at : List ℕ → ℕ → Option (Step Value)
item_at s i = option_map (item_step s) (value_at s i)

-- a member with its name at q, and past the comma behind its value
abbrev pub member_step : List ℕ → ℕ → List ℕ → Value → Step Member
member_step s q n v = record { here = record { at = q; name = n; value = v }; next = after_comma s (to v) }

-- the member with the name n at q, which ended at c: a colon follows, and a value
abbrev pub named : List ℕ → ℕ → ℕ → List ℕ → Option (Step Member)
named s q c n = cond (byte_is s (gap s c) 58) (option_map (member_step s q n) (value_at s (gap s c + 1))) None

-- the member whose name is a value that was read: a string
abbrev pub member_of : List ℕ → Option Value → Option (Step Member)
member_of s None = None
member_of s (Some (literal i j w)) = None
member_of s (Some (number i j n)) = None
member_of s (Some (string q c n)) = named s q c n
member_of s (Some (array i j vs)) = None
member_of s (Some (object i j ms)) = None

-- the member at i
abbrev pub member_at : List ℕ → ℕ → Option (Step Member)
member_at s i = member_of s (value_at s i)

-- what f says of the next place, if there is one
abbrev pub ahead : {A : Type 0} → (ℕ → List A) → Option ℕ → List A
ahead f None = []
ahead f (Some i) = f i

-- what stands here, and then what f says of the next place
abbrev pub unrolled : {A : Type 0} → (ℕ → List A) → Option (Step A) → List A
unrolled f None = []
unrolled f (Some t) = t.here ∷ ahead f t.next

-- what stands from i on, one after the other, at most so many
unfoldable pub chain : {A : Type 0} → (ℕ → Option (Step A)) → ℕ → ℕ → List A
chain at zero i = []
chain at (suc n) i = unrolled (chain at n) (at i)

-- The items, or members, that come one after the other from the place i on, until no comma comes or none is there. There are no more of them than bytes.
unfoldable pub items_from : List ℕ → ℕ → List Value
items_from s = chain (item_at s) (length s)

unfoldable pub members_from : List ℕ → ℕ → List Member
members_from s = chain (member_at s) (length s)

abbrev pub rest_items : List ℕ → Option ℕ → List Value
rest_items s = ahead (items_from s)

abbrev pub rest_members : List ℕ → Option ℕ → List Member
rest_members s = ahead (members_from s)

-- the value of the first member that has the name n
abbrev pub find : List ℕ → List Member → Option Value
find n [] = None
find n (m ∷ ms) = cond (same m.name n) (Some m.value) (find n ms)

abbrev pub all_digits : List ℕ → Bool
all_digits [] = true
all_digits (b ∷ bs) = digit b && all_digits bs

-- the number that decimal digits write, behind those of n
abbrev pub decimal : ℕ → List ℕ → ℕ
decimal n [] = n
decimal n (b ∷ bs) = decimal (n * 10 + (b - 48)) bs

-- one to eighteen digits
abbrev pub natural : List ℕ → Option ℕ
natural bs = cond (all_digits bs && (nat_lt 0 (length bs) && nat_le (length bs) 18)) (Some (decimal 0 bs)) None

abbrev pub negative : ℕ → ℤ
negative n = neg_ℤ (pos n)

-- a whole number: one to eighteen digits, behind a minus or not
abbrev pub whole : List ℕ → Option ℤ
whole [] = None
whole (b ∷ bs) = cond (b == 45) (option_map negative (natural bs)) (option_map pos (natural (b ∷ bs)))

-- Each part of a value that was read is what is read at its place: the items of an array are those that come from behind its bracket on, the members
-- of an object those from behind its brace on, a value is read again where it begins, and a whole text's value at the place 0.
pub record WalksAt (s : List ℕ) : Type 0 where
  pub items : (i p j : ℕ) (vs : Items) → value_at s i ≡ Some (array p j vs) → listed_items vs ≡ items_from s (p + 1)
  pub members : (i p j : ℕ) (ms : Members) → value_at s i ≡ Some (object p j ms) → listed ms ≡ members_from s (p + 1)
  pub again : (i : ℕ) (v : Value) → value_at s i ≡ Some v → value_at s (from v) ≡ Some v
  pub outermost : (v : Value) → reading s ≡ Ok v → value_at s 0 ≡ Some v

abbrev pub Walks : Type 0
Walks = (s : List ℕ) → WalksAt s
