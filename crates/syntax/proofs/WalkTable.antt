-- Examples of items, members and whole numbers by place.
use Rattle.std.proofs.Common.{◌≡◌, ℕ, List, [], ◌∷◌, pos, negsuc, Some, None, codes, refl}
use Rattle.syntax.specs.Bytes.{gap}
use Rattle.syntax.specs.Value.{number, string}
use Rattle.syntax.specs.Machine.{run}
use Rattle.syntax.specs.Reading.{value_at}
use Rattle.syntax.specs.Walking.{chain, items_from, members_from, find, whole}

abbrev small : List ℕ
small = codes "{\"a\" : [1 , 22], \"b\":\"x\"} "

items : items_from small 8 ≡ number 8 9 (codes "1") ∷ number 12 14 (codes "22") ∷ []
unfolding run gap value_at chain items_from
items = refl

member : find (codes "b") (members_from small 1) ≡ Some (string 21 24 (codes "x"))
unfolding run gap value_at chain members_from
member = refl

absent : find (codes "c") (members_from small 1) ≡ None
unfolding run gap value_at chain members_from
absent = refl

numbers : (whole (codes "-120") ≡ Some (negsuc 119)) × (whole (codes "-0") ≡ Some (pos 0)) × (whole (codes "1.0") ≡ None) × (whole (codes "-") ≡ None) × (whole (codes "1000000000000000000") ≡ None)
numbers = (refl, refl, refl, refl, refl)
