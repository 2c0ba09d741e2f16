-- Which names of an object repeat an earlier one, and which of these comes first.
use Rattle.std.specs.Prelude.{◌≡◌, ℕ, ◌+◌, ◌<◌, ◌≤◌, Bool, true, false, cond, ◌&&◌, ◌||◌, List, [], ◌∷◌, ◌++◌, length, Some, None, Option, nat_le, nat_lt}
use Rattle.std.specs.List.{between, ContainsAt, AllByRecursion}
use Rattle.syntax.specs.Bytes.{same}
use Rattle.names.specs.declared.span.Span.{Span}

-- the bytes between the quotes of a name; none where the places are out of order or pass the text
unfoldable pub bytes_of : List ℕ → Span → List ℕ
bytes_of s n = cond (nat_lt n.start n.end && nat_le n.end (length s)) (between (n.start + 1) n.end s) []

-- m begins before n and has its bytes
pub record Again (s : List ℕ) (m n : Span) : Type 0 where
  pub before : m.start < n.start
  pub alike : same (bytes_of s m) (bytes_of s n) ≡ true

-- n is a row and repeats an earlier one
pub record Repeats (s : List ℕ) (ns : List Span) (n : Span) : Type 0 where
  pub there : ContainsAt ns n
  pub earlier : Span
  pub earlier_there : ContainsAt ns earlier
  pub again : Again s earlier n

-- of the rows that repeat an earlier one the first, by the ends; none where no row does
abbrev pub FirstRepeat : List ℕ → List Span → Option Span → Type 0
FirstRepeat s ns None = (n : Span) → Repeats s ns n → ⊥
FirstRepeat s ns (Some n) = Repeats s ns n × ((m : Span) → Repeats s ns m → n.end ≤ m.end)

-- some row of a list has the bytes of n
abbrev pub known : List ℕ → Span → List Span → Bool
known s n [] = false
known s n (m ∷ ms) = same (bytes_of s m) (bytes_of s n) || known s n ms

-- where the first name of a list ends that has the bytes of an earlier name, or of one of those before the list
abbrev pub earliest : List ℕ → List Span → List Span → Option ℕ
earliest s before [] = None
earliest s before (n ∷ ns) = cond (known s n before) (Some n.end) (earliest s (before ++ n ∷ []) ns)

-- m stands behind n
abbrev pub Behind : Span → Span → Type 0
Behind n m = (n.start < m.start) × (n.end < m.end)

-- each name ends behind its start, and starts and ends rise along the list
abbrev pub Ascending : List Span → Type 0
Ascending [] = Unit {0}
Ascending (n ∷ ns) = (n.start < n.end) × AllByRecursion (Behind n) ns × Ascending ns
