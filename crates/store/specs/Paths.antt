-- Paths of captures, and the paths above a path.
use Rattle.std.specs.Prelude.{◌≡◌, ℕ, zero, suc, ◌-◌, ◌<◌, ◌≢◌, Bool, cond, not, ◌&&◌, List, [], ◌∷◌, length, get_or, take, ◌==◌, nat_le, nat_lt, slice_index, slice_index_or, Option, Some, None}
use Rattle.std.specs.List.{ContainsAt, list_all}

-- a byte of a path: printable, and neither the quote nor the backslash
abbrev pub path_byte : ℕ → Bool
path_byte b = nat_le 33 b && nat_le b 126 && not (b == 34) && not (b == 92)

-- 2 to 255 such bytes; it begins with a slash, and does not end with one
abbrev pub lawful_path : List ℕ → Bool
lawful_path p = nat_le 2 (length p) && nat_le (length p) 255 && list_all path_byte p && slice_index p 0 == 47 && not (slice_index p (length p - 1) == 47)

-- the fronts of p before each slash that stands past its first byte and below the place n, the longest first
abbrev pub cuts_below : List ℕ → ℕ → List (List ℕ)
cuts_below p zero = []
cuts_below p (suc i) = cond (nat_lt 0 i && slice_index p i == 47) (take i p ∷ cuts_below p i) (cuts_below p i)

-- the paths above p, the nearest, which is the longest, first
unfoldable pub cuts : List ℕ → List (List ℕ)
cuts p = cuts_below p (length p)

-- the place of the last slash, if there is one
abbrev pub LastSlash : List ℕ → Option ℕ → Type 0
LastSlash p None = (k : ℕ) → k < length p → slice_index p k ≢ 47
LastSlash p (Some i) = (i < length p) × (slice_index p i ≡ 47) × ((k : ℕ) → i < k → k < length p → slice_index p k ≢ 47)

-- c is a path above p: the front of p before a slash that stands past the first byte
pub record Above (p c : List ℕ) : Type 0 where
  pub place : ℕ
  pub past : 0 < place
  pub inside : place < length p
  pub slash : get_or p place 0 ≡ 47
  pub front : c ≡ take place p

-- each of the list is shorter than those before it
abbrev pub Falling : List (List ℕ) → Type 0
Falling cs = (i j : ℕ) → (i < j) × (j < length cs) → length (slice_index_or cs j []) < length (slice_index_or cs i [])

-- The cuts of p are the paths above p: all of them, nothing else, and in falling length.
abbrev pub CutsLaw : List ℕ → Type 0
CutsLaw p = ((c : List ℕ) → ContainsAt (cuts p) c → Above p c) × ((c : List ℕ) → Above p c → ContainsAt (cuts p) c) × Falling (cuts p)
