-- What a store means: a list of pairs of path and body, in a fixed order.
use Rattle.std.specs.Prelude.{◌≡◌, ℕ, ◌<◌, ◌≤◌, true, ◌⊎◌, List, [], ◌∷◌, length, Some, None, Option, ◌≢◌, slice_index_or}
use Rattle.store.specs.Paths.{lawful_path, Above}

pub record Pair : Type 0 where
  pub path : List ℕ
  pub body : List ℕ

abbrev pub nothing : Pair
nothing = record { path = []; body = [] }

-- path and body of number n; past the end the empty part
abbrev pub path_at : List Pair → ℕ → List ℕ
path_at ps n = (slice_index_or ps n nothing).path

abbrev pub body_at : List Pair → ℕ → List ℕ
body_at ps n = (slice_index_or ps n nothing).body

-- at most 1,024 pairs
abbrev pub Few : List Pair → Type 0
Few ps = length ps ≤ 1024

-- every path is lawful
abbrev pub Named : List Pair → Type 0
Named ps = (n : ℕ) → n < length ps → lawful_path (path_at ps n) ≡ true

-- no body has more than 1,048,576 bytes
abbrev pub Small : List Pair → Type 0
Small ps = (n : ℕ) → length (body_at ps n) ≤ 1048576

-- no two paths are equal
abbrev pub Apart : List Pair → Type 0
Apart ps = (i j : ℕ) → (i < j) × (j < length ps) → path_at ps i ≢ path_at ps j

pub record Lawful (ps : List Pair) : Type 0 where
  pub few : Few ps
  pub named : Named ps
  pub small : Small ps
  pub apart : Apart ps

-- pair number n has the path p
pub record Found (ps : List Pair) (p : List ℕ) (n : ℕ) : Type 0 where
  pub within : n < length ps
  pub same : path_at ps n ≡ p

-- the number of a pair that has the path p, or none where no pair has it
abbrev pub Finds : List Pair → List ℕ → Option ℕ → Type 0
Finds ps p None = (n : ℕ) → n < length ps → path_at ps n ≢ p
Finds ps p (Some n) = Found ps p n

-- A search has one answer: where the pairs are lawful, whatever finds a path finds the same number.
abbrev pub OneAnswer : Type 0
OneAnswer = (ps : List Pair) (p : List ℕ) (r q : Option ℕ) → Lawful ps → Finds ps p r → Finds ps p q → r ≡ q

-- the number of the first of the paths cs that some pair has, or none where no pair has one of them
abbrev pub FirstFound : List Pair → List (List ℕ) → Option ℕ → Type 0
FirstFound ps [] r = r ≡ None
FirstFound ps (c ∷ cs) r = ((n : ℕ) × Found ps c n × (r ≡ Some n)) ⊎ (Finds ps c None × FirstFound ps cs r)

-- the number of the pair that has the longest path above p of those that pairs have, or none where no pair has a path above p
abbrev pub Nearest : List Pair → List ℕ → Option ℕ → Type 0
Nearest ps p None = (c : List ℕ) → Above p c → Finds ps c None
Nearest ps p (Some n) = (c : List ℕ) × Above p c × Found ps c n × ((d : List ℕ) → Above p d → length c < length d → Finds ps d None)
