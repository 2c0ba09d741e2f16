-- The laws of bundles.
use Rattle.std.specs.Prelude.{◌≡◌, ℕ, ◌+◌, ◌<◌, ◌≤◌, true, false, List, [], ◌∷◌, ◌++◌, length, None, Ok, Err, slice_index}
use Rattle.std.specs.List.{flat_map}
use Rattle.store.specs.Pairs.{Pair, Lawful, Found, Finds}
use Rattle.store.specs.Paths.{lawful_path}
use Rattle.bundle.specs.declared.rules.Rule.{Rule}
use Rattle.bundle.specs.declared.rules.Rule.TheVariants.{TooLong, Head, TooMany, CutShort, UnlawfulPath, RepeatedPath, LongBody, LeftOver}
use Rattle.bundle.specs.declared.rules.Refusal.{Refusal}
use Rattle.bundle.specs.Layout.{head, in_two, in_four, record_of, written, checked}

-- every number is a byte
abbrev pub Bytes : List ℕ → Type 0
Bytes bs = (n : ℕ) → slice_index bs n < 256

-- bs are at most 16,777,216 bytes, and the writing of the lawful pairs ps
pub record Bundles (bs : List ℕ) (ps : List Pair) : Type 0 where
  pub short : length bs ≤ 16777216
  pub lawful : Lawful ps
  pub is : bs ≡ written ps

-- The check gives pairs exactly where the bytes are their writing.
abbrev pub ReadsWritten : Type 0
ReadsWritten = (bs : List ℕ) (ps : List Pair) → Bytes bs → (checked bs ≡ Ok ps → Bundles bs ps) × (Bundles bs ps → checked bs ≡ Ok ps)

-- No two lists of lawful pairs have one writing.
abbrev pub OneWriting : Type 0
OneWriting = (ps qs : List Pair) → Lawful ps → Lawful qs → written ps ≡ written qs → ps ≡ qs

-- the bytes r begin with a length byte and a whole path
abbrev pub Begins : List ℕ → List ℕ → List ℕ → Type 0
Begins r path rest = r ≡ length path ∷ (path ++ rest)

-- they do so with a lawful path that no pair of ps has
pub record OpensNew (ps : List Pair) (r path rest : List ℕ) : Type 0 where
  pub begins : Begins r path rest
  pub named : lawful_path path ≡ true
  pub new : Finds ps path None

-- The record that the bytes r begin with, or should, breaks the rule behind the pairs ps, and breaks none that comes before it in the order.
pub data Breaks (ps : List Pair) (r : List ℕ) : Rule → Type 0 where
  no_length : r ≡ [] → Breaks ps r CutShort
  path_ends : (n : ℕ) (rest : List ℕ) → r ≡ n ∷ rest → length rest < n → Breaks ps r CutShort
  unlawful : (path rest : List ℕ) → Begins r path rest → lawful_path path ≡ false → Breaks ps r UnlawfulPath
  repeated : (path rest : List ℕ) (n : ℕ) → Begins r path rest → lawful_path path ≡ true → Found ps path n → Breaks ps r RepeatedPath
  length_ends : (path rest : List ℕ) → OpensNew ps r path rest → length rest < 4 → Breaks ps r CutShort
  long : (path rest : List ℕ) (n : ℕ) → OpensNew ps r path (in_four n ++ rest) → 1048576 < n → Breaks ps r LongBody
  body_ends : (path rest : List ℕ) (n : ℕ) → OpensNew ps r path (in_four n ++ rest) → n ≤ 1048576 → length rest < n → Breaks ps r CutShort

-- The first broken rule of the bytes, with its place.
-- 1: too many bytes. 2: where the head stands in front, no count follows. 3: a count over 1,024.
-- 4 to 7: behind the head, the count and the writing of lawful pairs, fewer than the count, stands a record that breaks the rule. 8: bytes follow a writing.
pub data FirstBroken (bs : List ℕ) : Rule → ℕ → Type 0 where
  too_long : 16777216 < length bs → FirstBroken bs TooLong 0
  other_head : length bs ≤ 16777216 → ((rest : List ℕ) → bs ≡ head ++ rest → length rest < 2) → FirstBroken bs Head 0
  too_many : (n : ℕ) (rest : List ℕ) → length bs ≤ 16777216 → bs ≡ head ++ (in_two n ++ rest) → 1024 < n → FirstBroken bs TooMany 0
  in_record : {rule : Rule} (n : ℕ) (ps : List Pair) (r : List ℕ) → length bs ≤ 16777216 → n ≤ 1024 → length ps < n → Lawful ps
      → bs ≡ head ++ (in_two n ++ (flat_map record_of ps ++ r)) → Breaks ps r rule → FirstBroken bs rule (7 + length (flat_map record_of ps))
  left_over : (ps : List Pair) (r : List ℕ) → length bs ≤ 16777216 → Lawful ps → bs ≡ written ps ++ r → 0 < length r → FirstBroken bs LeftOver (length (written ps))

-- The check refuses exactly with the first broken rule and its place.
abbrev pub FirstRule : Type 0
FirstRule = (bs : List ℕ) (e : Refusal) → Bytes bs → (checked bs ≡ Err e → FirstBroken bs e.rule e.place) × (FirstBroken bs e.rule e.place → checked bs ≡ Err e)

-- The shortest bundle, the head and a count of 0, has no pairs.
abbrev pub Shortest : Type 0
Shortest = checked (0x43 ∷ 0x41 ∷ 0x50 ∷ 0 ∷ 1 ∷ 0 ∷ 0 ∷ []) ≡ Ok []
