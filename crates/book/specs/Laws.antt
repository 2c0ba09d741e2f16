-- What is claimed of books.
use Rattle.std.specs.Prelude.{◌≡◌, ℕ, ◌<◌, ◌≤◌, true, List, ◌∷◌, ◌++◌, map, length, Ok, Err, ◌≢◌}
use Rattle.std.specs.List.{AllByRecursion}
use Rattle.syntax.specs.Value.{Value, Members, object}
use Rattle.syntax.specs.Reading.{reading}
use Rattle.syntax.specs.Laws as text
use Rattle.syntax.specs.Walking.{Member, listed}
use Rattle.store.specs.Pairs as store
use Rattle.store.specs.Paths.{lawful_path}
use Rattle.book.specs.declared.refusal.BookRefusal.{BookRefusal}
use Rattle.book.specs.declared.refusal.BookRefusal.TheVariants.{Text, NoObject, TooMany, UnlawfulPath}
use Rattle.book.specs.Listing.{most, pair, listing, checked, opened}

-- the bytes s are a lawful text that spells an object with the members ms
pub record Object (s : List ℕ) (ms : List Member) : Type 0 where
  pub start : ℕ
  pub end : ℕ
  pub members : Members
  pub lawful : text.Lawful s (object start end members)
  pub are : listed members ≡ ms

-- a member has a lawful path for its name
abbrev pub Named : Member → Type 0
Named m = lawful_path m.name ≡ true

-- The bytes s are a book with the members ms: at most 1,024, all with lawful paths for names.
pub record Book (s : List ℕ) (ms : List Member) : Type 0 where
  pub object : Object s ms
  pub few : length ms ≤ most
  pub named : AllByRecursion Named ms

-- The check passes exactly the books, and the store then means the members in order, each body the bytes of the value from its first to its last.
pub record PassesAt (s : List ℕ) : Type 0 where
  pub only : checked (listing s) ≡ Ok tt → (ms : List Member) × Book s ms
  pub every : (ms : List Member) → Book s ms → (checked (listing s) ≡ Ok tt) × (opened s ≡ map (pair s) ms)

abbrev pub Passes : Type 0
Passes = (s : List ℕ) → PassesAt s

-- The store over any bytes is lawful: at most 1,024 pairs, lawful paths, none twice, and no body longer than a text.
abbrev pub LawfulStore : Type 0
LawfulStore = (s : List ℕ) → store.Lawful (opened s)

-- of the members, the first whose name is no lawful path has its opening quote at q
pub record FirstUnlawful (ms : List Member) (q : ℕ) : Type 0 where
  pub before : List Member
  pub first : Member
  pub behind : List Member
  pub are : ms ≡ before ++ first ∷ behind
  pub named : AllByRecursion Named before
  pub unlawful : Named first → ⊥
  pub quote : first.at ≡ q

-- What a refusal says of the bytes, each rule behind those before it: they are no text, with that fault; a lawful text, and no object; an object, with
-- more than 1,024 members; one with no more, of whose names the first that is no lawful path stands at q.
abbrev pub Says : BookRefusal → List ℕ → Type 0
Says (Text f) s = reading s ≡ Err f
Says NoObject s = (v : Value) × text.Lawful s v × ((i j : ℕ) (ms : Members) → v ≢ object i j ms)
Says TooMany s = (ms : List Member) × Object s ms × (most < length ms)
Says (UnlawfulPath q) s = (ms : List Member) × Object s ms × (length ms ≤ most) × FirstUnlawful ms q

-- Every refusal that is told says so, and only the one that is told.
abbrev pub Tells : Type 0
Tells = (s : List ℕ) (e : BookRefusal) → (checked (listing s) ≡ Err e → Says e s) × (Says e s → checked (listing s) ≡ Err e)
