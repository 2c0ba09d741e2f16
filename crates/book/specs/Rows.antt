-- The members of a book, and the table of places that an open book keeps.
use Rattle.std.specs.Prelude.{◌≡◌, ℕ, ◌+◌, ◌<◌, ◌≤◌, List, map, length, get_or, Ok, Err, Result}
use Rattle.std.specs.List.{between}
use Rattle.syntax.specs.Value.{from, to}
use Rattle.syntax.specs.Reading.{reading, longest}
use Rattle.syntax.specs.Walking.{Member, members_from}
use Rattle.store.specs.Pairs.{path_at, body_at}
use Rattle.walk.specs.declared.members.Members as told
use Rattle.walk.specs.Told.{members_left}
use Rattle.book.specs.declared.row.Row.{Row}
use Rattle.book.specs.declared.refusal.BookRefusal.{BookRefusal}
use Rattle.book.specs.Listing.{most, pair, listing, opened, members_of, path_place, body_place}

-- the bytes s are a book with the members ms, which come from a place of it on
pub record Begins (s : List ℕ) (ms : List Member) : Type 0 where
  pub short : length s ≤ longest
  pub few : length ms ≤ most
  pub place : ℕ
  pub come : ms ≡ members_from s place
  pub members : members_of (reading s) ≡ ms
  pub lists : listing s ≡ Ok (map (pair s) ms)

abbrev pub Examined : List ℕ → Result told.Members BookRefusal → Type 0
Examined s (Ok m) = Begins s (members_left m)
Examined s (Err e) = listing s ≡ Err e

-- a member's name, with its quotes, and its value end by the place n
pub record Ends (n : ℕ) (m : Member) : Type 0 where
  pub closed : m.at + length m.name + 2 ≤ n
  pub ordered : from m.value ≤ to m.value
  pub ended : to m.value ≤ n

-- where a member's name, between its quotes, and its value stand
abbrev pub row_of : Member → Row
row_of m = record { path = record { start = m.at + 1; end = m.at + 1 + length m.name }; body = record { start = from m.value; end = to m.value } }

-- a row that marks nothing
abbrev pub blank : Row
blank = record { path = record { start = 0; end = 0 }; body = record { start = 0; end = 0 } }

-- What an open book keeps of its rows. Their parts lie within the bytes;
abbrev pub Within : List ℕ → List Row → Type 0
Within s rows = (k : ℕ) → k < length rows → ((get_or rows k blank).path.start ≤ (get_or rows k blank).path.end) × ((get_or rows k blank).path.end ≤ length s) × ((get_or rows k blank).body.start ≤ (get_or rows k blank).body.end) × ((get_or rows k blank).body.end ≤ length s)

-- they are the paths and the bodies;
abbrev pub Paths : List ℕ → List Row → Type 0
Paths s rows = (k : ℕ) → k < length rows → path_at (opened s) k ≡ between (get_or rows k blank).path.start (get_or rows k blank).path.end s

abbrev pub Bodies : List ℕ → List Row → Type 0
Bodies s rows = (k : ℕ) → k < length rows → body_at (opened s) k ≡ between (get_or rows k blank).body.start (get_or rows k blank).body.end s

-- and they begin behind the names' opening quotes, and where the values begin.
abbrev pub Places : List ℕ → List Row → Type 0
Places s rows = (k : ℕ) → k < length rows → ((get_or rows k blank).path.start ≡ path_place s k) × ((get_or rows k blank).body.start ≡ body_place s k)

pub record Keeps (s : List ℕ) (rows : List Row) : Type 0 where
  pub counted : length rows ≡ length (opened s)
  pub within : Within s rows
  pub paths : Paths s rows
  pub bodies : Bodies s rows
  pub places : Places s rows
