-- The bytes of a bundle: how pairs are written, and how bytes are read, with the first broken rule.
use Rattle.std.specs.Prelude.{◌≡◌, ℕ, zero, suc, ◌+◌, ◌*◌, ◌/◌, ◌%◌, ◌<◌, ◌≤◌, Bool, false, cond, not, ◌&&◌, ◌||◌, List, [], ◌∷◌, ◌++◌, map, length, take, drop, Some, None, Ok, Err, Option, Result, ◌==◌, nat_le, nat_lt, slice_index}
use Rattle.std.specs.List.{range_with_len, flat_map}
use Rattle.std.specs.Str.{bytes_eq}
use Rattle.store.specs.Pairs.{Pair}
use Rattle.store.specs.Paths.{lawful_path}
use Rattle.bundle.specs.declared.rules.Rule.{Rule}
use Rattle.bundle.specs.declared.rules.Rule.TheVariants.{TooLong, Head, TooMany, CutShort, UnlawfulPath, RepeatedPath, LongBody, LeftOver}
use Rattle.bundle.specs.declared.rules.Refusal.{Refusal}

-- Writing. Numbers have their high bytes first.

-- the mark CAP, and the version
abbrev pub head : List ℕ
head = 0x43 ∷ 0x41 ∷ 0x50 ∷ 0 ∷ 1 ∷ []

abbrev pub in_two : ℕ → List ℕ
in_two n = n / 256 ∷ n % 256 ∷ []

abbrev pub in_four : ℕ → List ℕ
in_four n = n / 16777216 ∷ n / 65536 % 256 ∷ n / 256 % 256 ∷ n % 256 ∷ []

-- one byte of path length, the path, the body's length, the body
unfoldable pub record_of : Pair → List ℕ
record_of q = length q.path ∷ (q.path ++ (in_four (length q.body) ++ q.body))

-- the whole bundle: the head, the count and the records
unfoldable pub written : List Pair → List ℕ
written ps = head ++ (in_two (length ps) ++ flat_map record_of ps)

-- Reading.

abbrev pub two : List ℕ → ℕ
two r = slice_index r 0 * 256 + slice_index r 1

abbrev pub four : List ℕ → ℕ
four r = slice_index r 0 * 16777216 + slice_index r 1 * 65536 + slice_index r 2 * 256 + slice_index r 3

-- The record that r begins with: its path, the bytes behind the path, the body's length, the body, and how long the record is.
abbrev pub path_size : List ℕ → ℕ
path_size r = slice_index r 0

unfoldable pub path_of : List ℕ → List ℕ
path_of r = take (path_size r) (drop 1 r)

unfoldable pub behind_path : List ℕ → List ℕ
behind_path r = drop (1 + path_size r) r

unfoldable pub body_size : List ℕ → ℕ
body_size r = four (behind_path r)

unfoldable pub body_of : List ℕ → List ℕ
body_of r = take (body_size r) (drop 4 (behind_path r))

unfoldable pub extent : List ℕ → ℕ
extent r = 5 + path_size r + body_size r

abbrev pub pair_of : List ℕ → Pair
pair_of r = record { path = path_of r; body = body_of r }

-- whether a pair has the path
abbrev pub met : List Pair → List ℕ → Bool
met [] p = false
met (q ∷ ps) p = bytes_eq q.path p || met ps p

-- The first broken rule of the record that r begins with: of its path alone, against the pairs before it, and of its body.
unfoldable pub path_fault : List ℕ → Option Rule
path_fault r =
    cond (nat_lt (length r) (1 + path_size r)) (Some CutShort)
    (cond (lawful_path (path_of r)) None (Some UnlawfulPath))

unfoldable pub body_fault : List ℕ → Option Rule
body_fault r =
    cond (nat_lt (length (behind_path r)) 4) (Some CutShort)
    (cond (nat_lt 1048576 (body_size r)) (Some LongBody)
    (cond (nat_lt (length r) (extent r)) (Some CutShort) None))

abbrev pub or_else : Option Rule → Option Rule → Option Rule
or_else None later = later
or_else (Some rule) later = Some rule

unfoldable pub fault : List Pair → List ℕ → Option Rule
fault ps r = or_else (path_fault r) (or_else (cond (met ps (path_of r)) (Some RepeatedPath) None) (body_fault r))

abbrev pub refused : Rule → ℕ → Result (List Pair) Refusal
refused rule p = Err (record { rule = rule; place = p })

abbrev pub unless : Option Rule → ℕ → Result (List Pair) Refusal → Result (List Pair) Refusal
unless None p later = later
unless (Some rule) p later = refused rule p

-- n more records from the bytes r, which stand at the place p, behind the records of ps
unfoldable pub reading : ℕ → List Pair → List ℕ → ℕ → Result (List Pair) Refusal
reading zero ps [] p = Ok ps
reading zero ps (b ∷ r) p = refused LeftOver p
reading (suc n) ps r p = unless (fault ps r) p (reading n (ps ++ pair_of r ∷ []) (drop (extent r) r) (p + extent r))

-- the mark CAP, and the version
abbrev pub is_head : List ℕ → List ℕ → Bool
is_head mark version = slice_index mark 0 == 0x43 && slice_index mark 1 == 0x41 && slice_index mark 2 == 0x50 && slice_index version 0 == 0 && slice_index version 1 == 1

-- the head stands in front, and a count of n behind it
pub record Headed (bs : List ℕ) (n : ℕ) : Type 0 where
  pub high : ℕ
  pub low : ℕ
  pub rest : List ℕ
  pub is : bs ≡ head ++ (high ∷ low ∷ rest)
  pub counts : n ≡ high * 256 + low

unfoldable pub headed : List ℕ → Bool
headed bs = nat_le 7 (length bs) && bytes_eq (take 5 bs) head

abbrev pub count_of : List ℕ → ℕ
count_of bs = two (drop 5 bs)

-- The pairs of a bundle, or the first broken rule with its place.
unfoldable pub checked : List ℕ → Result (List Pair) Refusal
checked bs =
    cond (nat_lt 16777216 (length bs)) (refused TooLong 0)
    (cond (not (headed bs)) (refused Head 0)
    (cond (nat_lt 1024 (count_of bs)) (refused TooMany 0)
    (reading (count_of bs) [] (drop 7 bs) 7)))

-- what a check tells of it
abbrev pub told : Result (List Pair) Refusal → Result (Unit {0}) Refusal
told (Ok ps) = Ok tt
told (Err e) = Err e

-- the pairs, or none where the check refuses
abbrev pub pairs_in : Result (List Pair) Refusal → List Pair
pairs_in (Ok ps) = ps
pairs_in (Err e) = []

unfoldable pub opened : List ℕ → List Pair
opened bs = pairs_in (checked bs)

-- Where the record number n begins, and the pairs of the first n records.
abbrev pub place_of : List ℕ → ℕ → ℕ
place_of bs zero = 7
place_of bs (suc n) = place_of bs n + extent (drop (place_of bs n) bs)

abbrev pub from_record : List ℕ → ℕ → List ℕ
from_record bs n = drop (place_of bs n) bs

unfoldable pub first_pairs : List ℕ → ℕ → List Pair
first_pairs bs n = map (λ k. pair_of (from_record bs k)) (range_with_len 0 n)

-- where its path and its body begin, and how long they are
abbrev pub path_place : List ℕ → ℕ → ℕ
path_place bs n = place_of bs n + 1

abbrev pub path_length : List ℕ → ℕ → ℕ
path_length bs n = path_size (from_record bs n)

abbrev pub body_place : List ℕ → ℕ → ℕ
body_place bs n = place_of bs n + (5 + path_length bs n)

abbrev pub body_length : List ℕ → ℕ → ℕ
body_length bs n = body_size (from_record bs n)

-- the first n records lie within the bytes
abbrev pub Fit : List ℕ → ℕ → Type 0
Fit bs n = (k : ℕ) → k < n → place_of bs k + extent (from_record bs k) ≤ length bs
