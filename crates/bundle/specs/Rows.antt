-- The walk over the records that leaves repeated paths aside, and the places of the paths that it sees.
use Rattle.std.specs.Prelude.{◌≡◌, ℕ, zero, suc, ◌+◌, ◌⊎◌, cond, List, [], ◌∷◌, ◌++◌, map, length, take, drop, Some, None, Ok, Err, Option, Result, nat_lt}
use Rattle.std.specs.List.{range_with_len}
use Rattle.store.specs.Lent as lent
use Rattle.store.specs.declared.pairs.Pair.{Pair}
use Rattle.names.specs.declared.span.Span.{Span}
use Rattle.bundle.specs.declared.rules.Rule.{Rule}
use Rattle.bundle.specs.declared.rules.Rule.TheVariants.{CutShort, LongBody, LeftOver}
use Rattle.bundle.specs.declared.rules.Refusal.{Refusal}
use Rattle.bundle.specs.Layout.{four, path_size, path_fault, body_fault, pair_of, extent, or_else, place_of, from_record, path_length}

abbrev pub stopped : {A : Type 0} → Option Rule → A → A → A
stopped None stop on = on
stopped (Some rule) stop on = stop

-- how many records have a whole and lawful path, up to the first fault within m records from number n
unfoldable pub seen : ℕ → List ℕ → ℕ → ℕ
seen zero bs n = n
seen (suc m) bs n = stopped (path_fault (from_record bs n)) n (stopped (body_fault (from_record bs n)) (n + 1) (seen m bs (n + 1)))

abbrev pub halted : Option Rule → ℕ → Result (Unit {0}) Refusal → Result (Unit {0}) Refusal
halted None p later = later
halted (Some rule) p later = Err (record { rule = rule; place = p })

-- what the end of the records tells, at the place p
abbrev pub ending : List ℕ → ℕ → Result (Unit {0}) Refusal
ending bs p = cond (nat_lt p (length bs)) (Err (record { rule = LeftOver; place = p })) (Ok tt)

-- what the check of those records tells, repeated paths aside
unfoldable pub tells : ℕ → List ℕ → ℕ → Result (Unit {0}) Refusal
tells zero bs n = ending bs (place_of bs n)
tells (suc m) bs n = halted (or_else (path_fault (from_record bs n)) (body_fault (from_record bs n))) (place_of bs n) (tells m bs (n + 1))

-- the path of record number k: behind its length byte, up to its end
abbrev pub row_at : List ℕ → ℕ → Span
row_at bs k = record { start = place_of bs k; end = place_of bs k + (1 + path_length bs k) }

-- the paths of the first n records
unfoldable pub rows_of : List ℕ → ℕ → List Span
rows_of bs n = map (row_at bs) (range_with_len 0 n)

-- the path of the record r that stands at the place p
abbrev pub row_from : List ℕ → ℕ → Span
row_from r p = record { start = p; end = p + (1 + path_size r) }

-- r begins with a record that breaks no rule, met paths aside: its pair, the bytes behind it, and its path noted
pub record Cuts (r : List ℕ) (p : ℕ) (old new : List Span) (pair : Pair) (behind : List ℕ) : Type 0 where
  pub path : path_fault r ≡ None
  pub body : body_fault r ≡ None
  pub noted : new ≡ old ++ row_from r p ∷ []
  pub means : lent.pair_of pair ≡ pair_of r
  pub rest : behind ≡ drop (extent r) r

-- r breaks a rule with its path, which is not noted, or with its body
abbrev pub EndsAt : List ℕ → ℕ → List Span → List Span → Rule → Type 0
EndsAt r p old new rule =
    ((path_fault r ≡ Some rule) × (new ≡ old)) ⊎ ((path_fault r ≡ None) × (body_fault r ≡ Some rule) × (new ≡ old ++ row_from r p ∷ []))

-- A record is read in two steps: behind the path stand the body's length, the body, and the bytes behind it.
unfoldable pub body_after : List ℕ → List ℕ
body_after t = take (four t) (drop 4 t)

unfoldable pub behind_body : List ℕ → List ℕ
behind_body t = drop (four t) (drop 4 t)

-- the rule of bodies that is broken there
unfoldable pub body_fault_after : List ℕ → Option Rule
body_fault_after t =
    cond (nat_lt (length t) 4) (Some CutShort)
    (cond (nat_lt 1048576 (four t)) (Some LongBody)
    (cond (nat_lt (length t) (4 + four t)) (Some CutShort) None))
