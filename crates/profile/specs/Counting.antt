-- How many clauses a profile has.
use Rattle.std.specs.Prelude.{ℕ, ◌+◌, min, List, [], ◌∷◌, length, Some, None, Ok, Err, Option, Result}
use Rattle.syntax.specs.Walking.{Member}
use Rattle.syntax.specs.Contents.{members}
use Rattle.requirement.specs.declared.fault.ProfileFault.{ProfileFault}
use Rattle.requirement.specs.Words.{Version}
use Rattle.requirement.specs.Clause.{Clause, properties}
use Rattle.terms.specs.Stated.{version_stated}

-- the number of the clauses that were read, or the fault
abbrev pub counted : Result (List Clause) ProfileFault → Result ℕ ProfileFault
counted (Ok cs) = Ok (length cs)
counted (Err f) = Err f

-- a number, or the greatest of 64 bits
abbrev pub capped : ℕ → ℕ
capped n = min n 18446744073709551615

-- so many, and as many more for each member
abbrev pub total : (Member → ℕ) → ℕ → List Member → ℕ
total f n [] = n
total f n (m ∷ ms) = total f (capped (n + f m)) ms

-- the clauses of a property in a property, of a property, and of a schema entry, which has one more where it states a version
abbrev pub nested_count : Member → ℕ
nested_count m = 1

abbrev pub property_count : Member → ℕ
property_count m = total nested_count 1 (properties (members m.value))

abbrev pub own_count : Option Version → ℕ
own_count None = 1
own_count (Some v) = 2

abbrev pub schema_count : Member → ℕ
schema_count m = total property_count (own_count (version_stated (members m.value))) (properties (members m.value))
