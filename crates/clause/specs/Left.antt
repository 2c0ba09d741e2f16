-- The clauses that are still to come.
use Rattle.std.specs.Prelude.{◌≡◌, ℕ, List, [], ◌++◌, map, Some, None, Ok, Option}
use Rattle.std.specs.Option.{option_map}
use Rattle.walk.specs.Here.{value_here}
use Rattle.walk.specs.Told.{members_left}
use Rattle.requirement.specs.Clause as r
use Rattle.requirement.specs.Clause.{flat, given, nested_clause, property_clauses, schema_clauses}
use Rattle.requirement.specs.Reading.{reading_profile}
use Rattle.clause.specs.declared.clauses.NestedClauses.{NestedClauses}
use Rattle.clause.specs.declared.clauses.SchemaClauses.{SchemaClauses}
use Rattle.clause.specs.declared.clauses.Clauses.{Clauses}
use Rattle.clause.specs.Shown.{parent_shown, clause_shown}

-- what is left of what is present, if anything is
abbrev pub present : {A : Type 0} → (A → List r.Clause) → Option A → List r.Clause
present left None = []
present left (Some a) = left a

-- In the order of the profile: the nested properties of the present property; of the present schema its version, these, and its properties; and then the schemas.
abbrev pub nested_left : NestedClauses → List r.Clause
nested_left n = map (nested_clause n.schema.now (parent_shown n.parent)) (members_left n.members)

abbrev pub schema_left : SchemaClauses → List r.Clause
schema_left c = given (option_map clause_shown c.version) (present nested_left c.nested ++ flat (property_clauses c.name.now) (members_left c.properties))

abbrev pub clauses_left : Clauses → List r.Clause
clauses_left c = present schema_left c.schema ++ flat schema_clauses (members_left c.schemas)

-- the clauses that are spelled by the value at the beginning of any bytes; there are none where no value is
abbrev pub clauses_of : List ℕ → List r.Clause
clauses_of s = r.clauses (value_here s 0)

-- an accepted profile is read as these
abbrev pub Accepted : List ℕ → Type 0
Accepted s = (cs : List r.Clause) → reading_profile s ≡ Ok cs → clauses_of s ≡ cs
