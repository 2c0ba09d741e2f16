-- A profile read: its clauses, or the fault.
use Rattle.std.specs.Prelude.{ℕ, List, length, Ok, Err, Result, nat_le}
use Rattle.syntax.specs.declared.kinds.Fault.{Fault}
use Rattle.syntax.specs.Value.{Value}
use Rattle.syntax.specs.Reading.{reading}
use Rattle.requirement.specs.declared.fault.ProfileFault.{ProfileFault}
use Rattle.requirement.specs.declared.fault.ProfileFault.TheVariants.{Text, TooMany}
use Rattle.requirement.specs.Clause.{Clause, clauses}
use Rattle.requirement.specs.Check.{Check, profile, sure, ◌then◌}

-- the most clauses that a profile has
abbrev pub most : ℕ
most = 1024

abbrev pub few : List Clause → Check
few cs = sure (nat_le (length cs) most) TooMany

-- an answer, where a check is fine
abbrev pub answered : {A : Type 0} → Check → A → Result A ProfileFault
answered (Ok u) a = Ok a
answered (Err f) a = Err f

abbrev pub profile_of : Value → Result (List Clause) ProfileFault
profile_of v = answered (profile v then few (clauses v)) (clauses v)

abbrev pub profile_in : Result Value Fault → Result (List Clause) ProfileFault
profile_in (Ok v) = profile_of v
profile_in (Err f) = Err (Text f)

-- what the bytes s are read as
abbrev pub reading_profile : List ℕ → Result (List Clause) ProfileFault
reading_profile s = profile_in (reading s)
