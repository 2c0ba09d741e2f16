-- What values of a profile say, as it is told.
use Rattle.std.specs.Prelude.{ℕ, List, ℤ, Option}
use Rattle.syntax.specs.Value.{Value}
use Rattle.syntax.specs.Walking as w
use Rattle.syntax.specs.Contents.{members}
use Rattle.requirement.specs.Words as words
use Rattle.requirement.specs.Words.{◌of◌, bounded, not_negative, version}
use Rattle.requirement.specs.Clause.{get, members_in}
use Rattle.terms.specs.declared.version.Version.{Version}

-- a number from 0 to 65,535
abbrev pub bounded_number : ℤ → Option ℕ
bounded_number n = bounded of not_negative n

-- a version, as it is told
abbrev pub version_told : words.Version → Version
version_told v = record { major = v.major; minor = v.minor; patch = v.patch }

-- the least version that a schema entry's members state
abbrev pub version_stated : List w.Member → Option words.Version
version_stated ms = version of get "MinVersion" ms

-- the schema entries of a profile's value
abbrev pub schemas_of : Value → List w.Member
schemas_of v = members_in (get "Resources" (members v))
