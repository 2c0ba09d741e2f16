-- The faults of a profile, by the numbers under which they are told.
use Rattle.std.specs.Prelude.{ℕ}
use Rattle.syntax.specs.Reading.{number as cause_number}
use Rattle.refused.specs.declared.Refused.{Refused}
use Rattle.requirement.specs.declared.fault.ProfileFault.{ProfileFault}
use Rattle.requirement.specs.declared.fault.ProfileFault.TheVariants.{Text, Unlawful, Unnamed, TooMany}

abbrev pub number : ProfileFault → ℕ
number (Text f) = 13
number (Unlawful p) = 14
number (Unnamed p) = 15
number TooMany = 16

-- the cause of a text's fault; 0 where there is none
abbrev pub cause : ProfileFault → ℕ
cause (Text f) = cause_number f.cause
cause (Unlawful p) = 0
cause (Unnamed p) = 0
cause TooMany = 0

-- the place, from the first byte of the profile on; 0 where there is none
abbrev pub place : ProfileFault → ℕ
place (Text f) = f.place
place (Unlawful p) = p
place (Unnamed p) = p
place TooMany = 0

abbrev pub told : ProfileFault → Refused
told f = record { number = number f; cause = cause f; place = place f }
