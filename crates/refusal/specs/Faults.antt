-- The faults of an inspection, by the numbers under which they are told; the cause and the place are those of a profile's fault, and 0 elsewhere.
use Rattle.std.specs.Prelude.{ℕ}
use Rattle.refused.specs.declared.Refused.{Refused}
use Rattle.requirement.specs.Faults as profile
use Rattle.refusal.specs.declared.InspectionFault.{InspectionFault}
use Rattle.refusal.specs.declared.InspectionFault.TheVariants.{NoProfile, TooManyPicks, Profile}

abbrev pub number : InspectionFault → ℕ
number NoProfile = 11
number TooManyPicks = 12
number (Profile f) = profile.number f

abbrev pub cause : InspectionFault → ℕ
cause NoProfile = 0
cause TooManyPicks = 0
cause (Profile f) = profile.cause f

abbrev pub place : InspectionFault → ℕ
place NoProfile = 0
place TooManyPicks = 0
place (Profile f) = profile.place f

abbrev pub told : InspectionFault → Refused
told f = record { number = number f; cause = cause f; place = place f }
