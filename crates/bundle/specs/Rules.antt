-- The numbers of the rules, and how a refusal is told.
use Rattle.std.specs.Prelude.{ℕ}
use Rattle.refused.specs.declared.Refused.{Refused}
use Rattle.bundle.specs.declared.rules.Rule.{Rule}
use Rattle.bundle.specs.declared.rules.Rule.TheVariants.{TooLong, Head, TooMany, CutShort, UnlawfulPath, RepeatedPath, LongBody, LeftOver}
use Rattle.bundle.specs.declared.rules.Refusal.{Refusal}

abbrev pub number : Rule → ℕ
number TooLong = 1
number Head = 2
number TooMany = 3
number CutShort = 4
number UnlawfulPath = 5
number RepeatedPath = 6
number LongBody = 7
number LeftOver = 8

-- with the rule's number and the place; no text is at fault
abbrev pub telling : Refusal → Refused
telling r = record { number = number r.rule; cause = 0; place = r.place }
