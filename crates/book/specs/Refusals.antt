-- The numbers by which refusals of a book are told, their causes and their places.
use Rattle.std.specs.Prelude.{ℕ}
use Rattle.syntax.specs.Reading as text
use Rattle.refused.specs.declared.Refused.{Refused}
use Rattle.book.specs.declared.refusal.BookRefusal.{BookRefusal}
use Rattle.book.specs.declared.refusal.BookRefusal.TheVariants.{Text, NoObject, TooMany, UnlawfulPath}

abbrev pub number : BookRefusal → ℕ
number (Text f) = 9
number NoObject = 10
number TooMany = 3
number (UnlawfulPath q) = 5

-- the cause of the text's fault
abbrev pub cause : BookRefusal → ℕ
cause (Text f) = text.number f.cause
cause NoObject = 0
cause TooMany = 0
cause (UnlawfulPath q) = 0

-- the place of the text's fault, or the path's opening quote
abbrev pub place : BookRefusal → ℕ
place (Text f) = f.place
place NoObject = 0
place TooMany = 0
place (UnlawfulPath q) = q

abbrev pub told : BookRefusal → Refused
told r = record { number = number r; cause = cause r; place = place r }
