-- The words of a profile, and what a value of a profile says: each a partial reading, `None` where the value is of another kind or out of range.
use Rattle.std.specs.Prelude.{ℕ, Bool, true, false, cond, List, [], ◌∷◌, length, ℤ, pos, negsuc, Some, None, codes, Option, ◌==◌, nat_le}
use Prim.Native.String.{String}
use Rattle.std.specs.Option.{option_map}
use Rattle.syntax.specs.declared.kinds.Literal.{Literal}
use Rattle.syntax.specs.Bytes.{contents, same}
use Rattle.syntax.specs.Value.{Value, literal, number, string, array, object}
use Rattle.syntax.specs.Walking.{natural, whole}
use Rattle.syntax.specs.Contents.{text, whole_number}
use Rattle.grade.specs.declared.Grade.TheVariants.{Clear, Note, Hold}
use Rattle.grade.specs.Grades.{Level, level}
use Rattle.requirement.specs.declared.words.Operator.{Operator}
use Rattle.requirement.specs.declared.words.Operator.TheVariants.{AnyOf, AllOf, Equal, NotEqual, GreaterThan, GreaterThanOrEqual, LessThan, LessThanOrEqual}
use Rattle.requirement.specs.declared.words.TestWord.{TestWord}
use Rattle.requirement.specs.declared.words.TestWord.TheVariants.{Present, Absent, By}

-- a table of names or words with what they stand for; the first row that says the same counts
pub data Table {ℓ} (A : Type ℓ) : Type ℓ where
  nothing : Table A
  row : List ℕ → A → Table A → Table A

abbrev pub on {ℓ} : {A : Type ℓ} → String → A → Table A → Table A
on s a t = row (codes s) a t

abbrev pub lookup : {A : Type 0} → Table A → List ℕ → Option A
lookup nothing n = None
lookup (row k a t) n = cond (same n k) (Some a) (lookup t n)

infixr 30 ◌of◌
abbrev pub ◌of◌ : {A B : Type 0} → (A → Option B) → Option A → Option B
f of (Some a) = f a
f of None = None

-- what a level word stands for: a grade for absent, a grade for unmet
abbrev pub mandatory : Level
mandatory = level Hold Hold

abbrev pub not_asked : Level
not_asked = level Clear Clear

abbrev pub level_words : Table Level
level_words = on "Mandatory" mandatory (on "Recommended" (level Note Note) (on "IfImplemented" (level Clear Hold) (on "Conditional" not_asked (on "None" not_asked nothing))))

abbrev pub operator_words : Table Operator
operator_words =
    on "AnyOf" AnyOf (on "AllOf" AllOf (on "Equal" Equal (on "NotEqual" NotEqual
    (on "GreaterThan" GreaterThan (on "GreaterThanOrEqual" GreaterThanOrEqual (on "LessThan" LessThan (on "LessThanOrEqual" LessThanOrEqual nothing)))))))

-- a test has two words more
abbrev pub test_words : Table TestWord
test_words =
    on "Present" Present (on "Absent" Absent
    (on "AnyOf" (By AnyOf) (on "AllOf" (By AllOf) (on "Equal" (By Equal) (on "NotEqual" (By NotEqual)
    (on "GreaterThan" (By GreaterThan) (on "GreaterThanOrEqual" (By GreaterThanOrEqual) (on "LessThan" (By LessThan) (on "LessThanOrEqual" (By LessThanOrEqual) nothing)))))))))

-- the most that a count, and a part of a version, may be
abbrev pub greatest : ℕ
greatest = 65535

abbrev pub bounded : ℕ → Option ℕ
bounded n = cond (nat_le n greatest) (Some n) None

abbrev pub not_negative : ℤ → Option ℕ
not_negative (pos n) = Some n
not_negative (negsuc n) = None

abbrev pub count : Value → Option ℕ
count v = bounded of (not_negative of (whole_number v))

-- what is compared: a string, true, false, null or a whole number
pub data Scalar : Type 0 where
  Text : List ℕ → Scalar
  Number : ℤ → Scalar
  Constant : Literal → Scalar

abbrev pub scalar : Value → Option Scalar
scalar (literal i j w) = Some (Constant w)
scalar (number i j n) = option_map Number (whole n)
scalar (string i j s) = Some (Text s)
scalar (array i j vs) = None
scalar (object i j ms) = None

-- a version: two or three parts joined by dots, where a missing third is 0
pub record Version : Type 0 where
  pub major : ℕ
  pub minor : ℕ
  pub patch : ℕ

-- a byte in front of parts: a dot begins a new one
abbrev pub in_front : Bool → ℕ → List (List ℕ) → List (List ℕ)
in_front true b ps = [] ∷ ps
in_front false b [] = (b ∷ []) ∷ []
in_front false b (p ∷ ps) = (b ∷ p) ∷ ps

abbrev pub parts : List ℕ → List (List ℕ)
parts [] = [] ∷ []
parts (b ∷ bs) = in_front (b == 46) b (parts bs)

-- one to five digits, at most 65,535
abbrev pub part : List ℕ → Option ℕ
part p = cond (nat_le (length p) 5) (bounded of (natural p)) None

abbrev pub triple : Option ℕ → Option ℕ → Option ℕ → Option Version
triple (Some a) (Some b) (Some c) = Some (record { major = a; minor = b; patch = c })
triple (Some a) (Some b) None = None
triple (Some a) None c = None
triple None b c = None

abbrev pub joined : List (List ℕ) → Option Version
joined [] = None
joined (a ∷ []) = None
joined (a ∷ (b ∷ [])) = triple (part a) (part b) (Some 0)
joined (a ∷ (b ∷ (c ∷ []))) = triple (part a) (part b) (part c)
joined (a ∷ (b ∷ (c ∷ (d ∷ ps)))) = None

abbrev pub version_said : List ℕ → Option Version
version_said s = joined (parts (contents s))

abbrev pub version : Value → Option Version
version v = version_said of (text v)
