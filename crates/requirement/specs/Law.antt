-- Which profiles are lawful and which fault any other has, in the words of the rules, and what is claimed of reading one.
use Rattle.std.specs.Prelude.{◌≡◌, ℕ, ◌<◌, ◌≤◌, true, ◌⊎◌, ◌↔◌, List, [], ◌∷◌, ◌++◌, length, ℤ, pos, Some, Ok, Err}
use Prim.Native.String.{String}
use Rattle.std.specs.List.{AllByRecursion}
use Rattle.syntax.specs.declared.kinds.Fault.{Fault}
use Rattle.syntax.specs.declared.kinds.Literal.{Literal}
use Rattle.syntax.specs.Bytes.{contents, same}
use Rattle.syntax.specs.Value.{Value}
use Rattle.syntax.specs.Value as v
use Rattle.syntax.specs.Walking.{Member, decimal, negative}
use Rattle.syntax.specs.Laws as texts
use Rattle.requirement.specs.declared.fault.ProfileFault.{ProfileFault}
use Rattle.requirement.specs.declared.fault.ProfileFault.TheVariants.{Text, TooMany}
use Rattle.requirement.specs.declared.words.Operator.{Operator}
use Rattle.requirement.specs.declared.words.Operator.TheVariants.{AnyOf, AllOf, Equal, NotEqual, GreaterThan, GreaterThanOrEqual, LessThan, LessThanOrEqual}
use Rattle.requirement.specs.declared.words.TestWord.TheVariants.{Present, Absent, By}
use Rattle.syntax.specs.Contents.{items}
use Rattle.requirement.specs.Words.{Table, nothing, row, on, level_words, operator_words, test_words, greatest, Version}
use Rattle.requirement.specs.Clause.{Clause, clauses, get, operator_of, test_word_of}
use Rattle.requirement.specs.Rules.{Rule, anything, being, saying, AString, array_of, object_with, object_of, named_in, under, valued, property_valued, PropertyName, unless}
use Rattle.requirement.specs.Reading.{reading_profile, most}

-- one of the words of a table
abbrev pub WordOf : {A : Type 0} → Table A → List ℕ → Type 0
WordOf nothing s = ⊥
WordOf (row k a t) s = (same s k ≡ true) ⊎ WordOf t s

abbrev pub word_of : {A : Type 0} → Table A → Rule Value
word_of t = saying (WordOf t)

-- so many digits at most, and one at least
pub record Digits (n : ℕ) (s : List ℕ) : Type 0 where
  pub some : 1 ≤ length s
  pub few : length s ≤ n
  pub all : AllByRecursion (λ b. (48 ≤ b) × (b ≤ 57)) s

-- a whole number has one to eighteen digits after an optional minus
pub data Whole : List ℕ → ℤ → Type 0 where
  plain : {s : List ℕ} → Digits 18 s → Whole s (pos (decimal 0 s))
  minus : {s : List ℕ} → Digits 18 s → Whole (45 ∷ s) (negative (decimal 0 s))

-- a count: a whole number from 0 to 65,535
pub data ACount : Value → Type 0 where
  counts : {i j n : ℕ} {s : List ℕ} → Whole s (pos n) → n ≤ greatest → ACount (v.number i j s)

-- a string, true, false, null or a whole number
pub data AScalar : Value → Type 0 where
  literal : {i j : ℕ} {w : Literal} → AScalar (v.literal i j w)
  string : {i j : ℕ} {s : List ℕ} → AScalar (v.string i j s)
  number : {i j : ℕ} {s : List ℕ} {z : ℤ} → Whole s z → AScalar (v.number i j s)

pub data ANumber : Value → Type 0 where
  is_number : {i j : ℕ} {s : List ℕ} {z : ℤ} → Whole s z → ANumber (v.number i j s)

-- a version: two or three parts joined by dots, each one to five digits and at most 65,535; a missing third is 0
pub record Part (s : List ℕ) (n : ℕ) : Type 0 where
  pub digits : Digits 5 s
  pub value : decimal 0 s ≡ n
  pub small : n ≤ greatest

pub data VersionOf : List ℕ → Version → Type 0 where
  two : {a b : List ℕ} {x y : ℕ} → Part a x → Part b y → VersionOf (a ++ 46 ∷ b) (record { major = x; minor = y; patch = 0 })
  three : {a b c : List ℕ} {x y z : ℕ} → Part a x → Part b y → Part c z → VersionOf (a ++ 46 ∷ (b ++ 46 ∷ c)) (record { major = x; minor = y; patch = z })

pub data AVersion : Value → Type 0 where
  is_version : {i j : ℕ} {s : List ℕ} (x : Version) → VersionOf (contents s) x → AVersion (v.string i j s)

-- what an object states
abbrev pub States : String → List Member → Type 0
States k ms = (v : Value) × (get k ms ≡ Some v)

-- what an operator takes
abbrev pub OneNumber : List Value → Type 0
OneNumber vs = (v : Value) × (vs ≡ v ∷ []) × ANumber v

abbrev pub Takes : Operator → List Value → Type 0
Takes AnyOf vs = Unit {0}
Takes AllOf vs = Unit {0}
Takes Equal vs = length vs ≡ 1
Takes NotEqual vs = length vs ≡ 1
Takes GreaterThan vs = OneNumber vs
Takes GreaterThanOrEqual vs = OneNumber vs
Takes LessThan vs = OneNumber vs
Takes LessThanOrEqual vs = OneNumber vs

-- values stand under this name, and the operator takes them
abbrev pub Taken : String → Operator → List Member → Type 0
Taken k o ms = (v : Value) × (get k ms ≡ Some v) × Takes o (items v)

-- an operator that is stated has values that it takes
abbrev pub Compares : List Member → Type 0
Compares ms = (o : Operator) → operator_of ms ≡ Some o → Taken "Values" o ms

-- a condition has a test, and no other gap or clash
pub record Tests (ms : List Member) : Type 0 where
  pub some : States "SubordinateToResource" ms ⊎ States "CompareProperty" ms
  pub both : States "CompareProperty" ms ↔ States "CompareType" ms
  pub typed : States "CompareValues" ms → States "CompareType" ms
  pub tested : (o : Operator) → test_word_of ms ≡ Some (By o) → Taken "CompareValues" o ms
  pub compared : Compares ms

-- `CompareValues` is skipped
abbrev pub Skipping : List Member → Type 0
Skipping ms = (test_word_of ms ≡ Some Present) ⊎ (test_word_of ms ≡ Some Absent)

abbrev pub values : Rule Value
values = array_of 1 16 (being AScalar)

-- the members that entries and conditions have in common
abbrev pub common_members : Table (Rule Value)
common_members =
    on "ReadRequirement" (word_of level_words) (on "MinCount" (being ACount) (on "Comparison" (word_of operator_words) (on "Values" values
    (on "Purpose" anything (on "WriteRequirement" anything (on "MinSupportValues" anything nothing))))))

-- a condition
abbrev pub condition_members : List Member → Table (Rule Value)
condition_members ms =
    on "SubordinateToResource" (array_of 1 8 (being AString)) (on "CompareProperty" (saying PropertyName)
    (on "CompareType" (word_of test_words) (on "CompareValues" (unless (Skipping ms) values) common_members)))

abbrev pub condition : Rule Value
condition = object_with (λ ms. named_in (condition_members ms)) Tests

-- a property entry; on the first level it may have nested ones
abbrev pub nested_members : Table (Rule Value)
nested_members =
    on "ReplacedByProperty" (saying PropertyName) (on "ReplacesProperty" (saying PropertyName)
    (on "ConditionalRequirements" (array_of 0 16 condition) common_members))

abbrev pub nested_entry : Rule Value
nested_entry = object_with (λ ms. named_in nested_members) Compares

abbrev pub entry_members : Table (Rule Value)
entry_members = on "PropertyRequirements" (object_of (property_valued nested_entry)) nested_members

abbrev pub entry : Rule Value
entry = object_with (λ ms. named_in entry_members) Compares

-- a schema entry
abbrev pub schema_members : Table (Rule Value)
schema_members =
    on "MinVersion" (being AVersion) (on "ReadRequirement" (word_of level_words) (on "PropertyRequirements" (object_of (property_valued entry))
    (on "Repository" anything (on "Purpose" anything (on "CreateResource" anything (on "DeleteResource" anything (on "UpdateResource" anything nothing)))))))

abbrev pub schema_entry : Rule Value
schema_entry = object_of (named_in schema_members)

-- a profile: its `Resources` is an object of schema entries by schema name
abbrev pub profile : Rule Value
profile = object_of (under "Resources" (object_of (valued schema_entry)))

-- A profile is accepted exactly where its bytes are a text, the text's value is a lawful profile, and that has at most 1,024 clauses; and these are told.
pub record Accepted (s : List ℕ) (cs : List Clause) : Type 0 where
  pub value : Value
  pub text : texts.Lawful s value
  pub lawful : profile.lawful value
  pub few : length (clauses value) ≤ most
  pub are : cs ≡ clauses value

abbrev pub Accepts : Type 0
Accepts = (s : List ℕ) (cs : List Clause) → (reading_profile s ≡ Ok cs) ↔ Accepted s cs

-- A fault is told exactly where it is what the laws of texts say of bytes that are no text, or the text's value breaks the rules with this fault first, or it
-- keeps them and has too many clauses.
pub data Refused (s : List ℕ) : ProfileFault → Type 0 where
  no_text : {f : Fault} → texts.Says f.cause s f.place → Refused s (Text f)
  no_profile : {v : Value} {f : ProfileFault} → texts.Lawful s v → profile.broken v f → Refused s f
  too_many : {v : Value} → texts.Lawful s v → profile.lawful v → most < length (clauses v) → Refused s TooMany

abbrev pub Tells : Type 0
Tells = (s : List ℕ) (f : ProfileFault) → (reading_profile s ≡ Err f) ↔ Refused s f
