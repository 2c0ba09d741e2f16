-- What a profile is refused for: one walk in text order, an object's own gaps and clashes after its members. The first fault is told.
use Rattle.std.specs.Prelude.{ℕ, Bool, true, false, cond, not, ◌&&◌, ◌||◌, List, [], ◌∷◌, length, is_some, Some, None, Ok, Err, codes, Option, Result, ◌==◌, nat_le}
use Prim.Native.String.{String}
use Rattle.std.specs.Option.{option_map, option_or}
use Rattle.syntax.specs.Bytes.{contents, same}
use Rattle.syntax.specs.Value.{Value, from}
use Rattle.syntax.specs.Walking.{Member}
use Rattle.requirement.specs.declared.fault.ProfileFault.{ProfileFault}
use Rattle.requirement.specs.declared.fault.ProfileFault.TheVariants.{Unlawful, Unnamed}
use Rattle.requirement.specs.declared.words.Operator.{Operator}
use Rattle.requirement.specs.declared.words.Operator.TheVariants.{AnyOf, AllOf, Equal, NotEqual, GreaterThan, GreaterThanOrEqual, LessThan, LessThanOrEqual}
use Rattle.requirement.specs.declared.words.TestWord.{TestWord}
use Rattle.requirement.specs.declared.words.TestWord.TheVariants.{Present, Absent, By}
use Rattle.requirement.specs.declared.words.CommonMember.{CommonMember}
use Rattle.requirement.specs.declared.words.CommonMember.TheVariants as c
use Rattle.requirement.specs.declared.words.ConditionMember.{ConditionMember}
use Rattle.requirement.specs.declared.words.ConditionMember.TheVariants as n
use Rattle.requirement.specs.declared.words.EntryMember.{EntryMember}
use Rattle.requirement.specs.declared.words.EntryMember.TheVariants as e
use Rattle.requirement.specs.declared.words.SchemaMember.{SchemaMember}
use Rattle.requirement.specs.declared.words.SchemaMember.TheVariants as s
use Rattle.syntax.specs.Contents.{text, elements, fields, items, whole_number}
use Rattle.requirement.specs.Words.{Table, nothing, on, lookup, level_words, operator_words, test_words, count, scalar, version}
use Rattle.requirement.specs.Clause.{get, operator_of, test_word_of}

abbrev pub Check : Type 0
Check = Result (Unit {0}) ProfileFault

abbrev pub fine : Check
fine = Ok tt

infixr 20 ◌then◌
abbrev pub ◌then◌ : Check → Check → Check
(Ok u) then d = d
(Err f) then d = Err f

abbrev pub each : {A : Type 0} → (A → Check) → List A → Check
each h [] = fine
each h (x ∷ xs) = h x then each h xs

-- a test, or this fault
abbrev pub sure : Bool → ProfileFault → Check
sure b f = cond b fine (Err f)

-- values by themselves: any; one that reads as something
abbrev pub skipped : Value → Check
skipped v = fine

abbrev pub want : {A : Type 0} → (Value → Option A) → Value → Check
want f v = sure (is_some (f v)) (Unlawful (from v))

-- a string of which something holds
abbrev pub a_string : (List ℕ → Bool) → Option (List ℕ) → ℕ → Check
a_string f (Some s) p = sure (f s) (Unnamed p)
a_string f None p = Err (Unlawful p)

abbrev pub string : (List ℕ → Bool) → Value → Check
string f v = a_string f (text v) (from v)

abbrev pub word : {A : Type 0} → Table A → Value → Check
word t = string (λ s. is_some (lookup t s))

-- no property name begins with a slash
abbrev pub starts_with_slash : List ℕ → Bool
starts_with_slash [] = false
starts_with_slash (b ∷ bs) = b == 47

abbrev pub property_name : List ℕ → Bool
property_name n = not (starts_with_slash (contents n))

abbrev pub property : Value → Check
property = string property_name

-- an array of so many items, and then each item
abbrev pub an_array : ℕ → ℕ → (Value → Check) → Option (List Value) → ℕ → Check
an_array least most h (Some vs) p = sure (nat_le least (length vs) && nat_le (length vs) most) (Unlawful p) then each h vs
an_array least most h None p = Err (Unlawful p)

abbrev pub array : ℕ → ℕ → (Value → Check) → Value → Check
array least most h v = an_array least most h (elements v) (from v)

-- an object's members, and then the object as a whole
abbrev pub an_object : (List Member → Check) → (List Member → Bool) → Option (List Member) → ℕ → Check
an_object h ok (Some ms) p = h ms then sure (ok ms) (Unlawful p)
an_object h ok None p = Err (Unlawful p)

abbrev pub object : (List Member → Check) → (List Member → Bool) → Value → Check
object h ok v = an_object h ok (fields v) (from v)

abbrev pub whatever : List Member → Bool
whatever ms = true

-- a member by what its name stands for, if anything
abbrev pub by : {K : Type 0} → (K → Value → Check) → Option K → Member → Check
by part (Some k) m = part k m.value
by part None m = Err (Unnamed m.at)

abbrev pub named : {K : Type 0} → (List ℕ → Option K) → (K → Value → Check) → Member → Check
named names part m = by part (names m.name) m

-- what a comparison's operator takes: one value for `Equal` and `NotEqual`, one whole number for the orders
abbrev pub one : List Value → Bool
one vs = length vs == 1

abbrev pub one_number : List Value → Bool
one_number [] = false
one_number (v ∷ vs) = is_some (whole_number v) && length vs == 0

abbrev pub takes : Operator → List Value → Bool
takes AnyOf vs = true
takes AllOf vs = true
takes Equal vs = one vs
takes NotEqual vs = one vs
takes GreaterThan vs = one_number vs
takes GreaterThanOrEqual vs = one_number vs
takes LessThan vs = one_number vs
takes LessThanOrEqual vs = one_number vs

-- no operator without values (a gap), and no values that it does not take (a clash)
abbrev pub fits : Option Operator → Option (List Value) → Bool
fits None vs = true
fits (Some o) None = false
fits (Some o) (Some vs) = takes o vs

abbrev pub comparison_fits : List Member → Bool
comparison_fits ms = fits (operator_of ms) (option_map items (get "Values" ms))

-- the operator of a test that compares
abbrev pub comparing : Option TestWord → Option Operator
comparing None = None
comparing (Some Present) = None
comparing (Some Absent) = None
comparing (Some (By o)) = Some o

abbrev pub test_fits : List Member → Bool
test_fits ms = fits (comparing (test_word_of ms)) (option_map items (get "CompareValues" ms))

abbrev pub states : String → List Member → Bool
states k ms = is_some (get k ms)

abbrev pub alike : Bool → Bool → Bool
alike true b = b
alike false b = not b

-- a condition has a test; `CompareProperty` and `CompareType` stand together; no `CompareValues` without `CompareType`; operators and values
abbrev pub condition_fits : List Member → Bool
condition_fits ms =
    (states "SubordinateToResource" ms || states "CompareProperty" ms)
    && alike (states "CompareProperty" ms) (states "CompareType" ms)
    && (not (states "CompareValues" ms) || states "CompareType" ms)
    && test_fits ms
    && comparison_fits ms

-- `CompareValues` is skipped where `CompareType` is `Present` or `Absent`
abbrev pub presence : Option TestWord → Bool
presence None = false
presence (Some Present) = true
presence (Some Absent) = true
presence (Some (By o)) = false

abbrev pub values : Value → Check
values = array 1 16 (want scalar)

abbrev pub unless : Bool → (Value → Check) → Value → Check
unless b h v = cond b fine (h v)

-- the members that entries and conditions have in common
abbrev pub common_names : Table CommonMember
common_names =
    on "ReadRequirement" c.ReadRequirement (on "MinCount" c.MinCount (on "Comparison" c.Comparison (on "Values" c.Values
    (on "Purpose" c.Skipped (on "WriteRequirement" c.Skipped (on "MinSupportValues" c.Skipped nothing))))))

abbrev pub common_part : CommonMember → Value → Check
common_part c.ReadRequirement = word level_words
common_part c.MinCount = want count
common_part c.Comparison = word operator_words
common_part c.Values = values
common_part c.Skipped = skipped

-- own names and then the common ones
abbrev pub mapped_common : {K : Type 0} → (CommonMember → K) → List ℕ → Option K
mapped_common f n = option_map f (lookup common_names n)

abbrev pub own_or_common : {K : Type 0} → Table K → (CommonMember → K) → List ℕ → Option K
own_or_common own f n = option_or (lookup own n) (mapped_common f n)

-- a condition
abbrev pub own_condition_names : Table ConditionMember
own_condition_names =
    on "SubordinateToResource" n.SubordinateToResource (on "CompareProperty" n.CompareProperty
    (on "CompareType" n.CompareType (on "CompareValues" n.CompareValues nothing)))

abbrev pub condition_name : List ℕ → Option ConditionMember
condition_name = own_or_common own_condition_names n.Common

abbrev pub condition_part : Bool → ConditionMember → Value → Check
condition_part skip n.SubordinateToResource = array 1 8 (want text)
condition_part skip n.CompareProperty = property
condition_part skip n.CompareType = word test_words
condition_part skip n.CompareValues = unless skip values
condition_part skip (n.Common k) = common_part k

abbrev pub condition_member : Bool → Member → Check
condition_member skip = named condition_name (condition_part skip)

abbrev pub condition : Value → Check
condition = object (λ ms. each (condition_member (presence (test_word_of ms))) ms) condition_fits

-- a property entry; on the first level it may have properties inside
abbrev pub own_nested_names : Table EntryMember
own_nested_names =
    on "ReplacedByProperty" e.ReplacedByProperty (on "ReplacesProperty" e.ReplacesProperty
    (on "ConditionalRequirements" e.ConditionalRequirements nothing))

abbrev pub own_entry_names : Table EntryMember
own_entry_names = on "PropertyRequirements" e.PropertyRequirements own_nested_names

abbrev pub nested_name : List ℕ → Option EntryMember
nested_name = own_or_common own_nested_names e.Common

abbrev pub entry_name : List ℕ → Option EntryMember
entry_name = own_or_common own_entry_names e.Common

abbrev pub entry_part : (Value → Check) → EntryMember → Value → Check
entry_part inner (e.Common k) = common_part k
entry_part inner e.ReplacedByProperty = property
entry_part inner e.ReplacesProperty = property
entry_part inner e.ConditionalRequirements = array 0 16 condition
entry_part inner e.PropertyRequirements = inner

-- an object of entries by property name
abbrev pub property_member : (Value → Check) → Member → Check
property_member h m = sure (property_name m.name) (Unnamed m.at) then h m.value

abbrev pub property_map : (Value → Check) → Value → Check
property_map h = object (λ ms. each (property_member h) ms) whatever

abbrev pub nested_member : Member → Check
nested_member = named nested_name (entry_part skipped)

abbrev pub nested_entry : Value → Check
nested_entry = object (λ ms. each nested_member ms) comparison_fits

abbrev pub entry_member : Member → Check
entry_member = named entry_name (entry_part (property_map nested_entry))

abbrev pub entry : Value → Check
entry = object (λ ms. each entry_member ms) comparison_fits

-- a schema entry
abbrev pub schema_names : Table SchemaMember
schema_names =
    on "MinVersion" s.MinVersion (on "ReadRequirement" s.ReadRequirement (on "PropertyRequirements" s.PropertyRequirements
    (on "Repository" s.Skipped (on "Purpose" s.Skipped (on "CreateResource" s.Skipped (on "DeleteResource" s.Skipped (on "UpdateResource" s.Skipped nothing)))))))

abbrev pub schema_part : SchemaMember → Value → Check
schema_part s.MinVersion = want version
schema_part s.ReadRequirement = word level_words
schema_part s.PropertyRequirements = property_map entry
schema_part s.Skipped = skipped

abbrev pub schema_member : Member → Check
schema_member = named (lookup schema_names) schema_part

abbrev pub schema : Value → Check
schema = object (λ ms. each schema_member ms) whatever

-- the schema entries, whatever their names
abbrev pub resources_member : Member → Check
resources_member m = schema m.value

abbrev pub resources : Value → Check
resources = object (λ ms. each resources_member ms) whatever

-- a profile: other top members are skipped
abbrev pub profile_member : Member → Check
profile_member m = cond (same m.name (codes "Resources")) (resources m.value) fine

abbrev pub profile : Value → Check
profile = object (λ ms. each profile_member ms) whatever
