-- The clauses that a profile's value spells, read off its members by name. Every reading here is total: what is not lawful reads as unstated, and
-- `Check` refuses it.
use Rattle.std.specs.Prelude.{ℕ, cond, List, [], ◌∷◌, ◌++◌, map, Some, None, codes, Option}
use Prim.Native.String.{String}
use Rattle.std.specs.Option.{option_map, unwrap_or}
use Rattle.syntax.specs.Bytes.{same}
use Rattle.syntax.specs.Value.{Value}
use Rattle.syntax.specs.Walking.{Member, find}
use Rattle.grade.specs.Grades.{Level}
use Rattle.requirement.specs.declared.words.Operator.{Operator}
use Rattle.requirement.specs.declared.words.Operator.TheVariants.{AnyOf}
use Rattle.requirement.specs.declared.words.TestWord.{TestWord}
use Rattle.requirement.specs.declared.words.TestWord.TheVariants.{Present, Absent, By}
use Rattle.syntax.specs.Contents.{text, items, members}
use Rattle.requirement.specs.Words.{lookup, ◌of◌, mandatory, not_asked, level_words, operator_words, test_words, Scalar, scalar, count, Version, version}

-- an operator with the values that it takes
pub record Comparison : Type 0 where
  pub operator : Operator
  pub values : List Scalar

-- what an entry, and a condition, asks of a property
pub record Asked : Type 0 where
  pub level : Level
  pub count : ℕ
  pub comparison : Option Comparison

-- what a condition tests of a property; `Present` and `Absent` have no values
pub record Test : Type 0 where
  pub property : List ℕ
  pub word : TestWord
  pub values : List Scalar

-- a condition: schema names above the resource, a test, and what is asked where these are met
pub record Condition : Type 0 where
  pub under : Option (List (List ℕ))
  pub test : Option Test
  pub asks : Asked

pub record Entry : Type 0 where
  pub asks : Asked
  pub replaced_by : Option (List ℕ)
  pub replaces : Option (List ℕ)
  pub conditions : List Condition

-- the property in which a nested one stands, and what replaces it
pub record Parent : Type 0 where
  pub name : List ℕ
  pub replaced_by : Option (List ℕ)

pub data Demand : Type 0 where
  Presence : Level → Demand
  Least : Level → Version → Demand
  Property : List ℕ → Entry → Demand
  Nested : Parent → List ℕ → Entry → Demand

-- A clause: the schema that it is about, the opening quote of the schema name, of `MinVersion` or of the property name, and what it demands.
pub record Clause : Type 0 where
  pub schema : List ℕ
  pub place : ℕ
  pub demand : Demand

abbrev pub clause : List ℕ → ℕ → Demand → Clause
clause s p d = record { schema = s; place = p; demand = d }

-- the value under a name, and the opening quote of the name
abbrev pub get : String → List Member → Option Value
get k ms = find (codes k) ms

abbrev pub quote_of : List ℕ → List Member → ℕ
quote_of n [] = 0
quote_of n (m ∷ ms) = cond (same m.name n) m.at (quote_of n ms)

-- something that is given, in front of a list; those of a list that read as something; lists one after the other
abbrev pub given : {A : Type 0} → Option A → List A → List A
given (Some a) r = a ∷ r
given None r = r

abbrev pub each_read : {A B : Type 0} → (A → Option B) → List A → List B
each_read f [] = []
each_read f (x ∷ xs) = given (f x) (each_read f xs)

abbrev pub flat : {A B : Type 0} → (A → List B) → List A → List B
flat f [] = []
flat f (x ∷ xs) = f x ++ flat f xs

abbrev pub members_in : Option Value → List Member
members_in (Some v) = members v
members_in None = []

abbrev pub items_in : Option Value → List Value
items_in (Some v) = items v
items_in None = []

abbrev pub scalars : Value → List Scalar
scalars v = each_read scalar (items v)

abbrev pub names : Value → List (List ℕ)
names v = each_read text (items v)

-- `ReadRequirement`, `MinCount`, or what holds where they are unstated
abbrev pub level_of : Level → List Member → Level
level_of d ms = unwrap_or (lookup level_words of (text of get "ReadRequirement" ms)) d

abbrev pub count_of : ℕ → List Member → ℕ
count_of d ms = unwrap_or (count of get "MinCount" ms) d

-- `Comparison` and `Values`; the values alone mean `AnyOf`
abbrev pub operator_of : List Member → Option Operator
operator_of ms = lookup operator_words of (text of get "Comparison" ms)

abbrev pub compared : Option Operator → Option (List Scalar) → Option Comparison
compared w (Some vs) = Some (record { operator = unwrap_or w AnyOf; values = vs })
compared w None = None

abbrev pub comparison_of : List Member → Option Comparison
comparison_of ms = compared (operator_of ms) (option_map scalars (get "Values" ms))

abbrev pub asked_of : Level → ℕ → List Member → Asked
asked_of l n ms = record { level = level_of l ms; count = count_of n ms; comparison = comparison_of ms }

-- `CompareProperty`, `CompareType` and `CompareValues`
abbrev pub test_word_of : List Member → Option TestWord
test_word_of ms = lookup test_words of (text of get "CompareType" ms)

abbrev pub test_values : TestWord → Option Value → List Scalar
test_values Present v = []
test_values Absent v = []
test_values (By o) (Some v) = scalars v
test_values (By o) None = []

abbrev pub tested : Option (List ℕ) → Option TestWord → Option Value → Option Test
tested (Some n) (Some w) v = Some (record { property = n; word = w; values = test_values w v })
tested (Some n) None v = None
tested None w v = None

abbrev pub test_of : List Member → Option Test
test_of ms = tested (text of get "CompareProperty" ms) (test_word_of ms) (get "CompareValues" ms)

-- where nothing else is stated, a condition asks for nothing
abbrev pub condition_of : List Member → Condition
condition_of ms = record { under = option_map names (get "SubordinateToResource" ms); test = test_of ms; asks = asked_of not_asked 0 ms }

abbrev pub condition_in : Value → Condition
condition_in v = condition_of (members v)

abbrev pub conditions_of : List Member → List Condition
conditions_of ms = map condition_in (items_in (get "ConditionalRequirements" ms))

abbrev pub replaced_by_of : List Member → Option (List ℕ)
replaced_by_of ms = text of get "ReplacedByProperty" ms

-- where nothing else is stated, an entry is mandatory and asks for one
abbrev pub entry_of : List Member → Entry
entry_of ms = record {
  asks = asked_of mandatory 1 ms;
  replaced_by = replaced_by_of ms;
  replaces = text of get "ReplacesProperty" ms;
  conditions = conditions_of ms;
}

abbrev pub properties : List Member → List Member
properties ms = members_in (get "PropertyRequirements" ms)

abbrev pub nested_clause : List ℕ → Parent → Member → Clause
nested_clause s p m = clause s m.at (Nested p m.name (entry_of (members m.value)))

-- a property's clause, then its nested ones
abbrev pub nested_clauses : List ℕ → List ℕ → List Member → List Clause
nested_clauses s n ms = map (nested_clause s (record { name = n; replaced_by = replaced_by_of ms })) (properties ms)

abbrev pub entry_clauses : List ℕ → ℕ → List ℕ → List Member → List Clause
entry_clauses s p n ms = clause s p (Property n (entry_of ms)) ∷ nested_clauses s n ms

abbrev pub property_clauses : List ℕ → Member → List Clause
property_clauses s m = entry_clauses s m.at m.name (members m.value)

-- the version clause, where `MinVersion` is stated
abbrev pub version_clause : List ℕ → List Member → Option Clause
version_clause s ms = option_map (λ v. clause s (quote_of (codes "MinVersion") ms) (Least (level_of mandatory ms) v)) (version of get "MinVersion" ms)

-- a schema's presence, its version, its properties
abbrev pub entries_clauses : List ℕ → ℕ → List Member → List Clause
entries_clauses s p ms = clause s p (Presence (level_of mandatory ms)) ∷ given (version_clause s ms) (flat (property_clauses s) (properties ms))

abbrev pub schema_clauses : Member → List Clause
schema_clauses m = entries_clauses m.name m.at (members m.value)

abbrev pub clauses : Value → List Clause
clauses v = flat schema_clauses (members_in (get "Resources" (members v)))
