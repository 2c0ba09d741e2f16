-- What is meant by a clause that is told by its parts: the clause of the profile.
use Rattle.std.specs.Prelude.{ℕ, List, Some, Option}
use Rattle.std.specs.Option.{option_map, option_copied}
use Rattle.syntax.specs.Value.{Value}
use Rattle.syntax.specs.Walking.{Member}
use Rattle.syntax.specs.Contents.{text}
use Rattle.walk.specs.Told.{items_left}
use Rattle.requirement.specs.Words as words
use Rattle.requirement.specs.Words.{◌of◌, scalar}
use Rattle.requirement.specs.Clause as r
use Rattle.requirement.specs.Clause.{each_read, names, get, condition_in}
use Rattle.terms.specs.declared.version.Version.{Version}
use Rattle.clause.specs.declared.asked.Comparison.{Comparison}
use Rattle.clause.specs.declared.asked.Asked.{Asked}
use Rattle.clause.specs.declared.conditions.Condition.{Condition}
use Rattle.clause.specs.declared.conditions.Test.{Test}
use Rattle.clause.specs.declared.entries.Entry.{Entry}
use Rattle.clause.specs.declared.entries.Parent.{Parent}
use Rattle.clause.specs.declared.listed.Listed.{Listed}
use Rattle.clause.specs.declared.parts.Clause.{Clause}
use Rattle.clause.specs.declared.parts.Demand.{Demand}
use Rattle.clause.specs.declared.parts.Demand.TheVariants as demand
use Rattle.clause.specs.declared.scalars.Scalar.{Scalar}
use Rattle.clause.specs.declared.scalars.Scalar.TheVariants as scalars

-- the letters of a string, if there is one
abbrev pub text_in : Option Value → Option (List ℕ)
text_in o = text of o

-- the schema names above that a condition states
abbrev pub above_under : List Member → Option (List (List ℕ))
above_under ms = option_map names (get "SubordinateToResource" ms)

-- each value reads as a condition
abbrev pub condition_read : Value → Option r.Condition
condition_read v = Some (condition_in v)

-- the items that are left and read as something; the others are passed over
abbrev pub listed_left : {T A : Type 0} → (Value → Option A) → Listed T → List A
listed_left read l = each_read read (items_left l.items)

-- a name or a word is meant by its bytes
abbrev pub scalar_shown : Scalar → words.Scalar
scalar_shown (scalars.Text s) = words.Text s.now
scalar_shown (scalars.Number n) = words.Number n
scalar_shown (scalars.Constant l) = words.Constant l

abbrev pub comparison_shown : Comparison → r.Comparison
comparison_shown c = record { operator = c.operator; values = listed_left scalar c.values }

abbrev pub asked_shown : Asked → r.Asked
asked_shown a = record { level = a.level; count = a.count; comparison = option_map comparison_shown a.comparison }

abbrev pub test_shown : Test → r.Test
test_shown t = record { property = t.property.now; word = t.word; values = listed_left scalar t.values }

abbrev pub condition_shown : Condition → r.Condition
condition_shown c = record { under = option_map (listed_left text) c.under; test = option_map test_shown c.test; asks = asked_shown c.asks }

abbrev pub entry_shown : Entry → r.Entry
entry_shown e = record {
  asks = asked_shown e.asks;
  replaced_by = option_copied e.replaced_by;
  replaces = option_copied e.replaces;
  conditions = listed_left condition_read e.conditions;
}

abbrev pub parent_shown : Parent → r.Parent
parent_shown p = record { name = p.name.now; replaced_by = option_copied p.replaced_by }

abbrev pub version_shown : Version → words.Version
version_shown v = record { major = v.major; minor = v.minor; patch = v.patch }

abbrev pub demand_shown : Demand → r.Demand
demand_shown (demand.Presence l) = r.Presence l
demand_shown (demand.Version l v) = r.Least l (version_shown v)
demand_shown (demand.Property e) = r.Property e.name.now (entry_shown e)
demand_shown (demand.Nested p e) = r.Nested (parent_shown p) e.name.now (entry_shown e)

abbrev pub clause_shown : Clause → r.Clause
clause_shown c = record { schema = c.schema.now; place = c.place; demand = demand_shown c.demand }
