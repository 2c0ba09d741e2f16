-- A profile with one more condition.
use Rattle.std.specs.Prelude.{◌≡◌, ℕ, true, ◌⊎◌, List, ◌∷◌, ◌++◌, map, None, Ok, codes}
use Prim.Native.String.{String}
use Rattle.syntax.specs.Bytes.{same}
use Rattle.syntax.specs.Value.{Value, Items, Members, literal, number, string, array, object, none, item, end, member}
use Rattle.syntax.specs.Grammar.{Text}
use Rattle.syntax.specs.Walking.{Member, listed, listed_items}
use Rattle.requirement.specs.Clause.{get, Parent, Entry, Demand, Property, Nested, Clause, clause}
use Rattle.requirement.specs.Reading.{reading_profile}

-- a value without its places
abbrev mutual
  pub bare : Value → Value
  bare (literal i j w) = literal 0 0 w
  bare (number i j n) = number 0 0 n
  bare (string i j s) = string 0 0 s
  bare (array i j vs) = array 0 0 (bare_items vs)
  bare (object i j ms) = object 0 0 (bare_members ms)

  pub bare_items : Items → Items
  bare_items none = none
  bare_items (item v vs) = item (bare v) (bare_items vs)

  pub bare_members : Members → Members
  bare_members end = end
  bare_members (member q n v ms) = member 0 n (bare v) (bare_members ms)

-- one element more, anywhere; one element changed
pub record Inserted {A : Type 0} (xs ys : List A) : Type 0 where
  pub front : List A
  pub new : A
  pub back : List A
  pub before : xs ≡ front ++ back
  pub after : ys ≡ front ++ new ∷ back

pub record Changed {A : Type 0} (R : A → A → Type 0) (xs ys : List A) : Type 0 where
  pub front : List A
  pub old : A
  pub new : A
  pub back : List A
  pub before : xs ≡ front ++ old ∷ back
  pub after : ys ≡ front ++ new ∷ back
  pub how : R old new

-- a member whose value changed
pub record Revalued (R : Value → Value → Type 0) (m n : Member) : Type 0 where
  pub at : m.at ≡ n.at
  pub name : m.name ≡ n.name
  pub value : R m.value n.value

-- the first member that says a name changed its value; such a member is new
pub record ChangedUnder (k : String) (R : Value → Value → Type 0) (ms ns : List Member) : Type 0 where
  pub front : List Member
  pub old : Member
  pub new : Member
  pub back : List Member
  pub before : ms ≡ front ++ old ∷ back
  pub after : ns ≡ front ++ new ∷ back
  pub first : get k front ≡ None
  pub named : same old.name (codes k) ≡ true
  pub how : Revalued R old new

pub record NewUnder (k : String) (P : Value → Type 0) (ms ns : List Member) : Type 0 where
  pub front : List Member
  pub new : Member
  pub back : List Member
  pub before : ms ≡ front ++ back
  pub after : ns ≡ front ++ new ∷ back
  pub first : get k ms ≡ None
  pub named : same new.name (codes k) ≡ true
  pub how : P new.value

pub data Arrays (R : List Value → List Value → Type 0) : Value → Value → Type 0 where
  arrays : {i j p q : ℕ} {vs ws : Items} → R (listed_items vs) (listed_items ws) → Arrays R (array i j vs) (array p q ws)

pub data Objects (R : List Member → List Member → Type 0) : Value → Value → Type 0 where
  objects : {i j p q : ℕ} {ms ns : Members} → R (listed ms) (listed ns) → Objects R (object i j ms) (object p q ns)

pub data Single : Value → Type 0 where
  single : {i j : ℕ} {v : Value} → Single (array i j (item v none))

-- `ConditionalRequirements` has one entry more, or is new with one
abbrev pub MoreConditions : List Member → List Member → Type 0
MoreConditions ms ns = ChangedUnder "ConditionalRequirements" (Arrays Inserted) ms ns ⊎ NewUnder "ConditionalRequirements" Single ms ns

-- so in one of the entries under `PropertyRequirements`
abbrev pub InProperties : (Value → Value → Type 0) → List Member → List Member → Type 0
InProperties R = ChangedUnder "PropertyRequirements" (Objects (Changed (Revalued R)))

abbrev pub MoreNested : Value → Value → Type 0
MoreNested = Objects MoreConditions

abbrev pub MoreEntry : Value → Value → Type 0
MoreEntry = Objects (λ ms ns. MoreConditions ms ns ⊎ InProperties MoreNested ms ns)

abbrev pub MoreSchema : Value → Value → Type 0
MoreSchema = Objects (InProperties MoreEntry)

abbrev pub MoreProfile : Value → Value → Type 0
MoreProfile = Objects (ChangedUnder "Resources" (Objects (Changed (Revalued MoreSchema))))

-- The texts s and t spell the same but for places and one more condition in t.
pub record OneMoreCondition (s t : List ℕ) : Type 0 where
  pub old : Value
  pub new : Value
  pub before : Text s old
  pub after : Text t new
  pub more : MoreProfile (bare old) (bare new)

-- what it means for the clauses: one of them has one condition more
pub record WiderEntry (a b : Entry) : Type 0 where
  pub asks : a.asks ≡ b.asks
  pub replaced_by : a.replaced_by ≡ b.replaced_by
  pub replaces : a.replaces ≡ b.replaces
  pub conditions : Inserted a.conditions b.conditions

pub data WiderDemand : Demand → Demand → Type 0 where
  property : {n : List ℕ} {a b : Entry} → WiderEntry a b → WiderDemand (Property n a) (Property n b)
  nested : {p : Parent} {n : List ℕ} {a b : Entry} → WiderEntry a b → WiderDemand (Nested p n a) (Nested p n b)

pub record Wider (c d : Clause) : Type 0 where
  pub schema : c.schema ≡ d.schema
  pub place : c.place ≡ d.place
  pub demand : WiderDemand c.demand d.demand

abbrev pub unplaced : Clause → Clause
unplaced c = clause c.schema 0 c.demand

-- Where both are accepted, they have the same clauses in the same order but for one clause's conditions, which have one more.
abbrev pub Widens : Type 0
Widens = (s t : List ℕ) (cs ds : List Clause) → OneMoreCondition s t → reading_profile s ≡ Ok cs → reading_profile t ≡ Ok ds → Changed Wider (map unplaced cs) (map unplaced ds)
