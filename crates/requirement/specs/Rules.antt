-- Rules: what is lawful, and of what is not, which fault is told. A fault is told where nothing in front of it is broken.
use Rattle.std.specs.Prelude.{◌≡◌, ℕ, ◌≤◌, true, ◌⊎◌, List, ◌∷◌, length, codes, MatchBool, ◌≢◌}
use Prim.Native.String.{String}
use Rattle.std.specs.List.{AllByRecursion}
use Rattle.syntax.specs.Bytes.{contents, same}
use Rattle.syntax.specs.Value.{Value, string, array, object, Items, Members, from}
use Rattle.syntax.specs.Walking.{Member, listed, listed_items}
use Rattle.requirement.specs.declared.fault.ProfileFault.{ProfileFault}
use Rattle.requirement.specs.declared.fault.ProfileFault.TheVariants.{Unlawful, Unnamed}
use Rattle.requirement.specs.Words.{Table, nothing, row}

pub record Rule (A : Type 0) : Type 1 where
  pub lawful : A → Type 0
  pub broken : A → ProfileFault → Type 0

-- of a list: the first that breaks the rule, behind lawful ones
pub data First {A : Type 0} (r : Rule A) : List A → ProfileFault → Type 0 where
  here : {x : A} {xs : List A} {f : ProfileFault} → r.broken x f → First r (x ∷ xs) f
  later : {x : A} {xs : List A} {f : ProfileFault} → r.lawful x → First r xs f → First r (x ∷ xs) f

-- any value
abbrev pub anything : Rule Value
anything = record { lawful = λ v. Unit {0}; broken = λ v f. ⊥ }

-- a value of some kind or in some range: 14 at any other
abbrev pub being : (Value → Type 0) → Rule Value
being P = record { lawful = P; broken = λ v f. (P v → ⊥) × (f ≡ Unlawful (from v)) }

-- a string of which something holds: 14 at a value that is no string, 15 at the quote of another string
pub data StringWith (P : List ℕ → Type 0) : Value → Type 0 where
  is_string : {i j : ℕ} {s : List ℕ} → P s → StringWith P (string i j s)

abbrev pub AString : Value → Type 0
AString = StringWith (λ s. Unit {0})

pub data WrongString (P : List ℕ → Type 0) : Value → ProfileFault → Type 0 where
  no_string : {v : Value} → (AString v → ⊥) → WrongString P v (Unlawful (from v))
  other_string : {i j : ℕ} {s : List ℕ} → (P s → ⊥) → WrongString P (string i j s) (Unnamed i)

abbrev pub saying : (List ℕ → Type 0) → Rule Value
saying P = record { lawful = StringWith P; broken = WrongString P }

-- an array of so many items, each by a rule: 14 at a value that is no array or has another number of items; and then the first item's fault
abbrev pub Between : ℕ → ℕ → List Value → Type 0
Between least most vs = (least ≤ length vs) × (length vs ≤ most)

pub data ArrayOf (least most : ℕ) (r : Rule Value) : Value → Type 0 where
  is_array : {i j : ℕ} {vs : Items} → Between least most (listed_items vs) → AllByRecursion r.lawful (listed_items vs) → ArrayOf least most r (array i j vs)

pub data AnArray : Value → Type 0 where
  is_an_array : {i j : ℕ} {vs : Items} → AnArray (array i j vs)

pub data WrongArray (least most : ℕ) (r : Rule Value) : Value → ProfileFault → Type 0 where
  no_array : {v : Value} → (AnArray v → ⊥) → WrongArray least most r v (Unlawful (from v))
  other_number : {i j : ℕ} {vs : Items} → (Between least most (listed_items vs) → ⊥) → WrongArray least most r (array i j vs) (Unlawful i)
  in_item : {i j : ℕ} {vs : Items} {f : ProfileFault} → Between least most (listed_items vs) → First r (listed_items vs) f → WrongArray least most r (array i j vs) f

abbrev pub array_of : ℕ → ℕ → Rule Value → Rule Value
array_of least most r = record { lawful = ArrayOf least most r; broken = WrongArray least most r }

-- An object whose members follow a rule, which may look at them all, and which has no gap or clash: 14 at a value that is no object; then the first
-- member's fault; then 14 at the brace for a gap or clash.
pub data ObjectWith (r : List Member → Rule Member) (Whole : List Member → Type 0) : Value → Type 0 where
  is_object : {i j : ℕ} {ms : Members} → AllByRecursion (r (listed ms)).lawful (listed ms) → Whole (listed ms) → ObjectWith r Whole (object i j ms)

pub data AnObject : Value → Type 0 where
  is_an_object : {i j : ℕ} {ms : Members} → AnObject (object i j ms)

pub data WrongObject (r : List Member → Rule Member) (Whole : List Member → Type 0) : Value → ProfileFault → Type 0 where
  no_object : {v : Value} → (AnObject v → ⊥) → WrongObject r Whole v (Unlawful (from v))
  in_member : {i j : ℕ} {ms : Members} {f : ProfileFault} → First (r (listed ms)) (listed ms) f → WrongObject r Whole (object i j ms) f
  gap_or_clash : {i j : ℕ} {ms : Members} → AllByRecursion (r (listed ms)).lawful (listed ms) → (Whole (listed ms) → ⊥) → WrongObject r Whole (object i j ms) (Unlawful i)

abbrev pub object_with : (List Member → Rule Member) → (List Member → Type 0) → Rule Value
object_with r Whole = record { lawful = ObjectWith r Whole; broken = WrongObject r Whole }

-- an object of which nothing is asked as a whole
abbrev pub object_of : Rule Member → Rule Value
object_of r = object_with (λ ms. r) (λ ms. Unit {0})

-- a member by the table's row of its name: 15 at the quote of a name that the table does not have
abbrev pub Named : Table (Rule Value) → Member → Type 0
Named nothing m = ⊥
Named (row k r t) m = MatchBool (same m.name k) (r.lawful m.value) (Named t m)

abbrev pub Misnamed : Table (Rule Value) → Member → ProfileFault → Type 0
Misnamed nothing m f = f ≡ Unnamed m.at
Misnamed (row k r t) m f = MatchBool (same m.name k) (r.broken m.value f) (Misnamed t m f)

abbrev pub named_in : Table (Rule Value) → Rule Member
named_in t = record { lawful = Named t; broken = Misnamed t }

-- the member of one name, where others are skipped; members of any name
abbrev pub under : String → Rule Value → Rule Member
under k r = record {
  lawful = λ m. same m.name (codes k) ≡ true → r.lawful m.value;
  broken = λ m f. (same m.name (codes k) ≡ true) × r.broken m.value f;
}

abbrev pub valued : Rule Value → Rule Member
valued r = record { lawful = λ m. r.lawful m.value; broken = λ m f. r.broken m.value f }

-- a member that has a property's name, which does not begin with a slash: 15 at the quote before its value's fault
abbrev pub PropertyName : List ℕ → Type 0
PropertyName n = (rest : List ℕ) → contents n ≢ 47 ∷ rest

abbrev pub property_valued : Rule Value → Rule Member
property_valued r = record {
  lawful = λ m. PropertyName m.name × r.lawful m.value;
  broken = λ m f. ((PropertyName m.name → ⊥) × (f ≡ Unnamed m.at)) ⊎ (PropertyName m.name × r.broken m.value f);
}

-- a rule that does not count where something holds
abbrev pub unless : Type 0 → Rule Value → Rule Value
unless P r = record { lawful = λ v. P ⊎ r.lawful v; broken = λ v f. (P → ⊥) × r.broken v f }
