-- Clauses depend on no places but their own.
use Rattle.std.proofs.Common.{◌≡◌, ℕ, Bool, true, false, cond, List, [], ◌∷◌, ◌++◌, map, Some, None, codes, Option, unwrap_or, sym, refl, ap, ◌∙◌}
use mathlib.Core.List.{map-append}
use Prim.Native.String.{String}
use Rattle.std.specs.Option.{option_map}
use Rattle.syntax.specs.Bytes.{same}
use Rattle.syntax.specs.Value.{Value, Items, Members, none, item, end, member}
use Rattle.syntax.specs.Value as v
use Rattle.syntax.specs.Walking.{Member, find, listed, listed_items}
use Rattle.grade.specs.Grades.{Level}
use Rattle.requirement.specs.declared.words.TestWord.{TestWord}
use Rattle.requirement.specs.declared.words.TestWord.TheVariants.{Present, Absent, By}
use Rattle.syntax.specs.Contents.{text, items, members}
use Rattle.requirement.specs.Words.{◌of◌, lookup, mandatory, not_asked, level_words, operator_words, test_words, count, scalar, version, Version}
use Rattle.requirement.specs.Clause.{get, quote_of, given, each_read, flat, members_in, items_in, scalars, names, level_of, compared, asked_of, test_word_of, test_values, tested, test_of, condition_of, condition_in, conditions_of, entry_of, properties, Parent, clause, Least, Presence, Property, Nested, nested_clause, nested_clauses, entry_clauses, property_clauses, version_clause, entries_clauses, schema_clauses, clauses}
use Rattle.requirement.specs.More.{bare, bare_items, bare_members, unplaced}

abbrev plain : Member → Member
plain m = record { at = 0; name = m.name; value = bare m.value }

-- items and members
listed_items_bare : (vs : Items) → listed_items (bare_items vs) ≡ map bare (listed_items vs)
listed_items_bare none = refl
listed_items_bare (item v vs) = ap (λ r. bare v ∷ r) (listed_items_bare vs)

listed_bare : (ms : Members) → listed (bare_members ms) ≡ map plain (listed ms)
listed_bare end = refl
listed_bare (member q n v ms) = ap (λ r. record { at = 0; name = n; value = bare v } ∷ r) (listed_bare ms)

items_bare : (x : Value) → items (bare x) ≡ map bare (items x)
items_bare (v.literal i j w) = refl
items_bare (v.number i j n) = refl
items_bare (v.string i j s) = refl
items_bare (v.array i j vs) = listed_items_bare vs
items_bare (v.object i j ms) = refl

members_bare : (x : Value) → members (bare x) ≡ map plain (members x)
members_bare (v.literal i j w) = refl
members_bare (v.number i j n) = refl
members_bare (v.string i j s) = refl
members_bare (v.array i j vs) = refl
members_bare (v.object i j ms) = listed_bare ms

-- what looks at a value and not at its places
abbrev Blind : {B : Type 0} → (Value → B) → Type 0
Blind f = (x : Value) → f (bare x) ≡ f x

text_bare : Blind text
text_bare (v.literal i j w) = refl
text_bare (v.number i j n) = refl
text_bare (v.string i j s) = refl
text_bare (v.array i j vs) = refl
text_bare (v.object i j ms) = refl

count_bare : Blind count
count_bare (v.literal i j w) = refl
count_bare (v.number i j n) = refl
count_bare (v.string i j s) = refl
count_bare (v.array i j vs) = refl
count_bare (v.object i j ms) = refl

scalar_bare : Blind scalar
scalar_bare (v.literal i j w) = refl
scalar_bare (v.number i j n) = refl
scalar_bare (v.string i j s) = refl
scalar_bare (v.array i j vs) = refl
scalar_bare (v.object i j ms) = refl

version_bare : Blind version
version_bare (v.literal i j w) = refl
version_bare (v.number i j n) = refl
version_bare (v.string i j s) = refl
version_bare (v.array i j vs) = refl
version_bare (v.object i j ms) = refl

each_read_bare : {B : Type 0} (f : Value → Option B) → Blind f → (vs : List Value) → each_read f (map bare vs) ≡ each_read f vs
each_read_bare f h [] = refl
each_read_bare f h (x ∷ xs) = λ i. given (h x i) (each_read_bare f h xs i)

scalars_bare : Blind scalars
scalars_bare x = ap (each_read scalar) (items_bare x) ∙ each_read_bare scalar scalar_bare (items x)

names_bare : Blind names
names_bare x = ap (each_read text) (items_bare x) ∙ each_read_bare text text_bare (items x)

-- the value under a name
get_bare : (k : List ℕ) (ms : List Member) → find k (map plain ms) ≡ option_map bare (find k ms)
get_bare k [] = refl
get_bare k (m ∷ ms) = go (same m.name k) (get_bare k ms)
  where
    go : (b : Bool) → find k (map plain ms) ≡ option_map bare (find k ms) → cond b (Some (bare m.value)) (find k (map plain ms)) ≡ option_map bare (cond b (Some m.value) (find k ms))
    go true e = refl
    go false e = e

of_bare : {B : Type 0} (f : Value → Option B) → Blind f → (k : String) (ms : List Member) → (f of get k (map plain ms)) ≡ (f of get k ms)
of_bare f h k ms = ap (λ o. f of o) (get_bare (codes k) ms) ∙ go (get k ms)
  where
    go : (o : Option Value) → (f of (option_map bare o)) ≡ (f of o)
    go (Some x) = h x
    go None = refl

mapped_bare : {B : Type 0} (f : Value → B) → Blind f → (k : String) (ms : List Member) → option_map f (get k (map plain ms)) ≡ option_map f (get k ms)
mapped_bare f h k ms = ap (option_map f) (get_bare (codes k) ms) ∙ go (get k ms)
  where
    go : (o : Option Value) → option_map f (option_map bare o) ≡ option_map f o
    go (Some x) = ap Some (h x)
    go None = refl

-- what is asked
level_bare : (d : Level) (ms : List Member) → level_of d (map plain ms) ≡ level_of d ms
level_bare d ms = ap (λ o. unwrap_or (lookup level_words of o) d) (of_bare text text_bare "ReadRequirement" ms)

asked_bare : (l : Level) (n : ℕ) (ms : List Member) → asked_of l n (map plain ms) ≡ asked_of l n ms
asked_bare l n ms = λ i. record {
  level = level_bare l ms i;
  count = unwrap_or (of_bare count count_bare "MinCount" ms i) n;
  comparison = compared (lookup operator_words of of_bare text text_bare "Comparison" ms i) (mapped_bare scalars scalars_bare "Values" ms i);
}

-- conditions
test_values_bare : (w : TestWord) (o : Option Value) → test_values w (option_map bare o) ≡ test_values w o
test_values_bare Present o = refl
test_values_bare Absent o = refl
test_values_bare (By p) (Some x) = scalars_bare x
test_values_bare (By p) None = refl

tested_bare : (n : Option (List ℕ)) (w : Option TestWord) (o : Option Value) → tested n w (option_map bare o) ≡ tested n w o
tested_bare (Some n) (Some w) o = ap (λ vs. Some (record { property = n; word = w; values = vs })) (test_values_bare w o)
tested_bare (Some n) None o = refl
tested_bare None w o = refl

test_bare : (ms : List Member) → test_of (map plain ms) ≡ test_of ms
test_bare ms =
    (λ i. tested (of_bare text text_bare "CompareProperty" ms i) (lookup test_words of of_bare text text_bare "CompareType" ms i) (get_bare (codes "CompareValues") ms i))
    ∙ tested_bare (text of get "CompareProperty" ms) (test_word_of ms) (get "CompareValues" ms)

condition_bare : Blind condition_in
condition_bare x = ap condition_of (members_bare x) ∙ go (members x)
  where
    go : (ms : List Member) → condition_of (map plain ms) ≡ condition_of ms
    go ms = λ i. record { under = mapped_bare names names_bare "SubordinateToResource" ms i; test = test_bare ms i; asks = asked_bare not_asked 0 ms i }

map_blind : {B : Type 0} (f : Value → B) → Blind f → (vs : List Value) → map f (map bare vs) ≡ map f vs
map_blind f h [] = refl
map_blind f h (x ∷ xs) = λ i. h x i ∷ map_blind f h xs i

conditions_bare : (ms : List Member) → conditions_of (map plain ms) ≡ conditions_of ms
conditions_bare ms = ap (λ o. map condition_in (items_in o)) (get_bare (codes "ConditionalRequirements") ms) ∙ go (get "ConditionalRequirements" ms)
  where
    go : (o : Option Value) → map condition_in (items_in (option_map bare o)) ≡ map condition_in (items_in o)
    go (Some x) = ap (map condition_in) (items_bare x) ∙ map_blind condition_in condition_bare (items x)
    go None = refl

-- entries
entry_bare : (ms : List Member) → entry_of (map plain ms) ≡ entry_of ms
entry_bare ms = λ i. record {
  asks = asked_bare mandatory 1 ms i;
  replaced_by = of_bare text text_bare "ReplacedByProperty" ms i;
  replaces = of_bare text text_bare "ReplacesProperty" ms i;
  conditions = conditions_bare ms i;
}

members_in_bare : (k : String) (ms : List Member) → members_in (get k (map plain ms)) ≡ map plain (members_in (get k ms))
members_in_bare k ms = ap members_in (get_bare (codes k) ms) ∙ go (get k ms)
  where
    go : (o : Option Value) → members_in (option_map bare o) ≡ map plain (members_in o)
    go (Some x) = members_bare x
    go None = refl

-- clauses
map_over : {A B : Type 0} (f : A → B) (g : A → A) (u : B → B) → ((x : A) → f (g x) ≡ u (f x)) → (xs : List A) → map f (map g xs) ≡ map u (map f xs)
map_over f g u e [] = refl
map_over f g u e (x ∷ xs) = λ i. e x i ∷ map_over f g u e xs i

flat_over : {A B : Type 0} (f : A → List B) (g : A → A) (u : B → B) → ((x : A) → f (g x) ≡ map u (f x)) → (xs : List A) → flat f (map g xs) ≡ map u (flat f xs)
flat_over f g u e [] = refl
flat_over f g u e (x ∷ xs) = (λ i. e x i ++ flat_over f g u e xs i) ∙ sym (map-append u (f x) (flat f xs))

nested_bare : (s : List ℕ) (p : Parent) (m : Member) → nested_clause s p (plain m) ≡ unplaced (nested_clause s p m)
nested_bare s p m = ap (λ e. clause s 0 (Nested p m.name e)) (ap entry_of (members_bare m.value) ∙ entry_bare (members m.value))

nested_clauses_bare : (s n : List ℕ) (ms : List Member) → nested_clauses s n (map plain ms) ≡ map unplaced (nested_clauses s n ms)
nested_clauses_bare s n ms =
    (λ i. map (nested_clause s (record { name = n; replaced_by = of_bare text text_bare "ReplacedByProperty" ms i })) (members_in_bare "PropertyRequirements" ms i))
    ∙ map_over (nested_clause s p) plain unplaced (nested_bare s p) (properties ms)
  where
    p : Parent
    p = record { name = n; replaced_by = text of get "ReplacedByProperty" ms }

property_bare : (s : List ℕ) (m : Member) → property_clauses s (plain m) ≡ map unplaced (property_clauses s m)
property_bare s m = ap (entry_clauses s 0 m.name) (members_bare m.value) ∙ go (members m.value)
  where
    go : (ms : List Member) → entry_clauses s 0 m.name (map plain ms) ≡ map unplaced (entry_clauses s m.at m.name ms)
    go ms = λ i. clause s 0 (Property m.name (entry_bare ms i)) ∷ nested_clauses_bare s m.name ms i

quote_bare : (k : List ℕ) (ms : List Member) → quote_of k (map plain ms) ≡ 0
quote_bare k [] = refl
quote_bare k (m ∷ ms) = go (same m.name k) (quote_bare k ms)
  where
    go : (b : Bool) → quote_of k (map plain ms) ≡ 0 → cond b 0 (quote_of k (map plain ms)) ≡ 0
    go true rest = refl
    go false rest = rest

version_clause_bare : (s : List ℕ) (ms : List Member) → version_clause s (map plain ms) ≡ option_map unplaced (version_clause s ms)
version_clause_bare s ms =
    (λ i. option_map (λ v. clause s (quote_bare (codes "MinVersion") ms i) (Least (level_bare mandatory ms i) v)) (of_bare version version_bare "MinVersion" ms i))
    ∙ go (version of get "MinVersion" ms)
  where
    go : (o : Option Version) → option_map (λ v. clause s 0 (Least (level_of mandatory ms) v)) o ≡ option_map unplaced (option_map (λ v. clause s (quote_of (codes "MinVersion") ms) (Least (level_of mandatory ms) v)) o)
    go (Some x) = refl
    go None = refl

given_over : {A B : Type 0} (u : A → B) (o : Option A) (xs : List A) → given (option_map u o) (map u xs) ≡ map u (given o xs)
given_over u (Some a) xs = refl
given_over u None xs = refl

schema_bare : (m : Member) → schema_clauses (plain m) ≡ map unplaced (schema_clauses m)
schema_bare m = ap (entries_clauses s 0) (members_bare m.value) ∙ go (members m.value)
  where
    s : List ℕ
    s = m.name

    properties_bare : (ms : List Member) → flat (property_clauses s) (properties (map plain ms)) ≡ map unplaced (flat (property_clauses s) (properties ms))
    properties_bare ms = ap (flat (property_clauses s)) (members_in_bare "PropertyRequirements" ms) ∙ flat_over (property_clauses s) plain unplaced (property_bare s) (properties ms)

    go : (ms : List Member) → entries_clauses s 0 (map plain ms) ≡ map unplaced (entries_clauses s m.at ms)
    go ms =
        (λ i. clause s 0 (Presence (level_bare mandatory ms i)) ∷ given (version_clause_bare s ms i) (properties_bare ms i))
        ∙ ap (λ r. clause s 0 (Presence (level_of mandatory ms)) ∷ r) (given_over unplaced (version_clause s ms) (flat (property_clauses s) (properties ms)))

pub clauses_bare : (x : Value) → clauses (bare x) ≡ map unplaced (clauses x)
clauses_bare x =
    ap (λ ms. flat schema_clauses (members_in (get "Resources" ms))) (members_bare x)
    ∙ ap (flat schema_clauses) (members_in_bare "Resources" (members x))
    ∙ flat_over schema_clauses plain unplaced schema_bare (members_in (get "Resources" (members x)))
