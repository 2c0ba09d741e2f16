-- The clauses of a profile, counted one member after the other.
use Rattle.std.proofs.Common.{◌≡◌, ℕ, suc, ◌+◌, List, [], ◌∷◌, length, Some, None, Option, refl, ap, ◌∙◌, arith, length-append}
use lib.ListN.{length-map}
use Rattle.std.specs.Option.{option_map}
use Rattle.syntax.specs.Value.{Value}
use Rattle.syntax.specs.Walking.{Member}
use Rattle.syntax.specs.Contents.{members}
use Rattle.requirement.specs.Words as words
use Rattle.requirement.specs.Clause.{Clause, Parent, flat, properties, property_clauses, nested_clause, replaced_by_of, schema_clauses, clauses}
use Rattle.terms.specs.Stated.{version_told, version_stated, schemas_of}
use Rattle.terms.specs.declared.version.Version.{Version}
use Rattle.profile.specs.Counting.{capped, total, nested_count, property_count, own_count, schema_count}

-- a schema entry's own clauses, by what is told of its version
pub own_two : (o : Option words.Version) (x : Version) → Some x ≡ option_map version_told o → own_count o ≡ 2
own_two None x e = cc
own_two (Some v) x e = refl

pub own_one : (o : Option words.Version) → None ≡ option_map version_told o → own_count o ≡ 1
own_one None e = refl
own_one (Some v) e = cc

-- a number for each member is the length of the lists of all
total_long : {B : Type 0} (f : Member → ℕ) (g : Member → List B) → ((m : Member) → f m ≡ capped (length (g m))) → (ms : List Member) (n a : ℕ) → n ≡ capped a → total f n ms ≡ capped (a + length (flat g ms))
total_long f g h [] n a e = omega (arith, e)
total_long f g h (m ∷ ms) n a e =
    let s : capped (n + f m) ≡ capped (a + length (g m)) = omega (arith, e, h m) in
    let q : (a + length (g m)) + length (flat g ms) ≡ a + length (flat g (m ∷ ms)) = omega (arith, length-append (g m) (flat g ms)) in
    total_long f g h ms (capped (n + f m)) (a + length (g m)) s ∙ ap capped q

nested_long : (ms : List Member) (n a : ℕ) → n ≡ capped a → total nested_count n ms ≡ capped (a + length ms)
nested_long [] n a e = omega (arith, e)
nested_long (m ∷ ms) n a e =
    let s : capped (n + 1) ≡ capped (a + 1) = omega (arith, e) in
    let q : (a + 1) + length ms ≡ a + length (m ∷ ms) = omega arith in
    nested_long ms (capped (n + 1)) (a + 1) s ∙ ap capped q

property_long : (s : List ℕ) (m : Member) → property_count m ≡ capped (length (property_clauses s m))
property_long s m =
    let parent : Parent = record { name = m.name; replaced_by = replaced_by_of (members m.value) } in
    let h = length-map (properties (members m.value)) (nested_clause s parent) in
    let q : 1 + length (properties (members m.value)) ≡ length (property_clauses s m) = omega (arith, h) in
    nested_long (properties (members m.value)) 1 1 refl ∙ ap capped q

abbrev inner : Member → List Clause
inner m = flat (property_clauses m.name) (properties (members m.value))

schema_long : (m : Member) → schema_count m ≡ capped (length (schema_clauses m))
schema_long m = by (version_stated (members m.value)) refl
  where
    by : (o : Option words.Version) → version_stated (members m.value) ≡ o → schema_count m ≡ capped (length (schema_clauses m))
    by None e =
        let h : length (schema_clauses m) ≡ suc (length (inner m)) = rw e refl in
        let q : 1 + length (inner m) ≡ length (schema_clauses m) = omega (arith, h) in
        ap (λ o. total property_count (own_count o) (properties (members m.value))) e ∙ total_long property_count (property_clauses m.name) (property_long m.name) (properties (members m.value)) 1 1 refl ∙ ap capped q
    by (Some v) e =
        let h : length (schema_clauses m) ≡ suc (suc (length (inner m))) = rw e refl in
        let q : 2 + length (inner m) ≡ length (schema_clauses m) = omega (arith, h) in
        ap (λ o. total property_count (own_count o) (properties (members m.value))) e ∙ total_long property_count (property_clauses m.name) (property_long m.name) (properties (members m.value)) 2 2 refl ∙ ap capped q

pub profile_long : (v : Value) → total schema_count 0 (schemas_of v) ≡ capped (length (clauses v))
profile_long v =
    let q : 0 + length (clauses v) ≡ length (clauses v) = omega arith in
    total_long schema_count schema_clauses schema_long (schemas_of v) 0 0 refl ∙ ap capped q
