-- One condition more in a profile is one condition more in one of its clauses.
use Rattle.std.proofs.Common.{◌≡◌, ℕ, ◌⊎◌, List, [], ◌∷◌, map, Ok, codes, Option, unwrap_or, sym, refl, ap, ◌∙◌, subst, subst₂, inl, inr}
use Prim.Native.String.{String}
use Rattle.std.specs.Option.{option_map}
use Rattle.syntax.specs.Value.{Value}
use Rattle.syntax.specs.Grammar as texts
use Rattle.syntax.specs.Walking.{Member, listed}
use Rattle.syntax.proofs.Stands as text_laws
use Rattle.grade.specs.Grades.{Level}
use Rattle.syntax.specs.Contents.{text, items, members}
use Rattle.requirement.specs.Words.{◌of◌, lookup, mandatory, level_words, operator_words, count, version}
use Rattle.requirement.specs.Clause.{get, given, flat, members_in, items_in, scalars, level_of, compared, asked_of, condition_in, conditions_of, replaced_by_of, entry_of, properties, Parent, Clause, clause, Presence, Least, Property, nested_clause, nested_clauses, entry_clauses, property_clauses, version_clause, entries_clauses, schema_clauses, clauses}
use Rattle.requirement.specs.Reading.{reading_profile}
use Rattle.requirement.specs.More.{bare, unplaced, Inserted, Changed, Revalued, ChangedUnder, Arrays, arrays, Objects, objects, Single, single, MoreConditions, InProperties, MoreNested, MoreEntry, MoreSchema, MoreProfile, WiderEntry, property, nested, Wider, Widens}
use Rattle.requirement.proofs.Changes.{flat_changed, map_changed, map_inserted, cons_changed, given_changed}
use Rattle.requirement.proofs.Finds.{Keeps, changed_keeps, new_keeps, get_old, get_new, get_fresh}
use Rattle.requirement.proofs.Bare.{clauses_bare}
use Rattle.requirement.proofs.Accepts.{accepts}

-- what is read off members that are found alike
level_kept : (d : Level) (ms ns : List Member) → get "ReadRequirement" ms ≡ get "ReadRequirement" ns → level_of d ms ≡ level_of d ns
level_kept d ms ns e = ap (λ o. unwrap_or (lookup level_words of (text of o)) d) e

asked_kept : (d : Level) (n : ℕ) (ms ns : List Member) → get "ReadRequirement" ms ≡ get "ReadRequirement" ns → get "MinCount" ms ≡ get "MinCount" ns →
    get "Comparison" ms ≡ get "Comparison" ns → get "Values" ms ≡ get "Values" ns → asked_of d n ms ≡ asked_of d n ns
asked_kept d n ms ns e f g h = λ i. record {
  level = level_kept d ms ns e i;
  count = unwrap_or (count of f i) n;
  comparison = compared (lookup operator_words of (text of g i)) (option_map scalars (h i));
}

text_kept : (k : String) (ms ns : List Member) → get k ms ≡ get k ns → (text of get k ms) ≡ (text of get k ns)
text_kept k ms ns e = ap (λ o. text of o) e

-- an entry whose conditions alone differ
widened : (ms ns : List Member) → Keeps "ConditionalRequirements" ms ns → Inserted (conditions_of ms) (conditions_of ns) → WiderEntry (entry_of ms) (entry_of ns)
widened ms ns k more = record {
  asks = asked_kept mandatory 1 ms ns (k.found (codes "ReadRequirement") refl) (k.found (codes "MinCount") refl) (k.found (codes "Comparison") refl) (k.found (codes "Values") refl);
  replaced_by = text_kept "ReplacedByProperty" ms ns (k.found (codes "ReplacedByProperty") refl);
  replaces = text_kept "ReplacesProperty" ms ns (k.found (codes "ReplacesProperty") refl);
  conditions = more;
}

-- an entry of which only the nested ones differ
same_entry : (ms ns : List Member) → Keeps "PropertyRequirements" ms ns → entry_of ms ≡ entry_of ns
same_entry ms ns k = λ i. record {
  asks = asked_kept mandatory 1 ms ns (k.found (codes "ReadRequirement") refl) (k.found (codes "MinCount") refl) (k.found (codes "Comparison") refl) (k.found (codes "Values") refl) i;
  replaced_by = text_kept "ReplacedByProperty" ms ns (k.found (codes "ReplacedByProperty") refl) i;
  replaces = text_kept "ReplacesProperty" ms ns (k.found (codes "ReplacesProperty") refl) i;
  conditions = map condition_in (items_in (k.found (codes "ConditionalRequirements") refl i));
}

-- conditions, one more
more_items : (x y : Value) → Arrays Inserted x y → Inserted (items x) (items y)
more_items x y (arrays h) = h

one_item : (x : Value) → Single x → Inserted [] (items x)
one_item x (single {v = w}) = record { front = []; new = w; back = []; before = refl; after = refl }

more_conditions : (ms ns : List Member) → MoreConditions ms ns → Inserted (conditions_of ms) (conditions_of ns)
more_conditions ms ns (inl c) =
    subst₂ (λ a b. Inserted (map condition_in (items_in a)) (map condition_in (items_in b)))
    (sym (get_old "ConditionalRequirements" (Arrays Inserted) ms ns c)) (sym (get_new "ConditionalRequirements" (Arrays Inserted) ms ns c))
    (map_inserted condition_in (items c.old.value) (items c.new.value) (more_items c.old.value c.new.value c.how.value))
more_conditions ms ns (inr c) =
    subst₂ (λ a b. Inserted (map condition_in (items_in a)) (map condition_in (items_in b)))
    (sym c.first) (sym (get_fresh "ConditionalRequirements" Single ms ns c))
    (map_inserted condition_in [] (items c.new.value) (one_item c.new.value c.how))

conditions_keep : (ms ns : List Member) → MoreConditions ms ns → Keeps "ConditionalRequirements" ms ns
conditions_keep ms ns (inl c) = changed_keeps "ConditionalRequirements" (Arrays Inserted) ms ns c
conditions_keep ms ns (inr c) = new_keeps "ConditionalRequirements" Single ms ns c

wider : (ms ns : List Member) → MoreConditions ms ns → WiderEntry (entry_of ms) (entry_of ns)
wider ms ns h = widened ms ns (conditions_keep ms ns h) (more_conditions ms ns h)

-- a member whose value alone differs, by the members of the two values
at_members : (R : List Member → List Member → Type 0) (T : Member → Member → Type 0) →
    ((q : ℕ) (n : List ℕ) (v w : Value) → R (members v) (members w) → T (record { at = q; name = n; value = v }) (record { at = q; name = n; value = w })) →
    (a b : Member) → Revalued (Objects R) a b → T a b
at_members R T h a b r = subst (λ x. T a x) (λ i. record { at = r.at i; name = r.name i; value = b.value }) (h a.at a.name a.value b.value (inside a.value b.value r.value))
  where
    inside : (v w : Value) → Objects R v w → R (members v) (members w)
    inside v w (objects x) = x

-- members of the object under a name, of which one differs
changed_members : (k : String) (R : Value → Value → Type 0) (ms ns : List Member) → ChangedUnder k (Objects (Changed (Revalued R))) ms ns → Changed (Revalued R) (members_in (get k ms)) (members_in (get k ns))
changed_members k R ms ns c =
    subst₂ (λ a b. Changed (Revalued R) (members_in a) (members_in b))
    (sym (get_old k (Objects (Changed (Revalued R))) ms ns c)) (sym (get_new k (Objects (Changed (Revalued R))) ms ns c)) (inside c.old.value c.new.value c.how.value)
  where
    inside : (v w : Value) → Objects (Changed (Revalued R)) v w → Changed (Revalued R) (members v) (members w)
    inside v w (objects h) = h

-- a nested property
nested_wider : (s : List ℕ) (p : Parent) (a b : Member) → Revalued MoreNested a b → Wider (nested_clause s p a) (nested_clause s p b)
nested_wider s p = at_members MoreConditions (λ a b. Wider (nested_clause s p a) (nested_clause s p b))
    (λ q n v w h. record { schema = refl; place = refl; demand = nested (wider (members v) (members w) h) })

-- a property with its nested ones
same_nested : (s n : List ℕ) (ms ns : List Member) → Keeps "ConditionalRequirements" ms ns → nested_clauses s n ms ≡ nested_clauses s n ns
same_nested s n ms ns k = λ i. map (nested_clause s (record { name = n; replaced_by = text of k.found (codes "ReplacedByProperty") refl i })) (members_in (k.found (codes "PropertyRequirements") refl i))

entry_wider : (s : List ℕ) (q : ℕ) (n : List ℕ) (ms ns : List Member) → MoreConditions ms ns ⊎ InProperties MoreNested ms ns → Changed Wider (entry_clauses s q n ms) (entry_clauses s q n ns)
entry_wider s q n ms ns (inl h) = record {
  front = [];
  old = clause s q (Property n (entry_of ms));
  new = clause s q (Property n (entry_of ns));
  back = nested_clauses s n ms;
  before = refl;
  after = ap (λ r. clause s q (Property n (entry_of ns)) ∷ r) (sym (same_nested s n ms ns (conditions_keep ms ns h)));
  how = record { schema = refl; place = refl; demand = property (wider ms ns h) };
}
entry_wider s q n ms ns (inr c) =
    let k = changed_keeps "PropertyRequirements" (Objects (Changed (Revalued MoreNested))) ms ns c in
    let p : Option (List ℕ) → Parent = λ r. record { name = n; replaced_by = r } in
    let r = replaced_by_of ms in
    subst₂ (λ e x. Changed Wider (entry_clauses s q n ms) (clause s q (Property n e) ∷ map (nested_clause s (p x)) (properties ns)))
    (same_entry ms ns k) (text_kept "ReplacedByProperty" ms ns (k.found (codes "ReplacedByProperty") refl))
    (cons_changed Wider (clause s q (Property n (entry_of ms))) (nested_clauses s n ms) (map (nested_clause s (p r)) (properties ns))
    (map_changed (Revalued MoreNested) Wider (nested_clause s (p r)) (nested_wider s (p r)) (properties ms) (properties ns) (changed_members "PropertyRequirements" MoreNested ms ns c)))

property_wider : (s : List ℕ) (a b : Member) → Revalued MoreEntry a b → Changed Wider (property_clauses s a) (property_clauses s b)
property_wider s = at_members (λ ms ns. MoreConditions ms ns ⊎ InProperties MoreNested ms ns) (λ a b. Changed Wider (property_clauses s a) (property_clauses s b))
    (λ q n v w h. entry_wider s q n (members v) (members w) h)

-- a schema entry
same_version : (s : List ℕ) (ms ns : List Member) → Keeps "PropertyRequirements" ms ns → version_clause s ms ≡ version_clause s ns
same_version s ms ns k = λ i. option_map (λ v. clause s (k.quoted (codes "MinVersion") refl i) (Least (level_kept mandatory ms ns (k.found (codes "ReadRequirement") refl) i) v)) (version of k.found (codes "MinVersion") refl i)

entries_wider : (s : List ℕ) (q : ℕ) (ms ns : List Member) → InProperties MoreEntry ms ns → Changed Wider (entries_clauses s q ms) (entries_clauses s q ns)
entries_wider s q ms ns c =
    let k = changed_keeps "PropertyRequirements" (Objects (Changed (Revalued MoreEntry))) ms ns c in
    let o = version_clause s ms in
    let xs = flat (property_clauses s) (properties ms) in
    let ys = flat (property_clauses s) (properties ns) in
    subst₂ (λ l x. Changed Wider (entries_clauses s q ms) (clause s q (Presence l) ∷ given x ys))
    (level_kept mandatory ms ns (k.found (codes "ReadRequirement") refl)) (same_version s ms ns k)
    (cons_changed Wider (clause s q (Presence (level_of mandatory ms))) (given o xs) (given o ys)
    (given_changed Wider o xs ys (flat_changed (Revalued MoreEntry) Wider (property_clauses s) (property_wider s) (properties ms) (properties ns) (changed_members "PropertyRequirements" MoreEntry ms ns c))))

schema_wider : (a b : Member) → Revalued MoreSchema a b → Changed Wider (schema_clauses a) (schema_clauses b)
schema_wider = at_members (InProperties MoreEntry) (λ a b. Changed Wider (schema_clauses a) (schema_clauses b)) (λ q n v w h. entries_wider n q (members v) (members w) h)

-- a profile
profile_wider : (v w : Value) → MoreProfile v w → Changed Wider (clauses v) (clauses w)
profile_wider v w (objects {ms = ms} {ns = ns} c) =
    flat_changed (Revalued MoreSchema) Wider schema_clauses schema_wider (members_in (get "Resources" (listed ms))) (members_in (get "Resources" (listed ns))) (changed_members "Resources" MoreSchema (listed ms) (listed ns) c)

-- the clauses that two values spell
pub clauses_wider : (v w : Value) → MoreProfile (bare v) (bare w) → Changed Wider (map unplaced (clauses v)) (map unplaced (clauses w))
clauses_wider v w h = subst₂ (Changed Wider) (clauses_bare v) (clauses_bare w) (profile_wider (bare v) (bare w) h)

-- an accepted profile's clauses are those of the value that its text spells
clauses_of : (s : List ℕ) (v : Value) (cs : List Clause) → texts.Text s v → reading_profile s ≡ Ok cs → clauses v ≡ cs
clauses_of s v cs t e = let a = (accepts s cs).0 e in ap clauses (text_laws.one_value s v a.value t a.text.text) ∙ sym a.are

pub widens : Widens
widens s t cs ds m e f = subst₂ (λ a b. Changed Wider (map unplaced a) (map unplaced b)) (clauses_of s m.old cs m.before e) (clauses_of t m.new ds m.after f) (clauses_wider m.old m.new m.more)
