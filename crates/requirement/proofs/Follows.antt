-- The check of each part of a profile follows the part's rule.
use Rattle.std.proofs.Common.{◌≡◌, ℕ, Bool, true, false, cond, not, eqb, ◌⊎◌, List, [], ◌∷◌, is_some, Some, codes, Decides, refl, ap, inl, inr}
use Rattle.std.proofs.lemmas.Bool.{both_ways}
use Rattle.std.proofs.lemmas.Bool.Decides.{Decides-like, Decides-not, Decides-eqb}
use Rattle.syntax.specs.Bytes.{contents, same}
use Rattle.syntax.specs.Value.{Value}
use Rattle.syntax.specs.Value as v
use Rattle.syntax.specs.Walking.{Member}
use Rattle.requirement.specs.declared.fault.ProfileFault.TheVariants.{Unnamed}
use Rattle.requirement.specs.declared.words.CommonMember.{CommonMember}
use Rattle.requirement.specs.declared.words.ConditionMember.TheVariants as n
use Rattle.requirement.specs.declared.words.EntryMember.TheVariants as e
use Rattle.syntax.specs.Contents.{text}
use Rattle.requirement.specs.Words.{Table, nothing, row, lookup, level_words, operator_words, test_words, count, scalar, version}
use Rattle.requirement.specs.Clause.{test_word_of}
use Rattle.requirement.specs.Check as check
use Rattle.requirement.specs.Check.{Check, want, starts_with_slash, property_name, presence}
use Rattle.requirement.specs.Rules.{Rule, AString, is_string, being, saying, named_in, object_of, valued, property_valued, PropertyName, under}
use Rattle.requirement.specs.Law as law
use Rattle.requirement.specs.Law.{WordOf, word_of}
use Rattle.requirement.proofs.Numbers.{count_decides, scalar_decides}
use Rattle.requirement.proofs.Versions.{version_decides}
use Rattle.requirement.proofs.Fits.{compares_decides, tests_decides, skipping_decides}
use Rattle.requirement.proofs.Verdicts.{Follows, sured, thened, anythinged, wanted, stringed, arrayed, objected, plain_object, undered, unlessed, Rows, rowed, unnamed, tabled, relabelled}

-- words and names
word_decides : {A : Type 0} (t : Table A) (s : List ℕ) → Decides (is_some (lookup t s)) (WordOf t s)
word_decides nothing s = (λ e. absurd (both_ways false refl e), λ x. absurd x)
word_decides {A} (row k a t) s = go (same s k) (word_decides t s)
  where
    go : (b : Bool) → Decides (is_some (lookup t s)) (WordOf t s) → Decides (is_some (cond b (Some a) (lookup t s))) ((b ≡ true) ⊎ WordOf t s)
    go true rest = (λ _. inl refl, λ _. refl)
    go false rest = (λ f. inr (rest.0 f), elim [ inl e ↦ absurd (both_ways false refl e) | inr q ↦ rest.1 q ])

worded : {A : Type 0} (t : Table A) → Follows (check.word t) (word_of t)
worded t = stringed (λ s. is_some (lookup t s)) (WordOf t) (word_decides t)

slash_decides : (s : List ℕ) → Decides (not (starts_with_slash s)) ((rest : List ℕ) → s ≡ 47 ∷ rest → ⊥)
slash_decides [] = (λ _ rest e. both_ways true (ap empty e) refl, λ _. refl)
  where
    empty : List ℕ → Bool
    empty [] = true
    empty (x ∷ xs) = false
slash_decides (b ∷ s) = Decides-like (not (eqb b 47)) (λ no' rest e. no' (let h : b ≡ 47 = cc in h)) (λ no' e. no' s (ap (λ x. x ∷ s) e)) (Decides-not (eqb b 47) (Decides-eqb b 47))

property_name_decides : (n : List ℕ) → Decides (property_name n) (PropertyName n)
property_name_decides n = slash_decides (contents n)

propertied : Follows check.property (saying PropertyName)
propertied = stringed property_name PropertyName property_name_decides

text_decides : (x : Value) → Decides (is_some (text x)) (AString x)
text_decides (v.literal i j w) = (λ e. absurd (both_ways false refl e), elim [ ])
text_decides (v.number i j n) = (λ e. absurd (both_ways false refl e), elim [ ])
text_decides (v.string i j s) = (λ _. is_string tt, λ _. refl)
text_decides (v.array i j vs) = (λ e. absurd (both_ways false refl e), elim [ ])
text_decides (v.object i j ms) = (λ e. absurd (both_ways false refl e), elim [ ])

values_follow : Follows check.values law.values
values_follow = arrayed 1 16 (want scalar) (being law.AScalar) (wanted scalar law.AScalar scalar_decides)

-- the members in common, under another name
common_follow : Follows (check.named (lookup check.common_names) check.common_part) (named_in law.common_members)
common_follow = tabled check.common_part check.common_names law.common_members (
  refl,
  worded level_words,
  (
    refl,
    wanted count law.ACount count_decides,
    (
      refl,
      worded operator_words,
      (
        refl,
        values_follow,
        (refl, anythinged, (refl, anythinged, (refl, anythinged, unnamed check.common_part))),
      ),
    ),
  ),
)

common_under : {K : Type 0} (part : K → Value → Check) (f : CommonMember → K) → ((k : CommonMember) (v : Value) → check.common_part k v ≡ part (f k) v) →
    Follows (check.named (λ n. check.mapped_common f n) part) (named_in law.common_members)
common_under part f same_part = relabelled part check.common_part f (lookup check.common_names) law.common_members same_part common_follow

-- conditions
condition_member_follows : (ms : List Member) → Follows (check.condition_member (presence (test_word_of ms))) (named_in (law.condition_members ms))
condition_member_follows ms =
    let part = check.condition_part (presence (test_word_of ms)) in
    rowed part (check.mapped_common n.Common) check.own_condition_names (law.condition_members ms) (
      refl,
      arrayed 1 8 (want text) (being AString) (wanted text AString text_decides),
      (
        refl,
        propertied,
        (
          refl,
          worded test_words,
          (refl, unlessed (presence (test_word_of ms)) check.values law.values (skipping_decides ms) values_follow, common_under part n.Common (λ _ _. refl)),
        ),
      ),
    )

condition_follows : Follows check.condition law.condition
condition_follows = objected (λ ms. check.condition_member (presence (test_word_of ms))) check.condition_fits (λ ms. named_in (law.condition_members ms)) law.Tests condition_member_follows tests_decides

-- entries by property name
property_map_follows : (h : Value → Check) (r : Rule Value) → Follows h r → Follows (check.property_map h) (object_of (property_valued r))
property_map_follows h r a = plain_object (check.property_member h) (property_valued r) (λ m. thened (sured (property_name m.name) (Unnamed m.at) (property_name_decides m.name)) (λ _. a m.value))

nested_rows : (inner : Value → Check) → Rows (check.entry_part inner) check.own_nested_names law.nested_members (λ end. Follows (check.named (check.mapped_common e.Common) (check.entry_part inner)) (named_in end))
nested_rows inner = (refl, propertied, (refl, propertied, (refl, arrayed 0 16 check.condition law.condition condition_follows, common_under (check.entry_part inner) e.Common (λ _ _. refl))))

nested_entry_follows : Follows check.nested_entry law.nested_entry
nested_entry_follows = objected (λ ms. check.nested_member) check.comparison_fits (λ ms. named_in law.nested_members) law.Compares
    (λ ms. rowed (check.entry_part check.skipped) (check.mapped_common e.Common) check.own_nested_names law.nested_members (nested_rows check.skipped)) compares_decides

entry_follows : Follows check.entry law.entry
entry_follows =
    let inner = check.property_map check.nested_entry in
    objected (λ ms. check.entry_member) check.comparison_fits (λ ms. named_in law.entry_members) law.Compares
    (λ ms. rowed (check.entry_part inner) (check.mapped_common e.Common) check.own_entry_names law.entry_members
    (refl, property_map_follows check.nested_entry law.nested_entry nested_entry_follows, nested_rows inner)) compares_decides

-- schema entries
schema_follows : Follows check.schema law.schema_entry
schema_follows = plain_object check.schema_member (named_in law.schema_members) (tabled check.schema_part check.schema_names law.schema_members (
  refl,
  wanted version law.AVersion version_decides,
  (
    refl,
    worded level_words,
    (
      refl,
      property_map_follows check.entry law.entry entry_follows,
      (refl, anythinged, (refl, anythinged, (refl, anythinged, (refl, anythinged, (refl, anythinged, unnamed check.schema_part))))),
    ),
  ),
))

resources_follow : Follows check.resources (object_of (valued law.schema_entry))
resources_follow = plain_object check.resources_member (valued law.schema_entry) (λ m. schema_follows m.value)

pub profile_follows : Follows check.profile law.profile
profile_follows = plain_object check.profile_member (under "Resources" (object_of (valued law.schema_entry))) (λ m. undered (same m.name (codes "Resources")) (resources_follow m.value))
