-- Worked cases.
use Rattle.std.specs.Prelude.{◌≡◌, ℕ, List, [], ◌∷◌, Some, None, Ok, Err, codes, Option}
use Rattle.syntax.specs.Machine.{malformed}
use Rattle.grade.specs.declared.Grade.TheVariants.{Clear, Hold}
use Rattle.grade.specs.Grades.{level}
use Rattle.requirement.specs.declared.fault.ProfileFault.TheVariants as fault
use Rattle.requirement.specs.declared.words.TestWord.TheVariants.{Present}
use Rattle.requirement.specs.Words.{mandatory, not_asked}
use Rattle.requirement.specs.Clause.{Condition, Entry, clause, Presence, Least, Property, Nested}
use Rattle.requirement.specs.Reading.{reading_profile}
use Rattle.requirement.specs.More.{OneMoreCondition}

-- an entry that states nothing but what replaces it, and its conditions
abbrev pub entry : Option (List ℕ) → List Condition → Entry
entry r ks = record { asks = record { level = mandatory; count = 1; comparison = None }; replaced_by = r; replaces = None; conditions = ks }

-- a condition on whether P is there, that asks for nothing
abbrev pub condition : Condition
condition = record { under = None; test = Some (record { property = codes "P"; word = Present; values = [] }); asks = record { level = not_asked; count = 0; comparison = None } }

pub record Examples : Type 0 where
  pub no_clauses : reading_profile (codes "{}") ≡ Ok []
  pub presence : reading_profile (codes "{\"Resources\":{\"Chassis\":{}}}") ≡ Ok (clause (codes "Chassis") 14 (Presence mandatory) ∷ [])
  pub version : reading_profile (codes "{\"Resources\":{\"A\":{\"MinVersion\":\"1.10\",\"ReadRequirement\":\"IfImplemented\"}}}")
      ≡ Ok (clause (codes "A") 14 (Presence (level Clear Hold)) ∷ clause (codes "A") 19 (Least (level Clear Hold) (record { major = 1; minor = 10; patch = 0 })) ∷ [])
  pub property : reading_profile (codes "{\"Resources\":{\"Chassis\":{\"PropertyRequirements\":{\"Model\":{}}}}}")
      ≡ Ok (clause (codes "Chassis") 14 (Presence mandatory) ∷ clause (codes "Chassis") 49 (Property (codes "Model") (entry None [])) ∷ [])
  pub nested : reading_profile (codes "{\"Resources\":{\"A\":{\"PropertyRequirements\":{\"P\":{\"ReplacedByProperty\":\"B\",\"PropertyRequirements\":{\"Q\":{}}}}}}}")
      ≡ Ok (clause (codes "A") 14 (Presence mandatory)
      ∷ clause (codes "A") 43 (Property (codes "P") (entry (Some (codes "B")) []))
      ∷ clause (codes "A") 97 (Nested (record { name = codes "P"; replaced_by = Some (codes "B") }) (codes "Q") (entry None [])) ∷ [])
  -- `CompareValues` is skipped beside `Present`, whatever it holds
  pub skipped : reading_profile (codes "{\"Resources\":{\"A\":{\"PropertyRequirements\":{\"M\":{\"ConditionalRequirements\":[{\"CompareValues\":{},\"CompareProperty\":\"P\",\"CompareType\":\"Present\"}]}}}}}")
      ≡ Ok (clause (codes "A") 14 (Presence mandatory) ∷ clause (codes "A") 43 (Property (codes "M") (entry None (condition ∷ []))) ∷ [])
  -- one condition more, in an array that is new; white space does not count
  pub one_more : OneMoreCondition (codes "{\"Resources\":{\"A\":{\"PropertyRequirements\":{\"M\":{\"Purpose\":1}}}}}")
      (codes "{\"Resources\": {\"A\":{\"PropertyRequirements\":{\"M\":{\"ConditionalRequirements\":[{\"CompareProperty\":\"P\",\"CompareType\":\"Present\"}],\"Purpose\":1}}}}}")
  -- no text; no object
  pub no_text : reading_profile (codes "{") ≡ Err (fault.Text (malformed 1))
  pub no_object : reading_profile (codes " []") ≡ Err (fault.Unlawful 1)
  -- a word without values, told at the entry's brace; an unnamed member, at its quote, before the gap; a name that begins with a slash, before its value
  pub gap : reading_profile (codes "{\"Resources\":{\"A\":{\"PropertyRequirements\":{\"P\":{\"Comparison\":\"Equal\"}}}}}") ≡ Err (fault.Unlawful 47)
  pub unnamed : reading_profile (codes "{\"Resources\":{\"A\":{\"PropertyRequirements\":{\"P\":{\"Comparison\":\"Equal\",\"x\":1}}}}}") ≡ Err (fault.Unnamed 69)
  pub slash : reading_profile (codes "{\"Resources\":{\"A\":{\"PropertyRequirements\":{\"/P\":1}}}}") ≡ Err (fault.Unnamed 43)
  -- a word of tests is none of comparisons; a condition's gap is told before the next member
  pub no_comparison : reading_profile (codes "{\"Resources\":{\"A\":{\"PropertyRequirements\":{\"P\":{\"Comparison\":\"Present\"}}}}}") ≡ Err (fault.Unnamed 61)
  pub no_test : reading_profile (codes "{\"Resources\":{\"A\":{\"PropertyRequirements\":{\"M\":{\"ConditionalRequirements\":[{}],\"x\":1}}}}}") ≡ Err (fault.Unlawful 75)
