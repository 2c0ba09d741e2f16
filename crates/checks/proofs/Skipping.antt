-- A condition, by whether its test has `CompareValues` skipped.
use Rattle.std.proofs.Common.{◌≡◌, Bool, List, [], Some, None, Option, unwrap_or, sym, refl, ap, ◌∙◌}
use Rattle.syntax.specs.Value.{Value, from}
use Rattle.syntax.specs.Walking.{Member}
use Rattle.syntax.specs.Contents.{fields, members}
use Rattle.requirement.specs.declared.fault.ProfileFault.TheVariants.{Unlawful}
use Rattle.requirement.specs.Clause.{test_word_of}
use Rattle.requirement.specs.Check.{◌then◌, each, sure, object, presence, condition_member, condition_fits, condition}

pub condition_by : (v : Value) (skip : Bool) → skip ≡ presence (test_word_of (members v)) → condition v ≡ object (each (condition_member skip)) condition_fits v
condition_by v skip e = by (fields v) refl
  where
    by : (o : Option (List Member)) → fields v ≡ o → condition v ≡ object (each (condition_member skip)) condition_fits v
    by None d = rw d refl
    by (Some ms) d =
        let k : skip ≡ presence (test_word_of ms) = e ∙ ap (λ o. presence (test_word_of (unwrap_or o []))) d in
        rw d (ap (λ b. each (condition_member b) ms then sure (condition_fits ms) (Unlawful (from v))) (sym k))
