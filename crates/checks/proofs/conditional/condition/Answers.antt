use Rattle.std.proofs.Common.{sym, ap, ◌∙◌}
use Rattle.requirement.specs.Clause.{test_word_of}
use Rattle.requirement.specs.Check.{presence}
use Rattle.walk.specs.Told.{spelled}
use Rattle.checks.proofs.Skipping.{condition_by}
use Rattle.checks.proofs.conditional.condition.Goals as goal

pub returns : goal.returns
returns c = c.object.ensures ∙ sym (condition_by (spelled c.args.value) c.presence-skip.result (c.presence-skip.ensures ∙ ap presence (c.stated_test.ensures ∙ ap test_word_of c.members_or_none.ensures)))
