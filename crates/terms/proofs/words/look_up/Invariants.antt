use Rattle.std.proofs.Common.{◌≡◌, drop}
use Rattle.requirement.specs.Words.{lookup}
use Rattle.terms.specs.Rows.{rows}
use Rattle.terms.proofs.words.look_up.Given as goal

-- what is left decides
abbrev pub invariant-loop-name : goal.invariant-loop-name
invariant-loop-name g l = lookup (rows (drop l.name-index l.table)) l.word ≡ lookup (rows l.table) l.word
