-- The laws.
use Rattle.bundle.proofs.Back.{reads_written_law, one_writing, shortest}
use Rattle.bundle.proofs.Refused.{first_rule}
use Rattle.bundle.proofs.reading.check.Goals as goal

pub returns-clause-written : goal.returns-clause-written
returns-clause-written c = reads_written_law

pub returns-clause-once : goal.returns-clause-once
returns-clause-once c = one_writing

pub returns-clause-first : goal.returns-clause-first
returns-clause-first c = first_rule

pub returns-clause-shortest : goal.returns-clause-shortest
returns-clause-shortest c = shortest
