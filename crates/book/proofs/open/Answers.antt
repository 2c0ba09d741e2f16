use Rattle.book.proofs.Books.{passes, lawful_store}
use Rattle.book.proofs.open.Goals as goal

pub invariant_of-result : goal.invariant_of-result
invariant_of-result c = record { in_range = c.fill-count.ensures.within; keeps = c.fill-count.ensures.keeps; lawful = lawful_store _ }

pub returns-clause-passes : goal.returns-clause-passes
returns-clause-passes c = passes

pub returns-clause-lawful : goal.returns-clause-lawful
returns-clause-lawful c = lawful_store
