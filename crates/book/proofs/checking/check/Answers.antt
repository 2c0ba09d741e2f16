use Rattle.book.proofs.Books.{passes, tells}
use Rattle.book.proofs.checking.check.Goals as goal

pub returns-clause-passes : goal.returns-clause-passes
returns-clause-passes c = passes

pub returns-clause-tells : goal.returns-clause-tells
returns-clause-tells c = tells
