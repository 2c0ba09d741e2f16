-- The front before the last slash is the nearest path above, unless that slash is the first byte.
use Rattle.std.proofs.Common.{arith}
use Rattle.store.proofs.Cuts.{cuts_nearest, cuts_first, cuts_none, cuts_law}
use Rattle.store.proofs.paths.parent.Goals as goal

pub returns-in_err-slash-clause-above : goal.returns-in_err-slash-clause-above
returns-in_err-slash-clause-above c = rw c.from_residual.ensures (cuts_none c.args.path.now (rw c.in_err-slash.was at c.last_slash.ensures))

pub returns-in_err-slash-clause-law : goal.returns-in_err-slash-clause-law
returns-in_err-slash-clause-law c = cuts_law c.args.path.now

pub returns-in-0-clause-above : goal.returns-in-0-clause-above
returns-in-0-clause-above c = cuts_first c.args.path.now (rw c.in-0.is at c.in_ok-slash.ensures)

pub returns-in-0-clause-law : goal.returns-in-0-clause-law
returns-in-0-clause-law c = cuts_law c.args.path.now

pub returns-in_default-clause-above : goal.returns-in_default-clause-above
returns-in_default-clause-above c = cuts_nearest c.args.path.now c.in_ok-slash.slash c.in_ok-slash.ensures (omega arith)

pub returns-in_default-clause-law : goal.returns-in_default-clause-law
returns-in_default-clause-law c = cuts_law c.args.path.now
