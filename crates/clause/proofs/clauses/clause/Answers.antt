use Rattle.std.proofs.Common.{sym}
use Rattle.std.proofs.lemmas.Iterator.Consumers.{nth_from_yields_List, YieldsList-from_first}
use Rattle.clause.specs.Shown.{clause_shown}
use Rattle.clause.specs.Left.{clauses_of, clauses_left}
use Rattle.clause.proofs.clauses.clause.Goals as goal

pub returns-clause-is : goal.returns-clause-is
returns-clause-is c =
    let all = YieldsList-from_first clause_shown clauses_left (clauses_of c.args.profile.now) c.of.ensures.is in
    sym (nth_from_yields_List c.nth.result c.nth.new.self c.args.number c.nth.ensures.ran all)
