use Rattle.std.proofs.Common.{Some, None, rules}
use Rattle.store.specs.Pairs.{FirstFound}
use Rattle.store.specs.Paths.{cuts}
use Rattle.store.proofs.First.{longest}
use Rattle.store.proofs.nearest.Goals as goal

pub returns-in-Some-find-clause-longest : goal.returns-in-Some-find-clause-longest
returns-in-Some-find-clause-longest g c =
    let found = Some c.in-Some-find.found in
    let first : FirstFound (g.S.Store.pairs c.args.store.now) (cuts c.args.path.now) found = search rules in
    longest _ _ found first

pub returns-clause-longest : goal.returns-clause-longest
returns-clause-longest g c =
    let first : FirstFound (g.S.Store.pairs c.args.store.now) (cuts c.args.path.now) None = search rules in
    longest _ _ None first
