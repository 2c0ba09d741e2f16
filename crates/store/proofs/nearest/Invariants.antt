-- What the paths left to look for give is what those above the path give.
use Rattle.std.proofs.Common.{ℕ, Option}
use Rattle.store.specs.Pairs.{FirstFound}
use Rattle.store.specs.Paths.{cuts}
use Rattle.store.proofs.nearest.Given as goal

abbrev pub invariant-loop-above : goal.invariant-loop-above
invariant-loop-above g l =
    (r : Option ℕ) → FirstFound (g.S.Store.pairs l.store) l.above-iterator r → FirstFound (g.S.Store.pairs l.store) (cuts l.path) r
