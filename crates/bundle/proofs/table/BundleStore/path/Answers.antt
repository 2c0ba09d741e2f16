use Rattle.std.proofs.Common.{ap, ◌∙◌}
use Rattle.store.specs.Pairs as meaning
use Rattle.bundle.proofs.Opened.{path_placed}
use Rattle.bundle.proofs.table.BundleStore.path.Goals as goal

pub returns-clause-place : goal.returns-clause-place
returns-clause-place c h = ap (λ (q : meaning.Pair). q.path) c.pair.ensures ∙ path_placed c.args.self.now.bytes.now c.args.n h
