-- The pairs of a store are lawful, so the sum stays small.
use Rattle.std.proofs.Common.{arith}
use Rattle.packing.proofs.Sizes.{records_step, written_fits}
use Rattle.packing.proofs.size.Goals as goal

pub overflow_add-total-in-loop-pair-2 : goal.overflow_add-total-in-loop-pair-2
overflow_add-total-in-loop-pair-2 g c =
    let fits = written_fits _ (g.met.S.Store.lawful c.args.store.now) in
    omega (arith, fits, records_step _ _ _ c.in-Some.ensures.steps)

pub loop-pair-preserved : goal.loop-pair-preserved
loop-pair-preserved g c = omega (arith, records_step _ _ _ c.in-Some.ensures.steps)
