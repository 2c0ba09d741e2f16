use Rattle.std.proofs.Common.{◌+◌, Some, sym, ◌∙◌, ap, subst, arith}
use Rattle.std.proofs.ByRecursion.{has_get_or}
use Rattle.std.proofs.lemmas.Bool.{both_ways}
use Rattle.names.proofs.Each.{FirstBelow, below_taken, below_passed, below_all}
use Rattle.names.proofs.first_of_few.Goals as goal
use Rattle.names.proofs.first_of_few.Goals.{then-repeats_any, else-repeats_any}

pub loop-name-preserved : goal.loop-name-preserved
loop-name-preserved c =
    let s = c.args.text.now in
    let ns = c.args.names.now in
    let i = c.loop-name.name-index in
    elim c.if-repeats_any.branch [
      | then-repeats_any w ↦
          let e = c.repeats_any.ensures.0 w.if-repeats_any.true in
          subst (FirstBelow s ns (i + 1)) (sym (w.first-is ∙ ap Some w.sooner.ensures))
          (below_taken s ns i c.loop-name.first (record { there = has_get_or ns i _ (omega arith); earlier = e.0; earlier_there = e.1; again = e.2 }) c.loop-name.invariant)
      | else-repeats_any w ↦
          subst (FirstBelow s ns (i + 1)) (sym w.first-is)
          (below_passed s ns i c.loop-name.first (λ r. both_ways _ w.if-repeats_any.false (c.repeats_any.ensures.1 (r.earlier, r.earlier_there, r.again))) c.loop-name.invariant)
    ]

pub returns : goal.returns
returns c = below_all c.args.text.now c.args.names.now c.loop-name.name-index c.loop-name.first (omega arith) c.loop-name.invariant
