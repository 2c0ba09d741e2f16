use Rattle.std.proofs.Common.{Some, sym, subst}
use Rattle.std.specs.Slice.ArrayWindows.{array_windows_parts}
use Rattle.std.proofs.lemmas.Bool.{both_ways}
use Rattle.names.proofs.Sorted.{Walked, walked_taken, walked_passed, walked_all}
use Rattle.names.proofs.first_beside.Goals as goal

pub loop-left-preserved-then-repeats : goal.loop-left-preserved-then-repeats
loop-left-preserved-then-repeats c =
    subst (λ n. Walked c.args.text.now c.args.names.now (array_windows_parts c.next.new.self) (Some n)) (sym c.sooner.ensures)
    (walked_taken c.args.text.now c.args.names.now _ _ _ _ c.loop-left.first c.in-Some.is c.next.ensures.steps c.loop-left.invariant (c.repeats.ensures.0 c.if-repeats.true))

pub loop-left-preserved : goal.loop-left-preserved
loop-left-preserved c =
    walked_passed c.args.text.now c.args.names.now _ _ _ _ c.loop-left.first c.in-Some.is c.next.ensures.steps c.loop-left.invariant (λ g. both_ways _ c.if-repeats.false (c.repeats.ensures.1 g))

pub returns : goal.returns
returns c = walked_all c.args.text.now c.args.names.now c.requires _ _ _ c.loop-left.first c.in-None.is c.next.ensures.steps c.loop-left.invariant
