use Rattle.std.proofs.Common.{◌≡◌, ◌<◌, length, get_or, None, sym, refl, ap, ◌∙◌, arith}
use Rattle.syntax.specs.Machine.{fault, next_digits}
use Rattle.text.proofs.Scans.{digits_on, digits_done, digits_out}
use Rattle.text.proofs.scan.number.Goals as goal
use Rattle.text.proofs.scan.number.Goals.{else-loop-end-test, then-loop-end-test+in_default}

pub loop-end-preserved : goal.loop-end-preserved
loop-end-preserved c =
    (omega arith, omega arith, λ r k. c.loop-end.invariant.2 r k ∙ digits_on r c.args.s.now c.loop-end.end c.args.at c.loop-end.so_far k c.in-Some.next (omega arith) c.loop-end-test.true (sym c.next_digits.ensures ∙ c.in-Some.is))

pub returns-then-not-may_end : goal.returns-then-not-may_end
returns-then-not-may_end c =
    let s = c.args.s.now in
    let i = c.loop-end.end in
    let g = c.loop-end.so_far in
    let stops : i < length s → next_digits g (get_or s i 0) ≡ None = elim c.loop-end-test.branch [
      | else-loop-end-test w ↦ λ h. absurd (omega (arith, w.loop-end-test.false))
      | then-loop-end-test+in_default w ↦ λ _. sym w.next_digits.ensures ∙ w.in_default.is
    ] in
    λ r k. c.loop-end.invariant.2 r k ∙ digits_out r s i c.args.at g k stops (sym c.if-not-may_end.ensures) ∙ ap fault (sym c.fault.ensures)

pub returns : goal.returns
returns c =
    let s = c.args.s.now in
    let i = c.loop-end.end in
    let g = c.loop-end.so_far in
    let stops : i < length s → next_digits g (get_or s i 0) ≡ None = elim c.loop-end-test.branch [
      | else-loop-end-test w ↦ λ h. absurd (omega (arith, w.loop-end-test.false))
      | then-loop-end-test+in_default w ↦ λ _. sym w.next_digits.ensures ∙ w.in_default.is
    ] in (
      record { kind = refl; start = refl; past = c.loop-end.invariant.0; within = c.loop-end.invariant.1 },
      λ r k.
          c.loop-end.invariant.2 r k ∙ digits_done r s i c.args.at g k stops (sym c.if-not-may_end.ensures),
    )
