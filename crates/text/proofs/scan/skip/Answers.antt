use Rattle.std.proofs.Common.{◌+◌, ◌≤◌, length, sym, ap, ◌∙◌, subst, arith}
use Rattle.std.specs.List.{prefix_len}
use Rattle.syntax.specs.Bytes.{white}
use Rattle.syntax.proofs.Gaps.{gap_solid, gap_end}
use Rattle.text.proofs.Scans.{Skipped, skipped}
use Rattle.text.proofs.scan.skip.Goals as goal
use Rattle.text.proofs.scan.skip.Goals.{After-whites, else-at-s-via-then-at-s+else-is_white, else-at-s-via-else-at-s}

here : (c : After-whites) → Skipped c.args.s.now c.args.at (c.args.at + c.whites.result)
here c = skipped c.args.s.now c.args.at c.whites.result (c.whites.ensures.is ∙ ap (prefix_len white) c.from.ensures) (subst (λ l. c.whites.result ≤ length l) c.from.ensures c.whites.ensures.within)

pub returns-then-is_white : goal.returns-then-is_white
returns-then-is_white c =
    let h = here (goal.at.returns-then-is_white c).After-whites in
    record { is = h.is; from = omega arith; within = h.within; stops = h.stops }

pub returns-else-at-s : goal.returns-else-at-s
returns-else-at-s c =
    elim c.else-at-s.branch [
      | else-at-s-via-then-at-s+else-is_white w ↦ record { is = sym (gap_solid c.args.s.now c.args.at w.if-at-s.true (sym w.is_white.ensures ∙ w.if-is_white.false)); from = omega arith; within = λ h. h; stops = λ h. sym w.is_white.ensures ∙ w.if-is_white.false }
      | else-at-s-via-else-at-s w ↦ record { is = sym (gap_end c.args.s.now c.args.at (omega (arith, w.if-at-s.false))); from = omega arith; within = λ h. h; stops = λ h. absurd (omega (arith, w.if-at-s.false)) }
    ]
