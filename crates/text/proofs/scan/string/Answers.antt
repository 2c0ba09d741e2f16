use Rattle.std.proofs.Common.{◌≡◌, ◌<◌, false, ◌&&◌, eqb, length, get_or, None, sym, ap, ◌∙◌, arith, length-drop}
use Rattle.std.specs.List.{prefix_len}
use Rattle.syntax.specs.Bytes.{unescaped}
use Rattle.syntax.specs.Machine.{fault, plain, next_letters}
use Rattle.text.proofs.Scans.{chars_plain, chars_on, chars_out}
use Rattle.text.proofs.scan.string.Goals as goal
use Rattle.text.proofs.scan.string.Goals.{else-loop-i-test, then-loop-i-test+else-closes+in_default}

pub loop-i-preserved : goal.loop-i-preserved
loop-i-preserved c = (
  omega arith,
  omega arith,
  λ r e q k.
      c.loop-i.invariant.2 r e q k
      ∙ chars_on r c.args.s.now c.loop-i.i c.args.at c.loop-i.spot e q k c.in-Some.next c.loop-i.invariant.0 c.loop-i-test.true (sym c.closes.ensures ∙ c.if-closes.false) (sym c.next_letters.ensures ∙ c.in-Some.is),
)

pub returns : goal.returns
returns c =
    let s = c.args.s.now in
    let i = c.loop-i.i in
    let o = c.loop-i.spot in
    let stops : i < length s → ((plain o && eqb (get_or s i 0) 34) ≡ false) × (next_letters o (get_or s i 0) ≡ None) = elim c.loop-i-test.branch [
      | else-loop-i-test w ↦ λ h. absurd (omega (arith, w.loop-i-test.false))
      | then-loop-i-test+else-closes+in_default w ↦ λ _. (sym w.closes.ensures ∙ w.if-closes.false, sym w.next_letters.ensures ∙ w.in_default.is)
    ] in
    λ r e q k. c.loop-i.invariant.2 r e q k ∙ chars_out r s i c.args.at o e q k stops ∙ ap fault (sym c.fault.ensures)

pub loop-i-init : goal.loop-i-init
loop-i-init c = (
  omega arith,
  omega (arith, c.plain_bytes.ensures.within, ap length c.from.ensures, length-drop c.args.at c.args.s.now),
  λ r e q k. chars_plain r c.args.s.now c.args.at e q k c.plain_bytes.result (omega (arith, c.plain_bytes.ensures.is, ap (prefix_len unescaped) c.from.ensures)) c.requires,
)
