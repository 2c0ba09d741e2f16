use Rattle.std.proofs.Common.{◌≡◌, ◌+◌, drop, sym, ap, ◌∙◌, subst, arith}
use Rattle.syntax.specs.Machine.{fault, spelled}
use Rattle.syntax.specs.Steps.{Leads}
use Rattle.text.proofs.Scans.{word_on, word_out}
use Rattle.text.proofs.scan.word.Goals as goal

pub returns-then-not-stands : goal.returns-then-not-stands
returns-then-not-stands c = λ r w k.
    c.loop-n.invariant.1 r w k
    ∙ word_out r c.args.s.now (c.args.at + 1 + c.loop-n.n) c.args.rest.now c.loop-n.n w c.args.at k (omega arith) (c.stands.ensures.left c.if-not-stands.true)
    ∙ ap fault (sym c.fault.ensures)

pub loop-n-preserved : goal.loop-n-preserved
loop-n-preserved c =
    let s = c.args.s.now in
    let n = c.loop-n.n in
    let here = c.stands.ensures.taken c.if-not-stands.false in
    let next : (c.args.at + 1 + n) + 1 ≡ c.args.at + 1 + (n + 1) = omega arith in (
      omega (arith, here.0),
      λ r w k. subst (λ j. Leads r s (c.args.at + 1) (spelled c.args.rest.now w c.args.at k (c.args.at + 1)) j (spelled (drop (n + 1) c.args.rest.now) w c.args.at k j)) next
          (c.loop-n.invariant.1 r w k ∙ word_on r s (c.args.at + 1 + n) c.args.rest.now n w c.args.at k (omega arith) here.0 here.1),
    )
