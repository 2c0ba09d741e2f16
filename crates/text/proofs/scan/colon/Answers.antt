use Rattle.std.proofs.Common.{sym, refl, ap, ◌∙◌, arith}
use Rattle.std.proofs.lemmas.Bool.{cond-false, ne_eqb}
use Rattle.syntax.specs.Machine.{fault, live, colon}
use Rattle.syntax.proofs.Runs.{at_byte}
use Rattle.text.proofs.Scans.{over_gap, stuck}
use Rattle.text.proofs.scan.colon.Goals as goal

pub returns-then-not-stands : goal.returns-then-not-stands
returns-then-not-stands c =
    let s = c.args.s.now in
    let i = c.skip-i.result in
    λ r p ms q n k.
    over_gap r s c.args.at i (live (colon p ms q n) k) tt c.skip-i.ensures.is
    ∙ stuck r s i _ _ (λ h. cond-false _ _ _ (c.skip-i.ensures.stops h) ∙ cond-false _ _ _ (ne_eqb _ 58 (c.stands.ensures.left c.if-not-stands.true h))) (λ h. refl)
    ∙ ap fault (sym c.fault.ensures)

pub returns : goal.returns
returns c =
    let s = c.args.s.now in
    let i = c.skip-i.result in
    let here = c.stands.ensures.taken c.if-not-stands.false in
    (omega arith, omega (arith, here.0), λ r p ms q n k. over_gap r s c.args.at i (live (colon p ms q n) k) tt c.skip-i.ensures.is ∙ at_byte r s i 58 _ _ here.0 here.1 refl)
