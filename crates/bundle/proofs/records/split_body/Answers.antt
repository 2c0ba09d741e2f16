use Rattle.std.proofs.Common.{◌≡◌, ℕ, List, take, drop, ap, ◌∙◌, arith}
use Rattle.bundle.specs.Layout.{four}
use Rattle.bundle.specs.Rows.{body_after, behind_body}
use Rattle.bundle.proofs.Numbers.{four_taken}
use Rattle.bundle.proofs.Parts.{after_cut, after_long, after_ends, after_fine}
use Rattle.bundle.proofs.records.split_body.Goals as goal
use Rattle.bundle.proofs.records.split_body.Goals.{After-from_be_bytes-length}

-- the length that is read is the one that the bytes say
size : (c : goal.After-from_be_bytes-length) → c.from_be_bytes-length.result ≡ four c.args.behind_path.now
size c = c.from_be_bytes-length.ensures ∙ four_taken c.args.behind_path.now c.in-Some.length.now c.in-Some.ensures.cases.0

pub returns-in_default-clause-err : goal.returns-in_default-clause-err
returns-in_default-clause-err c = after_cut c.args.behind_path.now c.in_default.ensures.cases

pub returns-then-length-gt-MAX_BODY_BYTES-clause-err : goal.returns-then-length-gt-MAX_BODY_BYTES-clause-err
returns-then-length-gt-MAX_BODY_BYTES-clause-err c =
    let size = size (goal.at.returns-then-length-gt-MAX_BODY_BYTES-clause-err c).After-from_be_bytes-length in
    after_long c.args.behind_path.now (omega (arith, c.in-Some.ensures.cases.2)) (omega (arith, size))

pub returns-in_default-split_at_checked-clause-err : goal.returns-in_default-split_at_checked-clause-err
returns-in_default-split_at_checked-clause-err c =
    let size = size (goal.at.returns-in_default-split_at_checked-clause-err c).After-from_be_bytes-length in
    let long = c.in-Some.ensures.cases.2 in
    after_ends c.args.behind_path.now (omega (arith, long)) (omega (arith, size)) (omega (arith, size, long, c.in_default-split_at_checked.ensures.cases))

pub returns-clause-ok : goal.returns-clause-ok
unfolding body_after behind_body
returns-clause-ok c =
    let t = c.args.behind_path.now in
    let size = size (goal.at.returns-clause-ok c).After-from_be_bytes-length in
    let long = c.in-Some.ensures.cases.2 in
    let rest = c.in-Some.ensures.cases.1 in
    let cut = c.in-Some-split_at_checked.ensures.cases in (
      after_fine t (omega (arith, long)) (omega (arith, size)) (omega (arith, size, long, cut.0)),
      cut.1 ∙ ap (λ (r : List ℕ). take c.from_be_bytes-length.result r) rest ∙ ap (λ (n : ℕ). take n (drop 4 t)) size,
      cut.2 ∙ ap (λ (r : List ℕ). drop c.from_be_bytes-length.result r) rest ∙ ap (λ (n : ℕ). drop n (drop 4 t)) size,
    )
