-- A path that is repeated comes before what the walk met at last.
use Rattle.std.proofs.Common.{◌≡◌, List, [], drop, Ok, sym, ap, ◌∙◌, subst}
use Rattle.std.proofs.lemmas.Result.{MatchResult-weaker}
use Rattle.names.specs.declared.span.Span.{Span}
use Rattle.names.specs.Repeats.{FirstRepeat}
use Rattle.bundle.specs.Layout.{reading, told}
use Rattle.bundle.specs.Rows.{seen, tells, rows_of}
use Rattle.bundle.proofs.Opened.{told_err, told_pairs}
use Rattle.bundle.proofs.Again.{tells_walk, tells_repeat}
use Rattle.bundle.proofs.reading.read_records.Goals as goal
use Rattle.bundle.proofs.reading.read_records.Goals.{After-first_repeat, In-None}

-- the names that are looked through are the noted paths
first : (c : goal.After-first_repeat) → FirstRepeat c.args.bytes.now (rows_of c.args.bytes.now (seen c.args.count c.args.bytes.now 0)) c.first_repeat.result
first c =
    subst (λ (rows : List Span). FirstRepeat c.args.bytes.now rows c.first_repeat.result) (c.as_mut_slice.ensures.value ∙ c.walk-pairs.ensures.seen) c.first_repeat.ensures.first

pub returns-in-Some-clause-err : goal.returns-in-Some-clause-err
returns-in-Some-clause-err c =
    let f = rw c.in-Some.is at (first (goal.at.returns-in-Some-clause-err c).After-first_repeat) in
    told_err _ _ (tells_repeat c.args.bytes.now c.args.count c.requires.long c.in-Some.path f)

-- where none is, the walk tells what the check tells
same : (c : goal.In-None) → tells c.args.count c.args.bytes.now 0 ≡ told (reading c.args.count [] (drop 7 c.args.bytes.now) 7)
same c =
    let f = rw c.in-None.is at (first (goal.at.returns-in-None-clause-ok c).After-first_repeat) in
    tells_walk c.args.bytes.now c.args.count c.requires.long f

pub returns-in-None-clause-ok : goal.returns-in-None-clause-ok
returns-in-None-clause-ok c =
    MatchResult-weaker c.walk-pairs.result c.walk-pairs.ensures.ok
    (λ pairs h. told_pairs c.args.bytes.now c.args.count c.requires.long (sym (same c) ∙ h.0) ∙ ap Ok (sym h.1))
    (λ refusal h. h)

pub returns-in-None-clause-err : goal.returns-in-None-clause-err
returns-in-None-clause-err c =
    MatchResult-weaker c.walk-pairs.result c.walk-pairs.ensures.err (λ pairs h. h) (λ refusal h. told_err _ refusal (sym (same c) ∙ h))
