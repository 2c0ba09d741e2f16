-- The rules in their order.
use Rattle.std.proofs.Common.{◌≡◌, ℕ, [], drop, sym, ap, ◌∙◌, arith}
use Rattle.bundle.specs.Layout.{checked, reading}
use Rattle.bundle.proofs.Front.{headed_true, headed_false, headed_count, headed_long, checked_long, checked_head, checked_many, checked_records}
use Rattle.bundle.proofs.reading.read.Goals as goal
use Rattle.bundle.proofs.reading.read.Goals.{After-read_records}

pub returns-then-bytes-gt-MAX_BYTES-clause-err : goal.returns-then-bytes-gt-MAX_BYTES-clause-err
returns-then-bytes-gt-MAX_BYTES-clause-err c = checked_long c.args.bytes.now (omega arith)

pub returns-in_default-clause-err : goal.returns-in_default-clause-err
returns-in_default-clause-err c = checked_head c.args.bytes.now (omega arith) (headed_false c.args.bytes.now c.in_default.ensures)

pub returns-then-count-gt-MAX_PAIRS-clause-err : goal.returns-then-count-gt-MAX_PAIRS-clause-err
returns-then-count-gt-MAX_PAIRS-clause-err c =
    let bs = c.args.bytes.now in
    let w = c.in-Some.ensures in
    checked_many bs (omega arith) (headed_true bs _ w) (omega (arith, headed_count bs _ w))

pub read_records-requires-clause-long : goal.read_records-requires-clause-long
read_records-requires-clause-long c = headed_long _ _ c.in-Some.ensures

-- the check is the reading of the records
records : (c : goal.After-read_records) → checked c.args.bytes.now ≡ reading c.in-Some.count [] (drop 7 c.args.bytes.now) 7
records c =
    let bs = c.args.bytes.now in
    let w = c.in-Some.ensures in
    checked_records bs (omega arith) (headed_true bs _ w) (omega (arith, headed_count bs _ w))
    ∙ ap (λ (n : ℕ). reading n [] (drop 7 bs) 7) (sym (headed_count bs _ w))

pub returns-clause-ok : goal.returns-clause-ok
returns-clause-ok c = rw (records (goal.at.returns-clause-ok c).After-read_records) c.read_records.ensures.ok

pub returns-clause-err : goal.returns-clause-err
returns-clause-err c = rw (records (goal.at.returns-clause-err c).After-read_records) c.read_records.ensures.err
