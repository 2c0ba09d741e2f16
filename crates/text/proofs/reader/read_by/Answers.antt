use Rattle.std.proofs.Common.{true, Ok, Err, ap, ◌∙◌}
use Rattle.std.proofs.lemmas.Result.{err_from_is_err_and}
use Rattle.text.proofs.Wholes.{comes, out_early, out_behind, read_whole}
use Rattle.text.proofs.reader.read_by.Goals as goal

pub returns-in_err-part : goal.returns-in_err-part
returns-in_err-part g c =
    let s = c.args.text.now in
    let p = err_from_is_err_and c.from_residual.result c.from_residual.ensures.1 in
    rw (p.1, p.2) (out_early s c.requires.short _ (comes true s 0 c.skip.result (Err _) c.skip.ensures.is c.in_err-part.ensures.reads))

pub returns-then-end-text : goal.returns-then-end-text
returns-then-end-text g c =
    let s = c.args.text.now in
    let it = comes true s 0 c.skip.result (Ok c.in_ok-part.part) c.skip.ensures.is c.in_ok-part.ensures.reads in
    ap Err c.fault.ensures ∙ out_behind s c.requires.short c.in_ok-part.part c.skip-end.result it c.skip-end.ensures.is c.if-end-text.true

pub returns : goal.returns
returns g c =
    let s = c.args.text.now in
    let it = comes true s 0 c.skip.result (Ok c.in_ok-part.part) c.skip.ensures.is c.in_ok-part.ensures.reads in
    read_whole s c.requires.short c.in_ok-part.part c.skip-end.result it c.skip-end.ensures.is c.if-end-text.false
