use Rattle.std.proofs.Common.{Err, sym, ap, ◌∙◌, subst}
use Rattle.std.proofs.lemmas.Result.{err_from_is_err_and}
use Rattle.walk.specs.Told.{spelled, members_left}
use Rattle.book.specs.Rows.{Examined}
use Rattle.book.proofs.Examining.{no_text, no_object, too_many, badly_named, begins}
use Rattle.book.proofs.checking.examine.Goals as goal

pub returns-in_err-read : goal.returns-in_err-read
returns-in_err-read c =
    let p = err_from_is_err_and c.from_residual.result c.from_residual.ensures.1 in
    subst (Examined c.args.text.now) (sym (p.1 ∙ ap Err p.2)) (no_text c.args.text.now _ c.in_err-read.ensures.is)

pub returns-in_default : goal.returns-in_default
returns-in_default c = no_object c.args.text.now (spelled c.in_ok-read.field-0) c.in_ok-read.ensures.is c.in_default.ensures.is

pub returns-then-not-are_few : goal.returns-then-not-are_few
returns-then-not-are_few c = too_many c.args.text.now (spelled c.in_ok-read.field-0) c.in_ok-read.ensures.is (members_left c.in-Some.members) c.in-Some.ensures.is c.if-not-are_few.ensures

pub returns-in-Some-first_unlawful : goal.returns-in-Some-first_unlawful
returns-in-Some-first_unlawful c =
    badly_named c.args.text.now (spelled c.in_ok-read.field-0) c.in_ok-read.ensures.is (members_left c.in-Some.members) c.in-Some.ensures.is c.if-not-are_few.ensures c.in-Some-first_unlawful.place c.in-Some-first_unlawful.ensures

pub returns-in-None : goal.returns-in-None
returns-in-None c = begins c.args.text.now (spelled c.in_ok-read.field-0) c.in_ok-read.ensures.is (members_left c.in-Some.members) c.in-Some.ensures.is c.if-not-are_few.ensures c.in-None.ensures
