use Rattle.std.proofs.Common.{◌+◌, [], refl, ◌∙◌, arith}
use Rattle.std.proofs.lemmas.Result.{err_from_is_err_and}
use Rattle.std.specs.List.{between}
use Rattle.syntax.specs.declared.kinds.Letters.TheVariants.{Plain}
use Rattle.syntax.specs.Value.{string}
use Rattle.syntax.specs.Machine.{live, value, chars, as_value}
use Rattle.syntax.proofs.Runs.{at_byte}
use Rattle.text.proofs.scalars.quoted.Goals as goal

pub returns-in_err-quote : goal.returns-in_err-quote
returns-in_err-quote c =
    let s = c.args.s.now in
    let at = c.args.at in
    let p = err_from_is_err_and c.from_residual.result c.from_residual.ensures.1 in
    rw (p.1, p.2) (λ r d k n. at_byte r s at 34 (live value k) (live (chars Plain as_value at []) k) c.requires.within c.requires.quote refl ∙ c.in_err-quote.ensures r as_value at k)

pub returns : goal.returns
returns c =
    let s = c.args.s.now in
    let at = c.args.at in
    let j = c.in_ok-quote.quote in
    let read = c.in_ok-quote.ensures in
    λ r d. (
      omega (arith, read.0),
      omega (arith, read.1),
      (
        string at (j + 1) (between (at + 1) j s),
        refl,
        λ k n.
            at_byte r s at 34 (live value k) (live (chars Plain as_value at []) k) c.requires.within c.requires.quote refl ∙ read.3 r as_value at k ∙ at_byte r s j 34 _ _ read.1 read.2 refl,
      ),
    )
