use Rattle.std.proofs.Common.{◌≡◌, ℕ, ◌+◌, ◌<◌, List, [], length, get_or, Ok, Err, Result, sym, refl, ap, ◌∙◌, arith}
use Rattle.std.proofs.lemmas.Bool.{cond-false, ne_eqb}
use Rattle.syntax.specs.declared.kinds.Fault.{Fault}
use Rattle.syntax.specs.declared.kinds.Letters.TheVariants.{Plain}
use Rattle.syntax.specs.Machine.{fault, live, name, chars, as_name}
use Rattle.syntax.proofs.Runs.{at_byte}
use Rattle.text.specs.Scans.{Names, Strings}
use Rattle.text.proofs.Scans.{stuck}
use Rattle.text.proofs.scan.name.Goals as goal

pub returns-then-not-stands : goal.returns-then-not-stands
returns-then-not-stands c = λ r p ms k.
    stuck r c.args.s.now c.args.at (live (name p ms) k) _ (λ h. cond-false _ _ _ (c.requires h) ∙ cond-false _ _ _ (ne_eqb _ 34 (c.stands.ensures.left c.if-not-stands.true h))) (λ h. refl)
    ∙ ap fault (sym c.fault.ensures)

-- the string is the name, behind its opening quote
quoted : (s : List ℕ) (i : ℕ) (r : Result ℕ Fault) → i < length s → get_or s i 0 ≡ 34 → Strings s (i + 1) r → Names s i r
quoted s i (Ok j) h e c = (omega arith, c.1, c.2, λ r p ms k. at_byte r s i 34 (live (name p ms) k) (live (chars Plain (as_name p ms) i []) k) h e refl ∙ c.3 r (as_name p ms) i k)
quoted s i (Err f) h e c = λ r p ms k. at_byte r s i 34 (live (name p ms) k) (live (chars Plain (as_name p ms) i []) k) h e refl ∙ c r (as_name p ms) i k

pub returns : goal.returns
returns c =
    let here = c.stands.ensures.taken c.if-not-stands.false in
    quoted c.args.s.now c.args.at _ here.0 here.1 c.string.ensures
