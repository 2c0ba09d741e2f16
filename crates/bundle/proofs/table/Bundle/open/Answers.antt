use Rattle.std.proofs.Common.{◌≡◌, ℕ, List, [], Ok, Err, Result, ap, ◌∙◌}
use Rattle.std.specs.Result.{ResultUnwrapsOrElse, IfOk, IfErr}
use Rattle.arrayvec.specs.ArrayVec.{ArrayVec}
use Rattle.store.specs.declared.pairs.Pair.{Pair}
use Rattle.store.specs.Lent.{pairs_of}
use Rattle.bundle.specs.declared.rules.Refusal.{Refusal}
use Rattle.bundle.specs.Layout.{checked, opened}
use Rattle.bundle.proofs.Opened.{opens_lawful, opened_ok, opened_err}
use Rattle.bundle.proofs.table.Bundle.open.Goals as goal

-- the pairs that were read, or none
cut : (bs : List ℕ) (x : Result (ArrayVec Pair) Refusal) (r : ArrayVec Pair)
    → IfOk x (λ pairs. checked bs ≡ Ok (pairs_of pairs.items)) → IfErr x (λ refusal. checked bs ≡ Err refusal)
    → ResultUnwrapsOrElse x (λ v. v.items ≡ []) r → pairs_of r.items ≡ opened bs
cut bs (Ok pairs) r ok err e = ap (λ (v : ArrayVec Pair). pairs_of v.items) e ∙ opened_ok bs _ ok
cut bs (Err d) r ok err e = ap pairs_of e ∙ opened_err bs d err

pub invariant_of-result : goal.invariant_of-result
invariant_of-result c =
    record {
      cut = cut c.args.bytes.now c.read.result c.unwrap_or_default-pairs.result c.read.ensures.ok c.read.ensures.err c.unwrap_or_default-pairs.ensures;
      lawful = opens_lawful c.args.bytes.now;
    }
