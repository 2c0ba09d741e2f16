-- The clauses of an accepted profile.
use Rattle.std.proofs.Common.{◌≡◌, ℕ, List, Ok, Err, Result, refl, ap, ◌∙◌}
use Rattle.syntax.specs.declared.kinds.Fault.{Fault}
use Rattle.syntax.specs.Value.{Value}
use Rattle.syntax.specs.Reading.{reading}
use Rattle.syntax.proofs.Walks.{walks}
use Rattle.walk.proofs.Values.{here_some}
use Rattle.requirement.specs.Clause as r
use Rattle.requirement.specs.Check.{Check}
use Rattle.requirement.specs.Reading.{answered, profile_in}
use Rattle.clause.specs.Left.{clauses_of, Accepted}

-- what is answered where a check is fine
answer : {A : Type 0} (k : Check) (a b : A) → answered k a ≡ Ok b → a ≡ b
answer (Ok u) a b e = cc
answer (Err f) a b e = cc

-- an accepted profile is read as the clauses of its value
pub accepted : (s : List ℕ) → Accepted s
accepted s cs = by (reading s) refl
  where
    by : (o : Result Value Fault) → reading s ≡ o → profile_in o ≡ Ok cs → clauses_of s ≡ cs
    by (Ok v) e d = ap r.clauses (here_some s 0 v ((walks s).outermost v e)) ∙ answer _ (r.clauses v) cs d
    by (Err f) e d = cc
