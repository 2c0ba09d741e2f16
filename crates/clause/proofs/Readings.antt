-- Each value reads as a condition.
use Rattle.std.proofs.Common.{◌≡◌, List, [], ◌∷◌, map, refl, ap}
use Rattle.syntax.specs.Value.{Value}
use Rattle.requirement.specs.Clause.{each_read, condition_in}
use Rattle.clause.specs.Shown.{condition_read}

pub each_condition : (vs : List Value) → each_read condition_read vs ≡ map condition_in vs
each_condition [] = refl
each_condition (v ∷ vs) = ap (λ cs. condition_in v ∷ cs) (each_condition vs)
