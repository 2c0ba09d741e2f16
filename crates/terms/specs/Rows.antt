-- Tables of words as they stand in the code.
use Rattle.std.specs.Prelude.{ℕ, List, [], ◌∷◌}
use Rattle.std.proofs.Common.{Bor}
use Rattle.requirement.specs.Words.{Table, nothing, row}

-- the rows in their order
abbrev pub rows : {M : Type 0} → List (Bor (List ℕ) × M) → Table M
rows [] = nothing
rows (r ∷ rs) = row r.0.now r.1 (rows rs)
