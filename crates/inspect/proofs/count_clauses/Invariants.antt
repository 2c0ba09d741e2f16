use Rattle.inspect.proofs.count_clauses.Given as goal

-- the pairs that are left come to an end
abbrev pub invariant-loop-n : goal.invariant-loop-n
invariant-loop-n l = (goal.iterator-loop-n).can_next l.n-iterator × (goal.iterator-loop-n).is_finite l.n-iterator
