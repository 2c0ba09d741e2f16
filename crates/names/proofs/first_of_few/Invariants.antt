use Rattle.names.proofs.Each.{FirstBelow}
use Rattle.names.proofs.first_of_few.Given as goal

abbrev pub invariant-loop-name : goal.invariant-loop-name
invariant-loop-name l = FirstBelow l.text l.names l.name-index l.first
