use Rattle.std.proofs.Common.{arith}
use Rattle.syntax.proofs.Walks.{walks}
use Rattle.walk.specs.Here.{value_here}
use Rattle.walk.proofs.Values.{object_members, no_fields}
use Rattle.walk.proofs.value.Value.members.Goals as goal

pub overflow_add-self : goal.overflow_add-self
overflow_add-self c = omega (arith, (object_members c.args.self.text.now c.args.self.part c.args.self.told c.in-Object.is).1)

pub returns-in-Object-clause-walks : goal.returns-in-Object-clause-walks
returns-in-Object-clause-walks c = walks

pub returns-in_default : goal.returns-in_default
returns-in_default c = record { is = no_fields (value_here c.args.self.text.now c.args.self.part.start) c.args.self.part c.args.self.told c.in_default.not-Object; walks = walks }
