use Rattle.std.proofs.Common.{arith}
use Rattle.walk.proofs.Values.{array_items}
use Rattle.walk.proofs.value.Value.items.Goals as goal

pub overflow_add-self : goal.overflow_add-self
overflow_add-self c = omega (arith, (array_items c.args.self.text.now c.args.self.part c.args.self.told c.in-Array.is).1)
