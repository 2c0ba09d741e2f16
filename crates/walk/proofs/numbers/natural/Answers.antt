use Rattle.std.proofs.Common.{◌^◌, ◌≤◌, arith, rules}
use Rattle.std.proofs.Math.Nat.{pow-le-pow_right}
use Rattle.walk.proofs.numbers.natural.Goals as goal

pub overflow_mul-n : goal.overflow_mul-n
overflow_mul-n c = let h : 10 ^ c.loop-d.d-index ≤ 10 ^ 17 = pow-le-pow_right {n = 10} (omega arith) {i = c.loop-d.d-index} {j = 17} (omega arith) in search rules

pub overflow_add-n : goal.overflow_add-n
overflow_add-n c = let h : 10 ^ c.loop-d.d-index ≤ 10 ^ 17 = pow-le-pow_right {n = 10} (omega arith) {i = c.loop-d.d-index} {j = 17} (omega arith) in search rules

pub returns-clause-small : goal.returns-clause-small
returns-clause-small c = let h : 10 ^ c.loop-d.d-index ≤ 10 ^ 18 = pow-le-pow_right {n = 10} (omega arith) {i = c.loop-d.d-index} {j = 18} (omega arith) in omega arith
