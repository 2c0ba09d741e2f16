use Rattle.std.proofs.Common.{◌≡◌, ◌^◌, ◌<◌, drop}
use Rattle.syntax.specs.Walking.{all_digits, decimal}
use Rattle.walk.proofs.numbers.natural.Given as goal

-- the digits to come decide, behind those of n
abbrev pub invariant-loop-d : goal.invariant-loop-d
invariant-loop-d l = (l.n < 10 ^ l.d-index) × (all_digits (drop l.d-index l.digits) ≡ all_digits l.digits) × (decimal l.n (drop l.d-index l.digits) ≡ decimal 0 l.digits)
