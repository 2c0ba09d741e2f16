-- Worked cases.
use Rattle.std.specs.Prelude.{◌≡◌, Err, codes}
use Rattle.syntax.specs.Machine.{malformed, too_deep, repeated}
use Rattle.syntax.specs.Reading.{reading}

pub record Rows : Type 0 where
  pub leading_zero : reading (codes "01") ≡ Err (malformed 1)
  pub name_twice : reading (codes "{\"a\":1,\"a\":2}") ≡ Err (repeated 9)
  pub sixteen_open : reading (codes "[[[[[[[[[[[[[[[[") ≡ Err (malformed 16)
  pub seventeen_open : reading (codes "[[[[[[[[[[[[[[[[[") ≡ Err (too_deep 16)
