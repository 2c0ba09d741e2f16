-- Levels join as grades do, part by part.
use Rattle.grade.specs.Grades.{level, Strictness, Joining}

pub joining : Strictness → Joining
joining s = record {
  associative = λ a b c i. level (s.0.associative a.0 b.0 c.0 i) (s.0.associative a.1 b.1 c.1 i);
  commutative = λ a b i. level (s.0.commutative a.0 b.0 i) (s.0.commutative a.1 b.1 i);
  idempotent = λ a i. level (s.0.idempotent a.0 i) (s.0.idempotent a.1 i);
  unit = λ a i. level (s.0.unit a.0 i) (s.0.unit a.1 i);
}
