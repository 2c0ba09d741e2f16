-- Grades, and levels as pairs of them.
use Rattle.std.specs.Prelude.{◌≡◌, ℕ, max, cond, nat_lt}
use Rattle.grade.specs.declared.Grade.{Grade}
use Rattle.grade.specs.declared.Grade.TheVariants.{Clear, Note, Hold}

-- the numbers by which grades are told; a greater one is stricter
abbrev pub number : Grade → ℕ
number Clear = 0
number Note = 1
number Hold = 2

-- the stricter of two
abbrev pub stricter : Grade → Grade → Grade
stricter a b = cond (nat_lt (number a) (number b)) b a

-- a level: a grade for what is absent, and one for what is there and unmet
abbrev pub Level : Type 0
Level = Grade × Grade

abbrev pub level : Grade → Grade → Level
level absent unmet = (absent, unmet)

-- two levels together, each part for itself
abbrev pub join : Level → Level → Level
join a b = level (stricter a.0 b.0) (stricter a.1 b.1)

-- an operation that may be used on any number of elements, in any order, however often on each
pub record Joins {A : Type 0} (f : A → A → A) (neutral : A) : Type 0 where
  pub associative : (a b c : A) → f (f a b) c ≡ f a (f b c)
  pub commutative : (a b : A) → f a b ≡ f b a
  pub idempotent : (a : A) → f a a ≡ a
  pub unit : (a : A) → f neutral a ≡ a

-- the stricter of two grades has the greater number, and which is the stricter of several depends on no order; Clear changes none
abbrev pub Strictness : Type 0
Strictness = Joins stricter Clear × ((a b : Grade) → number (stricter a b) ≡ max (number a) (number b))

abbrev pub Joining : Type 0
Joining = Joins join (level Clear Clear)

-- Recommended (Note, Note) with IfImplemented (Clear, Hold) is neither of the two
abbrev pub WorkedRow : Type 0
WorkedRow = join (level Note Note) (level Clear Hold) ≡ level Note Hold
