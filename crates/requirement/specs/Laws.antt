-- What is claimed of reading a profile.
use Rattle.requirement.specs.Law.{Accepts, Tells}
use Rattle.requirement.specs.More.{Widens}
use Rattle.requirement.specs.Examples.{Examples}

-- It accepts exactly the lawful profiles and answers their clauses; of any other it tells exactly the first fault; one more condition in a profile is
-- one more in one of its clauses; and the worked cases come out.
pub record Laws : Type 0 where
  pub accepts : Accepts
  pub tells : Tells
  pub widens : Widens
  pub worked : Examples
