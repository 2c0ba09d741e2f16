-- The laws of reading a profile, whole.
use Rattle.requirement.specs.Laws.{Laws}
use Rattle.requirement.proofs.Accepts.{accepts, tells}
use Rattle.requirement.proofs.Widens.{widens}
use Rattle.requirement.proofs.Worked.{examples}

pub laws : Laws
laws = record { accepts = accepts; tells = tells; widens = widens; worked = examples }
