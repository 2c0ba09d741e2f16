use Rattle.store.proofs.Answer.{one_answer}
use Rattle.store.proofs.number_of.Goals as goal

pub returns : goal.returns
returns g c = record { finds = c.find.ensures; one = one_answer }
