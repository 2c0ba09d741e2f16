use Rattle.std.proofs.Common.{◌≡◌, ℕ, false, List, Some, Ok, Err, Result, sym, ap, ◌∙◌}
use Rattle.std.specs.Result.{result_ok}
use Rattle.syntax.specs.declared.kinds.Fault.{Fault}
use Rattle.syntax.specs.Reading.{value_at, outcome_value}
use Rattle.text.specs.declared.part.Part.{Part}
use Rattle.text.specs.Part.{part_at}
use Rattle.text.proofs.Wholes.{Comes, comes}
use Rattle.text.proofs.reader.value.Goals as goal

found : (s : List ℕ) (i : ℕ) (x : Result Part Fault) → Comes false s i x → result_ok x ≡ part_at (value_at s i)
unfolding value_at
found s i (Ok t) h = ap Some (sym h.1) ∙ ap (λ o. part_at (outcome_value o)) (sym h.2)
found s i (Err f) h = ap (λ o. part_at (outcome_value o)) (sym h)

pub returns : goal.returns
returns c =
    let s = c.args.text.now in
    let i = c.args.at in
    c.ok.ensures.value ∙ found s i c.value_here.result (comes false s i c.skip.result c.value_here.result c.skip.ensures.is c.value_here.ensures.reads)
