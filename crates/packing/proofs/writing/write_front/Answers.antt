-- The version goes behind the mark, and the count behind the head.
use Rattle.std.proofs.Common.{◌≡◌, ℕ, ◌≤◌, List, [], ◌∷◌, length, ap, ◌∙◌, arith, rules}
use Rattle.bundle.specs.Layout.{head, in_two}
use Rattle.packing.specs.Packing.{over}
use Rattle.packing.proofs.Over.{then_over}
use Rattle.packing.proofs.writing.write_front.Goals as goal

pub returns-clause-wrote : goal.returns-clause-wrote
returns-clause-wrote c =
    let out = c.args.out.now in
    let room : 0 ≤ length out = omega arith in
    let count : c.to_be_bytes.result ≡ in_two c.args.count = search rules in
    let two = then_over out _ _ 0 _ (0x43 ∷ 0x41 ∷ 0x50 ∷ []) (0 ∷ 1 ∷ []) room c.put-place.ensures.wrote c.put-place.ensures.end c.put-place-2.ensures.wrote in
    then_over out _ _ 0 _ head (in_two c.args.count) room two (omega arith)
    (c.put.ensures.wrote ∙ ap (λ (v : List ℕ). over c.put-place-2.new.out c.put-place-2.result v) count)
