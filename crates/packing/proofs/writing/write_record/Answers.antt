-- Each part of the record goes behind the one before it.
use Rattle.std.proofs.Common.{◌≡◌, ℕ, ◌≤◌, List, [], ◌∷◌, ◌++◌, length, ap, ◌∙◌, append_assoc, arith, rules, length-append}
use Rattle.store.specs.Pairs.{Pair}
use Rattle.store.specs.Lent.{pair_of}
use Rattle.bundle.specs.Layout.{in_four, record_of}
use Rattle.packing.specs.Packing.{over}
use Rattle.packing.proofs.Over.{then_over}
use Rattle.packing.proofs.writing.write_record.Goals as goal

-- the four parts make the record
parts : (q : Pair) → ((length q.path ∷ q.path) ++ in_four (length q.body)) ++ q.body ≡ record_of q
unfolding record_of
parts q = simp append_assoc

pub returns-clause-wrote : goal.returns-clause-wrote
returns-clause-wrote c =
    let out = c.args.out.now in
    let p = c.args.place in
    let q = pair_of c.args.pair in
    let room : p ≤ length out = omega arith in
    let size = in_four (length q.body) in
    let four : c.to_be_bytes.result ≡ size = search rules in
    let two = then_over out _ _ p _ (length q.path ∷ []) q.path room c.put-place.ensures.wrote c.put-place.ensures.end c.put-place-2.ensures.wrote in
    let three =
    then_over out _ _ p _ (length q.path ∷ q.path) size room two (omega arith)
    (c.put-place-3.ensures.wrote ∙ ap (λ (v : List ℕ). over c.put-place-2.new.out c.put-place-2.result v) four) in
    then_over out _ _ p _ ((length q.path ∷ q.path) ++ size) q.body room three (omega (arith, length-append q.path size)) c.put.ensures.wrote
    ∙ ap (over out p) (parts q)
