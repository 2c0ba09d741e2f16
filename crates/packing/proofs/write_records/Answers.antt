-- The first of the pairs that are left goes behind what is written.
use Rattle.std.proofs.Common.{◌≤◌, List, length, ap, ◌∙◌, sym, arith}
use Rattle.std.specs.List.{flat_map}
use Rattle.store.specs.Pairs.{Pair}
use Rattle.store.specs.Lent.{pair_of}
use Rattle.bundle.specs.Layout.{record_of}
use Rattle.packing.specs.Packing.{over}
use Rattle.packing.proofs.Over.{over_none, over_step}
use Rattle.packing.proofs.Sizes.{length_record, records_step, lawful_writable}
use Rattle.packing.proofs.write_records.Goals as goal

pub loop-pair-init : goal.loop-pair-init
loop-pair-init g c =
    let left = c.into_iter-pair-iterator.ensures.into_iter_gives ∙ c.of-pair-items.ensures in
    record { whole = rw left; room = rw left c.requires; writable = rw left (lawful_writable _ (g.met.S.Store.lawful c.args.store.now)) }

pub write_record-place-requires-clause-room : goal.write_record-place-requires-clause-room
write_record-place-requires-clause-room g c = omega (arith, records_step _ _ _ c.in-Some.ensures.steps)

pub loop-pair-preserved : goal.loop-pair-preserved
loop-pair-preserved g c =
    let now = c.loop-pair in
    let steps = c.in-Some.ensures.steps in
    let writable = rw steps at now.invariant.writable in
    let step = records_step _ _ _ steps in
    let room : now.place ≤ length now.out = omega arith in
    record {
      whole = over_step now.out c.write_record-place.new.out (flat_map record_of c.next.new.self) now.place c.write_record-place.result (record_of (pair_of c.in-Some.pair))
          (flat_map record_of now.pair-iterator) (ap (flat_map record_of) steps) room c.write_record-place.ensures.wrote (omega (arith, length_record (pair_of c.in-Some.pair)))
          ∙ now.invariant.whole;
      room = omega (arith, step);
      writable = writable.1;
    }

pub returns : goal.returns
returns g c =
    let now = c.loop-pair in
    sym (over_none now.out now.place) ∙ ap (λ (ps : List Pair). over now.out now.place (flat_map record_of ps)) (sym c.in-None.ensures.steps.0) ∙ now.invariant.whole
