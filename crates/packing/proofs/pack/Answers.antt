-- In each case the answer and the buffer are those of the definition; the front and the records make the bundle.
use Rattle.std.proofs.Common.{◌≡◌, ℕ, ◌≤◌, ◌++◌, length, Ok, sym, ap, ◌∙◌, arith}
use Rattle.std.specs.List.{flat_map}
use Rattle.bundle.specs.Layout.{head, in_two, record_of, written}
use Rattle.packing.specs.Packing.{over}
use Rattle.packing.proofs.Over.{over_front, then_over}
use Rattle.packing.proofs.Sizes.{written_length}
use Rattle.packing.proofs.Packs.{answer_of, buffer_of, packed_long, packed_short, packed_fits, opens_again, opens_packed}
use Rattle.packing.proofs.pack.Goals as goal

pub returns-then-total-gt-MAX_BYTES : goal.returns-then-total-gt-MAX_BYTES
returns-then-total-gt-MAX_BYTES g c =
    let e = packed_long (g.S.Store.pairs c.args.store.now) c.args.out.now (omega arith) in
    record { answer = sym (ap answer_of e); buffer = sym (ap buffer_of e); again = opens_again; opens = opens_packed }

pub returns-then-out-total : goal.returns-then-out-total
returns-then-out-total g c =
    let e = packed_short (g.S.Store.pairs c.args.store.now) c.args.out.now (omega arith) (omega arith) in
    record { answer = sym (ap answer_of e); buffer = sym (ap buffer_of e); again = opens_again; opens = opens_packed }

pub write_front-place-requires : goal.write_front-place-requires
write_front-place-requires g c =
    let ps = g.S.Store.pairs c.args.store.now in
    record { few = omega (arith, (g.met.S.Store.lawful c.args.store.now).few); room = omega (arith, written_length ps) }

pub write_records-requires : goal.write_records-requires
write_records-requires g c = omega (arith, written_length (g.S.Store.pairs c.args.store.now))

pub returns : goal.returns
unfolding written
returns g c =
    let ps = g.S.Store.pairs c.args.store.now in
    let out = c.args.out.now in
    let e = packed_fits ps out (omega arith) (omega arith) in
    let room : 0 ≤ length out = omega arith in
    let front : c.write_front-place.new.out ≡ over out 0 (head ++ in_two (length ps)) =
    c.write_front-place.ensures.wrote ∙ ap (λ (n : ℕ). over out 0 (head ++ in_two n)) c.count.ensures in
    let all : c.write_records.new.out ≡ over out 0 (written ps) =
    then_over out _ _ 0 _ (head ++ in_two (length ps)) (flat_map record_of ps) room front c.write_front-place.ensures.end c.write_records.ensures in
    record {
      answer = ap Ok c.size-total.ensures ∙ sym (ap answer_of e);
      buffer = all ∙ over_front out (written ps) ∙ sym (ap buffer_of e);
      again = opens_again;
      opens = opens_packed;
    }
