use Rattle.std.proofs.Common.{◌≡◌, ◌<◌, length, sym, ap, ◌∙◌, arith}
use Rattle.std.proofs.lemmas.List.{length-map, map_push, take_rest}
use Rattle.std.proofs.lemmas.Bool.{eqb-true, eqb-false}
use Rattle.store.specs.Lent.{pair_of, pairs_of}
use Rattle.bundle.proofs.Walks.{walked_none, walked_rest, walked_noted, walked_cut, walk_stops, walk_goes, walk_noted, walk_cut, walk_clean, walk_left}
use Rattle.bundle.proofs.walk.walk.Goals as goal

pub loop-n-init : goal.loop-n-init
loop-n-init c =
    rw (take_rest c.args.bytes.now 7, c.requires.blank, c.new-pairs.ensures) (walked_none c.args.bytes.now c.args.count c.requires.long)

pub cut-requires : goal.cut-requires
cut-requires c =
    let w = c.loop-n.invariant in
    record {
      low = omega (arith, walked_rest _ _ _ _ _ _ w);
      room = omega (arith, walked_noted _ _ _ _ _ _ w);
    }

pub push-requires : goal.push-requires
push-requires c =
    let room : length c.loop-n.pairs.items < 1024 = omega (arith, walked_cut _ _ _ _ _ _ c.loop-n.invariant, length-map c.loop-n.pairs.items pair_of) in
    (omega arith, room)

pub returns-in-Err : goal.returns-in-Err
returns-in-Err c =
    let s = walk_stops _ _ _ _ _ _ c.loop-n.invariant c.cut.new.paths.items c.in-Err.rule c.loop-n-test.true c.in-Err.ensures.err in
    record { seen = s.0; ok = tt; err = s.1 }

pub loop-n-preserved : goal.loop-n-preserved
loop-n-preserved c =
    let more = ap pairs_of c.push.ensures.items ∙ map_push pair_of c.loop-n.pairs.items c.in-Ok.pair in
    rw more (walk_goes _ _ _ _ _ _ c.loop-n.invariant c.cut.new.paths.items c.in-Ok.pair c.in-Ok.behind.now c.loop-n-test.true c.in-Ok.ensures.ok)

pub returns-then-is_empty : goal.returns-then-is_empty
returns-then-is_empty c =
    let w = c.loop-n.invariant in
    let all : c.args.count ≡ c.loop-n._n = omega arith in
    record { seen = walk_noted _ _ _ _ _ _ w all; ok = (walk_clean _ _ _ _ _ _ w all (eqb-true _ _ (sym c.if-is_empty.ensures)), walk_cut _ _ _ _ _ _ w all); err = tt }

pub returns-else-is_empty : goal.returns-else-is_empty
returns-else-is_empty c =
    let w = c.loop-n.invariant in
    let all : c.args.count ≡ c.loop-n._n = omega arith in
    record { seen = walk_noted _ _ _ _ _ _ w all; ok = tt; err = walk_left _ _ _ _ _ _ w all (eqb-false _ _ (sym c.if-is_empty.ensures)) }
