-- What a pair that a store lends means.
use Rattle.std.specs.Prelude.{List, map}
use Rattle.store.specs.Pairs as meaning
use Rattle.store.specs.declared.pairs.Pair.{Pair}

abbrev pub pair_of : Pair → meaning.Pair
pair_of p = record { path = p.path.now; body = p.body.now }

abbrev pub pairs_of : List Pair → List meaning.Pair
pairs_of ps = map pair_of ps
