-- How long records and bundles are.
use Rattle.std.proofs.Common.{◌≡◌, ℕ, suc, ◌+◌, ◌*◌, ◌^◌, ◌<◌, ◌≤◌, true, List, [], ◌∷◌, length, get_or, refl, arith, length-append}
use Rattle.std.specs.List.{flat_map, AllByRecursion}
use Rattle.std.proofs.lemmas.Bool.Decides.{nat_tests}
use Rattle.store.specs.Pairs.{Pair, nothing, path_at, Lawful}
use Rattle.store.specs.Paths.{lawful_path}
use Rattle.bundle.specs.Layout.{record_of, written}

pub length_record : (q : Pair) → length (record_of q) ≡ 5 + length q.path + length q.body
unfolding record_of
length_record q = simp length-append (omega arith)

pub written_length : (ps : List Pair) → length (written ps) ≡ 7 + length (flat_map record_of ps)
unfolding written
written_length ps = omega arith

-- the records of the pairs that are left, at the first of them
pub records_step : (ps qs : List Pair) (q : Pair) → ps ≡ q ∷ qs → length (flat_map record_of ps) ≡ 5 + length q.path + length q.body + length (flat_map record_of qs)
records_step ps qs q e = rw e (omega (arith, length-append (record_of q) (flat_map record_of qs), length_record q))

-- a pair whose lengths a record has room for
abbrev pub Writable : Pair → Type 0
Writable q = (length q.path ≤ 255) × (length q.body ≤ 1048576)

-- a lawful path has at most 255 bytes
pub path_short : (p : List ℕ) → lawful_path p ≡ true → length p ≤ 255
path_short p h = grind (arith, nat_tests)

each_writable : (ps : List Pair) → ((n : ℕ) → n < length ps → Writable (get_or ps n nothing)) → AllByRecursion Writable ps
each_writable [] h = tt
each_writable (q ∷ qs) h = (h 0 (omega arith), each_writable qs (λ n l. h (suc n) (omega arith)))

pub lawful_writable : (ps : List Pair) → Lawful ps → AllByRecursion Writable ps
lawful_writable ps w = each_writable ps (λ n h. (path_short (path_at ps n) (w.named n h), w.small n))

records_small : (ps : List Pair) → AllByRecursion Writable ps → length (flat_map record_of ps) ≤ 1048836 * length ps
records_small [] h = omega arith
records_small (q ∷ qs) h = omega (arith, records_step (q ∷ qs) qs q refl, records_small qs h.1, h.0.0, h.0.1)

-- the bundle of lawful pairs has fewer bytes than a number has room for
pub written_fits : (ps : List Pair) → Lawful ps → length (written ps) < 2 ^ 64
written_fits ps w = omega (arith, written_length ps, records_small ps (lawful_writable ps w), w.few)
