-- A search among the numbers answers the first that has the path.
use Rattle.std.proofs.Common.{◌≡◌, ◌≢◌, ℕ, ◌<◌, ◌≤◌, List, length, Some, None, Option, MatchOption, zero-le, arith, rules, tests}
use Rattle.std.proofs.lemmas.Iterator.{first_from_Range}
use Rattle.store.specs.Pairs.{Pair, path_at, Finds}
use Rattle.store.proofs.Search.find.Goals as goal

finds_from_first : (ps : List Pair) (p : List ℕ) (n : ℕ) (r : Option ℕ) → n ≡ length ps
    → MatchOption r ((k : ℕ) → 0 ≤ k → k < n → path_at ps k ≢ p)
    (λ i. (0 ≤ i) × (i < n) × (path_at ps i ≡ p) × ((k : ℕ) → 0 ≤ k → k < i → path_at ps k ≢ p)) → Finds ps p r
finds_from_first ps p n None e h = λ k l. h k zero-le (omega arith)
finds_from_first ps p n (Some i) e h = record { within = omega (arith, h.1); same = h.2 }

pub returns : goal.returns
returns g c =
    let ps = g.Self.Store.pairs c.args.self.now in
    let p = c.args.path.now in
    finds_from_first ps p c.count.result c.find.result c.count.ensures
    (first_from_Range _ _ _ c.find.result (λ n. path_at ps n ≡ p) (λ n. path_at ps n ≢ p) c.find.ensures.ran (λ x q k. search (rules, tests)) (λ x q k. search (rules, tests)))
