-- Whether a pair has a path.
use Rattle.std.proofs.Common.{◌≡◌, ℕ, zero, suc, ◌<◌, true, false, List, [], ◌∷◌, length, refl, ⊎_elim, arith}
use Rattle.std.proofs.lemmas.Slice.Eq.{bytes_eq-Decides}
use Rattle.std.proofs.lemmas.Bool.{or_left, or_right, or_cases, both_ways, cases_Bool}
use Rattle.store.specs.Pairs.{Pair, path_at}
use Rattle.bundle.specs.Layout.{met}

pub met_found : (ps : List Pair) (p : List ℕ) (k : ℕ) → k < length ps → path_at ps k ≡ p → met ps p ≡ true
met_found [] p k h e = absurd (omega arith)
met_found (q ∷ ps) p zero h e = or_left _ _ ((bytes_eq-Decides q.path p).1 e)
met_found (q ∷ ps) p (suc k) h e = or_right _ _ (met_found ps p k (omega arith) e)

pub met_where : (ps : List Pair) (p : List ℕ) → met ps p ≡ true → (k : ℕ) × (k < length ps) × (path_at ps k ≡ p)
met_where [] p e = absurd (both_ways false refl e)
met_where (q ∷ ps) p e = ⊎_elim
    (λ s. (0, omega arith, (bytes_eq-Decides q.path p).0 s))
    (λ m. let w = met_where ps p m in (suc w.0, omega (arith, w.1), w.2))
    (or_cases _ _ e)

-- no pair has a path that is not met
pub met_apart : (ps : List Pair) (p : List ℕ) → met ps p ≡ false → (k : ℕ) → k < length ps → path_at ps k ≡ p → ⊥
met_apart ps p e k h s = both_ways _ e (met_found ps p k h s)

pub met_none : (ps : List Pair) (p : List ℕ) → ((k : ℕ) → k < length ps → path_at ps k ≡ p → ⊥) → met ps p ≡ false
met_none ps p none = ⊎_elim
    (λ e. let w = met_where ps p e in absurd (none w.0 w.1 w.2))
    (λ e. e) (cases_Bool (met ps p))
