-- What comes one after the other, place by place: the number of bytes bounds how many there are.
use Rattle.std.proofs.Common.{◌≡◌, ℕ, zero, suc, ◌+◌, ◌<◌, ◌≤◌, [], ◌∷◌, Some, None, Option, sym, refl, ap, arith}
use Rattle.syntax.specs.Walking.{Step, ahead, unrolled, chain}

-- what stands at i stands before n, and the next one behind i
pub record Rises {A : Type 0} (n i : ℕ) (t : Step A) : Type 0 where
  pub inside : i < n
  pub on : (j : ℕ) → t.next ≡ Some j → i < j

module _ {A : Type 0} (at : ℕ → Option (Step A)) (n : ℕ) (rises : (i : ℕ) (t : Step A) → at i ≡ Some t → Rises n i t) where
  -- nothing stands past n
  past : (m i : ℕ) → n ≤ i → chain at m i ≡ []
  unfolding chain
  past zero i h = refl
  past (suc m) i h = by (at i) refl
    where
      by : (o : Option (Step A)) → at i ≡ o → unrolled (chain at m) o ≡ []
      by None e = refl
      by (Some t) e = absurd (omega (arith, (rises i t e).inside))

  -- as many as there are places are enough
  enough : (m k i : ℕ) → n ≤ i + m → n ≤ i + k → chain at m i ≡ chain at k i
  unfolding chain
  enough zero k i h l = sym (past k i (omega arith))
  enough (suc m) zero i h l = past (suc m) i (omega arith)
  enough (suc m) (suc k) i h l = by (at i) refl (λ j p. enough m k j (omega arith) (omega arith))
    where
      next : (o : Option ℕ) → ((j : ℕ) → o ≡ Some j → i < j) → ((j : ℕ) → i < j → chain at m j ≡ chain at k j) → ahead (chain at m) o ≡ ahead (chain at k) o
      next None r f = refl
      next (Some j) r f = f j (r j refl)

      by : (o : Option (Step A)) → at i ≡ o → ((j : ℕ) → i < j → chain at m j ≡ chain at k j) → unrolled (chain at m) o ≡ unrolled (chain at k) o
      by None e f = refl
      by (Some t) e f = ap (λ l. t.here ∷ l) (next t.next (rises i t e).on f)

  -- the first, and then those from the next place on
  pub unroll : (i : ℕ) → chain at n i ≡ unrolled (chain at n) (at i)
  unfolding chain
  unroll i = enough n (suc n) i (omega arith) (omega arith)
