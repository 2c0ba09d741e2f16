-- Names compared each with each.
use Rattle.std.proofs.Common.{◌≡◌, ℕ, ◌+◌, ◌<◌, ◌≤◌, List, length, Some, None, Option, sym, ap, subst, ⊎_elim, arith}
use Rattle.std.proofs.lemmas.Bool.{cond-true, cond-false, lt-leb, le-leb, cases_lt}
use Rattle.names.specs.declared.span.Span.{Span}
use Rattle.names.specs.Order.{sooner}
use Rattle.names.specs.Repeats.{Repeats, FirstRepeat}
use Rattle.names.proofs.Sorted.{at}

-- of the names below i that repeat an earlier one, the one that ends first
abbrev pub FirstBelow : List ℕ → List Span → ℕ → Option Span → Type 0
FirstBelow s ns i None = (k : ℕ) → k < i → Repeats s ns (at ns k) → ⊥
FirstBelow s ns i (Some n) = Repeats s ns n × ((k : ℕ) → k < i → Repeats s ns (at ns k) → n.end ≤ (at ns k).end)

-- one name more
module _ (s : List ℕ) (ns : List Span) (i : ℕ) where
  same_end : (k : ℕ) → k ≡ i → (at ns i).end ≤ (at ns k).end
  same_end k e = omega (arith, ap (λ j. (at ns j).end) e)

  pub below_taken : (o : Option Span) → Repeats s ns (at ns i) → FirstBelow s ns i o → FirstBelow s ns (i + 1) (Some (sooner o (at ns i)))
  below_taken None r h = (r, λ k l x. ⊎_elim (λ y. absurd (h k y x)) (λ y. same_end k (omega arith)) (cases_lt k i))
  below_taken (Some f) r h =
      ⊎_elim
      (λ l. subst (λ n. FirstBelow s ns (i + 1) (Some n)) (sym (cond-false _ _ _ (lt-leb _ _ l)))
      (r, λ k m x. ⊎_elim (λ y. omega (arith, l, h.1 k y x)) (λ y. same_end k (omega arith)) (cases_lt k i)))
      (λ l. subst (λ n. FirstBelow s ns (i + 1) (Some n)) (sym (cond-true _ _ _ (le-leb _ _ l)))
      (h.0, λ k m x. ⊎_elim (λ y. h.1 k y x) (λ y. let z : k ≡ i = omega arith in omega (arith, l, same_end k z)) (cases_lt k i)))
      (cases_lt (at ns i).end f.end)

  pub below_passed : (o : Option Span) → (Repeats s ns (at ns i) → ⊥) → FirstBelow s ns i o → FirstBelow s ns (i + 1) o
  below_passed None p h = λ k l x. ⊎_elim (λ y. h k y x) (λ y. let z : k ≡ i = omega arith in p (subst (λ j. Repeats s ns (at ns j)) z x)) (cases_lt k i)
  below_passed (Some f) p h =
      (h.0, λ k l x. ⊎_elim (λ y. h.1 k y x) (λ y. let z : k ≡ i = omega arith in absurd (p (subst (λ j. Repeats s ns (at ns j)) z x))) (cases_lt k i))

-- no name more
pub below_all : (s : List ℕ) (ns : List Span) (i : ℕ) (o : Option Span) → length ns ≤ i → FirstBelow s ns i o → FirstRepeat s ns o
below_all s ns i None l h = λ n r. h r.there.0 (omega (arith, r.there.1)) (subst (Repeats s ns) (sym (r.there.2 _)) r)
below_all s ns i (Some m) l h =
    (h.0, λ n r. omega (arith, h.1 r.there.0 (omega (arith, r.there.1)) (subst (Repeats s ns) (sym (r.there.2 _)) r), ap (λ (w : Span). w.end) (r.there.2 (record { start = 0; end = 0 }))))
